use Rattle.std.proofs.Common.{◌≡◌, drop}
use Rattle.kms_model.specs.Request.Sets.{look_in}
use Rattle.kms_request.proofs.lookups.LookupsLooker.look.Given as goal

-- what the entries that are left say is what all say
abbrev pub invariant-loop-known : goal.invariant-loop-known
invariant-loop-known l = look_in (drop l.known-index l.known-items) l.label ≡ look_in l.self l.label
