use Rattle.std.proofs.Common.{◌≡◌, ◌++◌, drop}
use Rattle.kms_core.specs.Decisions.{labels_of, looks_at}
use Rattle.kms_core.proofs.stores.looking.look_ups.Given as goal

-- what was found, and what the rest names, are what all name
abbrev pub invariant-loop-a : goal.invariant-loop-a
invariant-loop-a l = l.found ++ looks_at l.things.things (labels_of (drop l.a-index l.assigns))
    ≡ looks_at l.things.things (labels_of l.assigns)
