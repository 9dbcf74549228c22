use Rattle.std.proofs.Common.{drop}
use Rattle.std.specs.Prelude.{Option}
use Rattle.kms_model.specs.Device.World.{thing_labelled}
use Rattle.kms_model.specs.Request.Lookups.{look_of}
use Rattle.kms_core.specs.declared.stores.looking.Stale.{Stale}
use Rattle.kms_core.specs.Decisions.{IsFirstStale}
use Rattle.kms_core.proofs.stores.looking.first_stale.Given as goal

-- what holds of the rest holds of all
abbrev pub invariant-loop-label : goal.invariant-loop-label
invariant-loop-label l =
    (found : Option Stale) → IsFirstStale (λ label. look_of (thing_labelled l.things.things label)) (drop l.label-index l.label-items) found
    → IsFirstStale (λ label. look_of (thing_labelled l.things.things label)) l.used found
