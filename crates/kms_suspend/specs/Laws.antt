-- What holds of scripts whose device is turned off and brought back.
use Rattle.std.specs.Prelude.{◌≡◌, true, List, None}
use Rattle.kms_model.specs.declared.replies.Step.{Step}
use Rattle.kms_model.specs.declared.scripts.Script.{Script}
use Rattle.kms_model.specs.Machine.Histories.{is_history}
use Rattle.kms_model.specs.Order.Suspending.{closed_object}
use Rattle.kms_model.specs.Script.Longer.{HasRoomForTwo, extended_after, world_after}
use Rattle.kms_model.specs.Script.WellFormed.{IsWellFormed}

-- A script with room for two commands is one with both requests too, which are made behind any history of it where nothing that
-- its device shows is closed.
abbrev pub LongerIsWellFormed : Type 0
LongerIsWellFormed =
    (s : Script) (h : List Step) → IsWellFormed s → HasRoomForTwo s → is_history s h ≡ true
    → closed_object s.topology (world_after s h) ≡ None → IsWellFormed (extended_after s h)
