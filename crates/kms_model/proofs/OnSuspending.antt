-- What a proof unfolds to compute what a script becomes whose device is turned off and brought back.
use Rattle.std.specs.Prelude.{⊤}
use Rattle.kms_model.specs.Order.Suspending.{off_request, on_request, open_label, open_mode_label, closed_object}
use Rattle.kms_model.specs.Script.FewerCommands.{lines_within, input_within}
use Rattle.kms_model.proofs.OnMachines.{on_machines}

-- the words of a device that is turned off and brought back
unfoldable pub on_suspending : ⊤
unfolding on_machines off_request on_request open_label open_mode_label closed_object lines_within input_within
on_suspending = tt
