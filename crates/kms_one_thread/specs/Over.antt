-- How a history ended.
use Rattle.std.specs.Prelude.{Bool, true, false}
use Rattle.kms_model.specs.declared.scripts.Script.{Script}
use Rattle.kms_model.specs.Machine.Histories.{is_dead, is_drained}
use Rattle.kms_model.specs.Machine.State.{Machine}
use Rattle.kms_one_thread.specs.declared.ending.End.{End}
use Rattle.kms_one_thread.specs.declared.ending.End.TheVariants.{Drained, Dead, Open}

-- no history is both
abbrev pub end_by : (drained dead : Bool) → End
end_by true dead = Drained
end_by false true = Dead
end_by false false = Open

abbrev pub end_of : Script → Machine → End
end_of s m = end_by (is_drained s m) (is_dead s m)
