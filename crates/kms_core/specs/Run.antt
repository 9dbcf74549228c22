-- What contracts see of a core: its script and its history.
use Rattle.std.specs.Prelude.{List, [], ◌++◌, Result, Ok, Err}
use Rattle.kms_model.specs.declared.replies.Step.{Step}
use Rattle.kms_model.specs.declared.scripts.Script.{Script}
use Rattle.kms_model.specs.Machine.Histories.{at}
use Rattle.kms_model.specs.Machine.State.{Machine}

pub record Run : Type 0 where
  pub script : Script
  pub steps : List Step

-- the machine after the history
abbrev pub machine : Run → Machine
machine r = at r.script r.steps

-- the history goes on by steps
abbrev pub gains : Run → List Step → Run
gains r steps = record r { steps = r.steps ++ steps }

-- the steps of a call that succeeds, and none of one that finds no memory
abbrev pub if_ok : {A E : Type 0} → Result A E → (A → List Step) → List Step
if_ok (Ok a) steps = steps a
if_ok (Err e) steps = []
