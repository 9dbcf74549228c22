-- What answers tell, in the short form of tests.
use Rattle.std.specs.Prelude.{Option, Some, None}
use Rattle.kms_core.specs.declared.calls.contexts.Locked.{Locked}
use Rattle.kms_core.specs.declared.calls.contexts.Locked.TheVariants as locked
use Rattle.kms_thread_tests.specs.declared.pass_calls.calling.Told.{Told}
use Rattle.kms_thread_tests.specs.declared.pass_calls.calling.Told.TheVariants as told

-- what the answer to a lock tells, without the state of the object; nothing where there is none
abbrev pub told_of_lock : Option Locked → Told
told_of_lock None = told.Nothing
told_of_lock (Some (locked.Got state)) = told.Got
told_of_lock (Some (locked.Own state)) = told.Own
told_of_lock (Some (locked.Older holder)) = told.Older holder
told_of_lock (Some (locked.Younger holder)) = told.Younger holder
told_of_lock (Some (locked.Held holder)) = told.Held holder
