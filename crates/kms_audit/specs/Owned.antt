-- Whose the commits of a journal are.
use Rattle.std.specs.Prelude.{◌≡◌, ℕ, List, map, reverse}
use Rattle.kms_audit.specs.declared.owners.Owner.{Owner}
use Rattle.kms_model.specs.declared.scripts.Request.{Request}
use Rattle.kms_model.specs.declared.scripts.Script.{Script}
use Rattle.kms_model.specs.Device.Serial.{Entry}
use Rattle.kms_model.specs.Machine.State.{Commit}
use Rattle.kms_model.specs.Report.RightAnswers.{commits_of}
use Rattle.kms_model.specs.Request.Flags.{wants_event}

-- whose a request is
abbrev pub owner : ℕ → Request → Owner
owner client r = record { client = client; wants_event = wants_event r.flags; user_data = r.user_data }

abbrev pub owner_of : Commit → Owner
owner_of c = owner c.client c.request

-- those of a journal's commits, by their numbers
abbrev pub AreOwners : Script → List Entry → List Owner → Type 0
AreOwners s journal owners = owners ≡ map owner_of (reverse (commits_of s journal))
