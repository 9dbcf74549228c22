-- The walk over a journal: what is kept of the entries so far.
use Rattle.std.specs.Prelude.{◌≡◌, ◌≤◌, ℕ, ◌+◌, ◌-◌, ◌*◌, Bool, true, nat_lt, List, [], ◌∷◌, ◌++◌, length, take, filter, ◌==◌, Option, Some}
use Rattle.std.specs.Prelude.{None, slice_get, slice_index_or}
use Rattle.std.specs.List.{last_or}
use Rattle.std.specs.Option.{option_map_or}
use Rattle.kms_audit.specs.declared.walk.Walk.{Walk}
use Rattle.kms_audit.specs.Compared.{AreCompared}
use Rattle.kms_audit.specs.Framed.{AreAllKept}
use Rattle.kms_audit.specs.Judged.{IsAt}
use Rattle.kms_audit.specs.Latching.{AreTracks, AreWithin, ShowsAll}
use Rattle.kms_audit.specs.Owned.{AreOwners, owner}
use Rattle.kms_audit.specs.Touching.{is_touched_in, last_in, noted}
use Rattle.kms_model.specs.declared.reports.Report.{Report}
use Rattle.kms_model.specs.declared.scripts.Command.{Command}
use Rattle.kms_model.specs.declared.scripts.Command.TheVariants as command
use Rattle.kms_model.specs.declared.scripts.Request.{Request}
use Rattle.kms_model.specs.declared.scripts.Script.{Script}
use Rattle.kms_model.specs.declared.worlds.World.{World}
use Rattle.kms_model.specs.Device.Execution.{execute}
use Rattle.kms_model.specs.Device.Serial.{Entry}
use Rattle.kms_model.specs.Report.RightAnswers.{commits_of, entries_in, entry_is_right, first_off, is_entered_in}
use Rattle.kms_model.specs.Request.Touched.{named_by, touched_by}
use Rattle.kms_serial.specs.Commands.{Grows, HasRoom}

-- the number of the last entry of a client
abbrev pub last_number : List Entry → ℕ → Option ℕ
last_number journal client = option_map_or (λ e. Some e.command) (last_or None (filter (λ e. e.client == client) journal)) None

-- a command's number is above that of the last entry of its client, if any
abbrev pub is_above_last : Option ℕ → ℕ → Bool
is_above_last None number = true
is_above_last (Some last) number = nat_lt last number

-- so many entries have made few things and commits
pub record IsSmall (place : ℕ) (w : World) : Type 0 where
  pub ids : w.next_id ≤ 1000 + 4 * place
  pub commits : w.commits ≤ place

-- each commit of a journal is counted
abbrev pub AreCounted : Script → List Entry → World → Type 0
AreCounted s journal w = w.commits ≡ length (commits_of s journal)

-- What is kept of the first entries, so many, each of them right. All is told by the list of these entries, but how far R lines
-- are compared.
pub record IsKeptAt (s : Script) (r : Report) (place : ℕ) (w : Walk) : Type 0 where
  pub within : place ≤ length (entries_in r)
  pub right : first_off (entry_is_right s) [] (take place (entries_in r)) ≡ None
  pub at : IsAt s r place w.serial w.touches
  pub small : IsSmall place w.serial.world
  pub counted : AreCounted s (take place (entries_in r)) w.serial.world
  pub size : length w.highest ≡ 16
  pub highest : (client : ℕ) → 1 ≤ client → client ≤ 16
      → slice_index_or w.highest (client - 1) None ≡ last_number (take place (entries_in r)) client
  pub owners : AreOwners s (take place (entries_in r)) w.owners
  pub tracks : AreTracks s r (take place (entries_in r)) w.showing
  pub lines : AreWithin (length r.latches) w.showing
  pub kept : AreAllKept w.serial.world.things w.showing

-- before the R lines of a place are compared, and behind that
pub record IsWalk (s : Script) (r : Report) (place : ℕ) (w : Walk) : Type 0 where
  pub kept : IsKeptAt s r place w
  pub compared : AreCompared s r place w.compared

pub record IsComparedWalk (s : Script) (r : Report) (place : ℕ) (w : Walk) : Type 0 where
  pub kept : IsKeptAt s r place w
  pub compared : AreCompared s r (place + 1) w.compared

-- behind the entry at a place, which may be right
pub record IsNextWalk (s : Script) (r : Report) (place : ℕ) (w : Walk) (right : Bool) : Type 0 where
  pub entry : Entry
  pub is_entry : slice_get (entries_in r) place ≡ Some entry
  pub is_right : right ≡ entry_is_right s (take place (entries_in r)) entry
  pub walk : right ≡ true → IsWalk s r (place + 1) w

-- behind the whole journal
pub record IsWalked (s : Script) (r : Report) (w : Walk) : Type 0 where
  pub kept : IsKeptAt s r (length (entries_in r)) w
  pub compared : AreCompared s r (length (entries_in r) + 1) w.compared

-- One entry

-- what a command asks for that may be an entry
pub record CanEnter (r : Report) (w : Walk) : Type 0 where
  pub room : HasRoom w.serial.world
  pub crtcs : w.serial.topology.crtcs ≤ 4
  pub lines : AreWithin (length r.latches) w.showing
  pub kept : AreAllKept w.serial.world.things w.showing

-- what is noted of a command that was accepted: of a request all that its commit names and touches, of any other nothing
pub record NotesCommit (r : Report) (client : ℕ) (q : Request) (old new : Walk) : Type 0 where
  pub touches : (object : ℕ) → last_in new.touches object
      ≡ noted (last_in old.touches object)
      (is_touched_in (touched_by old.serial.topology old.serial.world q) object) old.serial.world.commits
  pub owners : new.owners ≡ old.owners ++ owner client q ∷ []
  pub tracks : ShowsAll r.latches new.serial (named_by old.serial.topology old.serial.world q) old.serial.world.commits
      old.showing.tracks new.showing.tracks
  pub lines : AreWithin (length r.latches) new.showing
  pub kept : AreAllKept new.serial.world.things new.showing

pub record NotesNothing (old new : Walk) : Type 0 where
  pub touches : new.touches ≡ old.touches
  pub owners : new.owners ≡ old.owners
  pub showing : new.showing ≡ old.showing

abbrev pub IsNoted : Report → ℕ → Command → Walk → Walk → Type 0
IsNoted r client (command.Atomic q) old new = NotesCommit r client q old new
IsNoted r client _ old new = NotesNothing old new

-- A command was accepted, or not; where it was, the device has executed it, its commit, if it is one, is noted, and R lines are
-- compared as far as before. The tables' own clauses tell the rest.
pub record IsEntered (r : Report) (client : ℕ) (c : Command) (old new : Walk) (entered : Bool) : Type 0 where
  pub is_entered : entered ≡ is_entered_in old.serial.topology old.serial.world client (Some c)
  pub world : entered ≡ true → new.serial.world ≡ (execute old.serial.topology old.serial.world client c).world
  pub topology : new.serial.topology ≡ old.serial.topology
  pub grows : entered ≡ true → Grows old.serial.world new.serial.world
  pub highest : new.highest ≡ old.highest
  pub compared : new.compared ≡ old.compared
  pub entry : entered ≡ true → IsNoted r client c old new
