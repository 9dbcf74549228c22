-- What the reader has read so far, as the definitions see it.
use Rattle.std.specs.Prelude.{◌≡◌, ◌≤◌, ◌+◌, ◌*◌, ℕ, List, [], length, Result, Ok, Err, ⊤, false, Bool, ◌||◌, nat_le, nat_lt, true}
use Rattle.kms_model.specs.Script.InputLines.{Row}
use Rattle.kms_model.specs.Script.WholeInput.{Draft, Lined, clients_in}
use Rattle.kms_words.specs.Fitting.{IsFitDevice, HasFitClients}
use Rattle.kms_words.specs.Named.{HasRoomForNames, NamesGrow}
use Rattle.kms_script.specs.declared.draft.Draft.{Draft as Held}
use Rattle.kms_script.specs.declared.faults.ParseError.{ParseError}
use Rattle.kms_script.specs.declared.faults.ParseError.TheVariants as errors
use Rattle.kms_script.specs.declared.rows.Row.{Row as Seen}
use Rattle.kms_script.specs.declared.stop.Stop.{Stop}
use Rattle.kms_script.specs.declared.stop.Stop.TheVariants as stops

abbrev pub draft_in : Held → Draft
draft_in h = record {
  head = h.head;
  crtcs = h.crtcs;
  planes = h.planes;
  conns = h.conns;
  names = h.names.names;
  clients = h.clients;
  has_client = h.has_client;
  commands = h.commands;
  size = h.size;
}

abbrev pub row_in : Seen → Row
row_in r = record { text = r.text.now; is_ended = r.is_ended }

-- what stands between two lines: the limits are kept, each byte of the lines brings at most two names, and no label is made
-- twice
pub record IsSoundDraft (d : Draft) : Type 0 where
  pub device : IsFitDevice d
  pub clients : HasFitClients d
  pub size : d.size ≤ 1048576
  pub all : length d.names.all ≤ 2 * d.size
  pub made : d.names.made ≤ 2 * d.size
  pub once : d.names.is_twice ≡ false

-- the names of a command's line have numbers
abbrev pub HasRoomFor : Draft → List ℕ → Type 0
HasRoomFor d text = d.has_client ≡ true → HasRoomForNames d.names (length text + 2)

-- a line keeps the limits, brings at most so many names, and makes no label again
pub record StaysWithinLimits (old new : Draft) (more : ℕ) : Type 0 where
  pub device : IsFitDevice new
  pub clients : HasFitClients new
  pub size : new.size ≡ old.size
  pub names : NamesGrow old.names new.names more
  pub once : new.names.is_twice ≡ false

-- The answer to a line: what is read after it, or its fault; want of memory may come anywhere.
abbrev pub Becomes : Result (Unit {0}) Stop → Lined → Draft → Type 0
Becomes (Ok _) stated after = stated ≡ Ok after
Becomes (Err (stops.Fault why)) stated after = stated ≡ Err why
Becomes (Err stops.NoMemory) stated after = ⊤

-- the error of reading that stops at a line
abbrev pub error_at : ℕ → Stop → ParseError
error_at line (stops.Fault why) = errors.Fault line why
error_at line stops.NoMemory = errors.NoMemory

-- what is read after the present client ends
abbrev pub ended : Draft → Draft
ended d = record d { clients = clients_in d; has_client = false; commands = [] }

-- with a command more a client has too many, or the script makes too many labels
abbrev pub is_full : Draft → Bool
is_full d = nat_le 4096 (length d.commands) || nat_lt 4096 d.names.made
