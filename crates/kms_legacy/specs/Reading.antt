-- What the reader has read so far of a script with older calls, as the definitions see it.
use Rattle.std.specs.Prelude.{◌≡◌, ◌≤◌, ◌+◌, ◌*◌, ◌||◌, nat_le, nat_lt, ℕ, Bool, true, false, List, [], ◌∷◌, drop, length, Result, Ok, Err}
use Rattle.std.specs.Prelude.{⊤}
use Rattle.kms_model.specs.declared.legacy.LegacyScript.{LegacyScript}
use Rattle.kms_model.specs.declared.objects.Topology.{Topology}
use Rattle.kms_model.specs.Legacy.LegacyLines.{LegacyDraft, LegacyLined, blank_legacy_draft, legacy_lines_after}
use Rattle.kms_model.specs.Script.CommandLines.{unmade}
use Rattle.kms_model.specs.Script.InputLines.{Row, rows_of}
use Rattle.kms_model.specs.Script.WholeInput.{Draft, is_conn_of, is_nil, script_limit}
use Rattle.kms_words.specs.Named.{NamesGrow}
use Rattle.kms_script.specs.declared.stop.Stop.{Stop}
use Rattle.kms_script.specs.declared.stop.Stop.TheVariants as stops
use Rattle.kms_legacy.specs.declared.reading.Lines.{Lines}

-- the lines of a device, in so many bytes, with the line `client` behind them or without it
abbrev pub device_part : Topology → Bool → ℕ → Draft
device_part t has_client size = record {
  head = 2;
  crtcs = t.crtcs;
  planes = t.planes;
  conns = t.conns;
  names = unmade t.profile [];
  clients = [];
  has_client = has_client;
  commands = [];
  size = size;
}

abbrev pub device_draft : Topology → Bool → ℕ → LegacyDraft
device_draft t has_client size = record { draft = device_part t has_client size; commands = [] }

-- the lines of a device, of its client, and of commands behind that
abbrev pub lines_in : Lines → LegacyDraft
lines_in h = record { draft = record (device_part h.topology true h.size) { names = h.names.names }; commands = h.commands }

-- What stands between two lines of the client: each byte of the lines brings at most two names, and no label is made twice.
pub record AreSoundLines (h : Lines) : Type 0 where
  pub profile : h.topology.profile ≡ h.names.names.profile
  pub size : h.size ≤ script_limit
  pub all : length h.names.names.all ≤ 2 * h.size
  pub made : h.names.names.made ≤ 2 * h.size
  pub once : h.names.names.is_twice ≡ false
  pub few : length h.commands ≤ 4096

-- a line brings at most so many names, and makes no label again; the bytes are not counted yet
pub record KeepsLines (old new : Lines) (more : ℕ) : Type 0 where
  pub topology : new.topology ≡ old.topology
  pub profile : new.names.names.profile ≡ old.names.names.profile
  pub size : new.size ≡ old.size
  pub few : length new.commands ≤ 4096
  pub names : NamesGrow old.names.names new.names.names more
  pub once : new.names.names.is_twice ≡ false

-- with a command more the client has too many, or the script makes too many labels
abbrev pub is_full : Lines → Bool
is_full h = nat_le 4096 (length h.commands) || nat_lt 4096 h.names.names.made

-- The answer to a line: what is read after it, or its fault; want of memory may come anywhere.
abbrev pub Becomes : Result (Unit {0}) Stop → LegacyLined → LegacyDraft → Type 0
Becomes (Ok _) stated after = stated ≡ Ok after
Becomes (Err (stops.Fault why)) stated after = stated ≡ Err why
Becomes (Err stops.NoMemory) stated after = ⊤

-- The answer to the line `client`: how many bytes there are with it, or its fault.
abbrev pub BeginsClient : Topology → Result ℕ Stop → LegacyLined → Type 0
BeginsClient t (Ok size) stated = stated ≡ Ok (device_draft t true size)
BeginsClient t (Err (stops.Fault why)) stated = stated ≡ Err why
BeginsClient t (Err stops.NoMemory) stated = ⊤

-- a script is of this device, and has not too many commands
pub record IsOfDevice (t : Topology) (s : LegacyScript) : Type 0 where
  pub topology : s.base.topology ≡ t
  pub few : length s.commands ≤ 4096

-- the number of the line behind a device's lines
abbrev pub line_behind : Topology → ℕ
line_behind t = 3 + length t.planes + length t.conns

-- no first one of these lines is that of a connector
abbrev pub BeginsWithoutConn : ℕ → List Row → Type 0
BeginsWithoutConn crtcs [] = ⊤
BeginsWithoutConn crtcs (row ∷ rows) = is_conn_of crtcs row ≡ false

-- An input has a device at its front, up to a place: it is read on from there.
pub record HasDevice (bytes : List ℕ) (t : Topology) (place : ℕ) : Type 0 where
  pub within : place ≤ length bytes
  pub size : place ≤ script_limit
  pub planes : length t.planes ≤ 16
  pub conns : length t.conns ≤ 8
  pub some : is_nil t.conns ≡ false
  pub next : BeginsWithoutConn t.crtcs (rows_of (drop place bytes))
  pub read : legacy_lines_after blank_legacy_draft 1 (rows_of bytes)
      ≡ legacy_lines_after (device_draft t false place) (line_behind t) (rows_of (drop place bytes))
