-- The script that a whole input spells, or its first fault.
use Rattle.std.specs.Prelude.{ℕ, ◌+◌, Bool, true, false, not, ◌&&◌, ◌||◌, ◌==◌, nat_lt, nat_le, List, [], ◌∷◌, ◌++◌, length, Option, Some}
use Rattle.std.specs.Prelude.{None, is_some, Result, Ok, Err, if◌then◌else◌, codes}
use Rattle.std.specs.List.{list_all}
use Rattle.std.specs.Str.{bytes_eq}
use Rattle.kms_model.specs.declared.objects.PlaneInfo.{PlaneInfo}
use Rattle.kms_model.specs.declared.objects.Topology.{Topology}
use Rattle.kms_model.specs.declared.scripts.Command.{Command}
use Rattle.kms_model.specs.declared.scripts.Script.{Script}
use Rattle.kms_model.specs.declared.scripts.Why.{Why}
use Rattle.kms_model.specs.declared.scripts.Why.TheVariants.{Bytes, Cut, Form, Label, Limit}
use Rattle.kms_model.specs.Script.CommandLines.{Names, command_read, is_over, or_form, unless, unmade, words_in}
use Rattle.kms_model.specs.Script.Grammar.{crtc_list, format_list, is_printable}
use Rattle.kms_model.specs.Script.InputLines.{Row, Fault, rows_of, input_limit}
use Rattle.kms_model.specs.Script.Words.{◌>>=◌, until, from, field_at, dec_at, end_at}

-- what the lines so far spell
pub record Draft : Type 0 where
  -- how many of the first two lines there were
  pub head : ℕ
  pub crtcs : ℕ
  pub planes : List PlaneInfo
  pub conns : List ℕ
  pub names : Names
  -- the commands of each client before the present one
  pub clients : List (List Command)
  -- whether there is a present client, and its commands
  pub has_client : Bool
  pub commands : List Command
  -- the bytes of the lines, their line feeds among them
  pub size : ℕ

-- what no line spells
abbrev pub blank_draft : Draft
blank_draft = record {
  head = 0;
  crtcs = 0;
  planes = [];
  conns = [];
  names = unmade 1 [];
  clients = [];
  has_client = false;
  commands = [];
  size = 0;
}

abbrev pub is_nil : {A : Type 0} → List A → Bool
is_nil [] = true
is_nil (x ∷ xs) = false

-- The device

-- from 1 to 4 CRTCs
unfoldable pub crtcs_at : List ℕ → Option ℕ
crtcs_at bytes = do
  n ← dec_at 4 bytes
  _ ← end_at n.1
  if n.0 == 0 then None else Some n.0

-- the value of the property `type` that a word stands for
abbrev pub plane_type : List ℕ → Option ℕ
plane_type word = if bytes_eq word (codes "overlay") then Some 0
    else (if bytes_eq word (codes "primary") then Some 1 else (if bytes_eq word (codes "cursor") then Some 2 else None))

-- `TYPE LIST FMTS`
unfoldable pub plane_fields : ℕ → List ℕ → Option PlaneInfo
plane_fields crtcs bytes = do
  t ← field_at bytes
  l ← field_at t.1
  f ← field_at l.1
  _ ← end_at f.1
  kind ← plane_type t.0
  mask ← crtc_list crtcs l.0
  formats ← format_list f.0
  Some (record { kind = kind; crtcs = mask; formats = formats })

-- `LIST`
unfoldable pub conn_at : ℕ → List ℕ → Option ℕ
conn_at crtcs bytes = do
  l ← field_at bytes
  _ ← end_at l.1
  crtc_list crtcs l.0

-- Lines, each after the lines before it

abbrev pub Lined : Type 0
Lined = Result Draft Why

-- the version that the first line tells, which is the profile of the device
abbrev pub version_read : List ℕ → Option ℕ
version_read text = if bytes_eq text (codes "kms 1") then Some 1 else (if bytes_eq text (codes "kms 2") then Some 2 else None)

unfoldable pub first_line : Draft → List ℕ → Lined
first_line d text = or_form (version_read text) (λ version. Ok (record d { head = 1; names = record d.names { profile = version } }))

unfoldable pub crtcs_line : Draft → List ℕ → Lined
crtcs_line d text =
    if bytes_eq (until 32 text) (codes "crtcs") then or_form (crtcs_at (from 32 text)) (λ n. Ok (record d { head = 2; crtcs = n }))
    else Err Form

-- before the first connector, at most 16 planes
unfoldable pub plane_line : Draft → List ℕ → Lined
plane_line d fields =
    or_form (plane_fields d.crtcs fields) (λ p.
    unless (not (is_nil d.conns)) Form
    (unless (nat_le 16 (length d.planes)) Limit
    (Ok (record d { planes = d.planes ++ p ∷ [] }))))

-- behind the planes and before the first client, at most 8 connectors
unfoldable pub conn_line : Draft → List ℕ → Lined
conn_line d fields =
    or_form (conn_at d.crtcs fields) (λ mask.
    unless (is_nil d.planes || d.has_client) Form
    (unless (nat_le 8 (length d.conns)) Limit
    (Ok (record d { conns = d.conns ++ mask ∷ [] }))))

-- the commands of the present client, if there is one
abbrev pub clients_of : Bool → List Command → List (List Command)
clients_of true commands = commands ∷ []
clients_of false commands = []

-- the commands of each client so far
abbrev pub clients_in : Draft → List (List Command)
clients_in d = d.clients ++ clients_of d.has_client d.commands

-- behind the connectors, at most 16 clients
unfoldable pub client_line : Draft → List ℕ → Lined
client_line d fields =
    or_form (end_at fields) (λ _.
    unless (is_nil d.conns) Form
    (unless (nat_le 16 (length (clients_in d))) Limit
    (Ok (record d { clients = clients_in d; has_client = true; commands = [] }))))

-- a command of the present client: at most 4096 of a client, 256 assignments of a request and 4096 labels in all
unfoldable pub command_line : Draft → List ℕ → Lined
command_line d text =
    or_form (command_read d.names text) (λ c.
    unless (not d.has_client) Form
    (unless c.1.is_twice Label
    (unless (is_over c.0 || (nat_le 4096 (length d.commands) || nat_lt 4096 c.1.made)) Limit
    (Ok (record d { names = c.1; commands = d.commands ++ c.0 ∷ [] })))))

-- a line behind the first two
unfoldable pub later_line : Draft → List ℕ → Lined
later_line d text =
    let keyword = until 32 text in let fields = from 32 text in
    if bytes_eq keyword (codes "plane") then plane_line d fields
    else (if bytes_eq keyword (codes "conn") then conn_line d fields
    else (if bytes_eq keyword (codes "client") then client_line d fields
    else command_line d text))

unfoldable pub script_line : Draft → List ℕ → Lined
script_line d text =
    if d.head == 0 then first_line d text
    else (if d.head == 1 then crtcs_line d text else later_line d text)

-- the most bytes of a script
abbrev pub script_limit : ℕ
script_limit = 1048576

-- some bytes more, where a script may have them
abbrev pub sized : ℕ → Lined → Lined
sized n (Ok d) = unless (nat_lt script_limit (d.size + n)) Limit (Ok (record d { size = d.size + n }))
sized n (Err why) = Err why

-- a line, or its first fault in the order Bytes, Cut, Form, Label, Limit
unfoldable pub line_after : Draft → Row → Lined
line_after d row =
    unless (not (list_all is_printable row.text)) Bytes
    (unless (not row.is_ended) Cut
    (sized (length row.text + 1) (script_line d row.text)))

-- Inputs

abbrev pub or_fault : {A : Type 0} → ℕ → Lined → (Draft → Result A Fault) → Result A Fault
or_fault line (Ok d) f = f d
or_fault line (Err why) f = Err (record { line = line; why = why })

-- where a line is demanded and none is there
abbrev pub missing_line : ℕ → Fault
missing_line line = record { line = line; why = Form }

-- Lines that follow lines. Where the input ends before the first connector, the fault is the number after the last
-- line.
unfoldable pub lines_after : Draft → ℕ → List Row → Result Draft Fault
lines_after d line [] = if is_nil d.conns then Err (missing_line line) else Ok d
lines_after d line (row ∷ rows) = or_fault line (line_after d row) (λ next. lines_after next (line + 1) rows)

abbrev pub topology_in : Draft → Topology
topology_in d = record { profile = d.names.profile; crtcs = d.crtcs; planes = d.planes; conns = d.conns }

abbrev pub script_in : Draft → Script
script_in d = record { version = d.names.profile; topology = topology_in d; names = words_in d.names; clients = clients_in d }

abbrev pub drafted : Result Draft Fault → Result Script Fault
drafted (Ok d) = Ok (script_in d)
drafted (Err fault) = Err fault

-- the script that the bytes spell, or their first fault; a fault at line 0 is of the input's size
unfoldable pub input : List ℕ → Result Script Fault
input bytes = if nat_lt input_limit (length bytes) then Err (record { line = 0; why = Limit })
    else drafted (lines_after blank_draft 1 (rows_of bytes))

-- Devices alone

-- a well-formed line of a connector, of a device with a number of CRTCs
abbrev pub is_conn_of : ℕ → Row → Bool
is_conn_of crtcs row = row.is_ended && (list_all is_printable row.text
    && (bytes_eq (until 32 row.text) (codes "conn") && is_some (conn_at crtcs (from 32 row.text))))

-- the device is whole before a line
abbrev pub is_done : Draft → Row → Bool
is_done d row = not (is_nil d.conns) && not (is_conn_of d.crtcs row)

-- The device that lines spell up to the last connector in a row, and the place behind that line, where lines before
-- have so many bytes.
unfoldable pub device_after : Draft → ℕ → List Row → Result (Topology × ℕ) Fault
device_after d line [] = if is_nil d.conns then Err (missing_line line) else Ok (topology_in d, d.size)
device_after d line (row ∷ rows) = if is_done d row then Ok (topology_in d, d.size)
    else or_fault line (line_after d row) (λ next. device_after next (line + 1) rows)

-- the device at the front of an input, and the place behind it, or the first fault
abbrev pub device_of : List ℕ → Result (Topology × ℕ) Fault
device_of bytes = device_after blank_draft 1 (rows_of bytes)
