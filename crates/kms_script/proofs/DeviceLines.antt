-- The lines of a device: no client begins before the device is whole.
use Rattle.std.proofs.Common.{◌≡◌, ℕ, ◌+◌, ◌⊎◌, inl, inr, Bool, true, false, List, [], ◌∷◌, length, Ok, Err, refl, sym, ap, ◌∙◌, arith}
use Rattle.std.specs.Prelude.{not, ◌&&◌, codes, is_some}
use Rattle.std.specs.List.{list_all}
use Rattle.std.specs.Str.{bytes_eq}
use Rattle.kms_model.specs.Script.Grammar.{is_printable}
use Rattle.kms_model.specs.Script.InputLines.{Row, rows_of}
use Rattle.kms_model.specs.Script.Words.{until, from}
use Rattle.kms_model.specs.Script.WholeInput.{Draft, is_nil, conn_at, is_done, is_conn_of, script_line, line_after, device_after}
use Rattle.kms_model.specs.Script.WholeInput.{topology_in, missing_line}
use Rattle.kms_script.specs.declared.stop.Stop.{Stop}
use Rattle.kms_script.specs.declared.stop.Stop.TheVariants as stops
use Rattle.kms_script.specs.Drafted.{Becomes, error_at}
use Rattle.kms_script.specs.Stated.{GivesDevice}
use Rattle.kms_script.proofs.WithinLimit.{row_parts}
use Rattle.kms_script.proofs.EachLine.{line_each}
use Rattle.kms_script.proofs.SpeltWords.{found}
use Rattle.std.proofs.lemmas.Bool.{false≢true}

abbrev keyword : List ℕ → List ℕ
keyword text = until 32 text

-- the line is none of a client, or the device lacks connectors
script_keeps : (d next : Draft) (text : List ℕ) → d.has_client ≡ false
    → (is_nil d.conns ≡ true) ⊎ (bytes_eq (keyword text) (codes "conn") ≡ true) → script_line d text ≡ Ok next → next.has_client ≡ false
script_keeps d next text none why = line_each d text (λ m. m.has_client ≡ false) (record {
  first = λ zeroth version read. none;
  crtcs = λ first is n read. none;
  plane = λ late is p read nil. none;
  conn = λ late is mask read off. none;
  client = λ late is end some. absurd (no_client_line is some why);
  command = λ late c names read has few. absurd (false≢true (sym none ∙ has));
}) next
  where
    no_client_line : bytes_eq (keyword text) (codes "client") ≡ true → is_nil d.conns ≡ false
        → (is_nil d.conns ≡ true) ⊎ (bytes_eq (keyword text) (codes "conn") ≡ true) → ⊥
    no_client_line is some (inl nil) = false≢true (sym some ∙ nil)
    no_client_line is some (inr conn) =
        let word : keyword text ≡ codes "conn" = found (keyword text) (codes "conn") conn in
        let clash : false ≡ true = rw word at is in false≢true clash

last_of : (a b c e : Bool) → (a && (b && (c && e))) ≡ true → c ≡ true
last_of true true true e h = refl
last_of true true false e h = h
last_of true false c e h = absurd cc
last_of false b c e h = absurd cc

not_done : (nil conn : Bool) → (not nil && not conn) ≡ false → (nil ≡ true) ⊎ (conn ≡ true)
not_done true conn h = inl refl
not_done false true h = inr refl
not_done false false h = absurd cc

why_kept : (d : Draft) (row : Row) → (is_nil d.conns ≡ true) ⊎ (is_conn_of d.crtcs row ≡ true)
    → (is_nil d.conns ≡ true) ⊎ (bytes_eq (keyword row.text) (codes "conn") ≡ true)
why_kept d row (inl nil) = inl nil
why_kept d row (inr conn) = inr (last_of row.is_ended (list_all is_printable row.text) (bytes_eq (keyword row.text) (codes "conn"))
    (is_some (conn_at d.crtcs (from 32 row.text))) conn)

-- no client begins with a line before the device is whole
pub no_client : (d next : Draft) (row : Row) → is_done d row ≡ false → d.has_client ≡ false → line_after d row ≡ Ok next
    → next.has_client ≡ false
no_client d next row some none e =
    let r = row_parts d next row e in
    ap (λ (y : Draft). y.has_client) (sym r.counts)
    ∙ script_keeps d r.made row.text none (why_kept d row (not_done (is_nil d.conns) (is_conn_of d.crtcs row) some)) r.is

-- One line more

pub next_device_line : (d next : Draft) (n : ℕ) (row : Row) (rows : List Row) → is_done d row ≡ false → line_after d row ≡ Ok next
    → device_after d n (row ∷ rows) ≡ device_after next (n + 1) rows
unfolding device_after
next_device_line d next n row rows some e = rw (some, e) refl

pub device_is_done : (d : Draft) (n : ℕ) (row : Row) (rows : List Row) → is_done d row ≡ true
    → device_after d n (row ∷ rows) ≡ Ok (topology_in d, d.size)
unfolding device_after
device_is_done d n row rows done = rw done refl

pub device_stopped : (d after : Draft) (n : ℕ) (row : Row) (rows : List Row) (stop : Stop) → is_done d row ≡ false
    → Becomes (Err stop) (line_after d row) after → GivesDevice (Err (error_at n stop)) (device_after d n (row ∷ rows))
unfolding device_after
device_stopped d after n row rows (stops.Fault why) some e = rw (some, e) refl
device_stopped d after n row rows stops.NoMemory some e = tt

pub device_ended_early : (d : Draft) (n : ℕ) (rest : List ℕ) → length rest ≡ 0 → is_nil d.conns ≡ true
    → device_after d n (rows_of rest) ≡ Err (missing_line n)
unfolding device_after rows_of
device_ended_early d n [] e none = rw none refl
device_ended_early d n (b ∷ bs) e none = absurd (omega arith)

pub device_ended_well : (d : Draft) (n : ℕ) (rest : List ℕ) → length rest ≡ 0 → is_nil d.conns ≡ false
    → device_after d n (rows_of rest) ≡ Ok (topology_in d, d.size)
unfolding device_after rows_of
device_ended_well d n [] e some = rw some refl
device_ended_well d n (b ∷ bs) e some = absurd (omega arith)
