-- What stands between two lines of a device, and behind them.
use Rattle.std.proofs.Common.{◌≡◌, ℕ, ◌+◌, ◌≤◌, ◌⊎◌, inl, inr, Bool, true, false, List, [], ◌∷◌, ◌++◌, length, length-append, Ok, Err, refl}
use Rattle.std.proofs.Common.{sym, ap, subst, ◌∙◌, arith}
use Rattle.std.specs.Prelude.{◌&&◌, ◌||◌, ◌==◌, codes, is_some, not, nat_le, nat_lt}
use Rattle.std.specs.List.{list_all}
use Rattle.std.specs.Str.{bytes_eq}
use Rattle.std.proofs.lemmas.Bool.{eqb-true, false≢true}
use Rattle.std.proofs.lemmas.Bool.Decides.{nat_tests}
use Rattle.kms_model.specs.declared.scripts.Why.TheVariants.{Bytes, Cut, Form, Limit}
use Rattle.kms_model.specs.Script.CommandLines.{Names, command_read, unmade}
use Rattle.kms_model.specs.Script.Grammar.{is_printable}
use Rattle.kms_model.specs.Script.InputLines.{Row}
use Rattle.kms_model.specs.Script.WholeInput.{Draft, Lined, blank_draft, client_line, command_line, conn_at, conn_line, crtcs_at}
use Rattle.kms_model.specs.Script.WholeInput.{crtcs_line, first_line, is_conn_of, is_done, is_nil, later_line, line_after, plane_fields}
use Rattle.kms_model.specs.Script.WholeInput.{plane_line, script_limit, script_line, sized, topology_in, version_read}
use Rattle.kms_model.specs.Script.Words.{end_at, from, until}
use Rattle.kms_script.proofs.Accepted.{accepted, either_ok, form_ok, if_ok, ok_same, on_from, unless_ok}
use Rattle.kms_script.proofs.Sizes.{line_same, relined, resized}
use Rattle.kms_legacy.specs.Reading.{device_part}

-- a draft of the first lines of a device, where the next line has a number
pub record IsEarly (d : Draft) (n : ℕ) : Type 0 where
  pub alone : d.has_client ≡ false
  pub clients : d.clients ≡ []
  pub commands : d.commands ≡ []
  pub names : d.names ≡ unmade d.names.profile []
  pub head : is_nil d.conns ≡ false → d.head ≡ 2
  pub planes : length d.planes ≤ 16
  pub conns : length d.conns ≤ 8
  pub number : n ≡ 1 + d.head + length d.planes + length d.conns
  pub low : d.head ≤ 2
  pub size : d.size ≤ script_limit

pub blank_early : IsEarly blank_draft 1
blank_early = record {
  alone = refl;
  clients = refl;
  commands = refl;
  names = refl;
  head = λ some. absurd cc;
  planes = omega arith;
  conns = omega arith;
  number = refl;
  low = omega arith;
  size = omega arith;
}

-- a whole device's draft is made of the device
pub early_is : (d : Draft) (n : ℕ) → IsEarly d n → is_nil d.conns ≡ false → d ≡ device_part (topology_in d) false d.size
early_is d n e some =
    ap (λ h. record d { head = h }) (e.head some)
    ∙ (ap (λ names. record d { head = 2; names = names }) e.names
    ∙ (ap (λ clients. record d { head = 2; names = unmade d.names.profile []; clients = clients }) e.clients
    ∙ (ap (λ has. record d { head = 2; names = unmade d.names.profile []; clients = []; has_client = has }) e.alone
    ∙ ap (λ commands. record d { head = 2; names = unmade d.names.profile []; clients = []; has_client = false; commands = commands })
    e.commands)))

pub early_number : (d : Draft) (n : ℕ) → IsEarly d n → is_nil d.conns ≡ false → n ≡ 3 + length d.planes + length d.conns
early_number d n e some = omega (arith, e.number, e.head some)

-- Lines

no_conns : (d : Draft) (n : ℕ) → IsEarly d n → (d.head == 2) ≡ false → is_nil d.conns ≡ true
no_conns d n e early = by_nil (is_nil d.conns) refl
  where
    by_nil : (t : Bool) → is_nil d.conns ≡ t → t ≡ true
    by_nil true is = refl
    by_nil false is = absurd (false≢true (sym early ∙ ap (λ h. h == 2) (e.head is)))

first_early : (d next : Draft) (n : ℕ) (text : List ℕ) → IsEarly d n → d.head ≡ 0 → first_line d text ≡ Ok next → IsEarly next (n + 1)
unfolding first_line
first_early d next n text e zeroth is =
    let version = form_ok (version_read text) _ next is in
    let none : is_nil d.conns ≡ true = no_conns d n e (ap (λ h. h == 2) zeroth) in
    subst (λ (x : Draft). IsEarly x (n + 1))
    (ok_same (record d { head = 1; names = record d.names { profile = version.value } }) next version.then) (record {
      alone = e.alone;
      clients = e.clients;
      commands = e.commands;
      names = ap (λ (names : Names). record names { profile = version.value }) e.names;
      head = λ some. absurd (false≢true (sym some ∙ none));
      planes = e.planes;
      conns = e.conns;
      number = omega (arith, e.number, zeroth);
      low = omega arith;
      size = e.size;
    })

crtcs_early : (d next : Draft) (n : ℕ) (text : List ℕ) → IsEarly d n → d.head ≡ 1 → crtcs_line d text ≡ Ok next → IsEarly next (n + 1)
unfolding crtcs_line
crtcs_early d next n text e first is =
    let key = if_ok (bytes_eq (until 32 text) (codes "crtcs")) Form _ next is in
    let count = form_ok (crtcs_at (from 32 text)) _ next key.1 in
    subst (λ (x : Draft). IsEarly x (n + 1)) (ok_same (record d { head = 2; crtcs = count.value }) next count.then) (record {
      alone = e.alone;
      clients = e.clients;
      commands = e.commands;
      names = e.names;
      head = λ some. refl;
      planes = e.planes;
      conns = e.conns;
      number = omega (arith, e.number, first);
      low = omega arith;
      size = e.size;
    })

not_full : (n most : ℕ) → nat_le most n ≡ false → n + 1 ≤ most
not_full n most e = grind (arith, nat_tests)

plane_early : (d next : Draft) (n : ℕ) (fields : List ℕ) → IsEarly d n → plane_line d fields ≡ Ok next → IsEarly next (n + 1)
unfolding plane_line
plane_early d next n fields e is =
    let p = form_ok (plane_fields d.crtcs fields) _ next is in
    let form = unless_ok (not (is_nil d.conns)) Form _ next p.then in
    let limit = unless_ok (nat_le 16 (length d.planes)) Limit _ next form.1 in
    let more : length (d.planes ++ p.value ∷ []) ≡ length d.planes + 1 = length-append d.planes (p.value ∷ []) in
    subst (λ (x : Draft). IsEarly x (n + 1)) (ok_same (record d { planes = d.planes ++ p.value ∷ [] }) next limit.1) (record {
      alone = e.alone;
      clients = e.clients;
      commands = e.commands;
      names = e.names;
      head = e.head;
      planes = omega (arith, more, not_full (length d.planes) 16 limit.0);
      conns = e.conns;
      number = omega (arith, e.number, more);
      low = e.low;
      size = e.size;
    })

conn_early : (d next : Draft) (n : ℕ) (fields : List ℕ) → IsEarly d n → d.head ≡ 2 → conn_line d fields ≡ Ok next → IsEarly next (n + 1)
unfolding conn_line
conn_early d next n fields e late is =
    let mask = form_ok (conn_at d.crtcs fields) _ next is in
    let form = unless_ok (is_nil d.planes || d.has_client) Form _ next mask.then in
    let limit = unless_ok (nat_le 8 (length d.conns)) Limit _ next form.1 in
    let more : length (d.conns ++ mask.value ∷ []) ≡ length d.conns + 1 = length-append d.conns (mask.value ∷ []) in
    subst (λ (x : Draft). IsEarly x (n + 1)) (ok_same (record d { conns = d.conns ++ mask.value ∷ [] }) next limit.1) (record {
      alone = e.alone;
      clients = e.clients;
      commands = e.commands;
      names = e.names;
      head = λ some. late;
      planes = e.planes;
      conns = omega (arith, more, not_full (length d.conns) 8 limit.0);
      number = omega (arith, e.number, more);
      low = e.low;
      size = e.size;
    })

-- a client may begin behind a connector alone
client_late : (d next : Draft) (fields : List ℕ) → client_line d fields ≡ Ok next → is_nil d.conns ≡ false
unfolding client_line
client_late d next fields is =
    let done = form_ok (end_at fields) _ next is in
    (unless_ok (is_nil d.conns) Form _ next done.then).0

-- a command may stand behind a client alone
command_late : (d next : Draft) (text : List ℕ) → command_line d text ≡ Ok next → d.has_client ≡ true
unfolding command_line
command_late d next text is =
    let c = form_ok (command_read d.names text) _ next is in
    on_from d.has_client (unless_ok (not d.has_client) Form _ next c.then).0

-- a line behind the first two is a plane's or a connector's
later_early : (d next : Draft) (n : ℕ) (text : List ℕ) → IsEarly d n → d.head ≡ 2
    → (is_nil d.conns ≡ true) ⊎ (bytes_eq (until 32 text) (codes "conn") ≡ true) → later_line d text ≡ Ok next → IsEarly next (n + 1)
unfolding later_line
later_early d next n text e late why is = elim (either_ok (bytes_eq (until 32 text) (codes "plane")) _ _ (accepted next) is) [
  | inl plane ↦ plane_early d next n (from 32 text) e plane.1
  | inr other ↦ elim (either_ok (bytes_eq (until 32 text) (codes "conn")) _ _ (accepted next) other.1) [
    | inl conn ↦ conn_early d next n (from 32 text) e late conn.1
    | inr still ↦ elim why [
      | inr is_conn ↦ absurd (false≢true (sym still.0 ∙ is_conn))
      | inl nil ↦ elim (either_ok (bytes_eq (until 32 text) (codes "client")) _ _ (accepted next) still.1) [
        | inl client ↦ absurd (false≢true (sym (client_late d next (from 32 text) client.1) ∙ nil))
        | inr command ↦ absurd (false≢true (sym e.alone ∙ command_late d next text command.1))
      ]
    ]
  ]
]

head_two : (h : ℕ) → h ≤ 2 → (h == 0) ≡ false → (h == 1) ≡ false → h ≡ 2
head_two h low a b = grind (arith, nat_tests)

pub script_early : (d next : Draft) (n : ℕ) (text : List ℕ) → IsEarly d n
    → (is_nil d.conns ≡ true) ⊎ (bytes_eq (until 32 text) (codes "conn") ≡ true) → script_line d text ≡ Ok next → IsEarly next (n + 1)
unfolding script_line
script_early d next n text e why is = elim (either_ok (d.head == 0) _ _ (accepted next) is) [
  | inl zeroth ↦ first_early d next n text e (eqb-true d.head 0 zeroth.0) zeroth.1
  | inr more ↦ elim (either_ok (d.head == 1) _ _ (accepted next) more.1) [
    | inl first ↦ crtcs_early d next n text e (eqb-true d.head 1 first.0) first.1
    | inr late ↦ later_early d next n text e (head_two d.head e.low more.0 late.0) why late.1
  ]
]

-- a line does not count its bytes by itself
same_size : (d made : Draft) (text : List ℕ) → script_line d text ≡ Ok made → made.size ≡ d.size
same_size d made text is =
    let twice : script_line d text ≡ relined d.size (script_line d text) = line_same d.size d text in
    let both : accepted made ≡ accepted (resized d.size made) = sym is ∙ (twice ∙ ap (relined d.size) is) in
    ap (λ (x : Draft). x.size) (ok_same made (resized d.size made) both)

-- Rows

-- the draft behind a row, and that the row may stand there
pub record StaysEarly (d next : Draft) (n : ℕ) (row : Row) : Type 0 where
  pub is_ended : row.is_ended ≡ true
  pub early : IsEarly next (n + 1)
  pub size : next.size ≡ d.size + (length row.text + 1)

-- the draft that a line made, before its bytes were counted
record Counted (k : ℕ) (r : Lined) (next : Draft) : Type 0 where
  made : Draft
  is : r ≡ Ok made
  fits : nat_lt script_limit (made.size + k) ≡ false
  counts : resized (made.size + k) made ≡ next

counted : (k : ℕ) (r : Lined) (next : Draft) → sized k r ≡ Ok next → Counted k r next
counted k (Ok d) next e =
    let fits = unless_ok (nat_lt script_limit (d.size + k)) Limit _ next e in
    record { made = d; is = refl; fits = fits.0; counts = ok_same (resized (d.size + k) d) next fits.1 }
counted k (Err why) next e = absurd cc

within_limit : (n : ℕ) → nat_lt script_limit n ≡ false → n ≤ script_limit
within_limit n e = grind (arith, nat_tests)

resized_early : (d : Draft) (n k : ℕ) → IsEarly d n → k ≤ script_limit → IsEarly (resized k d) n
resized_early d n k e fits = record {
  alone = e.alone;
  clients = e.clients;
  commands = e.commands;
  names = e.names;
  head = e.head;
  planes = e.planes;
  conns = e.conns;
  number = e.number;
  low = e.low;
  size = fits;
}

third_of : (a b c e : Bool) → (a && (b && (c && e))) ≡ true → c ≡ true
third_of true true true e h = refl
third_of true true false e h = h
third_of true false c e h = absurd cc
third_of false b c e h = absurd cc

why_early : (nil conn : Bool) → (not nil && not conn) ≡ false → (nil ≡ true) ⊎ (conn ≡ true)
why_early true conn h = inl refl
why_early false true h = inr refl
why_early false false h = absurd cc

-- before the device is whole a row is one of its lines
pub row_early : (d next : Draft) (n : ℕ) (row : Row) → IsEarly d n → is_done d row ≡ false → line_after d row ≡ Ok next
    → StaysEarly d next n row
unfolding line_after
row_early d next n row e undone is =
    let bytes = unless_ok (not (list_all is_printable row.text)) Bytes _ next is in
    let cut = unless_ok (not row.is_ended) Cut _ next bytes.1 in
    let c = counted (length row.text + 1) (script_line d row.text) next cut.1 in
    let same : c.made.size ≡ d.size = same_size d c.made row.text c.is in
    let why : (is_nil d.conns ≡ true) ⊎ (bytes_eq (until 32 row.text) (codes "conn") ≡ true) =
    elim (why_early (is_nil d.conns) (is_conn_of d.crtcs row) undone) [
      | inl nil ↦ inl nil
      | inr conn ↦
          inr (third_of row.is_ended (list_all is_printable row.text) (bytes_eq (until 32 row.text) (codes "conn"))
          (is_some (conn_at d.crtcs (from 32 row.text))) conn)
    ] in
    let early = script_early d c.made n row.text e why c.is in
    let more : ℕ = c.made.size + (length row.text + 1) in
    record {
      is_ended = on_from row.is_ended cut.0;
      early = subst (λ (x : Draft). IsEarly x (n + 1)) c.counts (resized_early c.made (n + 1) more early (within_limit more c.fits));
      size = ap (λ (x : Draft). x.size) (sym c.counts) ∙ ap (λ k. k + (length row.text + 1)) same;
    }
