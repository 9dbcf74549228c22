-- A script with older calls has the device of a script at its front, and is read on from there.
use Rattle.std.proofs.Common.{◌≡◌, ℕ, ◌+◌, ◌≤◌, inl, inr, Bool, true, false, List, [], ◌∷◌, ◌++◌, length, length-append, append_assoc, cond}
use Rattle.std.proofs.Common.{Ok, Err, refl, sym, ap, subst, ◌∙◌, zero-add, arith}
use Rattle.std.specs.Prelude.{◌&&◌, Result, drop, not}
use Rattle.std.specs.List.{list_all}
use Rattle.std.proofs.lemmas.Bool.{cases_Bool}
use Rattle.kms_model.specs.declared.objects.Topology.{Topology}
use Rattle.kms_model.specs.declared.scripts.Why.TheVariants.{Bytes, Cut}
use Rattle.kms_model.specs.Legacy.LegacyLines.{LegacyDraft, LegacyLined, blank_legacy_draft, followed_by, legacy_line, legacy_line_after}
use Rattle.kms_model.specs.Legacy.LegacyLines.{legacy_lines_after, legacy_sized, or_legacy_fault}
use Rattle.kms_model.specs.Script.CommandLines.{unless}
use Rattle.kms_model.specs.Script.Grammar.{is_printable}
use Rattle.kms_model.specs.Script.InputLines.{Fault, Row, rows_of}
use Rattle.kms_model.specs.Script.WholeInput.{Draft, Lined, blank_draft, device_after, device_of, is_conn_of, is_done, is_nil, line_after}
use Rattle.kms_model.specs.Script.WholeInput.{missing_line, or_fault, script_limit, script_line, sized, topology_in}
use Rattle.kms_legacy.specs.Reading.{BeginsWithoutConn, HasDevice, device_draft, line_behind}
use Rattle.kms_legacy.proofs.AloneLines.{alone_line, plain_draft}
use Rattle.kms_legacy.proofs.EarlyLines.{IsEarly, blank_early, early_is, early_number, row_early}
use Rattle.kms_legacy.proofs.RowTails.{HasTail, drop_front, rows_tail}

-- Up to `client` the lines are those of scripts

sized_follows : (n : ℕ) (r : Lined) → legacy_sized n (followed_by [] r) ≡ followed_by [] (sized n r)
sized_follows n (Ok d) = refl
sized_follows n (Err why) = refl

row_follows : (s t : Bool) (r : LegacyLined) (q : Lined) → r ≡ followed_by [] q
    → unless s Bytes (unless t Cut r) ≡ followed_by [] (unless s Bytes (unless t Cut q))
row_follows true t r q same = refl
row_follows false true r q same = refl
row_follows false false r q same = same

pub line_as_script : (d : Draft) (row : Row) → d.has_client ≡ false
    → legacy_line_after (plain_draft d) row ≡ followed_by [] (line_after d row)
unfolding legacy_line_after line_after
line_as_script d row alone =
    row_follows (not (list_all is_printable row.text)) (not row.is_ended)
    (legacy_sized (length row.text + 1) (legacy_line (plain_draft d) row.text)) (sized (length row.text + 1) (script_line d row.text))
    (ap (legacy_sized (length row.text + 1)) (alone_line d row.text alone) ∙ sized_follows (length row.text + 1) (script_line d row.text))

next_row : (d next : Draft) (n : ℕ) (row : Row) (rows : List Row) → d.has_client ≡ false → line_after d row ≡ Ok next
    → legacy_lines_after (plain_draft d) n (row ∷ rows) ≡ legacy_lines_after (plain_draft next) (n + 1) rows
unfolding legacy_lines_after
next_row d next n row rows alone is = rw (line_as_script d row alone, is) refl

-- The device at the front

-- some of the bytes are the device's lines, and the others are read behind them
record IsFront (d : Draft) (n : ℕ) (xs : List ℕ) (t : Topology) (place : ℕ) : Type 0 where
  front : List ℕ
  rest : List ℕ
  split : xs ≡ front ++ rest
  long : place ≡ d.size + length front
  size : place ≤ script_limit
  planes : length t.planes ≤ 16
  conns : length t.conns ≤ 8
  some : is_nil t.conns ≡ false
  next : BeginsWithoutConn t.crtcs (rows_of rest)
  read : legacy_lines_after (plain_draft d) n (rows_of xs) ≡ legacy_lines_after (device_draft t false place) (line_behind t) (rows_of rest)

-- the device is whole before these bytes
here : (d : Draft) (n : ℕ) (xs : List ℕ) → IsEarly d n → is_nil d.conns ≡ false → BeginsWithoutConn d.crtcs (rows_of xs)
    → IsFront d n xs (topology_in d) d.size
here d n xs e some next = record {
  front = [];
  rest = xs;
  split = refl;
  long = omega arith;
  size = e.size;
  planes = e.planes;
  conns = e.conns;
  some = some;
  next = next;
  read = ap (λ (x : LegacyDraft). legacy_lines_after x n (rows_of xs)) (ap plain_draft (early_is d n e some))
      ∙ ap (λ k. legacy_lines_after (device_draft (topology_in d) false d.size) k (rows_of xs)) (early_number d n e some);
}

abbrev given : Topology × ℕ → Result (Topology × ℕ) Fault
given p = Ok p

same_device : (t other : Topology) (k place : ℕ) → given (t, k) ≡ Ok (other, place) → (t ≡ other) × (k ≡ place)
same_device t other k place e =
    let both : ◌≡◌ {A = Topology × ℕ} (t, k) (other, place) = cc in
    (ap (λ (p : Topology × ℕ). p.0) both, ap (λ (p : Topology × ℕ). p.1) both)

at_end : (nil : Bool) (d : Draft) (n place : ℕ) (t : Topology) → is_nil d.conns ≡ nil
    → cond nil (Err (missing_line n)) (given (topology_in d, d.size)) ≡ Ok (t, place)
    → (is_nil d.conns ≡ false) × ((topology_in d ≡ t) × (d.size ≡ place))
at_end true d n place t is e = absurd cc
at_end false d n place t is e = (is, same_device (topology_in d) t d.size place e)

-- the front that ends before these rows
ends_here : (d : Draft) (n place : ℕ) (xs : List ℕ) (t : Topology) → IsEarly d n → is_nil d.conns ≡ false
    → BeginsWithoutConn d.crtcs (rows_of xs) → topology_in d ≡ t → d.size ≡ place → IsFront d n xs t place
ends_here d n place xs t e some next same size =
    subst (λ (k : ℕ). IsFront d n xs t k) size (subst (λ (x : Topology). IsFront d n xs x d.size) same (here d n xs e some next))

-- a line more in front
further : (d next : Draft) (n place : ℕ) (xs : List ℕ) (t : Topology) (row : Row) (rows : List Row) → IsEarly d n
    → line_after d row ≡ Ok next → next.size ≡ d.size + (length row.text + 1)
    → rows_of xs ≡ row ∷ rows → (h : HasTail xs row rows) → IsFront next (n + 1) h.tail t place → IsFront d n xs t place
further d next n place xs t row rows e is size are h f = record {
  front = (row.text ++ 10 ∷ []) ++ f.front;
  rest = f.rest;
  split = h.text ∙ (ap (λ (ys : List ℕ). row.text ++ 10 ∷ ys) f.split
      ∙ (sym (append_assoc row.text (10 ∷ []) (f.front ++ f.rest)) ∙ sym (append_assoc (row.text ++ 10 ∷ []) f.front f.rest)));
  long = omega (arith, f.long, size, length-append (row.text ++ 10 ∷ []) f.front, length-append row.text (10 ∷ []));
  size = f.size;
  planes = f.planes;
  conns = f.conns;
  some = f.some;
  next = f.next;
  read = ap (legacy_lines_after (plain_draft d) n) are
      ∙ (next_row d next n row rows e.alone is ∙ (ap (legacy_lines_after (plain_draft next) (n + 1)) h.others ∙ f.read));
}

-- a step of the reader that did not fail
record Went (r : Lined) (f : Draft → Result (Topology × ℕ) Fault) (p : Topology × ℕ) : Type 0 where
  next : Draft
  is : r ≡ Ok next
  then : f next ≡ Ok p

went : (n : ℕ) (r : Lined) (f : Draft → Result (Topology × ℕ) Fault) (p : Topology × ℕ) → or_fault n r f ≡ Ok p → Went r f p
went n (Ok d) f p e = record { next = d; is = refl; then = e }
went n (Err why) f p e = absurd cc

both_off : (nil conn : Bool) → (not nil && not conn) ≡ true → (nil ≡ false) × (conn ≡ false)
both_off true conn h = absurd cc
both_off false true h = absurd cc
both_off false false h = (refl, refl)

front_of : (rows : List Row) (d : Draft) (n place : ℕ) (xs : List ℕ) (t : Topology) → rows_of xs ≡ rows → IsEarly d n
    → device_after d n rows ≡ Ok (t, place) → IsFront d n xs t place
unfolding device_after
front_of [] d n place xs t are e is =
    let end = at_end (is_nil d.conns) d n place t refl is in
    ends_here d n place xs t e end.0 (subst (BeginsWithoutConn d.crtcs) (sym are) tt) end.1.0 end.1.1
front_of (row ∷ rows) d n place xs t are e is = elim (cases_Bool (is_done d row)) [
  | inl done ↦
      let off = both_off (is_nil d.conns) (is_conn_of d.crtcs row) done in
      let same = same_device (topology_in d) t d.size place (rw done at is) in
      ends_here d n place xs t e off.0 (subst (BeginsWithoutConn d.crtcs) (sym are) off.1) same.0 same.1
  | inr undone ↦
      let w = went n (line_after d row) (λ next. device_after next (n + 1) rows) (t, place) (rw undone at is) in
      let stays = row_early d w.next n row e undone w.is in
      let h = rows_tail xs row rows are stays.is_ended in
      further d w.next n place xs t row rows e w.is stays.size are h
      (front_of rows w.next (n + 1) place h.tail t (sym h.others) stays.early w.then)
]

pub device_front : (bytes : List ℕ) (t : Topology) (place : ℕ) → device_of bytes ≡ Ok (t, place) → HasDevice bytes t place
device_front bytes t place is =
    let f = front_of (rows_of bytes) blank_draft 1 place bytes t refl blank_early is in
    let long : place ≡ length f.front = f.long ∙ zero-add (length f.front) in
    let left : drop place bytes ≡ f.rest = ap (λ k. drop k bytes) long ∙ (ap (drop (length f.front)) f.split ∙ drop_front f.front f.rest) in
    record {
      within = omega (arith, long, ap length f.split, length-append f.front f.rest);
      size = f.size;
      planes = f.planes;
      conns = f.conns;
      some = f.some;
      next = subst (λ (xs : List ℕ). BeginsWithoutConn t.crtcs (rows_of xs)) (sym left) f.next;
      read = f.read ∙ ap (λ (xs : List ℕ). legacy_lines_after (device_draft t false place) (line_behind t) (rows_of xs)) (sym left);
    }

-- An input that has no device at its front

stopped : (n : ℕ) (r : Lined) (f : Draft → Result (Topology × ℕ) Fault) (g : LegacyDraft → Result LegacyDraft Fault) (fault : Fault)
    → ((next : Draft) → r ≡ Ok next → f next ≡ Err fault → g (plain_draft next) ≡ Err fault) → or_fault n r f ≡ Err fault
    → or_legacy_fault n (followed_by [] r) g ≡ Err fault
stopped n (Ok d) f g fault more e = more d refl e
stopped n (Err why) f g fault more e = cc

ended_early : (nil : Bool) (d : Draft) (n : ℕ) (fault : Fault) → cond nil (Err (missing_line n)) (given (topology_in d, d.size)) ≡ Err fault
    → cond nil (Err (missing_line n)) (Ok (plain_draft d)) ≡ Err fault
ended_early true d n fault e = cc
ended_early false d n fault e = absurd cc

no_device : (rows : List Row) (d : Draft) (n : ℕ) (fault : Fault) → IsEarly d n → device_after d n rows ≡ Err fault
    → legacy_lines_after (plain_draft d) n rows ≡ Err fault
unfolding device_after legacy_lines_after
no_device [] d n fault e is = ended_early (is_nil d.conns) d n fault is
no_device (row ∷ rows) d n fault e is = elim (cases_Bool (is_done d row)) [
  | inl done ↦ let never : given (topology_in d, d.size) ≡ Err fault = rw done at is in absurd cc
  | inr undone ↦
      rw (line_as_script d row e.alone)
      (stopped n (line_after d row) (λ next. device_after next (n + 1) rows) (λ next. legacy_lines_after next (n + 1) rows) fault
      (λ next is. no_device rows next (n + 1) fault (row_early d next n row e undone is).early) (rw undone at is))
]

pub device_fault : (bytes : List ℕ) (fault : Fault) → device_of bytes ≡ Err fault
    → legacy_lines_after blank_legacy_draft 1 (rows_of bytes) ≡ Err fault
device_fault bytes fault is = no_device (rows_of bytes) blank_draft 1 fault blank_early is
