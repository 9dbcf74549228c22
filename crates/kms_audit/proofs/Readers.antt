-- E lines against the events that R lines tell: where a client's events are read on.
use Rattle.std.proofs.Common.{◌≡◌, ℕ, zero, suc, ◌+◌, ◌-◌, ◌<◌, ◌≤◌, Bool, true, false, List, [], ◌∷◌, ◌++◌, length, take, drop, Option}
use Rattle.std.proofs.Common.{Some, None, refl, sym, ap, ◌∙◌, subst, arith, inl, inr, length-append}
use Rattle.std.proofs.lemmas.Bool.{and_left, and_right, cases_lt, cond-false, cond-true, eq-eqb, eqb-false, eqb-true, false_from_ne_true}
use Rattle.std.proofs.lemmas.Bool.{le-leb, lt-leb, ltb-false, ltb-true, ne_eqb}
use Rattle.std.proofs.lemmas.List.{drop-drop, drop-map, drop-take, get_or_past, length-take, take-map}
use Rattle.std.proofs.lemmas.Option.{same_Some, slice_get_past}
use Rattle.std.specs.Prelude.{◌&&◌, ◌==◌, ◌⊎◌, cond, filter, is_some, map, nat_le, nat_lt, option_map, slice_get, slice_index_or}
use Rattle.std.specs.Prelude.{if◌then◌else◌}
use Rattle.std.specs.List.{cons_option, filter_map, last_or, position}
use Rattle.std.specs.Option.{option_and_then, option_map_or}
use Rattle.kms_audit.proofs.Blockwise.{get_drop, get_take}
use Rattle.kms_told.proofs.Items.{last-push, position-cons}
use Rattle.kms_audit.proofs.Entering.{filter_push}
use Rattle.kms_audit.proofs.Leasts.{get-within}
use Rattle.kms_audit.proofs.Tracks.{drop_get, drop_more_is, drop_none}
use Rattle.kms_audit.specs.declared.events.Reader.{Reader}
use Rattle.kms_audit.specs.declared.order.Block.{Block}
use Rattle.kms_audit.specs.Eventing.{EventFields, IsReadTo, ReplyFields, block_of, event_at, next_event, next_reader, reader_behind}
use Rattle.kms_audit.specs.Eventing.{reader_if, tells_event, turned}
use Rattle.kms_audit.specs.Ordered.{AreBlocks, AreLinesOf, block_at, no_block}
use Rattle.kms_model.specs.declared.replies.Answered.{Answered}
use Rattle.kms_model.specs.declared.replies.Event.{Event}
use Rattle.kms_model.specs.declared.reports.Report.{Report}
use Rattle.kms_model.specs.Report.Right.{event_in, events_told, is_not_below, lines_of_client}
use Rattle.kms_model.specs.Report.RightAnswers.{answer_from, answers_in, same_event}

-- Parts of a list that all or none are of a client

filter_none : {A : Type 0} (p : A → Bool) (xs : List A) → ((k : ℕ) (x : A) → slice_get xs k ≡ Some x → p x ≡ false) → filter p xs ≡ []
filter_none p [] none = refl
filter_none p (x ∷ xs) none =
    cond-false (p x) (x ∷ filter p xs) (filter p xs) (none 0 x refl) ∙ filter_none p xs (λ k y g. none (suc k) y g)

nothing_left : {A : Type 0} (n m : ℕ) → ◌≡◌ {A = List A} [] (take n (drop m []))
nothing_left zero m = refl
nothing_left (suc n) zero = refl
nothing_left (suc n) (suc m) = refl

-- those of a client are the lines from one place to another
filter_part : {A : Type 0} (p : A → Bool) (xs : List A) (from to : ℕ) → from ≤ to
    → ((k : ℕ) (x : A) → slice_get xs k ≡ Some x → p x ≡ true → (from ≤ k) × (k < to))
    → ((k : ℕ) (x : A) → slice_get xs k ≡ Some x → from ≤ k → k < to → p x ≡ true)
    → filter p xs ≡ take (to - from) (drop from xs)
filter_part p [] from to l within all = nothing_left (to - from) from
filter_part p (x ∷ xs) zero zero l within all =
    filter_none p (x ∷ xs) (λ k y g. false_from_ne_true (p y) (λ e. let held = within k y g e in omega (arith, held.1)))
filter_part p (x ∷ xs) zero (suc to) l within all =
    cond-true (p x) (x ∷ filter p xs) (filter p xs) (all 0 x refl (omega arith) (omega arith))
    ∙ (ap (λ ys. x ∷ ys) (filter_part p xs zero to (omega arith)
    (λ k y g e. let held = within (suc k) y g e in (omega arith, omega (arith, held.1)))
    (λ k y g low high. all (suc k) y g (omega arith) (omega (arith, high))))
    ∙ more to) where
      more : (n : ℕ) → x ∷ take (n - 0) (drop 0 xs) ≡ take (suc n - 0) (drop 0 (x ∷ xs))
      more n = let same : suc n - 0 ≡ suc (n - 0) = omega arith in sym (ap (λ m. take m (x ∷ xs)) same)
filter_part p (x ∷ xs) (suc from) zero l within all = absurd (omega arith)
filter_part p (x ∷ xs) (suc from) (suc to) l within all =
    cond-false (p x) (x ∷ filter p xs) (filter p xs) (false_from_ne_true (p x) (λ e. let held = within 0 x refl e in omega (arith, held.0)))
    ∙ (filter_part p xs from to (omega arith)
    (λ k y g e. let held = within (suc k) y g e in (omega (arith, held.0), omega (arith, held.1)))
    (λ k y g low high. all (suc k) y g (omega (arith, low)) (omega (arith, high)))
    ∙ (let same : to - from ≡ suc to - suc from = omega arith in ap (λ n. take n (drop from xs)) same))

proper_le : (b : Block) → ((b.next < b.end) ⊎ ((b.next ≡ 0) × (b.end ≡ 0))) → b.next ≤ b.end
proper_le b (inl l) = omega arith
proper_le b (inr e) = omega (arith, e.0, e.1)

-- the R lines of a client are those of its block
pub client-lines : (lines : List Answered) (client : ℕ) (b : Block) → AreLinesOf lines client b
    → filter (λ a. a.client == client) lines ≡ take (b.end - b.next) (drop b.next lines)
client-lines lines client b are =
    filter_part (λ a. a.client == client) lines b.next b.end (proper_le b are.proper)
    (λ k a g e. are.in_block k a g (eqb-true a.client client e))
    (λ k a g low high. eq-eqb a.client client (are.of_client k a g low high))

-- The next event of some lines

-- the events of lines
abbrev pub events_of : List ReplyFields → List Event
events_of lines = filter_map (λ a. event_in a.3) lines

pub record NextEvent (lines : List ReplyFields) (o : Option ℕ) : Type 0 where
  pub none : o ≡ None → events_of lines ≡ []
  pub some : (k : ℕ) → o ≡ Some k
      → (line : ReplyFields) × ((event : Event) ×
      (((slice_get lines k ≡ Some line) × (event_in line.3 ≡ Some event)) × (events_of lines ≡ event ∷ events_of (drop (suc k) lines))))

next_cons : (a : ReplyFields) (lines : List ReplyFields) (event : Option Event) → event_in a.3 ≡ event
    → NextEvent lines (position tells_event lines)
    → NextEvent (a ∷ lines) (cond (is_some event) (Some 0) (option_map (λ place. place + 1) (position tells_event lines)))
next_cons a lines (Some event) is next = record {
  none = λ e. absurd cc;
  some = λ k e.
      let same : 0 ≡ k = cc in
      subst (λ n. (line : ReplyFields) ×
      ((ev : Event) × (((slice_get (a ∷ lines) n ≡ Some line) × (event_in line.3 ≡ Some ev)) ×
      (events_of (a ∷ lines) ≡ ev ∷ events_of (drop (suc n) (a ∷ lines)))))) same
      (a, (event, ((refl, is), ap (λ o. cons_option o (events_of lines)) is)));
}
next_cons a lines None is next = later (position tells_event lines) next where
  later : (o : Option ℕ) → NextEvent lines o → NextEvent (a ∷ lines) (option_map (λ place. place + 1) o)
  later None n = record {
    none = λ e. ap (λ o. cons_option o (events_of lines)) is ∙ n.none refl;
    some = λ k e. absurd cc;
  }
  later (Some m) n = record {
    none = λ e. absurd cc;
    some = λ k e.
        let it = n.some m refl in
        let next_place : m + 1 ≡ k = cc in
        let same : suc m ≡ k = omega arith in
        subst (λ j. (line : ReplyFields) ×
        ((ev : Event) × (((slice_get (a ∷ lines) j ≡ Some line) × (event_in line.3 ≡ Some ev)) ×
        (events_of (a ∷ lines) ≡ ev ∷ events_of (drop (suc j) (a ∷ lines)))))) same
        (it.0, (it.1.0, ((it.1.1.0.0, it.1.1.0.1), ap (λ o. cons_option o (events_of lines)) is ∙ it.1.1.1)));
  }

pub next-of : (lines : List ReplyFields) → NextEvent lines (position tells_event lines)
next-of [] = record { none = λ e. refl; some = λ k e. absurd cc }
next-of (a ∷ lines) = subst (NextEvent (a ∷ lines)) (sym (position-cons tells_event a lines))
    (next_cons a lines (event_in a.3) refl (next-of lines))

-- The events of a client, by its block

events_map : (lines : List ReplyFields) → filter_map (λ (a : Answered). event_in a.reply) (map answer_from lines) ≡ events_of lines
events_map [] = refl
events_map (a ∷ lines) = ap (cons_option (event_in a.3)) (events_map lines)

abbrev part_of : Block → List ReplyFields → List ReplyFields
part_of b lines = take (b.end - b.next) (drop b.next lines)

told-block : (r : Report) (client : ℕ) (b : Block) → AreLinesOf (answers_in r) client b
    → events_told client (answers_in r) ≡ events_of (part_of b r.replies)
told-block r client b are =
    ap (filter_map (λ (a : Answered). event_in a.reply))
    (client-lines (answers_in r) client b are
    ∙ (ap (take (b.end - b.next)) (drop-map answer_from b.next r.replies) ∙ take-map answer_from (b.end - b.next) (drop b.next r.replies)))
    ∙ events_map (part_of b r.replies)

no_lines_of : (r : Report) (client : ℕ) → ((k : ℕ) (a : Answered) → slice_get (answers_in r) k ≡ Some a → (1 ≤ a.client) × (a.client ≤ 16))
    → ((client < 1) ⊎ (16 < client))
    → events_told client (answers_in r) ≡ []
no_lines_of r client clients out =
    ap (filter_map (λ (a : Answered). event_in a.reply))
    (filter_none (λ (a : Answered). a.client == client) (answers_in r)
    (λ k a g. ne_eqb a.client client (λ e. beyond out (clients k a g) e))) where
      beyond : {m : ℕ} → ((client < 1) ⊎ (16 < client)) → (1 ≤ m) × (m ≤ 16) → m ≡ client → ⊥
      beyond (inl low) in_range e = omega (arith, in_range.0)
      beyond (inr high) in_range e = omega (arith, in_range.1)

module _ (r : Report) (blocks : List Block) (are : AreBlocks (answers_in r) blocks)
    (clients : (k : ℕ) (a : Answered) → slice_get (answers_in r) k ≡ Some a → (1 ≤ a.client) × (a.client ≤ 16)) where
  own_block : (client : ℕ) → 1 ≤ client → block_of blocks client ≡ block_at blocks client
  own_block client some = cond-false (client == 0) no_block (slice_index_or blocks (client - 1) no_block)
      (ne_eqb client 0 (λ e. omega arith))

  empty_block : (client : ℕ) → ((client < 1) ⊎ (16 < client)) → block_of blocks client ≡ no_block
  empty_block client (inl low) = cond-true (client == 0) no_block (slice_index_or blocks (client - 1) no_block)
      (eq-eqb client 0 (omega arith))
  empty_block client (inr high) = own_block client (omega arith) ∙ get_or_past blocks (client - 1) no_block (omega (arith, are.size))

  pub told-of : (client : ℕ) → events_told client (answers_in r) ≡ events_of (part_of (block_of blocks client) r.replies)
  told-of client =
      elim (cases_lt client 1) [
        | inl low ↦ none (inl low)
        | inr some ↦ elim (cases_lt 16 client) [
          | inl high ↦ none (inr high)
          | inr few ↦
              told-block r client (block_at blocks client) (are.lines client some few)
              ∙ ap (λ b. events_of (part_of b r.replies)) (sym (own_block client some))
        ]
      ] where
        none : ((client < 1) ⊎ (16 < client)) → events_told client (answers_in r) ≡ events_of (part_of (block_of blocks client) r.replies)
        none out = no_lines_of r client clients out ∙ ap (λ b. events_of (part_of b r.replies)) (sym (empty_block client out))

  -- One E line

  -- a reader stands at the lines of a client that tell the events behind so many
  record IsAtLine (reader : Reader) (client n : ℕ) : Type 0 where
    own : reader.client ≡ client
    left : events_of (part_of reader.block r.replies) ≡ drop n (events_told client (answers_in r))

  -- the next event is that number, and the reader behind it stands behind one more
  record TakesNext (reader : Reader) (client n : ℕ) (next : Option (Event × Reader)) : Type 0 where
    event : option_map (λ (x : Event × Reader). x.0) next ≡ slice_get (events_told client (answers_in r)) n
    behind : (x : Event × Reader) → next ≡ Some x → IsAtLine x.1 client (n + 1)

  drop_head : {A : Type 0} (xs : List A) (n : ℕ) (x : A) (rest : List A) → drop n xs ≡ x ∷ rest
      → (slice_get xs n ≡ Some x) × (drop (n + 1) xs ≡ rest)
  drop_head xs n x rest e = (drop_get xs n x rest e, drop_more_is xs n x rest e)

  takes-next : (reader : Reader) (client n : ℕ) → IsAtLine reader client n → TakesNext reader client n (next_event reader r.replies)
  takes-next reader client n at = by_place (position tells_event (part_of reader.block r.replies)) refl
      (next-of (part_of reader.block r.replies)) where
        by_place : (o : Option ℕ) → position tells_event (part_of reader.block r.replies) ≡ o → NextEvent (part_of reader.block r.replies) o
            → TakesNext reader client n (option_and_then (λ p. event_at reader r.replies (reader.block.next + p)) o)
        by_place None is next = record {
          event = sym (slice_get_past (events_told client (answers_in r)) n
              (drop_none (events_told client (answers_in r)) n (sym at.left ∙ next.none refl)));
          behind = λ x e. absurd cc;
        }
        by_place (Some k) is next =
            let it = next.some k refl in
            let line = it.0 in
            let event = it.1.0 in
            let head = drop_head (events_told client (answers_in r)) n event (events_of (drop (suc k) (part_of reader.block r.replies)))
            (sym at.left ∙ it.1.1.1) in
            let within : k < reader.block.end - reader.block.next =
            omega (
              arith,
              get-within (part_of reader.block r.replies) k line it.1.1.0.0,
              length-take (reader.block.end - reader.block.next)
                  (drop reader.block.next r.replies),
            ) in
            let there : slice_get r.replies (reader.block.next + k) ≡ Some line =
            sym (get_drop r.replies reader.block.next k)
            ∙ (sym (get_take (drop reader.block.next r.replies) (reader.block.end - reader.block.next) k within) ∙ it.1.1.0.0) in
            let found : event_at reader r.replies (reader.block.next + k) ≡ Some (event, reader_behind reader (reader.block.next + k)) =
            ap (λ o. option_and_then (λ (e : Event). Some (e, reader_behind reader (reader.block.next + k)))
            (option_and_then (λ (a : ReplyFields). event_in a.3) o)) there
            ∙ ap (λ o. option_and_then (λ (e : Event). Some (e, reader_behind reader (reader.block.next + k))) o) it.1.1.0.1 in
            subst (TakesNext reader client n) (sym found) (record {
              event = sym head.0;
              behind = λ x e.
                  let same : (event, reader_behind reader (reader.block.next + k)) ≡ x = same_Some _ x e in
                  subst (λ y. IsAtLine y.1 client (n + 1)) same (record {
                    own = at.own;
                    left = rest_of k within ∙ sym head.1;
                  });
            }) where
              rest_of : (k : ℕ) → k < reader.block.end - reader.block.next
                  → events_of (part_of (record { next = reader.block.next + k + 1; end = reader.block.end }) r.replies) ≡ events_of
                  (drop (suc k) (part_of reader.block r.replies))
              rest_of k l =
                  let count : reader.block.end - (reader.block.next + k + 1) ≡ reader.block.end - reader.block.next - suc k = omega arith in
                  let place : reader.block.next + k + 1 ≡ reader.block.next + suc k = omega arith in
                  let whole : suc k + (reader.block.end - reader.block.next - suc k) ≡ reader.block.end - reader.block.next = omega arith in
                  ap (λ m. events_of (take m (drop (reader.block.next + k + 1) r.replies))) count
                  ∙ (ap (λ m. events_of (take (reader.block.end - reader.block.next - suc k) (drop m r.replies))) place
                  ∙ ap events_of (ap (take (reader.block.end - reader.block.next - suc k))
                  (sym (drop-drop (suc k) reader.block.next r.replies))
                  ∙ (sym (drop-take (suc k) (reader.block.end - reader.block.next - suc k) (drop reader.block.next r.replies))
                  ∙ ap (λ m. drop (suc k) (take m (drop reader.block.next r.replies))) whole)))

  -- the reader of an E line's client, where that is not below the one before
  record TurnsTo (reader : Reader) (before : List EventFields) (client : ℕ) (o : Option Reader) : Type 0 where
    below : o ≡ None → client < reader.client
    at_line : (x : Reader) → o ≡ Some x → (reader.client ≤ client) × IsAtLine x client (length (lines_of_client client before))

  turns-to : (reader : Reader) (before : List EventFields) (client : ℕ) → IsReadTo r before reader
      → TurnsTo reader before client (turned reader blocks client)
  turns-to reader before client to = by_same (client == reader.client) refl where
    by_above : (b : Bool) → nat_lt client reader.client ≡ b → (client ≡ reader.client → ⊥)
        → TurnsTo reader before client (if b then None else Some (record { client = client; block = block_of blocks client }))
    by_above true e apart = record { below = λ f. ltb-true client reader.client e; at_line = λ x f. absurd cc }
    by_above false e apart = record {
      below = λ f. absurd cc;
      at_line = λ x f.
          let same : ◌≡◌ {A = Reader} (record { client = client; block = block_of blocks client }) x = same_Some
          (record { client = client; block = block_of blocks client }) x f in
          let high = ltb-false client reader.client e in
          let none : lines_of_client client before ≡ [] = to.above client (different reader.client client high apart) in (
            high,
            subst (λ y. IsAtLine y client (length (lines_of_client client before))) same (record {
              own = refl;
              left = sym (told-of client) ∙ ap (λ (ls : List EventFields). drop (length ls) (events_told client (answers_in r))) (sym none);
            }),
          );
    } where
      different : (m n : ℕ) → m ≤ n → (n ≡ m → ⊥) → m < n
      different m n l f = omega arith

    by_same : (b : Bool) → (client == reader.client) ≡ b
        → TurnsTo reader before client
        (if b then Some reader else (if nat_lt client reader.client then None else Some
        (record { client = client; block = block_of blocks client })))
    by_same false e = by_above (nat_lt client reader.client) refl (eqb-false client reader.client e)
    by_same true e = record {
      below = λ f. absurd cc;
      at_line = λ x f.
          let same : reader ≡ x = same_Some reader x f in
          let own : reader.client ≡ client = sym (eqb-true client reader.client e) in (
            omega (arith, own),
            subst (λ y. IsAtLine y client (length (lines_of_client client before))) same (record {
              own = own;
              left = subst (λ c. events_of (part_of reader.block r.replies) ≡ drop (length (lines_of_client c before))
                  (events_told c (answers_in r))) own to.left;
            }),
          );
    }

  not_below : (o : Option EventFields) (x : ℕ) → option_map_or (λ (last : EventFields). nat_le last.0 x) o true ≡ nat_le
      (option_map_or (λ (b : EventFields). b.0) o 0) x
  not_below None x = sym (le-leb 0 x (omega arith))
  not_below (Some l) x = refl

  -- one E line is the next event, and the reader stands behind it
  pub record ReadsLine (reader : Reader) (before : List EventFields) (e : EventFields) (o : Option Reader) : Type 0 where
    pub is_next : is_some o ≡ (is_not_below (λ (other : EventFields). other.0) before e
        && option_map_or (same_event e.1) (slice_get (events_told e.0 (answers_in r)) (length (lines_of_client e.0 before))) false)
    pub behind : (x : Reader) → o ≡ Some x → IsReadTo r (before ++ e ∷ []) x

  counted_own : (before : List EventFields) (e : EventFields) → length (lines_of_client e.0 (before ++ e ∷ [])) ≡ length
      (lines_of_client e.0 before) + 1
  counted_own before e =
      ap length (filter_push (λ (x : EventFields). x.0 == e.0) before e
      ∙ cond-true (e.0 == e.0) (lines_of_client e.0 before ++ e ∷ []) (lines_of_client e.0 before) (eq-eqb e.0 e.0 refl))
      ∙ length-append (lines_of_client e.0 before) (e ∷ [])

  none_above : (before : List EventFields) (e : EventFields) (client : ℕ) → e.0 < client → lines_of_client client before ≡ []
      → lines_of_client client (before ++ e ∷ []) ≡ []
  none_above before e client above none =
      filter_push (λ (x : EventFields). x.0 == client) before e
      ∙ (cond-false (e.0 == client) (lines_of_client client before ++ e ∷ []) (lines_of_client client before)
      (ne_eqb e.0 client (λ f. omega arith)) ∙ none)

  pub reads-line : (reader : Reader) (before : List EventFields) (e : EventFields) → IsReadTo r before reader
      → ReadsLine reader before e (next_reader reader blocks r.replies e)
  reads-line reader before e to = by_turn (turned reader blocks e.0) (turns-to reader before e.0 to) where
    above_is : is_not_below (λ (other : EventFields). other.0) before e ≡ nat_le reader.client e.0
    above_is = not_below (last_or None before) e.0 ∙ ap (λ m. nat_le m e.0) (sym to.client)

    by_event : (x : Reader) → reader.client ≤ e.0 → IsAtLine x e.0 (length (lines_of_client e.0 before)) → (o : Option (Event × Reader))
        → TakesNext x e.0 (length (lines_of_client e.0 before)) o
        → ReadsLine reader before e (option_and_then (reader_if e) o)
    by_event x high at None t = record {
      is_next = sym (ap (λ o. is_not_below (λ (other : EventFields). other.0) before e && option_map_or (same_event e.1) o false)
          (sym t.event)
          ∙ and_right (is_not_below (λ (other : EventFields). other.0) before e) false refl);
      behind = λ y f. absurd cc;
    }
    by_event x high at (Some next) t = by_same (same_event e.1 next.0) refl where
      high_is : is_not_below (λ (other : EventFields). other.0) before e ≡ true
      high_is = above_is ∙ le-leb reader.client e.0 high

      next_is : (is_not_below (λ (other : EventFields). other.0) before e && option_map_or (same_event e.1)
          (slice_get (events_told e.0 (answers_in r)) (length (lines_of_client e.0 before))) false) ≡ same_event e.1 next.0
      next_is =
          ap (λ b. b && option_map_or (same_event e.1)
          (slice_get (events_told e.0 (answers_in r)) (length (lines_of_client e.0 before))) false) high_is
          ∙ ap (λ o. option_map_or (same_event e.1) o false) (sym t.event)

      by_same : (b : Bool) → same_event e.1 next.0 ≡ b → ReadsLine reader before e (if b then Some next.1 else None)
      by_same false f = record { is_next = sym (next_is ∙ f); behind = λ y g. absurd cc }
      by_same true f = record {
        is_next = sym (next_is ∙ f);
        behind = λ y g.
            let same : next.1 ≡ y = same_Some next.1 y g in
            let there = t.behind next refl in
            subst (IsReadTo r (before ++ e ∷ [])) same (record {
              client = there.own ∙ sym (ap (λ o. option_map_or (λ (x : EventFields). x.0) o 0) (last-push None before e));
              left = subst (λ c. events_of (part_of next.1.block r.replies) ≡ drop (length (lines_of_client c (before ++ e ∷ [])))
                  (events_told c (answers_in r))) (sym there.own)
                  (there.left ∙ ap (λ m. drop m (events_told e.0 (answers_in r))) (sym (counted_own before e)));
              above = λ client over.
                  let up : e.0 < client = omega (arith, over, there.own) in
                  none_above before e client up (to.above client (omega (arith, high, up)));
            });
      }

    by_turn : (o : Option Reader) → TurnsTo reader before e.0 o
        → ReadsLine reader before e (option_and_then (reader_if e) (option_and_then (λ at. next_event at r.replies) o))
    by_turn None t = record {
      is_next = sym (and_left (is_not_below (λ (other : EventFields). other.0) before e)
          (option_map_or (same_event e.1) (slice_get (events_told e.0 (answers_in r)) (length (lines_of_client e.0 before))) false)
          (above_is ∙ lt-leb reader.client e.0 (t.below refl)));
      behind = λ y f. absurd cc;
    }
    by_turn (Some x) t =
        let at = t.at_line x refl in
        by_event x at.0 at.1 (next_event x r.replies) (takes-next x e.0 (length (lines_of_client e.0 before)) at.1)
