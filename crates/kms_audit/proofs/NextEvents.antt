-- The next event of some R lines, looked for one line after the other; and L lines that are left, one by one.
use Rattle.std.proofs.Common.{◌≡◌, ℕ, suc, ◌+◌, ◌-◌, ◌<◌, ◌≤◌, Bool, true, false, List, ◌∷◌, length, get_or, take, drop, Option, Some, None}
use Rattle.std.proofs.Common.{refl, sym, ap, ◌∙◌, subst, arith, inl, inr}
use Rattle.std.proofs.lemmas.Bool.{cases_eq, cases_lt, cond-false, cond-true, eq-eqb, le-ltb, lt-ltb, ne_eqb}
use Rattle.std.proofs.lemmas.List.{drop_more, get_or_past, length-take, take_more}
use Rattle.std.proofs.lemmas.List.Sums.{count_by-le-length}
use Rattle.std.proofs.lemmas.Option.{slice_get-get_or}
use Rattle.std.specs.BTreeMap as tree
use Rattle.std.specs.BTreeMap.{BTreeMap, is_at}
use Rattle.std.specs.List.{position}
use Rattle.std.specs.Prelude.{◌==◌, cond, is_some, nat_lt, option_map, slice_get, slice_index_or, if◌then◌else◌}
use Rattle.kms_told.proofs.Items.{position-cons}
use Rattle.kms_audit.proofs.Owed.{one-less, owed-push}
use Rattle.kms_audit.specs.declared.events.Reader.{Reader}
use Rattle.kms_audit.specs.declared.order.Block.{Block}
use Rattle.kms_audit.specs.declared.owners.Owner.{Owner}
use Rattle.kms_audit.specs.Eventing.{AreOwed, EventFields, EventKey, IsTaken, ReplyFields, block_of, event_at, is_owed, key_cmp, key_of}
use Rattle.kms_audit.specs.Eventing.{next_event, next_reader, owed_at, owed_by, reader_behind, reader_if, tells_event, turned}
use Rattle.kms_audit.specs.Latching.{LatchFields}
use Rattle.kms_audit.specs.Ordered.{AreBlocksWithin, no_block}
use Rattle.kms_model.specs.declared.replies.Event.{Event}
use Rattle.kms_model.specs.Report.Right.{event_in}
use Rattle.kms_model.specs.Report.RightAnswers.{same_event}
use Rattle.kms_model.specs.Script.Words.{◌>>=◌}

-- an event with the reader behind the line at a place
abbrev pair_at : Reader → ℕ → Event → Option (Event × Reader)
pair_at reader place event = Some (event, reader_behind reader place)

-- The next event, from a place on

module _ (replies : List ReplyFields) (client end : ℕ) where
  abbrev from : ℕ → Reader
  from m = record { client = client; block = record { next = m; end = end } }

  -- what a place among the lines from one on gives
  abbrev told_at : ℕ → Option ℕ → Option (Event × Reader)
  told_at m o = o >>= (λ p. event_at (from m) replies (m + p))

  module _ (m : ℕ) (d : ReplyFields) (within : m < end) (bound : end ≤ length replies) where
    abbrev line : ReplyFields
    line = get_or replies m d

    abbrev rest : List ReplyFields
    rest = take (end - (m + 1)) (drop (m + 1) replies)

    window : take (end - m) (drop m replies) ≡ line ∷ rest
    window =
        let less : end - m ≡ suc (end - (m + 1)) = omega arith in
        ap (λ n. take n (drop m replies)) less ∙ ap (take (suc (end - (m + 1)))) (drop_more replies m d (omega arith))

    opened : next_event (from m) replies ≡ told_at m
        (cond (tells_event line) (Some 0) (option_map (λ place. place + 1) (position tells_event rest)))
    opened = ap (told_at m) (ap (position tells_event) window ∙ position-cons tells_event line rest)

    pub next-here : (event : Event) → event_in line.3 ≡ Some event → Some (event, reader_behind (from m) m) ≡ next_event (from m) replies
    next-here event is =
        let here : m + 0 ≡ m = omega arith in
        let there : slice_get replies m ≡ Some line = slice_get-get_or replies m d (omega arith) in
        sym (opened
        ∙ (ap (told_at m) (cond-true (tells_event line) (Some 0)
        (option_map (λ place. place + 1) (position tells_event rest)) (ap is_some is))
        ∙ (ap (event_at (from m) replies) here
        ∙ (ap (λ (o : Option ReplyFields). o >>= (λ a. event_in a.3) >>= pair_at (from m) m) there
        ∙ ap (λ (o : Option Event). o >>= pair_at (from m) m) is))))

    pub next-step : event_in line.3 ≡ None → next_event (from (m + 1)) replies ≡ next_event (from m) replies
    next-step none =
        sym (opened
        ∙ (ap (told_at m) (cond-false (tells_event line) (Some 0)
        (option_map (λ place. place + 1) (position tells_event rest)) (ap is_some none))
        ∙ later (position tells_event rest))) where
          later : (o : Option ℕ) → told_at m (option_map (λ place. place + 1) o) ≡ told_at (m + 1) o
          later None = refl
          later (Some k) = let same : m + (k + 1) ≡ m + 1 + k = omega arith in ap (event_at (from m) replies) same

  pub next-none : (m : ℕ) → end ≤ m → None ≡ next_event (from m) replies
  next-none m past = let none : end - m ≡ 0 = omega arith in sym (ap (λ n. told_at m (position tells_event (take n (drop m replies)))) none)

-- the reader behind the next event ends where the one before it does
pub next-end : (reader : Reader) (replies : List ReplyFields) (event : Event) (next : Reader)
    → next_event reader replies ≡ Some (event, next) → next.block.end ≡ reader.block.end
next-end reader replies event next e = by_place
    (position tells_event (take (reader.block.end - reader.block.next) (drop reader.block.next replies))) e where
      by_line : (place : ℕ) (o : Option ReplyFields)
          → ◌≡◌ {A = Option (Event × Reader)} (o >>= (λ a. event_in a.3) >>= pair_at reader place) (Some (event, next))
          → next.block.end ≡ reader.block.end
      by_line place None f = absurd cc
      by_line place (Some a) f = by_event (event_in a.3) f where
        by_event : (o : Option Event) → ◌≡◌ {A = Option (Event × Reader)} (o >>= pair_at reader place) (Some (event, next))
            → next.block.end ≡ reader.block.end
        by_event None g = absurd cc
        by_event (Some x) g =
            let same : ◌≡◌ {A = Event × Reader} (x, reader_behind reader place) (event, next) = cc in
            sym (ap (λ (p : Event × Reader). p.1.block.end) same)

      by_place : (o : Option ℕ) → ◌≡◌ {A = Option (Event × Reader)}
          (o >>= (λ p. event_at reader replies (reader.block.next + p))) (Some (event, next))
          → next.block.end ≡ reader.block.end
      by_place None f = absurd cc
      by_place (Some p) f = by_line (reader.block.next + p) (slice_get replies (reader.block.next + p)) f

-- the block of a client ends among the lines
pub block-within : (count : ℕ) (blocks : List Block) (client : ℕ) → AreBlocksWithin count blocks → (block_of blocks client).end ≤ count
block-within count blocks client are =
    elim (cases_eq client 0) [
      | inl zero_it ↦ (
          let none : block_of blocks client ≡ no_block = cond-true (client == 0) no_block (slice_index_or blocks (client - 1) no_block)
          (eq-eqb client 0 zero_it) in
          omega (arith, ap (λ (b : Block). b.end) none))
      | inr some ↦ (
          let own : block_of blocks client ≡ slice_index_or blocks (client - 1) no_block =
          cond-false (client == 0) no_block (slice_index_or blocks (client - 1) no_block) (ne_eqb client 0 some) in
          elim (cases_lt (client - 1) 16) [
            | inl few ↦ omega (arith, ap (λ (b : Block). b.end) own, are.within (client - 1) few)
            | inr past ↦ (
                let none = get_or_past blocks (client - 1) no_block (omega (arith, past, are.size)) in
                omega (arith, ap (λ (b : Block). b.end) (own ∙ none)))
          ])
    ]

pub turned-within : (count : ℕ) (reader : Reader) (blocks : List Block) (client : ℕ) (x : Reader) → AreBlocksWithin count blocks
    → reader.block.end ≤ count
    → turned reader blocks client ≡ Some x → x.block.end ≤ count
turned-within count reader blocks client x are own e = by_same (client == reader.client) (nat_lt client reader.client) e where
  by_same : (b c : Bool) → (if b then Some reader else
      (if c then None else Some (record { client = client; block = block_of blocks client }))) ≡ Some x
      → x.block.end ≤ count
  by_same true c f = let same : reader ≡ x = cc in omega (arith, own, ap (λ (r : Reader). r.block.end) same)
  by_same false true f = absurd cc
  by_same false false f =
      let same : ◌≡◌ {A = Reader} (record { client = client; block = block_of blocks client }) x = cc in
      omega (arith, block-within count blocks client are, ap (λ (r : Reader). r.block.end) same)

-- The reader behind an E line

module _ (reader : Reader) (blocks : List Block) (replies : List ReplyFields) (e : EventFields) where
  pub reader-none : turned reader blocks e.0 ≡ None → None ≡ next_reader reader blocks replies e
  reader-none none = sym (ap (λ o. o >>= (λ x. next_event x replies) >>= reader_if e) none)

  module _ (x : Reader) (is : turned reader blocks e.0 ≡ Some x) where
    turned_as : (next_event x replies >>= reader_if e) ≡ next_reader reader blocks replies e
    turned_as = sym (ap (λ o. o >>= (λ y. next_event y replies) >>= reader_if e) is)

    pub reader-over : next_event x replies ≡ None → None ≡ next_reader reader blocks replies e
    reader-over none = sym (ap (λ o. o >>= reader_if e) none) ∙ turned_as

    module _ (event : Event) (next : Reader) (told : next_event x replies ≡ Some (event, next)) (same : Bool)
        (f : same ≡ same_event e.1 event) where
      read_as : reader_if e (event, next) ≡ next_reader reader blocks replies e
      read_as = sym (ap (λ o. o >>= reader_if e) told) ∙ turned_as

      pub reader-same : same ≡ true → Some next ≡ next_reader reader blocks replies e
      reader-same on = sym (cond-true (same_event e.1 event) (Some next) None (sym f ∙ on)) ∙ read_as

      pub reader-other : same ≡ false → None ≡ next_reader reader blocks replies e
      reader-other off = sym (cond-false (same_event e.1 event) (Some next) None (sym f ∙ off)) ∙ read_as

-- L lines that are left

pub owed-none : (old : BTreeMap EventKey ℕ) (o : Option EventKey) → o ≡ None → (key : EventKey)
    → owed_at old key ≡ owed_at old key + is_owed o key
owed-none old o none key = let zero_it : is_owed o key ≡ 0 = ap (λ x. is_owed x key) none in omega (arith, zero_it)

-- no key has more lines than there are
pub owed-few : (owners : List Owner) (lines : List LatchFields) (i : ℕ) (owed : BTreeMap EventKey ℕ)
    → AreOwed owners (take i lines) owed → i < length lines
    → length lines ≤ 67108864 → (key : EventKey) → owed_at owed key < 67108864
owed-few owners lines i owed are within few key =
    let most = count_by-le-length (λ l. nat_lt 0 (is_owed (owed_by owners l) key)) (take i lines) in
    omega (arith, are key, most, length-take i lines, within, few)

pub owed-next : (owners : List Owner) (lines : List LatchFields) (i : ℕ) (d : LatchFields) (old new : BTreeMap EventKey ℕ)
    → i < length lines → AreOwed owners (take i lines) old
    → ((key : EventKey) → owed_at new key ≡ owed_at old key + is_owed (owed_by owners (get_or lines i d)) key)
    → AreOwed owners (take (i + 1) lines) new
owed-next owners lines i d old new within are more =
    subst (λ ls. AreOwed owners ls new) (sym (take_more lines i d within))
    (owed-push owners (take i lines) (get_or lines i d) old new are more)

-- one of them is taken, or none is left
pub taken-none : (e : EventFields) (old : BTreeMap EventKey ℕ) (count : ℕ) → count ≡ owed_at old (key_of e) → count ≡ 0
    → IsTaken e old old false
taken-none e old count is none = record {
  taken_where = sym (le-ltb 0 (owed_at old (key_of e)) (omega (arith, is, none)));
  others = λ key. omega arith;
}

pub taken-one : (e : EventFields) (old new : BTreeMap EventKey ℕ) (count : ℕ) → count ≡ owed_at old (key_of e) → (count ≡ 0 → ⊥)
    → ((q : EventKey) → tree.get key_cmp new q ≡ cond (is_at (key_cmp (key_of e)) q) (Some (count - 1)) (tree.get key_cmp old q))
    → IsTaken e old new true
taken-one e old new count is some set = record {
  taken_where = sym (lt-ltb 0 (owed_at old (key_of e)) (above count (owed_at old (key_of e)) is some));
  others = one-less old new (key_of e) (count - 1) set (ap (λ n. n - 1) is);
} where
  above : (m n : ℕ) → m ≡ n → (m ≡ 0 → ⊥) → 0 < n
  above m n e f = omega arith
