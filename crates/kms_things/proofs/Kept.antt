-- What is kept beside the things stays so as things are made and closed.
use Rattle.std.proofs.Common.{◌≡◌, ℕ, ◌+◌, ◌<◌, ◌≤◌, Bool, true, false, List, [], ◌∷◌, ◌++◌, length, Option, Some, None, Result, Ok, Err}
use Rattle.std.proofs.Common.{eqb, refl, sym, ap, ◌∙◌, subst, inl, inr, arith}
use Rattle.std.specs.Prelude.{nat_lt}
use Rattle.std.specs.List.{cons_option}
use Rattle.std.proofs.lemmas.Bool.Decides.{nat_tests, eqb_tells}
use Rattle.std.proofs.lemmas.Bool.{cases_lt}
use Rattle.std.proofs.lemmas.List.{length-map, append-nil}
use Rattle.std.proofs.lemmas.List.Elements.{filter_map-append}
use Rattle.kms_model.specs.declared.objects.Format.{Format}
use Rattle.kms_model.specs.declared.scripts.Pattern.{Pattern}
use Rattle.kms_model.specs.declared.things.Buffer.{Buffer}
use Rattle.kms_model.specs.declared.tables.Slot.{Slot}
use Rattle.kms_model.specs.declared.worlds.Content.{Content}
use Rattle.kms_model.specs.declared.worlds.Content.TheVariants as content
use Rattle.kms_model.specs.declared.worlds.Thing.{Thing}
use Rattle.kms_model.specs.Device.Closing.{closed_if, closed_in}
use Rattle.kms_model.specs.Device.Execution.{all_bytes, buffer_bytes}
use Rattle.kms_model.specs.Firsts.{or_else, number_if}
use Rattle.kms_model.specs.Device.Sound.{AreNumbered}
use Rattle.kms_model.specs.Things.Kept.{area_bytes, buffer, bytes_of, bytes_with, largest_bytes}
use Rattle.kms_model.specs.Things.Tables.{AreBelow, slot}
use Rattle.kms_buffers.specs.declared.buffers.MakeError.{MakeError}
use Rattle.kms_buffers.specs.declared.buffers.MakeError.TheVariants as error
use Rattle.kms_buffers.specs.Things.{buffer_in, buffers_of}
use Rattle.kms_things.specs.Index.{AreKept, Ids, IsIndex, id_labelled, id_under, number_told}
use Rattle.kms_model.specs.Frames.Shown.{FramesIn}
use Rattle.kms_model.proofs.FramedLemmas.{closed_same, framed_closed, framed_more}
use Rattle.kms_model.proofs.ThingLemmas.{numbered-closed, numbered-push}
use Rattle.kms_things.proofs.Numbered.{length_more}

words_more : (ts : List Thing) (t : Thing) → buffers_of (ts ++ t ∷ []) ≡ buffers_of ts ++ buffers_of (t ∷ [])
words_more ts t = filter_map-append (λ u. buffer_in u.id u.owner u.content) ts (t ∷ [])

no_words : (t : Thing) → ((id owner : ℕ) → buffer_in id owner t.content ≡ None) → buffers_of (t ∷ []) ≡ []
no_words t wordless = rw (wordless t.id t.owner) refl

append_none : (bs cs : List (Slot Buffer)) → cs ≡ [] → bs ++ cs ≡ bs
append_none bs cs e = rw e (append-nil bs)

-- a thing more that is no buffer
pub kept_made : (ts : List Thing) (next : ℕ) (ids more : Ids) (buffers : List (Slot Buffer)) (t : Thing)
    → AreKept ts next ids buffers → t.id ≡ next → ((id owner : ℕ) → buffer_in id owner t.content ≡ None) → FramesIn ts next t.content
    → IsIndex more (ts ++ t ∷ []) → AreKept (ts ++ t ∷ []) (next + 1) more buffers
kept_made ts next ids more buffers t kept is wordless framed indexed = record {
  numbered = numbered-push 1000 ts t kept.numbered (is ∙ kept.next);
  next = length_more next ts t kept.next;
  indexed = indexed;
  words = kept.words ∙ sym (words_more ts t ∙ append_none (buffers_of ts) (buffers_of (t ∷ [])) (no_words t wordless));
  framed = framed_more ts t kept.framed (subst (λ n. FramesIn ts n t.content) (sym is) framed);
}

-- a buffer more, with its words
pub kept_buffer : (ts : List Thing) (next : ℕ) (ids more : Ids) (buffers : List (Slot Buffer)) (label owner width height : ℕ)
    (format : Format) (pattern : Pattern)
    → AreKept ts next ids buffers
    → let t : Thing = record {
      label = label;
      id = next;
      owner = owner;
      content = content.Buffer width height format pattern;
      is_open = true;
    } in
    IsIndex more (ts ++ t ∷ []) → AreKept (ts ++ t ∷ []) (next + 1) more
    (buffers ++ slot next (buffer owner width height format pattern) ∷ [])
kept_buffer ts next ids more buffers label owner width height format pattern kept indexed =
    let t : Thing = record { label = label; id = next; owner = owner; content = content.Buffer width height format pattern; is_open = true }
    in
    record {
      numbered = numbered-push 1000 ts t kept.numbered kept.next;
      next = length_more next ts t kept.next;
      indexed = indexed;
      words = ap (λ bs. bs ++ slot next (buffer owner width height format pattern) ∷ []) kept.words ∙ sym (words_more ts t);
      framed = framed_more ts t kept.framed tt;
    }

below_option : (n : ℕ) (o : Option (Slot Buffer)) (bs : List (Slot Buffer)) → ((s : Slot Buffer) → o ≡ Some s → s.id < n) → AreBelow n bs
    → AreBelow n (cons_option o bs)
below_option n None bs one below = below
below_option n (Some s) bs one below = (one s refl, below)

slot_id : (id owner : ℕ) (c : Content) (s : Slot Buffer) → buffer_in id owner c ≡ Some s → s.id ≡ id
slot_id id owner (content.Buffer width height format pattern) s e = let P : Option (Slot Buffer) → ℕ = λ o. of_option o
    in sym (ap P e) where
      of_option : Option (Slot Buffer) → ℕ
      of_option None = 0
      of_option (Some x) = x.id
slot_id id owner (content.Framebuffer info of) s e = absurd cc
slot_id id owner (content.Mode m) s e = absurd cc
slot_id id owner (content.Blob bytes) s e = absurd cc
slot_id id owner content.Fence s e = absurd cc
slot_id id owner content.OutFence s e = absurd cc

below_more : (n m : ℕ) (bs : List (Slot Buffer)) → n ≤ m → AreBelow n bs → AreBelow m bs
below_more n m [] le below = tt
below_more n m (b ∷ bs) le below = (omega (arith, below.0, le), below_more n m bs le below.1)

-- the next id is above those of all buffers
pub all_below : (n : ℕ) (ts : List Thing) → AreNumbered n ts → AreBelow (n + length ts) (buffers_of ts)
all_below n [] numbered = tt
all_below n (t ∷ ts) numbered =
    below_option (n + length (t ∷ ts)) (buffer_in t.id t.owner t.content) (buffers_of ts)
    (λ s e. (let i : s.id ≡ t.id = slot_id t.id t.owner t.content s e in omega (arith, i, numbered.0)))
    (below_more (n + 1 + length ts) (n + length (t ∷ ts)) (buffers_of ts) (omega arith) (all_below (n + 1) ts numbered.1))

bytes_option : (id owner : ℕ) (c : Content) (bs : List (Slot Buffer))
    → bytes_of (cons_option (buffer_in id owner c) bs) ≡ buffer_bytes c + bytes_of bs
bytes_option id owner (content.Buffer width height format pattern) bs = refl
bytes_option id owner (content.Framebuffer info of) bs = omega arith
bytes_option id owner (content.Mode m) bs = omega arith
bytes_option id owner (content.Blob bytes) bs = omega arith
bytes_option id owner content.Fence bs = omega arith
bytes_option id owner content.OutFence bs = omega arith

-- the bytes of the buffers among things
pub bytes_of_things : (ts : List Thing) → bytes_of (buffers_of ts) ≡ all_bytes ts
bytes_of_things [] = refl
bytes_of_things (t ∷ ts) =
    bytes_option t.id t.owner t.content (buffers_of ts) ∙ ap (λ (n : ℕ). buffer_bytes t.content + n) (bytes_of_things ts)

-- Closing
indexed_closed : (id label : ℕ) (ts : List Thing) → id_labelled (closed_in ts id) label ≡ id_labelled ts label
indexed_closed id label [] = refl
indexed_closed id label (t ∷ ts) =
    let same = closed_same id t in
    elim (eqb_tells t.label label) [
      | inl here ↦ (let e : eqb (closed_if id t).label label ≡ true = rw same.label here.0
          in rw (e, here.0) (ap (λ (n : ℕ). Some n) same.id))
      | inr away ↦ (let e : eqb (closed_if id t).label label ≡ false = rw same.label away.0 in rw (e, away.0) (indexed_closed id label ts))
    ]

words_closed : (id : ℕ) (ts : List Thing) → buffers_of (closed_in ts id) ≡ buffers_of ts
words_closed id [] = refl
words_closed id (t ∷ ts) =
    let same = closed_same id t in
    let one : buffer_in (closed_if id t).id (closed_if id t).owner (closed_if id t).content
    ≡ buffer_in t.id t.owner t.content = rw (same.id, same.owner, same.content) refl in
    rw (one, words_closed id ts) refl

-- a thing that is closed
pub kept_closed : (ts : List Thing) (next : ℕ) (ids : Ids) (buffers : List (Slot Buffer)) (id : ℕ) → AreKept ts next ids buffers
    → AreKept (closed_in ts id) next ids buffers
kept_closed ts next ids buffers id kept = record {
  numbered = numbered-closed 1000 ts id kept.numbered;
  next = rw (length-map ts (closed_if id)) kept.next;
  indexed = λ label. kept.indexed label ∙ sym (indexed_closed id label ts);
  words = kept.words ∙ sym (words_closed id ts);
  framed = framed_closed id ts kept.framed;
}

-- What a store of buffers answers
abbrev pub refused_by : Bool → ℕ → Option ℕ
refused_by bad total = or_else (number_if 31 bad) (number_if 32 (nat_lt largest_bytes total))

is_over : (total : ℕ) → largest_bytes < total → refused_by false total ≡ Some 32
is_over total over = let e : nat_lt largest_bytes total ≡ true = grind (arith, nat_tests) in rw e refl

is_within : (total : ℕ) → total ≤ largest_bytes → refused_by false total ≡ None
is_within total within = let e : nat_lt largest_bytes total ≡ false = grind (arith, nat_tests) in rw e refl

-- what an answer by the limits refuses
pub refusal_told : (R : Result ℕ MakeError) (bad : Bool) (total : ℕ) → (bad ≡ true → R ≡ Err error.BadSize)
    → (bad ≡ false → largest_bytes < total → R ≡ Err (error.Space total))
    → (bad ≡ false → total ≤ largest_bytes → R ≡ Ok total) → number_told R ≡ refused_by bad total
refusal_told R true total sized spaced fits = ap number_told (sized refl)
refusal_told R false total sized spaced fits =
    elim (cases_lt largest_bytes total) [
      | inl over ↦ ap number_told (spaced refl over) ∙ sym (is_over total over)
      | inr within ↦ ap number_told (fits refl within) ∙ sym (is_within total within)
    ]

-- the bytes with one buffer more
pub total_bytes : (buffers : List (Slot Buffer)) (ts : List Thing) (width height : ℕ) (format : Format) → buffers ≡ buffers_of ts
    → bytes_with buffers width height format ≡ all_bytes ts + area_bytes width height format
total_bytes buffers ts width height format e =
    ap (λ (n : ℕ). n + area_bytes width height format) (ap (λ bs. bytes_of bs) e ∙ bytes_of_things ts)

-- an out-fence more, under the label that was asked for, if any
pub kept_fence : (ts : List Thing) (next : ℕ) (ids more : Ids) (buffers : List (Slot Buffer)) (label owner : ℕ)
    → AreKept ts next ids buffers
    → let t : Thing = record { label = label; id = next; owner = owner; content = content.OutFence; is_open = true } in
    IsIndex more (ts ++ t ∷ []) → AreKept (ts ++ t ∷ []) (next + 1) more buffers
kept_fence ts next ids more buffers label owner kept indexed =
    kept_made ts next ids more buffers (record { label = label; id = next; owner = owner; content = content.OutFence; is_open = true }) kept
    refl (λ id of. refl) tt indexed

-- the index in another order of its entries
pub kept_reordered : (ts : List Thing) (next : ℕ) (ids more : Ids) (buffers : List (Slot Buffer)) → AreKept ts next ids buffers
    → ((q : ℕ) → id_under more q ≡ id_under ids q) → AreKept ts next more buffers
kept_reordered ts next ids more buffers kept same = record {
  numbered = kept.numbered;
  next = kept.next;
  indexed = λ label. same label ∙ kept.indexed label;
  words = kept.words;
  framed = kept.framed;
}
