-- What a step takes of what is left.
use Rattle.std.proofs.Common.{◌≡◌, ◌≢◌, ℕ, ◌+◌, ◌<◌, ◌≤◌, List, [], length, ◌∷◌, ◌++◌, ◌*◌, Bool, true, false, Option, None, Some, inl, inr}
use Rattle.std.proofs.Common.{arith, refl, sym, ap, ◌∙◌}
use Rattle.std.specs.Option.{IfSome, SomeIff}
use Rattle.std.specs.Prelude.{◌&&◌, ◌||◌, not}
use Rattle.std.proofs.lemmas.Bool.{eq-eqb, ne_eqb, false≢true}
use Rattle.std.proofs.lemmas.Bool.Decides.{eqb_tells}
use Rattle.kms_model.specs.Firsts.{one_if}
use Rattle.kms_model.specs.declared.tables.Slot.{Slot}
use Rattle.kms_model.specs.Device.Masks.{has_bit}
use Rattle.kms_model.specs.Things.Tables.{IsRising, value_with_id, with_value, without_id}
use Rattle.kms_model.proofs.TableLemmas.{others_behind, with_value-absent, without_id-absent}
use Rattle.kms_track.specs.declared.progress.Mark.{Mark}
use Rattle.kms_track.specs.declared.progress.Mark.TheVariants.{Claimed, WroteCrtc, WrotePlane, Flushed, Done, Latched}
use Rattle.kms_track.specs.declared.tail.Tail.{Tail}
use Rattle.kms_track.specs.Tails.{IsMark, all_left, count_below, is_latch_left, is_latch_off, is_left, is_step_left, marked_slots}
use Rattle.kms_track.specs.Tails.{marked_tail, on_after, steps_left, with_bit}
use Rattle.kms_track.proofs.Bits.{bit_more}
use Rattle.kms_track.proofs.Counts.{count_low, count_same, one_less}

-- One index less of a mask

left_here : (asked over index : ℕ) → index < 32 → is_left asked (with_bit over index) index ≡ false
left_here asked over index wide =
    ap (λ b. has_bit asked index && not b) (bit_more over index index wide ∙ ap (λ b. b || has_bit over index) (eq-eqb index index refl))
    ∙ off (has_bit asked index)
  where
    off : (b : Bool) → (b && false) ≡ false
    off true = refl
    off false = refl

left_apart : (asked over index i : ℕ) → index < 32 → i ≢ index → is_left asked (with_bit over index) i ≡ is_left asked over i
left_apart asked over index i wide apart =
    ap (λ b. has_bit asked i && not b) (bit_more over index i wide ∙ ap (λ b. b || has_bit over i) (ne_eqb index i (λ e. apart (sym e))))

left_less : (asked over n index : ℕ) → n ≤ 32 → index < n → is_left asked over index ≡ true
    → count_below (is_left asked (with_bit over index)) n + 1 ≡ count_below (is_left asked over) n
left_less asked over n index few within was =
    one_less (is_left asked over) (is_left asked (with_bit over index)) n index within was
    (left_here asked over index (omega (arith, few, within))) (λ i apart. left_apart asked over index i (omega (arith, few, within)) apart)

latch_less : (x : Tail) (index : ℕ) → index < 4 → is_latch_left x index ≡ true
    → count_below (is_latch_left (marked_tail (Latched index) x)) 4 + 1 ≡ count_below (is_latch_left x) 4
latch_less x index within was =
    one_less (is_latch_left x) (is_latch_left (marked_tail (Latched index) x)) 4 index within was
    (ap (λ b. b && on_after x index) (left_here x.checked.named x.progress.latched index (omega (arith, within))))
    (λ i apart. ap (λ b. b && on_after x i) (left_apart x.checked.named x.progress.latched index i (omega (arith, within)) apart))

of_not : (b : Bool) → not b ≡ true → b ≡ false
of_not true is = absurd (false≢true is)
of_not false is = refl

-- a step that is left
pub step_less : (mark : Mark) (x : Tail) → IsMark mark → is_step_left mark x ≡ true → steps_left (marked_tail mark x) + 1 ≡ steps_left x
step_less Claimed x is left = let one : one_if (not x.progress.claimed) ≡ 1 = ap (λ b. one_if b) left in omega (arith, one)
step_less Done x is left = let one : one_if (not x.progress.done) ≡ 1 = ap (λ b. one_if b) left in omega (arith, one)
step_less (WroteCrtc index) x is left = let less = left_less x.checked.touched.crtcs x.progress.crtcs 4 index
    (omega arith) is left in omega (arith, less)
step_less (WrotePlane index) x is left = let less = left_less x.checked.touched.planes x.progress.planes 16 index
    (omega arith) is left in omega (arith, less)
step_less (Flushed index) x is left = let less = left_less x.checked.named x.progress.flushed 4 index
    (omega arith) is left in omega (arith, less)
step_less (Latched index) x is left = let less = latch_less x index is left in omega (arith, less)

-- a latch at a CRTC that is off
pub latch_off : (x : Tail) (index : ℕ) → index < 4 → on_after x index ≡ false → steps_left (marked_tail (Latched index) x) ≡ steps_left x
latch_off x index within off =
    let same : count_below (is_latch_left (marked_tail (Latched index) x)) 4 ≡ count_below (is_latch_left x) 4 = count_same _ _ 4
    (λ i. alike i) in omega (arith, same)
  where
    and_off : (a b c : Bool) → c ≡ false → (a && c) ≡ (b && c)
    and_off true true c is = refl
    and_off false false c is = refl
    and_off true false c is = is
    and_off false true c is = sym is

    alike : (i : ℕ) → is_latch_left (marked_tail (Latched index) x) i ≡ is_latch_left x i
    alike i =
        elim (eqb_tells i index) [
          | inl same ↦ and_off _ _ (on_after x i) (ap (on_after x) same.1 ∙ off)
          | inr apart ↦ ap (λ b. b && on_after x i) (left_apart x.checked.named x.progress.latched index i (omega (arith, within)) apart.1)
        ]

-- at most 31 steps are left of a commit, and a cleanup at least
at_most_one : (b : Bool) → one_if b ≤ 1
at_most_one true = omega arith
at_most_one false = omega arith

pub steps_few : (x : Tail) → steps_left x ≤ 31
steps_few x =
    omega (
      arith,
      at_most_one (not x.progress.claimed),
      at_most_one (not x.progress.done),
      count_low (is_left x.checked.touched.crtcs x.progress.crtcs) 4,
      count_low (is_left x.checked.touched.planes x.progress.planes) 16,
      count_low (is_left x.checked.named x.progress.flushed) 4,
      count_low (is_latch_left x) 4,
    )

pub steps_some : (x : Tail) → 1 ≤ steps_left x
steps_some x = omega arith

-- All commits

pub left_marked : (slots : List (Slot Tail)) (k : ℕ) (x y : Tail) → IsRising slots → value_with_id slots k ≡ Some x
    → all_left (with_value slots k y) + steps_left x ≡ all_left slots + steps_left y
left_marked [] k x y rising is = absurd cc
left_marked (s ∷ slots) k x y rising is =
    elim (eqb_tells s.id k) [
      | inl same ↦ (
          let here : Some s.value ≡ Some x = rw same.0 at is in
          let value : s.value ≡ x = cc in
          let rest : slots ≡ with_value slots k y = with_value-absent slots k y (rw same.1 at (others_behind s.id slots rising.0)) in
          rw (same.0, ← rest, value) (omega arith)
          )
      | inr other ↦ (
          let rest : all_left (with_value slots k y) + steps_left x ≡ all_left slots + steps_left y = left_marked slots k x y
          rising.1 (rw other.0 at is) in
          rw other.0 (omega (arith, rest))
          )
    ]

pub left_removed : (slots : List (Slot Tail)) (k : ℕ) (x : Tail) → IsRising slots → value_with_id slots k ≡ Some x
    → all_left (without_id slots k) + steps_left x ≡ all_left slots
left_removed [] k x rising is = absurd cc
left_removed (s ∷ slots) k x rising is =
    elim (eqb_tells s.id k) [
      | inl same ↦ (
          let here : Some s.value ≡ Some x = rw same.0 at is in
          let value : s.value ≡ x = cc in
          let rest : slots ≡ without_id slots k = without_id-absent slots k (rw same.1 at (others_behind s.id slots rising.0)) in
          rw (same.0, ← rest, value) (omega arith)
          )
      | inr other ↦ (
          let rest : all_left (without_id slots k) + steps_left x ≡ all_left slots = left_removed slots k x rising.1 (rw other.0 at is) in
          rw other.0 (omega (arith, rest))
          )
    ]

pub left_pushed : (slots : List (Slot Tail)) (s : Slot Tail) → all_left (slots ++ s ∷ []) ≤ all_left slots + 31
left_pushed [] s = omega (arith, steps_few s.value)
left_pushed (t ∷ slots) s = omega (arith, left_pushed slots s)

pub marked_left : (slots : List (Slot Tail)) (k : ℕ) (mark : Mark) → IsRising slots → IsMark mark → (x : Tail)
    → value_with_id slots k ≡ Some x → is_step_left mark x ≡ true
    → all_left (marked_slots slots k mark (value_with_id slots k)) + 1 ≡ all_left slots
marked_left slots k mark rising allowed x is left =
    let all : all_left (with_value slots k (marked_tail mark x)) + steps_left x ≡ all_left slots + steps_left
    (marked_tail mark x) = left_marked slots k x (marked_tail mark x) rising is in
    let one : steps_left (marked_tail mark x) + 1 ≡ steps_left x = step_less mark x allowed left in
    rw is (omega (arith, all, one))

latched_off_left : (slots : List (Slot Tail)) (k index : ℕ) → IsRising slots → index < 4 → (x : Tail) → value_with_id slots k ≡ Some x
    → on_after x index ≡ false → all_left (marked_slots slots k (Latched index) (value_with_id slots k)) ≡ all_left slots
latched_off_left slots k index rising within x is off =
    let all : all_left (with_value slots k (marked_tail (Latched index) x)) + steps_left x ≡ all_left slots + steps_left
    (marked_tail (Latched index) x) = left_marked slots k x (marked_tail (Latched index) x) rising is in
    let same : steps_left (marked_tail (Latched index) x) ≡ steps_left x = latch_off x index within off in
    rw is (omega (arith, all, same))

pub marked_off : (slots : List (Slot Tail)) (k : ℕ) (mark : Mark) → IsRising slots → IsMark mark → (x : Tail)
    → value_with_id slots k ≡ Some x → is_latch_off mark x ≡ true
    → all_left (marked_slots slots k mark (value_with_id slots k)) ≡ all_left slots
marked_off slots k (Latched index) rising within x is off = latched_off_left slots k index rising within x is
    (of_not (on_after x index) off)
marked_off slots k Claimed rising allowed x is off = absurd (false≢true off)
marked_off slots k Done rising allowed x is off = absurd (false≢true off)
marked_off slots k (WroteCrtc index) rising allowed x is off = absurd (false≢true off)
marked_off slots k (WrotePlane index) rising allowed x is off = absurd (false≢true off)
marked_off slots k (Flushed index) rising allowed x is off = absurd (false≢true off)

pub left_most : (slots : List (Slot Tail)) → all_left slots ≤ 31 * length slots
left_most [] = omega arith
left_most (s ∷ slots) = omega (arith, steps_few s.value, left_most slots)

-- 31 for each tail, where there is a place for that number
pub most_kept : (slots : List (Slot Tail)) (o : Option ℕ) (n : ℕ) (P : Type 0) → SomeIff o P (n * 31) → n ≡ length slots
    → IfSome o (λ most. all_left slots ≤ most)
most_kept slots None n P is same = tt
most_kept slots (Some most) n P is same = let left = left_most slots in let all = is.1 in omega (arith, left, all, same)
