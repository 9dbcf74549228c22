-- What is read of the words by index, and how a write and a latch change it.
use Rattle.std.proofs.Common.{◌≡◌, ◌≢◌, ℕ, zero, suc, ◌+◌, ◌<◌, ◌≤◌, Bool, true, false, List, [], ◌∷◌, length, map, get_or, arith, refl}
use Rattle.std.proofs.Common.{sym, ap, ◌∙◌, subst, inl, inr, if◌then◌else◌}
use Rattle.std.specs.Prelude.{◌==◌, ◌||◌, slice_set}
use Rattle.std.specs.List.{range_with_len}
use Rattle.std.proofs.lemmas.List.{get_or_default, get_or-set_other, length-set}
use Rattle.std.proofs.lemmas.Grind.{get_or-set_at}
use Rattle.std.proofs.Math.ListN.{get_or-eq_default}
use Rattle.std.proofs.lemmas.Bool.{cases_Bool, cases_eq, cases_lt, false≢true}
use Rattle.kms_model.specs.Device.Objects.{object_id}
use Rattle.kms_model.specs.declared.objects.Kind.TheVariants.{Crtc, Plane}
use Rattle.kms_model.specs.declared.objects.Topology.{Topology}
use Rattle.kms_model.specs.Machine.Registers.{CrtcWords, PlaneWords, Registers, copied_planes, crtc_register, first_crtc_words}
use Rattle.kms_model.specs.Machine.Registers.{first_plane_words, first_registers, is_copied, latched_registers, plane_register, read}
use Rattle.kms_model.specs.Machine.Registers.{write_crtc, write_plane}
use Rattle.kms_regs.specs.Words.{ReadSame, bank_of, latched_plane}
use Rattle.kms_regs.proofs.Rows.{four_alike, read-set, read-with_ids, read_here, read_past}

-- what stands at an index is what is read
pub plane_of_bank : (planes : List PlaneWords) (crtcs : List CrtcWords) {r : Registers} (index : ℕ) (d : PlaneWords)
    → bank_of planes crtcs ≡ r → index < length planes
    → get_or planes index d ≡ plane_register r (object_id Plane index)
plane_of_bank planes crtcs index d is low =
    let first : PlaneWords = first_plane_words (object_id Plane index) in
    get_or_default planes index d first low ∙ sym (read-with_ids first planes (object_id Plane 0) index (object_id Plane index) refl) ∙ ap
    (λ (x : Registers). plane_register x (object_id Plane index)) is

pub crtc_of_bank : (planes : List PlaneWords) (crtcs : List CrtcWords) {r : Registers} (index : ℕ) (d : CrtcWords)
    → bank_of planes crtcs ≡ r → index < length crtcs
    → get_or crtcs index d ≡ crtc_register r (object_id Crtc index)
crtc_of_bank planes crtcs index d is low =
    get_or_default crtcs index d first_crtc_words low ∙ sym
    (read-with_ids first_crtc_words crtcs (object_id Crtc 0) index (object_id Crtc index) refl) ∙ ap
    (λ (x : Registers). crtc_register x (object_id Crtc index)) is

-- a write at an index
pub plane_set : (planes : List PlaneWords) (crtcs : List CrtcWords) {r : Registers} (index : ℕ) {x words : PlaneWords}
    → bank_of planes crtcs ≡ r → index < length planes → x ≡ words
    → ReadSame (write_plane r (object_id Plane index) words) (bank_of (slice_set planes index x) crtcs)
plane_set planes crtcs {r} index {x} is low same =
    subst (λ (w : PlaneWords). ReadSame (write_plane r (object_id Plane index) w) (bank_of (slice_set planes index x) crtcs)) same
    (subst (λ (from : Registers). ReadSame (write_plane from (object_id Plane index) x) (bank_of (slice_set planes index x) crtcs)) is
    (record { planes = λ i. read-set (first_plane_words (object_id Plane i)) x planes (object_id Plane 0) index i low; crtcs = λ i. refl }))

pub crtc_set : (planes : List PlaneWords) (crtcs : List CrtcWords) {r : Registers} (index : ℕ) {x words : CrtcWords}
    → bank_of planes crtcs ≡ r → index < length crtcs → x ≡ words
    → ReadSame (write_crtc r (object_id Crtc index) words) (bank_of planes (slice_set crtcs index x))
crtc_set planes crtcs {r} index {x} is low same =
    subst (λ (w : CrtcWords). ReadSame (write_crtc r (object_id Crtc index) w) (bank_of planes (slice_set crtcs index x))) same
    (subst (λ (from : Registers). ReadSame (write_crtc from (object_id Crtc index) x) (bank_of planes (slice_set crtcs index x))) is
    (record { planes = λ i. refl; crtcs = λ i. read-set first_crtc_words x crtcs (object_id Crtc 0) index i low }))

-- A latch, plane by plane

-- the planes below a number are latched
pub record IsLatched (shadow live now : Registers) (crtc n : ℕ) : Type 0 where
  pub copied : (i : ℕ) → i < n → is_copied shadow live crtc (object_id Plane i) ≡ true → plane_register now (object_id Plane i)
      ≡ plane_register shadow (object_id Plane i)
  pub kept : (i : ℕ) → is_copied shadow live crtc (object_id Plane i) ≡ false → plane_register now (object_id Plane i)
      ≡ plane_register live (object_id Plane i)
  pub later : (i : ℕ) → n ≤ i → plane_register now (object_id Plane i) ≡ plane_register live (object_id Plane i)
  pub crtcs : (i : ℕ) → crtc_register now (object_id Crtc i) ≡ crtc_register live (object_id Crtc i)

pub none_latched : (shadow live : Registers) (crtc : ℕ) → IsLatched shadow live live crtc 0
none_latched shadow live crtc =
    record { copied = λ i low is. absurd (omega (arith, low)); kept = λ i not. refl; later = λ i past. refl; crtcs = λ i. refl }

-- a plane that is copied
latched_here : {shadow live now new : Registers} {crtc n : ℕ} → IsLatched shadow live now crtc n
    → is_copied shadow live crtc (object_id Plane n) ≡ true
    → ReadSame (write_plane now (object_id Plane n) (plane_register shadow (object_id Plane n))) new
    → IsLatched shadow live new crtc (n + 1)
latched_here {shadow} {live} {now} {new} {crtc} {n} h here same =
    let words : PlaneWords = plane_register shadow (object_id Plane n) in
    let past : (i : ℕ) → n ≢ i → plane_register new (object_id Plane i) ≡ plane_register now (object_id Plane i) = λ i other.
    sym (same.planes i) ∙ read_past (first_plane_words (object_id Plane i)) words now.planes (object_id Plane n) (object_id Plane i)
    (λ e. absurd (other (omega (arith, e)))) in
    record {
      copied = λ i low is. elim (cases_eq n i) [
        | inl e ↦ sym (same.planes i) ∙ read_here (first_plane_words (object_id Plane i)) words now.planes (object_id Plane n)
            (object_id Plane i) (ap (object_id Plane) e) ∙ ap (λ (k : ℕ). plane_register shadow (object_id Plane k)) e
        | inr other ↦ past i other ∙ h.copied i (omega (arith, low, other)) is
      ];
      kept = λ i not. elim (cases_eq n i) [
        | inl e ↦ absurd (false≢true (sym not ∙ ap (λ (k : ℕ). is_copied shadow live crtc (object_id Plane k)) (sym e) ∙ here))
        | inr other ↦ past i other ∙ h.kept i not
      ];
      later = λ i after. past i (λ e. absurd (omega (arith, after, e))) ∙ h.later i (omega (arith, after));
      crtcs = λ i. sym (same.crtcs i) ∙ h.crtcs i;
    }

-- a plane that is not
latched_past : {shadow live now new : Registers} {crtc n : ℕ} → IsLatched shadow live now crtc n
    → is_copied shadow live crtc (object_id Plane n) ≡ false
    → ReadSame now new → IsLatched shadow live new crtc (n + 1)
latched_past {shadow} {live} {crtc} {n} h here same = record {
  copied = λ i low is. elim (cases_eq n i) [
    | inl e ↦ absurd (false≢true (sym here ∙ ap (λ (k : ℕ). is_copied shadow live crtc (object_id Plane k)) e ∙ is))
    | inr other ↦ sym (same.planes i) ∙ h.copied i (omega (arith, low, other)) is
  ];
  kept = λ i not. sym (same.planes i) ∙ h.kept i not;
  later = λ i after. sym (same.planes i) ∙ h.later i (omega (arith, after));
  crtcs = λ i. sym (same.crtcs i) ∙ h.crtcs i;
}

-- a plane that a latch copies
pub copied_set : (shadow live b : Registers) (crtc plane : ℕ) → is_copied shadow live crtc plane ≡ true
    → ReadSame (write_plane live plane (plane_register shadow plane)) b → ReadSame (latched_plane shadow live crtc plane) b
copied_set shadow live b crtc plane is same =
    subst (λ (test : Bool). ReadSame (if test then write_plane live plane (plane_register shadow plane) else live) b) (sym is) same

-- the next plane
pub latched_next : {shadow live now new : Registers} {crtc n : ℕ} → IsLatched shadow live now crtc n
    → ReadSame (latched_plane shadow now crtc (object_id Plane n)) new → IsLatched shadow live new crtc (n + 1)
latched_next {shadow} {live} {now} {new} {crtc} {n} h same =
    let there : PlaneWords = plane_register shadow (object_id Plane n) in
    let test : is_copied shadow now crtc (object_id Plane n)
    ≡ is_copied shadow live crtc (object_id Plane n) = ap (λ (w : PlaneWords). (w.crtc == crtc) || (there.crtc == crtc))
    (h.later n (omega arith)) in
    elim (cases_Bool (is_copied shadow live crtc (object_id Plane n))) [
      | inl on_it ↦ latched_here h on_it
          (subst (λ (b : Bool). ReadSame (if b then write_plane now (object_id Plane n) there else now) new) (test ∙ on_it) same)
      | inr off_it ↦ latched_past h off_it
          (subst (λ (b : Bool). ReadSame (if b then write_plane now (object_id Plane n) there else now) new) (test ∙ off_it) same)
    ]

abbrev planes_from : ℕ → ℕ → List ℕ
planes_from from n = map (object_id Plane) (range_with_len from n)

-- what the definition's latch copies: it leaves alone a plane that is none of those which it copies
copied_apart : (shadow live : Registers) (crtc from n i : ℕ) (d : PlaneWords)
    → ((j : ℕ) → from ≤ j → j < from + n → is_copied shadow live crtc (object_id Plane j) ≡ true → j ≡ i → ⊥)
    → read d (copied_planes shadow live crtc (planes_from from n)) (object_id Plane i) ≡ read d live.planes (object_id Plane i)
unfolding copied_planes
copied_apart shadow live crtc from zero i d apart = refl
copied_apart shadow live crtc from (suc n) i d apart =
    let rest = copied_apart shadow live crtc (from + 1) n i d
    (λ j low high on same. apart j (omega (arith, low)) (omega (arith, high)) on same) in
    elim (cases_Bool (is_copied shadow live crtc (object_id Plane from))) [
      | inl on_it ↦ rw on_it (
          read_past d (plane_register shadow (object_id Plane from)) (copied_planes shadow live crtc (planes_from (from + 1) n))
          (object_id Plane from) (object_id Plane i)
          (λ e. apart from (omega arith) (omega arith) on_it (omega (arith, e)))
          ∙ rest)
      | inr off_it ↦ rw off_it rest
    ]

pub kept-copied : (shadow live : Registers) (crtc from n i : ℕ) (d : PlaneWords) → is_copied shadow live crtc (object_id Plane i) ≡ false
    → read d (copied_planes shadow live crtc (planes_from from n)) (object_id Plane i) ≡ read d live.planes (object_id Plane i)
kept-copied shadow live crtc from n i d not =
    copied_apart shadow live crtc from n i d (λ j low high on same. absurd
    (false≢true (sym not ∙ ap (λ (k : ℕ). is_copied shadow live crtc (object_id Plane k)) (sym same) ∙ on)))

pub later-copied : (shadow live : Registers) (crtc from n i : ℕ) (d : PlaneWords) → from + n ≤ i
    → read d (copied_planes shadow live crtc (planes_from from n)) (object_id Plane i) ≡ read d live.planes (object_id Plane i)
later-copied shadow live crtc from n i d past =
    copied_apart shadow live crtc from n i d (λ j low high on same. absurd (omega (arith, high, same, past)))

pub copied-copied : (shadow live : Registers) (crtc from n i : ℕ) (d : PlaneWords) → from ≤ i → i < from + n
    → is_copied shadow live crtc (object_id Plane i) ≡ true
    → read d (copied_planes shadow live crtc (planes_from from n)) (object_id Plane i) ≡ plane_register shadow (object_id Plane i)
unfolding copied_planes
copied-copied shadow live crtc from zero i d low high is = absurd (omega (arith, low, high))
copied-copied shadow live crtc from (suc n) i d low high is =
    elim (cases_eq from i) [
      | inl e ↦ (let here : is_copied shadow live crtc (object_id Plane from)
          ≡ true = ap (λ (k : ℕ). is_copied shadow live crtc (object_id Plane k)) e ∙ is in
          rw here (read_here d (plane_register shadow (object_id Plane from)) (copied_planes shadow live crtc (planes_from (from + 1) n))
          (object_id Plane from) (object_id Plane i) (ap (object_id Plane) e)
          ∙ ap (λ (k : ℕ). plane_register shadow (object_id Plane k)) e))
      | inr other ↦ elim (cases_Bool (is_copied shadow live crtc (object_id Plane from))) [
        | inl on_it ↦ rw on_it (
            read_past d (plane_register shadow (object_id Plane from)) (copied_planes shadow live crtc (planes_from (from + 1) n))
            (object_id Plane from) (object_id Plane i) (λ e. absurd (other (omega (arith, e))))
            ∙ copied-copied shadow live crtc (from + 1) n i d (omega (arith, low, other)) (omega (arith, high)) is)
        | inr off_it ↦ rw off_it (copied-copied shadow live crtc (from + 1) n i d (omega (arith, low, other)) (omega (arith, high)) is)
      ]
    ]

-- the planes of a latch
planes_latched : (t : Topology) {shadow live now : Registers} {crtc : ℕ} → IsLatched shadow live now crtc (length t.planes) → (i : ℕ)
    → plane_register (latched_registers t shadow live crtc) (object_id Plane i) ≡ plane_register now (object_id Plane i)
planes_latched t {shadow} {live} {crtc} h i =
    let d : PlaneWords = first_plane_words (object_id Plane i) in
    elim (cases_lt i (length t.planes)) [
      | inl low ↦ elim (cases_Bool (is_copied shadow live crtc (object_id Plane i))) [
        | inl on_it ↦ copied-copied shadow live crtc 0 (length t.planes) i d (omega arith) (omega (arith, low)) on_it ∙ sym
            (h.copied i low on_it)
        | inr off_it ↦ kept-copied shadow live crtc 0 (length t.planes) i d off_it ∙ sym (h.kept i off_it)
      ]
      | inr past ↦ later-copied shadow live crtc 0 (length t.planes) i d (omega (arith, past)) ∙ sym (h.later i past)
    ]

-- the CRTC's words are copied last
crtcs_latched : (shadow live : Registers) (crtcs : List CrtcWords) (planes : List PlaneWords) (index : ℕ) (x : CrtcWords)
    → index < length crtcs → x ≡ crtc_register shadow (object_id Crtc index)
    → ((i : ℕ) → crtc_register (bank_of planes crtcs) (object_id Crtc i) ≡ crtc_register live (object_id Crtc i)) → (i : ℕ)
    → read first_crtc_words ((object_id Crtc index, crtc_register shadow (object_id Crtc index)) ∷ live.crtcs) (object_id Crtc i)
    ≡ crtc_register (bank_of planes (slice_set crtcs index x)) (object_id Crtc i)
crtcs_latched shadow live crtcs planes index x low is same i =
    let words : CrtcWords = crtc_register shadow (object_id Crtc index) in
    let set : read first_crtc_words ((object_id Crtc index, x) ∷ (bank_of planes crtcs).crtcs) (object_id Crtc i)
    ≡ crtc_register (bank_of planes (slice_set crtcs index x)) (object_id Crtc i) = read-set first_crtc_words x crtcs (object_id Crtc 0)
    index i low in
    elim (cases_eq index i) [
      | inl e ↦
          read_here first_crtc_words words live.crtcs (object_id Crtc index) (object_id Crtc i) (ap (object_id Crtc) e) ∙ sym is
          ∙ sym (read_here first_crtc_words x (bank_of planes crtcs).crtcs (object_id Crtc index) (object_id Crtc i)
          (ap (object_id Crtc) e)) ∙ set
      | inr other ↦
          read_past first_crtc_words words live.crtcs (object_id Crtc index) (object_id Crtc i) (λ e. absurd (other (omega (arith, e))))
          ∙ sym (same i) ∙ sym (read_past first_crtc_words x (bank_of planes crtcs).crtcs (object_id Crtc index) (object_id Crtc i)
          (λ e. absurd (other (omega (arith, e))))) ∙ set
    ]

-- a whole latch
pub latched_all : (t : Topology) {shadow live now : Registers} (planes : List PlaneWords) (crtcs : List CrtcWords) {n : ℕ} (index : ℕ)
    {x : CrtcWords} → IsLatched shadow live now (object_id Crtc index) n → n ≡ length t.planes
    → bank_of planes crtcs ≡ now → index < length crtcs → x ≡ crtc_register shadow (object_id Crtc index)
    → ReadSame (latched_registers t shadow live (object_id Crtc index)) (bank_of planes (slice_set crtcs index x))
latched_all t {shadow} {live} planes crtcs {n} index {x} h all is low same =
    let whole : IsLatched shadow live (bank_of planes crtcs) (object_id Crtc index) (length t.planes) =
    subst (λ (k : ℕ). IsLatched shadow live (bank_of planes crtcs) (object_id Crtc index) k) all
    (subst (λ (r : Registers). IsLatched shadow live r (object_id Crtc index) n) (sym is) h) in
    record {
      planes = planes_latched t whole;
      crtcs = crtcs_latched shadow live
          crtcs planes index x low same whole.crtcs;
    }

-- The words at the start

-- the planes below a number have their first words
pub record AreFirst (planes : List PlaneWords) (n : ℕ) : Type 0 where
  pub long : length planes ≡ 16
  pub first : (i : ℕ) → i < n → get_or planes i (first_plane_words (object_id Plane i)) ≡ first_plane_words (object_id Plane i)

-- one plane more
pub first_next : {planes : List PlaneWords} {n : ℕ} {x : PlaneWords} → AreFirst planes n → n < 16
    → x ≡ first_plane_words (object_id Plane n) → AreFirst (slice_set planes n x) (n + 1)
first_next {planes} {n} {x} h low is = record {
  long = length-set planes n x ∙ h.long;
  first = λ i below. elim (cases_eq i n) [
    | inl e ↦ get_or-set_at planes n i x (first_plane_words (object_id Plane i)) e (omega (arith, h.long, low)) ∙ is ∙ ap
        (λ (k : ℕ). first_plane_words (object_id Plane k)) (sym e)
    | inr other ↦ get_or-set_other planes n i x (first_plane_words (object_id Plane i)) other ∙ h.first i (omega (arith, below, other))
  ];
}

-- all words are those at the start
pub first_all : {planes : List PlaneWords} {n : ℕ} {x : CrtcWords} → AreFirst planes n → 16 ≤ n → x ≡ first_crtc_words
    → ReadSame first_registers (bank_of planes (x ∷ x ∷ x ∷ x ∷ []))
unfolding read
first_all {planes} h all is = record {
  planes = λ i. sym (read-with_ids (first_plane_words (object_id Plane i)) planes (object_id Plane 0) i (object_id Plane i) refl ∙
      elim (cases_lt i 16) [
        | inl low ↦ h.first i (omega (arith, low, all))
        | inr past ↦ get_or-eq_default planes (first_plane_words (object_id Plane i)) (omega (arith, h.long, past))
      ]);
  crtcs = λ i. sym (ap (λ (w : CrtcWords). crtc_register (bank_of planes (w ∷ w ∷ w ∷ w ∷ [])) (object_id Crtc i)) is
      ∙ read-with_ids first_crtc_words (first_crtc_words ∷ first_crtc_words ∷ first_crtc_words ∷ first_crtc_words ∷ []) (object_id Crtc 0) i
      (object_id Crtc i) refl ∙ four_alike first_crtc_words i);
}
