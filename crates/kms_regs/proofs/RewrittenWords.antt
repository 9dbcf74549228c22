-- Words that are written where they differ.
use Rattle.std.proofs.Common.{◌≡◌, ◌≢◌, ℕ, zero, suc, ◌+◌, ◌<◌, ◌≤◌, List, [], ◌∷◌, length, get_or, inl, inr, arith, refl, sym, ap, ◌∙◌}
use Rattle.std.specs.Prelude.{◌==◌, slice_set}
use Rattle.std.proofs.lemmas.Bool.{cases_Bool, cases_lt, eqb-true}
use Rattle.std.proofs.lemmas.List.{ext_get_or, get_or-set_other, get_or-set_same, length-set}
use Rattle.kms_model.specs.Machine.Registers.{CrtcWords, PlaneWords}
use Rattle.kms_regs.specs.Rewritten.{rewritten, rewritten_crtc, rewritten_plane, rewritten_words}

-- a word that is the old one becomes the new one
pub rewritten_old : (old new : ℕ) → rewritten old old new ≡ new
rewritten_old old new =
    elim (cases_Bool (old == new)) [
      | inl same ↦ rw same (eqb-true old new same)
      | inr apart ↦ rw apart refl
    ]

pub words_old : (old new : List ℕ) → rewritten_words old old new ≡ new
words_old [] new = refl
words_old (o ∷ os) [] = refl
words_old (o ∷ os) (n ∷ ns) = (λ i. rewritten_old o n i ∷ words_old os ns i)

pub plane_old : (old new : PlaneWords) → rewritten_plane old old new ≡ new
plane_old old new = (λ i. record {
  crtc = rewritten_old old.crtc new.crtc i;
  fb = rewritten_old old.fb new.fb i;
  fb_width = rewritten_old old.fb_width new.fb_width i;
  fb_height = rewritten_old old.fb_height new.fb_height i;
  fb_format = rewritten_old old.fb_format new.fb_format i;
  x = rewritten_old old.x new.x i;
  y = rewritten_old old.y new.y i;
  w = rewritten_old old.w new.w i;
  h = rewritten_old old.h new.h i;
  src_x = rewritten_old old.src_x new.src_x i;
  src_y = rewritten_old old.src_y new.src_y i;
  src_w = rewritten_old old.src_w new.src_w i;
  src_h = rewritten_old old.src_h new.src_h i;
  alpha = rewritten_old old.alpha new.alpha i;
  blend = rewritten_old old.blend new.blend i;
  zpos = rewritten_old old.zpos new.zpos i;
})

pub crtc_old : (old new : CrtcWords) → rewritten_crtc old old new ≡ new
crtc_old old new = (λ i. record {
  active = rewritten_old old.active new.active i;
  conn = rewritten_old old.conn new.conn i;
  mode = words_old old.mode new.mode i;
  gamma_on = rewritten_old old.gamma_on new.gamma_on i;
  gamma = words_old old.gamma new.gamma i;
})

-- Words that are written place by place

pub length-rewritten : (words old new : List ℕ) → length words ≡ length old → length words ≡ length new
    → length (rewritten_words words old new) ≡ length words
length-rewritten [] [] [] a b = refl
length-rewritten [] [] (n ∷ ns) a b = absurd (omega (arith, b))
length-rewritten [] (o ∷ os) ns a b = absurd (omega (arith, a))
length-rewritten (w ∷ ws) [] ns a b = absurd (omega (arith, a))
length-rewritten (w ∷ ws) (o ∷ os) [] a b = absurd (omega (arith, b))
length-rewritten (w ∷ ws) (o ∷ os) (n ∷ ns) a b = ap suc (length-rewritten ws os ns (omega (arith, a)) (omega (arith, b)))

at-rewritten : (words old new : List ℕ) (p : ℕ) → length words ≡ length old → length words ≡ length new → p < length words
    → get_or (rewritten_words words old new) p 0 ≡ rewritten (get_or words p 0) (get_or old p 0) (get_or new p 0)
at-rewritten [] old new p a b low = absurd (omega (arith, low))
at-rewritten (w ∷ ws) [] new p a b low = absurd (omega (arith, a))
at-rewritten (w ∷ ws) (o ∷ os) [] p a b low = absurd (omega (arith, b))
at-rewritten (w ∷ ws) (o ∷ os) (n ∷ ns) zero a b low = refl
at-rewritten (w ∷ ws) (o ∷ os) (n ∷ ns) (suc p) a b low = at-rewritten ws os ns p (omega (arith, a)) (omega (arith, b)) (omega (arith, low))

-- the places below a number are written, of as many words as there are
pub record AreWritten (first old new words : List ℕ) (n : ℕ) : Type 0 where
  pub long : length words ≡ length first
  pub below : (p : ℕ) → p < n → get_or words p 0 ≡ rewritten (get_or first p 0) (get_or old p 0) (get_or new p 0)
  pub behind : (p : ℕ) → n ≤ p → get_or words p 0 ≡ get_or first p 0

pub written_next : {first old new words : List ℕ} {n x : ℕ} → AreWritten first old new words n → n < length words
    → x ≡ rewritten (get_or words n 0) (get_or old n 0) (get_or new n 0)
    → AreWritten first old new (slice_set words n x) (n + 1)
written_next {old} {new} {words} {n} {x} h low is = record {
  long = length-set words n x ∙ h.long;
  below = λ p up. elim (cases_lt p n) [
    | inl less ↦ (let apart : p ≢ n = omega arith in get_or-set_other words n p x 0 apart ∙ h.below p less)
    | inr other ↦ (let same : p ≡ n = omega arith in
        rw same (get_or-set_same words n x 0 low ∙ is ∙ ap (λ w. rewritten w (get_or old n 0) (get_or new n 0)) (h.behind n (omega arith))))
  ];
  behind = λ p from. (let apart : p ≢ n = omega arith in get_or-set_other words n p x 0 apart ∙ h.behind p (omega arith));
}

pub written_all : {first old new words : List ℕ} {n : ℕ} → AreWritten first old new words n → length first ≤ n → length first ≡ length old
    → length first ≡ length new → words ≡ rewritten_words first old new
written_all {first} {old} {new} {words} h all a b =
    ext_get_or 0 words (rewritten_words first old new) (h.long ∙ sym (length-rewritten first old new a b))
    (λ p low. h.below p (omega (arith, low, h.long, all)) ∙ sym (at-rewritten first old new p a b (omega (arith, low, h.long))))
