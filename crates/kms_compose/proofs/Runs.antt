-- A run of words put over a row, and opaque layers.
use Rattle.std.proofs.Common.{◌≡◌, ◌<◌, ◌≤◌, ℕ, ◌+◌, ◌-◌, ◌*◌, ◌/◌, min, if◌then◌else◌, Bool, true, false, not, ◌||◌, ◌==◌, cond, List}
use Rattle.std.proofs.Common.{length, take, drop, slice_index, Some, ◌⊎◌, inl, inr, ⊎_elim, arith, rules, refl, ap, ◌∙◌}
use Rattle.std.proofs.lemmas.Bool.{and_parts, cases_lt, eqb-true, not-true}
use Rattle.std.specs.List.{flat_map, range_with_len}
use Rattle.std.proofs.lemmas.List.{places}
use borrow.Rule.Slice.PartMut.{put_mid}
use Rattle.kms_model.specs.declared.objects.Format.{Format}
use Rattle.kms_model.specs.declared.objects.Format.TheVariants.{Xr24, Ar24, Rg16}
use Rattle.kms_model.specs.declared.pictures.Colour.{Colour}
use Rattle.kms_model.specs.declared.pictures.Layer.{Layer}
use Rattle.kms_model.specs.Frames.FrameBytes.{blended, channels, colour_of, opaque}
use Rattle.kms_compose.specs.Parts.{channel_over, colour_at, has_alpha, is_opaque, run_colour}
use Rattle.kms_compose.proofs.Canvas.{before_run, behind_run, inside_run, range_moved}

module _ (old run : List ℕ) (left n x : ℕ) (long : length run ≡ n) (fits : left + n ≤ length old) where
  before : x < left → slice_index (put_mid left n old run) x ≡ slice_index old x
  before h = search (rules, places)

  pub inside : left ≤ x → x < left + n → slice_index (put_mid left n old run) x ≡ slice_index run (x - left)
  inside h k = search (rules, places)

  behind : left + n ≤ x → slice_index (put_mid left n old run) x ≡ slice_index old x
  behind h = search (rules, places)

-- what a row has after a run of words was put over a part of it, of which n is the length
pub run_over : (l : Layer) (channel : Colour → ℕ) (words old run : List ℕ) (left n : ℕ) → n ≡ length words → length run ≡ length words →
    left + length words ≤ length old →
    ((k : ℕ) → k < length words → slice_index run k ≡ channel_over l channel (Some (colour_of l.fb.format (slice_index words k)))
    (slice_index old (left + k))) →
    (x : ℕ) → slice_index (put_mid left n old run) x ≡ channel_over l channel (run_colour l.fb.format words left x) (slice_index old x)
run_over l channel words old run left n e long fits each x =
    ⊎_elim
    (λ h. let none = before_run left (length words) x h in rw none (before old run left n x (omega arith) (omega arith) h))
    (λ h. ⊎_elim
    (λ k. let some = inside_run left (length words) x h k in
    rw some (inside old run left n x (omega arith) (omega arith) h (omega arith) ∙ each (x - left) (omega arith) ∙ ap
    (λ (i : ℕ). channel_over l channel (Some (colour_of l.fb.format (slice_index words (x - left)))) (slice_index old i)) (omega arith)))
    (λ k. let none = behind_run left (length words) x k in rw none (behind old run left n x (omega arith) (omega arith) (omega arith)))
    (cases_lt x (left + length words)))
    (cases_lt x left)

cond_same : {A : Type 0} (b : Bool) (x : A) → cond b x x ≡ x
cond_same true x = refl
cond_same false x = refl

-- an opaque layer shows its own channel
opaque_pixel : (mode a q f b : ℕ) → a ≡ 65535 → (mode ≡ 2) ⊎ (q ≡ 255) → f ≤ 255 → blended mode a q f b ≡ f
opaque_pixel mode a q f b e (inl h) small = rw (e, h) (omega arith)
opaque_pixel mode a q f b e (inr h) small = rw (e, h, cond_same, cond_same) (omega arith)

opaque_alpha : (format : Format) (word : ℕ) → has_alpha format ≡ false → (colour_of format word).alpha ≡ 255
opaque_alpha Xr24 word h = refl
opaque_alpha Ar24 word h = cc
opaque_alpha Rg16 word h = refl

-- its blend mode does not look at its pixels' alpha, or that is 255
alpha_hidden : (mode : ℕ) (format : Format) (word : ℕ) (b : Bool) → (mode == 2) ≡ b → (b || not (has_alpha format)) ≡ true →
    (mode ≡ 2) ⊎ ((colour_of format word).alpha ≡ 255)
alpha_hidden mode format word true e h = inl (eqb-true mode 2 e)
alpha_hidden mode format word false e h = inr (opaque_alpha format word (not-true (has_alpha format) h))

pub opaque_over : (l : Layer) (channel : Colour → ℕ) (word under : ℕ) → is_opaque l ≡ true → channel (colour_of l.fb.format word) ≤ 255 →
    channel_over l channel (Some (colour_of l.fb.format word)) under ≡ channel (colour_of l.fb.format word)
opaque_over l channel word under h small =
    let parts = and_parts (l.alpha == 65535) ((l.blend == 2) || not (has_alpha l.fb.format)) h in
    opaque_pixel l.blend l.alpha (colour_of l.fb.format word).alpha (channel (colour_of l.fb.format word)) under
    (eqb-true l.alpha 65535 parts.0) (alpha_hidden l.blend l.fb.format word (l.blend == 2) refl parts.1) small

-- where the alpha is 255, each blend mode is None
pub none_same : (format : Format) (mode a f b word : ℕ) → has_alpha format ≡ false →
    blended 2 a (colour_of format word).alpha f b ≡ blended mode a (colour_of format word).alpha f b
none_same format mode a f b word h =
    rw (opaque_alpha format word h)
    (ap (λ (n : ℕ). min 255 ((n + 8355712) / opaque)) (either (mode == 0) (mode == 1) (a * 255 * f + (opaque - a * 255) * b)))
  where
    either : (t u : Bool) (n : ℕ) → n ≡ (if t then n else (if u then n else n))
    either true u n = refl
    either false true n = refl
    either false false n = refl

pub blended_same : (mode a q q' f f' b b' : ℕ) → q ≡ q' → f ≡ f' → b ≡ b' → blended mode a q f b ≡ blended mode a q' f' b'
blended_same mode a q q' f f' b b' e e' e'' = rw (e, e', e'') refl

-- a place of a part of a row
pub part_place : (old : List ℕ) (left n k : ℕ) → k < n → slice_index (take n (drop left old)) k ≡ slice_index old (left + k)
part_place old left n k h = search (rules, places)

-- one of the first places
pub front_place : (old : List ℕ) (n k : ℕ) → k < n → slice_index (take n old) k ≡ slice_index old k
front_place old n k h = search (rules, places)

-- a colour at one of the first places
front_colour : (red green blue : List ℕ) (n x : ℕ) → x < n → colour_at (take n red) (take n green) (take n blue) x
    ≡ colour_at red green blue x
front_colour red green blue n x h = rw (front_place red n x h, front_place green n x h, front_place blue n x h) refl

-- the bytes of the first pixels
pub front_bytes : (f : ℕ → List ℕ) (red green blue : List ℕ) (left n : ℕ) → length (take n red) ≡ n
    → ((x : ℕ) → x < n → channels (colour_at red green blue x) ≡ f (left + x))
    → flat_map (λ x. channels (colour_at (take n red) (take n green) (take n blue) x)) (range_with_len 0 (length (take n red)))
    ≡ flat_map f (range_with_len left n)
front_bytes f red green blue left n long same =
    let shown = λ (x : ℕ). channels (colour_at (take n red) (take n green) (take n blue) x) in
    ap (λ (m : ℕ). flat_map shown (range_with_len 0 m)) long
    ∙ range_moved shown f 0 left n (λ k i j here there below.
    ap channels (front_colour red green blue n i (omega (arith, here, below)))
    ∙ same i (omega (arith, here, below))
    ∙ ap f (omega (arith, here, there)))
