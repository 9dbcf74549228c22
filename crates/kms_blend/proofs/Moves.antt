-- A blended channel as the lower one, moved by a part of what lies between the layer's and its own.
use Rattle.std.proofs.Common.{◌≡◌, ◌<◌, ◌≤◌, ℕ, ◌+◌, ◌-◌, ◌*◌, ◌/◌, ◌%◌, Bool, true, false, cond, ltb, min, bit_and, bit_xor, refl, sym, ap}
use Rattle.std.proofs.Common.{◌∙◌, arith, ltb-true, ltb-false}
use Rattle.std.proofs.lemmas.Nat.{and_mask}
use Rattle.std.specs.Int.Bits.{xor_add_and, xor_zero_r}
use Rattle.kms_blend.specs.Lanes.{apart, moved}
use Rattle.kms_blend.proofs.LaneByLane.{add16, down, small_product, sub16}

-- Nearest quotients of a product n below 2 ^ 31, from its upper and lower 16 bits

pub of_small : (n upper lower : ℕ) → n < 2147483648 → upper ≡ n / 65536 → lower ≡ n % 65536 →
    add16 (n / 65536) (down (min 65535 (upper + lower)) 15) ≡ (n + 32767) / 65535
of_small n upper lower h u l = rw (u, l) (counted n h)
  where
    counted : (n : ℕ) → n < 2147483648 → add16 (n / 65536) (down (min 65535 (n / 65536 + n % 65536)) 15) ≡ (n + 32767) / 65535
    counted n h = omega (arith, h)

-- what is left of a number, with a part of it, is all of it
whole : (m p b : ℕ) → p ≤ m → (m - p) * b + p * b ≡ m * b
whole m p b h =
    let is : m - p + p ≡ m = omega (arith, h) in
    sym (parted (m - p) p b) ∙ ap (λ (n : ℕ). n * b) is
  where
    parted : (w p b : ℕ) → (w + p) * b ≡ w * b + p * b
    parted w p b = omega arith

-- the nearest number to a part is the whole less that to the rest, since 65535 is odd
pub of_rest : (a v : ℕ) → a ≤ 65535 → v ≤ 65535 → sub16 v (((65535 - a) * v + 32767) / 65535) ≡ (a * v + 32767) / 65535
of_rest a v ha hv = halves (a * v) ((65535 - a) * v) v hv (whole 65535 a v ha)
  where
    halves : (p r v : ℕ) → v ≤ 65535 → r + p ≡ 65535 * v → sub16 v ((r + 32767) / 65535) ≡ (p + 32767) / 65535
    halves p r v hv all = omega (arith, hv, all)

pub over_255 : (x : ℕ) → x ≤ 65025 → 257 * add16 x 128 / 65536 ≡ (x + 127) / 255
over_255 x h = omega (arith, h)

pub over_opaque : (n : ℕ) → ((n + 32767) / 65535 + 127) / 255 ≡ (n + 8355712) / 16711425
over_opaque n = omega arith

pub over_opaque_255 : (n : ℕ) → (n + 32767) / 65535 ≡ (255 * n + 8355712) / 16711425
over_opaque_255 n = omega arith

-- The lower channel and what a layer shows and hides of it, as numerators: shown, hidden, what is left of the lower one, and how far
-- the first two are apart. Half a quotient does not come up, since the denominator is odd

nearer : (t : Bool) (shown hidden left between b : ℕ) → b ≤ 255 → left + hidden ≡ 16711425 * b →
    (t ≡ true → shown ≡ hidden + between) → (t ≡ false → hidden ≡ shown + between) →
    cond t (min 255 (b + (between + 8355712) / 16711425)) (b - (between + 8355712) / 16711425)
    ≡ min 255 ((shown + left + 8355712) / 16711425)
nearer true shown hidden left between b hb all up down = let u = up refl in omega (arith, hb, all, u)
nearer false shown hidden left between b hb all up down = let d = down refl in omega (arith, hb, all, d)

grows : (a u v : ℕ) → u ≤ v → a * v ≡ a * u + a * apart u v
grows a u v h =
    let is : v ≡ u + apart u v = omega (arith, h) in
    ap (λ (n : ℕ). a * n) is ∙ shared a u (apart u v)
  where
    shared : (a u d : ℕ) → a * (u + d) ≡ a * u + a * d
    shared a u d = omega arith

falls : (a u v : ℕ) → v ≤ u → a * u ≡ a * v + a * apart u v
falls a u v h =
    let is : u ≡ v + apart u v = omega (arith, h) in
    ap (λ (n : ℕ). a * n) is ∙ shared a v (apart u v)
  where
    shared : (a u d : ℕ) → a * (u + d) ≡ a * u + a * d
    shared a u d = omega arith

-- with the weights a * s and a * h, and the numbers u = s * f and v = h * b
at_weights : (a s h f b to from : ℕ) → b ≤ 255 → a * h ≤ 16711425 →
    (ltb from to ≡ true → h * b ≤ s * f) → (ltb from to ≡ false → s * f ≤ h * b) →
    moved to from b ((a * apart (s * f) (h * b) + 8355712) / 16711425) ≡ min 255 ((a * s * f + (16711425 - a * h) * b + 8355712) / 16711425)
at_weights a s h f b to from hb small up down =
    nearer (ltb from to) (a * s * f) (a * h * b) ((16711425 - a * h) * b) (a * apart (s * f) (h * b)) b hb (whole 16711425 (a * h) b small)
    (λ e. grouped a s f ∙ falls a (s * f) (h * b) (up e) ∙ ap (λ (n : ℕ). n + a * apart (s * f) (h * b)) (sym (grouped a h b)))
    (λ e. grouped a h b ∙ grows a (s * f) (h * b) (down e) ∙ ap (λ (n : ℕ). n + a * apart (s * f) (h * b)) (sym (grouped a s f)))
  where
    grouped : (a b c : ℕ) → a * b * c ≡ a * (b * c)
    grouped a b c = omega arith

pub premultiplied : (a q f b : ℕ) → a ≤ 65535 → q ≤ 255 → b ≤ 255 →
    moved (255 * f) (q * b) b ((a * apart (255 * f) (q * b) + 8355712) / 16711425)
    ≡ min 255 ((a * 255 * f + (16711425 - a * q) * b + 8355712) / 16711425)
premultiplied a q f b ha hq hb =
    let small = small_product a q 65535 255 ha hq in
    at_weights a 255 q f b (255 * f) (q * b) hb (omega (arith, small))
    (λ e. let above = ltb-true (q * b) (255 * f) e in omega (arith, above))
    (λ e. let below = ltb-false (q * b) (255 * f) e in omega (arith, below))

-- weights that are the same for both: then the channels tell which way
with_one_weight : (a s f b : ℕ) → b ≤ 255 → a * s ≤ 16711425 →
    moved f b b ((a * (s * apart f b) + 8355712) / 16711425) ≡ min 255 ((a * s * f + (16711425 - a * s) * b + 8355712) / 16711425)
with_one_weight a s f b hb small =
    ap (λ (n : ℕ). moved f b b ((a * n + 8355712) / 16711425)) (spread s f b (ltb f b) refl)
    ∙ at_weights a s s f b f b hb small
    (λ e. let above = ltb-true b f e in small_product s b s f (omega arith) (omega (arith, above)))
    (λ e. let below = ltb-false b f e in small_product s f s b (omega arith) (omega (arith, below)))
  where
    spread : (s f b : ℕ) (t : Bool) → ltb f b ≡ t → s * apart f b ≡ apart (s * f) (s * b)
    spread s f b true e =
        let below = ltb-true f b e in
        let g = grows s f b (omega (arith, below)) in omega (arith, g)
    spread s f b false e =
        let above = ltb-false f b e in
        let g = falls s f b (omega (arith, above)) in omega (arith, g)

pub by_coverage : (a q f b : ℕ) → a ≤ 65535 → q ≤ 255 → b ≤ 255 →
    moved f b b ((a * (q * apart f b) + 8355712) / 16711425) ≡ min 255 ((a * q * f + (16711425 - a * q) * b + 8355712) / 16711425)
by_coverage a q f b ha hq hb = let small = small_product a q 65535 255 ha hq in with_one_weight a q f b hb (omega (arith, small))

pub by_plane : (a f b : ℕ) → a ≤ 65535 → b ≤ 255 →
    moved f b b ((a * apart f b + 32767) / 65535) ≡ min 255 ((a * 255 * f + (16711425 - a * 255) * b + 8355712) / 16711425)
by_plane a f b ha hb =
    ap (moved f b b) (over_opaque_255 (a * apart f b) ∙ ap (λ (n : ℕ). (n + 8355712) / 16711425) (turned a (apart f b)))
    ∙ with_one_weight a 255 f b hb (omega (arith, ha))
  where
    turned : (a d : ℕ) → 255 * (a * d) ≡ a * (255 * d)
    turned a d = omega arith

-- downwards, what a channel lacks of 255 goes up
pub by_turns : (to from b by turned sum : ℕ) → b ≤ 255 → turned ≡ cond (ltb from to) b (255 - b) → sum ≡ min 255 (turned + by) →
    cond (ltb from to) sum (255 - sum) ≡ moved to from b by
by_turns to from b by turned sum hb t s = rw (s, t) (either (ltb from to))
  where
    either : (t : Bool) → cond t (min 255 (cond t b (255 - b) + by)) (255 - min 255 (cond t b (255 - b) + by))
        ≡ cond t (min 255 (b + by)) (b - by)
    either true = refl
    either false = omega (arith, hb)

-- a test that was written down as 0 or 255
pub told : (d u v b by : ℕ) → d ≡ cond (ltb v u) 0 255 → moved 1 d b by ≡ moved u v b by
told d u v b by is = rw is (either (ltb v u))
  where
    either : (t : Bool) → moved 1 (cond t 0 255) b by ≡ cond t (min 255 (b + by)) (b - by)
    either true = refl
    either false = refl

opposite : (b : ℕ) → b ≤ 255 → bit_xor b 255 ≡ 255 - b
opposite b h =
    let sum = xor_add_and b 255 in
    let same : bit_and b 255 ≡ b % 256 = and_mask b 8 in omega (arith, sum, same, h)

pub turned_by : (b d : ℕ) → b ≤ 255 → d ≡ cond (ltb d 1) 0 255 → bit_xor b d ≡ cond (ltb d 1) b (255 - b)
turned_by b d h is = either (ltb d 1) is
  where
    either : (t : Bool) → d ≡ cond t 0 255 → bit_xor b d ≡ cond t b (255 - b)
    either true none = ap (bit_xor b) none ∙ xor_zero_r b
    either false full = ap (bit_xor b) full ∙ opposite b h

-- the same as `premultiplied`, with the parts of it by themselves
pub premultiplied_by : (a q f b shown hidden distance by d : ℕ) → a ≤ 65535 → q ≤ 255 → b ≤ 255 →
    shown ≡ 255 * f → hidden ≡ q * b → distance ≡ apart shown hidden → by ≡ (a * distance + 8355712) / 16711425 →
    d ≡ cond (ltb hidden shown) 0 255 →
    moved 1 d b by ≡ min 255 ((a * 255 * f + (16711425 - a * q) * b + 8355712) / 16711425)
premultiplied_by a q f b shown hidden distance by d ha hq hb s h apart_is by_is is =
    told d shown hidden b by is ∙ rw (by_is, apart_is, s, h) (premultiplied a q f b ha hq hb)
