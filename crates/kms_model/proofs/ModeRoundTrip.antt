-- A mode's bytes, written and read.
use Rattle.std.proofs.Common.{◌≡◌, ℕ, ◌+◌, ◌<◌, ◌≤◌, List, [], ◌∷◌, ◌++◌, length, get_or, take, drop, Bool, true, false, Ok, Err, IsTrue}
use Rattle.std.proofs.Common.{inl, inr, refl, sym, ap, ◌∙◌, subst, zero, suc, zero-add, arith, rules}
use Rattle.std.specs.Prelude.{not, ◌&&◌, ◌==◌, nat_lt, nat_le, IfOk, if◌then◌else◌}
use Rattle.std.specs.Int.{w16, w32, to_le_bytes, from_le_bytes}
use Rattle.std.proofs.lemmas.Bool.{cases_lt, eq-eqb}
use Rattle.std.proofs.lemmas.Bool.Decides.{eqb_tells}
use Rattle.std.proofs.lemmas.List.{take-append-drop, get_or-take, get_or-drop, length-take, length-drop, take_all, get_or_past}
use Rattle.std.proofs.Math.Seq.{drop-nil}
use Rattle.std.proofs.lemmas.Nat.{le_bytes_2, le_bytes_4, from_le_bytes-to_le_bytes_2, from_le_bytes-to_le_bytes_4}
use Rattle.kms_model.specs.declared.objects.Mode.{Mode}
use Rattle.kms_model.specs.declared.things.BadMode.TheVariants.{Horizontal, Vertical, Clock, Size}
use Rattle.kms_model.specs.Device.Modes.{is_axis, is_legal_mode}
use Rattle.kms_model.specs.Device.ModeRanges.{FitsTypes}
use Rattle.kms_model.specs.Device.ModeBytes.{mode_bytes, mode_held, if_legal, decoded}

-- bytes are below 256
pub record AreBytes (bytes : List ℕ) : Type 0 where
  pub small : (i : ℕ) → get_or bytes i 0 < 256

part_small : (bytes : List ℕ) (at n : ℕ) → AreBytes bytes → (i : ℕ) → get_or (take n (drop at bytes)) i 0 < 256
part_small bytes at n small i = elim (cases_lt i n) [
  | inl within ↦ rw (get_or-take n (drop at bytes) i 0 within, get_or-drop at bytes i 0) (small.small (at + i))
  | inr past ↦ rw (get_or_past (take n (drop at bytes)) i 0 (simp length-take (omega arith))) (omega arith)
]

half_back : (bytes : List ℕ) (at : ℕ) → AreBytes bytes → at + 2 ≤ length bytes
    → to_le_bytes w16 (from_le_bytes w16 (take 2 (drop at bytes))) ≡ take 2 (drop at bytes)
half_back bytes at small within = le_bytes_2 (take 2 (drop at bytes)) _ (simp (length-take, length-drop) (omega arith))
    (part_small bytes at 2 small) refl

word_back : (bytes : List ℕ) (at : ℕ) → AreBytes bytes → at + 4 ≤ length bytes
    → to_le_bytes w32 (from_le_bytes w32 (take 4 (drop at bytes))) ≡ take 4 (drop at bytes)
word_back bytes at small within = le_bytes_4 (take 4 (drop at bytes)) _ (simp (length-take, length-drop) (omega arith))
    (part_small bytes at 4 small) refl

drops : (n at : ℕ) (xs : List ℕ) → drop n (drop at xs) ≡ drop (at + n) xs
drops n zero xs = ap (λ (k : ℕ). drop k xs) (sym (zero-add n))
drops n (suc at) [] = let e : suc at + n ≡ suc (at + n) = omega arith in rw e (drop-nil n)
drops n (suc at) (x ∷ xs) = let e : suc at + n ≡ suc (at + n) = omega arith in rw e (drops n at xs)

abbrev pub made : (a0 a1 a2 a3 a4 a5 a6 a7 a8 a9 a10 a11 a12 a13 : ℕ) → List ℕ → Mode
made a0 a1 a2 a3 a4 a5 a6 a7 a8 a9 a10 a11 a12 a13 name =
    record {
      clock = a0;
      hdisplay = a1;
      hsync_start = a2;
      hsync_end = a3;
      htotal = a4;
      hskew = a5;
      vdisplay = a6;
      vsync_start = a7;
      vsync_end = a8;
      vtotal = a9;
      vscan = a10;
      vrefresh = a11;
      flags = a12;
      kind = a13;
      name = name;
    }

same_made : (a0 a1 a2 a3 a4 a5 a6 a7 a8 a9 a10 a11 a12 a13 b0 b1 b2 b3 b4 b5 b6 b7 b8 b9 b10 b11 b12 b13 : ℕ) (n p : List ℕ) → a0 ≡ b0 → a1
    ≡ b1 → a2 ≡ b2 → a3 ≡ b3 → a4 ≡ b4 → a5 ≡ b5 → a6 ≡ b6 → a7 ≡ b7 → a8 ≡ b8 → a9 ≡ b9 → a10 ≡ b10 → a11 ≡ b11 → a12 ≡ b12 → a13 ≡ b13 → n
    ≡ p → made a0 a1 a2 a3 a4 a5 a6 a7 a8 a9 a10 a11 a12 a13 n ≡ made b0 b1 b2 b3 b4 b5 b6 b7 b8 b9 b10 b11 b12 b13 p
same_made a0 a1 a2 a3 a4 a5 a6 a7 a8 a9 a10 a11 a12 a13 b0 b1 b2 b3 b4 b5 b6 b7 b8 b9 b10 b11 b12 b13 n p e0 e1 e2 e3 e4 e5 e6 e7 e8 e9 e10
    e11 e12 e13 e = rw (e0, e1, e2, e3, e4, e5, e6, e7, e8, e9, e10, e11, e12, e13, e) refl

-- the mode that a mode's bytes hold is that mode
pub mode_held-mode_bytes : (m : Mode) → FitsTypes m → mode_held (mode_bytes m) ≡ m
mode_held-mode_bytes m fits =
    same_made _ _ _ _ _ _ _ _ _ _ _ _ _ _ _ _ _ _ _ _ _ _ _ _ _ _ _ _ _ _
    (from_le_bytes-to_le_bytes_4 m.clock fits.front.clock)
    (from_le_bytes-to_le_bytes_2 m.hdisplay fits.front.hdisplay)
    (from_le_bytes-to_le_bytes_2 m.hsync_start fits.front.hsync_start)
    (from_le_bytes-to_le_bytes_2 m.hsync_end fits.front.hsync_end)
    (from_le_bytes-to_le_bytes_2 m.htotal fits.front.htotal)
    (from_le_bytes-to_le_bytes_2 m.hskew fits.front.hskew)
    (from_le_bytes-to_le_bytes_2 m.vdisplay fits.middle.vdisplay)
    (from_le_bytes-to_le_bytes_2 m.vsync_start fits.middle.vsync_start)
    (from_le_bytes-to_le_bytes_2 m.vsync_end fits.middle.vsync_end)
    (from_le_bytes-to_le_bytes_2 m.vtotal fits.middle.vtotal)
    (from_le_bytes-to_le_bytes_2 m.vscan fits.middle.vscan)
    (from_le_bytes-to_le_bytes_4 m.vrefresh fits.back.vrefresh)
    (from_le_bytes-to_le_bytes_4 m.flags fits.back.flags)
    (from_le_bytes-to_le_bytes_4 m.kind fits.back.kind)
    (take_all 32 m.name (omega (arith, fits.back.name)))

-- a part and what stands behind it
joined : (bytes part rest : List ℕ) (at n : ℕ) → part ≡ take n (drop at bytes) → rest ≡ drop n (drop at bytes) → part ++ rest
    ≡ drop at bytes
joined bytes part rest at n first second = rw (first, second) (take-append-drop n (drop at bytes))

-- the bytes of the mode that 68 bytes hold are those bytes
pub mode_bytes-mode_held : (bytes : List ℕ) → AreBytes bytes → length bytes ≡ 68 → mode_bytes (mode_held bytes) ≡ bytes
mode_bytes-mode_held bytes small long =
    (joined bytes _ _ 0 4 (word_back bytes 0 small (omega arith))
    ((joined bytes _ _ 4 2 (half_back bytes 4 small (omega arith))
    ((joined bytes _ _ 6 2 (half_back bytes 6 small (omega arith))
    ((joined bytes _ _ 8 2 (half_back bytes 8 small (omega arith))
    ((joined bytes _ _ 10 2 (half_back bytes 10 small (omega arith))
    ((joined bytes _ _ 12 2 (half_back bytes 12 small (omega arith))
    ((joined bytes _ _ 14 2 (half_back bytes 14 small (omega arith))
    ((joined bytes _ _ 16 2 (half_back bytes 16 small (omega arith))
    ((joined bytes _ _ 18 2 (half_back bytes 18 small (omega arith))
    ((joined bytes _ _ 20 2 (half_back bytes 20 small (omega arith))
    ((joined bytes _ _ 22 2 (half_back bytes 22 small (omega arith))
    ((joined bytes _ _ 24 4 (word_back bytes 24 small (omega arith))
    ((joined bytes _ _ 28 4 (word_back bytes 28 small (omega arith))
    ((joined bytes _ _ 32 4 (word_back bytes 32 small (omega arith))
    ((take_all 32 (drop 36 bytes) (simp length-drop (omega arith))) ∙ sym (drops 4 32 bytes))) ∙ sym (drops 4 28 bytes))) ∙ sym
    (drops 4 24 bytes))) ∙ sym (drops 2 22 bytes))) ∙ sym (drops 2 20 bytes))) ∙ sym (drops 2 18 bytes))) ∙ sym (drops 2 16 bytes))) ∙
    sym (drops 2 14 bytes))) ∙ sym (drops 2 12 bytes))) ∙ sym (drops 2 10 bytes))) ∙ sym (drops 2 8 bytes))) ∙ sym (drops 2 6 bytes))) ∙
    sym (drops 2 4 bytes))) ∙ sym (drops 4 0 bytes)))

above_zero : (n : ℕ) → n ≡ 0 → IsTrue (nat_lt 0 n) → ⊥
above_zero n same above = let h : IsTrue (nat_lt 0 0) = subst (λ (k : ℕ). IsTrue (nat_lt 0 k)) same above in search (rules, h)

not_zero : (n : ℕ) → IsTrue (nat_lt 0 n) → (n == 0) ≡ false
not_zero n above = elim (eqb_tells n 0) [ inl same ↦ absurd (above_zero n same.1 above) | inr other ↦ other.0 ]

-- where no cause holds, the mode is read
chosen : (h v above none size : Bool) (m : Mode) → (IsTrue above → none ≡ false) → IsTrue (h && (v && (above && size)))
    → (if not h then Err Horizontal else (if not v then Err Vertical
    else (if none then Err Clock else (if not size then Err Size else Ok m)))) ≡ Ok m
chosen true true true none true m clock legal = rw (clock refl) refl
chosen true true true none false m clock legal = absurd (search (rules, legal))
chosen true true false none size m clock legal = absurd (search (rules, legal))
chosen true false above none size m clock legal = absurd (search (rules, legal))
chosen false v above none size m clock legal = absurd (search (rules, legal))

-- a legal mode is what is read
pub if_legal-legal : (m : Mode) → IsTrue (is_legal_mode m) → if_legal m ≡ Ok m
if_legal-legal m legal =
    let clock : IsTrue (nat_lt 0 m.clock) → (m.clock == 0) ≡ false = λ above. not_zero m.clock above in
    chosen (is_axis m.hdisplay m.hsync_start m.hsync_end m.htotal) (is_axis m.vdisplay m.vsync_start m.vsync_end m.vtotal)
    (nat_lt 0 m.clock) (m.clock == 0) (nat_le m.hdisplay 4096 && nat_le m.vdisplay 4096) m clock legal

-- a legal mode's bytes are read as that mode
pub decoded-mode_bytes : (m : Mode) (bytes : List ℕ) → FitsTypes m → bytes ≡ mode_bytes m → length bytes ≡ 68 → IsTrue (is_legal_mode m)
    → decoded bytes ≡ Ok m
decoded-mode_bytes m bytes fits is long legal =
    let here : mode_held bytes ≡ m = ap mode_held is ∙ mode_held-mode_bytes m fits in
    rw (eq-eqb (length bytes) 68 long) (ap if_legal here ∙ if_legal-legal m legal)

any_of : (h v none size : Bool) (m : Mode) (P : Mode → Type 0) → P m
    → IfOk (if not h then Err Horizontal else (if not v then Err Vertical
    else (if none then Err Clock else (if not size then Err Size else Ok m)))) P
any_of false v none size m P holds = search rules
any_of true false none size m P holds = search rules
any_of true true true size m P holds = search rules
any_of true true false false m P holds = search rules
any_of true true false true m P holds = search (rules, holds)

if_ok : (m : Mode) (P : Mode → Type 0) → P m → IfOk (if_legal m) P
if_ok m P holds = any_of (is_axis m.hdisplay m.hsync_start m.hsync_end m.htotal) (is_axis m.vdisplay m.vsync_start m.vsync_end m.vtotal)
    (m.clock == 0) (nat_le m.hdisplay 4096 && nat_le m.vdisplay 4096) m P holds

-- what is read was legal bytes of that mode
pub mode_bytes-if_legal : (bytes : List ℕ) (m : Mode) → AreBytes bytes → length bytes ≡ 68 → m ≡ mode_held bytes
    → IfOk (if_legal m) (λ k. mode_bytes k ≡ bytes)
mode_bytes-if_legal bytes m small long is = if_ok m (λ k. mode_bytes k ≡ bytes) (ap mode_bytes is ∙ mode_bytes-mode_held bytes small long)
