-- The pattern of a buffer is one that may be there, and is written as it was read.
use Rattle.std.proofs.Common.{◌≡◌, ℕ, zero, suc, ◌*◌, ◌≤◌, inl, inr, true, List, [], ◌∷◌, ◌++◌, codes, cond, length, map, Option, Some}
use Rattle.std.proofs.Common.{None, refl, sym, ap, ◌∙◌, arith}
use Rattle.std.specs.Prelude.{◌==◌, ◌&&◌, nat_lt}
use Rattle.std.specs.Fmt.{decimal}
use Rattle.std.specs.List.{list_all}
use Rattle.std.specs.Str.{bytes_eq}
use Rattle.std.proofs.lemmas.Bool.{and_from, eq-eqb}
use Rattle.std.proofs.lemmas.Bool.Decides.{nat_tests}
use Rattle.kms_model.specs.declared.objects.Format.{Format}
use Rattle.kms_model.specs.declared.scripts.Pattern.{Pattern}
use Rattle.kms_model.specs.declared.scripts.Pattern.TheVariants.{Checker, Pixels}
use Rattle.kms_model.specs.Script.CommandLines.{pixels_at, solid_at, checker_at, ramp_at, each_pixel_at, pattern_at}
use Rattle.kms_model.specs.Script.Grammar.{pixel_at}
use Rattle.kms_model.specs.Script.WellFormed.{is_pattern_of, is_pixel_of}
use Rattle.kms_model.specs.Script.Words.{between, dec_at, field_at, end_at}
use Rattle.kms_model.specs.Script.Spelling.{pixel_word, pattern_words}
use Rattle.kms_script.proofs.FitWords.{dec_at_fit}
use Rattle.kms_script.proofs.Inverted.{from_bind, if_some, map_some, some_same, choice_some}
use Rattle.kms_script.proofs.LineFields.{field_spelt, end_spelt}
use Rattle.kms_script.proofs.SpeltFields.{IsTaken, at_end, behind, dec_at_spelt, pixel_taken}
use Rattle.kms_script.proofs.SpeltWords.{found, nothing_read}

-- pixels up to the end of the line
pixels_taken : (format : Format) (n : ℕ) (bytes ps : List ℕ) → pixels_at format n bytes ≡ Some ps
    → IsTaken (list_all (is_pixel_of format) ps) (map (pixel_word format) ps) bytes [] × (length ps ≡ n)
pixels_taken format zero bytes ps e =
    let m = map_some _ (end_at bytes) ps e in
    rw (← m.makes) (record { fit = refl; spelt = end_spelt bytes m.value m.given }, refl)
pixels_taken format (suc n) bytes ps e =
    from_bind (pixel_at format bytes) _ ps e (λ p first more.
    from_bind (pixels_at format n p.1) _ ps more (λ qs later more.
    let rest = pixels_taken format n p.1 qs later in
    let all = behind (pixel_taken format bytes p first) rest.0 in
    rw (← some_same _ ps more) (all, ap suc rest.1)))

-- a first word and what is behind it
word_taken : (k bytes : List ℕ) → IsTaken true (k ∷ []) (32 ∷ (k ++ bytes)) bytes
word_taken k bytes = record { fit = refl; spelt = refl }

module _ (width height : ℕ) (format : Format) where
  -- a pattern behind its first word
  abbrev Shown : List ℕ → Pattern → Type 0
  Shown bytes p = IsTaken (is_pattern_of format width height p) (pattern_words format p) bytes []

  solid_taken : (bytes : List ℕ) (p : Pattern) → solid_at format bytes ≡ Some p → Shown (32 ∷ (codes "solid" ++ bytes)) p
  unfolding solid_at
  solid_taken bytes p e =
      from_bind (pixel_at format bytes) _ p e (λ x first more.
      from_bind (end_at x.1) _ p more (λ u end more.
      let all = behind (word_taken (codes "solid") bytes) (at_end u (pixel_taken format bytes x first) end) in
      rw (← some_same _ p more) all))

  -- squares of two colours
  checker_taken : (bytes : List ℕ) (pattern : Pattern) → checker_at format bytes ≡ Some pattern
      → Shown (32 ∷ (codes "checker" ++ bytes)) pattern
  unfolding checker_at
  checker_taken bytes pattern e = from_bind (pixel_at format bytes) _ pattern e (λ p first more.
      from_bind (pixel_at format p.1) _ pattern more (λ q second more.
      from_bind (dec_at 4096 q.1) _ pattern more (λ n side more.
      from_bind (end_at n.1) _ pattern more (λ u end more.
      let read = if_some (nat_lt 0 n.0) (Some (Checker p.0 q.0 n.0)) pattern more in
      let squares : IsTaken (between 1 4096 n.0) (decimal n.0 ∷ []) q.1 n.1 =
      record { fit = sides n.0 read.0 (dec_at_fit 4096 q.1 n side); spelt = dec_at_spelt 4096 q.1 n (omega arith) side } in
      let all = behind (word_taken (codes "checker") bytes) (at_end u
      (behind (pixel_taken format bytes p first) (behind (pixel_taken format p.1 q second) squares)) end) in
      rw (← some_same _ pattern read.1) all))))
    where
      sides : (n : ℕ) → nat_lt 0 n ≡ true → n ≤ 4096 → between 1 4096 n ≡ true
      sides n some few = grind (arith, nat_tests)

  ramp_taken : (bytes : List ℕ) (p : Pattern) → ramp_at bytes ≡ Some p → Shown (32 ∷ (codes "ramp" ++ bytes)) p
  ramp_taken bytes p e =
      let m = map_some _ (end_at bytes) p e in
      let all = at_end m.value (word_taken (codes "ramp") bytes) m.given in
      rw (← m.makes) all

  -- a word for each pixel
  each_taken : (bytes : List ℕ) (p : Pattern) → each_pixel_at (width * height) format bytes ≡ Some p
      → Shown (32 ∷ (codes "pixels" ++ bytes)) p
  unfolding each_pixel_at
  each_taken bytes p e =
      let read = if_some (between 1 256 (width * height)) _ p e in
      let m = map_some Pixels (pixels_at format (width * height) bytes) p read.1 in
      let all = pixels_taken format (width * height) bytes m.value m.given in
      rw (← m.makes) (record {
        fit = and_from (between 1 256 (width * height)) ((length m.value == width * height) && list_all (is_pixel_of format) m.value) read.0
            (and_from (length m.value == width * height) (list_all (is_pixel_of format) m.value)
            (eq-eqb (length m.value) (width * height) all.1) all.0.fit);
        spelt = ap (λ (bs : List ℕ). 32 ∷ (codes "pixels" ++ bs)) all.0.spelt;
      })

  -- by a first word that is one of several
  by_word : (bytes k : List ℕ) (f : List ℕ × List ℕ) (p : Pattern) (one other : Option Pattern) → field_at bytes ≡ Some f
      → (one ≡ Some p → Shown (32 ∷ (k ++ f.1)) p) → (other ≡ Some p → Shown bytes p) → cond (bytes_eq f.0 k) one other ≡ Some p
      → Shown bytes p
  by_word bytes k f p one other given here there e = elim (choice_some (bytes_eq f.0 k) one other p e) [
    | inl is ↦ (let t = here is.1 in record {
      fit = t.fit;
      spelt = t.spelt ∙ (ap (λ (w : List ℕ). 32 ∷ (w ++ f.1)) (sym (found f.0 k is.0)) ∙ field_spelt bytes f given);
    })
    | inr more ↦ there more
  ]

  pub pattern_taken : (bytes : List ℕ) (p : Pattern) → pattern_at width height format bytes ≡ Some p → Shown bytes p
  unfolding pattern_at
  pattern_taken bytes p e = from_bind (field_at bytes) _ p e (λ f given more.
      by_word bytes (codes "solid") f p _ _ given (solid_taken f.1 p)
      (by_word bytes (codes "checker") f p _ _ given (checker_taken f.1 p)
      (by_word bytes (codes "ramp") f p _ _ given (ramp_taken f.1 p)
      (by_word bytes (codes "pixels") f p _ None given (each_taken f.1 p) (nothing_read p)))) more)
