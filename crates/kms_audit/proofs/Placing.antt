-- L lines by themselves: the loop that finds the first that stands where it may not.
use Rattle.std.proofs.Common.{◌≡◌, ℕ, ◌+◌, ◌<◌, ◌≤◌, Bool, true, false, List, [], ◌∷◌, ◌++◌, length, get_or, take, drop, Option, Some, None}
use Rattle.std.proofs.Common.{refl, sym, ap, ◌∙◌, arith, inl, inr}
use Rattle.std.proofs.lemmas.Bool.{and_parts, cases_eq, cond-false, cond-true, eq-eqb, le-leb, ltb-true, ne_eqb}
use Rattle.std.proofs.lemmas.List.{get_or-set_other, get_or-set_same, length-map, length-set}
use Rattle.std.specs.Prelude.{◌&&◌, ◌==◌, map, nat_le, nat_lt, slice_index_or, slice_set}
use Rattle.std.specs.List.{last_or}
use Rattle.std.specs.Option.{option_map_or}
use Rattle.kms_audit.proofs.Borders.{front-more, last-more}
use Rattle.kms_audit.proofs.Entering.{filter_push}
use Rattle.kms_audit.proofs.Firsts.{off-done, off-here-map, off-step-map}
use Rattle.kms_audit.specs.Latching.{LatchFields}
use Rattle.kms_audit.specs.Sections.{is_placed, rises}
use Rattle.kms_model.specs.declared.objects.Topology.{Topology}
use Rattle.kms_model.specs.Report.Right.{LatchLine, last_count, latch_from, lines_of_crtc, number_at}
use Rattle.kms_model.specs.Report.RightAnswers.{first_off}
use Rattle.kms_told.proofs.Items.{last-push}

-- what the loop knows of the lines before a place
pub record IsPlacedTo (crtcs : ℕ) (lines : List LatchFields) (place : ℕ) (last : ℕ) (counts : List ℕ) : Type 0 where
  pub rest : (t : Topology) → t.crtcs ≡ crtcs →
      number_at place (first_off (is_placed t) (take place (map latch_from lines)) (drop place (map latch_from lines))) ≡ first_off
      (is_placed t) [] (map latch_from lines)
  pub last_is : last ≡ option_map_or (λ (b : LatchLine). b.crtc) (last_or None (take place (map latch_from lines))) 0
  pub size : length counts ≡ 4
  pub are_counts : (crtc : ℕ) → crtc < 4 → slice_index_or counts crtc 0 ≡ last_count
      (lines_of_crtc crtc (take place (map latch_from lines)))

not_below : (o : Option LatchLine) (x : ℕ) → option_map_or (λ (last : LatchLine). nat_le last.crtc x) o true ≡ nat_le
    (option_map_or (λ (b : LatchLine). b.crtc) o 0) x
not_below None x = sym (le-leb 0 x (omega arith))
not_below (Some l) x = refl

-- the last count of each CRTC, one line further
count_more : (front : List LatchLine) (l : LatchLine) (counts : List ℕ) → l.crtc < 4 → length counts ≡ 4
    → ((crtc : ℕ) → crtc < 4 → slice_index_or counts crtc 0 ≡ last_count (lines_of_crtc crtc front))
    → (crtc : ℕ) → crtc < 4 → slice_index_or (slice_set counts l.crtc l.count) crtc 0 ≡ last_count (lines_of_crtc crtc (front ++ l ∷ []))
count_more front l counts few size are crtc on =
    elim (cases_eq l.crtc crtc) [
      | inl own ↦ (
          let set : slice_index_or (slice_set counts l.crtc l.count) l.crtc 0 ≡ l.count = get_or-set_same counts l.crtc l.count 0
          (omega (arith, size, few)) in
          ap (λ n. slice_index_or (slice_set counts l.crtc l.count) n 0) (sym own)
          ∙ (set ∙ sym (ap last_count (filter_push (λ (x : LatchLine). x.crtc == crtc) front l
          ∙ cond-true (l.crtc == crtc) (lines_of_crtc crtc front ++ l ∷ []) (lines_of_crtc crtc front) (eq-eqb l.crtc crtc own))
          ∙ ap (λ o. option_map_or (λ (x : LatchLine). x.count) o 0) (last-push None (lines_of_crtc crtc front) l))))
      | inr apart ↦ (
          let other : slice_index_or (slice_set counts l.crtc l.count) crtc 0 ≡ slice_index_or counts crtc 0 =
          get_or-set_other counts l.crtc crtc l.count 0 (λ e. apart (sym e)) in
          other
          ∙ (are crtc on
          ∙ sym (ap last_count (filter_push (λ (x : LatchLine). x.crtc == crtc) front l
          ∙ cond-false (l.crtc == crtc) (lines_of_crtc crtc front ++ l ∷ []) (lines_of_crtc crtc front) (ne_eqb l.crtc crtc apart)))))
    ]

module _ (crtcs : ℕ) (lines : List LatchFields) (place last : ℕ) (counts : List ℕ) (to : IsPlacedTo crtcs lines place last counts) where
  module _ (d : LatchFields) (result : Bool) (few : crtcs ≤ 4) (within : place < length lines)
      (is : result ≡ (nat_lt (get_or lines place d).0 crtcs && (nat_le last (get_or lines place d).0
      && rises (slice_index_or counts (get_or lines place d).0 0) (latch_from (get_or lines place d)))))
    where
      abbrev line : LatchFields
      line = get_or lines place d

      abbrev front : List LatchLine
      front = take place (map latch_from lines)

      by_crtc : (b : Bool) → nat_lt line.0 crtcs ≡ b
          → (b && (nat_le last line.0 && rises (slice_index_or counts line.0 0) (latch_from line)))
          ≡ (b && (option_map_or (λ (x : LatchLine). nat_le x.crtc line.0) (last_or None front) true && rises
          (last_count (lines_of_crtc line.0 front)) (latch_from line)))
      by_crtc false e = refl
      by_crtc true e =
          let on = ltb-true line.0 crtcs e in
          ap (λ n. nat_le n line.0 && rises (slice_index_or counts line.0 0) (latch_from line)) to.last_is
          ∙ (ap (λ b. b && rises (slice_index_or counts line.0 0) (latch_from line)) (sym (not_below (last_or None front) line.0))
          ∙ ap (λ n. option_map_or (λ (x : LatchLine). nat_le x.crtc line.0) (last_or None front) true && rises n (latch_from line))
          (to.are_counts line.0 (omega (arith, on, few))))

      tested : (t : Topology) → t.crtcs ≡ crtcs → is_placed t front (latch_from line) ≡ result
      tested t same =
          ap (λ n. nat_lt line.0 n && (option_map_or (λ (x : LatchLine). nat_le x.crtc line.0) (last_or None front) true && rises
          (last_count (lines_of_crtc line.0 front)) (latch_from line))) same
          ∙ (sym (by_crtc (nat_lt line.0 crtcs) refl) ∙ sym is)

      pub placed-here : result ≡ false → (t : Topology) → t.crtcs ≡ crtcs → Some place ≡ first_off (is_placed t) [] (map latch_from lines)
      placed-here e t same = sym (off-here-map latch_from (is_placed t) lines place d within (tested t same ∙ e)) ∙ to.rest t same

      pub placed-on : result ≡ true → line.0 < crtcs
      placed-on e =
          ltb-true line.0 crtcs (and_parts (nat_lt line.0 crtcs)
          (nat_le last line.0 && rises (slice_index_or counts line.0 0) (latch_from line)) (sym is ∙ e)).0

      pub placed-step : result ≡ true → (now : ℕ) → now ≡ line.0 → (new : List ℕ) → new ≡ slice_set counts line.0 line.2
          → IsPlacedTo crtcs lines (place + 1) now new
      placed-step e now is_now new is_new =
          let on = placed-on e in
          record {
            rest = λ t same. off-step-map latch_from (is_placed t) lines place d within (tested t same ∙ e) ∙ to.rest t same;
            last_is = is_now ∙ sym (ap (λ o. option_map_or (λ (b : LatchLine). b.crtc) o 0) (last-more latch_from lines place d within));
            size = ap length is_new ∙ (length-set counts line.0 line.2 ∙ to.size);
            are_counts = λ crtc small.
                ap (λ xs. slice_index_or xs crtc 0) is_new
                ∙ (count_more front (latch_from line) counts (omega (arith, on, few)) to.size to.are_counts crtc small
                ∙ ap (λ xs. last_count (lines_of_crtc crtc xs)) (sym (front-more latch_from lines place d within)));
          }

  pub placed-none : length lines ≤ place → (t : Topology) → t.crtcs ≡ crtcs → None ≡ first_off (is_placed t) [] (map latch_from lines)
  placed-none past t same = sym (off-done (is_placed t) (map latch_from lines) place (omega (arith, length-map lines latch_from)))
      ∙ to.rest t same
