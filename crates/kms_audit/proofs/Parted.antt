-- The first wrong line, section by section: what the sections before one being right tells, and how high its number may be.
use Rattle.std.proofs.Common.{◌≡◌, ℕ, ◌+◌, ◌-◌, ◌<◌, ◌≤◌, Bool, true, false, List, [], ◌∷◌, ◌++◌, length, get_or, take, Option, Some, None}
use Rattle.std.proofs.Common.{refl, sym, ap, ◌∙◌, subst, arith}
use Rattle.std.proofs.lemmas.List.{length-map, length-take, take_all}
use Rattle.std.proofs.lemmas.Option.{slice_get-get_or}
use Rattle.std.specs.Option.{option_map_or}
use Rattle.std.specs.Prelude.{nat_le, not, option_map, slice_get, slice_index_or, if◌then◌else◌}
use Rattle.kms_audit.proofs.Apart.{answers-apart, latches-apart}
use Rattle.kms_audit.proofs.Begun.{crtcs-few}
use Rattle.kms_audit.proofs.Entered.{tracks-whole}
use Rattle.kms_audit.proofs.Tracks.{all-unmet}
use Rattle.kms_audit.specs.declared.order.Ordered.{Ordered}
use Rattle.kms_audit.specs.declared.owners.Owner.{Owner}
use Rattle.kms_audit.specs.declared.walk.Walk.{Walk}
use Rattle.kms_audit.specs.Ended.{AllIsTold}
use Rattle.kms_audit.specs.Eventing.{AreClientsFew, AreRightBefore, AreShort}
use Rattle.kms_audit.specs.Latching.{first_unmet}
use Rattle.kms_audit.specs.Ordered.{AreBlocks, AreBlocksWithin, IsOrdered, IsWholeOrder, no_block, ordered_lines}
use Rattle.kms_audit.specs.Owned.{AreOwners}
use Rattle.kms_audit.specs.Sections.{AreRightToLatches, answers_wrong, behind_answers, behind_events, behind_latches, comes_behind}
use Rattle.kms_audit.specs.Sections.{earliest, entries_wrong, is_pictured, is_placed, is_replied, stands_in_order}
use Rattle.kms_audit.specs.Walked.{IsWalked}
use Rattle.kms_model.proofs.TouchedLemmas.{few_objects}
use Rattle.kms_model.specs.declared.reports.Report.{Report}
use Rattle.kms_model.specs.declared.scripts.Script.{Script}
use Rattle.kms_model.specs.Firsts.{number_if, or_else}
use Rattle.kms_model.specs.Report.Right.{end_is_right, event_is_right, events_are_whole, first_wrong, freed_is_right, latch_from}
use Rattle.kms_model.specs.Report.Right.{latch_is_right, latches_in, number_at}
use Rattle.kms_model.specs.Report.RightAnswers.{answer_from, answer_is_right, answers_are_whole, answers_in, entries_in, entry_from}
use Rattle.kms_model.specs.Report.RightAnswers.{entry_is_right, first_off}
use Rattle.kms_model.specs.Script.WellFormed.{IsWellFormed}

-- The lower of two places

pub earliest_none : (a b : Option ℕ) → earliest a b ≡ None → (a ≡ None) × (b ≡ None)
earliest_none None b e = (refl, e)
earliest_none (Some m) None e = absurd cc
earliest_none (Some m) (Some n) e = absurd (picked (nat_le m n) e) where
  picked : (b : Bool) → (if b then Some m else Some n) ≡ None → ⊥
  picked true f = absurd cc
  picked false f = absurd cc

-- R lines that are right stand in their order, all of them

stands-none : (s : Script) (r : Report) → answers_wrong s r ≡ None → first_off (stands_in_order s r) [] (answers_in r) ≡ None
stands-none s r right =
    (earliest_none (first_off (stands_in_order s r) [] (answers_in r))
    (earliest (first_off (comes_behind r) [] (answers_in r)) (first_off (is_replied s r) [] (answers_in r)))
    (sym (answers-apart s r (answers_in r)) ∙ right)).0

module _ (s : Script) (r : Report) (o : Ordered) (is : IsOrdered s r o) where
  module _ (right : answers_wrong s r ≡ None) where
    cut_none : o.cut ≡ None
    cut_none = is.cut ∙ stands-none s r right

    all_lines : ordered_lines r o ≡ answers_in r
    all_lines = ap (λ c. option_map_or (λ cut. take cut (answers_in r)) c (answers_in r)) cut_none

    pub whole-order : IsWholeOrder s r o.blocks
    whole-order = record {
      cut = stands-none s r right;
      are_blocks = subst (λ lines. AreBlocks lines o.blocks) all_lines is.blocks;
    }

    pub clients-few : AreClientsFew r
    clients-few k d within =
        is.clients k (get_or (answers_in r) k d) (ap (λ lines. slice_get lines k) all_lines ∙ slice_get-get_or (answers_in r) k d within)

  lines_most : (cut : Option ℕ) → length (option_map_or (λ c. take c (answers_in r)) cut (answers_in r)) ≤ length r.replies
  lines_most None = omega (arith, length-map r.replies answer_from)
  lines_most (Some c) = omega (arith, length-map r.replies answer_from, length-take c (answers_in r))

  pub blocks-within : AreBlocksWithin (length r.replies) o.blocks
  blocks-within = record {
    size = is.blocks.size;
    within = λ at few.
        let own = (is.blocks.lines (at + 1) (omega arith) (omega arith)).within in
        let same : at + 1 - 1 ≡ at = omega arith in
        let end = ap (λ n. (slice_index_or o.blocks n no_block).end) same in
        omega (arith, own, end, lines_most o.cut);
  }

-- L lines that are right

placed-none : (s : Script) (r : Report) → first_off (latch_is_right s r) [] (latches_in r) ≡ None
    → first_off (is_placed s.topology) [] (latches_in r) ≡ None
placed-none s r right =
    (earliest_none (first_off (is_placed s.topology) [] (latches_in r)) (first_off (is_pictured s r) [] (latches_in r))
    (sym (latches-apart s r) ∙ right)).0

pub latches-short : (s : Script) (r : Report) → IsWellFormed s
    → first_off (latch_is_right s r) [] (latches_in r) ≡ None → AreShort r.latches
latches-short s r formed right = crtcs-few s.topology r (few_objects s.topology formed.device).crtcs (placed-none s r right)

-- the first that is not, by two tests
pub latches-first : (s : Script) (r : Report) (w : Walk) (crtcs lines : ℕ) (placed unmet : Option ℕ) → IsWalked s r w
    → crtcs ≡ s.topology.crtcs → lines ≡ length r.latches
    → placed ≡ first_off (is_placed s.topology) [] (latches_in r) → unmet ≡ first_unmet lines w.showing.tracks crtcs
    → earliest placed unmet ≡ first_off (latch_is_right s r) [] (latches_in r)
latches-first s r w crtcs lines placed unmet walked on many by_lines by_walk =
    ap (earliest placed)
    (by_walk
    ∙ (ap (λ n. first_unmet n w.showing.tracks crtcs) many
    ∙ (ap (first_unmet (length r.latches) w.showing.tracks) on ∙ all-unmet s r w.showing.tracks (tracks-whole s r w walked))))
    ∙ (ap (λ o. earliest o (first_off (is_pictured s r) [] (latches_in r))) by_lines ∙ sym (latches-apart s r))

-- What is known before E lines, and before the D line

pub right-before : (s : Script) (r : Report) (o : Ordered) (owners : List Owner) → IsWellFormed s → IsOrdered s r o → AreRightToLatches s r
    → AreOwners s (entries_in r) owners → AreRightBefore s r o.blocks owners
right-before s r o owners formed is right are = record {
  formed = formed;
  entries = right.entries;
  answers = right.answers;
  latches = right.latches;
  order = whole-order s r o is right.answers;
  are_owners = are;
}

-- the owners behind the whole journal
pub owners-whole : (s : Script) (r : Report) (w : Walk) (owners : List Owner) → IsWalked s r w → owners ≡ w.owners
    → AreOwners s (entries_in r) owners
owners-whole s r w owners walked same =
    same
    ∙ subst (λ es. AreOwners s es w.owners) (take_all (length (entries_in r)) (entries_in r) (omega arith)) walked.kept.owners

pub all-told : (s : Script) (r : Report) (w : Walk) → IsWalked s r w → first_off (latch_is_right s r) [] (latches_in r) ≡ None
    → AllIsTold s r w.showing
all-told s r w walked right = record { latches = right; tracks = tracks-whole s r w walked }

-- Behind the E lines

module _ (s : Script) (r : Report) (first : ℕ) where
  pub events-left : events_are_whole r ≡ false → Some first ≡ behind_events s r first
  events-left e =
      sym (ap (λ b. or_else (number_if first (not b))
      (or_else (number_at first (first_off (freed_is_right s r) [] r.freed)) (number_if (first + length r.freed) (not (end_is_right s r)))))
      e)

  module _ (whole : events_are_whole r ≡ true) where
    behind_whole : behind_events s r first
        ≡ or_else (number_at first (first_off (freed_is_right s r) [] r.freed))
        (number_if (first + length r.freed) (not (end_is_right s r)))
    behind_whole =
        ap (λ b. or_else (number_if first (not b))
        (or_else (number_at first (first_off (freed_is_right s r) [] r.freed))
        (number_if (first + length r.freed) (not (end_is_right s r))))) whole

    pub freed-wrong : (place : ℕ) → Some place ≡ first_off (freed_is_right s r) [] r.freed → Some (first + place) ≡ behind_events s r first
    freed-wrong place e =
        ap (λ o. or_else (number_at first o) (number_if (first + length r.freed) (not (end_is_right s r)))) e ∙ sym behind_whole

    pub ended-as : None ≡ first_off (freed_is_right s r) [] r.freed → (b : Bool) → b ≡ end_is_right s r
        → number_if (first + length r.freed) (not b) ≡ behind_events s r first
    ended-as none b e =
        ap (λ x. number_if (first + length r.freed) (not x)) e
        ∙ (ap (λ o. or_else (number_at first o) (number_if (first + length r.freed) (not (end_is_right s r)))) none ∙ sym behind_whole)

  -- behind the L lines
  pub event-wrong : (place : ℕ) → Some place ≡ first_off (event_is_right s r) [] r.events → Some (first + place) ≡ behind_latches s r first
  event-wrong place e = ap (λ o. or_else (number_at first o) (behind_events s r (first + length r.events))) e

  pub events-right : None ≡ first_off (event_is_right s r) [] r.events → (line : Option ℕ)
      → line ≡ behind_events s r (first + length r.events)
      → line ≡ behind_latches s r first
  events-right none line e = e ∙ ap (λ o. or_else (number_at first o) (behind_events s r (first + length r.events))) none

  -- behind the R lines
  abbrev rest_of : Bool → Option ℕ → Option ℕ
  rest_of whole latch = or_else (number_if first (not whole))
      (or_else (number_at first latch) (behind_latches s r (first + length r.latches)))

  pub answers-left : answers_are_whole r ≡ false → Some first ≡ behind_answers s r first
  answers-left e = sym (ap (λ b. rest_of b (first_off (latch_is_right s r) [] (latches_in r))) e)

  module _ (whole : answers_are_whole r ≡ true) where
    pub latch-wrong : (place : ℕ) → Some place ≡ first_off (latch_is_right s r) [] (latches_in r)
        → Some (first + place) ≡ behind_answers s r first
    latch-wrong place e = ap (rest_of true) e ∙ sym (ap (λ b. rest_of b (first_off (latch_is_right s r) [] (latches_in r))) whole)

    pub latches-right : None ≡ first_off (latch_is_right s r) [] (latches_in r) → (line : Option ℕ)
        → line ≡ behind_latches s r (first + length r.latches)
        → line ≡ behind_answers s r first
    latches-right none line e =
        e ∙ (ap (rest_of true) none ∙ sym (ap (λ b. rest_of b (first_off (latch_is_right s r) [] (latches_in r))) whole))

-- All lines

whole-report : (s : Script) (r : Report) → first_wrong s r
    ≡ or_else (entries_wrong s r) (or_else (number_at (1 + length r.journal) (answers_wrong s r))
    (behind_answers s r (1 + length r.journal + length r.replies)))
unfolding first_wrong
whole-report s r = refl

pub entry-wrong : (s : Script) (r : Report) (place : ℕ) → Some place ≡ first_off (entry_is_right s) [] (entries_in r)
    → Some (1 + place) ≡ first_wrong s r
entry-wrong s r place e =
    ap (λ o. or_else (number_at 1 o)
    (or_else (number_at (1 + length r.journal) (answers_wrong s r)) (behind_answers s r (1 + length r.journal + length r.replies)))) e
    ∙ sym (whole-report s r)

module _ (s : Script) (r : Report) (entries : None ≡ first_off (entry_is_right s) [] (entries_in r)) where
  entries_right : or_else (number_at (1 + length r.journal) (answers_wrong s r))
      (behind_answers s r (1 + length r.journal + length r.replies)) ≡ first_wrong s r
  entries_right =
      ap (λ o. or_else (number_at 1 o)
      (or_else (number_at (1 + length r.journal) (answers_wrong s r)) (behind_answers s r (1 + length r.journal + length r.replies))))
      entries
      ∙ sym (whole-report s r)

  pub answer-wrong : (place : ℕ) → Some place ≡ answers_wrong s r → Some (1 + length r.journal + place) ≡ first_wrong s r
  answer-wrong place e =
      ap (λ o. or_else (number_at (1 + length r.journal) o) (behind_answers s r (1 + length r.journal + length r.replies))) e
      ∙ entries_right

  pub answers-right : None ≡ answers_wrong s r → (line : Option ℕ)
      → line ≡ behind_answers s r (1 + length r.journal + length r.replies) → line ≡ first_wrong s r
  answers-right none line e =
      e
      ∙ (ap (λ o. or_else (number_at (1 + length r.journal) o) (behind_answers s r (1 + length r.journal + length r.replies))) none
      ∙ entries_right)

-- How high a number may be

pub off_within : {A : Type 0} (test : List A → A → Bool) (before xs : List A) (m : ℕ) → first_off test before xs ≡ Some m → m < length xs
unfolding first_off
off_within test before [] m e = absurd cc
off_within test before (x ∷ xs) m e =
    by_first (test before x) (first_off test (before ++ x ∷ []) xs) e (λ n f. off_within test (before ++ x ∷ []) xs n f) where
      by_first : (b : Bool) (rest : Option ℕ) → (if b then option_map (λ place. place + 1) rest else Some 0) ≡ Some m
          → ((n : ℕ) → rest ≡ Some n → n < length xs) → m < length (x ∷ xs)
      by_first false rest f within = let same : 0 ≡ m = cc in omega (arith, same)
      by_first true None f within = absurd cc
      by_first true (Some n) f within = let same : n + 1 ≡ m = cc in omega (arith, same, within n refl)

pub off-few : {A : Type 0} (test : List A → A → Bool) (xs : List A) (place : ℕ) → Some place ≡ first_off test [] xs → place < length xs
off-few test xs place e = off_within test [] xs place (sym e)

-- a number, where there is one, is no higher than another
abbrev IsLow : ℕ → Option ℕ → Type 0
IsLow most o = (n : ℕ) → o ≡ Some n → n ≤ most

low_either : (most : ℕ) (a b : Option ℕ) → IsLow most a → IsLow most b → IsLow most (or_else a b)
low_either most None b l h n e = h n e
low_either most (Some m) b l h n e = l n e

low_if : (most k : ℕ) (b : Bool) → k ≤ most → IsLow most (number_if k b)
low_if most k true l n e = let same : k ≡ n = cc in omega (arith, same, l)
low_if most k false l n e = absurd cc

low_at : {A : Type 0} (most first : ℕ) (test : List A → A → Bool) (xs : List A) → first + length xs ≤ most
    → IsLow most (number_at first (first_off test [] xs))
low_at most first test xs l n e = by_place (first_off test [] xs) refl e where
  by_place : (o : Option ℕ) → first_off test [] xs ≡ o → number_at first o ≡ Some n → n ≤ most
  by_place None is f = absurd cc
  by_place (Some p) is f = let same : first + p ≡ n = cc in omega (arith, same, l, off_within test [] xs p is)

module _ (s : Script) (r : Report) where
  abbrev most : ℕ
  most = 1 + (length r.journal + (length r.replies + (length r.latches + (length r.events + length r.freed))))

  abbrev behind_r : ℕ
  behind_r = 1 + length r.journal + length r.replies

  abbrev behind_l : ℕ
  behind_l = 1 + length r.journal + length r.replies + length r.latches

  abbrev behind_e : ℕ
  behind_e = 1 + length r.journal + length r.replies + length r.latches + length r.events

  low_at_end : IsLow most (behind_events s r behind_e)
  low_at_end =
      low_either most (number_if behind_e (not (events_are_whole r)))
      (or_else (number_at behind_e (first_off (freed_is_right s r) [] r.freed))
      (number_if (behind_e + length r.freed) (not (end_is_right s r))))
      (low_if most behind_e (not (events_are_whole r)) (omega arith))
      (low_either most (number_at behind_e (first_off (freed_is_right s r) [] r.freed))
      (number_if (behind_e + length r.freed) (not (end_is_right s r)))
      (low_at most behind_e (freed_is_right s r) r.freed (omega arith))
      (low_if most (behind_e + length r.freed) (not (end_is_right s r)) (omega arith)))

  low_events : IsLow most (or_else (number_at behind_l (first_off (event_is_right s r) [] r.events)) (behind_events s r behind_e))
  low_events =
      low_either most (number_at behind_l (first_off (event_is_right s r) [] r.events)) (behind_events s r behind_e)
      (low_at most behind_l (event_is_right s r) r.events (omega arith)) low_at_end

  low_latches : IsLow most (behind_answers s r behind_r)
  low_latches =
      low_either most (number_if behind_r (not (answers_are_whole r)))
      (or_else (number_at behind_r (first_off (latch_is_right s r) [] (latches_in r)))
      (or_else (number_at behind_l (first_off (event_is_right s r) [] r.events)) (behind_events s r behind_e)))
      (low_if most behind_r (not (answers_are_whole r)) (omega arith))
      (low_either most (number_at behind_r (first_off (latch_is_right s r) [] (latches_in r)))
      (or_else (number_at behind_l (first_off (event_is_right s r) [] r.events)) (behind_events s r behind_e))
      (low_at most behind_r (latch_is_right s r) (latches_in r) (omega (arith, length-map r.latches latch_from))) low_events)

  low_all : IsLow most (or_else (entries_wrong s r)
      (or_else (number_at (1 + length r.journal) (answers_wrong s r)) (behind_answers s r behind_r)))
  low_all =
      low_either most (entries_wrong s r) (or_else (number_at (1 + length r.journal) (answers_wrong s r)) (behind_answers s r behind_r))
      (low_at most 1 (entry_is_right s) (entries_in r) (omega (arith, length-map r.journal entry_from)))
      (low_either most (number_at (1 + length r.journal) (answers_wrong s r)) (behind_answers s r behind_r)
      (low_at most (1 + length r.journal) (answer_is_right s r) (answers_in r) (omega (arith, length-map r.replies answer_from)))
      low_latches)

  pub number-most : (n : ℕ) → first_wrong s r ≡ Some n
      → n ≤ 1 + (length r.journal + (length r.replies + (length r.latches + (length r.events + length r.freed))))
  number-most n e = low_all n (sym (whole-report s r) ∙ e)
