-- Loops over the lines of a report that look for the first that may not stand there.
use Rattle.std.proofs.Common.{◌≡◌, ℕ, ◌+◌, ◌<◌, ◌≤◌, Bool, true, false, List, [], ◌∷◌, ◌++◌, length, get_or, take, drop, Option, Some, None}
use Rattle.std.proofs.Common.{sym, ap, ◌∙◌}
use Rattle.std.proofs.lemmas.List.{get_or-map, length-map, take_more}
use Rattle.std.specs.Prelude.{map}
use Rattle.std.specs.List.{last_or}
use Rattle.std.specs.Option.{option_map_or}
use Rattle.kms_audit.proofs.Firsts.{off-done, off-here-map, off-step-map}
use Rattle.kms_audit.specs.Eventing.{ReplyFields}
use Rattle.kms_audit.specs.Sections.{client_before, comes_behind, may_follow}
use Rattle.kms_model.specs.declared.replies.Answered.{Answered}
use Rattle.kms_model.specs.declared.reports.Report.{Report}
use Rattle.kms_model.specs.Report.Right.{number_at}
use Rattle.kms_model.specs.Report.RightAnswers.{answer_from, first_off}
use Rattle.kms_told.proofs.Items.{last-push}

-- the front of a list that is made of another, with one item more
pub front-more : {X A : Type 0} (f : X → A) (xs : List X) (i : ℕ) (d : X) → i < length xs
    → take (i + 1) (map f xs) ≡ take i (map f xs) ++ f (get_or xs i d) ∷ []
front-more f xs i d within =
    take_more (map f xs) i (f d) (rw (length-map xs f) within) ∙ ap (λ a. take i (map f xs) ++ a ∷ []) (get_or-map f xs i d (f d) within)

pub last-more : {X A : Type 0} (f : X → A) (xs : List X) (i : ℕ) (d : X) → i < length xs
    → last_or None (take (i + 1) (map f xs)) ≡ Some (f (get_or xs i d))
last-more f xs i d within = ap (last_or None) (front-more f xs i d within) ∙ last-push None (take i (map f xs)) (f (get_or xs i d))

-- Where the R lines of a client end

module _ (r : Report) (replies : List ReplyFields) (place : ℕ) (before : Option ℕ)
    (rest : number_at place (first_off (comes_behind r) (take place (map answer_from replies)) (drop place (map answer_from replies)))
    ≡ first_off (comes_behind r) [] (map answer_from replies))
  where
    module _ (d : ReplyFields) (result : Bool) (within : place < length replies)
        (is_before : before ≡ client_before (take place (map answer_from replies)))
        (is : result ≡ may_follow r before (get_or replies place d).0) where
      follows : comes_behind r (take place (map answer_from replies)) (answer_from (get_or replies place d)) ≡ result
      follows = sym (is ∙ ap (λ b. may_follow r b (get_or replies place d).0) is_before)

      pub border-here : result ≡ false → Some place ≡ first_off (comes_behind r) [] (map answer_from replies)
      border-here e = sym (off-here-map answer_from (comes_behind r) replies place d within (follows ∙ e)) ∙ rest

      pub border-step : result ≡ true
          → number_at (place + 1) (first_off (comes_behind r) (take (place + 1) (map answer_from replies))
          (drop (place + 1) (map answer_from replies)))
          ≡ first_off (comes_behind r) [] (map answer_from replies)
      border-step e = off-step-map answer_from (comes_behind r) replies place d within (follows ∙ e) ∙ rest

    pub border-none : length replies ≤ place → None ≡ first_off (comes_behind r) [] (map answer_from replies)
    border-none past = sym (off-done (comes_behind r) (map answer_from replies) place (rw (length-map replies answer_from) past)) ∙ rest

pub client-more : (replies : List ReplyFields) (place : ℕ) (d : ReplyFields) → place < length replies
    → Some (get_or replies place d).0 ≡ client_before (take (place + 1) (map answer_from replies))
client-more replies place d within = sym
    (ap (λ o. option_map_or (λ (b : Answered). Some b.client) o None) (last-more answer_from replies place d within))
