-- Equal events that a client read are at most as many as the latches that tell them: what was read is a front of what was delivered.
use Rattle.std.proofs.Common.{◌≡◌, ℕ, suc, ◌<◌, Bool, true, false, cond, List, [], ◌∷◌, ◌++◌, length, Option, Some, None, refl, sym, ap}
use Rattle.std.proofs.Common.{◌∙◌, arith, append_assoc, length-append}
use Rattle.std.specs.Prelude.{◌==◌, ◌&&◌, filter, reverse}
use Rattle.std.specs.List.{cons_option, filter_map}
use Rattle.std.specs.Option.{option_map_or}
use Rattle.std.proofs.lemmas.Bool.{and_from, cond-true, eq-eqb}
use Rattle.std.proofs.lemmas.List.Elements.{filter-append}
use Rattle.kms_model.specs.declared.replies.Event.{Event}
use Rattle.kms_model.specs.declared.replies.Step.{Step}
use Rattle.kms_model.specs.declared.scripts.Script.{Script}
use Rattle.kms_model.specs.Machine.Histories.{at, is_history, read_by}
use Rattle.kms_model.specs.Machine.State.{unread_at}
use Rattle.kms_model.specs.Promises.{delivered, event_of_latch}
use Rattle.kms_model.specs.Report.RightAnswers.{same_event}
use Rattle.kms_laws.proofs.EventsOnce.{events_once}
use Rattle.kms_laws.proofs.Steps.{IsPlainScript}
use Rattle.kms_told.specs.Told.{tells_event}

-- Counts

module _ {A B : Type 0} (f : A → Option B) (p : B → Bool) where
  by_test : (b : Bool) (x : A) (y : B) (xs : List A) (ys : List B) → length ys ≡ length xs
      → length (cond b (y ∷ ys) ys) ≡ length (cond b (x ∷ xs) xs)
  by_test true x y xs ys e = ap suc e
  by_test false x y xs ys e = e

  by_value : (o : Option B) (x : A) (xs : List A) (ys : List B) → length (filter p ys) ≡ length xs
      → length (filter p (cons_option o ys)) ≡ length (cond (option_map_or p o false) (x ∷ xs) xs)
  by_value None x xs ys e = e
  by_value (Some y) x xs ys e = by_test (p y) x y xs (filter p ys) e

  -- how many of the values of a function pass a test
  pub values-passing : (xs : List A) → length (filter p (filter_map f xs)) ≡ length (filter (λ x. option_map_or p (f x) false) xs)
  values-passing [] = refl
  values-passing (x ∷ xs) = by_value (f x) x (filter (λ x. option_map_or p (f x) false) xs) (filter_map f xs) (values-passing xs)

-- one that passes stands behind those before it
pub passing-before : {A : Type 0} (p : A → Bool) (before later : List A) (x : A) → p x ≡ true
    → length (filter p before) < length (filter p (before ++ x ∷ later))
passing-before p before later x e =
    let a = ap length (filter-append p before (x ∷ later)) in
    let b = length-append (filter p before) (filter p (x ∷ later)) in
    let c = ap length (cond-true (p x) (x ∷ filter p later) (filter p later) e) in
    omega (arith, a, b, c)

pub same-event : (e : Event) → same_event e e ≡ true
same-event e =
    and_from (e.user_data == e.user_data) ((e.sequence == e.sequence) && (e.crtc == e.crtc)) (eq-eqb e.user_data e.user_data refl)
    (and_from (e.sequence == e.sequence) (e.crtc == e.crtc) (eq-eqb e.sequence e.sequence refl) (eq-eqb e.crtc e.crtc refl))

pub events-fit : (s : Script) (h : List Step) → IsPlainScript s → is_history s h ≡ true
    → (client : ℕ) (before later : List Event) (e : Event)
    → read_by (at s h) client ≡ before ++ e ∷ later
    → length (filter (same_event e) before) < length (filter (tells_event s (at s h) client e) (reverse (at s h).records.latches))
events-fit s h plain is client before later e read =
    let unread = unread_at (at s h).events client in
    let all : before ++ e ∷ (later ++ unread) ≡ delivered s.topology (at s h) client =
    sym (append_assoc before (e ∷ later) unread) ∙ (ap (λ z. z ++ unread) (sym read) ∙ (events_once s h plain is client).0) in
    let a = passing-before (same_event e) before (later ++ unread) e (same-event e) in
    let b = ap (λ z. length (filter (same_event e) z)) all in
    let c = values-passing (event_of_latch s.topology (at s h).device.commits client) (same_event e) (reverse (at s h).records.latches) in
    omega (arith, a, b, c)
