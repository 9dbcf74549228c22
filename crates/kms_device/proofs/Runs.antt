-- Histories that go on.
use Rattle.std.proofs.Common.{◌≡◌, ◌≢◌, ℕ, List, [], ◌∷◌, ◌++◌, true, false, Some, refl, sym, ap, ◌∙◌, ⊎_elim, All}
use Rattle.std.proofs.lemmas.Bool.{and_from, false≢true}
use Rattle.std.proofs.lemmas.List.Elements.{All-head, All-tail}
use Rattle.kms_model.specs.declared.replies.Step.{Step}
use Rattle.kms_model.specs.declared.replies.Step.TheVariants.{Stall}
use Rattle.kms_model.specs.declared.scripts.Script.{Script}
use Rattle.kms_model.specs.Machine.Effects.{next}
use Rattle.kms_model.specs.Machine.Histories.{are_legal, at, is_history, legal, run_steps}
use Rattle.kms_model.specs.Machine.State.{Machine}
use Rattle.kms_model.specs.Promises.{client_of_step}
use Rattle.kms_model.proofs.Guards.{legal_parts}
use Rattle.kms_laws.proofs.Stalled.{ending}
use Rattle.kms_core.specs.Decisions.{number_or_0}
use Rattle.kms_device.specs.Steps.{NeverEnds, is_stall, owner}

-- the machine after more steps
pub run-append : (s : Script) (m : Machine) (xs ys : List Step) → run_steps s m (xs ++ ys) ≡ run_steps s (run_steps s m xs) ys
unfolding run_steps
run-append s m [] ys = refl
run-append s m (x ∷ xs) ys = run-append s (next s m x) xs ys

-- the steps behind a beginning are legal there
pub legal-behind : (s : Script) (m : Machine) (xs ys : List Step) → are_legal s m (xs ++ ys) ≡ true → are_legal s (run_steps s m xs) ys
    ≡ true
unfolding run_steps are_legal
legal-behind s m [] ys h = h
legal-behind s m (x ∷ xs) ys h = legal-behind s (next s m x) xs ys (legal_parts s m x (xs ++ ys) h).rest

pub legal-before : (s : Script) (m : Machine) (xs ys : List Step) → are_legal s m (xs ++ ys) ≡ true → are_legal s m xs ≡ true
unfolding are_legal
legal-before s m [] ys h = refl
legal-before s m (x ∷ xs) ys h =
    let all = legal_parts s m x (xs ++ ys) h in
    and_from (legal s m x) _ all.first (legal-before s (next s m x) xs ys all.rest)

-- a step of another owner is no step of the client
pub other-client : (client : ℕ) (x : Step) → owner x ≢ client → client_of_step x ≢ Some client
other-client client x ne e = ne (ap number_or_0 e)

-- what each legal step of others keeps stays through all of them
pub stays : (P : Machine → Type 0) (s : Script) (client : ℕ)
    → ((m : Machine) (x : Step) → legal s m x ≡ true → client_of_step x ≢ Some client → P m → P (next s m x))
    → (m : Machine) (rest : List Step) → are_legal s m rest ≡ true → All (λ x. owner x ≢ client) rest → P m → P (run_steps s m rest)
unfolding run_steps are_legal
stays P s client keeps m [] h others p = p
stays P s client keeps m (x ∷ xs) h others p =
    let all = legal_parts s m x xs h in
    stays P s client keeps (next s m x) xs all.rest (All-tail (λ x. owner x ≢ client) x xs others)
    (keeps m x all.first (other-client client x (All-head (λ x. owner x ≢ client) x xs others)) p)

-- nothing but its end ends a history
pub still-open : (s : Script) (m : Machine) (xs : List Step) → are_legal s m xs ≡ true → NeverEnds xs → m.stalled ≡ false
    → (run_steps s m xs).stalled ≡ false
unfolding run_steps are_legal
still-open s m [] h never going = going
still-open s m (x ∷ xs) h never going =
    let all = legal_parts s m x xs h in
    let first = All-head (λ x. is_stall x ≡ false) x xs never in
    still-open s (next s m x) xs all.rest (All-tail (λ x. is_stall x ≡ false) x xs never)
    (⊎_elim (λ (e : x ≡ Stall). absurd (false≢true (sym first ∙ ap is_stall e))) (λ same. same ∙ going) (ending s m x all.first))

pub open-at : (s : Script) (h : List Step) → is_history s h ≡ true → NeverEnds h → (at s h).stalled ≡ false
open-at s h is never = still-open s _ h is never refl
