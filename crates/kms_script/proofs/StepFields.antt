-- The fields behind a step's word, and the step that is made of them.
use Rattle.std.proofs.Common.{◌≡◌, ℕ, List, Option, Some, None, refl}
use Rattle.std.specs.Prelude.{option_map}
use Rattle.kms_model.specs.declared.objects.Kind.{Kind}
use Rattle.kms_model.specs.declared.replies.Step.{Step}
use Rattle.kms_model.specs.Script.Schedules.{greatest_number, lone_step, numbered_step, object_at, step_on_object, step_with_object}
use Rattle.kms_model.specs.Script.Words.{◌>>=◌, dec_at, end_at}
use Rattle.kms_script.specs.Scheduled.{last_number, number_and_object}

-- behind a step that both take
bind_map : {A B C : Type 0} (o : Option A) (p : A → Option C) (q : A → Option B) (f : B → C) → ((x : A) → p x ≡ option_map f (q x))
    → (o >>= p) ≡ option_map f (o >>= q)
bind_map None p q f same = refl
bind_map (Some x) p q f same = same x

-- at the end of a line
last_map : {A B : Type 0} (o : Option A) (f : A → B) → (o >>= (λ x. Some (f x))) ≡ option_map f o
last_map None f = refl
last_map (Some x) f = refl

-- a step of a number alone
pub numbered_map : (step : ℕ → Step) (bytes : List ℕ) → numbered_step step bytes ≡ option_map step (last_number bytes)
unfolding numbered_step last_number
numbered_map step bytes = bind_map (dec_at greatest_number bytes) _ _ step (λ n. bind_map (end_at n.1) _ _ step (λ u. refl))

-- a step with an object, of a client or of a commit
pub with_object_map : (step : ℕ → Kind → ℕ → Step) (bytes : List ℕ)
    → step_with_object step bytes ≡ option_map (λ (y : ℕ × Kind × ℕ). step y.0 y.1 y.2) (number_and_object bytes)
unfolding step_with_object number_and_object
with_object_map step bytes =
    let make : ℕ × Kind × ℕ → Step = (λ y. step y.0 y.1 y.2) in
    bind_map (dec_at greatest_number bytes) _ _ make (λ n. bind_map (object_at n.1) _ _ make (λ o. refl))

-- a step with an object alone
pub on_object_map : (step : Kind → ℕ → Step) (bytes : List ℕ)
    → step_on_object step bytes ≡ option_map (λ (x : Kind × ℕ). step x.0 x.1) (object_at bytes)
unfolding step_on_object
on_object_map step bytes = last_map (object_at bytes) (λ x. step x.0 x.1)

pub lone_map : (step : Step) (bytes : List ℕ) → lone_step step bytes ≡ option_map (λ u. step) (end_at bytes)
unfolding lone_step
lone_map step bytes = last_map (end_at bytes) (λ u. step)
