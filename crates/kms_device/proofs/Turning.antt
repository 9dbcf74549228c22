-- From a turn at the lock to what a call of the device did.
use Rattle.std.proofs.Common.{◌≡◌, ◌⊎◌, ℕ, ◌+◌, ◌-◌, List, [], ◌∷◌, ◌++◌, length, append-nil, length-append, Option, Some, None, Bool, true}
use Rattle.std.proofs.Common.{false, Result, Ok, Err, refl, sym, ap, ◌∙◌, subst, inl, inr, arith, All}
use Rattle.std.proofs.lemmas.List.Elements.{All-nil, All-cons}
use Rattle.std.specs.Fn.{FnOnceReturnsAtMut, Once}
use denote.Ref.{MutBor}
use Rattle.kms_model.specs.Order.Turns.{lock_step}
use Rattle.kms_model.specs.declared.objects.ObjId.{ObjId}
use Rattle.kms_model.specs.declared.replies.Reply.{Reply}
use Rattle.kms_model.specs.declared.replies.Step.{Step}
use Rattle.kms_model.specs.declared.replies.Step.TheVariants.{Claim, Read, Refuse, Relock, Return}
use Rattle.kms_model.specs.declared.scripts.Script.{Script}
use Rattle.kms_histlock.specs.Passes.{MayFind}
use Rattle.kms_core.specs.declared.calls.contexts.Locked.{Locked}
use Rattle.kms_core.specs.declared.calls.contexts.Locked.TheVariants as locked
use Rattle.kms_core.specs.declared.stores.looking.Decided.{Decided}
use Rattle.kms_core.specs.declared.stores.looking.Decided.TheVariants as decided
use Rattle.kms_core.specs.Calls.{read_step, return_step}
use Rattle.kms_core.specs.Decisions.{steps_of}
use Rattle.kms_core.specs.Locks.{lock_steps, relock_steps}
use Rattle.kms_core.specs.Run.{Run, gains, if_ok}
use Rattle.kms_core.specs.Work.{claim_steps}
use Rattle.kms_device.specs.Kernels.{AddsPlainOf, is_plain}
use Rattle.kms_laws.specs.Blankings.{blankings}
use Rattle.kms_device.specs.Steps.{owner, step_if}
use Rattle.kms_device.specs.Turns.{Called, DevicePass, IsOpen, MayBeFound, DeviceTurn}

abbrev pub entries : Run → List Step
entries r = r.steps

abbrev pub fixed : Run → Script
fixed r = r.script

-- what may be found at the lock is what a call may find
pub finds_of : (script its : Script) (pass : DevicePass) (x : Run) → its ≡ script → MayFind owner entries blankings fixed IsOpen its pass x
    → MayBeFound script pass x
finds_of script its pass x same f = record { history = f.history; same = f.same ∙ same; is_open = f.is_sound }

-- What a call added, by the steps that its answer names.
pub turn_of : {F R : Type 0} (g : Once F (MutBor Run × Unit {0}) (R × (MutBor Run × Unit {0}))) (f : F) (r : R) (script : Script)
    (says : Run → Type 0) (es : List Step) (before after : DevicePass)
    → Called script g f r before after
    → ((x y : Run) → MayBeFound script before x → FnOnceReturnsAtMut g f x r y → says x × (y ≡ gains x es))
    → DeviceTurn script says es before after
turn_of {F} {R} g f r script says es before after t tells =
    let told = tells t.found t.left t.finds t.called in
    let steps : t.left.steps ≡ t.found.steps ++ es = ap entries told.1 in
    let long : length t.left.steps ≡ length t.found.steps + length es = ap length steps ∙ length-append t.found.steps es in
    let made : length t.left.steps - length t.found.steps ≡ length es = omega arith in
    record {
      found = t.found;
      finds = t.finds;
      said = told.0;
      now = t.now ∙ (λ i. record before { seen = steps i; made = before.made + made i; turns = before.turns + 1 });
      left = subst IsOpen told.1 t.is_open;
    }

abbrev pub IsPlain : Step → Type 0
IsPlain step = is_plain step ≡ true

abbrev pub IsOf : ℕ → Step → Type 0
IsOf client step = (owner step ≡ 0) ⊎ (owner step ≡ client)

-- steps that are a client's, or nobody's, and plain
pub record ArePlainOf (client : ℕ) (es : List Step) : Type 0 where
  pub plain : All (λ step. is_plain step ≡ true) es
  pub owners : All (λ step. (owner step ≡ 0) ⊎ (owner step ≡ client)) es

pub adds_of : (client : ℕ) (x y : Run) (es : List Step) → ArePlainOf client es → y ≡ gains x es → AddsPlainOf client x y
adds_of client x y es plain now = record { adds = record { steps = es; now = now; plain = plain.plain }; owners = plain.owners }

pub none_of : (client : ℕ) → ArePlainOf client []
none_of client = record { plain = All-nil IsPlain; owners = All-nil (IsOf client) }

pub one_of : (client : ℕ) (x : Step) → is_plain x ≡ true → (owner x ≡ 0) ⊎ (owner x ≡ client) → ArePlainOf client (x ∷ [])
one_of client x plain own = record {
  plain = All-cons IsPlain x [] plain (All-nil IsPlain);
  owners = All-cons (IsOf client) x [] own
      (All-nil (IsOf client));
}

pub one_if : (client : ℕ) (b : Bool) (x : Step) → is_plain x ≡ true → owner x ≡ 0 → ArePlainOf client (step_if b x)
one_if client true x plain own = one_of client x plain (inl own)
one_if client false x plain own = none_of client

pub one_if_ok : {A E : Type 0} (client : ℕ) (r : Result A E) (x : Step) → is_plain x ≡ true → owner x ≡ client
    → ArePlainOf client (if_ok r (λ a. x ∷ []))
one_if_ok client (Ok a) x plain own = one_of client x plain (inr own)
one_if_ok client (Err e) x plain own = none_of client

-- calls that add nothing

none_more : (x : Run) → x ≡ gains x []
none_more x = ap {B = Run} (λ xs. record { script = x.script; steps = xs }) (sym (append-nil x.steps))

pub adds_none : (client : ℕ) (x y : Run) → y ≡ x → AddsPlainOf client x y
adds_none client x y same = adds_of client x y [] (none_of client) (same ∙ none_more x)

pub turn_same : {F R : Type 0} (g : Once F (MutBor Run × Unit {0}) (R × (MutBor Run × Unit {0}))) (f : F) (r : R) (script : Script)
    (says : Run → Type 0) (before after : DevicePass)
    → Called script g f r before after
    → ((x y : Run) → MayBeFound script before x → FnOnceReturnsAtMut g f x r y → says x × (y ≡ x)) → DeviceTurn script says [] before after
turn_same g f r script says before after t tells =
    turn_of g f r script says [] before after t
    (λ x y finds called. let told = tells x y finds called in (told.0, told.1 ∙ none_more x))

-- the steps of answers

pub claims_of : (client : ℕ) (o : Option ℕ) → ArePlainOf client (claim_steps o)
claims_of client (Some k) = one_of client (Claim k) refl (inl refl)
claims_of client None = none_of client

pub reads_of : {E : Type 0} (client rank : ℕ) (r : Result (Option Reply) E) → rank ≡ client → ArePlainOf rank (if_ok r (read_step client))
reads_of client rank (Ok (Some reply)) same = one_of rank (Read client) refl (inr (sym same))
reads_of client rank (Ok None) same = none_of rank
reads_of client rank (Err e) same = none_of rank

pub returns_of : {E : Type 0} (client rank : ℕ) (r : Result Bool E) → rank ≡ client → ArePlainOf rank (if_ok r (return_step client))
returns_of client rank (Ok true) same = one_of rank (Return client) refl (inr (sym same))
returns_of client rank (Ok false) same = none_of rank
returns_of client rank (Err e) same = none_of rank

pub relocks_of : {E : Type 0} (client : ℕ) (r : Result Locked E) → ArePlainOf client (if_ok r (relock_steps client))
relocks_of client (Ok (locked.Got s)) = one_of client (Relock client) refl (inr refl)
relocks_of client (Ok (locked.Own s)) = none_of client
relocks_of client (Ok (locked.Older holder)) = none_of client
relocks_of client (Ok (locked.Younger holder)) = none_of client
relocks_of client (Ok (locked.Held holder)) = none_of client
relocks_of client (Err e) = none_of client

pub decides_of : {E : Type 0} (client : ℕ) (r : Result Decided E) (x : Step) → is_plain x ≡ true → owner x ≡ client
    → ArePlainOf client (if_ok r (steps_of client x))
decides_of client (Ok (decided.Done reply)) x plain own = one_of client x plain (inr own)
decides_of client (Ok (decided.Refused reply)) x plain own = one_of client (Refuse client) refl (inr refl)
decides_of client (Ok (decided.NotYet object commit)) x plain own = none_of client
decides_of client (Ok (decided.Again label was now)) x plain own = none_of client
decides_of client (Err e) x plain own = none_of client

pub locks_of : {E : Type 0} (client : ℕ) (id : ObjId) (r : Result Locked E) → ArePlainOf client (if_ok r (lock_steps client id))
locks_of client id (Ok (locked.Got s)) = one_of client (lock_step client id.0) refl (inr refl)
locks_of client id (Ok (locked.Older holder)) = one_of client (lock_step client id.0) refl (inr refl)
locks_of client id (Ok (locked.Own s)) = none_of client
locks_of client id (Ok (locked.Younger holder)) = none_of client
locks_of client id (Ok (locked.Held holder)) = none_of client
locks_of client id (Err e) = none_of client
