-- What the functions that say a command anew rest on.
use Rattle.std.proofs.Common.{◌≡◌, ℕ, ◌≤◌, false, List, Ok, Err, Some, None, length, refl, sym, ap, subst, ◌∙◌, arith}
use Rattle.std.specs.Prelude.{IfOk, OnOk, Option, Result, nat_lt, option_map}
use Rattle.std.specs.List.{IsDistinct}
use Rattle.std.specs.Str.{bytes_eq}
use Rattle.std.specs.Result.{result_ok}
use Rattle.std.proofs.lemmas.Bool.Decides.{nat_tests}
use Rattle.kms_model.specs.declared.legacy.LegacyCall.{LegacyCall}
use Rattle.kms_model.specs.declared.legacy.LegacyCommand.TheVariants.{Plain, Call}
use Rattle.kms_model.specs.declared.legacy.LegacyScript.{LegacyScript}
use Rattle.kms_model.specs.declared.objects.Topology.{Topology}
use Rattle.kms_model.specs.declared.replies.Reply.{Reply}
use Rattle.kms_model.specs.declared.scripts.Command.{Command}
use Rattle.kms_model.specs.declared.scripts.Command.TheVariants as command
use Rattle.kms_model.specs.declared.scripts.Request.{Request}
use Rattle.kms_model.specs.declared.scripts.Script.{Script}
use Rattle.kms_model.specs.declared.worlds.World.{World}
use Rattle.kms_model.specs.Device.Execution.{Executed, execute}
use Rattle.kms_model.specs.Legacy.Translated.{IsTranslated, meant, translated}
use Rattle.kms_model.specs.Script.CommandLines.{is_over, words_in}
use Rattle.kms_model.specs.Script.WellFormed.{IsFitCommand}
use Rattle.kms_words.specs.Fitting.{HasFilled}
use Rattle.kms_legacy.specs.declared.errors.LegacyError.{LegacyError}
use Rattle.kms_legacy.specs.declared.errors.LegacyError.TheVariants as errors
use Rattle.kms_legacy.specs.declared.script.Going.{Going}
use Rattle.kms_legacy.specs.Asked.{GivesRequest}
use Rattle.kms_legacy.specs.Translating.{GoesOn, IsLeft, IsOver, IsPassed, IsSaidAnew, said_names, script_of}

-- what holds of a request that is stated holds of one that is given
pub given_holds : (P : Request → Type 0) (r : Result Request LegacyError) (stated : Result Request ℕ) → GivesRequest r stated
    → ((q : Request) → stated ≡ Ok q → P q) → IfOk r P
given_holds P (Ok q) stated is holds = holds q is
given_holds P (Err (errors.Refused number)) stated is holds = tt
given_holds P (Err errors.NoMemory) stated is holds = tt

few_sets : (n : ℕ) → nat_lt 256 n ≡ false → n ≤ 256
few_sets n e = grind (arith, nat_tests)

pub fit_of : (c : Command) → HasFilled c → is_over c ≡ false → IsFitCommand c
fit_of (command.Buffer label width height format pattern) filled few = filled
fit_of (command.AddFb label buffer) filled few = tt
fit_of (command.Mode label m) filled few = tt
fit_of (command.Blob label bytes) filled few = tt
fit_of (command.Destroy label) filled few = tt
fit_of (command.CloseFb label) filled few = tt
fit_of (command.Fence label) filled few = tt
fit_of (command.Signal label) filled few = tt
fit_of (command.Atomic r) filled few = few_sets (length r.assigns) few
fit_of command.Wait filled few = tt

abbrev executed : World → Reply → Executed
executed w r = record { world = w; reply = r }

-- the world that a command leaves
pub world_after : (t own : Topology) (before after : World) (c : Command) (r : Reply) → own ≡ t → execute own before 1 c ≡ executed after r
    → after ≡ (execute t before 1 c).world
world_after t own before after c r same e =
    ap (λ (x : Executed). x.world) (sym e) ∙ ap (λ (u : Topology). (execute u before 1 c).world) same

-- what a command of the old script leaves

pub plain_left : (old new : List (List ℕ)) (t : Topology) (w : World) (c : Command) → meant old new t w (Plain c) ≡ Some c
unfolding meant
plain_left old new t w c = refl

pub call_left : (old new : List (List ℕ)) (t : Topology) (w : World) (l : LegacyCall) (r : Request) → translated old new t w l ≡ Ok r
    → meant old new t w (Call l) ≡ Some (command.Atomic r)
unfolding meant
call_left old new t w l r e = ap (λ (x : Result Request ℕ). option_map command.Atomic (result_ok x)) e

pub none_left : (old new : List (List ℕ)) (t : Topology) (w : World) (l : LegacyCall) (n : ℕ) → translated old new t w l ≡ Err n
    → meant old new t w (Call l) ≡ None
unfolding meant
none_left old new t w l n e = ap (λ (x : Result Request ℕ). option_map command.Atomic (result_ok x)) e

-- a command is passed

pub passed_plain : (old : List (List ℕ)) (t : Topology) (c : Command) (a b : Going) → IsSaidAnew old t c a b → IsPassed old t (Plain c) a b
passed_plain old t c a b said =
    subst (λ (o : Option Command). IsLeft old t o a b) (sym (plain_left old (words_in (said_names a)) t a.serial.world c)) said

pub passed_call : (old : List (List ℕ)) (t : Topology) (l : LegacyCall) (r : Request) (a b : Going)
    → translated old (words_in (said_names a)) t a.serial.world l ≡ Ok r → IsSaidAnew old t (command.Atomic r) a b
    → IsPassed old t (Call l) a b
passed_call old t l r a b is said =
    subst (λ (o : Option Command). IsLeft old t o a b) (sym (call_left old (words_in (said_names a)) t a.serial.world l r is)) said

pub passed_none : (old : List (List ℕ)) (t : Topology) (l : LegacyCall) (n : ℕ) (a : Going)
    → translated old (words_in (said_names a)) t a.serial.world l ≡ Err n → IsPassed old t (Call l) a a
passed_none old t l n a is =
    subst (λ (o : Option Command). IsLeft old t o a a) (sym (none_left old (words_in (said_names a)) t a.serial.world l n is)) refl

pub on_ok : {A E : Type 0} (r : Result A E) (P Q : Type 0) → (P → Q) → OnOk r P → OnOk r Q
on_ok (Ok x) P Q more p = more p
on_ok (Err e) P Q more p = tt

-- All commands

pub next_over : (t : Topology) (a b : Going) → GoesOn a b → IsOver t a → IsOver t b
next_over t a b goes over = record { profile = goes.profile ∙ over.profile; device = goes.device ∙ over.device }

-- The whole script

pub whole_translated : {E : Type 0} (s : LegacyScript) (g : Going) (r : Result Script E)
    → (IsDistinct bytes_eq (words_in (said_names g)) → IsTranslated s (script_of s g)) → IfOk r (λ out. out ≡ script_of s g)
    → IfOk r (λ out. IsDistinct bytes_eq out.names)
    → IfOk r (IsTranslated s)
whole_translated s g (Ok out) is same differ =
    subst (IsTranslated s) (sym same) (is (subst (λ (o : Script). IsDistinct bytes_eq o.names) same differ))
whole_translated s g (Err e) is same differ = tt
