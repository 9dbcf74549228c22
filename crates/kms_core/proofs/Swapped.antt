-- What a swap asks for is what a commit asks for, and its answers.
use Rattle.std.proofs.Common.{◌≡◌, ℕ, true, List, [], ◌∷◌, length, Option, Some, None, sym, ap, ◌∙◌, subst, append-nil}
use Rattle.kms_model.specs.declared.objects.ObjId.{ObjId}
use Rattle.kms_model.specs.declared.objects.Topology.{Topology}
use Rattle.kms_model.specs.declared.replies.Reply.{Reply}
use Rattle.kms_model.specs.declared.replies.Reply.TheVariants as reply
use Rattle.kms_model.specs.declared.replies.Step.{Step}
use Rattle.kms_model.specs.declared.replies.Step.TheVariants as step
use Rattle.kms_model.specs.declared.scripts.Request.{Request}
use Rattle.kms_model.specs.declared.sets.Resolved.{Resolved}
use Rattle.kms_model.specs.declared.states.Checked.{Checked}
use Rattle.kms_model.specs.declared.worlds.Look.{Look}
use Rattle.kms_model.specs.Machine.Histories.{is_history, legal}
use Rattle.kms_model.specs.Machine.State.{Machine, request_at}
use Rattle.kms_model.specs.Request.Lookups.{look_up}
use Rattle.kms_wwlock.specs.Standing.{doing_in}
use Rattle.kms_track.specs.MachineLaws.{awaited_answer}
use Rattle.kms_core.specs.declared.stores.looking.Decided.{Decided}
use Rattle.kms_core.specs.declared.stores.looking.Decided.TheVariants as answer
use Rattle.kms_core.specs.Decisions.{IsDecided, IsFirstStale, steps_of, taker, taker_in, world}
use Rattle.kms_core.specs.Run.{Run, gains, machine}
use Rattle.kms_model.specs.Script.WellFormed.{IsWellFormed}
use Rattle.kms_core.specs.Stands.{Stores, Stands}
use Rattle.kms_core.specs.Swaps.{IsReadyToCommit, MayCommit, MaySwap, MaySwapUnless, hindered_steps, late_reply, or_answer, refused_or}
use Rattle.kms_core.specs.Swaps.{swap_answer, swap_answer_of, waits_or_commits}
use Rattle.kms_core.proofs.stores.Accepted.{accepted_now}
use Rattle.kms_core.proofs.stores.Fresh.{fresh_now, named_among, tells_now}
use Rattle.kms_core.proofs.Takers.{taker_as}
use Rattle.kms_core.proofs.Verdicts.{of_request}

-- What is asked for

pub ready_now : (r : Run) (t : ℕ) (used : List (ℕ × Look)) (checked : Checked) (resolved : Resolved) → IsWellFormed r.script
    → is_history r.script r.steps ≡ true → IsFirstStale (look_up (world r)) used None → MaySwap r t used checked resolved
    → IsReadyToCommit r (taker (machine r) t) checked resolved.flags
ready_now r t used checked resolved formed history fresh asked =
    let now = accepted_now formed history fresh asked.deciding asked.accepted in
    record {
      request = asked.request;
      number = now.decider.takes.number;
      taking = now.decider.takes.taking;
      at = now.decider.at;
      going = now.decider.going;
      none = now.none;
      held = now.held;
      checked_as = now.checked_as;
      flags_are = asked.accepted.given.asks.flags;
      no_test = asked.no_test;
    }

commit_now : {r : Run} {st : Stores} {t : ℕ} {used : List (ℕ × Look)} {checked : Checked} {resolved : Resolved} → Stands r st
    → IsFirstStale (look_up (world r)) used None → MaySwap r t used checked resolved
    → legal r.script (machine r) (step.Swap (taker (machine r) t)) ≡ true → MayCommit r (taker (machine r) t) checked resolved
unfolding ready_now
commit_now {r} {t} {used} {checked} {resolved} stands fresh asked is_legal =
    record {
      ready = ready_now r t used checked resolved stands.formed stands.history fresh asked;
      states = asked.states;
      asks = (of_request stands.formed stands.history
          (tells_now (world r) asked.request used fresh asked.deciding.labels) asked.accepted.given).asks;
      legal = is_legal;
    }

-- as the call finds it

pub ready_as : {r : Run} {st : Stores} {t : ℕ} {used : List (ℕ × Look)} {checked : Checked} {resolved : Resolved} {client : ℕ}
    → Stands r st → IsFirstStale (named_among st.made.things) used None → MaySwap r t used checked resolved
    → client ≡ taker_in (doing_in st.clients.places) t → IsReadyToCommit r client checked resolved.flags
ready_as {r} {t} {used} {checked} {resolved} {client} stands none asked is =
    let done = ready_now r t used checked resolved stands.formed stands.history (fresh_now used stands none) asked in
    subst (λ n. IsReadyToCommit r n checked resolved.flags) (sym (taker_as t stands is)) done

-- nothing is gained where nothing hinders
pub gains_none : (v : Run) {w : Run} (client : ℕ) {o : Option Decided} → None ≡ o → w ≡ gains v (hindered_steps client o) → w ≡ v
gains_none v client none is = is ∙ ap (λ x. gains v (hindered_steps client x)) (sym none) ∙ ap
    (λ (xs : List Step). record v { steps = xs }) (append-nil v.steps)

pub commit_as : {r : Run} (w : Run) {st : Stores} (t : ℕ) (used : List (ℕ × Look)) (checked : Checked) (resolved : Resolved) (client : ℕ)
    (o : Option Decided) → Stands r st → IsFirstStale (named_among st.made.things) used None
    → MaySwap r t used checked resolved → client ≡ taker_in (doing_in st.clients.places) t → None ≡ o → w
    ≡ gains r (hindered_steps client o) → MaySwapUnless r client o → MayCommit w client checked resolved
commit_as {r} w {st = st} t used checked resolved client o stands none asked is unhindered gained may =
    let own = taker_as t stands is in
    let may_now : legal r.script (machine r) (step.Swap client) ≡ true = subst (MaySwapUnless r client) (sym unhindered) may in
    let done = commit_now stands (fresh_now used stands none) asked
    (subst (λ n. legal r.script (machine r) (step.Swap n) ≡ true) own may_now) in
    subst (λ (x : Run). MayCommit x client checked resolved) (sym (gains_none r client unhindered gained))
    (subst (λ n. MayCommit r n checked resolved) (sym own) done)

-- Answers

-- the answer of a swap is none to decide again
never : (late : Option Reply) (awaited : Option (ObjId × ℕ)) (k label : ℕ) (was now : Look) → answer.Again label was now
    ≡ refused_or late (waits_or_commits awaited k) → ⊥
never None None k label was now is = absurd cc
never None (Some p) k label was now is = absurd cc
never (Some given) awaited k label was now is = absurd cc

never_again : (t : Topology) (m : Machine) (client : ℕ) (o : Option Request) (label : ℕ) (was now : Look) → answer.Again label was now
    ≡ swap_answer_of t m client o → ⊥
never_again t m client None label was now is = absurd cc
never_again t m client (Some r) label was now is = never (late_reply t m client r) (awaited_answer t m r) (length m.device.commits) label
    was now is

by_answer : (names : ℕ → Look) (used : List (ℕ × Look)) (v : Run) (client : ℕ) (given : Decided) → IsFirstStale names used None → given
    ≡ swap_answer v client → IsDecided names used (swap_answer v client) given
by_answer names used v client (answer.Done given) fresh is = (fresh, is)
by_answer names used v client (answer.Refused given) fresh is = (fresh, is)
by_answer names used v client (answer.NotYet object commit) fresh is = (fresh, is)
by_answer names used v client (answer.Again label was now) fresh is = absurd
    (never_again v.script.topology (machine v) client (request_at v.script (machine v) client) label was now is)

pub hindered_as : {r : Run} {st : Stores} (t : ℕ) (used : List (ℕ × Look)) {client : ℕ} {o : Option Decided} {given : Decided} (other :
    Decided)
    → Stands r st → IsFirstStale (named_among st.made.things) used None
    → client ≡ taker_in (doing_in st.clients.places) t → Some given ≡ o → or_answer o other ≡ swap_answer r client
    → IsDecided (look_up (world r)) used (swap_answer r (taker (machine r) t)) given
hindered_as {r} t used {client} {given} other stands none is some answered =
    by_answer (look_up (world r)) used r (taker (machine r) t) given (fresh_now used stands none)
    (ap (λ (x : Option Decided). or_answer x other) some ∙ answered ∙ ap (swap_answer r) (taker_as t stands is))

pub steps_as : {r : Run} {w : Run} {st : Stores} (t : ℕ) {client : ℕ} {o : Option Decided} {given : Decided} → Stands r st → client
    ≡ taker_in (doing_in st.clients.places) t → Some given ≡ o → w ≡ gains r (hindered_steps client o)
    → w ≡ gains r (steps_of (taker (machine r) t) (step.Swap (taker (machine r) t)) given)
steps_as {r} t {client} {given} stands is some gained =
    gained ∙ ap (λ x. gains r (hindered_steps client x)) (sym some) ∙ ap (λ n. gains r (steps_of n (step.Swap n) given))
    (taker_as t stands is)

pub committed_as : {r : Run} {w : Run} {st : Stores} (t : ℕ) {client commit : ℕ} {o : Option Decided} → Stands r st → client
    ≡ taker_in (doing_in st.clients.places) t → None ≡ o → w ≡ gains r (hindered_steps client o)
    → or_answer o (answer.Done (reply.Commit (length (machine r).device.commits))) ≡ swap_answer r client → commit
    ≡ length (machine w).device.commits → answer.Done (reply.Commit commit) ≡ swap_answer r (taker (machine r) t)
committed_as {r} {w} t {client} {o} stands is none gained answered number =
    ap (λ k. answer.Done (reply.Commit k)) (number ∙ ap (λ (x : Run). length (machine x).device.commits)
    (gains_none r client none gained))
    ∙ ap (λ (x : Option Decided). or_answer x (answer.Done (reply.Commit (length (machine r).device.commits)))) none ∙ answered ∙ ap
    (swap_answer r) (taker_as t stands is)

pub gained_as : {r : Run} {w last : Run} {st : Stores} (t : ℕ) {client : ℕ} {o : Option Decided} → Stands r st → client
    ≡ taker_in (doing_in st.clients.places) t → None ≡ o → w ≡ gains r (hindered_steps client o)
    → last ≡ gains w (step.Swap client ∷ []) → last ≡ gains r (step.Swap (taker (machine r) t) ∷ [])
gained_as {r} {w} t {client} {o} stands is none gained more =
    more ∙ ap (λ (x : Run). gains x (step.Swap client ∷ [])) (gains_none r client none gained) ∙ ap (λ n. gains r (step.Swap n ∷ []))
    (taker_as t stands is)
