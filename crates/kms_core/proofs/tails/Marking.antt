-- Steps of tails that change marks alone.
use Rattle.std.proofs.Common.{◌≡◌, ℕ, ◌<◌, ◌≤◌, true, None, Some, length, List, [], ◌∷◌, refl, sym, ap, ◌∙◌, arith}
use Rattle.std.specs.Prelude.{not, Bool}
use Rattle.std.proofs.lemmas.Bool.{and_from, and_parts, false≢true}
use Rattle.kms_model.specs.declared.replies.Step.TheVariants as step
use Rattle.kms_model.specs.declared.scripts.Script.{Script}
use Rattle.kms_model.specs.Machine.Commits.{is_all_latched, is_cleaned, is_hw_done}
use Rattle.kms_model.specs.Machine.Effects.{next}
use Rattle.kms_model.specs.Machine.Framebuffers.{commit_keeps}
use Rattle.kms_model.specs.Machine.Histories.{legal}
use Rattle.kms_model.specs.Machine.State.{Machine, Marks}
use Rattle.kms_model.specs.Machine.Steps.{may}
use Rattle.kms_model.specs.Things.Tables.{without_id}
use Rattle.kms_things.specs.Made.{Made}
use Rattle.kms_track.specs.InStep.{IsTrackerOf, WhereverOf}
use Rattle.kms_track.specs.declared.progress.Mark.TheVariants as mark
use Rattle.kms_track.specs.declared.tail.Tail.{Tail}
use Rattle.kms_track.specs.StepLaws.{HasNames}
use Rattle.kms_track.specs.Tracking.{Tracking, marked, tail_of}
use Rattle.kms_track.proofs.StepLemmas as tracker_follows
use Rattle.kms_core.specs.Stored.{AreHeld}
use Rattle.kms_core.specs.Freeing.{AreAllOf, framebuffers_in}
use Rattle.kms_core.specs.Logs.{Reserved}
use Rattle.kms_core.specs.Needs.{Frees}
use Rattle.kms_core.specs.Run.{Run, gains, machine}
use Rattle.kms_core.specs.Stands.{Stores, Stands, StandsAt}
use Rattle.kms_core.specs.Work.{MayBeDone, MayCleanUp, TellsOver, is_commit_over, AreFewCommits}
use Rattle.kms_core.proofs.stores.CommitStates.{facts}
use Rattle.kms_core.proofs.stores.FreedCalls.{goes_cleaning, kept_held, kept_places}
use Rattle.kms_core.proofs.stores.Histories.{goes_on, written_anew}
use Rattle.kms_core.proofs.stores.Spared.{IsOwn, own_step}
use Rattle.kms_core.proofs.tails.Writing.{kept_as}
use Rattle.kms_laws.proofs.SmallNumbers.{numbers_fit}

-- all stores stand with other marks
pub stands_marked : {s : Script} {m : Machine} (marks : Marks) {st : Stores} (tracker : Tracking)
    → IsTrackerOf s.topology m.device.commits marks m.records.latches tracker → StandsAt s m st
    → StandsAt s (record m { device = record m.device { marks = marks } }) (record st { tracker = tracker })
stands_marked {s} {m} marks {st} tracker tracked stands =
    written_anew m.device.shadow marks tracker st.registers stands.registers tracked stands

-- a commit is claimed
pub claims : {r w : Run} {st : Stores} {tracker : Tracking} (k : ℕ) → Stands r st
    → legal r.script (machine r) (step.Claim k) ≡ true → w ≡ gains r (step.Claim k ∷ [])
    → tracker ≡ marked st.tracker k mark.Claimed → Stands w (record st { tracker = tracker })
unfolding next
claims {r} {st = st} {tracker = tracker} k stands is more tracked =
    goes_on (step.Claim k) refl refl refl stands more is
    (stands_marked (record (machine r).device.marks { claimed = k ∷ (machine r).device.marks.claimed }) tracker
    (rw tracked (tracker_follows.claim_follows r.script (machine r) k st.tracker is stands.stores.tracker)) stands.stores)

-- it is done
pub ends_writing : {r w : Run} {st : Stores} {tracker : Tracking} (k : ℕ) → Stands r st → MayBeDone r k
    → w ≡ gains r (step.HwDone k ∷ []) → tracker ≡ marked st.tracker k mark.Done → Stands w (record st { tracker = tracker })
unfolding next
ends_writing {r} {st = st} {tracker = tracker} k stands asked more tracked =
    goes_on (step.HwDone k) refl refl refl stands more asked
    (stands_marked (record (machine r).device.marks { done = k ∷ (machine r).device.marks.done }) tracker
    (rw tracked (tracker_follows.hw_done_follows r.script (machine r) k st.tracker asked stands.stores.tracker)) stands.stores)

-- Cleanups

-- a commit that is claimed was set up
pub claimed_within : {r : Run} {st : Stores} {k : ℕ} → Stands r st → MayCleanUp r k → k < length (machine r).device.commits
claimed_within {k} stands asked =
    (facts stands).holds.tail.marks.claimed k
    asked.claimed

has_names : {r : Run} {st : Stores} → Stands r st → HasNames r.script.topology (machine r).device
has_names stands =
    let F = facts stands in
    record { done_claimed = λ k is. (F.holds.tail.marks.done k is).0; named = F.whole.apart.named }

pub cleanup_legal : {r : Run} {k : ℕ} → MayCleanUp r k → is_commit_over r k ≡ true → legal r.script (machine r) (step.Cleanup k) ≡ true
unfolding legal may
cleanup_legal {r} {k} asked over =
    let d = (machine r).device in
    let parts = and_parts (is_hw_done d k) _ over in
    and_from (not (machine r).stalled) _ (ap not asked.going)
    (and_from (is_hw_done d k) _ parts.0 (and_from (is_all_latched r.script.topology d (machine r).records.latches k)
    (not (is_cleaned d k)) parts.1 (ap not asked.kept)))

-- what the call leaves of the tracker
pub record HasForgotten (k : ℕ) (old new : Tracking) : Type 0 where
  pub count : new.count ≡ old.count
  pub lasts : new.lasts ≡ old.lasts
  pub tails : new.tails.slots ≡ without_id old.tails.slots k

pub forgotten : {r : Run} {st : Stores} {k : ℕ} {tracker : Tracking} → Stands r st → MayCleanUp r k → is_commit_over r k ≡ true
    → HasForgotten k st.tracker tracker
    → IsTrackerOf r.script.topology (machine r).device.commits
    (record (machine r).device.marks { cleaned = k ∷ (machine r).device.marks.cleaned })
    (machine r).records.latches tracker
unfolding next
forgotten {r} {st} {k} {tracker} stands asked is_now forgot =
    tracker_follows.cleanup_follows r.script (machine r) k st.tracker tracker
    (cleanup_legal asked is_now) (has_names stands) stands.stores.tracker
    forgot.count forgot.lasts forgot.tails

pub cleans_up : {r w : Run} {st : Stores} {tracker : Tracking} (k : ℕ) → Stands r st → MayCleanUp r k
    → is_commit_over r k ≡ true → w ≡ gains r (step.Cleanup k ∷ []) → HasForgotten k st.tracker tracker
    → (ids : List ℕ) (freed : Reserved (ℕ × ℕ)) (made : Made) → AreAllOf ids (λ id. commit_keeps r.script.topology (machine r).device id k)
    → {crtcs : ℕ} → crtcs ≡ r.script.topology.crtcs → Frees st.made made st.present st.registers tracker crtcs ids st.freed freed
    → Stands w (record st { tracker = tracker; freed = freed; made = made })
unfolding next
cleans_up {r} {st = st} {tracker = tracker} k stands asked is_now more forgot ids freed made all crtcs_are frees =
    goes_cleaning (record st { tracker = tracker }) k ids freed made
    (claimed_within stands asked) asked.kept all (rw crtcs_are at frees) refl stands more
    (cleanup_legal asked is_now)
    (stands_marked (record (machine r).device.marks { cleaned = k ∷ (machine r).device.marks.cleaned }) tracker
    (forgotten stands asked is_now forgot) stands.stores)

-- the tail tells whether a commit is over
pub over_told : {r : Run} {st : Stores} {k : ℕ} → Stands r st → MayCleanUp r k → (over : Bool) → TellsOver st.tracker k over
    → over ≡ is_commit_over r k
over_told {r} {st} stands asked over tells =
    tells r.script.topology (machine r).device (machine r).records.latches stands.formed.device (claimed_within stands asked)
    asked.kept stands.stores.tracker

-- where the tail tells so, the cleanup is a step of the commit's own
pub record OwnsCleanup (r : Run) (k : ℕ) : Type 0 where
  pub over : is_commit_over r k ≡ true
  pub own : IsOwn r (step.Cleanup k) k

pub owns_cleanup : {r : Run} {st : Stores} {k : ℕ} → Stands r st → MayCleanUp r k → {over : Bool} → TellsOver st.tracker k over
    → over ≡ true → OwnsCleanup r k
owns_cleanup {r} {st} {k} stands asked {over} tells told =
    let is = sym (over_told stands asked over tells) ∙ told in
    record {
      over = is;
      own = own_step (step.Cleanup k) k stands refl refl
          (cleanup_legal asked is);
    }

-- What is freed

-- its tail is there
pub cleanup_there : {r : Run} {st : Stores} (k : ℕ) → Stands r st → MayCleanUp r k → None ≡ tail_of st.tracker k → ⊥
cleanup_there {r} {st} k stands asked none =
    false≢true (sym asked.kept
    ∙ (kept_as k stands (claimed_within stands asked) none).0)

-- its states name what the commit keeps
pub tail_keeps_all : {r : Run} {st : Stores} {k : ℕ} {x : Tail} {found ids : List ℕ} → Stands r st → MayCleanUp r k
    → Some x ≡ tail_of st.tracker k
    → WhereverOf x (λ t d latches k. AreAllOf found (λ id. commit_keeps t d id k)) → ids ≡ found
    → AreAllOf ids (λ id. commit_keeps r.script.topology (machine r).device id k)
tail_keeps_all {r} {st} {k} {x} stands asked some all is =
    let kept = kept_as k stands (claimed_within stands asked) some in
    rw is (all r.script.topology (machine r).device (machine r).records.latches k stands.formed.device kept.1)

pub cleanup_places : {r : Run} {st : Stores} {k : ℕ} {ids : List ℕ} → Stands r st → MayCleanUp r k
    → AreAllOf ids (λ id. commit_keeps r.script.topology (machine r).device id k) → framebuffers_in st.made.things ids ≤ st.freed.places
cleanup_places {r} {st} {k} {ids} stands asked all = kept_places k ids stands (claimed_within stands asked)
    asked.kept all

pub cleanup_held : {r : Run} {st : Stores} {k : ℕ} {ids : List ℕ} → Stands r st → MayCleanUp r k
    → AreAllOf ids (λ id. commit_keeps r.script.topology (machine r).device id k) → AreHeld st.made.things st.made.fbs ids
cleanup_held {r} {st} {k} {ids} stands asked all =
    kept_held k ids stands (claimed_within stands asked) asked.kept all

-- the commits after it are few
pub few_cleaned : {r : Run} {st : Stores} {k : ℕ} {tracker : Tracking} → Stands r st → MayCleanUp r k → is_commit_over r k ≡ true
    → HasForgotten k st.tracker tracker → AreFewCommits tracker
few_cleaned {r} {st} {k} {tracker} stands asked is_now forgot =
    let m = machine r in
    let fit = (numbers_fit r.script r.steps stands.formed stands.history).commits in
    record {
      topology = r.script.topology;
      commits = m.device.commits;
      marks = record m.device.marks { cleaned = k ∷ m.device.marks.cleaned };
      latches = m.records.latches;
      stand = forgotten stands asked is_now forgot;
      few = omega (arith, fit);
    }
