-- The worlds that commits start from are lawful, and so are those after them; a CRTC's words are those after the commits
-- before, and the client is one of the script's.
use Rattle.std.proofs.Common.{◌≡◌, ℕ, ◌+◌, ◌<◌, ◌≤◌, List, ◌∷◌, length, true, sym, ap, ◌∙◌, subst, arith, ⊎_elim}
use Rattle.std.proofs.lemmas.Bool.{cases_lt, false_from_ne_true}
use Rattle.kms_model.specs.declared.objects.Kind.TheVariants.{Crtc}
use Rattle.kms_model.specs.declared.objects.Topology.{Topology}
use Rattle.kms_model.specs.declared.replies.Step.{Step}
use Rattle.kms_model.specs.declared.runs.Latch.{Latch}
use Rattle.kms_model.specs.declared.scripts.Command.TheVariants as command
use Rattle.kms_model.specs.declared.scripts.Script.{Script}
use Rattle.kms_model.specs.Device.Objects.{ids_of}
use Rattle.kms_model.specs.Device.Sound.{IsLawful}
use Rattle.kms_model.specs.Machine.Commits.{commit_at, commit_names, commit_touches, has_pair, lockable, new_values, old_values}
use Rattle.kms_model.specs.Machine.Histories.{at, is_history}
use Rattle.kms_model.specs.Machine.Registers.{CrtcWords, crtc_register}
use Rattle.kms_model.specs.Machine.State.{Commit, DeviceState, Machine, first_machine}
use Rattle.kms_model.proofs.Guards.{IsWrite}
use Rattle.kms_model.proofs.Items.{IsIn}
use Rattle.kms_model.proofs.SoundKept.{sound-apply}
use Rattle.kms_model.proofs.CommitFacts.{commit_old, commit_new}
use Rattle.kms_laws.proofs.Basics.{both_bools}
use Rattle.kms_laws.proofs.Invariants.{Tail, crtc_after}
use Rattle.kms_laws.proofs.Latching.{crtc_same}
use Rattle.kms_laws.proofs.Modes.{plain-from}
use Rattle.kms_laws.proofs.NeverStuck.{Facts, history_facts}
use Rattle.kms_laws.proofs.Numbered.{crtc_old}
use Rattle.kms_laws.proofs.Objects.{crtc_lockable, names-touches}
use Rattle.kms_laws.proofs.Present.{is_old}
use Rattle.kms_laws.proofs.Requests.{words_at}
use Rattle.kms_laws.proofs.Steps.{Holds, IsPlainScript, along, first_kept, step_kept}
use Rattle.kms_laws.proofs.Traversal.{IsKept, commit_of, few_kept, step_keeps}
use Rattle.kms_core.specs.Run.{Run, machine}
use Rattle.kms_core.specs.Stands.{Stores, Stands}
use Rattle.kms_core.proofs.Places.{client_there}

-- The law

pub record IsSoundCommit (t : Topology) (clients : ℕ) (c : Commit) (words : ℕ → CrtcWords) : Type 0 where
  pub low : 1 ≤ c.client
  pub high : c.client ≤ clients
  pub lawful : IsLawful t c.world
  pub lawful_after : IsLawful t (record c.world { values = new_values c; commits = c.world.commits + 1 })
  pub old_words : (crtc : ℕ) → IsIn crtc (ids_of t Crtc) → words_at t c.world.things (old_values c) crtc ≡ words crtc

abbrev pub AreSoundCommits : Topology → ℕ → List Commit → Type 0
AreSoundCommits t clients cs = (k : ℕ) → k < length cs → IsSoundCommit t clients (commit_at t cs k) (crtc_after t cs k)

one_more : (t : Topology) (clients : ℕ) (x : Commit) (cs : List Commit) → AreSoundCommits t clients cs
    → IsSoundCommit t clients x (crtc_after t cs (length cs)) → AreSoundCommits t clients (x ∷ cs)
one_more t clients x cs all one k low =
    ⊎_elim
    (λ (old : k < length cs). (
    let was = all k old in
    let now : IsSoundCommit t clients (commit_at t (x ∷ cs) k) (crtc_after t cs k) = subst
    (λ (c : Commit). IsSoundCommit t clients c (crtc_after t cs k)) (sym (commit_old t x cs k old)) was in
    record {
      low = now.low;
      high = now.high;
      lawful = now.lawful;
      lawful_after = now.lawful_after;
      old_words = λ crtc is. now.old_words crtc
          is ∙ sym (crtc_old t x cs k crtc (omega (arith, old)));
    }))
    (λ (same : length cs ≡ k). subst (λ n. IsSoundCommit t clients (commit_at t (x ∷ cs) n) (crtc_after t (x ∷ cs) n)) same (
    let now : IsSoundCommit t clients (commit_at t (x ∷ cs) (length cs)) (crtc_after t cs (length cs)) = subst
    (λ (c : Commit). IsSoundCommit t clients c (crtc_after t cs (length cs))) (sym (commit_new t x cs)) one in
    record {
      low = now.low;
      high = now.high;
      lawful = now.lawful;
      lawful_after = now.lawful_after;
      old_words = λ crtc is. now.old_words crtc
          is ∙ sym (crtc_old t x cs (length cs) crtc (omega arith));
    }))
    (is_old k (length cs) low)

abbrev Sound : Script → DeviceState → List Latch → Type 0
Sound s d ls = AreSoundCommits s.topology (length s.clients) d.commits

sound_kept : (s : Script) → IsKept s (Sound s)
sound_kept s =
    few_kept s (λ w cs ls. AreSoundCommits s.topology (length s.clients) cs) (λ m client c is other all. all)
    (λ m client r H is none all. one_more s.topology (length s.clients) (commit_of m client r) m.device.commits all
    (record {
      low = (client_there s m client (command.Atomic r) is).0;
      high = (client_there s m client (command.Atomic r) is).1;
      lawful =
          H.present.lawful;
      lawful_after = sound-apply s.topology m.device.world r (m.device.world.commits + 1) H.present.lawful none;
      old_words = H.present.states.crtc;
    }))
    (λ d ls k c count T found all. all)

record AlsoSound (s : Script) (m : Machine) : Type 0 where
  holds : Holds s m
  sound : AreSoundCommits s.topology (length s.clients) m.device.commits

pub commits_sound : {s : Script} (h : List Step) → IsPlainScript s → is_history s h ≡ true
    → AreSoundCommits s.topology (length s.clients) (at s h).device.commits
commits_sound {s} h plain is =
    (along s (AlsoSound s) (λ m step both legal. record {
      holds = step_kept s m step plain both.holds legal;
      sound = step_keeps s (Sound s)
          (sound_kept s) m both.holds both.sound step legal;
    }) h (first_machine s.topology)
    (record { holds = first_kept s plain; sound = λ k low. absurd (omega (arith, low)) }) is).sound

-- What is known of the machine of a core

pub facts : {r : Run} {st : Stores} → Stands r st → Facts r.script (machine r)
facts {r} stands = history_facts r.script r.steps (plain-from r.script stands.formed) stands.history

-- Before a commit writes a CRTC, the shadow words are those that it starts from

module _ {t : Topology} {d : DeviceState} {ls : List Latch} (T : Tail t d.commits d.marks d.shadow d.go ls) (k c : ℕ)
    (is_crtc : IsIn c (ids_of t Crtc)) (W : IsWrite t d k c) where
  c_lockable : IsIn c (lockable t)
  c_lockable = crtc_lockable t c is_crtc

  only_before : (j : ℕ) → has_pair d.marks.written j c ≡ true → j < k
  only_before j w =
      let q = T.marks.written j c w in
      ⊎_elim (λ (lt : j < k). lt)
      (λ (ge : k ≤ j).
      ⊎_elim
      (λ (behind : k < j). absurd (both_bools _ ((T.marks.done k (T.order.settled j k c q.0 behind c_lockable q.1 W.touches).done).1 c
      W.is_registered W.touches) W.fresh))
      (λ (le : j ≤ k). (let e : k ≡ j = omega (arith, ge, le)
      in absurd (both_bools _ (ap (λ z. has_pair d.marks.written z c) e ∙ w) W.fresh)))
      (cases_lt k j))
      (cases_lt j k)

  all_before : (j : ℕ) → j < k → commit_touches t d.commits j c ≡ true → has_pair d.marks.written j c ≡ true
  all_before j l touch = (T.marks.done j (T.order.settled k j c W.claimed l c_lockable W.touches touch).done).1 c W.is_registered touch

  touched : (j : ℕ) → commit_names t d.commits j c ≡ true → commit_touches t d.commits j c ≡ true
  touched j named = names-touches t d.commits j c T.few is_crtc named

  pub shadow_crtc : crtc_register d.shadow c ≡ crtc_after t d.commits k c
  shadow_crtc =
      let e = T.shadow.crtc c is_crtc in
      let within = T.marks.claimed k W.claimed in
      e.says
      ∙ ⊎_elim
      (λ (lt : e.at < k).
      sym (crtc_same t d.commits T.commits c is_crtc e.at k (omega (arith, lt)) (omega (arith, within))
      (λ j l m. false_from_ne_true _ (λ named. absurd (let b = e.above j (all_before j m (touched j named)) in omega (arith, b, l))))))
      (λ (ge : k ≤ e.at).
      crtc_same t d.commits T.commits c is_crtc k e.at ge e.within
      (λ j l m. false_from_ne_true _ (λ named. absurd (let b = only_before j (e.below j m (touched j named)) in omega (arith, b, l)))))
      (cases_lt e.at k)
