-- A commit that cannot be claimed, and has only cleaned ones before it, waits for a fence of a `fence` command.
use Rattle.std.proofs.Common.{◌≡◌, ℕ, zero, suc, ◌+◌, ◌<◌, ◌≤◌, List, [], ◌∷◌, length, Bool, true, false, not, Option, Some, None, refl}
use Rattle.std.proofs.Common.{sym, ap, ◌∙◌, arith, inl, inr, ⊎_elim}
use Rattle.std.specs.List.{list_all, range_with_len}
use Rattle.std.proofs.lemmas.Bool.{and_cases, and_from, and_parts, cases_eq, cases_lt, cond-true, cond-false, false_from_ne_true}
use Rattle.std.proofs.lemmas.Bool.{false≢true}
use Rattle.kms_model.specs.declared.objects.Kind.TheVariants.{Crtc}
use Rattle.kms_model.specs.declared.objects.Topology.{Topology}
use Rattle.kms_model.specs.declared.runs.Latch.{Latch}
use Rattle.kms_model.specs.declared.scripts.Script.{Script}
use Rattle.kms_model.specs.declared.worlds.Thing.{Thing}
use Rattle.kms_model.specs.Device.Execution.{is_made_fence}
use Rattle.kms_model.specs.Device.Objects.{index_of, object_id}
use Rattle.kms_model.specs.Device.World.{thing_with_id}
use Rattle.kms_model.specs.Firsts.{first_some, or_else}
use Rattle.kms_model.specs.Machine.Commits.{has_number, is_claimed, out_fence_of, waited_fences}
use Rattle.kms_model.specs.Machine.Histories.{awaited_by, awaited_label, commit_numbers, is_awaited, is_made_by_command}
use Rattle.kms_model.specs.Machine.Registers.{latched_registers}
use Rattle.kms_model.specs.Machine.State.{DeviceState, Machine, first_machine}
use Rattle.kms_model.specs.Promises.{WaitsForFence}
use Rattle.kms_model.proofs.FramedLemmas.{labelled_with_id}
use Rattle.kms_model.proofs.Items.{IsIn, list_any-has}
use Rattle.kms_laws.proofs.Basics.{both_bools, number_more, number_now}
use Rattle.kms_laws.proofs.Fences.{FencesStand, execute_labels, made_fences, swapped_fences}
use Rattle.kms_laws.proofs.Objects.{crtc_index}
use Rattle.kms_laws.proofs.Steps.{Holds}
use Rattle.kms_laws.proofs.Swapped.{flush_within}
use Rattle.kms_laws.proofs.TailProgress.{Found, find-found}
use Rattle.kms_laws.proofs.Tails.{latch_cases}
use Rattle.kms_laws.proofs.Traversal.{IsKept, IsLatch, TailOf, commit_of, latch_of, with_signal}

-- A latch signals its out-fence

-- the out-fence of the latch itself
own_fence : (t : Topology) (d : DeviceState) (ls : List Latch) (k c : ℕ) → TailOf t d ls → IsLatch t d ls k c → (o : Option ℕ)
    → out_fence_of t d.commits k c ≡ o
    → (j f id : ℕ) → out_fence_of t d.commits j f ≡ Some id → (k ≡ j) × (object_id Crtc (index_of c) ≡ f) → o ≡ Some id
own_fence t d ls k c T found o e j f id out same =
    let at_c = sym (crtc_index t c T.few found.is_crtc) ∙ same.1 in
    sym e ∙ (λ i. out_fence_of t d.commits (same.0 i) (at_c i)) ∙ out

latched_fences : (t : Topology) (d : DeviceState) (ls : List Latch) (k c count : ℕ) → TailOf t d ls → IsLatch t d ls k c
    → FencesStand t d ls → (o : Option ℕ) → out_fence_of t d.commits k c ≡ o
    → FencesStand t (with_signal (record d { live = latched_registers t d.shadow d.live c }) o) (latch_of t d k c count ∷ ls)
latched_fences t d ls k c count T found F None e = record {
  made = F.made;
  waits = F.waits;
  signalled = λ j f id l out y.
      ⊎_elim
      (λ same.
      let none = own_fence t d ls k c T found None e j f id out same in
      absurd cc)
      (λ old. F.signalled j f id l out old)
      (latch_cases (latch_of t d k c count) ls j f y);
}
latched_fences t d ls k c count T found F (Some fence) e = record {
  made = F.made;
  waits = F.waits;
  signalled = λ j f id l out y.
      ⊎_elim
      (λ same.
      let is = own_fence t d ls k c T found (Some fence) e j f id out same in
      let fi : fence ≡ id = cc in
      ap (has_number (fence ∷ d.signalled)) (sym fi) ∙ number_now fence d.signalled)
      (λ old. number_more fence d.signalled id (F.signalled j f id l out old))
      (latch_cases (latch_of t d k c count) ls j f y);
}

pub fences_kept : (s : Script) → IsKept s (FencesStand s.topology)
fences_kept s = record {
  made = λ m client c H is other F. made_fences s.topology m.device.world _ m.device.commits m.device m.records.latches refl
      (execute_labels s.topology m.device.world client c other) F;
  swapped = λ m client r H is none no_test F.
      swapped_fences s.topology m.device m.records.latches (commit_of m client r) refl
      (λ c. false_from_ne_true _ (λ y. absurd (let l = flush_within H.tail (length m.device.commits) c
      (H.tail.marks.latched (length m.device.commits) c y) in omega arith))) F;
  claimed = λ m k H may F. record { made = F.made; waits = F.waits; signalled = F.signalled };
  written = λ d ls k o T W F. record { made = F.made; waits = F.waits; signalled = F.signalled };
  flushed = λ d ls k c F. record { made = F.made; waits = F.waits; signalled = F.signalled };
  done = λ d ls k F. record { made = F.made; waits = F.waits; signalled = F.signalled };
  cleaned = λ d ls k done all F. record { made = F.made; waits = F.waits; signalled = F.signalled };
  waits = λ d ls c o F. record { made = F.made; waits = F.waits; signalled = F.signalled };
  counted = λ d ls c n F. record { made = F.made; waits = F.waits; signalled = F.signalled };
  latched = λ d ls k c count T found F. latched_fences s.topology d ls k c count T found F (out_fence_of s.topology d.commits k c) refl;
  signalled = λ d ls fence F. record {
    made = F.made;
    waits = F.waits;
    signalled = λ j c id l out y. number_more fence d.signalled id
        (F.signalled j c id l out y);
  };
}

pub first_fences : (t : Topology) → FencesStand t (first_machine t).device []
first_fences t = record {
  made = λ label u found. absurd cc;
  waits = λ k id l. absurd (omega arith);
  signalled = λ j c id l. absurd (omega arith);
}

-- The fence that is told

first-in_range : {A : Type 0} (f : ℕ → Option A) (from n k : ℕ) (x : A) → from ≤ k → k < from + n
    → ((j : ℕ) → from ≤ j → j < k → f j ≡ None) → f k ≡ Some x → first_some f (range_with_len from n) ≡ Some x
first-in_range f from zero k x l m none some = absurd (omega arith)
first-in_range f from (suc n) k x l m none some =
    ⊎_elim
    (λ (e : from ≡ k). ap (λ o. or_else o (first_some f (range_with_len (from + 1) n))) (ap f e ∙ some))
    (λ ne.
    ap (λ o. or_else o (first_some f (range_with_len (from + 1) n)))
    (none from (omega arith) (⊎_elim (λ (lt : from < k). lt) (λ (ge : k ≤ from). absurd (ne (omega arith))) (cases_lt from k)))
    ∙ first-in_range f (from + 1) n k x (⊎_elim (λ (lt : from < k). omega arith) (λ (ge : k ≤ from). absurd (ne (omega arith)))
    (cases_lt from k)) (omega arith) (λ j a b. none j (omega arith) b) some)
    (cases_eq from k)

-- one that fails
pub fails_some : (test : ℕ → Bool) (xs : List ℕ) → list_all test xs ≡ false → (x : ℕ) × (IsIn x xs × (test x ≡ false))
fails_some test [] h = absurd (false≢true (sym h))
fails_some test (x ∷ xs) h = ⊎_elim (λ e. (x, (inl refl, e))) (λ rest. let r = fails_some test xs rest in (r.0, (inr r.1.0, r.1.1)))
    (and_cases (test x) _ h)

-- a fence that a command made, by its id
record IsMade (things : List Thing) (fence : ℕ) : Type 0 where
  thing : Thing
  found : thing_with_id things fence ≡ Some thing

made-thing : (things : List Thing) (fence : ℕ) (o : Option Thing) → thing_with_id things fence ≡ o → is_made_by_command o ≡ true
    → IsMade things fence
made-thing things fence None e h = absurd (false≢true h)
made-thing things fence (Some u) e h = record { thing = u; found = e }

module _ (s : Script) (m : Machine) (H : Holds s m) (F : FencesStand s.topology m.device m.records.latches) (k : ℕ)
    (within : k < length m.device.commits) (unclean : has_number m.device.marks.cleaned k ≡ false)
    (before : (j : ℕ) → j < k → has_number m.device.marks.cleaned j ≡ true) (unclaimed : has_number m.device.marks.claimed k ≡ false)
    (waits : list_all (has_number m.device.signalled) (waited_fences s.topology m.device.commits k) ≡ false) where
  is_awaited_one : (id : ℕ) → IsIn id (waited_fences s.topology m.device.commits k) → has_number m.device.signalled id ≡ false
      → is_awaited m id ≡ true
  is_awaited_one id is un =
      let w = F.waits k id within is in
      let own : thing_with_id m.device.world.things id
      ≡ Some w.thing = ap (thing_with_id m.device.world.things) (sym w.same_id) ∙ labelled_with_id 1000 w.label m.device.world.things
      w.thing H.present.lawful.numbered.things w.found in
      ⊎_elim
      (λ fence. and_from _ _ (ap not un) (ap is_made_by_command own ∙ ap is_made_fence fence))
      (λ o.
      let clean = before o.commit o.before in
      absurd (both_bools _ (F.signalled o.commit o.crtc id (let b = o.before in omega arith) o.fence
      (H.tail.marks.cleaned o.commit o.crtc clean o.is_crtc o.names)) un))
      w.kind

  awaited_found : Found (is_awaited m) (waited_fences s.topology m.device.commits k)
  awaited_found =
      let one = fails_some (has_number m.device.signalled) (waited_fences s.topology m.device.commits k) waits in
      find-found (is_awaited m) (waited_fences s.topology m.device.commits k)
      (list_any-has (is_awaited m) (waited_fences s.topology m.device.commits k) one.0 one.1.0 (is_awaited_one one.0 one.1.0 one.1.1))

  made_one : IsMade m.device.world.things awaited_found.at
  made_one = made-thing m.device.world.things awaited_found.at (thing_with_id m.device.world.things awaited_found.at) refl
      (and_parts (not (has_number m.device.signalled awaited_found.at)) _ awaited_found.passes).1

  first_is : first_some (awaited_by s.topology m) (commit_numbers m) ≡ Some awaited_found.at
  first_is =
      first-in_range (awaited_by s.topology m) 0 (length m.device.commits) k awaited_found.at (omega arith) (omega (arith, within))
      (λ j a b. cond-true (is_claimed m.device j) None _ (H.tail.marks.done j (H.tail.marks.clean_done j (before j b))).0)
      (cond-false (is_claimed m.device k) None _ unclaimed ∙ awaited_found.found)

  label_is : awaited_label s.topology m ≡ Some made_one.thing.label
  unfolding awaited_label
  label_is = rw (first_is, made_one.found) refl

  pub waits_for : (label : ℕ) × ((awaited_label s.topology m ≡ Some label) × WaitsForFence s m label)
  waits_for = (
    made_one.thing.label,
    (
      label_is,
      record {
        commit = k;
        there = within;
        not_cleaned = unclean;
        least = before;
        not_claimed = unclaimed;
        fence = awaited_found.at;
        awaited = awaited_found.found;
        thing = made_one.thing;
        is_thing = made_one.found;
        has_label = refl;
      },
    ),
  )
