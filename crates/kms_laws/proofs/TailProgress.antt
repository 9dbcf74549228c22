-- The least commit that is not cleaned can go on, or it waits for a fence.
use Rattle.std.proofs.Common.{◌≡◌, ℕ, zero, suc, ◌<◌, List, [], ◌∷◌, length, map, Bool, true, false, not, ◌&&◌, ◌||◌, Option, Some, None}
use Rattle.std.proofs.Common.{refl, sym, ap, ◌∙◌, subst, arith, inl, inr, ◌⊎◌, ⊎_elim}
use Rattle.std.specs.Prelude.{filter, find, is_some}
use Rattle.std.specs.List.{flat_map, list_all, list_any, range_with_len}
use Rattle.std.proofs.lemmas.Bool.{and_cases, and_from, and_parts, cases_Bool, cases_lt, cond-true, cond-false, eq-eqb, false≢true, lt-ltb}
use Rattle.std.proofs.lemmas.Bool.{not-true, or_cases, or_left, or_right}
use Rattle.kms_model.specs.declared.objects.Kind.{Kind}
use Rattle.kms_model.specs.declared.objects.Kind.TheVariants.{Crtc, Plane}
use Rattle.kms_model.specs.declared.objects.Topology.{Topology}
use Rattle.kms_model.specs.declared.replies.Step.{Step}
use Rattle.kms_model.specs.declared.replies.Step.TheVariants.{Claim, Write, Flush, HwDone, Vblank, Cleanup}
use Rattle.kms_model.specs.declared.scripts.Script.{Script}
use Rattle.kms_model.specs.Device.Objects.{count_of, ids_of, object_id}
use Rattle.kms_model.specs.Machine.Commits.{commit_concerns, commit_names, commit_touches, has_flipped, has_latched, has_number, has_pair}
use Rattle.kms_model.specs.Machine.Commits.{if_there, is_all_flushed, is_all_latched, is_all_written, last_below, lockable, previous}
use Rattle.kms_model.specs.Machine.Commits.{registered, waited_fences}
use Rattle.kms_model.specs.Machine.Histories.{client_numbers, commit_numbers, for_each, steps_of_client, steps_of_commit, steps_that_move}
use Rattle.kms_model.specs.Machine.Histories.{steps_with_go}
use Rattle.kms_model.specs.Machine.State.{DeviceState, Machine, first_machine, go_at, has_value}
use Rattle.kms_model.specs.Machine.Steps.{is_settled_for, may, may_claim, next_flush, next_write}
use Rattle.kms_model.proofs.Items.{IsIn, IsObject, ids-in, list_all-at, list_all-from}
use Rattle.kms_model.proofs.Facts.{implied_from, implied}
use Rattle.kms_laws.proofs.Apart.{CommitsApart}
use Rattle.kms_laws.proofs.Basics.{both_bools, in_either, in_left, in_right}
use Rattle.kms_laws.proofs.Going.{Going}
use Rattle.kms_laws.proofs.Headlines.{range-in}
use Rattle.kms_laws.proofs.Steps.{Holds}

-- where not all are done, one is not
pub not_all : (a b : ℕ → Bool) (xs : List ℕ) → list_all (λ o. not (a o) || b o) xs ≡ false → list_any (λ o. a o && not (b o)) xs ≡ true
not_all a b [] h = absurd (false≢true (sym h))
not_all a b (x ∷ xs) h = ⊎_elim (λ e. or_left _ _ (here (a x) (b x) e)) (λ rest. or_right (a x && not (b x)) _ (not_all a b xs rest))
    (and_cases (not (a x) || b x) _ h)
  where
    here : (p q : Bool) → (not p || q) ≡ false → (p && not q) ≡ true
    here true true e = absurd (false≢true (sym e))
    here true false e = refl
    here false q e = absurd (false≢true (sym e))

-- the first that passes
pub record Found (test : ℕ → Bool) (xs : List ℕ) : Type 0 where
  pub at : ℕ
  pub is_in : IsIn at xs
  pub passes : test at ≡ true
  pub found : find test xs ≡ Some at

found_further : (test : ℕ → Bool) (x : ℕ) (xs : List ℕ) → test x ≡ false → Found test xs → Found test (x ∷ xs)
found_further test x xs fails f = record {
  at = f.at;
  is_in = inr f.is_in;
  passes = f.passes;
  found = cond-false (test x) (Some x)
      (find test xs) fails ∙ f.found;
}

pub find-found : (test : ℕ → Bool) (xs : List ℕ) → list_any test xs ≡ true → Found test xs
find-found test [] h = absurd (false≢true h)
find-found test (x ∷ xs) h =
    elim (cases_Bool (test x)) [
      | inl is ↦ record { at = x; is_in = inl refl; passes = is; found = cond-true (test x) (Some x) (find test xs) is }
      | inr fails ↦ found_further test x xs fails (find-found test xs
          (⊎_elim (λ e. absurd (both_bools _ e fails)) (λ e. e) (or_cases (test x) _ h)))
    ]

pub in_flat : {A : Type 0} (f : ℕ → List A) (ks : List ℕ) (k : ℕ) (x : A) → IsIn k ks → IsIn x (f k) → IsIn x (flat_map f ks)
in_flat f [] k x ik ix = absurd ik
in_flat {A} f (j ∷ ks) k x (inl same) ix = in_left (f j) (flat_map f ks) x (subst (λ z. IsIn x (f z)) (sym same) ix)
in_flat f (j ∷ ks) k x (inr rest) ix = in_right (f j) (flat_map f ks) x (in_flat f ks k x rest ix)

pub in_map : {A : Type 0} (f : ℕ → A) (ks : List ℕ) (k : ℕ) → IsIn k ks → IsIn (f k) (map f ks)
in_map f [] k ik = absurd ik
in_map f (j ∷ ks) k (inl same) = inl (ap f same)
in_map f (j ∷ ks) k (inr rest) = inr (in_map f ks k rest)

in_filter : (test : ℕ → Bool) (ks : List ℕ) (k : ℕ) → IsIn k ks → test k ≡ true → IsIn k (filter test ks)
in_filter test [] k ik h = absurd ik
in_filter test (j ∷ ks) k ik h =
    elim (cases_Bool (test j)) [
      | inl passes ↦ subst (IsIn k) (sym (cond-true (test j) (j ∷ filter test ks) (filter test ks) passes))
          (⊎_elim (λ same. inl same) (λ rest. inr (in_filter test ks k rest h)) ik)
      | inr fails ↦ subst (IsIn k) (sym (cond-false (test j) (j ∷ filter test ks) (filter test ks) fails))
          (⊎_elim (λ same. absurd (both_bools _ (ap test same ∙ h) fails)) (λ rest. in_filter test ks k rest h) ik)
    ]

-- a step that moves may be done
pub record CanMove (s : Script) (m : Machine) : Type 0 where
  pub step : Step
  pub may_be : may s m step ≡ true
  pub is_in : IsIn step (steps_that_move s m)

module _ (s : Script) (m : Machine) where
  pub of_commit : (k : ℕ) (step : Step) → k < length m.device.commits → IsIn step (steps_of_commit s.topology k)
      → IsIn step (steps_that_move s m)
  of_commit k step l i =
      in_right (flat_map (steps_of_client s.topology) (client_numbers s)) _ step
      (in_left (flat_map (steps_of_commit s.topology) (commit_numbers m)) (steps_with_go s.topology m) step
      (in_flat (steps_of_commit s.topology) (commit_numbers m) k step
      (range-in 0 (length m.device.commits) k (omega arith) (omega (arith, l))) i))

  pub each_in : (kind : Kind) (step : Kind → ℕ → Step) (index : ℕ) → index < count_of s.topology kind
      → IsIn (step kind index) (for_each s.topology kind step)
  each_in kind step index l = in_map (step kind) (range_with_len 0 (count_of s.topology kind)) index
      (range-in 0 (count_of s.topology kind) index (omega arith) (omega (arith, l)))

  abbrev crtc_writes : ℕ → List Step
  crtc_writes k = for_each s.topology Crtc (λ kind index. Write k kind index)

  module _ (H : Holds s m) (G : Going m) (A : CommitsApart s.topology m.device.commits) (k : ℕ) (within : k < length m.device.commits)
      (unclean : has_number m.device.marks.cleaned k ≡ false)
      (before : (j : ℕ) → j < k → has_number m.device.marks.cleaned j ≡ true) where
    -- all earlier ones are settled
    cleaned_settled : (j o : ℕ) → j < k → IsIn o (lockable s.topology) → commit_touches s.topology m.device.commits j o ≡ true
        → (has_number m.device.marks.done j && has_flipped s.topology m.device.commits m.records.latches j o) ≡ true
    unfolding has_flipped
    cleaned_settled j o l io touch =
        let c = before j l in
        and_from _ _ (H.tail.marks.clean_done j c)
        (list_all-from (λ crtc. not (commit_concerns s.topology m.device.commits j o crtc) || has_latched m.records.latches j crtc)
        (ids_of s.topology Crtc)
        (λ e ie. implied_from (commit_concerns s.topology m.device.commits j o e) (has_latched m.records.latches j e)
        (λ on. H.tail.marks.cleaned j e c ie (A.named j o e (omega arith) io ie touch on))))

    below_last : (test : ℕ → Bool) (n j : ℕ) → last_below test n ≡ Some j → (j < n) × (test j ≡ true)
    unfolding last_below
    below_last test zero j e = absurd cc
    below_last test (suc n) j e =
        ⊎_elim
        (λ is. let same : Some n ≡ Some j = sym (cond-true (test n) (Some n) (last_below test n) is) ∙ e in let nj : n ≡ j = cc
        in (omega arith, ap test (sym nj) ∙ is))
        (λ fails. let r = below_last test n j (sym (cond-false (test n) (Some n) (last_below test n) fails) ∙ e) in let l = r.0
        in (omega arith, r.1))
        (cases_Bool (test n))

    settled : (o : ℕ) → IsIn o (lockable s.topology) → is_settled_for s.topology m k o ≡ true
    unfolding previous
    settled o io = go (last_below (λ j. commit_touches s.topology m.device.commits j o) k) refl
      where
        go : (p : Option ℕ) → last_below (λ j. commit_touches s.topology m.device.commits j o) k ≡ p
            → if_there (λ j. has_number m.device.marks.done j && has_flipped s.topology m.device.commits m.records.latches j o) p ≡ true
        go None e = refl
        go (Some j) e = let r = below_last (λ j. commit_touches s.topology m.device.commits j o) k j e in cleaned_settled j o r.0 io r.1

    can_claim : has_number m.device.marks.claimed k ≡ false
        → list_all (has_number m.device.signalled) (waited_fences s.topology m.device.commits k) ≡ true → CanMove s m
    unfolding may may_claim
    can_claim un fences = record {
      step = Claim k;
      may_be =
          and_from _ _ (lt-ltb k (length m.device.commits) within)
          (and_from _ _ (ap not un)
          (and_from _ _ fences
          (list_all-from (λ object. not (commit_touches s.topology m.device.commits k object) || is_settled_for s.topology m k object)
          (lockable s.topology)
          (λ o io. implied_from (commit_touches s.topology m.device.commits k o) (is_settled_for s.topology m k o)
          (λ touch. settled o io)))));
      is_in = of_commit k (Claim k) within (inl refl);
    }

    value-at : (kind : Kind) (index o : ℕ) (found : Option ℕ) → found ≡ Some o → o ≡ object_id kind index
        → has_value (object_id kind index) found ≡ true
    value-at kind index o found e same = subst (λ f. has_value (object_id kind index) f ≡ true) (sym e)
        (eq-eqb o (object_id kind index) same)

    write_of : (kind : Kind) (o : ℕ) → has_number m.device.marks.claimed k ≡ true → next_write s.topology m.device k ≡ Some o
        → (i : IsObject s.topology kind o) → IsIn (Write k kind i.index) (steps_of_commit s.topology k) → CanMove s m
    unfolding may
    write_of kind o claimed e i is = record {
      step = Write k kind i.index;
      may_be = and_from _ _ claimed (and_from _ _ (lt-ltb i.index (count_of s.topology kind) i.within)
          (value-at kind i.index o (next_write s.topology m.device k) e i.same));
      is_in = of_commit k (Write k kind i.index) within is;
    }

    can_write : has_number m.device.marks.claimed k ≡ true → is_all_written s.topology m.device k ≡ false → CanMove s m
    unfolding is_all_written next_write
    can_write claimed un =
        let found = find-found (λ object. commit_touches s.topology m.device.commits k object
        && not (has_pair m.device.marks.written k object)) (registered s.topology)
        (not_all (commit_touches s.topology m.device.commits k) (has_pair m.device.marks.written k) (registered s.topology) un) in
        ⊎_elim
        (λ i.
        let o = ids-in s.topology Crtc found.at i in
        write_of Crtc found.at claimed found.found o
        (inr (in_left (crtc_writes k) _ (Write k Crtc o.index) (each_in Crtc (λ kind index. Write k kind index) o.index o.within))))
        (λ i.
        let o = ids-in s.topology Plane found.at i in
        write_of Plane found.at claimed found.found o
        (inr (in_right (crtc_writes k) _ (Write k Plane o.index)
        (in_left (for_each s.topology Plane (λ kind index. Write k kind index)) _ (Write k Plane o.index)
        (each_in Plane (λ kind index. Write k kind index) o.index o.within)))))
        (in_either (ids_of s.topology Crtc) (ids_of s.topology Plane) found.at found.is_in)

    flush_in : (index : ℕ) → index < count_of s.topology Crtc → IsIn (Flush k Crtc index) (steps_of_commit s.topology k)
    flush_in index l =
        inr (in_right (crtc_writes k) _ (Flush k Crtc index)
        (in_right (for_each s.topology Plane (λ kind index. Write k kind index)) _ (Flush k Crtc index)
        (in_left (for_each s.topology Crtc (λ kind index. Flush k kind index)) _ (Flush k Crtc index)
        (each_in Crtc (λ kind index. Flush k kind index) index l))))

    last_in : (step : Step) → IsIn step (HwDone k ∷ Cleanup k ∷ []) → IsIn step (steps_of_commit s.topology k)
    last_in step i =
        inr (in_right (crtc_writes k) _ step (in_right (for_each s.topology Plane (λ kind index. Write k kind index)) _ step
        (in_right (for_each s.topology Crtc (λ kind index. Flush k kind index)) _ step i)))

    can_flush : is_all_written s.topology m.device k ≡ true → is_all_flushed s.topology m.device k ≡ false → CanMove s m
    unfolding is_all_flushed next_flush may
    can_flush written un =
        let found = find-found (λ crtc. commit_names s.topology m.device.commits k crtc && not (has_pair m.device.marks.flushed k crtc))
        (ids_of s.topology Crtc)
        (not_all (commit_names s.topology m.device.commits k) (has_pair m.device.marks.flushed k) (ids_of s.topology Crtc) un) in
        let o = ids-in s.topology Crtc found.at found.is_in in
        record {
          step = Flush k Crtc o.index;
          may_be = and_from _ _ written (and_from _ _ (lt-ltb o.index (count_of s.topology Crtc) o.within)
              (value-at Crtc o.index found.at (next_flush s.topology m.device k) found.found o.same));
          is_in = of_commit k (Flush k Crtc o.index) within (flush_in o.index o.within);
        }

    can_latch : is_all_flushed s.topology m.device k ≡ true → is_all_latched s.topology m.device m.records.latches k ≡ false → CanMove s m
    unfolding is_all_flushed is_all_latched may
    can_latch flushed un =
        let found = find-found (λ crtc. commit_names s.topology m.device.commits k crtc && not (has_latched m.records.latches k crtc))
        (ids_of s.topology Crtc)
        (not_all (commit_names s.topology m.device.commits k) (has_latched m.records.latches k) (ids_of s.topology Crtc) un) in
        let two = and_parts (commit_names s.topology m.device.commits k found.at) _ found.passes in
        let o = ids-in s.topology Crtc found.at found.is_in in
        let is_flushed = implied (commit_names s.topology m.device.commits k found.at) (has_pair m.device.marks.flushed k found.at)
        (list_all-at (λ crtc. not (commit_names s.topology m.device.commits k crtc) || has_pair m.device.marks.flushed k crtc)
        (ids_of s.topology Crtc) found.at flushed found.is_in) two.0 in
        let goes = G k found.at is_flushed (not-true _ two.1) in
        let go : is_some (go_at m.device (object_id Crtc o.index))
        ≡ true = ap (λ z. is_some (go_at m.device z)) (sym o.same) ∙ ap is_some goes in
        record {
          step = Vblank Crtc o.index;
          may_be = and_from _ _ (lt-ltb o.index (count_of s.topology Crtc) o.within) (or_left _ _ go);
          is_in =
              in_right (flat_map (steps_of_client s.topology) (client_numbers s)) _ (Vblank Crtc o.index)
              (in_right (flat_map (steps_of_commit s.topology) (commit_numbers m)) (steps_with_go s.topology m) (Vblank Crtc o.index)
              (in_map (λ index. Vblank Crtc index) _ o.index
              (in_filter (λ index. is_some (go_at m.device (object_id Crtc index))) (range_with_len 0 (count_of s.topology Crtc)) o.index
              (range-in 0 (count_of s.topology Crtc) o.index (omega arith) (omega (arith, o.within))) go)));
        }

    can_done : has_number m.device.marks.claimed k ≡ true → is_all_written s.topology m.device k ≡ true
        → is_all_flushed s.topology m.device k ≡ true → has_number m.device.marks.done k ≡ false → CanMove s m
    unfolding may
    can_done claimed written flushed un = record {
      step = HwDone k;
      may_be = and_from _ _ claimed (and_from _ _ written (and_from _ _ flushed (ap not un)));
      is_in = of_commit k (HwDone k) within (last_in (HwDone k) (inl refl));
    }

    can_clean : has_number m.device.marks.done k ≡ true → is_all_latched s.topology m.device m.records.latches k ≡ true → CanMove s m
    unfolding may
    can_clean done latched = record {
      step = Cleanup k;
      may_be = and_from _ _ done (and_from _ _ latched (ap not unclean));
      is_in = of_commit k (Cleanup k) within (last_in (Cleanup k) (inr (inl refl)));
    }

    -- It can go on, or it is not claimed and waits for a fence that is not signalled.
    pub goes_or_waits : CanMove s m ⊎ ((has_number m.device.marks.claimed k ≡ false)
        × (list_all (has_number m.device.signalled) (waited_fences s.topology m.device.commits k) ≡ false))
    goes_or_waits =
        ⊎_elim
        (λ claimed. inl (
        ⊎_elim
        (λ written.
        ⊎_elim
        (λ flushed.
        ⊎_elim
        (λ latched. ⊎_elim (λ done. can_clean done latched) (λ not_done. can_done claimed written flushed not_done)
        (cases_Bool (has_number m.device.marks.done k)))
        (λ not_latched. can_latch flushed not_latched)
        (cases_Bool (is_all_latched s.topology m.device m.records.latches k)))
        (λ not_flushed. can_flush written not_flushed)
        (cases_Bool (is_all_flushed s.topology m.device k)))
        (λ not_written. can_write claimed not_written)
        (cases_Bool (is_all_written s.topology m.device k))))
        (λ not_claimed. ⊎_elim (λ fences. inl (can_claim not_claimed fences)) (λ wait. inr (not_claimed, wait))
        (cases_Bool (list_all (has_number m.device.signalled) (waited_fences s.topology m.device.commits k))))
        (cases_Bool (has_number m.device.marks.claimed k))

-- The least commit that is not cleaned

pub record Oldest (d : DeviceState) (n : ℕ) : Type 0 where
  pub commit : ℕ
  pub within : commit < n
  pub unclean : has_number d.marks.cleaned commit ≡ false
  pub before : (j : ℕ) → j < commit → has_number d.marks.cleaned j ≡ true

-- all below a number are cleaned, or there is a least that is not
pub oldest : (d : DeviceState) (n : ℕ) → Oldest d n ⊎ ((j : ℕ) → j < n → has_number d.marks.cleaned j ≡ true)
oldest d zero = inr (λ j l. absurd (omega arith))
oldest d (suc n) =
    ⊎_elim
    (λ o. let l = o.within in inl (record { commit = o.commit; within = omega arith; unclean = o.unclean; before = o.before }))
    (λ all.
    ⊎_elim
    (λ clean. inr (λ j l. ⊎_elim (λ (lt : j < n). all j lt)
    (λ ge. let e : n ≡ j = omega arith in ap (has_number d.marks.cleaned) (sym e) ∙ clean) (cases_lt j n)))
    (λ unclean. inl (record { commit = n; within = omega arith; unclean = unclean; before = all }))
    (cases_Bool (has_number d.marks.cleaned n)))
    (oldest d n)

pub first_going : (t : Topology) → Going (first_machine t)
first_going t k c flushed un = absurd (false≢true flushed)
