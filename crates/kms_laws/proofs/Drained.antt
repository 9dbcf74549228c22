-- In a drained history no step may be done but a vblank without GO.
use Rattle.std.proofs.Common.{◌≡◌, ℕ, ◌<◌, length, true, false, not, ◌&&◌, Option, Some, None, refl, ap, subst, arith, inl, inr, ⊎_elim}
use Rattle.std.specs.Prelude.{is_some, nat_lt}
use Rattle.std.specs.List.{flat_map, range_with_len}
use Rattle.std.proofs.lemmas.Bool.{and_left, and_parts, and_right, false_from_ne_true}
use Rattle.kms_model.specs.declared.objects.Kind.{Kind}
use Rattle.kms_model.specs.declared.objects.Kind.TheVariants.{Crtc, Plane}
use Rattle.kms_model.specs.declared.replies.Step.{Step}
use Rattle.kms_model.specs.declared.replies.Step.TheVariants.{Claim, Cleanup, Flush, HwDone, Vblank, Write}
use Rattle.kms_model.specs.declared.scripts.Script.{Script}
use Rattle.kms_model.specs.Device.Objects.{count_of, exists, ids_of, object_id}
use Rattle.kms_model.specs.Machine.Commits.{commit_names, commit_touches, has_number, has_pair, is_all_flushed, is_all_latched}
use Rattle.kms_model.specs.Machine.Commits.{is_all_written, is_claimed, is_hw_done, registered}
use Rattle.kms_model.specs.Machine.Histories.{client_numbers, commit_numbers, for_each, is_drained, steps_of_client}
use Rattle.kms_model.specs.Machine.Histories.{steps_of_commit, steps_that_move, steps_with_go}
use Rattle.kms_model.specs.Machine.State.{Machine, go_at, has_value}
use Rattle.kms_model.specs.Machine.Steps.{may, may_claim, next_flush, next_write}
use Rattle.kms_model.proofs.Guards.{drained_guards}
use Rattle.kms_model.proofs.Items.{IsIn, ids-has, list_any-none}
use Rattle.kms_laws.specs.Laws.{can_move}
use Rattle.kms_laws.proofs.Basics.{both_bools, in_either}
use Rattle.kms_laws.proofs.Framebuffers.{range-below}
use Rattle.kms_laws.proofs.Headlines.{range-in}
use Rattle.kms_laws.proofs.Quiet.{ended-fails, filter-in, find-none, flat-from, map-from}
use Rattle.kms_laws.proofs.Steps.{Holds}
use Rattle.kms_laws.proofs.Swapped.{flush_within}

module _ (s : Script) (m : Machine) (H : Holds s m) where
  -- the steps of a cleaned commit
  module _ (k : ℕ) (clean : has_number m.device.marks.cleaned k ≡ true) where
    done : has_number m.device.marks.done k ≡ true
    done = H.tail.marks.clean_done k clean

    claimed : has_number m.device.marks.claimed k ≡ true
    claimed = (H.tail.marks.done k done).0

    pub no_claim : may s m (Claim k) ≡ false
    unfolding may may_claim
    no_claim = and_right (nat_lt k (length m.device.commits)) _ (and_left _ _ (ap not claimed))

    pub written-test : (o : ℕ) → IsIn o (registered s.topology)
        → (commit_touches s.topology m.device.commits k o && not (has_pair m.device.marks.written k o)) ≡ false
    written-test o io =
        false_from_ne_true (commit_touches s.topology m.device.commits k o && not (has_pair m.device.marks.written k o))
        (λ h. let two = and_parts (commit_touches s.topology m.device.commits k o) _ h
        in both_bools _ two.1 (ap not ((H.tail.marks.done k done).1 o io two.0)))

    none_to_write : next_write s.topology m.device k ≡ None
    unfolding next_write
    none_to_write = find-none (λ object. commit_touches s.topology m.device.commits k object
        && not (has_pair m.device.marks.written k object)) (registered s.topology) written-test

    pub no_write : (kind : Kind) (index : ℕ) → may s m (Write k kind index) ≡ false
    unfolding may
    no_write kind index = and_right (is_claimed m.device k) _
        (and_right (exists s.topology kind index) _ (ap (has_value (object_id kind index)) none_to_write))

    pub flushed-test : (c : ℕ) → IsIn c (ids_of s.topology Crtc)
        → (commit_names s.topology m.device.commits k c && not (has_pair m.device.marks.flushed k c)) ≡ false
    flushed-test c ic =
        false_from_ne_true (commit_names s.topology m.device.commits k c && not (has_pair m.device.marks.flushed k c))
        (λ h. let two = and_parts (commit_names s.topology m.device.commits k c) _ h
        in both_bools _ two.1 (ap not (H.tail.marks.latched k c (H.tail.marks.cleaned k c clean ic two.0))))

    none_to_flush : next_flush s.topology m.device k ≡ None
    unfolding next_flush
    none_to_flush = find-none (λ crtc. commit_names s.topology m.device.commits k crtc && not (has_pair m.device.marks.flushed k crtc))
        (ids_of s.topology Crtc) flushed-test

    pub no_flush : (kind : Kind) (index : ℕ) → may s m (Flush k kind index) ≡ false
    unfolding may
    no_flush kind index = and_right (is_all_written s.topology m.device k) _
        (and_right (exists s.topology kind index) _ (ap (has_value (object_id kind index)) none_to_flush))

    pub no_done : may s m (HwDone k) ≡ false
    unfolding may
    no_done = and_right (is_claimed m.device k) _
        (and_right (is_all_written s.topology m.device k) _ (and_right (is_all_flushed s.topology m.device k) _ (ap not done)))

    pub no_cleanup : may s m (Cleanup k) ≡ false
    unfolding may
    no_cleanup = and_right (is_hw_done m.device k) _ (and_right (is_all_latched s.topology m.device m.records.latches k) _ (ap not clean))

    pub no_step : (step : Step) → IsIn step (steps_of_commit s.topology k) → may s m step ≡ false
    no_step step (inl same) = subst (λ z. may s m z ≡ false) same no_claim
    no_step step (inr rest) =
        ⊎_elim
        (λ a. let r = map-from (λ index. Write k Crtc index) _ step a in subst (λ z. may s m z ≡ false) r.same (no_write Crtc r.number))
        (λ more.
        ⊎_elim
        (λ b. let r = map-from (λ index. Write k Plane index) _ step b in subst (λ z. may s m z ≡ false) r.same (no_write Plane r.number))
        (λ more2.
        ⊎_elim
        (λ c. let r = map-from (λ index. Flush k Crtc index) _ step c in subst (λ z. may s m z ≡ false) r.same (no_flush Crtc r.number))
        (λ ends. ⊎_elim (λ same. subst (λ z. may s m z ≡ false) same no_done)
        (λ last. ⊎_elim (λ same. subst (λ z. may s m z ≡ false) same no_cleanup) (λ never. absurd never) last) ends)
        (in_either (for_each s.topology Crtc (λ kind index. Flush k kind index)) _ step more2))
        (in_either (for_each s.topology Plane (λ kind index. Write k kind index)) _ step more))
        (in_either (for_each s.topology Crtc (λ kind index. Write k kind index)) _ step rest)

  -- no CRTC has GO where all commits are cleaned
  pub no_go : ((k : ℕ) → k < length m.device.commits → has_number m.device.marks.cleaned k ≡ true) → (step : Step)
      → IsIn step (steps_with_go s.topology m) → may s m step ≡ false
  no_go clean step is =
      let r = map-from (λ index. Vblank Crtc index) _ step is in
      let f = filter-in (λ index. is_some (go_at m.device (object_id Crtc index))) (range_with_len 0 (count_of s.topology Crtc)) r.number
      r.is_in in
      absurd (pending (object_id Crtc r.number) (ids-has s.topology Crtc r.number
      (let l = range-below 0 (count_of s.topology Crtc) r.number f.0 in omega (arith, l))) (go_at m.device (object_id Crtc r.number))
      refl f.1)
    where
      pending : (c : ℕ) → IsIn c (ids_of s.topology Crtc) → (o : Option ℕ) → go_at m.device c ≡ o → is_some o ≡ true → ⊥
      pending c ic None e some = absurd cc
      pending c ic (Some k) e some =
          let p = H.tail.marks.go_is k c e in
          both_bools _ (H.tail.marks.cleaned k c (clean k (flush_within H.tail k c p.flushed)) ic
          (H.tail.marks.flushed k c p.flushed).names) p.unlatched

  pub drained-unable : is_drained s m ≡ true → can_move s m ≡ false
  drained-unable h =
      let drained = drained_guards s m h in
      list_any-none (may s m) (steps_that_move s m)
      (λ step is.
      ⊎_elim
      (λ c. let r = flat-from (steps_of_client s.topology) (client_numbers s) step c
      in ended-fails s m r.number (drained.at_end r.number r.is_in) step r.has)
      (λ rest.
      ⊎_elim
      (λ k. let r = flat-from (steps_of_commit s.topology) (commit_numbers m) step k
      in no_step r.number (drained.cleaned r.number r.is_in) step r.has)
      (λ g. no_go (λ k l. drained.cleaned k (range-in 0 (length m.device.commits) k (omega arith) (omega (arith, l)))) step g)
      (in_either (flat_map (steps_of_commit s.topology) (commit_numbers m)) (steps_with_go s.topology m) step rest))
      (in_either (flat_map (steps_of_client s.topology) (client_numbers s)) _ step is))
