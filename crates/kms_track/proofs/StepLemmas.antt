-- A tracker that follows each step of a machine stays in step with it.
use Rattle.std.proofs.Common.{◌≡◌, ℕ, ◌<◌, ◌≤◌, List, [], ◌∷◌, length, Bool, true, false, Some, None, inl, inr, arith, refl, sym, ◌∙◌}
use Rattle.std.proofs.Common.{subst}
use Rattle.std.specs.Prelude.{◌||◌, not, if◌then◌else◌}
use Rattle.std.proofs.lemmas.Bool.{cases_lt, false≢true, ne_eqb}
use Rattle.kms_model.specs.declared.objects.Kind.{Kind}
use Rattle.kms_model.specs.declared.objects.Kind.TheVariants.{Crtc}
use Rattle.kms_model.specs.declared.objects.Topology.{Topology}
use Rattle.kms_model.specs.declared.replies.Step.{Step}
use Rattle.kms_model.specs.declared.replies.Step.TheVariants.{Swap, Claim, Write}
use Rattle.kms_model.specs.declared.replies.Step.TheVariants.{Flush, HwDone, Vblank, Cleanup}
use Rattle.kms_model.specs.declared.runs.Latch.{Latch}
use Rattle.kms_model.specs.declared.scripts.Request.{Request}
use Rattle.kms_model.specs.declared.scripts.Script.{Script}
use Rattle.kms_model.specs.declared.states.Checked.{Checked}
use Rattle.kms_model.specs.Device.Objects.{ids_of, index_of, is_id_of, object_id}
use Rattle.kms_model.specs.Machine.Commits.{commit_at, commit_concerns, commit_names, has_flipped, has_latched, is_all_latched}
use Rattle.kms_model.specs.Machine.Commits.{is_claimed, is_hw_done, new_crtc, no_commit}
use Rattle.kms_model.specs.Machine.Effects.{counts_vblank, latches, latches_picture, next}
use Rattle.kms_model.specs.Machine.Histories.{legal}
use Rattle.kms_model.specs.Machine.Registers.{decoded_picture, latched_registers}
use Rattle.kms_model.specs.Machine.State.{Commit, Machine, go_at, request_at}
use Rattle.kms_model.specs.Things.Tables.{without_id}
use Rattle.kms_model.proofs.Guards.{legal_guards}
use Rattle.kms_model.proofs.Facts.{implied, implied_from}
use Rattle.kms_model.proofs.Items.{list_all-at, list_all-from}
use Rattle.kms_model.proofs.KindsOfIds.{index_of-object}
use Rattle.kms_signal.specs.StepLaws.{leaves_commits, new_commit}
use Rattle.kms_signal.proofs.CommitsLeft.{commits_left, latch_leaves, swap_adds}
use Rattle.kms_track.specs.declared.progress.Mark.TheVariants as mark
use Rattle.kms_track.specs.declared.tail.Signals.{Signals}
use Rattle.kms_track.specs.InStep.{AreSignalsOf, IsCheckedFor, IsInStep, IsOver, IsTrackerOf}
use Rattle.kms_track.specs.StepLaws.{HasNames, commit_of_tail_step, waits_of}
use Rattle.kms_track.specs.Tails.{HasRegisters, wrote_mark}
use Rattle.kms_track.specs.Tracking.{IsSetUp, Tracking, marked}
use Rattle.kms_track.proofs.Marking.{claimed_stands, cleaned_stands, done_stands, flushed_stands, latched_stands, wrote_crtc_stands}
use Rattle.kms_track.proofs.Marking.{wrote_plane_stands}
use Rattle.kms_track.proofs.SettingUp.{set_up_stands}
use Rattle.kms_track.proofs.TailPlaces.{crtc_indexed, plane_indexed}

pub others_follow : (s : Script) (m : Machine) (step : Step) (v : Tracking) → leaves_commits step ≡ true → IsInStep s.topology m v
    → IsInStep s.topology (next s m step) v
others_follow s m step v leaves stands =
    commits_left (λ cs marks latches. IsTrackerOf s.topology cs marks latches v) s m step leaves stands

pub swap_follows : (s : Script) (m : Machine) (client : ℕ) (r : Request) (v w : Tracking) (signals : Signals) (checked : Checked)
    (fences : List ℕ) → request_at s m client ≡ Some r → IsInStep s.topology m v
    → AreSignalsOf s.topology (new_commit m client r) signals → IsCheckedFor s.topology (new_commit m client r) checked
    → waits_of s.topology (new_commit m client r) ≡ fences → IsSetUp v w signals checked fences
    → IsInStep s.topology (next s m (Swap client)) w
swap_follows s m client r v w signals checked fences is stands signed for waits set_up =
    swap_adds (λ cs marks latches. IsTrackerOf s.topology cs marks latches w) s m client r is
    (set_up_stands s.topology (new_commit m client r) m.device.commits m.device.marks m.records.latches v w signals checked fences
    set_up stands signed for waits)

-- A commit whose step is legal was set up

module _ (t : Topology) (m : Machine) (k : ℕ) (v : Tracking) (stands : IsInStep t m v) where
  where_below : (b : Bool) → b ≡ true → (length m.device.commits ≤ k → b ≡ false) → k < length m.device.commits
  where_below b is gone =
      elim (cases_lt k (length m.device.commits)) [
        | inl within ↦ within
        | inr above ↦ absurd (false≢true (sym (gone above) ∙ is))
      ]

  claimed_below : is_claimed m.device k ≡ true → k < length m.device.commits
  claimed_below is = where_below (is_claimed m.device k) is (λ above. (stands.untouched k above).claimed)

  done_below : is_hw_done m.device k ≡ true → k < length m.device.commits
  done_below is = where_below (is_hw_done m.device k) is (λ above. (stands.untouched k above).done)

-- beyond the commits there is none, which names nothing

none_at : (t : Topology) (cs : List Commit) (k : ℕ) → length cs ≤ k → commit_at t cs k ≡ no_commit t
unfolding commit_at
none_at t [] k above = refl
none_at t (c ∷ cs) k above = rw (ne_eqb (length cs) k (λ e. absurd (omega (arith, e, above)))) (none_at t cs k (omega (arith, above)))

names_none : (t : Topology) (cs : List Commit) (k crtc : ℕ) → length cs ≤ k → commit_names t cs k crtc ≡ false
unfolding commit_names
names_none t cs k crtc above = rw (none_at t cs k above) refl

pub legal_below : (s : Script) (m : Machine) (step : Step) (k : ℕ) (v : Tracking) → commit_of_tail_step step ≡ Some k
    → legal s m step ≡ true → IsInStep s.topology m v → k < length m.device.commits
legal_below s m (Claim n) k v of is stands = let same : n ≡ k = cc in rw (← same) (legal_guards s m (Claim n) is).within
legal_below s m (Write n kind index) k v of is stands =
    let same : n ≡ k = cc in
    rw (← same) (claimed_below s.topology m n v stands (legal_guards s m (Write n kind index) is).write.claimed)
legal_below s m (Flush n kind index) k v of is stands =
    let same : n ≡ k = cc in
    rw (← same) (where_below s.topology m n v stands (commit_names s.topology m.device.commits n (object_id kind index))
    (legal_guards s m (Flush n kind index) is).flush.names (names_none s.topology m.device.commits n (object_id kind index)))
legal_below s m (HwDone n) k v of is stands =
    let same : n ≡ k = cc in rw (← same) (claimed_below s.topology m n v stands (legal_guards s m (HwDone n) is).claimed)
legal_below s m (Cleanup n) k v of is stands =
    let same : n ≡ k = cc in rw (← same) (done_below s.topology m n v stands (legal_guards s m (Cleanup n) is).done)
legal_below s m step k v of is stands = absurd cc

-- Tails

pub claim_follows : (s : Script) (m : Machine) (k : ℕ) (v : Tracking) → legal s m (Claim k) ≡ true → IsInStep s.topology m v
    → IsInStep s.topology (next s m (Claim k)) (marked v k mark.Claimed)
unfolding next
claim_follows s m k v is stands =
    claimed_stands s.topology m.device.commits m.device.marks m.records.latches v k (legal_below s m (Claim k) k v refl is stands) stands

pub hw_done_follows : (s : Script) (m : Machine) (k : ℕ) (v : Tracking) → legal s m (HwDone k) ≡ true → IsInStep s.topology m v
    → IsInStep s.topology (next s m (HwDone k)) (marked v k mark.Done)
unfolding next
hw_done_follows s m k v is stands =
    done_stands s.topology m.device.commits m.device.marks m.records.latches v k (legal_below s m (HwDone k) k v refl is stands) stands

-- an object with registers, by its id, is written
written_stands : (t : Topology) (m : Machine) (k object : ℕ) (v : Tracking) → k < length m.device.commits → HasRegisters object
    → IsInStep t m v
    → IsTrackerOf t m.device.commits (record m.device.marks { written = (k, object) ∷ m.device.marks.written }) m.records.latches
    (marked v k (wrote_mark object))
written_stands t m k object v within registers stands = by_kind (is_id_of Crtc object) refl where
  by_kind : (b : Bool) → is_id_of Crtc object ≡ b
      → IsTrackerOf t m.device.commits (record m.device.marks { written = (k, object) ∷ m.device.marks.written }) m.records.latches
      (marked v k (if b then mark.WroteCrtc (index_of object) else mark.WrotePlane (index_of object)))
  by_kind true is =
      (let at = crtc_indexed object (sym is) in
      subst (λ (o : ℕ). IsTrackerOf t m.device.commits (record m.device.marks { written = (k, o) ∷ m.device.marks.written })
      m.records.latches (marked v k (mark.WroteCrtc (index_of object)))) at.same
      (wrote_crtc_stands t m.device.commits m.device.marks m.records.latches v k within stands (index_of object) at.low))
  by_kind false is =
      (let at = plane_indexed object (sym is) registers in
      subst (λ (o : ℕ). IsTrackerOf t m.device.commits (record m.device.marks { written = (k, o) ∷ m.device.marks.written })
      m.records.latches (marked v k (mark.WrotePlane (index_of object)))) at.same
      (wrote_plane_stands t m.device.commits m.device.marks m.records.latches v k within stands (index_of object) at.low))

pub write_follows : (s : Script) (m : Machine) (k index : ℕ) (kind : Kind) → HasRegisters (object_id kind index) → (v : Tracking)
    → legal s m (Write k kind index) ≡ true → IsInStep s.topology m v
    → IsInStep s.topology (next s m (Write k kind index)) (marked v k (wrote_mark (object_id kind index)))
unfolding next
write_follows s m k index kind registers v is stands =
    written_stands s.topology m k (object_id kind index) v (legal_below s m (Write k kind index) k v refl is stands) registers stands

-- Latches

latch_follows : (t : Topology) (m : Machine) (k index count : ℕ) (v : Tracking) → k < length m.device.commits → index < 4
    → IsInStep t m v → IsInStep t (latches t m k (object_id Crtc index) count) (marked v k (mark.Latched index))
latch_follows t m k index count v within crtc stands =
    let at : index_of (object_id Crtc index) ≡ index = index_of-object Crtc index (omega (arith, crtc)) in
    let latch : Latch = record {
      crtc = index_of (object_id Crtc index);
      commit = k;
      count = count;
      picture = decoded_picture t (latched_registers t m.device.shadow m.device.live (object_id Crtc index)) (object_id Crtc index);
    } in
    let low : latch.crtc < 4 = omega (arith, at, crtc) in
    latch_leaves (λ cs marks shown. IsTrackerOf t cs marks shown (marked v k (mark.Latched index))) t m k (object_id Crtc index) count
    (subst (λ (i : ℕ). IsInStep t (latches_picture t m k (object_id Crtc index) count) (marked v k (mark.Latched i))) at
    (latched_stands t m.device.commits m.device.marks m.records.latches v k within stands latch refl low))

pub flush_follows : (s : Script) (m : Machine) (k index : ℕ) → index < 4
    → (new_crtc s.topology m.device.commits k (object_id Crtc index)).active ≡ true → (v : Tracking)
    → legal s m (Flush k Crtc index) ≡ true → IsInStep s.topology m v
    → IsInStep s.topology (next s m (Flush k Crtc index)) (marked v k (mark.Flushed index))
unfolding next
flush_follows s m k index crtc on v is stands =
    rw on (flushed_stands s.topology m.device.commits m.device.marks m.records.latches v k
    (legal_below s m (Flush k Crtc index) k v refl is stands) stands index crtc)

pub flush_off_follows : (s : Script) (m : Machine) (k index : ℕ) (v : Tracking) → index < 4
    → (new_crtc s.topology m.device.commits k (object_id Crtc index)).active ≡ false
    → legal s m (Flush k Crtc index) ≡ true → IsInStep s.topology m v
    → IsInStep s.topology (next s m (Flush k Crtc index)) (marked (marked v k (mark.Flushed index)) k (mark.Latched index))
unfolding next
flush_off_follows s m k index v crtc off is stands =
    let within : k < length m.device.commits = legal_below s m (Flush k Crtc index) k v refl is stands in
    rw off (latch_follows s.topology _ k index _ (marked v k (mark.Flushed index)) within crtc
    (flushed_stands s.topology m.device.commits m.device.marks m.records.latches v k within stands index crtc))

pub vblank_follows : (s : Script) (m : Machine) (index : ℕ) (v : Tracking) → go_at m.device (object_id Crtc index) ≡ None
    → IsInStep s.topology m v → IsInStep s.topology (next s m (Vblank Crtc index)) v
unfolding next
vblank_follows s m index v none stands = rw none stands

pub vblank_with_go_follows : (s : Script) (m : Machine) (k index : ℕ) (v : Tracking) → k < length m.device.commits → index < 4
    → go_at m.device (object_id Crtc index) ≡ Some k → IsInStep s.topology m v
    → IsInStep s.topology (next s m (Vblank Crtc index)) (marked v k (mark.Latched index))
unfolding next
vblank_with_go_follows s m k index v within crtc has stands =
    rw has (latch_follows s.topology (counts_vblank m (object_id Crtc index)) k index _ v within crtc stands)

-- Cleanups

-- a commit that may be cleaned is over
pub over_of : (t : Topology) (m : Machine) (k : ℕ) → k < length m.device.commits → is_hw_done m.device k ≡ true
    → is_all_latched t m.device m.records.latches k ≡ true → HasNames t m.device
    → IsOver t m.device.commits m.device.marks m.records.latches k
unfolding is_all_latched has_flipped
over_of t m k within done latched names = record {
  claimed = names.done_claimed k done;
  done = done;
  flipped = λ object there touched.
      list_all-from (λ crtc. not (commit_concerns t m.device.commits k object crtc) || has_latched m.records.latches k crtc)
      (ids_of t Crtc)
      (λ crtc is. implied_from (commit_concerns t m.device.commits k object crtc) (has_latched m.records.latches k crtc)
      (λ on. implied (commit_names t m.device.commits k crtc) (has_latched m.records.latches k crtc)
      (list_all-at (λ crtc. not (commit_names t m.device.commits k crtc) || has_latched m.records.latches k crtc)
      (ids_of t Crtc) crtc latched is)
      (names.named k object crtc within there is touched on)));
}

pub cleanup_follows : (s : Script) (m : Machine) (k : ℕ) (v w : Tracking) → legal s m (Cleanup k) ≡ true
    → HasNames s.topology m.device → IsInStep s.topology m v
    → w.count ≡ v.count → w.lasts ≡ v.lasts → w.tails.slots ≡ without_id v.tails.slots k
    → IsInStep s.topology (next s m (Cleanup k)) w
unfolding next
cleanup_follows s m k v w is names stands count lasts slots =
    let g = legal_guards s m (Cleanup k) is in
    let within : k < length m.device.commits = done_below s.topology m k v stands g.done in
    cleaned_stands s.topology m.device.commits m.device.marks m.records.latches v k within stands w
    (over_of s.topology m k within g.done g.latched names)
    count lasts slots
