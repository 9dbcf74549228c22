-- The live picture of a CRTC changes at its own latches alone, and each latch records the picture of one commit.
use Rattle.std.proofs.Common.{◌≡◌, ℕ, zero, suc, ◌+◌, ◌<◌, ◌≤◌, List, [], ◌∷◌, length, true, false, ◌==◌, refl, sym, ap, ◌∙◌, subst, arith}
use Rattle.std.proofs.Common.{inl, inr, ◌⊎◌, ⊎_elim}
use Rattle.std.specs.List.{All, AllByRecursion}
use Rattle.std.proofs.lemmas.Bool.{cases_Bool, cases_eq, cases_lt, cond-true, cond-false, eq-eqb, eqb-false, eqb-true, false_from_ne_true}
use Rattle.std.proofs.lemmas.Bool.{ne_eqb, or_cases, or_parts}
use Rattle.kms_model.specs.declared.objects.Kind.TheVariants.{Crtc, Plane}
use Rattle.kms_model.specs.declared.objects.Topology.{Topology}
use Rattle.kms_model.specs.declared.replies.Step.{Step}
use Rattle.kms_model.specs.declared.runs.Latch.{Latch}
use Rattle.kms_model.specs.declared.scripts.Script.{Script}
use Rattle.kms_model.specs.Device.Objects.{ids_of, index_of, object_id}
use Rattle.kms_model.specs.Machine.Commits.{commit_concerns, commit_touches, has_latched, has_pair, lockable, out_fence_of}
use Rattle.kms_model.specs.Machine.Effects.{written_registers}
use Rattle.kms_model.proofs.Guards.{IsWrite}
use Rattle.kms_laws.proofs.Written.{other-plane, written-plane}
use Rattle.kms_model.specs.Machine.Histories.{at, is_history, last_latched}
use Rattle.kms_model.specs.Machine.Registers.{PlaneWords, Registers, copied_planes, crtc_register, decoded_picture, first_crtc_words}
use Rattle.kms_model.specs.Machine.Registers.{first_plane_words, is_copied, latched_registers, plane_in, plane_register, read}
use Rattle.kms_model.specs.Machine.State.{Commit, DeviceState, first_machine}
use Rattle.kms_model.specs.Promises.{picture_after}
use Rattle.kms_model.proofs.Items.{IsIn, IsObject, ids-in}
use Rattle.kms_model.proofs.SoundKept.{accepted-parts}
use Rattle.kms_model.proofs.TouchedLemmas.{IsRequestAt}
use Rattle.kms_model.proofs.Facts.{all-from_recursion}
use Rattle.kms_model.proofs.CommitFacts.{concerns_old}
use Rattle.kms_laws.proofs.Apart.{CommitsApart, apart_more, none_apart}
use Rattle.kms_laws.proofs.Basics.{both_bools, in_left, in_right, pair_more, pair_now, read_other}
use Rattle.kms_laws.proofs.Invariants.{picture_at, picture_in_words, plane_after}
use Rattle.kms_laws.proofs.Latching.{copied_keep, copied_read, latches_commit, picture_layers, seen, seen_none, within}
use Rattle.kms_laws.proofs.Numbered.{picture_old}
use Rattle.kms_laws.proofs.Objects.{crtc_index, plane_registered}
use Rattle.kms_laws.proofs.Steps.{IsPlainScript}
use Rattle.kms_laws.proofs.Tails.{latch_cases}
use Rattle.kms_laws.proofs.Traversal.{IsKept, IsLatch, TailOf, along_history, commit_of, latch_of, latched_any}

-- A plane is live on one side of a commit and in the shadow on the other, one of them no CRTC.
pub record IsPendingPlane (t : Topology) (cs : List Commit) (writes : List (ℕ × ℕ)) (ls : List Latch) (live shadow p : ℕ) : Type 0 where
  pub commit : ℕ
  pub crtc : ℕ
  pub written : has_pair writes commit p ≡ true
  pub before : commit < length cs
  pub is_crtc : IsIn crtc (ids_of t Crtc)
  pub concerned : commit_concerns t cs commit p crtc ≡ true
  pub unlatched : has_latched ls commit crtc ≡ false
  pub sides : ((live ≡ 0) × (shadow ≡ crtc)) ⊎ ((live ≡ crtc) × (shadow ≡ 0))

abbrev pub IsNear : Topology → List Commit → List (ℕ × ℕ) → List Latch → ℕ → ℕ → ℕ → Type 0
IsNear t cs writes ls live shadow p = (live ≡ shadow) ⊎ IsPendingPlane t cs writes ls live shadow p

-- a latch records the picture of its commit
pub record IsTold (t : Topology) (cs : List Commit) (l : Latch) : Type 0 where
  pub is_crtc : IsIn (object_id Crtc l.crtc) (ids_of t Crtc)
  pub before : l.commit < length cs
  pub is_picture : l.picture ≡ picture_at t cs (suc l.commit) (object_id Crtc l.crtc)

-- Before a commit writes a plane

module _ {t : Topology} {d : DeviceState} {ls : List Latch} (T : TailOf t d ls) (A : CommitsApart t d.commits) (k p : ℕ)
    (is_plane : IsIn p (ids_of t Plane)) (W : IsWrite t d k p) where
  pub p_lockable : IsIn p (lockable t)
  p_lockable = in_right (ids_of t Crtc) _ p (in_left (ids_of t Plane) _ p is_plane)

  -- who has written the plane comes before the commit
  pub only_before : (j : ℕ) → has_pair d.marks.written j p ≡ true → j < k
  only_before j w =
      let q = T.marks.written j p w in
      ⊎_elim (λ lt. lt)
      (λ (ge : k ≤ j).
      ⊎_elim
      (λ (e : k ≡ j). absurd (both_bools _ (ap (λ z. has_pair d.marks.written z p) e ∙ w) W.fresh))
      (λ (ne : k ≡ j → ⊥).
      absurd (both_bools _ ((T.marks.done k (T.order.settled j k p q.0 (omega arith) p_lockable q.1 W.touches).done).1 p
      (plane_registered t p is_plane) W.touches) W.fresh))
      (cases_eq k j))
      (cases_lt j k)

  -- and who touches it before has written it
  pub all_before : (j : ℕ) → j < k → commit_touches t d.commits j p ≡ true → has_pair d.marks.written j p ≡ true
  all_before j l tj = (T.marks.done j (T.order.settled k j p W.claimed l p_lockable W.touches tj).done).1 p (plane_registered t p is_plane)
      tj

  pub same_plane : (a b : ℕ) → a ≤ b → b ≤ length d.commits → ((j : ℕ) → a ≤ j → j < b → commit_touches t d.commits j p ≡ false)
      → plane_after t d.commits b p ≡ plane_after t d.commits a p
  same_plane a zero l m h = let e : 0 ≡ a = omega arith in ap (λ z. plane_after t d.commits z p) e
  same_plane a (suc b) l m h =
      ⊎_elim
      (λ (lt : a < suc b). T.commits.plane_frame b p (omega arith) is_plane (h b (omega arith) (omega arith)) ∙ same_plane a b (omega arith)
      (omega arith) (λ j l2 m2. h j l2 (omega arith)))
      (λ ge. let e : suc b ≡ a = omega arith in ap (λ z. plane_after t d.commits z p) e)
      (cases_lt a (suc b))

  -- the shadow words are those that the commit starts from
  pub shadow_is : plane_register d.shadow p ≡ plane_after t d.commits k p
  shadow_is =
      let e = T.shadow.plane p is_plane in
      e.says
      ∙ ⊎_elim
      (λ (lt : e.at < k).
      sym (same_plane e.at k (omega arith) (let l = T.marks.claimed k W.claimed in omega arith)
      (λ j l m. false_from_ne_true _ (λ tj. absurd (let b = e.above j (all_before j m tj) in omega arith)))))
      (λ (ge : k ≤ e.at).
      same_plane k e.at ge e.within
      (λ j l m. false_from_ne_true _ (λ tj. absurd (let b = only_before j (e.below j m tj) in omega arith))))
      (cases_lt e.at k)

  nothing_pending : (live shadow : ℕ) → IsPendingPlane t d.commits d.marks.written ls live shadow p → ⊥
  nothing_pending live shadow P =
      let q = T.marks.written P.commit p P.written in
      both_bools _ ((T.order.settled k P.commit p W.claimed (only_before P.commit P.written) p_lockable W.touches q.1).flipped P.crtc
      P.is_crtc P.concerned) P.unlatched

  pub not_latched : (c : ℕ) → has_latched ls k c ≡ false
  not_latched c = false_from_ne_true _ (λ y. both_bools _
      ((T.marks.flushed k c (T.marks.latched k c y)).written p (plane_registered t p is_plane) W.touches) W.fresh)

  pub near_now : (live : ℕ) → IsNear t d.commits d.marks.written ls live (plane_register d.shadow p).crtc p
      → IsNear t d.commits ((k, p) ∷ d.marks.written) ls live (plane_after t d.commits (suc k) p).crtc p
  near_now live (inr P) = absurd (nothing_pending live _ P)
  near_now live (inl e) =
      let old : live ≡ (plane_after t d.commits k p).crtc = e ∙ ap (λ (w : PlaneWords). w.crtc) shadow_is in
      let l = T.marks.claimed k W.claimed in
      let new = (plane_after t d.commits (suc k) p).crtc in
      let first = (plane_after t d.commits k p).crtc in
      ⊎_elim
      (λ old0.
      ⊎_elim
      (λ new0. inl (old ∙ old0 ∙ sym new0))
      (λ on. inr (record {
        commit = k;
        crtc = new;
        written = pair_now k p d.marks.written;
        before = l;
        is_crtc = on;
        concerned = A.concerned
            k p new l is_plane (inr refl);
        unlatched = not_latched new;
        sides = inl (old ∙ old0, refl);
      }))
      (A.on_crtc (suc k) p l is_plane))
      (λ rest.
      ⊎_elim
      (λ new0.
      ⊎_elim
      (λ old0. inl (old ∙ old0 ∙ sym new0))
      (λ on. inr (record {
        commit = k;
        crtc = first;
        written = pair_now k p d.marks.written;
        before = l;
        is_crtc = on;
        concerned =
            A.concerned k p first l is_plane (inl refl);
        unlatched = not_latched first;
        sides = inr (old, new0);
      }))
      (A.on_crtc k p (omega arith) is_plane))
      (λ same. inl (old ∙ same))
      rest)
      (A.apart k p l is_plane)

more_pending : (t : Topology) (cs : List Commit) (writes : List (ℕ × ℕ)) (ls : List Latch) (k o live shadow p : ℕ)
    → IsPendingPlane t cs writes ls live shadow p → IsPendingPlane t cs ((k, o) ∷ writes) ls live shadow p
more_pending t cs writes ls k o live shadow p P =
    record {
      commit = P.commit;
      crtc = P.crtc;
      written = pair_more k o writes P.commit p P.written;
      before = P.before;
      is_crtc = P.is_crtc;
      concerned = P.concerned;
      unlatched = P.unlatched;
      sides = P.sides;
    }

pub near_written : {t : Topology} {d : DeviceState} {ls : List Latch} (T : TailOf t d ls) (A : CommitsApart t d.commits) (k o live p : ℕ)
    → IsIn p (ids_of t Plane) → IsWrite t d k o → IsNear t d.commits d.marks.written ls live (plane_register d.shadow p).crtc p
    → IsNear t d.commits ((k, o) ∷ d.marks.written) ls live (plane_register (written_registers t d k o) p).crtc p
near_written {t} {d} {ls} T A k o live p i W near =
    ⊎_elim
    (λ (same : o ≡ p).
    subst (λ z. IsNear t d.commits ((k, z) ∷ d.marks.written) ls live (plane_register (written_registers t d k o) p).crtc p) (sym same)
    (subst (λ z. IsNear t d.commits ((k, p) ∷ d.marks.written) ls live z p)
    (ap (λ (w : PlaneWords). w.crtc) (sym (written-plane t d k o p i same)))
    (near_now T A k p i (subst (IsWrite t d k) same W) live near)))
    (λ ne.
    subst (λ z. IsNear t d.commits ((k, o) ∷ d.marks.written) ls live z p)
    (ap (λ (w : PlaneWords). w.crtc) (sym (other-plane t d k o p ne)))
    (⊎_elim (λ e. inl e) (λ P. inr (more_pending t d.commits d.marks.written ls k o live _ p P)) near))
    (cases_eq o p)

-- A latch

-- what is copied by a latch at a CRTC was not on another CRTC
elsewhere : (live shadow c other : ℕ) → ((live ≡ c) ⊎ (shadow ≡ c)) → (c ≡ other → ⊥) → 0 < c → 0 < other → (live ≡ shadow)
    ⊎ ((x : ℕ) × (((live ≡ 0) × (shadow ≡ x)) ⊎ ((live ≡ x) × (shadow ≡ 0)))) → (live ≡ other → ⊥) × (shadow ≡ other → ⊥)
elsewhere live shadow c other on ne pc po near = (
  (λ e. ⊎_elim (λ (a : live ≡ c). ne (sym a ∙ e))
      (λ (b : shadow ≡ c). ⊎_elim (λ (s : live ≡ shadow). ne (sym b ∙ sym s ∙ e))
      (λ r. ⊎_elim (λ (x : (live ≡ 0) × (shadow ≡ r.0)). let z : live ≡ 0 = x.0 in omega arith)
      (λ (x : (live ≡ r.0) × (shadow ≡ 0)). let z : shadow ≡ 0 = x.1 in omega arith) r.1) near) on),
  (λ e. ⊎_elim (λ (a : live ≡ c). ⊎_elim (λ (s : live ≡ shadow). ne (sym a ∙ s ∙ e))
      (λ r. ⊎_elim (λ (x : (live ≡ 0) × (shadow ≡ r.0)). let z : live ≡ 0 = x.0 in omega arith)
      (λ (x : (live ≡ r.0) × (shadow ≡ 0)). let z : shadow ≡ 0 = x.1 in omega arith) r.1) near) (λ (b : shadow ≡ c). ne (sym b ∙ e)) on),
)

-- the live words of a plane after a latch
abbrev pub copied_plane : Topology → Registers → Registers → ℕ → ℕ → PlaneWords
copied_plane t sh live c p = read (first_plane_words p) (copied_planes sh live c (ids_of t Plane)) p

latch_seen : (t : Topology) (cs : List Commit) (writes : List (ℕ × ℕ)) (ls : List Latch) (sh live : Registers) (c other p : ℕ) → 0 < c → 0
    < other → (c ≡ other → ⊥) → IsIn p (ids_of t Plane) → IsNear t cs writes ls (plane_register live p).crtc (plane_register sh p).crtc p
    → seen other (copied_plane t sh live c p) ≡ seen other (plane_register live p)
latch_seen t cs writes ls sh live c other p pc po ne i near =
    ⊎_elim
    (λ mv.
    let on = ⊎_elim (λ e. inl (eqb-true (plane_register live p).crtc c e)) (λ e. inr (eqb-true (plane_register sh p).crtc c e))
    (or_cases ((plane_register live p).crtc == c) ((plane_register sh p).crtc == c) mv) in
    let away = elsewhere (plane_register live p).crtc (plane_register sh p).crtc c other on ne pc po
    (⊎_elim (λ e. inl e) (λ P. inr (P.crtc, P.sides)) near) in
    ap (seen other) (copied_read sh live c (ids_of t Plane) p mv i) ∙ seen_none other (plane_register sh p) away.1 ∙ sym
    (seen_none other (plane_register live p) away.0))
    (λ mv. ap (seen other) (copied_keep sh live c (ids_of t Plane) p mv))
    (cases_Bool (is_copied sh live c p))

latch_near : (t : Topology) (cs : List Commit) (writes : List (ℕ × ℕ)) (ls : List Latch) (l : Latch) (sh live : Registers) (c p : ℕ)
    → object_id Crtc l.crtc ≡ c → IsIn p (ids_of t Plane) → IsNear t cs writes ls (plane_register live p).crtc (plane_register sh p).crtc p
    → IsNear t cs writes (l ∷ ls) (copied_plane t sh live c p).crtc (plane_register sh p).crtc p
latch_near t cs writes ls l sh live c p at_c i near =
    ⊎_elim
    (λ mv. inl (ap (λ (w : PlaneWords). w.crtc) (copied_read sh live c (ids_of t Plane) p mv i)))
    (λ mv.
    let stays = ap (λ (w : PlaneWords). w.crtc) (copied_keep sh live c (ids_of t Plane) p mv) in
    let away = or_parts ((plane_register live p).crtc == c) ((plane_register sh p).crtc == c) mv in
    ⊎_elim
    (λ e. inl (stays ∙ e))
    (λ P.
    inr (record {
      commit = P.commit;
      crtc = P.crtc;
      written = P.written;
      before = P.before;
      is_crtc = P.is_crtc;
      concerned = P.concerned;
      unlatched = false_from_ne_true _ (λ y.
          ⊎_elim
          (λ (same : (l.commit ≡ P.commit) × (object_id Crtc l.crtc ≡ P.crtc)).
          let at : c ≡ P.crtc = sym at_c ∙ same.1 in
          ⊎_elim (λ x. eqb-false _ _ away.1 (x.1 ∙ sym at)) (λ x. eqb-false _ _ away.0 (x.0 ∙ sym at)) P.sides)
          (λ old. both_bools _ old P.unlatched)
          (latch_cases l ls P.commit P.crtc y));
      sides = ⊎_elim (λ x. inl (stays ∙ x.0, x.1)) (λ x. inr (stays ∙ x.0, x.1)) P.sides;
    }))
    near)
    (cases_Bool (is_copied sh live c p))

-- What is kept

pub record Whole (t : Topology) (d : DeviceState) (ls : List Latch) : Type 0 where
  pub apart : CommitsApart t d.commits
  pub near : (p : ℕ) → IsIn p (ids_of t Plane) → IsNear t d.commits d.marks.written ls (plane_register d.live p).crtc
      (plane_register d.shadow p).crtc p
  pub steady : (i : ℕ) → i < t.crtcs → decoded_picture t d.live (object_id Crtc i) ≡ last_latched ls i
  pub told : AllByRecursion (IsTold t d.commits) ls

whole_written : (t : Topology) (d : DeviceState) (ls : List Latch) (k o : ℕ) → TailOf t d ls → IsWrite t d k o → Whole t d ls
    → Whole t (record d { shadow = written_registers t d k o; marks = record d.marks { written = (k, o) ∷ d.marks.written } }) ls
whole_written t d ls k o T W L = record {
  apart = L.apart;
  near = λ p i. near_written T L.apart k o (plane_register d.live p).crtc p i W (L.near p i);
  steady = L.steady;
  told = L.told;
}

module _ (t : Topology) (d : DeviceState) (ls : List Latch) (k c count : ℕ) (T : TailOf t d ls) (found : IsLatch t d ls k c)
    (L : Whole t d ls) where
  at_c : object_id Crtc (index_of c) ≡ c
  at_c = crtc_index t c T.few found.is_crtc

  some : 0 < c
  some = let o : IsObject t Crtc c = ids-in t Crtc c found.is_crtc in omega (arith, o.same)

  steady_here : (i : ℕ) → index_of c ≡ i → decoded_picture t (latched_registers t d.shadow d.live c) (object_id Crtc i)
      ≡ last_latched (latch_of t d k c count ∷ ls) i
  unfolding last_latched
  steady_here i same =
      ap (decoded_picture t (latched_registers t d.shadow d.live c)) (ap (object_id Crtc) (sym same) ∙ at_c)
      ∙ sym (cond-true (index_of c == i) (decoded_picture t (latched_registers t d.shadow d.live c) c) (last_latched ls i)
      (eq-eqb (index_of c) i same))

  -- the picture of another CRTC stays as it was
  pub unchanged : (i : ℕ) → i < t.crtcs → (index_of c ≡ i → ⊥)
      → decoded_picture t (latched_registers t d.shadow d.live c) (object_id Crtc i) ≡ decoded_picture t d.live (object_id Crtc i)
  unfolding decoded_picture
  unchanged i l ne =
      let other = object_id Crtc i in
      let apart : c ≡ other → ⊥ = (λ (e : c ≡ 100 + i). ne (let z : 100 + index_of c ≡ c = at_c in omega arith)) in
      let words = read_other first_crtc_words d.live.crtcs c other (crtc_register d.shadow c) apart in
      (λ z. picture_in_words t (words z) (λ p. plane_in (copied_plane t d.shadow d.live c p)) other)
      ∙ picture_layers t (crtc_register d.live other) (λ p. copied_plane t d.shadow d.live c p) (plane_register d.live) other
      (λ p ip. latch_seen t d.commits d.marks.written ls d.shadow d.live c other p some (omega arith) apart ip (L.near p ip))

  steady_there : (i : ℕ) → i < t.crtcs → (index_of c ≡ i → ⊥) → decoded_picture t (latched_registers t d.shadow d.live c) (object_id Crtc i)
      ≡ last_latched (latch_of t d k c count ∷ ls) i
  unfolding last_latched
  steady_there i l ne = unchanged i l ne ∙ L.steady i l ∙ sym
      (cond-false (index_of c == i) _ (last_latched ls i) (ne_eqb (index_of c) i ne))

  pub whole_latched : Whole t (record d { live = latched_registers t d.shadow d.live c }) (latch_of t d k c count ∷ ls)
  whole_latched = record {
    apart = L.apart;
    near = λ p ip. latch_near t d.commits d.marks.written ls (latch_of t d k c count) d.shadow d.live c p at_c ip (L.near p ip);
    steady = λ i l. ⊎_elim (λ same. steady_here i same) (λ ne. steady_there i l ne) (cases_eq (index_of c) i);
    told = (
      record {
        is_crtc = subst (λ z. IsIn z (ids_of t Crtc)) (sym at_c) found.is_crtc;
        before = within T k c found.is_crtc found.flushed found.unlatched;
        is_picture = latches_commit T d.live k c found.is_crtc found.flushed found.unlatched ∙ ap (picture_at t d.commits (suc k))
            (sym at_c);
      },
      L.told,
    );
  }

told_longer : (t : Topology) (x : Commit) (cs : List Commit) (ls : List Latch) → AllByRecursion (IsTold t cs) ls
    → AllByRecursion (IsTold t (x ∷ cs)) ls
told_longer t x cs [] told = tt
told_longer t x cs (l ∷ ls) told = (
  record {
    is_crtc = told.0.is_crtc;
    before = (let b = told.0.before in omega arith);
    is_picture = told.0.is_picture ∙ sym (picture_old t x cs (suc l.commit) (object_id Crtc l.crtc) told.0.before);
  },
  told_longer t x cs ls told.1,
)

near_longer : (t : Topology) (x : Commit) (cs : List Commit) (writes : List (ℕ × ℕ)) (ls : List Latch) (live shadow p : ℕ)
    → IsNear t cs writes ls live shadow p → IsNear t (x ∷ cs) writes ls live shadow p
near_longer t x cs writes ls live shadow p near =
    ⊎_elim (λ e. inl e)
    (λ P. inr (record {
      commit = P.commit;
      crtc = P.crtc;
      written = P.written;
      before = (let b = P.before in omega arith);
      is_crtc = P.is_crtc;
      concerned = concerns_old t x cs P.commit p P.crtc P.before ∙ P.concerned;
      unlatched = P.unlatched;
      sides = P.sides;
    }))
    near

pub whole_kept : (s : Script) → IsPlainScript s → IsKept s (Whole s.topology)
whole_kept s plain = record {
  made = λ m client c H is other L. record { apart = L.apart; near = L.near; steady = L.steady; told = L.told };
  swapped = λ m client r H is none no_test L.
      let e = (accepted-parts s.topology m.device.world r none).first_none in
      let at : IsRequestAt s.topology m.device.world r = record { device = plain.device; sound = H.present.lawful.sound; early = e } in
      let x : Commit = commit_of m client r in
      record {
        apart = apart_more s.topology x m.device.commits at H.present.lawful.numbered none H.present.states
            H.present.framed H.present.kept L.apart;
        near = λ p i. near_longer s.topology x m.device.commits m.device.marks.written m.records.latches _ _ p (L.near p i);
        steady = L.steady;
        told = told_longer s.topology x m.device.commits m.records.latches L.told;
      };
  claimed = λ m k H may L. record { apart = L.apart; near = L.near; steady = L.steady; told = L.told };
  written = λ d ls k o T W L. whole_written s.topology d ls k o T W L;
  flushed = λ d ls k c L. record { apart = L.apart; near = L.near; steady = L.steady; told = L.told };
  done = λ d ls k L. record { apart = L.apart; near = L.near; steady = L.steady; told = L.told };
  cleaned = λ d ls k done all L. record { apart = L.apart; near = L.near; steady = L.steady; told = L.told };
  waits = λ d ls c o L. record { apart = L.apart; near = L.near; steady = L.steady; told = L.told };
  counted = λ d ls c n L. record { apart = L.apart; near = L.near; steady = L.steady; told = L.told };
  latched = λ d ls k c count T found L. latched_any (Whole s.topology)
      (λ e ms fence W. record { apart = W.apart; near = W.near; steady = W.steady; told = W.told })
      (record d { live = latched_registers s.topology d.shadow d.live c }) (latch_of s.topology d k c count ∷ ls)
      (out_fence_of s.topology d.commits k c) (whole_latched s.topology d ls k c count T found L);
  signalled = λ d ls fence L. record { apart = L.apart; near = L.near; steady = L.steady; told = L.told };
}

pub first_whole : (t : Topology) → Whole t (first_machine t).device []
unfolding last_latched read decoded_picture
first_whole t = record {
  apart = none_apart t;
  near = λ p i. inl refl;
  steady = λ i l. refl;
  told = tt;
}

pictures_told : (t : Topology) (cs : List Commit) (ls : List Latch) → CommitsApart t cs → AllByRecursion (IsTold t cs) ls
    → AllByRecursion (λ l. l.picture ≡ picture_after t cs l.commit l.crtc) ls
pictures_told t cs [] A told = tt
pictures_told t cs (l ∷ ls) A told = (
  told.0.is_picture ∙ A.pictured l.commit (object_id Crtc l.crtc) told.0.before told.0.is_crtc,
  pictures_told t cs ls A told.1,
)

-- along a history
pub history_whole : (s : Script) (h : List Step) → IsPlainScript s → is_history s h ≡ true
    → Whole s.topology (at s h).device (at s h).records.latches
history_whole s h plain is = (along_history s (Whole s.topology) (whole_kept s plain) h plain (first_whole s.topology) is).1

pub whole_pictures : (s : Script) (h : List Step) → IsPlainScript s → is_history s h ≡ true → (crtc : ℕ) → crtc < s.topology.crtcs
    → (decoded_picture s.topology (at s h).device.live (object_id Crtc crtc) ≡ last_latched (at s h).records.latches crtc)
    × All (λ l. l.picture ≡ picture_after s.topology (at s h).device.commits l.commit l.crtc) (at s h).records.latches
whole_pictures s h plain is crtc l =
    let W = history_whole s h plain is in (
      W.steady crtc l,
      all-from_recursion _ (at s h).records.latches
          (pictures_told s.topology (at s h).device.commits (at s h).records.latches W.apart W.told),
    )
