-- What each step of a commit's tail keeps.
use Rattle.std.proofs.Common.{◌≡◌, ℕ, zero, suc, ◌<◌, ◌≤◌, List, ◌∷◌, length, Bool, true, false, not, ◌&&◌, ◌||◌, ◌==◌, Option, Some, None}
use Rattle.std.proofs.Common.{refl, sym, ap, ◌∙◌, subst, arith, inl, inr, ◌⊎◌, ⊎_elim}
use Rattle.std.proofs.lemmas.Bool.{and_parts, or_cases, or_left, or_right, and_from, eqb-true, eq-eqb, ne_eqb, cases_Bool, cond-true}
use Rattle.std.proofs.lemmas.Bool.{cond-false, cases_eq, cases_lt, false_from_ne_true}
use Rattle.kms_model.specs.declared.objects.Kind.TheVariants.{Crtc, Plane, Conn}
use Rattle.kms_model.specs.declared.objects.Topology.{Topology}
use Rattle.kms_model.specs.declared.runs.Latch.{Latch}
use Rattle.kms_model.specs.Device.Objects.{object_id, ids_of}
use Rattle.kms_model.specs.Machine.Commits.{commit_names, commit_touches, commit_concerns, has_flipped, has_latched, has_number, has_pair}
use Rattle.kms_model.specs.Machine.Commits.{if_there, is_latch_of, last_below, lockable, registered}
use Rattle.kms_model.specs.Machine.Registers.{Registers, crtc_register, plane_register, read}
use Rattle.kms_model.specs.Machine.State.{Commit, Marks}
use Rattle.kms_model.proofs.Items.{IsIn, list_all-at}
use Rattle.kms_model.proofs.Facts.{implied}
use Rattle.kms_laws.proofs.Basics.{both_bools, in_either, in_left, in_right, number_cases, number_more, pair_cases, pair_more, pair_now}
use Rattle.kms_laws.proofs.Basics.{read_same, read_other}
use Rattle.kms_laws.proofs.Invariants.{Edge, IsPending, IsSettled, IsWritten, MarksStand, OrderStands, ShadowStands, Shows, Tail}
use Rattle.kms_laws.proofs.Invariants.{WasFlushed, commit_picture, crtc_after, latched_at, picture_at, plane_after, shown}
use Rattle.kms_laws.proofs.Latching.{is_claimed_then, latched_before, none_after}
use Rattle.kms_laws.proofs.Objects.{crtc_registered, names-touches}

-- A step that writes nothing to registers

tail_with : {t : Topology} {cs : List Commit} {ms : Marks} {sh : Registers} {go : List (ℕ × Option ℕ)} {ls : List Latch}
    (T : Tail t cs ms sh go ls) (more : Marks) (now : List (ℕ × Option ℕ)) (latches : List Latch)
    → more.written ≡ ms.written → MarksStand t cs more now latches → OrderStands t cs more latches → ((c : ℕ) → Shows t cs latches c)
    → Tail t cs more sh now latches
tail_with {t} {cs} {ms} {sh} {go} {ls} T more now latches same marks order shows =
    record {
      few = T.few;
      commits = T.commits;
      marks = marks;
      order = order;
      shadow = subst (λ w. ShadowStands t cs w sh) (sym same)
          T.shadow;
      shows = shows;
    }

-- Claim

settled_from : (t : Topology) (cs : List Commit) (dones : List ℕ) (ls : List Latch) (o m : ℕ)
    → (has_number dones m && has_flipped t cs ls m o) ≡ true → IsSettled t cs dones ls m o
unfolding has_flipped
settled_from t cs dones ls o m h =
    let p = and_parts (has_number dones m) _ h in
    record {
      done = p.0;
      flipped = λ c i on. implied (commit_concerns t cs m o c) (has_latched ls m c)
          (list_all-at (λ c. not (commit_concerns t cs m o c) || has_latched ls m c) (ids_of t Crtc) c p.1 i) on;
    }

-- the last commit before a number that touched an object, where there is one, has hw_done and has flipped for it
abbrev pub is_settled : Topology → List Commit → List ℕ → List Latch → ℕ → Option ℕ → Bool
is_settled t cs dones ls o last = if_there (λ j. has_number dones j && has_flipped t cs ls j o) last

-- who is settled with the last before a number, is settled with all before it
settled_below : {t : Topology} {cs : List Commit} {ms : Marks} {sh : Registers} {go : List (ℕ × Option ℕ)} {ls : List Latch}
    (T : Tail t cs ms sh go ls) (o : ℕ) → IsIn o (lockable t) → (n : ℕ)
    → is_settled t cs ms.done ls o (last_below (λ j. commit_touches t cs j o) n) ≡ true → (j : ℕ) → j < n → commit_touches t cs j o ≡ true
    → IsSettled t cs ms.done ls j o
unfolding last_below
settled_below T o i zero h j l touch = absurd (omega arith)
settled_below {t} {cs} {ms} {sh} {go} {ls} T o i (suc m) h j l touch =
    ⊎_elim
    (λ tm.
    let s = settled_from t cs ms.done ls o m (ap (is_settled t cs ms.done ls o)
    (sym (cond-true _ (Some m) (last_below (λ j. commit_touches t cs j o) m) tm)) ∙ h) in
    ⊎_elim
    (λ (lt : j < m). T.order.settled m j o (T.marks.done m s.done).0 lt i tm touch)
    (λ ge. let e : m ≡ j = omega arith in subst (λ z. IsSettled t cs ms.done ls z o) e s)
    (cases_lt j m))
    (λ fm.
    ⊎_elim
    (λ (lt : j < m). settled_below T o i m (ap (is_settled t cs ms.done ls o)
    (sym (cond-false _ (Some m) (last_below (λ j. commit_touches t cs j o) m) fm)) ∙ h) j lt touch)
    (λ ge. let e : m ≡ j = omega arith in absurd (both_bools _ touch (ap (λ z. commit_touches t cs z o) (sym e) ∙ fm)))
    (cases_lt j m))
    (cases_Bool (commit_touches t cs m o))

pub claim_kept : {t : Topology} {cs : List Commit} {ms : Marks} {sh : Registers} {go : List (ℕ × Option ℕ)} {ls : List Latch}
    (T : Tail t cs ms sh go ls) (k : ℕ) → k < length cs
    → ((o : ℕ) → IsIn o (lockable t) → commit_touches t cs k o ≡ true
    → is_settled t cs ms.done ls o (last_below (λ j. commit_touches t cs j o) k) ≡ true)
    → Tail t cs (record ms { claimed = k ∷ ms.claimed }) sh go ls
claim_kept {t} {cs} {ms} {sh} {go} {ls} T k within settled =
    tail_with T _ go ls refl
    (record {
      claimed = λ j e. ⊎_elim (λ (same : k ≡ j). subst (λ z. z < length cs) same within) (λ old. T.marks.claimed j old)
          (number_cases k ms.claimed j e);
      written = λ j o e. let p = T.marks.written j o e in (number_more k ms.claimed j p.0, p.1);
      flushed = T.marks.flushed;
      done = λ j e. let p = T.marks.done j e in (number_more k ms.claimed j p.0, p.1);
      latched = T.marks.latched;
      go_is = T.marks.go_is;
      clean_done = T.marks.clean_done;
      cleaned = T.marks.cleaned;
    })
    (record {
      settled = λ i j o e l ob ti tj.
          ⊎_elim
          (λ (same : k ≡ i). settled_below T o ob k (settled o ob (ap (λ z. commit_touches t cs z o) same ∙ ti)) j (omega arith) tj)
          (λ old. T.order.settled i j o old l ob ti tj)
          (number_cases k ms.claimed i e);
    })
    T.shows

-- Write

more_written : (t : Topology) (cs : List Commit) (writes : List (ℕ × ℕ)) (k o j : ℕ) → IsWritten t cs writes j
    → IsWritten t cs ((k, o) ∷ writes) j
more_written t cs writes k o j h q i touch = pair_more k o writes j q (h q i touch)

registered_lockable : (t : Topology) (o : ℕ) → IsIn o (registered t) → IsIn o (lockable t)
registered_lockable t o i =
    ⊎_elim (λ c. in_left (ids_of t Crtc) _ o c) (λ p. in_right (ids_of t Crtc) _ o (in_left (ids_of t Plane) (ids_of t Conn) o p))
    (in_either (ids_of t Crtc) (ids_of t Plane) o i)

module _ {t : Topology} {cs : List Commit} {ms : Marks} {sh : Registers} {go : List (ℕ × Option ℕ)} {ls : List Latch}
    (T : Tail t cs ms sh go ls) (k o : ℕ)
    (claimed : has_number ms.claimed k ≡ true) (is_registered : IsIn o (registered t)) (touch : commit_touches t cs k o ≡ true)
    (un : has_pair ms.written k o ≡ false) where
  -- one object more is written, and its words are those after the commit
  edge_now : (Says Now : ℕ → Type 0) → Edge t cs ms.written o Says → Now (suc k) → Edge t cs ((k, o) ∷ ms.written) o Now
  edge_now Says Now e now =
      let ob = registered_lockable t o is_registered in
      record {
        at = suc k;
        within = T.marks.claimed k claimed;
        below = λ j l tj.
            ⊎_elim
            (λ (lt : j < k). pair_more k o ms.written j o
            ((T.marks.done j (T.order.settled k j o claimed lt ob touch tj).done).1 o is_registered tj))
            (λ ge. let same : k ≡ j = omega arith in subst (λ z. has_pair ((k, o) ∷ ms.written) z o ≡ true) same (pair_now k o ms.written))
            (cases_lt j k);
        above = λ j w.
            ⊎_elim
            (λ (same : (k ≡ j) × (o ≡ o)). let e : k ≡ j = same.0 in omega arith)
            (λ old.
            let p = T.marks.written j o old in
            ⊎_elim
            (λ (lt : k < j). absurd (both_bools _ ((T.marks.done k (T.order.settled j k o p.0 lt ob p.1 touch).done).1 o is_registered
            touch) un))
            (λ ge. omega arith)
            (cases_lt k j))
            (pair_cases k o ms.written j o w);
        says = now;
      }

  -- another object stays as it was
  edge_other : (q : ℕ) (Says Now : ℕ → Type 0) → (o ≡ q → ⊥) → Edge t cs ms.written q Says → ((m : ℕ) → Says m → Now m)
      → Edge t cs ((k, o) ∷ ms.written) q Now
  edge_other q Says Now ne e now =
      record {
        at = e.at;
        within = e.within;
        below = λ j l tj. pair_more k o ms.written j q (e.below j l tj);
        above = λ j w. ⊎_elim (λ (same : (k ≡ j) × (o ≡ q)). absurd (ne same.1)) (λ old. e.above j old) (pair_cases k o ms.written j q w);
        says = now e.at e.says;
      }

  edge_moved : (q : ℕ) (Says Now : ℕ → Type 0) → Edge t cs ms.written q Says → (o ≡ q → Now (suc k))
      → ((o ≡ q → ⊥) → (m : ℕ) → Says m → Now m) → Edge t cs ((k, o) ∷ ms.written) q Now
  edge_moved q Says Now e now other =
      ⊎_elim
      (λ (same : o ≡ q). subst (λ z. Edge t cs ((k, o) ∷ ms.written) z Now) same
      (edge_now Says Now (subst (λ z. Edge t cs ms.written z Says) (sym same) e) (now same)))
      (λ ne. edge_other q Says Now ne e (other ne))
      (cases_eq o q)

  pub write_kept : (new : Registers)
      → ((p : ℕ) → IsIn p (ids_of t Plane) → o ≡ p → plane_register new p ≡ plane_after t cs (suc k) p)
      → ((p : ℕ) → IsIn p (ids_of t Plane) → (o ≡ p → ⊥) → plane_register new p ≡ plane_register sh p)
      → ((c : ℕ) → IsIn c (ids_of t Crtc) → o ≡ c → crtc_register new c ≡ crtc_after t cs (suc k) c)
      → ((c : ℕ) → IsIn c (ids_of t Crtc) → (o ≡ c → ⊥) → crtc_register new c ≡ crtc_register sh c)
      → Tail t cs (record ms { written = (k, o) ∷ ms.written }) new go ls
  write_kept new plane_now plane_other crtc_now crtc_other =
      record {
        few = T.few;
        commits = T.commits;
        marks = record {
          claimed = T.marks.claimed;
          written = λ j q w. ⊎_elim (λ (same : (k ≡ j) × (o ≡ q)).
              (ap (has_number ms.claimed) (sym same.0) ∙ claimed, (λ i. commit_touches t cs (sym same.0 i) (sym same.1 i)) ∙ touch))
              (λ old. T.marks.written j q old) (pair_cases k o ms.written j q w);
          flushed = λ j c f. let p = T.marks.flushed j c f
              in record { is_crtc = p.is_crtc; names = p.names; written = more_written t cs ms.written k o j p.written };
          done = λ j f. let p = T.marks.done j f in (p.0, more_written t cs ms.written k o j p.1);
          latched = T.marks.latched;
          go_is = T.marks.go_is;
          clean_done = T.marks.clean_done;
          cleaned = T.marks.cleaned;
        };
        order = record { settled = T.order.settled };
        shadow = record {
          plane = λ p i.
              edge_moved p (λ m. plane_register sh p ≡ plane_after t cs m p) (λ m. plane_register new p ≡ plane_after t cs m p)
              (T.shadow.plane p i)
              (λ same. plane_now p i same) (λ ne m says. plane_other p i ne ∙ says);
          crtc = λ c i.
              edge_moved c (λ m. crtc_register sh c ≡ crtc_after t cs m c) (λ m. crtc_register new c ≡ crtc_after t cs m c)
              (T.shadow.crtc c i)
              (λ same. crtc_now c i same) (λ ne m says. crtc_other c i ne ∙ says);
        };
        shows = T.shows;
      }

-- Hw_done and cleanup

pub hw_done_kept : {t : Topology} {cs : List Commit} {ms : Marks} {sh : Registers} {go : List (ℕ × Option ℕ)} {ls : List Latch}
    (T : Tail t cs ms sh go ls) (k : ℕ)
    → has_number ms.claimed k ≡ true → IsWritten t cs ms.written k → Tail t cs (record ms { done = k ∷ ms.done }) sh go ls
hw_done_kept {t} {cs} {ms} {sh} {go} {ls} T k claimed written =
    tail_with T _ go ls refl
    (record {
      claimed = T.marks.claimed;
      written = T.marks.written;
      flushed = T.marks.flushed;
      done = λ j e. ⊎_elim (λ (same : k ≡ j). subst (λ z. (has_number ms.claimed z ≡ true) × IsWritten t cs ms.written z) same
          (claimed, written)) (λ old. T.marks.done j old) (number_cases k ms.done j e);
      latched = T.marks.latched;
      go_is = T.marks.go_is;
      clean_done = λ j e. number_more k ms.done j (T.marks.clean_done j e);
      cleaned = T.marks.cleaned;
    })
    (record {
      settled = λ i j o e l ob ti tj. let s = T.order.settled i j o e l ob ti tj
          in record { done = number_more k ms.done j s.done; flipped = s.flipped };
    }) T.shows

pub cleanup_kept : {t : Topology} {cs : List Commit} {ms : Marks} {sh : Registers} {go : List (ℕ × Option ℕ)} {ls : List Latch}
    (T : Tail t cs ms sh go ls) (k : ℕ)
    → has_number ms.done k ≡ true → ((c : ℕ) → IsIn c (ids_of t Crtc) → commit_names t cs k c ≡ true → has_latched ls k c ≡ true)
    → Tail t cs (record ms { cleaned = k ∷ ms.cleaned }) sh go ls
cleanup_kept {t} {cs} {ms} {sh} {go} {ls} T k done all =
    tail_with T _ go ls refl
    (record {
      claimed = T.marks.claimed;
      written = T.marks.written;
      flushed = T.marks.flushed;
      done = T.marks.done;
      latched = T.marks.latched;
      go_is = T.marks.go_is;
      clean_done = λ j e. ⊎_elim (λ (same : k ≡ j). ap (has_number ms.done) (sym same) ∙ done) (λ old. T.marks.clean_done j old)
          (number_cases k ms.cleaned j e);
      cleaned = λ j c e i nm.
          ⊎_elim
          (λ (same : k ≡ j). ap (λ z. has_latched ls z c) (sym same) ∙ all c i (ap (λ z. commit_names t cs z c) same ∙ nm))
          (λ old. T.marks.cleaned j c old i nm)
          (number_cases k ms.cleaned j e);
    })
    (record { settled = T.order.settled }) T.shows

-- A latch

pub latch_cases : (l : Latch) (ls : List Latch) (k c : ℕ) → has_latched (l ∷ ls) k c ≡ true → ((l.commit ≡ k) × (object_id Crtc l.crtc ≡ c))
    ⊎ (has_latched ls k c ≡ true)
unfolding has_latched
latch_cases l ls k c h =
    ⊎_elim (λ e. let p = and_parts (l.commit == k) (object_id Crtc l.crtc == c) e
    in inl (eqb-true l.commit k p.0, eqb-true (object_id Crtc l.crtc) c p.1)) (λ e. inr e) (or_cases (is_latch_of k c l) _ h)

pub latch_more : (l : Latch) (ls : List Latch) (k c : ℕ) → has_latched ls k c ≡ true → has_latched (l ∷ ls) k c ≡ true
unfolding has_latched
latch_more l ls k c h = or_right (is_latch_of k c l) _ h

pub latch_now : (l : Latch) (ls : List Latch) (k c : ℕ) → l.commit ≡ k → object_id Crtc l.crtc ≡ c → has_latched (l ∷ ls) k c ≡ true
unfolding has_latched
latch_now l ls k c e f = or_left (is_latch_of k c l) _
    (and_from (l.commit == k) (object_id Crtc l.crtc == c) (eq-eqb l.commit k e) (eq-eqb (object_id Crtc l.crtc) c f))

more_latched : (t : Topology) (cs : List Commit) (dones : List ℕ) (l : Latch) (ls : List Latch) (j o : ℕ) → IsSettled t cs dones ls j o
    → IsSettled t cs dones (l ∷ ls) j o
more_latched t cs dones l ls j o h = record { done = h.done; flipped = λ c i on. latch_more l ls j c (h.flipped c i on) }

-- commits that do not name a CRTC add nothing to what is shown there
pub shown_same : (t : Topology) (cs : List Commit) (c a b : ℕ) → a ≤ b → ((j : ℕ) → a ≤ j → j < b → commit_names t cs j c ≡ false)
    → shown t cs c b ≡ shown t cs c a
unfolding shown
shown_same t cs c a zero l h = let e : zero ≡ a = omega arith in ap (shown t cs c) e
shown_same t cs c a (suc b) l h =
    ⊎_elim
    (λ (lt : a < suc b). cond-false (commit_names t cs b c) _ (shown t cs c b) (h b (omega arith) (omega arith)) ∙ shown_same t cs c a b
    (omega arith) (λ j l2 m2. h j l2 (omega arith)))
    (λ ge. let e : suc b ≡ a = omega arith in ap (shown t cs c) e)
    (cases_lt a (suc b))

module _ {t : Topology} {cs : List Commit} {ms : Marks} {sh : Registers} {go : List (ℕ × Option ℕ)} {ls : List Latch}
    (T : Tail t cs ms sh go ls) (k c : ℕ) (l : Latch)
    (is_crtc : IsIn c (ids_of t Crtc)) (F : has_pair ms.flushed k c ≡ true) (un : has_latched ls k c ≡ false)
    (of_k : l.commit ≡ k) (at_c : object_id Crtc l.crtc ≡ c) (is_picture : l.picture ≡ picture_at t cs (suc k) c) where
  shows_now : Shows t cs (l ∷ ls) c
  unfolding latched_at shown
  shows_now =
      let nm = (T.marks.flushed k c F).names in
      let before = latched_before T k c is_crtc F un in
      let e = T.shows c in
      let upto : e.at ≤ k = ⊎_elim (λ (lt : k < e.at). absurd (both_bools _ (e.below k lt nm) un)) (λ ge. ge) (cases_lt k e.at) in
      record {
        at = suc k;
        within = T.marks.claimed k (is_claimed_then T k c is_crtc F un);
        below = λ j m nj.
            ⊎_elim
            (λ (lt : j < k). latch_more l ls j c (before j lt nj))
            (λ ge. let same : k ≡ j = omega arith in latch_now l ls j c (of_k ∙ same) at_c)
            (cases_lt j k);
        above = λ j y.
            ⊎_elim
            (λ (same : (l.commit ≡ j) × (object_id Crtc l.crtc ≡ c)). let e1 : k ≡ j = sym of_k ∙ same.0 in omega arith)
            (λ old.
            let f = T.marks.flushed j c (T.marks.latched j c old) in
            let touch = names-touches t cs j c T.few is_crtc f.names in
            ⊎_elim
            (λ (lt : k < j). absurd (none_after T k c is_crtc F un j lt
            (T.marks.written j c (f.written c (crtc_registered t c is_crtc) touch)).0 touch))
            (λ ge. omega arith)
            (cases_lt k j))
            (latch_cases l ls j c y);
        says =
            cond-true (object_id Crtc l.crtc == c) (commit_picture l.commit l.picture ∷ latched_at ls c) (latched_at ls c)
            (eq-eqb (object_id Crtc l.crtc) c at_c)
            ∙ (λ i. commit_picture (of_k i) (is_picture i) ∷ e.says i)
            ∙ ap (λ xs. commit_picture k (picture_at t cs (suc k) c) ∷ xs)
            (sym (shown_same t cs c e.at k upto (λ j l2 m2. false_from_ne_true (commit_names t cs j c)
            (λ nj. absurd (omega (arith, e.above j (before j m2 nj)))))))
            ∙ sym (cond-true (commit_names t cs k c) (commit_picture k (picture_at t cs (suc k) c) ∷ shown t cs c k) (shown t cs c k) nm);
      }

  shows_other : (d : ℕ) → (c ≡ d → ⊥) → Shows t cs (l ∷ ls) d
  unfolding latched_at
  shows_other d ne =
      let e = T.shows d in
      let apart : object_id Crtc l.crtc ≡ d → ⊥ = (λ same. ne (sym at_c ∙ same)) in
      record {
        at = e.at;
        within = e.within;
        below = λ j m nj. latch_more l ls j d (e.below j m nj);
        above = λ j y. ⊎_elim (λ (same : (l.commit ≡ j) × (object_id Crtc l.crtc ≡ d)). absurd (apart same.1)) (λ old. e.above j old)
            (latch_cases l ls j d y);
        says = cond-false (object_id Crtc l.crtc == d) (commit_picture l.commit l.picture ∷ latched_at ls d) (latched_at ls d)
            (ne_eqb (object_id Crtc l.crtc) d apart) ∙ e.says;
      }

  pub latch_kept : (read None go c ≡ Some k → ⊥) → Tail t cs ms sh go (l ∷ ls)
  latch_kept waits =
      tail_with T ms go (l ∷ ls) refl
      (record {
        claimed = T.marks.claimed;
        written = T.marks.written;
        flushed = T.marks.flushed;
        done = T.marks.done;
        latched = λ j d e.
            ⊎_elim (λ (same : (l.commit ≡ j) × (object_id Crtc l.crtc ≡ d)).
            (λ i. has_pair ms.flushed ((sym same.0 ∙ of_k) i) ((sym same.1 ∙ at_c) i)) ∙ F) (λ old. T.marks.latched j d old)
            (latch_cases l ls j d e);
        go_is = λ j d e.
            let p = T.marks.go_is j d e in
            record {
              flushed = p.flushed;
              unlatched = false_from_ne_true _ (λ y.
                  ⊎_elim
                  (λ (same : (l.commit ≡ j) × (object_id Crtc l.crtc ≡ d)). waits
                  (ap (read None go) (sym at_c ∙ same.1) ∙ e ∙ ap Some (sym same.0 ∙ of_k)))
                  (λ old. both_bools _ old p.unlatched)
                  (latch_cases l ls j d y));
            };
        clean_done = T.marks.clean_done;
        cleaned = λ j d e id nm. latch_more l ls j d (T.marks.cleaned j d e id nm);
      })
      (record { settled = λ a j o e m ob ta tj. more_latched t cs ms.done l ls j o (T.order.settled a j o e m ob ta tj) })
      (λ d. ⊎_elim (λ (same : c ≡ d). subst (Shows t cs (l ∷ ls)) same shows_now) (λ ne. shows_other d ne) (cases_eq c d))

-- Flush

pub flushed_kept : {t : Topology} {cs : List Commit} {ms : Marks} {sh : Registers} {go : List (ℕ × Option ℕ)} {ls : List Latch}
    (T : Tail t cs ms sh go ls) (k c : ℕ)
    → IsIn c (ids_of t Crtc) → IsWritten t cs ms.written k → commit_names t cs k c ≡ true
    → Tail t cs (record ms { flushed = (k, c) ∷ ms.flushed }) sh go ls
flushed_kept {t} {cs} {ms} {sh} {go} {ls} T k c is_crtc written names =
    tail_with T _ go ls refl
    (record {
      claimed = T.marks.claimed;
      written = T.marks.written;
      flushed = λ j d e.
          ⊎_elim
          (λ (same : (k ≡ j) × (c ≡ d)).
          subst (λ z. WasFlushed t cs ms.written z d) same.0
          (subst (λ z. WasFlushed t cs ms.written k z) same.1 (record { is_crtc = is_crtc; names = names; written = written })))
          (λ old. T.marks.flushed j d old)
          (pair_cases k c ms.flushed j d e);
      done = T.marks.done;
      latched = λ j d e. pair_more k c ms.flushed j d (T.marks.latched j d e);
      go_is = λ j d e. let p = T.marks.go_is j d e in record { flushed = pair_more k c ms.flushed j d p.flushed; unlatched = p.unlatched };
      clean_done = T.marks.clean_done;
      cleaned = T.marks.cleaned;
    })
    (record { settled = T.order.settled }) T.shows

-- other vblanks are waited for
with_go : {t : Topology} {cs : List Commit} {ms : Marks} {sh : Registers} {go : List (ℕ × Option ℕ)} {ls : List Latch}
    (T : Tail t cs ms sh go ls) (now : List (ℕ × Option ℕ))
    → ((j d : ℕ) → read None now d ≡ Some j → IsPending ms.flushed ls j d) → Tail t cs ms sh now ls
with_go {t} {cs} {ms} {sh} {go} {ls} T now go_is =
    let was = T.marks in
    tail_with T ms now ls refl
    (record {
      claimed = was.claimed;
      written = was.written;
      flushed = was.flushed;
      done = was.done;
      latched = was.latched;
      go_is = go_is;
      clean_done = was.clean_done;
      cleaned = was.cleaned;
    }) T.order T.shows

pub go_kept : {t : Topology} {cs : List Commit} {ms : Marks} {sh : Registers} {go : List (ℕ × Option ℕ)} {ls : List Latch}
    (T : Tail t cs ms sh go ls) (k c : ℕ)
    → has_pair ms.flushed k c ≡ true → has_latched ls k c ≡ false → Tail t cs ms sh ((c, Some k) ∷ go) ls
go_kept {t} {cs} {ms} {sh} {go} {ls} T k c F un =
    with_go T ((c, Some k) ∷ go)
    (λ j d e.
    ⊎_elim
    (λ (same : c ≡ d).
    let is : Some k ≡ Some j = sym (read_same None go c (Some k)) ∙ ap (read None ((c, Some k) ∷ go)) same ∙ e in
    let jk : k ≡ j = cc in
    record {
      flushed = (λ i. has_pair ms.flushed (sym jk i) (sym same i)) ∙ F;
      unlatched = (λ i. has_latched ls (sym jk i) (sym same i)) ∙
          un;
    })
    (λ ne. T.marks.go_is j d (sym (read_other None go c d (Some k) ne) ∙ e))
    (cases_eq c d))

-- Vertical blankings

pub go_cleared : {t : Topology} {cs : List Commit} {ms : Marks} {sh : Registers} {go : List (ℕ × Option ℕ)} {ls : List Latch}
    (T : Tail t cs ms sh go ls) (c : ℕ) → Tail t cs ms sh ((c, None) ∷ go) ls
go_cleared {t} {cs} {ms} {sh} {go} {ls} T c =
    with_go T ((c, None) ∷ go)
    (λ j d e.
    ⊎_elim
    (λ (same : c ≡ d). let is : None ≡ Some j = sym (read_same None go c None) ∙ ap (read None ((c, None) ∷ go)) same ∙ e in absurd cc)
    (λ ne. T.marks.go_is j d (sym (read_other None go c d None ne) ∙ e))
    (cases_eq c d))
