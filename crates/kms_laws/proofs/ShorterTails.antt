-- Each step of a commit's tail leaves less to do, and at the start there is little.
use Rattle.std.proofs.Common.{◌≡◌, ℕ, suc, ◌+◌, ◌<◌, ◌≤◌, List, [], ◌∷◌, length, Bool, true, false, not, ◌&&◌, Option, Some, None, refl}
use Rattle.std.proofs.Common.{sym, ap, ◌∙◌, subst, arith, inl, inr, length-append}
use Rattle.std.specs.Prelude.{if◌then◌else◌, filter}
use Rattle.std.proofs.lemmas.Bool.{and_from, and_parts, false≢true, not-true}
use Rattle.std.proofs.lemmas.List.FromFn.{length-map-range_with_len}
use Rattle.kms_model.specs.Firsts.{one_if}
use Rattle.kms_model.specs.declared.objects.Kind.{Kind}
use Rattle.kms_model.specs.declared.objects.Kind.TheVariants.{Crtc, Plane}
use Rattle.kms_model.specs.declared.objects.Topology.{Topology}
use Rattle.kms_model.specs.declared.replies.Step.{Step}
use Rattle.kms_model.specs.declared.replies.Step.TheVariants.{Claim, Cleanup, Flush, HwDone, Make, Signal, Swap, Vblank, Write}
use Rattle.kms_model.specs.declared.runs.Latch.{Latch}
use Rattle.kms_model.specs.declared.scripts.Request.{Request}
use Rattle.kms_model.specs.declared.scripts.Script.{Script}
use Rattle.kms_model.specs.Device.Execution.{execute}
use Rattle.kms_model.specs.Device.Objects.{ids_of, object_id}
use Rattle.kms_model.specs.Machine.Commits.{commit_names, commit_touches, has_latched, has_number, has_pair, registered}
use Rattle.kms_model.specs.Machine.Effects.{answers, claims, counts_vblank, goes_on, next, signals, writes}
use Rattle.kms_model.specs.Machine.Histories.{at, is_history, legal}
use Rattle.kms_model.specs.Machine.State.{Commit, Machine, Marks, count_at, go_at}
use Rattle.kms_model.specs.Machine.Steps.{may_claim}
use Rattle.kms_model.proofs.Guards.{IsFlush, IsWrite, claim_guards}
use Rattle.kms_model.proofs.Items.{IsIn, filter-same}
use Rattle.kms_model.proofs.TouchedLemmas.{HasFewObjects}
use Rattle.kms_model.proofs.CommitFacts.{touches_old}
use Rattle.kms_laws.specs.TailsLeft.{LeavesLess, commit_of_step, steps_left, tail_left, unflushed, unlatched, unwritten}
use Rattle.kms_laws.proofs.Basics.{both_bools, number_more, number_now, pair_more, pair_now}
use Rattle.kms_laws.proofs.EachStep.{Carries, by_bool, by_fence, by_latch, by_two, each_step, latched_as, made_as, swapped_as}
use Rattle.kms_laws.proofs.Numbered.{names_old}
use Rattle.kms_laws.proofs.Objects.{crtc_index}
use Rattle.kms_laws.proofs.Steps.{Holds, IsPlainScript, flushed_at, history_kept}
use Rattle.kms_laws.proofs.Tails.{latch_more, latch_now}
use Rattle.kms_laws.proofs.Traversal.{commit_of, latch_of}

-- Lists of what passes a test

pub filter-most : {A : Type 0} (p : A → Bool) (xs : List A) → length (filter p xs) ≤ length xs
filter-most p [] = omega arith
filter-most {A} p (x ∷ xs) = by_test (p x) (filter-most p xs)
  where
    by_test : (b : Bool) → length (filter p xs) ≤ length xs → length (if b then x ∷ filter p xs else filter p xs) ≤ suc (length xs)
    by_test true l = omega (arith, l)
    by_test false l = omega (arith, l)

pub fewer : {A : Type 0} (p q : A → Bool) (xs : List A) → ((x : A) → q x ≡ true → p x ≡ true) → length (filter q xs) ≤ length (filter p xs)
fewer p q [] h = omega arith
fewer {A} p q (x ∷ xs) h = by_test (p x) (q x) (h x) (fewer p q xs h)
  where
    by_test : (a b : Bool) → (b ≡ true → a ≡ true) → length (filter q xs) ≤ length (filter p xs)
        → length (if b then x ∷ filter q xs else filter q xs) ≤ length (if a then x ∷ filter p xs else filter p xs)
    by_test true true e l = omega (arith, l)
    by_test true false e l = omega (arith, l)
    by_test false true e l = absurd (false≢true (e refl))
    by_test false false e l = l

pub one-fewer : {A : Type 0} (p q : A → Bool) (xs : List A) (y : A) → IsIn y xs → p y ≡ true → q y ≡ false
    → ((x : A) → q x ≡ true → p x ≡ true) → length (filter q xs) + 1 ≤ length (filter p xs)
one-fewer p q [] y is yes_p no_q h = absurd is
one-fewer {A} p q (x ∷ xs) y (inl same) yes_p no_q h = by_test (p x) (q x) (ap p same ∙ yes_p) (ap q same ∙ no_q) (fewer p q xs h)
  where
    by_test : (a b : Bool) → a ≡ true → b ≡ false → length (filter q xs) ≤ length (filter p xs)
        → length (if b then x ∷ filter q xs else filter q xs) + 1 ≤ length (if a then x ∷ filter p xs else filter p xs)
    by_test true false e f l = omega (arith, l)
    by_test true true e f l = absurd (false≢true (sym f))
    by_test false b e f l = absurd (false≢true e)
one-fewer {A} p q (x ∷ xs) y (inr rest) yes_p no_q h = by_test (p x) (q x) (h x) (one-fewer p q xs y rest yes_p no_q h)
  where
    by_test : (a b : Bool) → (b ≡ true → a ≡ true) → length (filter q xs) + 1 ≤ length (filter p xs)
        → length (if b then x ∷ filter q xs else filter q xs) + 1 ≤ length (if a then x ∷ filter p xs else filter p xs)
    by_test true true e l = omega (arith, l)
    by_test true false e l = omega (arith, l)
    by_test false true e l = absurd (false≢true (e refl))
    by_test false false e l = l

-- Marks

one_if-most : (b : Bool) → one_if b ≤ 1
one_if-most true = omega arith
one_if-most false = omega arith

number-fewer : (x : ℕ) (xs : List ℕ) (k : ℕ) → one_if (not (has_number (x ∷ xs) k)) ≤ one_if (not (has_number xs k))
number-fewer x xs k = by_test (has_number xs k) (has_number (x ∷ xs) k) (number_more x xs k)
  where
    by_test : (a b : Bool) → (a ≡ true → b ≡ true) → one_if (not b) ≤ one_if (not a)
    by_test true true e = omega arith
    by_test true false e = absurd (false≢true (e refl))
    by_test false b e = one_if-most (not b)

number-less : (x : ℕ) (xs : List ℕ) → has_number xs x ≡ false → one_if (not (has_number (x ∷ xs) x)) + 1 ≤ one_if (not (has_number xs x))
number-less x xs fresh = by_test (has_number xs x) (has_number (x ∷ xs) x) fresh (number_now x xs)
  where
    by_test : (a b : Bool) → a ≡ false → b ≡ true → one_if (not b) + 1 ≤ one_if (not a)
    by_test false true e f = omega arith
    by_test true b e f = absurd (false≢true (sym e))
    by_test false false e f = absurd (false≢true f)

-- what does not pass with one pair more did not pass before
still-without : (a b c : Bool) → (b ≡ true → c ≡ true) → (a && not c) ≡ true → (a && not b) ≡ true
still-without a true c e h = absurd (both_bools c (e refl) (not-true c (and_parts a _ h).1))
still-without a false c e h = and_from a true (and_parts a _ h).0 refl

without : (a b : Bool) → b ≡ true → (a && not b) ≡ false
without true true e = refl
without false true e = refl
without a false e = absurd (false≢true e)

module _ (t : Topology) (cs : List Commit) (ms : Marks) (ls : List Latch) where
  written-fewer : (j o k : ℕ) → length (unwritten t cs (record ms { written = (j, o) ∷ ms.written }) k) ≤ length (unwritten t cs ms k)
  written-fewer j o k =
      fewer (λ object. commit_touches t cs k object && not (has_pair ms.written k object))
      (λ object. commit_touches t cs k object && not (has_pair ((j, o) ∷ ms.written) k object)) (registered t)
      (λ x h. still-without (commit_touches t cs k x) (has_pair ms.written k x) (has_pair ((j, o) ∷ ms.written) k x)
      (pair_more j o ms.written k x) h)

  written-less : (k o : ℕ) → IsIn o (registered t) → commit_touches t cs k o ≡ true → has_pair ms.written k o ≡ false
      → length (unwritten t cs (record ms { written = (k, o) ∷ ms.written }) k) + 1 ≤ length (unwritten t cs ms k)
  written-less k o is touch fresh =
      one-fewer (λ object. commit_touches t cs k object && not (has_pair ms.written k object))
      (λ object. commit_touches t cs k object && not (has_pair ((k, o) ∷ ms.written) k object)) (registered t) o is
      (and_from _ _ touch (ap not fresh)) (without (commit_touches t cs k o) (has_pair ((k, o) ∷ ms.written) k o) (pair_now k o ms.written))
      (λ x h. still-without (commit_touches t cs k x) (has_pair ms.written k x) (has_pair ((k, o) ∷ ms.written) k x)
      (pair_more k o ms.written k x) h)

  flushed-fewer : (j c k : ℕ) → length (unflushed t cs (record ms { flushed = (j, c) ∷ ms.flushed }) k) ≤ length (unflushed t cs ms k)
  flushed-fewer j c k =
      fewer (λ crtc. commit_names t cs k crtc && not (has_pair ms.flushed k crtc))
      (λ crtc. commit_names t cs k crtc && not (has_pair ((j, c) ∷ ms.flushed) k crtc)) (ids_of t Crtc)
      (λ x h. still-without (commit_names t cs k x) (has_pair ms.flushed k x) (has_pair ((j, c) ∷ ms.flushed) k x)
      (pair_more j c ms.flushed k x) h)

  flushed-less : (k c : ℕ) → IsIn c (ids_of t Crtc) → commit_names t cs k c ≡ true → has_pair ms.flushed k c ≡ false
      → length (unflushed t cs (record ms { flushed = (k, c) ∷ ms.flushed }) k) + 1 ≤ length (unflushed t cs ms k)
  flushed-less k c is named fresh =
      one-fewer (λ crtc. commit_names t cs k crtc && not (has_pair ms.flushed k crtc))
      (λ crtc. commit_names t cs k crtc && not (has_pair ((k, c) ∷ ms.flushed) k crtc)) (ids_of t Crtc) c is
      (and_from _ _ named (ap not fresh)) (without (commit_names t cs k c) (has_pair ((k, c) ∷ ms.flushed) k c) (pair_now k c ms.flushed))
      (λ x h. still-without (commit_names t cs k x) (has_pair ms.flushed k x) (has_pair ((k, c) ∷ ms.flushed) k x)
      (pair_more k c ms.flushed k x) h)

  latched-fewer : (l : Latch) (k : ℕ) → length (unlatched t cs (l ∷ ls) k) ≤ length (unlatched t cs ls k)
  latched-fewer l k =
      fewer (λ crtc. commit_names t cs k crtc && not (has_latched ls k crtc))
      (λ crtc. commit_names t cs k crtc && not (has_latched (l ∷ ls) k crtc)) (ids_of t Crtc)
      (λ x h. still-without (commit_names t cs k x) (has_latched ls k x) (has_latched (l ∷ ls) k x) (latch_more l ls k x) h)

  latched-less : (l : Latch) (k c : ℕ) → l.commit ≡ k → object_id Crtc l.crtc ≡ c → IsIn c (ids_of t Crtc) → commit_names t cs k c ≡ true
      → has_latched ls k c ≡ false → length (unlatched t cs (l ∷ ls) k) + 1 ≤ length (unlatched t cs ls k)
  latched-less l k c of_k at_c is named fresh =
      one-fewer (λ crtc. commit_names t cs k crtc && not (has_latched ls k crtc))
      (λ crtc. commit_names t cs k crtc && not (has_latched (l ∷ ls) k crtc)) (ids_of t Crtc) c is
      (and_from _ _ named (ap not fresh)) (without (commit_names t cs k c) (has_latched (l ∷ ls) k c) (latch_now l ls k c of_k at_c))
      (λ x h. still-without (commit_names t cs k x) (has_latched ls k x) (has_latched (l ∷ ls) k x) (latch_more l ls k x) h)

  -- a commit more leaves the others as they are
  swapped-same : (x : Commit) (k : ℕ) → k < length cs → steps_left t (x ∷ cs) ms ls k ≡ steps_left t cs ms ls k
  swapped-same x k old =
      let w = filter-same (λ object. commit_touches t (x ∷ cs) k object && not (has_pair ms.written k object))
      (λ object. commit_touches t cs k object && not (has_pair ms.written k object)) (registered t)
      (λ o is. ap (λ b. b && not (has_pair ms.written k o)) (touches_old t x cs k o old)) in
      let f = filter-same (λ crtc. commit_names t (x ∷ cs) k crtc && not (has_pair ms.flushed k crtc))
      (λ crtc. commit_names t cs k crtc && not (has_pair ms.flushed k crtc)) (ids_of t Crtc)
      (λ c is. ap (λ b. b && not (has_pair ms.flushed k c)) (names_old t x cs k c old)) in
      let l = filter-same (λ crtc. commit_names t (x ∷ cs) k crtc && not (has_latched ls k crtc))
      (λ crtc. commit_names t cs k crtc && not (has_latched ls k crtc)) (ids_of t Crtc)
      (λ c is. ap (λ b. b && not (has_latched ls k c)) (names_old t x cs k c old)) in
      (λ i. one_if (not (has_number ms.claimed k))
      + (length (w i) + (length (f i) + (one_if (not (has_number ms.done k))
      + (length (l i) + one_if (not (has_number ms.cleaned k)))))))

-- At most 31

pub tails_short : (t : Topology) (m : Machine) (k : ℕ) → HasFewObjects t → tail_left t m k ≤ 31
tails_short t m k few =
    let w = filter-most (λ object. commit_touches t m.device.commits k object && not (has_pair m.device.marks.written k object))
    (registered t) in
    let f = filter-most (λ crtc. commit_names t m.device.commits k crtc && not (has_pair m.device.marks.flushed k crtc)) (ids_of t Crtc) in
    let l = filter-most (λ crtc. commit_names t m.device.commits k crtc && not (has_latched m.records.latches k crtc)) (ids_of t Crtc) in
    let a = one_if-most (not (has_number m.device.marks.claimed k)) in
    let b = one_if-most (not (has_number m.device.marks.done k)) in
    let c = one_if-most (not (has_number m.device.marks.cleaned k)) in
    let crtcs : length (ids_of t Crtc) ≡ t.crtcs = length-map-range_with_len (object_id Crtc) 0 t.crtcs in
    let planes : length (ids_of t Plane) ≡ length t.planes = length-map-range_with_len (object_id Plane) 0 (length t.planes) in
    let both : length (registered t) ≡ length (ids_of t Crtc) + length (ids_of t Plane) = length-append (ids_of t Crtc) (ids_of t Plane) in
    omega (arith, w, f, l, a, b, c, crtcs, planes, both, few.crtcs, few.planes)

-- Steps

module _ (s : Script) (m : Machine) (H : Holds s m) where
  abbrev Lowers : Step → Machine → Type 0
  Lowers step m2 = (k : ℕ) → k < length m.device.commits → LeavesLess s.topology m m2 step k

  -- a step of a commit's tail makes nothing more to do, and takes one of its own
  takes_one : (j : ℕ) (step : Step) (m2 : Machine) → commit_of_step m step ≡ Some j
      → ((k : ℕ) → tail_left s.topology m2 k ≤ tail_left s.topology m k) → tail_left s.topology m2 j < tail_left s.topology m j
      → Lowers step m2
  takes_one j step m2 of no_more less k old = record {
    no_more = no_more k;
    less = λ e. let is : Some j ≡ Some k = sym of ∙ e in let same : j ≡ k = cc
        in subst (λ z. tail_left s.topology m2 z < tail_left s.topology m z) same less;
  }

  swap_case : (client : ℕ) (r : Request) (b w : Bool) → Lowers (Swap client) (swapped_as s.topology b w m client r)
  swap_case client r b w k old = by_two (λ b w. LeavesLess s.topology m (swapped_as s.topology b w m client r) (Swap client) k)
      (now true true refl) (now true false refl) (now false true refl) (now false false refl) b w
    where
      now : (b w : Bool) → tail_left s.topology (swapped_as s.topology b w m client r) k
          ≡ steps_left s.topology (commit_of m client r ∷ m.device.commits) m.device.marks m.records.latches k
          → LeavesLess s.topology m (swapped_as s.topology b w m client r) (Swap client) k
      now b w is = record {
        no_more = (let a = swapped-same s.topology m.device.commits m.device.marks m.records.latches (commit_of m client r) k old
            in omega (arith, is, a));
        less = λ e. absurd cc;
      }

  claim_case : (j : ℕ) → may_claim s.topology m j ≡ true → Lowers (Claim j) (claims m j)
  claim_case j h =
      takes_one j (Claim j) (claims m j) refl (λ k. (let a = number-fewer j m.device.marks.claimed k in omega (arith, a)))
      (let a = number-less j m.device.marks.claimed (claim_guards s.topology m j h).unclaimed in omega (arith, a))

  write_case : (j : ℕ) (kind : Kind) (index : ℕ) → IsWrite s.topology m.device j (object_id kind index)
      → Lowers (Write j kind index) (writes s.topology m j (object_id kind index))
  write_case j kind index found =
      takes_one j (Write j kind index) (writes s.topology m j (object_id kind index)) refl
      (λ k. (let a = written-fewer s.topology m.device.commits m.device.marks m.records.latches j (object_id kind index) k
      in omega (arith, a)))
      (let a = written-less s.topology m.device.commits m.device.marks m.records.latches j (object_id kind index) found.is_registered
      found.touches found.fresh in omega (arith, a))

  abbrev after_flush : ℕ → ℕ → Bool → Option ℕ → Machine
  after_flush j c b o = latched_as s.topology b o (flushed_at m j c) j c (count_at m.device c)

  abbrev after_blank : ℕ → ℕ → Bool → Option ℕ → Machine
  after_blank j c b o = latched_as s.topology b o (counts_vblank m c) j c (count_at m.device c + 1)

  -- a flush, which may latch too
  flush_case : (j : ℕ) (kind : Kind) (index : ℕ) → IsFlush s.topology m j (object_id kind index) → (m2 : Machine) → m2.device.commits
      ≡ m.device.commits → m2.device.marks ≡ record m.device.marks { flushed = (j, object_id kind index) ∷ m.device.marks.flushed }
      → ((k : ℕ) → length (unlatched s.topology m.device.commits m2.records.latches k)
      ≤ length (unlatched s.topology m.device.commits m.records.latches k)) → Lowers (Flush j kind index) m2
  flush_case j kind index f m2 ec em el k old = record {
    no_more = (let a = flushed-fewer s.topology m.device.commits m.device.marks m.records.latches j (object_id kind index) k in let b = el k
        in let c = left k in omega (arith, a, b, c));
    less = λ e.
        let same : j ≡ k = cc in
        subst (λ z. tail_left s.topology m2 z < tail_left s.topology m z) same
        (let a = flushed-less s.topology m.device.commits m.device.marks m.records.latches j (object_id kind index) f.is_crtc f.names
        f.fresh in let b = el j in let c = left j in omega (arith, a, b, c));
  }
    where
      left : (k : ℕ) → tail_left s.topology m2 k ≡ steps_left s.topology m.device.commits
          (record m.device.marks { flushed = (j, object_id kind index) ∷ m.device.marks.flushed }) m2.records.latches k
      left k = (λ i. steps_left s.topology (ec i) (em i) m2.records.latches k)

  flush_latch : (j : ℕ) (kind : Kind) (index : ℕ) → IsFlush s.topology m j (object_id kind index) → (b : Bool) (o : Option ℕ)
      → Lowers (Flush j kind index) (latched_as s.topology b o (flushed_at m j (object_id kind index)) j (object_id kind index)
      (count_at m.device (object_id kind index)))
  flush_latch j kind index f =
      by_latch (λ b o. Lowers (Flush j kind index) (after_flush j (object_id kind index) b o))
      (now (after_flush j (object_id kind index) true None) refl refl refl)
      (λ fence. now (after_flush j (object_id kind index) true (Some fence)) refl refl refl)
      (now (after_flush j (object_id kind index) false None) refl refl refl)
      (λ fence. now (after_flush j (object_id kind index) false (Some fence)) refl refl refl)
    where
      now : (m2 : Machine) → m2.device.commits ≡ m.device.commits → m2.device.marks
          ≡ record m.device.marks { flushed = (j, object_id kind index) ∷ m.device.marks.flushed }
          → m2.records.latches ≡ latch_of s.topology m.device j (object_id kind index) (count_at m.device (object_id kind index))
          ∷ m.records.latches → Lowers (Flush j kind index) m2
      now m2 ec em el =
          flush_case j kind index f m2 ec em
          (λ k. let a = latched-fewer s.topology m.device.commits m.device.marks m.records.latches
          (latch_of s.topology m.device j (object_id kind index) (count_at m.device (object_id kind index))) k in
          let b = ap (λ ls. length (unlatched s.topology m.device.commits ls k)) el in omega (arith, a, b))

  -- a vblank with GO
  blank_case : (kind : Kind) (index j : ℕ) → IsIn (object_id kind index) (ids_of s.topology Crtc) → go_at m.device (object_id kind index)
      ≡ Some j
      → (m2 : Machine) → m2.device.commits ≡ m.device.commits → m2.device.marks ≡ m.device.marks → m2.records.latches
      ≡ latch_of s.topology m.device j (object_id kind index) (count_at m.device (object_id kind index) + 1) ∷ m.records.latches
      → Lowers (Vblank kind index) m2
  blank_case kind index j is g m2 ec em el k old = record {
    no_more = (let a = latched-fewer s.topology m.device.commits m.device.marks m.records.latches l k in let c = left k
        in omega (arith, a, c));
    less = λ e.
        let is_k : Some j ≡ Some k = sym g ∙ e in
        let same : j ≡ k = cc in
        let pending = H.tail.marks.go_is j (object_id kind index) g in
        subst (λ z. tail_left s.topology m2 z < tail_left s.topology m z) same
        (let a = latched-less s.topology m.device.commits m.device.marks m.records.latches l j (object_id kind index) refl
        (crtc_index s.topology (object_id kind index) H.tail.few is) is
        (H.tail.marks.flushed j (object_id kind index) pending.flushed).names pending.unlatched in
        let c = left j in omega (arith, a, c));
  }
    where
      l : Latch
      l = latch_of s.topology m.device j (object_id kind index) (count_at m.device (object_id kind index) + 1)

      left : (k : ℕ) → tail_left s.topology m2 k ≡ steps_left s.topology m.device.commits m.device.marks (l ∷ m.records.latches) k
      left k = (λ i. steps_left s.topology (ec i) (em i) (el i) k)

  blank_latch : (kind : Kind) (index j : ℕ) → IsIn (object_id kind index) (ids_of s.topology Crtc) → go_at m.device (object_id kind index)
      ≡ Some j → (b : Bool) (o : Option ℕ)
      → Lowers (Vblank kind index) (latched_as s.topology b o (counts_vblank m (object_id kind index)) j (object_id kind index)
      (count_at m.device (object_id kind index) + 1))
  blank_latch kind index j is g =
      let now = blank_case kind index j is g in
      by_latch (λ b o. Lowers (Vblank kind index) (after_blank j (object_id kind index) b o))
      (now (after_blank j (object_id kind index) true None) refl refl refl)
      (λ fence. now (after_blank j (object_id kind index) true (Some fence)) refl refl refl)
      (now (after_blank j (object_id kind index) false None) refl refl refl)
      (λ fence. now (after_blank j (object_id kind index) false (Some fence)) refl refl refl)

  count_case : (kind : Kind) (index : ℕ) → go_at m.device (object_id kind index) ≡ None
      → Lowers (Vblank kind index) (counts_vblank m (object_id kind index))
  count_case kind index none k old = record { no_more = omega arith; less = λ e. let bad : None ≡ Some k = sym none ∙ e in absurd cc }

  done_case : (j : ℕ) → has_number m.device.marks.done j ≡ false
      → Lowers (HwDone j) (record m { device = record m.device { marks = record m.device.marks { done = j ∷ m.device.marks.done } } })
  done_case j fresh =
      takes_one j (HwDone j) (record m { device = record m.device { marks = record m.device.marks { done = j ∷ m.device.marks.done } } })
      refl
      (λ k. (let a = number-fewer j m.device.marks.done k in omega (arith, a)))
      (let a = number-less j m.device.marks.done fresh in omega (arith, a))

  clean_case : (j : ℕ) → has_number m.device.marks.cleaned j ≡ false
      → Lowers (Cleanup j) (record m {
        device = record m.device { marks = record m.device.marks { cleaned = j ∷ m.device.marks.cleaned } };
      })
  clean_case j fresh =
      takes_one j (Cleanup j) (record m {
        device = record m.device
            { marks = record m.device.marks { cleaned = j ∷ m.device.marks.cleaned } };
      }) refl
      (λ k. (let a = number-fewer j m.device.marks.cleaned k in omega (arith, a)))
      (let a = number-less j m.device.marks.cleaned fresh in omega (arith, a))

  carries_lower : Carries s m (λ step m2. Lowers step m2)
  carries_lower = record {
    locks = record {
      begins = λ client c e atomic idle k old. record { no_more = omega arith; less = λ e. absurd cc };
      takes = λ client kind index is_there lock free k old. record { no_more = omega arith; less = λ e. absurd cc };
      meets = λ client kind index holder is_there lock held k old. record { no_more = omega arith; less = λ e. absurd cc };
      backs = λ client back k old. record { no_more = omega arith; less = λ e. absurd cc };
      relocks = λ client object asked free k old. record { no_more = omega arith; less = λ e. absurd cc };
      returned = λ client k e clean j old. record { no_more = omega arith; less = λ e. absurd cc };
    };
    answers = record {
      refuses = λ client r e taking may k old. record { no_more = omega arith; less = λ e. absurd cc };
      tests = λ client r e taking may k old. record { no_more = omega arith; less = λ e. absurd cc };
      swaps = λ client r e taking may b w eb ew. swap_case client r b w;
      makes = λ client c e making idle b eb k old.
          by_bool (λ b. LeavesLess s.topology m (made_as b m client (execute s.topology m.device.world client c)) (Make client) k)
          (record { no_more = omega arith; less = λ e. absurd cc }) (record { no_more = omega arith; less = λ e. absurd cc }) b;
      signalled = λ client c e is_signal idle o k old.
          by_fence (λ o. LeavesLess s.topology m (goes_on (signals (answers m client (execute s.topology m.device.world client c).reply) o)
          client) (Signal client) k)
          (record { no_more = omega arith; less = λ e. absurd cc }) (λ fence. record { no_more = omega arith; less = λ e. absurd cc }) o;
      read_none = λ client c e is_wait idle none k old. record { no_more = omega arith; less = λ e. absurd cc };
      read_one = λ client c e is_wait idle event events some k old. record { no_more = omega arith; less = λ e. absurd cc };
    };
    tails = record {
      claimed = λ k h. claim_case k h;
      written = λ k kind index found. write_case k kind index found;
      waits = λ k kind index written found. flush_case k kind index found
          (record (flushed_at m k (object_id kind index))
          { device = record (flushed_at m k (object_id kind index)).device { go = (object_id kind index, Some k) ∷ m.device.go } }) refl
          refl (λ j. omega arith);
      flushed = λ k kind index written found b o eb eo. flush_latch k kind index found b o;
      done = λ k a b c d. done_case k d;
      counted = λ kind index is none. count_case kind index none;
      blanked = λ kind index k is some b o eb eo. blank_latch kind index k is some b o;
      cleaned = λ k a b c. clean_case k c;
    };
    stalled = λ h k old. record { no_more = omega arith; less = λ e. absurd cc };
  }

  pub step_lowers : (step : Step) → legal s m step ≡ true → (k : ℕ) → k < length m.device.commits
      → LeavesLess s.topology m (next s m step) step k
  step_lowers step h = each_step s m (λ step m2. Lowers step m2) carries_lower step h

pub tails_shorter : (s : Script) (h : List Step) → IsPlainScript s → is_history s h ≡ true → (step : Step) → legal s (at s h) step ≡ true
    → (k : ℕ) → k < length (at s h).device.commits → LeavesLess s.topology (at s h) (next s (at s h) step) step k
tails_shorter s h plain is step legal_step = step_lowers s (at s h) (history_kept s h plain is) step legal_step
