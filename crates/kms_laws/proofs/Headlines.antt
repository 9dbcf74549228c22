-- The headline, from what holds of each machine that a history reaches.
use Rattle.std.proofs.Common.{◌≡◌, ℕ, zero, suc, ◌+◌, ◌<◌, ◌≤◌, List, [], ◌∷◌, ◌++◌, length, map, Bool, true, false, ◌==◌, refl, sym, ap}
use Rattle.std.proofs.Common.{◌∙◌, subst, arith, inl, inr, ⊎_elim}
use Rattle.std.specs.Prelude.{if◌then◌else◌, filter, reverse}
use Rattle.std.specs.List.{All, AllByRecursion, list_all, range_with_len}
use Rattle.std.proofs.lemmas.Bool.{cases_Bool, cases_lt, eq-eqb, eqb-true, ne_eqb, false_from_ne_true}
use Rattle.std.proofs.lemmas.List.{map-append, reverse-append}
use Rattle.std.proofs.lemmas.List.Elements.{All-append, filter-append}
use Rattle.kms_model.specs.declared.objects.Kind.TheVariants.{Crtc}
use Rattle.kms_model.specs.declared.objects.Topology.{Topology}
use Rattle.kms_model.specs.declared.replies.Step.{Step}
use Rattle.kms_model.specs.declared.runs.Latch.{Latch}
use Rattle.kms_model.specs.declared.scripts.Script.{Script}
use Rattle.kms_model.specs.Device.Objects.{ids_of, object_id}
use Rattle.kms_model.specs.Device.Serial.{show}
use Rattle.kms_model.specs.Headline.{CommitPicture, Headline, IsPrefixOf, StandsAtPlace, history_journal, latched_pictures, shown_pictures}
use Rattle.kms_model.specs.Machine.Commits.{commit_names, is_cleaned}
use Rattle.kms_model.specs.Machine.Histories.{at, commit_numbers, is_history}
use Rattle.kms_model.specs.Machine.State.{Commit, Machine}
use Rattle.kms_model.specs.Device.World.{start}
use Rattle.kms_model.proofs.Guards.{drained_guards}
use Rattle.kms_model.proofs.SoundStart.{start_is_lawful}
use Rattle.kms_model.proofs.Items.{IsIn, ids-has, list_all-at}
use Rattle.kms_laws.specs.Laws.{HasSerialWorld}
use Rattle.kms_laws.proofs.Composed.{IsShowing}
use Rattle.kms_laws.proofs.FramesShown.{frames-follow, frames-same}
use Rattle.kms_laws.proofs.Invariants.{commit_picture, latched_at, picture_at, shown}
use Rattle.kms_laws.proofs.Present.{pair_of, reverse_more, reverse_or}
use Rattle.kms_laws.proofs.Steps.{Holds, IsPlainScript, history_kept}
use Rattle.kms_laws.proofs.Tails.{shown_same}
use Rattle.kms_laws.proofs.Basics.{both_bools}

-- The latches of a CRTC by its index and by its id

pair_of_latch : Latch → CommitPicture
pair_of_latch l = commit_picture l.commit l.picture

same_ids : (a b : ℕ) → (object_id Crtc a == object_id Crtc b) ≡ (a == b)
same_ids a b =
    ⊎_elim
    (λ e. eq-eqb (object_id Crtc a) (object_id Crtc b) (ap (object_id Crtc) (eqb-true a b e)) ∙ sym e)
    (λ n. ne_eqb (object_id Crtc a) (object_id Crtc b) (λ (same : 100 + a ≡ 100 + b). both_bools (a == b) (eq-eqb a b (omega arith)) n) ∙
    sym n)
    (cases_Bool (a == b))

latched_more : (l : Latch) (ls : List Latch) (c : ℕ) → map pair_of_latch (filter (λ l. l.crtc == c) (reverse (l ∷ ls)))
    ≡ map pair_of_latch (filter (λ l. l.crtc == c) (reverse ls)) ++ (if l.crtc == c then pair_of_latch l ∷ [] else [])
latched_more l ls c =
    ap (λ xs. map pair_of_latch (filter (λ l. l.crtc == c) xs)) (reverse_more l ls)
    ∙ ap (map pair_of_latch) (filter-append (λ l. l.crtc == c) (reverse ls) (l ∷ []))
    ∙ map-append pair_of_latch (filter (λ l. l.crtc == c) (reverse ls)) (filter (λ l. l.crtc == c) (l ∷ []))
    ∙ ap (λ xs. map pair_of_latch (filter (λ l. l.crtc == c) (reverse ls)) ++ xs) (one (l.crtc == c))
  where
    one : (b : Bool) → map pair_of_latch (if b then l ∷ [] else []) ≡ (if b then pair_of_latch l ∷ [] else [])
    one true = refl
    one false = refl

latched-at : (ls : List Latch) (c : ℕ) → map pair_of_latch (filter (λ l. l.crtc == c) (reverse ls))
    ≡ reverse (latched_at ls (object_id Crtc c))
unfolding latched_at pair_of_latch
latched-at [] c = refl
latched-at (l ∷ ls) c =
    latched_more l ls c
    ∙ ap (λ xs. xs ++ (if l.crtc == c then commit_picture l.commit l.picture ∷ [] else [])) (latched-at ls c)
    ∙ reverse_or (l.crtc == c) (commit_picture l.commit l.picture) (latched_at ls (object_id Crtc c))
    ∙ ap (λ b. reverse (if b then commit_picture l.commit l.picture ∷ latched_at ls (object_id Crtc c)
    else latched_at ls (object_id Crtc c))) (sym (same_ids l.crtc c))

-- what is shown so far is the end of what is shown in all, the newest first
shown_more : (t : Topology) (cs : List Commit) (c a b : ℕ) → a ≤ b → (new : List CommitPicture) × (new ++ shown t cs c a ≡ shown t cs c b)
unfolding shown
shown_more t cs c a zero l = let e : a ≡ 0 = omega arith in ([], ap (shown t cs c) e)
shown_more t cs c a (suc b) l =
    ⊎_elim
    (λ (lt : a < suc b). let r = shown_more t cs c a b (omega arith)
    in go (commit_names t cs b c) (commit_picture b (picture_at t cs (suc b) c)) r.0 r.1)
    (λ ge. let e : a ≡ suc b = omega arith in ([], ap (shown t cs c) e))
    (cases_lt a (suc b))
  where
    go : (nm : Bool) (y : CommitPicture) (new : List CommitPicture) → new ++ shown t cs c a ≡ shown t cs c b → (new2 : List CommitPicture)
        × (new2 ++ shown t cs c a ≡ (if nm then y ∷ shown t cs c b else shown t cs c b))
    go true y new e = (y ∷ new, ap (λ z. y ∷ z) e)
    go false y new e = (new, e)

in_order : (s : Script) (m : Machine) → Holds s m → (crtc : ℕ) → crtc < s.topology.crtcs
    → IsPrefixOf (map pair_of_latch (filter (λ l. l.crtc == crtc) (reverse m.records.latches)))
    (map pair_of (show s (reverse m.records.journal) (object_id Crtc crtc)))
in_order s m H crtc l =
    let c = object_id Crtc crtc in
    let e = H.tail.shows c in
    let more = shown_more s.topology m.device.commits c e.at (length m.device.commits) e.within in (
      reverse more.0,
      H.present.is_shown c (ids-has s.topology Crtc crtc l)
          ∙ ap reverse (sym more.1)
          ∙ reverse-append more.0 (shown s.topology m.device.commits c e.at)
          ∙ ap (λ z. reverse z ++ reverse more.0) (sym e.says)
          ∙ ap (λ z. z ++ reverse more.0) (sym (latched-at m.records.latches crtc)),
    )

-- each number of a range
pub range-in : (from n k : ℕ) → from ≤ k → k < from + n → IsIn k (range_with_len from n)
range-in from zero k l m = absurd (omega arith)
range-in from (suc n) k l m =
    ⊎_elim
    (λ (lt : from < k). inr (range-in (from + 1) n k (omega arith) (omega arith)))
    (λ ge. inl (omega arith))
    (cases_lt from k)

abbrev AllClean : Machine → Type 0
AllClean m = (k : ℕ) → IsIn k (commit_numbers m) → is_cleaned m.device k ≡ true

all_of_them : (s : Script) (m : Machine) → Holds s m → AllClean m → (crtc : ℕ) → crtc < s.topology.crtcs
    → map pair_of_latch (filter (λ l. l.crtc == crtc) (reverse m.records.latches))
    ≡ map pair_of (show s (reverse m.records.journal) (object_id Crtc crtc))
all_of_them s m H clean crtc l =
    let c = object_id Crtc crtc in
    let i : IsIn c (ids_of s.topology Crtc) = ids-has s.topology Crtc crtc l in
    let e = H.tail.shows c in
    let all = length m.device.commits in
    latched-at m.records.latches crtc
    ∙ ap reverse (e.says ∙ sym (shown_same s.topology m.device.commits c e.at all e.within
    (λ j l2 m2. false_from_ne_true (commit_names s.topology m.device.commits j c) (λ named.
    absurd (let clean_j = clean j (range-in 0 all j (omega arith) (omega (arith, m2))) in
    let lt = e.above j (H.tail.marks.cleaned j c clean_j i named) in omega arith)))))
    ∙ sym (H.present.is_shown c i)

all_reversed : {A : Type 0} (P : A → Type 0) (xs : List A) → AllByRecursion P xs → All P (reverse xs)
all_reversed P [] all = λ k d l. absurd (omega arith)
all_reversed P (x ∷ xs) all = subst (All P) (sym (reverse_more x xs))
    (All-append P (reverse xs) (x ∷ []) (all_reversed P xs all.1) (one all.0))
  where
    one : P x → All P (x ∷ [])
    one holds zero d l = holds
    one holds (suc k) d l = absurd (omega arith)

pub serial_world : (s : Script) (h : List Step) → IsPlainScript s → is_history s h ≡ true → HasSerialWorld s h
serial_world s h plain is = let H = history_kept s h plain is in record { is_serial = H.present.is_serial; is_lawful = H.present.lawful }

pub headline : (s : Script) (h : List Step) → IsPlainScript s → is_history s h ≡ true → Headline s h
unfolding pair_of_latch
headline s h plain is =
    let H = history_kept s h plain is in
    let starts : IsShowing s.topology (start s.topology) = record { lawful = start_is_lawful s.topology plain.device; framed = tt } in
    let world = serial_world s h plain is in
    record {
      in_order = λ crtc l. in_order s (at s h) H crtc l;
      all_of_them = λ drained crtc l. all_of_them s (at s h) H (drained_guards s (at s h) drained).cleaned crtc l;
      frames_in_order = λ crtc l. let front = in_order s (at s h) H crtc l in (_, frames-follow s h starts world crtc front.0 front.1);
      all_frames = λ drained crtc l. frames-same s h starts world crtc
          (all_of_them s (at s h) H (drained_guards s (at s h) drained).cleaned crtc l);
      verdicts = all_reversed (StandsAtPlace s (history_journal s h)) (at s h).records.replies H.replies;
    }

pub all_shown : (s : Script) (h : List Step) → IsPlainScript s → is_history s h ≡ true
    → list_all (is_cleaned (at s h).device) (commit_numbers (at s h)) ≡ true
    → (crtc : ℕ) → crtc < s.topology.crtcs → latched_pictures s h crtc ≡ shown_pictures s (history_journal s h) crtc
unfolding pair_of_latch
all_shown s h plain is clean crtc l = all_of_them s (at s h) (history_kept s h plain is)
    (λ k is. list_all-at (is_cleaned (at s h).device) (commit_numbers (at s h)) k clean is) crtc l
