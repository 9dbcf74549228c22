-- The first step of a commit's tail that is legal.
use Rattle.std.proofs.Common.{◌≡◌, ℕ, ◌<◌, List, [], ◌∷◌, ◌++◌, map, cond, Option, Some, Bool, true, false, refl, sym, ap, ◌∙◌, arith, inl}
use Rattle.std.proofs.Common.{All}
use Rattle.std.specs.Prelude.{find, nat_le}
use Rattle.std.specs.List.{range_with_len}
use Rattle.std.specs.Option.{option_map, option_or, option_to_list}
use Rattle.std.proofs.lemmas.Bool.{and_from, le-leb, ltb-true}
use Rattle.std.proofs.lemmas.List.Elements.{All-append, All-cons, All-head, All-nil, All-tail}
use Rattle.std.proofs.lemmas.List.Folds.{find-append}
use Rattle.kms_model.specs.declared.objects.Kind.{Kind}
use Rattle.kms_model.specs.declared.objects.Kind.TheVariants.{Crtc, Plane}
use Rattle.kms_model.specs.declared.objects.ObjId.{ObjId}
use Rattle.kms_model.specs.declared.objects.Topology.{Topology}
use Rattle.kms_model.specs.declared.replies.Step.{Step}
use Rattle.kms_model.specs.declared.replies.Step.TheVariants as step
use Rattle.kms_model.specs.Device.Objects.{count_of, first_id, index_of, kind_of, object_id}
use Rattle.kms_model.specs.Machine.Histories.{for_each}
use Rattle.kms_model.specs.Script.WellFormed.{IsWellFormed}
use Rattle.kms_model.proofs.Guards.{legal_guards}
use Rattle.kms_model.proofs.KindsOfIds.{index_of-object, kind_of-object}
use Rattle.kms_model.proofs.TouchedLemmas.{few_objects, few_of}
use Rattle.kms_model.proofs.Facts.{cond_mapped}
use Rattle.kms_core.specs.Run.{Run, machine}
use Rattle.kms_core.specs.Work.{write_step}
use Rattle.kms_device.specs.Steps.{is_legal, may_write, tail_of}
use Rattle.kms_device.proofs.Turning.{ArePlainOf, IsOf, IsPlain}

-- By kinds

mapped : {A : Type 0} (p : Step → Bool) (f : A → Step) (xs : List A) → find p (map f xs) ≡ option_map f (find (λ x. p (f x)) xs)
mapped p f [] = refl
mapped p f (x ∷ xs) = ap (λ o. cond (p (f x)) (Some (f x)) o) (mapped p f xs) ∙ cond_mapped f (p (f x)) x (find (λ y. p (f y)) xs)

-- the first step, by what is found of each kind of steps
abbrev pub told : Run → ℕ → Option ℕ → Option ℕ → Option ℕ → Option Step
told r k crtc plane flush =
    option_or (option_map (step.Write k Crtc) crtc)
    (option_or (option_map (step.Write k Plane) plane)
    (option_or (option_map (step.Flush k Crtc) flush) (find (is_legal r) (step.HwDone k ∷ step.Cleanup k ∷ []))))

pub first_told : (r : Run) (k : ℕ) (crtc plane flush : Option ℕ)
    → crtc ≡ find (λ i. is_legal r (step.Write k Crtc i)) (range_with_len 0 r.script.topology.crtcs)
    → plane ≡ find (λ i. is_legal r (step.Write k Plane i)) (range_with_len 0 (count_of r.script.topology Plane))
    → flush ≡ find (λ i. is_legal r (step.Flush k Crtc i)) (range_with_len 0 r.script.topology.crtcs)
    → told r k crtc plane flush ≡ find (is_legal r) (tail_of r.script.topology k)
first_told r k crtc plane flush ec ep ef =
    let t = r.script.topology in
    let p = is_legal r in
    let crtcs = for_each t Crtc (λ kind index. step.Write k kind index) in
    let planes = for_each t Plane (λ kind index. step.Write k kind index) in
    let flushes = for_each t Crtc (λ kind index. step.Flush k kind index) in
    let ends = step.HwDone k ∷ step.Cleanup k ∷ [] in
    let of_flushes : option_or (option_map (step.Flush k Crtc) flush) (find p ends) ≡ find p (flushes ++ ends) =
    ap (λ o. option_or o (find p ends)) (ap (option_map (step.Flush k Crtc)) ef ∙ sym
    (mapped p (step.Flush k Crtc) (range_with_len 0 t.crtcs)))
    ∙ sym (find-append p flushes ends) in
    let of_planes : option_or (option_map (step.Write k Plane) plane) (option_or (option_map (step.Flush k Crtc) flush) (find p ends))
    ≡ find p (planes ++ (flushes ++ ends)) =
    (λ i. option_or ((ap (option_map (step.Write k Plane)) ep ∙ sym (mapped p (step.Write k Plane) (range_with_len 0 (count_of t Plane))))
    i) (of_flushes i))
    ∙ sym (find-append p planes (flushes ++ ends)) in
    (λ i. option_or ((ap (option_map (step.Write k Crtc)) ec ∙ sym (mapped p (step.Write k Crtc) (range_with_len 0 t.crtcs))) i)
    (of_planes i))
    ∙ sym (find-append p crtcs (planes ++ (flushes ++ ends)))

-- Whose the steps are

-- what holds of each step that a worker may do holds of the one that is found
pub found_of : (P : Step → Type 0) (p : Step → Bool) (xs : List Step) → All P xs → All P (option_to_list (find p xs))
found_of P p [] all = All-nil P
found_of P p (x ∷ xs) all = first (p x) (found_of P p xs (All-tail P x xs all)) where
  first : (b : Bool) → All P (option_to_list (find p xs)) → All P (option_to_list (cond b (Some x) (find p xs)))
  first true rest = All-cons P x [] (All-head P x xs all) (All-nil P)
  first false rest = rest

each : (P : Step → Type 0) (f : ℕ → Step) (xs : List ℕ) → ((i : ℕ) → P (f i)) → All P (map f xs)
each P f [] holds = All-nil P
each P f (x ∷ xs) holds = All-cons P (f x) (map f xs) (holds x) (each P f xs holds)

pub of_tail : (P : Step → Type 0) (t : Topology) (k : ℕ) → ((kind : Kind) (i : ℕ) → P (step.Write k kind i))
    → ((i : ℕ) → P (step.Flush k Crtc i)) → P (step.HwDone k) → P (step.Cleanup k) → All P (tail_of t k)
of_tail P t k writes flushes done cleaned =
    let ends = All-cons P (step.HwDone k) (step.Cleanup k ∷ []) done (All-cons P (step.Cleanup k) [] cleaned (All-nil P)) in
    All-append P _ _ (each P (step.Write k Crtc) (range_with_len 0 (count_of t Crtc)) (writes Crtc))
    (All-append P _ _ (each P (step.Write k Plane) (range_with_len 0 (count_of t Plane)) (writes Plane))
    (All-append P _ _ (each P (step.Flush k Crtc) (range_with_len 0 (count_of t Crtc)) flushes) ends))

-- the step that a worker does is nobody's, and plain
pub plain_tail : (client : ℕ) (r : Run) (k : ℕ) → ArePlainOf client (option_to_list (find (is_legal r) (tail_of r.script.topology k)))
plain_tail client r k =
    let t = r.script.topology in
    record {
      plain = found_of IsPlain (is_legal r) (tail_of t k) (of_tail IsPlain t k (λ kind i. refl) (λ i. refl) refl refl);
      owners = found_of (IsOf client) (is_legal r) (tail_of t k)
          (of_tail (IsOf client) t k (λ kind i. inl refl) (λ i. inl refl) (inl refl) (inl refl));
    }

-- Writes

-- an object that is written is one of the device, which has few
pub few_index : (r : Run) (k : ℕ) (kind : Kind) (i : ℕ) → IsWellFormed r.script → is_legal r (step.Write k kind i) ≡ true → i < 100
few_index r k kind i formed h =
    let there = (legal_guards r.script (machine r) (step.Write k kind i) h).there in
    let low = ltb-true i (count_of r.script.topology kind) there in
    let few = few_of r.script.topology kind (few_objects r.script.topology formed.device) in
    omega (arith, low, few)

module _ (r : Run) (k : ℕ) (kind : Kind) (i : ℕ) (few : i < 100) (id : ObjId) (is : id.0 ≡ object_id kind i)
    (h : is_legal r (step.Write k kind i) ≡ true) where
  of_kind : kind_of id.0 ≡ kind
  of_kind = ap kind_of is ∙ kind_of-object kind i few

  pub write_is : write_step k id ≡ step.Write k kind i
  write_is = (λ j. step.Write k (of_kind j) ((ap index_of is ∙ index_of-object kind i few) j))

  pub may_be_written : may_write r k id ≡ true
  may_be_written =
      and_from (nat_le (first_id (kind_of id.0)) id.0) _
      (rw of_kind (rw is (le-leb (first_id kind) (object_id kind i) (omega arith))))
      (ap (is_legal r) write_is ∙ h)
