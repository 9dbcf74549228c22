-- An object that is next by the groups is in the reach of the request still, when its client's turn comes.
use Rattle.std.proofs.Common.{◌≡◌, ℕ, ◌-◌, ◌<◌, ◌≤◌, List, [], ◌∷◌, Bool, true, false, Option, Some, None, refl, sym, ap, ◌∙◌, subst, arith}
use Rattle.std.proofs.Common.{inl, inr}
use Rattle.std.specs.Prelude.{not, ◌&&◌, ◌||◌, ◌==◌, IfSome, is_none, is_some, if◌then◌else◌}
use Rattle.std.proofs.lemmas.Bool.{and_from, cases_Bool, eq-eqb, false≢true, lt-ltb, ltb-true}
use Rattle.std.proofs.lemmas.List.Elements.{All-cons, All-filter, All-nil, filter_passes}
use Rattle.kms_model.specs.declared.objects.Kind.{Kind}
use Rattle.kms_model.specs.declared.objects.Kind.TheVariants as kind
use Rattle.kms_model.specs.declared.objects.ObjId.{ObjId}
use Rattle.kms_model.specs.declared.objects.Ticket.{Ticket}
use Rattle.kms_model.specs.declared.objects.Topology.{Topology}
use Rattle.kms_model.specs.declared.scripts.Assign.{Assign}
use Rattle.kms_model.specs.declared.scripts.Request.{Request}
use Rattle.kms_model.specs.declared.scripts.Script.{Script}
use Rattle.kms_model.specs.declared.scripts.Value.{Value}
use Rattle.kms_model.specs.declared.scripts.Value.TheVariants.{Crtc, Named, New, Num}
use Rattle.kms_model.specs.declared.states.PlaneState.{PlaneState}
use Rattle.kms_model.specs.declared.worlds.Look.{Look}
use Rattle.kms_model.specs.declared.worlds.Thing.{Thing}
use Rattle.kms_model.specs.declared.worlds.World.{World}
use Rattle.kms_model.specs.Device.Objects.{count_of, exists, first_id, ids_of, kind_of, object_id}
use Rattle.kms_model.specs.Device.States.{crtc_at}
use Rattle.kms_model.specs.Device.World.{thing_labelled}
use Rattle.kms_model.specs.Firsts.{or_else}
use Rattle.kms_model.specs.Machine.Histories.{at}
use Rattle.kms_model.specs.Machine.Effects.{next}
use Rattle.kms_model.specs.Machine.Steps.{is_lockable}
use Rattle.kms_model.specs.Order.Turns.{in_named_group, in_set_group}
use Rattle.kms_model.specs.Request.Agreement.{crtc_state_at}
use Rattle.kms_model.specs.Request.Apply.{after, object_of}
use Rattle.kms_model.specs.Request.Lookups.{label_of, look_of_any, look_of_content, look_up_any}
use Rattle.kms_model.specs.Request.Named.{is_routed, names}
use Rattle.kms_model.specs.Request.Reach.{reaches, reaching}
use Rattle.kms_model.specs.Request.Refusals.{assign_refusal, assigns_refusal, early_refusal, own_refusal}
use Rattle.kms_model.specs.Request.SameLooks.{TellsLabel}
use Rattle.kms_model.specs.Request.Touched.{is_affected, sets, touches, touches_of_kind}
use Rattle.kms_model.proofs.Facts.{none-is}
use Rattle.kms_model.proofs.CrtcLemmas.{all_in}
use Rattle.kms_model.proofs.Items.{IsIn, filter-same, ids-has, list_any-has}
use Rattle.kms_model.proofs.SameLooks.{early-same}
use Rattle.kms_laws.proofs.OldLookUps.{StayIn, stay_kept}
use Rattle.kms_laws.proofs.Steps.{Holds, history_kept, step_kept}
use Rattle.kms_laws.proofs.Traversal.{step_keeps}
use Rattle.kms_core.specs.Decisions.{world}
use Rattle.kms_core.specs.Locks.{IsTaking, MayLock}
use Rattle.kms_core.specs.Run.{Run, machine}
use Rattle.kms_device.specs.Asking.{HoldsGroup, IsNextByGroups, MayLockNext}
use Rattle.kms_device.specs.Turns.{DevicePass, MayBeFound, run_seen}
use Rattle.kms_device.proofs.Deciding.{Kept, formed, kept, kind-is, lock_found, may_lock, plain, seen-history}
use Rattle.kms_device.proofs.Found.{stays-found}
use Rattle.kms_device.proofs.ReachStays.{AreMade, IsFine, affected_still, crtc_touched, is_fine}

-- What is wrong with an assignment by itself

abbrev one : Assign → Request
one a = record { flags = 0; user_data = 0; assigns = a ∷ [] }

alone : (t : Topology) (f : ℕ → Look) (a : Assign) → is_none (early_refusal t f (one a)) ≡ is_none (own_refusal t f a)
unfolding early_refusal assigns_refusal assign_refusal
alone t f a = by (own_refusal t f a) _
  where
    by : (o : Option ℕ) (b : Bool) → is_none (or_else (or_else o (if b && false then Some 8 else None)) None) ≡ is_none o
    by None true = refl
    by None false = refl
    by (Some n) true = refl
    by (Some n) false = refl

own-same : (t : Topology) (f g : ℕ → Look) (a : Assign) → TellsLabel f g a.value → is_none (own_refusal t f a) ≡ is_none (own_refusal t g a)
own-same t f g a same = sym (alone t f a) ∙ (ap is_none
    (early-same t f g (one a) (All-cons (λ b. TellsLabel f g b.value) a [] same (All-nil (λ b. TellsLabel f g b.value)))) ∙ alone t g a)

-- Two worlds

module _ (script : Script) (pass : DevicePass) (found : Run) (f : MayBeFound script pass found) (t : Ticket) (id : ObjId)
    (h : IsNextByGroups (run_seen script pass) pass.rank t id) where
  abbrev T : Topology
  T = script.topology

  abbrev W : World
  W = (at script pass.seen).device.world

  abbrev V : World
  V = (machine found).device.world

  abbrev Assigns : List Assign
  Assigns = h.takes.request.assigns

  abbrev Items : List Assign
  Items = reaching T W Assigns

  abbrev Q : Request
  Q = record h.takes.request { assigns = Items }

  later : Holds script (machine found) × StayIn W.things V
  later =
      stays-found script pass found f (λ m. Holds script m × StayIn W.things m.device.world)
      (λ m x is others both. (
        step_kept script m x (plain script pass found f) both.0 is,
        step_keeps script (λ d ls. StayIn W.things d.world) (stay_kept script W.things) m both.0 both.1 x is,
      )) (
        history_kept script pass.seen (plain script pass found f) (seen-history script pass found f),
        λ label u is. record { thing = u; found = is; same_id = refl; same_content = refl },
      )

  before : Holds script (at script pass.seen)
  before = history_kept script pass.seen (plain script pass found f) (seen-history script pass found f)

  all_made : AreMade W Assigns
  all_made a is = all_in (λ a. IfSome (label_of a.value) (λ label. is_some (thing_labelled W.things label) ≡ true)) Assigns a h.made is

  made : AreMade W Items
  made a is = all_in (λ a. IfSome (label_of a.value) (λ label. is_some (thing_labelled W.things label) ≡ true)) Items a
      (All-filter (λ a. is_none (own_refusal T (look_up_any W) a))
      (λ a. IfSome (label_of a.value) (λ label. is_some (thing_labelled W.things label) ≡ true)) Assigns h.made) is

  fine : (a : Assign) → IsIn a Items → IsFine T (look_up_any W) a
  fine a is = is_fine T (look_up_any W) a (none-is _
      (all_in (λ a. is_none (own_refusal T (look_up_any W) a) ≡ true) Items a
      (filter_passes (λ a. is_none (own_refusal T (look_up_any W) a)) Assigns) is))

  -- labels name the same
  tells : (a : Assign) → IsIn a Assigns → TellsLabel (look_up_any V) (look_up_any W) a.value
  tells a is = by a.value (all_made a is)
    where
      by_thing : (label : ℕ) (o : Option Thing) → thing_labelled W.things label ≡ o → is_some o ≡ true → look_up_any V label
          ≡ look_up_any W label
      by_thing label None is some = absurd (false≢true some)
      by_thing label (Some u) is some = (let two = later.1 label u is
          in ap look_of_any two.found ∙ ((λ i. look_of_content (two.same_id i) (two.same_content i)) ∙ sym (ap look_of_any is)))

      by : (x : Value) → IfSome (label_of x) (λ label. is_some (thing_labelled W.things label) ≡ true)
          → TellsLabel (look_up_any V) (look_up_any W) x
      by (Num n) m = tt
      by (Named label) m = by_thing label (thing_labelled W.things label) refl m
      by (New label) m = tt
      by (Crtc index) m = tt

  items_same : reaching T V Assigns ≡ Items
  items_same = filter-same (λ a. is_none (own_refusal T (look_up_any V) a)) (λ a. is_none (own_refusal T (look_up_any W) a)) Assigns
      (λ a is. own-same T (look_up_any V) (look_up_any W) a (tells a is))

  lockable_of : (k : Kind) (index : ℕ) → is_routed k ≡ true → exists T k index ≡ true → is_lockable T k index ≡ true
  lockable_of kind.Plane index r there = there
  lockable_of kind.Conn index r there = there
  lockable_of kind.Crtc index r there = absurd (false≢true r)
  lockable_of kind.Enc index r there = absurd (false≢true r)

  -- where the first group is held, what it sets is where it was
  module _ (set_held : HoldsGroup (run_seen script pass) pass.rank (in_set_group Q)) where
    routed : (a : Assign) → IsIn a Items → is_routed a.kind ≡ true → crtc_at V.values (object_of a) ≡ crtc_at W.values (object_of a)
    routed a is r = by a.kind refl
      where
        there : exists T a.kind a.index ≡ true
        there = (fine a is).there

        same : Kept script pass found f (object_of a)
        same = kept script pass found f (object_of a)
            (set_held a.kind a.index (lockable_of a.kind a.index r there)
            (list_any-has (λ b. object_of b == object_of a) Items a is (eq-eqb (object_of a) (object_of a) refl)))

        of_kind : kind_of (object_of a) ≡ a.kind
        of_kind = kind-is script pass found f a.kind a.index there

        by : (k : Kind) → a.kind ≡ k → crtc_at V.values (object_of a) ≡ crtc_at W.values (object_of a)
        by kind.Plane e = ap (λ (s : PlaneState). s.crtc) (same.same.plane (of_kind ∙ e))
        by kind.Conn e = same.same.connector (of_kind ∙ e)
        by kind.Crtc e = absurd (false≢true (sym (ap is_routed e) ∙ r))
        by kind.Enc e = absurd (false≢true (sym (ap is_routed e) ∙ r))

    module _ (named_held : HoldsGroup (run_seen script pass) pass.rank (in_named_group T W Q)) where
      states : (index : ℕ) → index < count_of T kind.Crtc → names W.values (after W Q) Items (object_id kind.Crtc index) ≡ true
          → crtc_state_at T V.things V.values (object_id kind.Crtc index) ≡ crtc_state_at T W.things W.values (object_id kind.Crtc index)
      states index within is =
          let there : exists T kind.Crtc index ≡ true = lt-ltb index (count_of T kind.Crtc) within in
          let of_kind : kind_of (object_id kind.Crtc index) ≡ kind.Crtc = kind-is script pass found f kind.Crtc index there in
          let named : in_named_group T W Q (object_id kind.Crtc index)
          ≡ true = and_from (not (is_routed (kind_of (object_id kind.Crtc index)))) _ (ap (λ k. not (is_routed k)) of_kind) is in
          (kept script pass found f (object_id kind.Crtc index) (named_held kind.Crtc index there named)).same.crtc of_kind

  or_second : (a b c : Bool) → a ≡ false → (a || b) ≡ true → (b ≡ true → c ≡ true) → (a || c) ≡ true
  or_second true b c e is forth = refl
  or_second false b c e is forth = forth is

  touched : touches_of_kind (kind_of id.0) T W Q id.0 ≡ true
  unfolding reaches touches
  touched = h.reached

  is_object : (k : Kind) → kind_of id.0 ≡ k → is_lockable T k (id.0 - first_id k) ≡ true → first_id k ≤ id.0
      → exists T k (id.0 - first_id k) ≡ true → IsIn id.0 (ids_of T k)
  is_object k e lockable low there =
      let same : object_id k (id.0 - first_id k) ≡ id.0 = omega (arith, low) in
      subst (λ o. IsIn o (ids_of T k)) same (ids-has T k (id.0 - first_id k) (ltb-true (id.0 - first_id k) (count_of T k) there))

  still : (k : Kind) → kind_of id.0 ≡ k → touches_of_kind k T W Q id.0 ≡ true → touches_of_kind k T V Q id.0 ≡ true
  still k e is = elim (cases_Bool (sets Items id.0)) [ inl set ↦ by_set k is set | inr unset ↦ by_held k e is unset ]
    where
      by_set : (k : Kind) → touches_of_kind k T W Q id.0 ≡ true → sets Items id.0 ≡ true → touches_of_kind k T V Q id.0 ≡ true
      by_set kind.Crtc is set = rw set refl
      by_set kind.Plane is set = rw set refl
      by_set kind.Conn is set = rw set refl
      by_set kind.Enc is set = is

      by_routed : (k : Kind) → kind_of id.0 ≡ k → is_routed k ≡ true → is_lockable T k (id.0 - first_id k) ≡ exists T k (id.0 - first_id k)
          → sets Items id.0 ≡ false
          → is_affected T W.things W.values (after W Q) id.0 ≡ true → is_affected T V.things V.values (after V Q) id.0 ≡ true
      by_routed k e r same unset affected =
          let lockable : is_lockable T k (id.0 - first_id k)
          ≡ true = subst (λ k. is_lockable T k (id.0 - first_id k) ≡ true) e h.takes.lockable in
          let low : first_id k ≤ id.0 = subst (λ k. first_id k ≤ id.0) e h.takes.is_id in
          let not_named : in_named_group T W Q id.0 ≡ false = ap (λ b. not b && names W.values (after W Q) Items id.0) (ap is_routed e ∙ r)
          in
          affected_still T W V (formed script pass found f).device before.present.lawful later.0.present.lawful later.1 Items made fine
          h.takes.request (routed (h.set unset)) k id.0 r
          (is_object k e lockable low (sym same ∙ lockable)) (states (h.set unset) (h.named unset not_named)) affected

      by_held : (k : Kind) → kind_of id.0 ≡ k → touches_of_kind k T W Q id.0 ≡ true → sets Items id.0 ≡ false → touches_of_kind k T V Q id.0
          ≡ true
      by_held kind.Crtc e is unset = sym (crtc_touched T W V (formed script pass found f).device before.present.lawful
          later.0.present.lawful later.1 Items made fine h.takes.request (routed (h.set unset)) id.0) ∙ is
      by_held kind.Plane e is unset = or_second (sets Items id.0) _ _ unset is (by_routed kind.Plane e refl refl unset)
      by_held kind.Conn e is unset = or_second (sets Items id.0) _ _ unset is (by_routed kind.Conn e refl refl unset)
      by_held kind.Enc e is unset = is

  reach_still : reaches found.script.topology (world found) h.takes.request id.0 ≡ true
  unfolding reaches touches
  reach_still =
      subst (λ (s : Script). reaches s.topology V h.takes.request id.0 ≡ true) (sym f.same)
      (ap (λ items. touches_of_kind (kind_of id.0) T V (record h.takes.request { assigns = items }) id.0) items_same ∙ still (kind_of id.0)
      refl touched)

  next_found : MayLock found t id × IsTaking found pass.rank t
  next_found = lock_found script pass found f t id h.takes reach_still

-- by either condition
pub may_take : (script : Script) (pass : DevicePass) (found : Run) → MayBeFound script pass found → (t : Ticket) (id : ObjId)
    → MayLockNext (run_seen script pass) pass.rank t id → MayLock found t id × IsTaking found pass.rank t
may_take script pass found f t id (inl next) = next_found script pass found f t id next
may_take script pass found f t id (inr asked) = may_lock script pass found f t id asked
