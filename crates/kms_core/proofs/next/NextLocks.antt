-- What a client lacks for its request, and the lock that it takes next.
use Rattle.std.proofs.Common.{◌≡◌, ℕ, ◌<◌, Bool, true, false, length, cond, Option, Some, None, arith, refl, sym, ap, ◌∙◌}
use Rattle.std.specs.Prelude.{◌&&◌, find, is_some, not}
use Rattle.std.specs.List.{list_any, range_with_len}
use Rattle.std.specs.Option.{option_map}
use Rattle.std.proofs.lemmas.Bool.{and_right, false≢true, le-ltb, ltb-true, or_right}
use Rattle.kms_model.specs.Device.Places.{state_at}
use Rattle.kms_model.specs.declared.objects.Kind.{Kind}
use Rattle.kms_model.specs.declared.objects.Kind.TheVariants.{Conn, Crtc, Enc, Plane}
use Rattle.kms_model.specs.declared.objects.Topology.{Topology}
use Rattle.kms_model.specs.declared.scripts.Request.{Request}
use Rattle.kms_model.specs.declared.scripts.Script.{Script}
use Rattle.kms_model.specs.declared.states.Checked.{Checked}
use Rattle.kms_model.specs.declared.states.Mask.{Mask}
use Rattle.kms_model.specs.declared.worlds.World.{World}
use Rattle.kms_model.specs.Device.Masks.{has_bit}
use Rattle.kms_model.specs.Device.Objects.{count_of, object_id}
use Rattle.kms_model.specs.Device.Sound.{IsDevice}
use Rattle.kms_model.specs.Firsts.{or_else}
use Rattle.kms_model.specs.Machine.Commits.{lockable}
use Rattle.kms_model.specs.Machine.Histories.{is_history}
use Rattle.kms_model.specs.Machine.State.{Machine, doing_at, holder_at, holds}
use Rattle.kms_model.specs.Machine.Steps.{is_free_or_older, is_lockable, may_lock, taking_at, ticket_of}
use Rattle.kms_model.specs.Order.Turns.{first_missing, in_affected_group, in_named_group, missing_of, next_lock, or_those}
use Rattle.kms_model.specs.Request.Apply.{after}
use Rattle.kms_model.specs.Request.Deciding.{IsChecked}
use Rattle.kms_model.specs.Request.Groups.{affected_group}
use Rattle.kms_model.specs.Request.Named.{names}
use Rattle.kms_model.specs.Request.Reach.{reaches}
use Rattle.kms_model.specs.Request.Touched.{is_affected, sets, touches, touches_crtc}
use Rattle.kms_model.specs.Request.Verdict.{early_in}
use Rattle.kms_model.specs.Script.WellFormed.{IsWellFormed}
use Rattle.kms_model.proofs.Facts.{value-is}
use Rattle.kms_model.proofs.KindsOfIds.{kind_of-object}
use Rattle.kms_model.proofs.MaskLemmas.{has_bit-below}
use Rattle.kms_model.proofs.ReachLaw.{reach-is}
use Rattle.kms_model.proofs.TouchedLemmas.{few_objects}
use Rattle.kms_model.proofs.UnionLemmas.{has_bit-zero}
use Rattle.kms_request.specs.Groups.{affected_below}
use Rattle.kms_request.specs.Whole.{is_member}
use Rattle.kms_request.proofs.AffectedLemmas.{affected-is}
use Rattle.kms_request.proofs.Reached.{touched-member}
use Rattle.kms_core.specs.declared.next.groups.Group.{Group}
use Rattle.kms_core.specs.declared.next.groups.Group.TheVariants as group
use Rattle.kms_core.specs.declared.next.groups.Needs.{Needs}
use Rattle.kms_core.specs.Decisions.{world}
use Rattle.kms_core.specs.Judging.{request_taken}
use Rattle.kms_core.specs.Order.{AreNeeds, NeedsLocks, first_lacked, is_missing, is_open, lacks}
use Rattle.kms_core.specs.Run.{Run, machine}
use Rattle.kms_track.specs.InStep.{HasStates}
use Rattle.kms_core.proofs.stores.AfterCommit.{there_is}
use Rattle.kms_core.proofs.next.Finding.{any_lockable, found_filtered, found_lockable, found_those}
use Rattle.kms_core.proofs.next.Presented.{sound_now}
use Rattle.kms_core.proofs.next.Refusing.{settable_now}
use Rattle.kms_core.proofs.next.Taken.{lockable_exists, taken_parts, taking-is}

-- Groups

module _ (t : Topology) (w : World) (n : Needs) (needs : AreNeeds t w n) where
  pub named_told : (k : Kind) (i : ℕ) → i < 16 → is_lockable t k i ≡ true → is_member n.named k i
      ≡ in_named_group t w n.request.now (object_id k i)
  named_told Crtc i few on =
      rw (kind_of-object Crtc i (omega arith))
      (ap (λ (m : Mask). has_bit m.crtcs i) needs.named ∙ has_bit-below
      (λ j. names w.values (after w n.request.now) n.request.now.assigns (object_id Crtc j)) t.crtcs i (ltb-true i t.crtcs on))
  named_told Plane i few on = rw (kind_of-object Plane i (omega arith)) (ap (λ (m : Mask). has_bit m.planes i) needs.named ∙ has_bit-zero i)
  named_told Conn i few on = rw (kind_of-object Conn i (omega arith)) (ap (λ (m : Mask). has_bit m.conns i) needs.named ∙ has_bit-zero i)
  named_told Enc i few on = absurd (false≢true on)

  pub affected_told : (k : Kind) (i : ℕ) → i < 16 → is_lockable t k i ≡ true → is_member n.affected k i
      ≡ in_affected_group t w n.request.now (object_id k i)
  affected_told Crtc i few on = rw (kind_of-object Crtc i (omega arith))
      (ap (λ (m : Mask). has_bit m.crtcs i) needs.affected ∙ has_bit-zero i)
  affected_told Plane i few on =
      rw (kind_of-object Plane i (omega arith))
      (ap (λ (m : Mask). has_bit m.planes i) needs.affected ∙ has_bit-below
      (λ j. is_affected t w.things w.values (after w n.request.now) (object_id Plane j)) (length t.planes) i
      (ltb-true i (length t.planes) on))
  affected_told Conn i few on =
      rw (kind_of-object Conn i (omega arith))
      (ap (λ (m : Mask). has_bit m.conns i) needs.affected ∙ has_bit-below
      (λ j. is_affected t w.things w.values (after w n.request.now) (object_id Conn j)) (length t.conns) i
      (ltb-true i (length t.conns) on))
  affected_told Enc i few on = absurd (false≢true on)

-- what is touched, of the objects that have a lock
pub touched_told : {t : Topology} {w : World} {n : Needs} (k : Kind) (i : ℕ) → AreNeeds t w n → IsDevice t → is_lockable t k i ≡ true
    → is_member n.touched k i ≡ touches t w n.request.now (object_id k i)
touched_told {t} {w} {n} k i needs device on = ap (λ (m : Mask). is_member m k i) needs.touched ∙ touched-member t w n.request.now k i
    device
    (lockable_exists t k i on)

-- an object that has a lock has a small index
pub lockable_few : {t : Topology} (k : Kind) (i : ℕ) → IsDevice t → is_lockable t k i ≡ true → i < 16
lockable_few {t} Crtc i device on = let lt = ltb-true i t.crtcs on in omega (arith, lt, (few_objects t device).crtcs)
lockable_few {t} Plane i device on = let lt = ltb-true i (length t.planes) on in omega (arith, lt, (few_objects t device).planes)
lockable_few {t} Conn i device on = let lt = ltb-true i (length t.conns) on in omega (arith, lt, (few_objects t device).conns)
lockable_few Enc i device on = absurd (false≢true on)

-- what the states of a check tell to be affected is what the request affects
pub affected_alike : (r : Run) {request : Request} {checked : Checked} → IsWellFormed r.script → is_history r.script r.steps ≡ true
    → early_in r.script.topology (world r) request ≡ None → IsChecked r.script.topology (world r) request checked → HasStates checked
    → affected_below checked.states.crtcs checked.named 4 ≡ affected_group r.script.topology (world r) request
affected_alike r {request} {checked} formed history none is all =
    let t = r.script.topology in
    let w = world r in
    let there : (i : ℕ) → i < t.crtcs → names w.values (after w request) request.assigns (object_id Crtc i) ≡ true
    → is_some (state_at checked.states.crtcs i) ≡ true =
    λ i within named.
    (let bit : has_bit checked.touched.crtcs i ≡ true =
    ap (λ (m : Mask). has_bit m.crtcs i) is.touched ∙ has_bit-below
    (λ j. touches_crtc w.values (after w request) request.assigns (object_id Crtc j)) t.crtcs i within ∙ or_right
    (sets request.assigns (object_id Crtc i)) _ named in
    let few = (few_objects t formed.device).crtcs in
    ap (λ (o : Option _). is_some o) (there_is checked.states.crtcs i) ∙ all.crtcs i (omega (arith, within, few)) bit) in
    ap (λ named. affected_below checked.states.crtcs named 4) is.named
    ∙ affected-is t w request checked.states
    (record {
      at = record { device = formed.device; sound = sound_now r formed history; early = none };
      old = is.old;
      new = is.new;
    }) there

abbrev only_crtcs : ℕ → Mask
only_crtcs crtcs = record { crtcs = crtcs; planes = 0; conns = 0 }

-- as the call finds it
pub needs_at : (v : Run) (client : ℕ) (n : Needs) {checked : Checked} → IsWellFormed v.script → is_history v.script v.steps ≡ true
    → Some n.request.now ≡ request_taken v.script (machine v) client → early_in v.script.topology (world v) n.request.now ≡ None
    → IsChecked v.script.topology (world v) n.request.now checked → HasStates checked
    → n.named ≡ record { crtcs = checked.named; planes = 0; conns = 0 } → n.affected ≡ affected_below checked.states.crtcs checked.named 4
    → n.touched ≡ checked.touched → NeedsLocks v client n
needs_at v client n formed history taken none is all named_is affected_is touched_is =
    let q = n.request.now in
    record {
      taken = taken;
      none = none;
      needs = record {
        named = named_is ∙ ap only_crtcs is.named;
        affected = affected_is ∙ affected_alike v formed history none is all;
        touched = touched_is ∙ is.touched;
      };
      device = formed.device;
      settable = settable_now v q formed none;
    }

-- Locks

module _ (s : Script) (m : Machine) (client : ℕ) (r : Request) where
  abbrev missing : Group → ℕ → Bool
  missing g object = is_missing s.topology m client r g object

  abbrev opens : Group → Option ℕ
  opens g = find (is_open s m client r g) (lockable s.topology)

  own_held : (object : ℕ) → holds m client object ≡ true → may_lock s m client object ≡ false
  unfolding may_lock
  own_held object held =
      and_right (taking_at s m client (λ q. reaches s.topology m.device.world q object)) _
      (ap (is_free_or_older m (ticket_of (doing_at m client))) (value-is client (holder_at m object) held) ∙ le-ltb
      (ticket_of (doing_at m client)) (ticket_of (doing_at m client)) (omega arith))

  -- what a client holds it may not ask for
  lock_apart : (b c : Bool) → (b ≡ true → c ≡ false) → c ≡ (not b && c)
  lock_apart true c off = off refl
  lock_apart false c off = refl

  by_first : (a b : Bool) → cond a (opens group.Set) (cond b (opens group.Named) (opens group.Affected))
      ≡ opens (cond a group.Set (cond b group.Named group.Affected))
  by_first true b = refl
  by_first false true = refl
  by_first false false = refl

  pub next_told : {g : Group} {first : Option ℕ} (other : Option ℕ) → g ≡ first_lacked s.topology m client r → first ≡ opens g → other ≡
      opens group.Any
      → or_else first other ≡ next_lock s m client r
  unfolding next_lock first_missing
  next_told other g_is first_is other_is =
      let p = may_lock s m client in
      let t = s.topology in
      let w = m.device.world in
      let some : find p (first_missing t m client r) ≡ opens (first_lacked t m client r) =
      found_those p (missing group.Set) (lockable t)
      (or_those (missing_of t m client (in_named_group t w r)) (missing_of t m client (in_affected_group t w r)))
      ∙ ap (cond (list_any (missing group.Set) (lockable t)) (opens group.Set))
      (found_those p (missing group.Named) (lockable t) (missing_of t m client (in_affected_group t w r))
      ∙ ap (cond (list_any (missing group.Named) (lockable t)) (opens group.Named))
      (found_filtered p (missing group.Affected) (lockable t)))
      ∙ (λ i. cond (any_lockable t (missing group.Set) i) (opens group.Set)
      (cond (any_lockable t (missing group.Named) i) (opens group.Named) (opens group.Affected)))
      ∙ by_first (lacks t m client r group.Set) (lacks t m client r group.Named) in
      let any : find p (lockable t) ≡ opens group.Any = λ i. find
      (λ object. lock_apart (holds m client object) (p object) (own_held object) i) (lockable t) in
      (λ i. or_else ((first_is ∙ ap opens g_is ∙ sym some) i) ((other_is ∙ sym any) i))

  pub allowed_told : (k : Kind) (i : ℕ) (touched free : Bool) → Some r ≡ request_taken s m client → early_in s.topology m.device.world r
      ≡ None → touched ≡ touches s.topology m.device.world r (object_id k i)
      → free ≡ is_free_or_older m (ticket_of (doing_at m client)) (holder_at m (object_id k i)) → (touched && free)
      ≡ may_lock s m client (object_id k i)
  unfolding may_lock
  allowed_told k i touched free taken none touched_is free_is =
      let takes = taken_parts s m client taken in
      let reached = touched_is ∙ sym (reach-is s.topology m.device.world r (object_id k i) none) ∙ sym
      (taking-is (λ q. reaches s.topology m.device.world q (object_id k i)) takes) in
      (λ j. reached j && free_is j)

-- the first of the objects that have a lock, kind by kind
pub first_told : (t : Topology) (p : ℕ → Bool) (a b c : Option ℕ) → a
    ≡ find (λ i. p (object_id Crtc i)) (range_with_len 0 (count_of t Crtc))
    → b ≡ find (λ i. p (object_id Plane i)) (range_with_len 0 (count_of t Plane)) → c
    ≡ find (λ i. p (object_id Conn i)) (range_with_len 0 (count_of t Conn))
    → or_else (option_map (object_id Crtc) a) (or_else (option_map (object_id Plane) b) (option_map (object_id Conn) c))
    ≡ find p (lockable t)
first_told t p a b c a_is b_is c_is = (λ i. or_else (option_map (object_id Crtc) (a_is i))
    (or_else (option_map (object_id Plane) (b_is i)) (option_map (object_id Conn) (c_is i)))) ∙ sym (found_lockable t p)
