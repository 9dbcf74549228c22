-- What a command leaves in the store of framebuffers.
use Rattle.std.proofs.Common.{◌≡◌, ℕ, ◌+◌, ◌-◌, ◌==◌, Bool, true, false, List, [], ◌∷◌, ◌++◌, length, Option, Some, None, refl, sym, ap}
use Rattle.std.proofs.Common.{◌∙◌, subst, arith}
use Rattle.std.specs.Prelude.{if◌then◌else◌, ⊤, IfSome}
use Rattle.kms_model.specs.declared.objects.Topology.{Topology}
use Rattle.kms_model.specs.declared.replies.Reply.{Reply}
use Rattle.kms_model.specs.declared.replies.Reply.TheVariants as reply
use Rattle.kms_model.specs.declared.scripts.Command.{Command}
use Rattle.kms_model.specs.declared.scripts.Command.TheVariants as command
use Rattle.kms_model.specs.declared.things.Framebuffer.{Framebuffer}
use Rattle.kms_model.specs.declared.states.Duplicates.{Duplicates}
use Rattle.kms_model.specs.declared.tables.Slot.{Slot}
use Rattle.kms_model.specs.declared.worlds.Content.{Content}
use Rattle.kms_model.specs.declared.worlds.Content.TheVariants as content
use Rattle.kms_model.specs.declared.worlds.Thing.{Thing}
use Rattle.kms_model.specs.declared.worlds.World.{World}
use Rattle.kms_model.specs.Device.Execution.{BufferInfo, add_fb, buffer_of, close_refusal, close_unless, execute}
use Rattle.kms_model.specs.Device.Sound.{AreNumbered}
use Rattle.kms_model.specs.Device.World.{thing_labelled, thing_with_id}
use Rattle.kms_model.specs.Machine.State.{Machine}
use Rattle.kms_model.specs.Things.Kept.{MayGive, MayTake, after_give, after_take, fbs_closed, fbs_given, fbs_taken, framebuffer}
use Rattle.kms_model.specs.Things.Kept.{open_references, taken}
use Rattle.kms_model.specs.Things.Tables.{slot, value_with_id, with_value, without_id}
use Rattle.kms_core.specs.Freeing.{AreRising, entry_of, freed_among, freed_entry}
use Rattle.kms_core.specs.Stored.{AreHeld, AreStored, held_as, held_where, without_freed}
use Rattle.kms_core.proofs.freeing.FreedLists.{rising_weaker}
use Rattle.kms_core.proofs.freeing.FreedMakes.{IsAdded, IsClosed}
use Rattle.kms_core.proofs.freeing.StoredSteps.{added_stored, held_without, joined_freed, push_other, push_this, unstored, with_other}
use Rattle.kms_core.proofs.freeing.StoredSteps.{with_this}
use Rattle.kms_things.specs.Counting.{fbs_added, fbs_after, fbs_without}
use Rattle.kms_regs.specs.File.{RegisterFile}
use Rattle.kms_track.specs.Tracking.{Tracking}
use Rattle.kms_things.specs.Framebuffers.{framebuffer_entry}
use Rattle.kms_things.specs.Made.{Made}
use Rattle.kms_core.specs.Needs.{HasLast, TellNeeds}

-- what was made is as it was, but for the references of framebuffers, and what is needed is stored
pub record IsLeft (t : Topology) (n : Machine) (before left : Made) : Type 0 where
  pub fbs : List (Slot Framebuffer)
  pub same : left ≡ record before { fbs = fbs }
  pub stored : AreStored t n fbs

-- a command leaves the references alone, unless it adds or closes a framebuffer
abbrev pub LeavesFbs : Made → Command → Reply → List (Slot Framebuffer) → Type 0
LeavesFbs made (command.AddFb label buffer) (reply.Made id) new = ⊤
LeavesFbs made (command.CloseFb label) reply.Done new = ⊤
LeavesFbs made _ _ new = new ≡ made.fbs

pub execute_leaves : (t : Topology) (w : World) (made : Made) (client : ℕ) (c : Command) → w.things ≡ made.things
    → LeavesFbs made c (execute t w client c).reply (fbs_after made client c)
unfolding execute
execute_leaves t w made client (command.AddFb label buffer) same =
    subst (λ o. LeavesFbs made (command.AddFb label buffer) (add_fb w client label (buffer_of w.things client buffer)).reply
    (fbs_added made client o)) (ap (λ things. buffer_of things client buffer) same) (at (buffer_of w.things client buffer))
  where
    at : (o : Option BufferInfo) → LeavesFbs made (command.AddFb label buffer) (add_fb w client label o).reply (fbs_added made client o)
    at None = refl
    at (Some b) = tt
execute_leaves t w made client (command.CloseFb label) same =
    subst (λ o. LeavesFbs made (command.CloseFb label)
    (close_unless w (thing_labelled w.things label) (close_refusal client (thing_labelled w.things label))).reply
    (fbs_without made client o (close_refusal client o)))
    (ap (λ things. thing_labelled things label) same)
    (at (thing_labelled w.things label) (close_refusal client (thing_labelled w.things label)))
  where
    at : (o : Option Thing) (r : Option ℕ) → LeavesFbs made (command.CloseFb label) (close_unless w o r).reply (fbs_without made client o r)
    at None None = tt
    at None (Some n) = refl
    at (Some u) None = tt
    at (Some u) (Some n) = refl
execute_leaves t w made client (command.Buffer label width height format pattern) same = refl
execute_leaves t w made client (command.Mode label mode) same = refl
execute_leaves t w made client (command.Blob label bytes) same = refl
execute_leaves t w made client (command.Destroy label) same = refl
execute_leaves t w made client (command.Fence label) same = refl
execute_leaves t w made client (command.Signal label) same = refl
execute_leaves t w made client (command.Atomic r) same = refl
execute_leaves t w made client command.Wait same = refl

-- A framebuffer that was added is in the store, open, and the device may take its reference.

module _ (t : Topology) (m n : Machine) (client label buffer id : ℕ) (A : IsAdded t m n client label buffer id)
    (numbered : AreNumbered 1000 m.device.world.things) (ends : m.device.world.next_id ≡ 1000 + length m.device.world.things)
    (made : Made) (things : m.device.world.things ≡ made.things) (next : m.device.world.next_id ≡ made.next_id) (S : AreStored t m made.fbs)
    (new : List (Slot Framebuffer)) (is : new ≡ fbs_added made client (buffer_of made.things client buffer)) where
  abbrev with_id : ℕ → Framebuffer
  with_id k = framebuffer client A.source.id (record { id = k; width = A.source.width; height = A.source.height; format = A.source.format })

  new_is : new ≡ made.fbs ++ slot m.device.world.next_id (with_id m.device.world.next_id) ∷ []
  new_is =
      is ∙ ap (fbs_added made client) (ap (λ all. buffer_of all client buffer) (sym things) ∙ A.found)
      ∙ ap (λ k. made.fbs ++ slot k (with_id k) ∷ []) (sym next)

  found : value_with_id new m.device.world.next_id ≡ Some (with_id m.device.world.next_id)
  found =
      ap (λ xs. value_with_id xs m.device.world.next_id) new_is
      ∙ push_this made.fbs m.device.world.next_id (with_id m.device.world.next_id)
      (unstored t m n client label buffer id A numbered ends made.fbs S)

  pub added_takes : MayTake (value_with_id new id)
  added_takes = subst MayTake (sym (ap (value_with_id new) A.own ∙ found)) (omega arith)

  taken_is : fbs_taken new id ≡ with_value new m.device.world.next_id (taken (with_id m.device.world.next_id))
  taken_is = ap (fbs_taken new) A.own ∙ ap (after_take new m.device.world.next_id) found

  pub taken_stored : AreStored t n (fbs_taken new id)
  taken_stored =
      added_stored t m n client label buffer id A numbered ends made.fbs (fbs_taken new id) S
      (ap (λ xs. value_with_id xs m.device.world.next_id) taken_is
      ∙ with_this new m.device.world.next_id (taken (with_id m.device.world.next_id)) found)
      (λ at apart.
      ap (λ xs. value_with_id xs at) taken_is
      ∙ with_other new m.device.world.next_id at (taken (with_id m.device.world.next_id)) apart
      ∙ ap (λ xs. value_with_id xs at) new_is
      ∙ push_other made.fbs m.device.world.next_id at (with_id m.device.world.next_id) apart)

-- one that was closed has given the reference of being open back
pub closed_is : (t : Topology) (m n : Machine) (client label : ℕ) (C : IsClosed t m n client label) (made : Made)
    {new : List (Slot Framebuffer)} → m.device.world.things ≡ made.things
    → new ≡ fbs_without made client (thing_labelled made.things label) (close_refusal client (thing_labelled made.things label))
    → new ≡ fbs_closed made.fbs client C.thing.id
closed_is t m n client label C made things is =
    is ∙ ap (λ o. fbs_without made client o (close_refusal client o)) (ap (λ all. thing_labelled all label) (sym things) ∙ C.was)
    ∙ ap (fbs_without made client (Some C.thing)) C.may

-- Those that are freed, one by one

-- the references are all that changes
abbrev pub OnlyFbs : Made → Made → Type 0
OnlyFbs before after = after ≡ record before { fbs = after.fbs }

pub fbs_again : (first before after : Made) (fbs : List (Slot Framebuffer)) → OnlyFbs first before → after ≡ record before { fbs = fbs }
    → OnlyFbs first after
fbs_again first before after fbs was is =
    let both : after ≡ record first { fbs = fbs } = is ∙ ap (λ (z : Made). record z { fbs = fbs }) was in
    both ∙ ap (λ xs. record first { fbs = xs }) (sym (ap (λ (z : Made). z.fbs) both))

-- a closed framebuffer that is in the store has the device's reference alone
pub last_held : (things : List Thing) (fbs : List (Slot Framebuffer)) (id : ℕ) (o : Option ℕ)
    → value_with_id fbs id ≡ held_where (λ thing. true) (thing_with_id things id)
    → IfSome o (λ label. framebuffer_entry (thing_with_id things id) ≡ Some (label, false))
    → IfSome o (λ label. HasLast (value_with_id fbs id))
last_held things fbs id None held closed = tt
last_held things fbs id (Some label) held closed = subst HasLast (sym held) (at (thing_with_id things id) closed) where
  by_content : (x : Thing) (c : Content) → framebuffer_entry (Some (record x { content = c })) ≡ Some (label, false) → HasLast (held_as x c)
  by_content x (content.Framebuffer info buffer) e =
      let pair : (x.label, x.is_open) ≡ (label, false) = cc in
      let off : x.is_open ≡ false = ap (λ (p : ℕ × Bool). p.1) pair in
      (off, ap (λ b. if b then 2 else 1) off)
  by_content x (content.Buffer width height format pattern) e = absurd cc
  by_content x (content.Mode mode) e = absurd cc
  by_content x (content.Blob bytes) e = absurd cc
  by_content x content.Fence e = absurd cc
  by_content x content.OutFence e = absurd cc

  at : (o : Option Thing) → framebuffer_entry o ≡ Some (label, false) → HasLast (held_where (λ thing. true) o)
  at None e = absurd cc
  at (Some x) e = by_content x x.content e

-- which may be given
pub may_give : (o : Option Framebuffer) → HasLast o → MayGive o
may_give None last = absurd last
may_give (Some fb) last =
    (let closed : open_references fb ≡ 0 = ap (λ b. if b then 1 else 0) last.0 in let one = last.1 in omega (arith, closed, one))

-- and it leaves the store then
pub gives_last : (fbs : List (Slot Framebuffer)) (id : ℕ) → HasLast (value_with_id fbs id) → fbs_given fbs id ≡ without_id fbs id
gives_last fbs id last = at (value_with_id fbs id) last where
  at : (o : Option Framebuffer) → HasLast o → after_give fbs id o ≡ without_id fbs id
  at None last = absurd last
  at (Some fb) last = ap (λ k. if k - 1 == 0 then without_id fbs id else with_value fbs id (record fb { references = k - 1 })) last.1

-- one more
pub among_fbs : (t : Topology) (m : Machine) (id : ℕ) (ids rest : List ℕ) (o : Option ℕ) (old new all : List (Slot Framebuffer))
    → ids ≡ id ∷ rest → new ≡ without_freed (entry_of id o) old
    → entry_of id o ≡ freed_entry t m (thing_with_id m.device.world.things id) → without_freed (freed_among t m ids) old ≡ all
    → without_freed (freed_among t m rest) new ≡ all
among_fbs t m id ids rest o old new all same is told so_far =
    ap (without_freed (freed_among t m rest)) (is ∙ ap (λ entries. without_freed entries old) told)
    ∙ sym (joined_freed (freed_entry t m (thing_with_id m.device.world.things id)) (freed_among t m rest) old)
    ∙ ap (λ xs. without_freed (freed_among t m xs) old) (sym same) ∙ so_far

pub among_held : (things : List Thing) (id : ℕ) (ids rest : List ℕ) (o : Option ℕ) (old new : List (Slot Framebuffer)) → ids ≡ id ∷ rest
    → new ≡ without_freed (entry_of id o) old → AreRising 0 ids → AreHeld things old ids → AreHeld things new rest
among_held things id ids rest o old new same is rising held =
    subst (λ xs. AreHeld things xs rest) (sym is) (at o (subst (AreRising 0) same rising) (subst (AreHeld things old) same held))
  where
    at : (o : Option ℕ) → AreRising 0 (id ∷ rest) → AreHeld things old (id ∷ rest) → AreHeld things (without_freed (entry_of id o) old) rest
    at None rising held = held.1
    at (Some label) rising held = held_without things old id (id + 1) rest (omega arith) rising.1 held.1

pub rest_rising : (id : ℕ) (ids rest : List ℕ) → ids ≡ id ∷ rest → AreRising 0 ids → AreRising 0 rest
rest_rising id ids rest same rising = rising_weaker 0 (id + 1) rest (omega arith) (subst (AreRising 0) same rising).1

pub first_held : (things : List Thing) (fbs : List (Slot Framebuffer)) (id : ℕ) (ids rest : List ℕ) → ids ≡ id ∷ rest
    → AreHeld things fbs ids → value_with_id fbs id ≡ held_where (λ thing. true) (thing_with_id things id)
first_held things fbs id ids rest same held = (subst (AreHeld things fbs) same held).0

-- the stores tell the same of a machine whatever references there are
pub tells_still : {t : Topology} {m : Machine} {first : Made} (made : Made) {present : Duplicates} {registers : RegisterFile} {tracker :
    Tracking}
    {crtcs : ℕ} → OnlyFbs first made → TellNeeds t m first present registers tracker crtcs
    → TellNeeds t m made present registers tracker crtcs
tells_still {t} {m} made {present} {registers} {tracker} {crtcs} only tell =
    subst (λ z. TellNeeds t m z present registers tracker crtcs) (sym only)
    (record {
      device = tell.device;
      count = tell.count;
      world = record { things = tell.world.things; next_id = tell.world.next_id; states = tell.world.states };
      written = tell.written;
      kept = tell.kept;
    })
