-- A register file that stands for a machine's device goes on standing for it, step by step of the machine.
use Rattle.std.proofs.Common.{◌≡◌, ℕ, ◌+◌, ◌<◌, List, [], ◌∷◌, Bool, true, false, Option, Some, None, inl, inr, arith, refl, sym, ap, ◌∙◌}
use Rattle.std.proofs.Common.{if◌then◌else◌}
use Rattle.std.specs.Prelude.{◌&&◌, ◌==◌, not, nat_le}
use Rattle.std.proofs.lemmas.Bool.{cases_Bool, false≢true, le-leb}
use borrow.Author.Tests.{le-ltb, lt-ltb}
use Rattle.kms_model.specs.Firsts.{one_if}
use Rattle.kms_model.specs.declared.objects.Kind.TheVariants.{Crtc, Plane}
use Rattle.kms_model.specs.declared.objects.Topology.{Topology}
use Rattle.kms_model.specs.declared.replies.Event.{Event}
use Rattle.kms_model.specs.declared.replies.Reply.{Reply}
use Rattle.kms_model.specs.declared.replies.Reply.TheVariants as reply
use Rattle.kms_model.specs.declared.replies.Step.{Step}
use Rattle.kms_model.specs.declared.replies.Step.TheVariants.{Begin, Lock, BackOff, Relock, Refuse, Test, Swap, Make, Signal, Claim, Write}
use Rattle.kms_model.specs.declared.replies.Step.TheVariants.{Flush, HwDone, Vblank, Cleanup, Read, Return, Stall}
use Rattle.kms_model.specs.declared.scripts.Command.{Command}
use Rattle.kms_model.specs.declared.scripts.Command.TheVariants as command
use Rattle.kms_model.specs.declared.scripts.Request.{Request}
use Rattle.kms_model.specs.declared.scripts.Script.{Script}
use Rattle.kms_model.specs.declared.states.CrtcState.{CrtcState}
use Rattle.kms_model.specs.declared.states.PlaneState.{PlaneState}
use Rattle.kms_model.specs.Device.Execution.{execute}
use Rattle.kms_model.specs.Device.Objects.{object_id, is_id_of}
use Rattle.kms_model.specs.Device.World.{thing_labelled}
use Rattle.kms_model.specs.Machine.Commits.{asks_event, id_of_thing, new_connector, new_crtc, new_plane, out_fence_of}
use Rattle.kms_model.specs.Machine.Effects.{answers, blanks, counts_vblank, delivers, delivers_if, fence_signalled, flushes, joins_if}
use Rattle.kms_model.specs.Machine.Effects.{latches, latches_picture, locked, made_thing, next, reads, refused, relocked, signalled_by}
use Rattle.kms_model.specs.Machine.Effects.{signals, swapped_state}
use Rattle.kms_model.specs.Machine.Registers.{CrtcWords, crtc_register, crtc_words, is_on_in, plane_register, plane_words}
use Rattle.kms_model.specs.Machine.State.{DeviceState, Machine, command_at, count_at, doing_at, go_at, holder_at, request_at, unread_at}
use Rattle.kms_model.specs.Machine.Steps.{contended}
use Rattle.kms_model.specs.Request.Flags.{is_nonblock, wants_event}
use Rattle.kms_regs.specs.File.{RegisterFile, StandsForDevice, blanked, flushed, latched_device}
use Rattle.kms_regs.specs.StepLaws.{Blanks, Flushes, WritesCrtc, WritesPlane, keeps_registers, latch_of}

signalled : (t : Topology) (m : Machine) (fence : Option ℕ) (f : RegisterFile) → StandsForDevice t m.device f
    → StandsForDevice t (signals m fence).device f
signalled t m None f stands = stands
signalled t m (Some id) f stands = stands

delivered : (t : Topology) (m : Machine) (k crtc count : ℕ) (asked : Bool) (f : RegisterFile) → StandsForDevice t m.device f
    → StandsForDevice t (if asked then delivers t m k crtc count else m).device f
delivered t m k crtc count true f stands = stands
delivered t m k crtc count false f stands = stands

pub latch_stands : (t : Topology) (m : Machine) (k crtc count : ℕ) (f : RegisterFile) → StandsForDevice t (latched_device t m.device crtc) f
    → StandsForDevice t (latches t m k crtc count).device f
unfolding latches
latch_stands t m k crtc count f stands =
    let shown : Machine = latches_picture t m k crtc count in
    signalled t (delivers_if t shown k crtc count) (out_fence_of t m.device.commits k crtc) f
    (delivered t shown k crtc count (asks_event t m.device.commits k) f stands)

-- a flush: the CRTC is on in its shadow words exactly where it is in the commit's new state
pub flush_stands : (t : Topology) (m : Machine) (k crtc : ℕ) (f : RegisterFile)
    → is_on_in m.device.shadow crtc ≡ (new_crtc t m.device.commits k crtc).active
    → StandsForDevice t (flushed t m.device k crtc) f → StandsForDevice t (flushes t m k crtc).device f
flush_stands t m k crtc f same stands =
    elim (cases_Bool (new_crtc t m.device.commits k crtc).active) [
      | inl on ↦ rw on (rw (same, on) at stands)
      | inr off ↦ rw off (latch_stands t _ k crtc _ f (rw (same, off) at stands))
    ]

-- a vblank
pub blank_stands : (t : Topology) (m : Machine) (crtc : ℕ) (go : Option ℕ) (f : RegisterFile) → go_at m.device crtc ≡ go
    → StandsForDevice t (blanked t m.device crtc) f → StandsForDevice t (blanks t m crtc go).device f
blank_stands t m crtc None f is stands = rw is at stands
blank_stands t m crtc (Some k) f is stands = latch_stands t (counts_vblank m crtc) k crtc _ f (rw is at stands)

-- Steps that leave the registers as they are

on_either : (t : Topology) (b : Bool) (x y : Machine) (f : RegisterFile) → StandsForDevice t x.device f → StandsForDevice t y.device f
    → StandsForDevice t (if b then x else y).device f
on_either t true x y f first second = first
on_either t false x y f first second = second

lock_stands : (t : Topology) (m : Machine) (client object : ℕ) (holder : Option ℕ) (f : RegisterFile) → StandsForDevice t m.device f
    → StandsForDevice t (locked m client object holder).device f
lock_stands t m client object None f stands = stands
lock_stands t m client object (Some other) f stands = stands

relock_stands : (t : Topology) (m : Machine) (client : ℕ) (object : Option ℕ) (f : RegisterFile) → StandsForDevice t m.device f
    → StandsForDevice t (relocked m client object).device f
relock_stands t m client None f stands = stands
relock_stands t m client (Some object) f stands = stands

refuse_stands : (t : Topology) (m : Machine) (client : ℕ) (r : Option Request) (f : RegisterFile) → StandsForDevice t m.device f
    → StandsForDevice t (refused t m client r).device f
unfolding refused
refuse_stands t m client None f stands = stands
refuse_stands t m client (Some r) f stands = stands

swap_stands : (t : Topology) (m : Machine) (client : ℕ) (r : Option Request) (f : RegisterFile) → StandsForDevice t m.device f
    → StandsForDevice t (swapped_state t m client r).device f
unfolding swapped_state
swap_stands t m client None f stands = stands
swap_stands t m client (Some r) f stands =
    elim (cases_Bool (wants_event r.flags)) [
      | inl event ↦ rw event (on_either t (is_nonblock r.flags) _ _ f stands stands)
      | inr none ↦ rw none (on_either t (is_nonblock r.flags) _ _ f stands stands)
    ]

joins_stands : (t : Topology) (m : Machine) (client : ℕ) (b : Bool) (f : RegisterFile) → StandsForDevice t m.device f
    → StandsForDevice t (joins_if b m client).device f
joins_stands t m client true f stands = stands
joins_stands t m client false f stands = stands

make_stands : (t : Topology) (m : Machine) (client : ℕ) (c : Option Command) (f : RegisterFile) → StandsForDevice t m.device f
    → StandsForDevice t (made_thing t m client c).device f
unfolding made_thing
make_stands t m client None f stands = stands
make_stands t m client (Some c) f stands = joins_stands t _ client _ f stands

fence_stands : (t : Topology) (m : Machine) (c : Command) (r : Reply) (f : RegisterFile) → StandsForDevice t m.device f
    → StandsForDevice t (fence_signalled m (Some c) r).device f
fence_stands t m (command.Signal label) reply.Done f stands =
    signalled t m (id_of_thing (thing_labelled m.device.world.things label)) f stands
fence_stands t m c r f stands = stands

signal_stands : (t : Topology) (m : Machine) (client : ℕ) (c : Option Command) (f : RegisterFile) → StandsForDevice t m.device f
    → StandsForDevice t (signalled_by t m client c).device f
signal_stands t m client None f stands = stands
signal_stands t m client (Some c) f stands =
    fence_stands t (answers m client (execute t m.device.world client c).reply) c (execute t m.device.world client c).reply f stands

read_stands : (t : Topology) (m : Machine) (client : ℕ) (events : List Event) (f : RegisterFile) → StandsForDevice t m.device f
    → StandsForDevice t (reads m client events).device f
read_stands t m client [] f stands = stands
read_stands t m client (event ∷ events) f stands = stands

pub others_follow : (s : Script) (m : Machine) (step : Step) (f : RegisterFile) → keeps_registers step ≡ true
    → StandsForDevice s.topology m.device f → StandsForDevice s.topology (next s m step).device f
unfolding next
others_follow s m (Begin client) f kept stands = stands
others_follow s m (Lock client kind index) f kept stands =
    lock_stands s.topology m client (object_id kind index) (holder_at m (object_id kind index)) f stands
others_follow s m (BackOff client) f kept stands = stands
others_follow s m (Relock client) f kept stands = relock_stands s.topology m client (contended (doing_at m client)) f stands
others_follow s m (Refuse client) f kept stands = refuse_stands s.topology m client (request_at s m client) f stands
others_follow s m (Test client) f kept stands = stands
others_follow s m (Swap client) f kept stands = swap_stands s.topology m client (request_at s m client) f stands
others_follow s m (Make client) f kept stands = make_stands s.topology m client (command_at s m client) f stands
others_follow s m (Signal client) f kept stands = signal_stands s.topology m client (command_at s m client) f stands
others_follow s m (Claim k) f kept stands = stands
others_follow s m (Write k kind index) f kept stands = absurd (false≢true kept)
others_follow s m (Flush k kind index) f kept stands = absurd (false≢true kept)
others_follow s m (HwDone k) f kept stands = stands
others_follow s m (Vblank kind index) f kept stands = absurd (false≢true kept)
others_follow s m (Cleanup k) f kept stands = stands
others_follow s m (Read client) f kept stands = read_stands s.topology m client (unread_at m.events client) f stands
others_follow s m (Return client) f kept stands = stands
others_follow s m Stall f kept stands = stands

-- Steps that the calls take

no_crtc : (index : ℕ) → is_id_of Crtc (object_id Plane index) ≡ false
no_crtc index = rw (le-ltb (object_id Plane index) 104 (omega arith)) and_false
  where
    and_false : (nat_le 100 (object_id Plane index) && false) ≡ false
    and_false = elim (cases_Bool (nat_le 100 (object_id Plane index))) [ inl is ↦ rw is refl | inr off ↦ rw off refl ]

of_crtc : (index : ℕ) → index < 4 → is_id_of Crtc (object_id Crtc index) ≡ true
of_crtc index low = rw (le-leb 100 (object_id Crtc index) (omega arith), lt-ltb (object_id Crtc index) 104 (omega (arith, low))) refl

pub write_plane_follows : (s : Script) (m : Machine) (k index : ℕ) (old new : RegisterFile) → StandsForDevice s.topology m.device old
    → WritesPlane old new index (new_plane s.topology m.device.commits k (object_id Plane index))
    → StandsForDevice s.topology (next s m (Write k Plane index)).device new
unfolding next
write_plane_follows s m k index old new stands writes = rw (no_crtc index) (writes s.topology m.device stands)

pub write_crtc_follows : (s : Script) (m : Machine) (k index : ℕ) (old new : RegisterFile) → index < 4
    → StandsForDevice s.topology m.device old
    → WritesCrtc old new index (new_connector s.topology m.device.commits k (object_id Crtc index))
    (new_crtc s.topology m.device.commits k (object_id Crtc index))
    → StandsForDevice s.topology (next s m (Write k Crtc index)).device new
unfolding next
write_crtc_follows s m k index old new low stands writes = rw (of_crtc index low) (writes s.topology m.device stands)

pub flush_follows : (s : Script) (m : Machine) (k index : ℕ) (old new : RegisterFile)
    → is_on_in m.device.shadow (object_id Crtc index) ≡ (new_crtc s.topology m.device.commits k (object_id Crtc index)).active
    → StandsForDevice s.topology m.device old → Flushes old new index
    → StandsForDevice s.topology (next s m (Flush k Crtc index)).device new
unfolding next
flush_follows s m k index old new same stands flushes =
    flush_stands s.topology m k (object_id Crtc index) new same (flushes s.topology m.device k stands)

pub vblank_follows : (s : Script) (m : Machine) (index : ℕ) (old new : RegisterFile) → StandsForDevice s.topology m.device old
    → Blanks old new index → StandsForDevice s.topology (next s m (Vblank Crtc index)).device new
unfolding next
vblank_follows s m index old new stands blanks =
    blank_stands s.topology m (object_id Crtc index) (go_at m.device (object_id Crtc index)) new refl (blanks s.topology m.device stands)

-- What is recorded of a latch

recorded_signals : (m : Machine) (fence : Option ℕ) → (signals m fence).records.latches ≡ m.records.latches
recorded_signals m None = refl
recorded_signals m (Some id) = refl

recorded_delivers : (t : Topology) (m : Machine) (k crtc count : ℕ) (asked : Bool)
    → (if asked then delivers t m k crtc count else m).records.latches ≡ m.records.latches
recorded_delivers t m k crtc count true = refl
recorded_delivers t m k crtc count false = refl

latch_recorded : (t : Topology) (m : Machine) (k crtc count : ℕ)
    → (latches t m k crtc count).records.latches ≡ latch_of t m.device k crtc count ∷ m.records.latches
unfolding latches
latch_recorded t m k crtc count =
    recorded_signals (delivers_if t (latches_picture t m k crtc count) k crtc count) (out_fence_of t m.device.commits k crtc)
    ∙ recorded_delivers t (latches_picture t m k crtc count) k crtc count (asks_event t m.device.commits k)

pub flush_recorded : (s : Script) (m : Machine) (k index : ℕ)
    → (new_crtc s.topology m.device.commits k (object_id Crtc index)).active ≡ false
    → (next s m (Flush k Crtc index)).records.latches
    ≡ latch_of s.topology m.device k (object_id Crtc index) (count_at m.device (object_id Crtc index)) ∷ m.records.latches
unfolding next
flush_recorded s m k index off = rw off (latch_recorded s.topology _ k (object_id Crtc index) (count_at m.device (object_id Crtc index)))

pub vblank_recorded : (s : Script) (m : Machine) (k index : ℕ) → go_at m.device (object_id Crtc index) ≡ Some k
    → (next s m (Vblank Crtc index)).records.latches
    ≡ latch_of s.topology m.device k (object_id Crtc index) (count_at m.device (object_id Crtc index) + 1) ∷ m.records.latches
unfolding next
vblank_recorded s m k index has = rw has (latch_recorded s.topology (counts_vblank m (object_id Crtc index)) k (object_id Crtc index)
    (count_at m.device (object_id Crtc index) + 1))

-- What the calls ask for

pub old_plane_held : (t : Topology) (d : DeviceState) (f : RegisterFile) (index : ℕ) (state : PlaneState) → StandsForDevice t d f
    → plane_register d.shadow (object_id Plane index) ≡ plane_words state
    → plane_register f.shadow (object_id Plane index) ≡ plane_words state
old_plane_held t d f index state stands is = sym (stands.shadow_words.planes index) ∙ is

pub old_crtc_held : (t : Topology) (d : DeviceState) (f : RegisterFile) (index conn : ℕ) (state : CrtcState) → StandsForDevice t d f
    → crtc_register d.shadow (object_id Crtc index) ≡ crtc_words conn state
    → crtc_register f.shadow (object_id Crtc index) ≡ crtc_words (crtc_register f.shadow (object_id Crtc index)).conn state
unfolding crtc_words
old_crtc_held t d f index conn state stands is =
    let here : crtc_register f.shadow (object_id Crtc index) ≡ crtc_words conn state = sym (stands.shadow_words.crtcs index) ∙ is in
    here ∙ ap (λ (n : ℕ). crtc_words n state) (sym (ap (λ (w : CrtcWords). w.conn) here))

on_flag : (b : Bool) → not (one_if b == 0) ≡ b
on_flag true = refl
on_flag false = refl

pub on_in_words : (d : DeviceState) (crtc conn : ℕ) (state : CrtcState) → crtc_register d.shadow crtc ≡ crtc_words conn state
    → is_on_in d.shadow crtc ≡ state.active
unfolding crtc_words
on_in_words d crtc conn state is = ap (λ (w : CrtcWords). not (w.active == 0)) is ∙ on_flag state.active
