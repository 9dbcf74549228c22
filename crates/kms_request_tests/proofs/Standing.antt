-- Devices that stand in sound worlds, and the states of their objects.
use Rattle.std.proofs.Common.{◌≡◌, ◌∙◌, ℕ, Bool, true, false, List, Option, None, replicate, refl, sym, subst}
use Rattle.std.specs.Prelude.{cond}
use Rattle.kms_model.specs.declared.objects.Topology.{Topology}
use Rattle.kms_model.specs.declared.replies.Reply.{Reply}
use Rattle.kms_model.specs.declared.scripts.Command.{Command}
use Rattle.kms_model.specs.declared.scripts.Request.{Request}
use Rattle.kms_model.specs.declared.scripts.Script.{Script}
use Rattle.kms_model.specs.declared.sets.Resolved.{Resolved}
use Rattle.kms_model.specs.declared.states.Both.{Both}
use Rattle.kms_model.specs.declared.states.Duplicates.{Duplicates}
use Rattle.kms_model.specs.declared.worlds.Look.{Look}
use Rattle.kms_model.specs.Device.Execution.{Executed, execute}
use Rattle.kms_model.specs.Device.Properties.{keeps_limits}
use Rattle.kms_model.specs.Device.Sound.{IsDevice, IsLawful}
use Rattle.kms_model.specs.Device.World.{start}
use Rattle.kms_model.specs.Request.Agreement.{AgreesOld, AreOld}
use Rattle.kms_model.specs.Request.Deciding.{AreFresh, AreFreshIn, AreOfSoundWorld, IsAskedFor}
use Rattle.kms_model.specs.Request.Resolves.{IsResolved}
use Rattle.kms_model.specs.Script.WellFormed.{IsWellFormed}
use Rattle.kms_model.proofs.Facts.{nothing_there}
use Rattle.kms_model.proofs.SoundKept.{execution_keeps_lawful}
use Rattle.kms_model.proofs.SoundStart.{start_is_lawful}
use Rattle.kms_request.proofs.WholeLemmas.{limits_of}
use Rattle.kms_serial.specs.Device.{Device}
use Rattle.kms_things.specs.Present.{IsPresent}
use Rattle.kms_request_tests.specs.Standing.{Stands}

-- a device before the first command
pub stands_start : (t : Topology) (d : Device) → IsDevice t → d ≡ record { topology = t; world = start t } → Stands t d
stands_start t d device is = subst (Stands t) (sym is) (record { device = device; same = refl; lawful = start_is_lawful t device })

-- and after a command
pub stands_after : (t : Topology) (old new : Device) (client : ℕ) (c : Command) (r : Reply) → Stands t old
    → execute old.topology old.world client c ≡ record { world = new.world; reply = r } → new.topology ≡ old.topology → Stands t new
stands_after t old new client c r s executed same =
    let here : execute t old.world client c ≡ record { world = new.world; reply = r } = subst
    (λ (u : Topology). execute u old.world client c ≡ record { world = new.world; reply = r }) s.same executed in
    record {
      device = s.device;
      same = same ∙ s.same;
      lawful = subst (λ (e : Executed). IsLawful t e.world) here (execution_keeps_lawful t old.world client c s.lawful);
    }

pub stands_device : (t : Topology) (d : Device) → Stands t d → IsDevice t
stands_device t d s = s.device

pub formed_device : (s : Script) → IsWellFormed s → IsDevice s.topology
formed_device s formed = formed.device

pub stands_limits : (t : Topology) → IsDevice t → keeps_limits t ≡ true
stands_limits t device = limits_of t device

-- the present states are those of the device's world
pub present_held : (t : Topology) (d : Device) (states : Duplicates) → Stands t d → IsPresent d.topology d.world states
    → AreOfSoundWorld t states
present_held t d states s present = record {
  world = d.world;
  sound = s.lawful.sound;
  old = subst (λ (u : Topology). AgreesOld u d.world.things d.world.values states) s.same present.old;
}

pub present_fresh : (d : Device) (states : Duplicates) → IsPresent d.topology d.world states → AreFresh states
present_fresh d states present = record {
  crtcs = λ i both at. present.new.crtcs i both at ∙ sym (present.old.crtcs i both at);
  planes = λ i both at. present.new.planes i both at ∙ sym (present.old.planes i both at);
  conns = λ i both at. present.new.conns i both at ∙ sym (present.old.conns i both at);
}

-- The states of some kinds of objects alone

abbrev pub of_kinds : Bool → Bool → Bool → Duplicates → Duplicates
of_kinds a b c d = record {
  crtcs = cond a d.crtcs (replicate 4 None);
  planes = cond b d.planes (replicate 16 None);
  conns = cond c d.conns (replicate 8 None);
}

kept_old : {S : Type 0} (is : Bool) (n : ℕ) (state : ℕ → S) (states : List (Option (Both S))) → AreOld state states
    → AreOld state (cond is states (replicate n None))
kept_old true n state states old index both at = old index both at
kept_old false n state states old index both at = absurd (nothing_there n index both at)

kept_fresh : {S : Type 0} (is : Bool) (n : ℕ) (states : List (Option (Both S))) → AreFreshIn states
    → AreFreshIn (cond is states (replicate n None))
kept_fresh true n states fresh index both at = fresh index both at
kept_fresh false n states fresh index both at = absurd (nothing_there n index both at)

pub held_of_kinds : (a b c : Bool) (d : Duplicates) (t : Topology) → AreOfSoundWorld t d → AreOfSoundWorld t (of_kinds a b c d)
held_of_kinds a b c d t held = record {
  world = held.world;
  sound = held.sound;
  old = record {
    crtcs = kept_old a 4 _ d.crtcs held.old.crtcs;
    planes = kept_old b 16 _ d.planes held.old.planes;
    conns = kept_old c 8 _ d.conns held.old.conns;
  };
}

pub fresh_of_kinds : (a b c : Bool) (d : Duplicates) → AreFresh d → AreFresh (of_kinds a b c d)
fresh_of_kinds a b c d fresh = record {
  crtcs = kept_fresh a 4 d.crtcs fresh.crtcs;
  planes = kept_fresh b 16 d.planes fresh.planes;
  conns = kept_fresh c 8 d.conns fresh.conns;
}

-- what a request asks for
pub asked_for : (t : Topology) (f : ℕ → Look) (r : Request) (resolved : Resolved) → IsResolved t f r resolved → IsAskedFor t resolved
asked_for t f r resolved asks = record { names = f; request = r; asks = asks }
