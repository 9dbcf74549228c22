-- What a client needs locked for its request, and what it lacks, in the order of one thread. This device's own.
use Rattle.std.specs.Prelude.{ℕ, ◌≡◌, ◌&&◌, ◌||◌, All, not, Bool, true, Some, None, if◌then◌else◌}
use Rattle.std.specs.List.{list_any, range_with_len}
use Rattle.kms_model.specs.declared.objects.Kind.{Kind}
use Rattle.kms_model.specs.declared.objects.Kind.TheVariants.{Conn, Crtc, Plane}
use Rattle.kms_model.specs.declared.objects.Topology.{Topology}
use Rattle.kms_model.specs.declared.scripts.Request.{Request}
use Rattle.kms_model.specs.declared.scripts.Script.{Script}
use Rattle.kms_model.specs.declared.worlds.World.{World}
use Rattle.kms_model.specs.Device.Objects.{count_of, object_id}
use Rattle.kms_model.specs.Device.Sound.{IsDevice}
use Rattle.kms_model.specs.Machine.State.{Machine, holds}
use Rattle.kms_model.specs.Machine.Steps.{may_lock}
use Rattle.kms_model.specs.Order.Turns.{in_affected_group, in_named_group, in_set_group}
use Rattle.kms_model.specs.Request.Groups.{affected_group, named_group}
use Rattle.kms_model.specs.Request.Resolves.{IsSettable}
use Rattle.kms_model.specs.Request.Touched.{touched_by}
use Rattle.kms_model.specs.Request.Verdict.{early_in}
use Rattle.kms_core.specs.declared.next.groups.Group.{Group}
use Rattle.kms_core.specs.declared.next.groups.Group.TheVariants as group
use Rattle.kms_core.specs.declared.next.groups.Needs.{Needs}
use Rattle.kms_core.specs.Decisions.{world}
use Rattle.kms_core.specs.Judging.{request_taken}
use Rattle.kms_core.specs.Run.{Run, machine}

-- an object is in a group
abbrev pub in_group : Topology → World → Request → Group → ℕ → Bool
in_group t w r group.Set object = in_set_group r object
in_group t w r group.Named object = in_named_group t w r object
in_group t w r group.Affected object = in_affected_group t w r object
in_group t w r group.Any object = true

-- a client does not hold it
abbrev pub is_missing : Topology → Machine → ℕ → Request → Group → ℕ → Bool
is_missing t m client r g object = in_group t m.device.world r g object && not (holds m client object)

-- and may ask for it
abbrev pub is_open : Script → Machine → ℕ → Request → Group → ℕ → Bool
is_open s m client r g object = is_missing s.topology m client r g object && may_lock s m client object

-- a client does not hold some object of a kind in a group, and of the group
abbrev pub lacks_some : Topology → Machine → ℕ → Request → Group → Kind → Bool
lacks_some t m client r g kind = list_any (λ index. is_missing t m client r g (object_id kind index)) (range_with_len 0 (count_of t kind))

abbrev pub lacks : Topology → Machine → ℕ → Request → Group → Bool
lacks t m client r g = lacks_some t m client r g Crtc || (lacks_some t m client r g Plane || lacks_some t m client r g Conn)

-- the first group that a client does not hold whole; the last one where it holds the first two
abbrev pub first_lacked : Topology → Machine → ℕ → Request → Group
first_lacked t m client r = if lacks t m client r group.Set then group.Set
    else (if lacks t m client r group.Named then group.Named else group.Affected)

-- what a request names, affects and touches
pub record AreNeeds (t : Topology) (w : World) (n : Needs) : Type 0 where
  pub named : n.named ≡ named_group t w n.request.now
  pub affected : n.affected ≡ affected_group t w n.request.now
  pub touched : n.touched ≡ touched_by t w n.request.now

-- they are those of the request for which a client takes locks, and no early refusal is due
pub record NeedsLocks (run : Run) (client : ℕ) (n : Needs) : Type 0 where
  pub taken : Some n.request.now ≡ request_taken run.script (machine run) client
  pub none : early_in run.script.topology (world run) n.request.now ≡ None
  pub needs : AreNeeds run.script.topology (world run) n
  pub device : IsDevice run.script.topology
  pub settable : All IsSettable n.request.now.assigns
