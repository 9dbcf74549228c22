use Rattle.std.proofs.Common.{◌≡◌, ◌≤◌, ◌+◌, ◌++◌, drop, length}
use Rattle.kms_model.specs.declared.objects.Topology.{Topology}
use Rattle.kms_model.specs.Machine.State.{Machine}
use Rattle.kms_core.specs.Freeing.{AreRising, framebuffers_in, freed_among}
use Rattle.kms_core.specs.Stored.{AreHeld, without_freed}
use Rattle.kms_core.specs.Needs.{TellNeeds}
use Rattle.kms_core.proofs.stores.StoredCalls.{OnlyFbs}
use Rattle.kms_core.proofs.freeing.freed.free.Given as goal

-- what is recorded with what the rest free is what all free, and so is what has left the store; there are places for the rest, and the
-- store has them
abbrev pub invariant-loop-id : goal.invariant-loop-id
invariant-loop-id l = record {
  items : (t : Topology) (m : Machine)
      → TellNeeds t m l.initial.things l.in_use.present.now l.in_use.registers.now l.in_use.tracker.now l.in_use.crtcs
      → l.freed.items ++ freed_among t m (drop l.id-index l.ids) ≡ l.initial.freed.items ++ freed_among t m l.ids;
  places : (t : Topology) (m : Machine)
      → TellNeeds t m l.initial.things l.in_use.present.now l.in_use.registers.now l.in_use.tracker.now l.in_use.crtcs
      → l.initial.freed.places + length (freed_among t m (drop l.id-index l.ids)) ≡ l.freed.places + length (freed_among t m l.ids);
  room : framebuffers_in l.initial.things.things (drop l.id-index l.ids) ≤ l.freed.places;
  only : OnlyFbs l.initial.things l.things;
  left : (t : Topology) (m : Machine)
      → TellNeeds t m l.initial.things l.in_use.present.now l.in_use.registers.now l.in_use.tracker.now l.in_use.crtcs
      → without_freed (freed_among t m (drop l.id-index l.ids)) l.things.fbs ≡ without_freed (freed_among t m l.ids) l.initial.things.fbs;
  rising : AreRising 0 (drop l.id-index l.ids);
  held : AreHeld l.initial.things.things l.things.fbs (drop l.id-index l.ids);
}
