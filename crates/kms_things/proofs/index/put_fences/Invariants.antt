use Rattle.std.proofs.Common.{◌≡◌, ◌+◌, ◌≤◌, List, length, drop, vec_len, vec_capacity}
use Rattle.std.specs.HashMap.{spare}
use Rattle.kms_model.specs.declared.things.Buffer.{Buffer}
use Rattle.kms_model.specs.declared.things.Framebuffer.{Framebuffer}
use Rattle.kms_model.specs.declared.tables.Slot.{Slot}
use Rattle.kms_model.specs.declared.worlds.World.{World}
use Rattle.kms_things.specs.Index.{AreKept, AreReferred, IsIndex}
use Rattle.kms_things.specs.OutFences.{fences_made}
use Rattle.kms_things.proofs.index.put_fences.Given as goal

abbrev pub invariant-loop-label : goal.invariant-loop-label
invariant-loop-label l = record {
  small : l.next ≤ l.first + l.label-index;
  room : vec_len l.things + length (drop l.label-index l.labels) ≤ vec_capacity l.things;
  spare : length (drop l.label-index l.labels) ≤ spare l.ids;
  indexed : IsIndex l.ids l.things.items;
  made : (w : World) → w.things ≡ l.initial.things.items → w.next_id ≡ l.first → fences_made l.client w l.labels
      ≡ fences_made l.client (record w { things = l.things.items; next_id = l.next }) (drop l.label-index l.labels);
  kept : (buffers : List (Slot Buffer)) → AreKept l.initial.things.items l.first l.initial.ids buffers
      → AreKept l.things.items l.next l.ids buffers;
  referred : (fbs : List (Slot Framebuffer)) → AreReferred l.initial.things.items l.first fbs → AreReferred l.things.items l.next fbs;
}
