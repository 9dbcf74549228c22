-- A value at the place of its id in a table of rising ids.
use Rattle.std.proofs.Common.{◌≡◌, ℕ, ◌<◌, length, List, get_or, set, Some, ap}
use Rattle.std.specs.List.{remove}
use Rattle.kms_model.specs.declared.tables.Slot.{Slot}
use Rattle.kms_model.specs.Things.Tables.{IsRising, slot, slot_ids, value_with_id, with_value, without_id}
use Rattle.kms_model.proofs.TableLemmas.{FoundAt, found, value-present, with_value-present, without_id-present}
use Rattle.kms_signal.specs.Rooms.{Rooms}

-- a value at the place that was found for its id: what it is, and what is left once it is another or is taken out
module _ {T : Type 0} (slice slots : List (Slot T)) (i id : ℕ) (is : slice ≡ slots) (rising : IsRising slots) (within : i < length slice)
    (same : get_or (slot_ids slice) i 0 ≡ id) where
  at : FoundAt slots i id
  at = found slice slots i id is rising within same

  pub value_there : (s : Slot T) → s ≡ get_or slots i s → Some s.value ≡ value_with_id slots id
  value_there s read = value-present slots i id s at.rising at.within at.same read

  pub set_there : (value : T) → set slots i (slot id value) ≡ with_value slots id value
  set_there value = with_value-present slots i id value at.rising at.within at.same

  pub removed_there : remove slots i ≡ without_id slots id
  removed_there = without_id-present slots i id at.rising at.within at.same

-- equal slots with equal room
pub in_room : {T : Type 0} {slots others : List (Slot T)} {room : ℕ} → slots ≡ others
    → (let a : Rooms T = record { slots = slots; room = room } in a) ≡ record { slots = others; room = room }
in_room {T} {slots} {others} {room} same = ap (λ (s : List (Slot T)). (let r : Rooms T = record { slots = s; room = room } in r)) same
