-- The connectors so far that go off were added.
use Rattle.std.proofs.Common.{◌≡◌, ◌++◌}
use Rattle.std.specs.List.{flat_map, range_with_len}
use Rattle.kms_model.specs.Legacy.Translation.{present_of}
use Rattle.kms_legacy.proofs.GoingOff.{off_alone}
use Rattle.kms_legacy.proofs.setting.push_conns_off.Given as goal

abbrev pub invariant-loop-conn : goal.invariant-loop-conn
invariant-loop-conn l =
    l.assigns.items ≡ l.initial.assigns.items ++ flat_map (off_alone (present_of l.states) l.crtc l.but) (range_with_len 0 l.conn)
