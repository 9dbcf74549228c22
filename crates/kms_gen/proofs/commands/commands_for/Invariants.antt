use Rattle.std.proofs.Common.{◌≡◌, ◌++◌, ◌+◌, ◌-◌}
use Rattle.std.specs.List.{flat_map}
use Rattle.kms_model.specs.Script.Generated.{commands_for, drawn_from, flips_of}
use Rattle.kms_gen.proofs.commands.commands_for.Given as goal

abbrev pub invariant-loop-index : goal.invariant-loop-index
invariant-loop-index l =
    l.commands.items ++ flat_map (flips_of l.crtc) (drawn_from l.index l.x (l.n + 1 - l.index))
    ≡ commands_for (drawn_from 1 l.seed l.n) l.crtc
