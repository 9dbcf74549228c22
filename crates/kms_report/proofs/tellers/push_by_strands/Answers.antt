use Rattle.std.proofs.Common.{◌+◌, ◌-◌, drop, length}
use Rattle.std.proofs.lemmas.List.Elements.{All-drop, All-take}
use Rattle.kms_model.specs.Frames.Shown.{EachCanBeShown}
use Rattle.kms_model.specs.declared.runs.Latch.{Latch}
use Rattle.kms_report.specs.Images.{things_of}
use Rattle.kms_report.proofs.tellers.push_by_strands.Goals as goal

pub show_latch-requires-clause-screen : goal.show_latch-requires-clause-screen
show_latch-requires-clause-screen g c = c.dark-dark.ensures.things (things_of c.args.told.now.core.now)

pub show_latch-requires-clause-after : goal.show_latch-requires-clause-after
show_latch-requires-clause-after g c =
    All-take (λ (l : Latch). EachCanBeShown (things_of c.args.told.now.core.now) l.picture)
    (length c.args.told.now.latches.now - (c.in-Some.place + 1)) (drop (c.in-Some.place + 1) c.args.told.now.latches.now)
    (All-drop (λ (l : Latch). EachCanBeShown (things_of c.args.told.now.core.now) l.picture) (c.in-Some.place + 1)
    c.args.told.now.latches.now c.requires.can)
