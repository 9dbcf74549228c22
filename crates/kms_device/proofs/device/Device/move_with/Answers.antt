use Rattle.std.proofs.Common.{sym, subst}
use Rattle.kms_model.specs.declared.scripts.Script.{Script}
use Rattle.kms_model.specs.Request.Deciding.{AreOfSoundWorld}
use Rattle.kms_device.specs.Trying.{with_looks}
use Rattle.kms_device.proofs.TriedCases.{of_sound_world}
use Rattle.kms_device.proofs.device.Device.move_with.Goals as goal

pub next_move-requires-clause-held : goal.next_move-requires-clause-held
next_move-requires-clause-held g c =
    subst (λ (s : Script). AreOfSoundWorld s.topology c.args.kept.now.states) (sym c.script.ensures)
    (of_sound_world c.args.self.now.script c.args.pass.now (with_looks c.args.work.looks c.args.kept.now.states) c.requires.works.ready)
