use Rattle.std.proofs.Common.{rules}
use Rattle.kms_model.specs.Device.Objects.{object_id}
use Rattle.kms_model.specs.declared.objects.Kind.TheVariants.{Plane}
use Rattle.kms_regs.proofs.BankLemmas.{copied_set, plane_set}
use Rattle.kms_regs.proofs.banks.Bank.latch_plane.Goals as goal

pub returns-then-is_copied : goal.returns-then-is_copied
returns-then-is_copied c =
    copied_set c.args.shadow.now c.args.self.now _ c.args.crtc (object_id Plane c.args.index) (search rules)
    (plane_set c.self.inside.planes c.self.inside.crtcs c.args.index c.self.view_is (search rules) c.plane.ensures)
