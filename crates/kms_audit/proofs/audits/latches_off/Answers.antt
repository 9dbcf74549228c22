use Rattle.std.proofs.Common.{List, [], ap, length, map, refl, ◌∙◌}
use Rattle.kms_audit.proofs.Parted.{latches-first}
use Rattle.kms_audit.specs.Latching.{LatchFields}
use Rattle.kms_audit.specs.Sections.{is_placed}
use Rattle.kms_model.proofs.TouchedLemmas.{few_objects}
use Rattle.kms_model.specs.Report.Right.{latch_from}
use Rattle.kms_model.specs.Report.RightAnswers.{first_off}
use Rattle.kms_audit.proofs.audits.latches_off.Goals as goal

pub first_unmet-unmet-requires : goal.first_unmet-unmet-requires
first_unmet-unmet-requires c = (few_objects c.args.script.now.topology c.requires.formed.device).crtcs

pub placed_off-placed-requires : goal.placed_off-placed-requires
placed_off-placed-requires c = (few_objects c.args.script.now.topology c.requires.formed.device).crtcs

pub returns : goal.returns
returns c =
    let t = c.args.script.now.topology in
    let same = c.as_slice-lines.ensures.value in
    c.earliest.ensures
    ∙ latches-first c.args.script.now c.args.report.now c.args.walk.now t.crtcs
    (length c.as_slice-lines.result.now) c.placed_off-placed.result c.first_unmet-unmet.result
    c.requires.walked refl (ap length same)
    (c.placed_off-placed.ensures t refl ∙ ap (λ (xs : List LatchFields). first_off (is_placed t) [] (map latch_from xs)) same)
    c.first_unmet-unmet.ensures
