use Rattle.std.proofs.Common.{◌≡◌, List, Some, arith, rules, Fits, w32}
use Rattle.kms_model.specs.declared.pictures.Layer.{Layer}
use Rattle.kms_model.specs.declared.pictures.Rect.{Rect}
use Rattle.kms_compose.specs.declared.images.FbImage.{FbImage}
use Rattle.kms_compose.specs.Images.{IsShown, image_seen, seen_under}
use Rattle.kms_compose.specs.Parts.{IsVisible}
use Rattle.kms_compose.proofs.Visible.{cut_colour, cut_part, is_visible}
use Rattle.kms_compose.proofs.parts.part_of.Goals as goal

seen : (images : List FbImage) (l : Layer) (v : Rect) → IsShown images l → Fits w32 l.fb.width → Fits w32 l.fb.height → l.visible ≡ Some v
    → IsVisible l v
seen images l v is width height shown = is_visible is.mode l v is.narrow is.low (omega (arith, width)) (omega (arith, height))
    is.showable.placed shown

pub cut-requires-clause-visible : goal.cut-requires-clause-visible
cut-requires-clause-visible c = seen c.args.images.now c.args.layer.now c.in-Some.visible c.requires (search rules) (search rules)
    (search rules)

pub returns-clause-colours : goal.returns-clause-colours
returns-clause-colours c = λ x y.
    let shown : c.args.layer.now.visible ≡ Some c.in-Some.visible = search rules in
    let found : seen_under c.args.images.now c.args.layer.now.fb.id ≡ Some (image_seen c.in-Some-image_of.image) = search rules in
    cut_colour c.args.images.now c.args.layer.now c.in-Some.visible c.in-Some-image_of.image c.in_ok-cut.field-0 found shown
    (seen c.args.images.now c.args.layer.now c.in-Some.visible c.requires (search rules) (search rules) shown) c.in_ok-cut.ensures x y

pub returns-clause-part : goal.returns-clause-part
returns-clause-part c =
    let shown : c.args.layer.now.visible ≡ Some c.in-Some.visible = search rules in
    cut_part c.requires.mode c.args.layer.now c.in-Some.visible c.in-Some-image_of.image c.in_ok-cut.field-0 c.requires.showable.placed
    (seen c.args.images.now c.args.layer.now c.in-Some.visible c.requires (search rules) (search rules) shown) c.in_ok-cut.ensures
