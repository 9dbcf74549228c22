use Rattle.std.proofs.Common.{◌≡◌, Some, ap, rules}
use Rattle.kms_model.specs.declared.objects.Mode.{Mode}
use Rattle.kms_model.specs.declared.pictures.Layer.{Layer}
use Rattle.kms_model.specs.declared.pictures.Rect.{Rect}
use Rattle.kms_model.specs.Device.States.{natural}
use Rattle.kms_model.specs.Frames.Images.{FitsMode}
use Rattle.kms_compose.specs.declared.areas.Area.{Area}
use Rattle.kms_compose.proofs.Visible.{IsArea, area_is, is_natural}
use Rattle.kms_compose.proofs.areas.area_of.Goals as goal

of_numbers : (m : Mode) (l : Layer) (v : Rect) (a : Area) → FitsMode m l → l.visible ≡ Some v →
    a ≡ record { left = natural v.x; top = natural v.y; width = natural v.w; height = natural v.h } → IsArea m v a
of_numbers m l v a placed seen is = area_is m l v a placed seen (ap (λ (a : Area). a.left) is) (ap (λ (a : Area). a.width) is)
    (ap (λ (a : Area). a.top) is) (ap (λ (a : Area). a.height) is)

pub area_in-requires : goal.area_in-requires
area_in-requires c = is_natural c.requires.0 c.args.layer.now c.in_ok-visible.visible c.requires.1 (search rules)

pub returns-clause-covers : goal.returns-clause-covers
returns-clause-covers c = λ x y.
    let seen : c.args.layer.now.visible ≡ Some c.in_ok-visible.visible = search rules in
    let area = of_numbers c.requires.0 c.args.layer.now c.in_ok-visible.visible c.area_in.result c.requires.1 seen c.area_in.ensures in
    rw seen (area.covers x y)

pub returns-clause-within : goal.returns-clause-within
returns-clause-within c = λ m placed.
    let seen : c.args.layer.now.visible ≡ Some c.in_ok-visible.visible = search rules in
    (of_numbers m c.args.layer.now c.in_ok-visible.visible c.area_in.result placed seen c.area_in.ensures).fits
