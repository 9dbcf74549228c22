use Rattle.std.proofs.Common.{◌≡◌, ap, ◌∙◌, ◌+◌, rules}
use Rattle.kms_model.specs.Device.States.{natural}
use Rattle.kms_compose.specs.Sources.{source_place}
use Rattle.kms_compose.proofs.Visible.{cut_is, size_some}
use Rattle.kms_compose.proofs.parts.cut.Goals as goal

pub places_of-requires-clause-seen : goal.places_of-requires-clause-seen
places_of-requires-clause-seen c =
    let left : c.natural-left.result ≡ natural c.args.visible.now.x = search rules in
    let width : c.natural-width.result ≡ natural c.args.visible.now.w = search rules in
    rw (c.across.ensures, left, width) c.requires.visible.columns

pub places_of-requires-clause-some : goal.places_of-requires-clause-some
places_of-requires-clause-some c =
    let width : c.natural-width.result ≡ natural c.args.visible.now.w = search rules in
    rw width (size_some c.args.visible.now.w c.requires.visible.wide)

pub places_of-requires-2-clause-seen : goal.places_of-requires-2-clause-seen
places_of-requires-2-clause-seen c =
    let top : c.natural-top.result ≡ natural c.args.visible.now.y = search rules in
    let height : c.natural-height.result ≡ natural c.args.visible.now.h = search rules in
    rw (c.down.ensures, top, height) c.requires.visible.rows

pub places_of-requires-2-clause-some : goal.places_of-requires-2-clause-some
places_of-requires-2-clause-some c =
    let height : c.natural-height.result ≡ natural c.args.visible.now.h = search rules in
    rw height (size_some c.args.visible.now.h c.requires.visible.high)

pub returns : goal.returns
returns c =
    let left : c.natural-left.result ≡ natural c.args.visible.now.x = search rules in
    let width : c.natural-width.result ≡ natural c.args.visible.now.w = search rules in
    let top : c.natural-top.result ≡ natural c.args.visible.now.y = search rules in
    let height : c.natural-height.result ≡ natural c.args.visible.now.h = search rules in
    cut_is _ _ _ _ c.requires.visible c.requires.image (search rules) left top width height c.in_ok-columns.ensures.count
    (λ k within. c.in_ok-columns.ensures.places k within ∙ ap (λ r. source_place r (c.natural-left.result + k)) c.across.ensures)
    c.in_ok-rows.ensures.count
    (λ k within. c.in_ok-rows.ensures.places k within ∙ ap (λ r. source_place r (c.natural-top.result + k)) c.down.ensures)
    (search rules) (search rules)
