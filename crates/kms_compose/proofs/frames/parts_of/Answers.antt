use Rattle.std.proofs.Common.{◌≡◌, ◌<◌, ℕ, ◌+◌, List, [], ◌∷◌, ◌++◌, drop, Option, Some, None, slice_index_or, refl, subst, ap, sym, ◌∙◌}
use Rattle.std.proofs.Common.{arith, rules, length}
use Rattle.std.specs.Prelude.{All, IfSome}
use Rattle.std.proofs.lemmas.List.{append-nil, at_drop_more}
use Rattle.std.proofs.lemmas.List.Elements.{All-push}
use Rattle.kms_model.specs.Firsts.{listed}
use Rattle.kms_model.specs.declared.pictures.Colour.{Colour}
use Rattle.kms_model.specs.declared.pictures.Layer.{Layer}
use Rattle.kms_model.specs.Frames.FrameBytes.{black, composed, layer_colour, mixed}
use Rattle.kms_compose.specs.declared.parts.VisiblePart.{VisiblePart}
use Rattle.kms_compose.specs.Images.{IsShowable, word_under}
use Rattle.kms_compose.specs.Parts.{IsPart, part_colour, parts_over, seen_colour}
use Rattle.kms_compose.proofs.frames.parts_of.Goals as goal

all_listed : (parts : List VisiblePart) (p : Option VisiblePart) → All IsPart parts → IfSome p IsPart → All IsPart (parts ++ listed p)
all_listed parts None all one = rw (append-nil parts) all
all_listed parts (Some p) all one = All-push IsPart parts p all one

-- a part over the others, where there is one
parts_over-push : (x y : ℕ) (under : Colour) (parts : List VisiblePart) (p : VisiblePart) → parts_over x y under (parts ++ p ∷ [])
    ≡ mixed p.layer (parts_over x y under parts) (part_colour p x y)
parts_over-push x y under [] p = refl
parts_over-push x y under (q ∷ parts) p = parts_over-push x y (mixed q.layer under (part_colour q x y)) parts p

-- a layer over the parts so far is its part over them
part_added : (words : ℕ → ℕ → ℕ → Option ℕ) (x y : ℕ) (under : Colour) (parts : List VisiblePart) (layer : Layer) (p : Option VisiblePart) →
    layer_colour words x y layer ≡ seen_colour p x y → IfSome p (λ q. q.layer ≡ layer) →
    parts_over x y under (parts ++ listed p) ≡ mixed layer (parts_over x y under parts) (layer_colour words x y layer)
part_added words x y under parts layer None e own = rw (append-nil parts, e) refl
part_added words x y under parts layer (Some p) e own =
    parts_over-push x y under parts p
    ∙ ap (λ (l : Layer). mixed l (parts_over x y under parts) (part_colour p x y)) own
    ∙ ap (mixed layer (parts_over x y under parts)) (sym e)

-- one layer more
layer_added : (words : ℕ → ℕ → ℕ → Option ℕ) (x y : ℕ) (parts new : List VisiblePart) (layers : List Layer) (i : ℕ) (d : Layer)
    (p : Option VisiblePart) (whole : Colour) →
    i < length layers → new ≡ parts ++ listed p →
    layer_colour words x y (slice_index_or layers i d) ≡ seen_colour p x y → IfSome p (λ q. q.layer ≡ slice_index_or layers i d) →
    composed words x y (parts_over x y black parts) (drop i layers) ≡ whole →
    composed words x y (parts_over x y black new) (drop (i + 1) layers) ≡ whole
layer_added words x y parts new layers i d p whole below now colour own before =
    let over = part_added words x y black parts (slice_index_or layers i d) p colour own in
    ap (λ (ps : List VisiblePart). composed words x y (parts_over x y black ps) (drop (i + 1) layers)) now
    ∙ ap (λ (under : Colour). composed words x y under (drop (i + 1) layers)) over
    ∙ sym (at_drop_more (composed words x y (parts_over x y black parts)) layers i d below)
    ∙ before

pub loop-layer-preserved : goal.loop-layer-preserved
loop-layer-preserved c =
    let below : c.loop-layer.layer-index < length c.as_slice-layer-items.result.now = omega arith in
    let now : c.push_part.new.parts.items ≡ c.loop-layer.parts.items ++ listed c.in_ok-part_of.field-0 = search rules in record {
      parts = rw now (all_listed _ _ c.loop-layer.invariant.parts c.in_ok-part_of.ensures.part);
      colours = λ x y. layer_added (word_under c.args.images.now) x y _ _ _ _ _ _ _ below now (c.in_ok-part_of.ensures.colours x y)
          c.in_ok-part_of.ensures.layer (c.loop-layer.invariant.colours x y);
    }

pub part_of-requires : goal.part_of-requires
part_of-requires c =
    let below : c.loop-layer.layer-index < length c.as_slice-layer-items.result.now = omega arith in
    let showable = subst (λ (layers : List Layer). All (IsShowable c.args.shown.now.mode c.args.images.now) layers)
    (sym c.as_slice-layer-items.ensures) c.requires.layers in
    record {
      mode = c.args.shown.now.mode;
      narrow = c.requires.narrow;
      low = c.requires.low;
      showable = showable c.loop-layer.layer-index _ below;
    }
