use Rattle.std.proofs.Common.{◌∙◌, ◌≡◌, ◌+◌, ◌++◌, ap, sym, subst, arith, drop, get_or, length}
use Rattle.std.specs.Prelude.{IfSome, Some, true, false}
use Rattle.std.proofs.lemmas.List.{at_drop_more, drop_all}
use Rattle.kms_model.specs.Device.World.{thing_with_id}
use Rattle.kms_core.specs.Freeing.{freed_among, is_framebuffer_in}
use Rattle.kms_core.specs.Stored.{without_freed}
use Rattle.kms_core.proofs.freeing.PutIds.{among_ends, among_items, among_needs, among_places, among_room}
use Rattle.kms_things.specs.Framebuffers.{framebuffer_entry}
use Rattle.kms_things.specs.Made.{Made}
use Rattle.kms_core.proofs.stores.StoredCalls.{among_fbs, among_held, fbs_again, first_held, last_held, rest_rising, tells_still}
use Rattle.kms_core.proofs.freeing.freed.free.Goals as goal

pub release-requires-clause-place : goal.release-requires-clause-place
release-requires-clause-place c =
    among_needs c.args.things.now.things (get_or c.args.ids.now c.loop-id.id-index 0) (drop c.loop-id.id-index c.args.ids.now)
    (drop (c.loop-id.id-index + 1) c.args.ids.now) c.freed_label-label.result c.loop-id.freed.places
    (at_drop_more (λ xs. xs) c.args.ids.now c.loop-id.id-index 0 c.loop-id-test.true)
    (subst (λ things. IfSome c.freed_label-label.result
    (λ label. is_framebuffer_in (thing_with_id things (get_or c.args.ids.now c.loop-id.id-index 0)) ≡ true))
    (ap (λ (made : Made). made.things) c.loop-id.invariant.only) c.freed_label-label.ensures.there)
    c.loop-id.invariant.room

pub release-requires-clause-last : goal.release-requires-clause-last
release-requires-clause-last c =
    last_held c.args.things.now.things c.loop-id.things.fbs (get_or c.args.ids.now c.loop-id.id-index 0) c.freed_label-label.result
    (first_held c.args.things.now.things c.loop-id.things.fbs (get_or c.args.ids.now c.loop-id.id-index 0)
    (drop c.loop-id.id-index c.args.ids.now) (drop (c.loop-id.id-index + 1) c.args.ids.now)
    (at_drop_more (λ xs. xs) c.args.ids.now c.loop-id.id-index 0 c.loop-id-test.true) c.loop-id.invariant.held)
    (subst (λ things. IfSome c.freed_label-label.result
    (λ label. framebuffer_entry (thing_with_id things (get_or c.args.ids.now c.loop-id.id-index 0)) ≡ Some (label, false)))
    (ap (λ (made : Made). made.things) c.loop-id.invariant.only) c.freed_label-label.ensures.closed)

pub loop-id-preserved : goal.loop-id-preserved
loop-id-preserved c =
    let i = c.loop-id.id-index in
    let ids = c.args.ids.now in
    let id = get_or ids i 0 in
    let more = at_drop_more (λ xs. xs) ids i 0 c.loop-id-test.true in
    let label = c.freed_label-label.result in
    let first = c.args.things.now in
    let there =
    subst (λ things. IfSome label (λ label. is_framebuffer_in (thing_with_id things id) ≡ true))
    (ap (λ (made : Made). made.things) c.loop-id.invariant.only) c.freed_label-label.ensures.there in
    let new_fbs = ap (λ (made : Made). made.fbs) c.release.ensures.given in
    record {
      items = λ t m tell.
          among_items t m id
          (drop (i + 1) ids) label c.loop-id.freed.items more c.release.ensures.items
          (c.freed_label-label.ensures.label t m (tells_still c.loop-id.things c.loop-id.invariant.only tell))
          (c.loop-id.invariant.items t m tell);
      places = λ t m tell.
          among_places t m id (drop i ids)
          (drop (i + 1) ids) label c.args.freed.now.places c.loop-id.freed.places c.release.new.freed.places _ more c.release.ensures.places
          (c.freed_label-label.ensures.label t m (tells_still c.loop-id.things c.loop-id.invariant.only tell))
          (c.loop-id.invariant.places t m tell);
      room = among_room first.things id (drop i ids)
          (drop (i + 1) ids) label c.loop-id.freed.places c.release.new.freed.places more c.release.ensures.places there
          c.loop-id.invariant.room;
      only = fbs_again first c.loop-id.things c.release.new.things _ c.loop-id.invariant.only c.release.ensures.given;
      left = λ t m tell.
          among_fbs t m id (drop i ids) (drop (i + 1) ids) label c.loop-id.things.fbs c.release.new.things.fbs _ more new_fbs
          (c.freed_label-label.ensures.label t m (tells_still c.loop-id.things c.loop-id.invariant.only tell))
          (c.loop-id.invariant.left t m tell);
      rising = rest_rising id (drop i ids) (drop (i + 1) ids) more c.loop-id.invariant.rising;
      held = among_held first.things id (drop i ids)
          (drop (i + 1) ids) label c.loop-id.things.fbs c.release.new.things.fbs more new_fbs c.loop-id.invariant.rising
          c.loop-id.invariant.held;
    }

pub returns : goal.returns
returns c =
    let none = drop_all c.loop-id.id-index c.args.ids.now c.loop-id-test.false in
    record {
      items = λ t m tell. sym (among_ends c.loop-id.freed.items) ∙ ap (λ xs. c.loop-id.freed.items ++ freed_among t m xs) (sym none) ∙
          c.loop-id.invariant.items t m tell;
      places = λ t m tell. (let left = ap (λ xs. length (freed_among t m xs)) none in let all = c.loop-id.invariant.places t m tell
          in omega (arith, left, all));
      made = λ t m tell.
          c.loop-id.invariant.only
          ∙ ap (λ fbs. record c.args.things.now { fbs = fbs })
          (ap (λ xs. without_freed (freed_among t m xs) c.loop-id.things.fbs) (sym none) ∙ c.loop-id.invariant.left t m tell);
    }
