use Rattle.std.proofs.Common.{◌∙◌, [], ◌∷◌, ap, refl, sym, arith}
use Rattle.std.specs.Option.{option_copied}
use Rattle.kms_model.specs.declared.replies.Step.TheVariants.{Cleanup}
use Rattle.kms_model.specs.Machine.Framebuffers.{commit_keeps}
use Rattle.kms_core.specs.Freeing.{AreAllOf}
use Rattle.kms_core.specs.Run.{Run, machine}
use Rattle.kms_core.proofs.stores.Found.{found_some}
use Rattle.kms_core.proofs.stores.Histories.{gained, seen}
use Rattle.kms_core.proofs.stores.Spared.{own_holds, own_room}
use Rattle.kms_core.proofs.tails.Marking.{HasForgotten, cleans_up, cleanup_held, cleanup_places, cleanup_there, few_cleaned, owns_cleanup}
use Rattle.kms_core.proofs.tails.Marking.{tail_keeps_all}
use Rattle.kms_core.proofs.machine.Core.cleanup.Goals.{After-as_slice}
use Rattle.kms_core.proofs.machine.Core.cleanup.Goals as goal

-- what is freed is what the commit keeps
kept : (c : After-as_slice) → AreAllOf c.as_slice.result.now
    (λ id. commit_keeps c.args.self.now.script.topology (machine c.args.self.now).device id c.args.commit)
kept c = tail_keeps_all
    (seen c.stores.invariant (c.stores.view_is ∙ c.deref_mut-stores.ensures.value ∙ c.self.view_is)).stands c.requires
    (ap option_copied (sym c.unwrap.ensures) ∙ c.get.ensures) c.kept_ids-kept_ids.ensures c.as_slice.ensures.value

forgets : (c : After-as_slice) → HasForgotten c.args.commit c.stores.inside.tracker c.cleanup.new.self
forgets c = record { count = c.cleanup.ensures.count; lasts = c.cleanup.ensures.lasts; tails = c.cleanup.ensures.tails }

pub unwrap-requires : goal.unwrap-requires
unwrap-requires c = found_some c.get.result (λ none.
    cleanup_there c.args.commit (seen c.stores.invariant (c.stores.view_is ∙ c.deref_mut-stores.ensures.value ∙ c.self.view_is)).stands
    c.requires (ap option_copied none ∙ c.get.ensures))

pub free-requires-clause-places : goal.free-requires-clause-places
free-requires-clause-places c =
    cleanup_places
    (seen c.stores.invariant (c.stores.view_is ∙ c.deref_mut-stores.ensures.value ∙ c.self.view_is)).stands c.requires
    (kept (goal.at.free-requires-clause-places c).After-as_slice)

pub free-requires-clause-rising : goal.free-requires-clause-rising
free-requires-clause-rising c = (kept (goal.at.free-requires-clause-rising c).After-as_slice).rising

pub free-requires-clause-held : goal.free-requires-clause-held
free-requires-clause-held c =
    cleanup_held
    (seen c.stores.invariant (c.stores.view_is ∙ c.deref_mut-stores.ensures.value ∙ c.self.view_is)).stands c.requires
    (kept (goal.at.free-requires-clause-held c).After-as_slice)

pub free-requires-clause-few : goal.free-requires-clause-few
free-requires-clause-few c =
    let stands = (seen c.stores.invariant (c.stores.view_is ∙ c.deref_mut-stores.ensures.value ∙ c.self.view_is)).stands in
    few_cleaned stands c.requires
    (owns_cleanup stands c.requires c.is_commit_over.ensures c.if-not-is_commit_over.false).over
    (forgets (goal.at.free-requires-clause-few c).After-as_slice)

pub push-requires : goal.push-requires
push-requires c =
    let k = c.args.commit in
    let here = seen c.stores.invariant (c.stores.view_is ∙ c.deref_mut-stores.ensures.value ∙ c.self.view_is) in
    (own_room here
    (owns_cleanup here.stands c.requires c.is_commit_over.ensures c.if-not-is_commit_over.false).own).step

pub invariant_of-stores-2 : goal.invariant_of-stores-2
invariant_of-stores-2 c =
    let known = (goal.at.invariant_of-stores-2 c).After-as_slice in
    let k = c.args.commit in
    let same = c.stores.view_is ∙ c.deref_mut-stores.ensures.value ∙ c.self.view_is in
    let here = seen c.stores.invariant same in
    let owns = owns_cleanup here.stands c.requires c.is_commit_over.ensures c.if-not-is_commit_over.false in
    let more = gained (Cleanup k ∷ []) same refl c.push.ensures.items in
    own_holds here
    (cleans_up k here.stands c.requires owns.over more (forgets known) c.as_slice.result.now c.free.new.freed c.free.new.things
    (kept known) (ap (λ (w : Run). w.script.topology.crtcs) same) c.free.ensures)
    more owns.own c.push.ensures.room (omega arith)
