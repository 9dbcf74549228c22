use Rattle.std.proofs.Common.{rules, ◌≡◌, Err, Ok, refl, ap, sym, subst, ◌∙◌}
use Rattle.kms_model.specs.declared.things.Framebuffer.{Framebuffer}
use Rattle.kms_model.specs.declared.tables.Slot.{Slot}
use Rattle.std.specs.Prelude.{List, ◌==◌}
use Rattle.kms_model.specs.declared.replies.TheConstants.Denied.{NOT_FOUND}
use Rattle.kms_model.specs.Things.Kept.{close_answer}
use Rattle.kms_model.specs.Things.OpenThings.{denial}
use Rattle.kms_model.specs.Things.Tables.{IsRising, value_with_id, without_id}
use Rattle.kms_model.proofs.OpenLemmas.{closed_values}
use Rattle.kms_buffers.specs.Things.{fb_of_content, open_fbs}
use Rattle.kms_buffers.proofs.Things.{fewer_closed}
use Rattle.kms_buffers.proofs.Denials.{closes_alike}
use Rattle.kms_buffers.proofs.Counted.{counted_at, AreCounted-with_fewer, kept-with_fewer}
use Rattle.kms_buffers.proofs.framebuffers.FbStore.close.Goals as goal

pub overflow_sub-left : goal.overflow_sub-left
overflow_sub-left c = counted_at c.self.inside.fbs c.args.id c.in-Some.fb c.self.invariant.counted (sym c.found.ensures ∙ c.in-Some.is)

pub invariant_of-self : goal.invariant_of-self
invariant_of-self c = rw c.put_back.ensures (kept-with_fewer c.self.inside.fbs c.args.id _ c.self.invariant)

pub returns-clause-counted : goal.returns-clause-counted
returns-clause-counted c = rw c.put_back.ensures (AreCounted-with_fewer c.self.inside.fbs c.args.id _ c.self.invariant.counted)

pub returns-clause-things : goal.returns-clause-things
returns-clause-things c =
    let old : c.args.self.now ≡ c.self.inside.fbs = search rules in
    let put : open_fbs c.put_back.new.fbs ≡ without_id (open_fbs c.self.inside.fbs) c.args.id =
    ap open_fbs c.put_back.ensures ∙ fewer_closed c.self.inside.fbs c.args.id _ refl in
    λ things same. closed_values fb_of_content c.args.id things ∙ (ap (λ fbs. without_id fbs c.args.id) (same ∙ ap open_fbs old) ∙ sym put)

pub returns-in_default-clause-refusal : goal.returns-in_default-clause-refusal
returns-in_default-clause-refusal c =
    let answer : Err NOT_FOUND ≡ close_answer c.args.owner (value_with_id c.args.self.now c.args.id) = search rules in
    let rising : IsRising c.args.self.now = subst (λ (fbs : List (Slot Framebuffer)). IsRising fbs) c.self.view_is c.self.invariant.rising
    in
    λ things numbered same. ap denial answer ∙ closes_alike c.args.self.now c.args.owner c.args.id things rising numbered same

pub returns-then-not-fb-clause-refusal : goal.returns-then-not-fb-clause-refusal
returns-then-not-fb-clause-refusal c =
    let answer : Err NOT_FOUND ≡ close_answer c.args.owner (value_with_id c.args.self.now c.args.id) = search rules in
    let rising : IsRising c.args.self.now = subst (λ (fbs : List (Slot Framebuffer)). IsRising fbs) c.self.view_is c.self.invariant.rising
    in
    λ things numbered same. ap denial answer ∙ closes_alike c.args.self.now c.args.owner c.args.id things rising numbered same

pub returns-clause-refusal : goal.returns-clause-refusal
returns-clause-refusal c =
    let answer : Ok (c.in-Some.fb.references == 1) ≡ close_answer c.args.owner (value_with_id c.args.self.now c.args.id) = search rules in
    let rising : IsRising c.args.self.now = subst (λ (fbs : List (Slot Framebuffer)). IsRising fbs) c.self.view_is c.self.invariant.rising
    in
    λ things numbered same. ap denial answer ∙ closes_alike c.args.self.now c.args.owner c.args.id things rising numbered same
