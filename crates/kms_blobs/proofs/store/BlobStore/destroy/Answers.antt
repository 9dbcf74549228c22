use Rattle.std.proofs.Common.{rules, ◌≡◌, Err, Ok, ap, sym, ◌∙◌}
use Rattle.kms_model.specs.declared.replies.TheConstants.Denied.{NOT_FOUND, NOT_OWNER}
use Rattle.kms_model.specs.Things.Kept.{destroy_answer}
use Rattle.kms_model.specs.Things.OpenThings.{denial}
use Rattle.kms_model.specs.Things.Tables.{value_with_id, without_id}
use Rattle.kms_blobs.proofs.Denials.{destroys_alike}
use Rattle.kms_model.proofs.OpenLemmas.{closed_values}
use Rattle.kms_blobs.specs.Things.{blob_in}
use Rattle.kms_blobs.proofs.store.BlobStore.destroy.Goals as goal

pub returns-clause-things : goal.returns-clause-things
returns-clause-things c =
    let removed : c.remove.new.self ≡ without_id c.args.self.now c.args.id = search rules in
    λ things same. closed_values blob_in c.args.id things ∙ (ap (λ blobs. without_id blobs c.args.id) same ∙ sym removed)

pub returns-in_default-clause-refusal : goal.returns-in_default-clause-refusal
returns-in_default-clause-refusal c =
    let answer : Err NOT_FOUND ≡ destroy_answer c.args.owner (value_with_id c.args.self.now c.args.id) = search rules in
    λ things numbered same. ap denial answer ∙ destroys_alike c.args.self.now c.args.owner c.args.id things numbered same

pub returns-then-blob-owner-clause-refusal : goal.returns-then-blob-owner-clause-refusal
returns-then-blob-owner-clause-refusal c =
    let answer : Err NOT_OWNER ≡ destroy_answer c.args.owner (value_with_id c.args.self.now c.args.id) = search rules in
    λ things numbered same. ap denial answer ∙ destroys_alike c.args.self.now c.args.owner c.args.id things numbered same

pub returns-clause-refusal : goal.returns-clause-refusal
returns-clause-refusal c =
    let answer : Ok tt ≡ destroy_answer c.args.owner (value_with_id c.args.self.now c.args.id) = search rules in
    λ things numbered same. ap denial answer ∙ destroys_alike c.args.self.now c.args.owner c.args.id things numbered same
