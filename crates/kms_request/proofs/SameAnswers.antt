-- What is answered to requests whose labels name the same things by two look-ups.
use Rattle.std.proofs.Common.{◌≡◌, ◌∙◌, ℕ, Option, sym}
use Rattle.std.specs.Prelude.{IfErr, Result, Ok, Err}
use Rattle.kms_model.specs.declared.objects.Topology.{Topology}
use Rattle.kms_model.specs.declared.scripts.Request.{Request}
use Rattle.kms_model.specs.declared.sets.Resolved.{Resolved}
use Rattle.kms_model.specs.declared.worlds.Look.{Look}
use Rattle.kms_model.specs.Request.Refusals.{early_refusal}
use Rattle.kms_model.specs.Request.SameLooks.{TellsLabels}
use Rattle.kms_model.proofs.SameLooks.{early-same}
use Rattle.kms_request.specs.declared.errors.RequestError.{RequestError}
use Rattle.kms_request.specs.declared.errors.RequestError.TheVariants.{Of, NoMemory}
use Rattle.kms_request.specs.Answers.{ComesFrom}

error-same : {first second : Option ℕ} (e : RequestError) → first ≡ second → ComesFrom first e → ComesFrom second e
error-same (Of refusal) same is = sym same ∙ is
error-same NoMemory same is = sym same ∙ is

pub answer-refused : (t : Topology) (f g : ℕ → Look) (r : Request) (answer : Result Resolved RequestError) → TellsLabels f g r.assigns
    → IfErr answer (ComesFrom (early_refusal t f r)) → IfErr answer (ComesFrom (early_refusal t g r))
answer-refused t f g r (Ok resolved) same is = is
answer-refused t f g r (Err e) same is = error-same e (early-same t f g r same) is
