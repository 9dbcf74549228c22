use Rattle.std.proofs.Common.{◌∙◌, List, ℕ, sym, ap}
use Rattle.kms_model.specs.declared.worlds.Content.TheVariants as content
use Rattle.kms_model.specs.Request.Lookups.{look_of_content}
use Rattle.kms_things.proofs.looks.look_of_content.Goals as goal

pub returns-in-Blob : goal.returns-in-Blob
returns-in-Blob c =
    c.look_of_bytes.ensures
    ∙ (ap (λ (bytes : List ℕ). look_of_content c.args.id (content.Blob bytes)) c.as_slice.ensures.value ∙ ap (look_of_content c.args.id)
    (sym c.in-Blob.is))
