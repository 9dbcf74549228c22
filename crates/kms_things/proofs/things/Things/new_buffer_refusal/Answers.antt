use Rattle.std.proofs.Common.{◌≡◌, ◌∙◌, subst}
use Rattle.kms_model.specs.Things.Kept.{bytes_with, is_bad_size}
use Rattle.kms_things.specs.Index.{number_told}
use Rattle.kms_things.proofs.Kept.{refused_by, refusal_told, total_bytes}
use Rattle.kms_things.proofs.things.Things.new_buffer_refusal.Goals as goal

pub returns : goal.returns
returns c =
    let bad = is_bad_size c.args.width c.args.height in
    let told = refusal_told c.total_with.result bad (bytes_with c.self.inside.buffers c.args.width c.args.height c.args.format)
    c.total_with.ensures.bad_size c.total_with.ensures.space c.total_with.ensures.fits in
    let total = total_bytes c.self.inside.buffers c.self.inside.made.items c.args.width c.args.height c.args.format
    c.self.invariant.kept.words in
    rw (← c.self.view_is) (c.number_of.ensures ∙ subst (λ n. number_told c.total_with.result ≡ refused_by bad n) total told)
