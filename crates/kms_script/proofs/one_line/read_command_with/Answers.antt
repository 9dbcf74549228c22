use Rattle.std.proofs.Common.{◌≡◌, Ok, Err, ap, sym, subst, ◌∙◌}
use Rattle.kms_model.specs.Script.CommandLines.{unmade}
use Rattle.kms_script.specs.Lines.{GivesLine, line_of}
use Rattle.kms_words.specs.Named.{Indexed}
use Rattle.kms_script.proofs.LineFaults.{alone_read, alone_stopped}
use Rattle.kms_script.proofs.one_line.read_command_with.Goals as goal

pub returns-in-Ok-clause-value : goal.returns-in-Ok-clause-value
returns-in-Ok-clause-value c =
    let profile = c.args.index.now.profile in
    let start : c.index.inside.names.names ≡ unmade profile c.args.index.now.words = ap (λ h. h.names) c.index.invariant ∙ ap
    (λ (i : Indexed). unmade i.profile i.words) c.index.view_is in
    let read = subst (λ n. line_of n c.args.line.now ≡ Ok (c.in-Ok.command, c.read_line.new.names.names)) start c.in-Ok.ensures.value in
    alone_read profile c.args.index.now.words c.args.line.now c.in-Ok.command c.read_line.new.names.names read ∙ ap
    (λ ws. Ok (c.in-Ok.command, ws)) (sym (ap (λ h. h.before.words) c.keep.ensures.names))

pub returns-in-Err-clause-value : goal.returns-in-Err-clause-value
returns-in-Err-clause-value c =
    let profile = c.args.index.now.profile in
    let start : c.index.inside.names.names ≡ unmade profile c.args.index.now.words = ap (λ h. h.names) c.index.invariant ∙ ap
    (λ (i : Indexed). unmade i.profile i.words) c.index.view_is in
    let read = subst (λ n. GivesLine (Err c.in-Err.stop) (line_of n c.args.line.now) c.read_line.new.names.names) start
    c.in-Err.ensures.value in
    rw c.line_error.ensures (alone_stopped profile c.args.index.now.words c.undo.new.self.before.words c.args.line.now
    c.read_line.new.names.names c.in-Err.stop read)
