use Rattle.std.proofs.Common.{◌≡◌, ◌+◌, ◌-◌, ◌++◌, ℕ, ap, ◌∙◌, arith}
use Rattle.std.specs.List.{flat_map, range_with_len}
use Rattle.kms_report.specs.Telling.{section_text}
use Rattle.kms_report.proofs.Ranges.{appended_range}
use Rattle.kms_report.proofs.answers.push_sections.Goals as goal

pub loop-client-preserved : goal.loop-client-preserved
loop-client-preserved c =
    let n = c.loop-client.client in
    let bound = c.loop-client.auto in
    let f = section_text c.args.section c.args.answers.now in
    let same : n - 1 + 1 ≡ n + 1 - 1 = omega arith in
    appended_range f c.args.text.now.items _ _ 1 (n - 1) n (omega arith) c.loop-client.invariant c.in_ok-push_section.ensures
    ∙ ap (λ (k : ℕ). c.args.text.now.items ++ flat_map f (range_with_len 1 k)) same

pub returns : goal.returns
returns c =
    let n = c.loop-client.client in
    let bound = c.loop-client.auto in
    let end = c.loop-client-test.false in
    let same : n - 1 ≡ c.args.clients = omega arith in
    c.loop-client.invariant
    ∙ ap (λ (k : ℕ). c.args.text.now.items ++ flat_map (section_text c.args.section c.args.answers.now) (range_with_len 1 k)) same
