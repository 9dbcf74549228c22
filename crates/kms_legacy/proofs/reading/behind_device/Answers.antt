use Rattle.std.proofs.Common.{◌≡◌, ◌+◌, ◌-◌, ℕ, true, false, Ok, Err, List, ◌∷◌, drop, length, take, ap, sym, subst, ◌∙◌, arith, rules}
use Rattle.std.specs.Prelude.{Result}
use Rattle.std.proofs.lemmas.List.{length-drop, take_all}
use Rattle.kms_model.specs.declared.legacy.LegacyScript.{LegacyScript}
use Rattle.kms_model.specs.Legacy.LegacyLines.{blank_legacy_draft, legacy_drafted, legacy_lines_after}
use Rattle.kms_model.specs.Script.InputLines.{Fault, rows_of}
use Rattle.kms_script.specs.Drafted.{error_at, row_in}
use Rattle.kms_script.specs.Stated.{Gives}
use Rattle.kms_legacy.specs.Reading.{device_draft, line_behind}
use Rattle.kms_legacy.proofs.LinesOn.{client_stopped, lines_end, next_line}
use Rattle.kms_legacy.proofs.reading.behind_device.Goals as goal

-- what stands from a place on, as a slice of its own
rest_whole : (xs : List ℕ) (n : ℕ) → take (length xs - n) (drop n xs) ≡ drop n xs
rest_whole xs n = take_all (length xs - n) (drop n xs) (omega (arith, length-drop n xs))

pub returns-then-is_empty-clause-value : goal.returns-then-is_empty-clause-value
returns-then-is_empty-clause-value c =
    let at = c.requires.device in
    let empty : length (take (length c.args.bytes.now - c.args.place) (drop c.args.place c.args.bytes.now)) ≡ 0 = search rules in
    let none : length (drop c.args.place c.args.bytes.now) ≡ 0 = ap length (sym (rest_whole c.args.bytes.now c.args.place)) ∙ empty in
    ap legacy_drafted at.read ∙ (lines_end (device_draft c.args.topology false c.args.place) (line_behind c.args.topology)
    (drop c.args.place c.args.bytes.now) none at.some
    ∙ ap (λ (s : LegacyScript). Ok s) (sym (c.without_client.ensures.value c.args.place)))

pub returns-in-Ok-clause-value : goal.returns-in-Ok-clause-value
returns-in-Ok-clause-value c =
    let at = c.requires.device in
    let rows : rows_of (drop c.args.place c.args.bytes.now) ≡ row_in c.split_line.result.0 ∷ rows_of c.split_line.result.1.now =
    ap rows_of (sym (rest_whole c.args.bytes.now c.args.place)) ∙ c.split_line.ensures.rows in
    let whole = at.read ∙ (ap (legacy_lines_after (device_draft c.args.topology false c.args.place) (line_behind c.args.topology)) rows
    ∙ (next_line (device_draft c.args.topology false c.args.place) (device_draft c.args.topology true c.in-Ok.size)
    (line_behind c.args.topology) (row_in c.split_line.result.0) (rows_of c.split_line.result.1.now) c.in-Ok.ensures.value
    ∙ ap (λ k. legacy_lines_after (device_draft c.args.topology true c.in-Ok.size) (k + 1) (rows_of c.split_line.result.1.now))
    (sym c.line_behind-line.ensures))) in
    subst (λ (r : Result LegacyScript Fault). Gives (λ (s : LegacyScript). s) c.behind_client.result r)
    (ap legacy_drafted (sym whole)) c.behind_client.ensures.value

pub returns-in-Err-clause-value : goal.returns-in-Err-clause-value
returns-in-Err-clause-value c =
    let at = c.requires.device in
    let rows : rows_of (drop c.args.place c.args.bytes.now) ≡ row_in c.split_line.result.0 ∷ rows_of c.split_line.result.1.now =
    ap rows_of (sym (rest_whole c.args.bytes.now c.args.place)) ∙ c.split_line.ensures.rows in
    let whole = at.read ∙ ap (legacy_lines_after (device_draft c.args.topology false c.args.place) (line_behind c.args.topology)) rows in
    rw c.at.ensures
    (subst (λ n. Gives (λ (s : LegacyScript). s) (Err (error_at n c.in-Err.stop))
    (legacy_drafted (legacy_lines_after blank_legacy_draft 1 (rows_of c.args.bytes.now)))) (sym c.line_behind-line.ensures)
    (subst (λ (r : Result LegacyScript Fault). Gives (λ (s : LegacyScript). s)
    (Err (error_at (line_behind c.args.topology) c.in-Err.stop)) r) (ap legacy_drafted (sym whole))
    (client_stopped c.args.topology c.args.place (line_behind c.args.topology) (row_in c.split_line.result.0)
    (rows_of c.split_line.result.1.now) c.in-Err.stop c.in-Err.ensures.value)))
