use Rattle.std.proofs.Common.{◌≡◌, ◌+◌, ◌<◌, ◌≤◌, true, false, Ok, codes, length, ap, ◌∙◌, arith, rules}
use Rattle.std.specs.List.{list_all}
use Rattle.std.specs.Str.{bytes_eq}
use Rattle.std.proofs.lemmas.Bool.{le-ltb, lt-ltb}
use Rattle.kms_model.specs.Script.Grammar.{is_printable}
use Rattle.kms_model.specs.Script.WholeInput.{script_limit}
use Rattle.kms_script.specs.Drafted.{row_in}
use Rattle.kms_legacy.specs.Reading.{device_draft}
use Rattle.kms_legacy.proofs.ClientLine.{bytes_fault, client_read, cut_fault, form_fault, limit_fault}
use Rattle.kms_legacy.proofs.reading.client_row.Goals as goal

pub returns-then-not-all_printable-clause-value : goal.returns-then-not-all_printable-clause-value
returns-then-not-all_printable-clause-value c =
    let plain : list_all is_printable c.args.row.now.text.now ≡ false = search rules in
    bytes_fault c.args._topology.now c.args.size (row_in c.args.row.now) plain

pub returns-then-not-row-clause-value : goal.returns-then-not-row-clause-value
returns-then-not-row-clause-value c =
    let plain : list_all is_printable c.args.row.now.text.now ≡ true = search rules in
    cut_fault c.args._topology.now c.args.size (row_in c.args.row.now) plain c.if-not-row.true

pub returns-then-ne-clause-value : goal.returns-then-ne-clause-value
returns-then-ne-clause-value c =
    let plain : list_all is_printable c.args.row.now.text.now ≡ true = search rules in
    let other : bytes_eq c.args.row.now.text.now (codes "client") ≡ false = search rules in
    form_fault c.args._topology.now c.args.size (row_in c.args.row.now) c.requires.some c.requires.other plain c.if-not-row.false other

pub returns-then-row-size-clause-value : goal.returns-then-row-size-clause-value
returns-then-row-size-clause-value c =
    let plain : list_all is_printable c.args.row.now.text.now ≡ true = search rules in
    let is : bytes_eq c.args.row.now.text.now (codes "client") ≡ true = search rules in
    let long : script_limit < c.args.size + (length c.args.row.now.text.now + 1) = omega (arith, c.if-row-size.true, c.requires.size) in
    limit_fault c.args._topology.now c.args.size (row_in c.args.row.now) c.requires.some plain c.if-not-row.false is
    (lt-ltb script_limit (c.args.size + (length c.args.row.now.text.now + 1)) long)

pub returns-clause-value : goal.returns-clause-value
returns-clause-value c =
    let plain : list_all is_printable c.args.row.now.text.now ≡ true = search rules in
    let is : bytes_eq c.args.row.now.text.now (codes "client") ≡ true = search rules in
    let fits : c.args.size + (length c.args.row.now.text.now + 1) ≤ script_limit = omega (arith, c.if-row-size.false, c.requires.size) in
    let same : c.args.size + (length c.args.row.now.text.now + 1) ≡ c.args.size + length c.args.row.now.text.now + 1 = omega arith in
    client_read c.args._topology.now c.args.size (row_in c.args.row.now) c.requires.some plain c.if-not-row.false is
    (le-ltb script_limit (c.args.size + (length c.args.row.now.text.now + 1)) fits)
    ∙ ap (λ k. Ok (device_draft c.args._topology.now true k)) same
