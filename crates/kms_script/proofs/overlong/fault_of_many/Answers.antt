use Rattle.std.proofs.Common.{◌≡◌, ◌++◌, ℕ, List, [], true, false, not, Err, ap, refl, sym, subst, ◌∙◌, rules}
use Rattle.kms_model.specs.Script.CommandLines.{atomic_read}
use Rattle.kms_script.specs.Lines.{checked}
use Rattle.kms_words.specs.Packed.{made_words, packed_all}
use Rattle.kms_script.specs.Overlong.{AddsLabels, labels_at}
use Rattle.kms_script.proofs.ManyAssigns.{many_decided, no_flags, no_labels, no_user, why_of}
use Rattle.kms_script.proofs.overlong.fault_of_many.Goals as goal
use Rattle.kms_script.proofs.overlong.fault_of_many.Goals.{After-are_distinct}

pub returns-in_default : goal.returns-in_default
returns-in_default c = no_flags c.args.names.now.names c.args.fields.now (sym c.in_default.ensures.value)

pub returns-in_default-take_dec : goal.returns-in_default-take_dec
returns-in_default-take_dec c = no_user c.args.names.now.names c.args.fields.now (c.in-Some.field-0-0, c.in-Some.rest.now)
    (sym c.in-Some.ensures.value) (sym c.in_default-take_dec.ensures.value)

pub returns-then-not-branch : goal.returns-then-not-branch
returns-then-not-branch c =
    let formed : c.in_ok-push_labels.field-0 ≡ false = search rules in
    let read = subst (λ b. AddsLabels b (labels_at c.in-Some-take_dec.rest.now) c.push_made.new.numbers.items
    c.push_labels.new.numbers.items) formed c.in_ok-push_labels.ensures in
    no_labels c.args.names.now.names c.args.fields.now (c.in-Some.field-0-0, c.in-Some.rest.now)
    (c.in-Some-take_dec.field-0-0, c.in-Some-take_dec.rest.now) c.in_ok-push_made.ensures.differ (sym c.in-Some.ensures.value)
    (sym c.in-Some-take_dec.ensures.value) read

-- the fault by whether the labels differ
decided : (c : After-are_distinct)
    → checked (atomic_read c.args.names.now.names c.args.fields.now) ≡ Err (why_of (not c.are_distinct.result))
decided c =
    let formed : c.in_ok-push_labels.field-0 ≡ true = search rules in
    let earlier : List ℕ = packed_all (made_words c.args.names.now.names.all) in
    let none : c.in_ok-numbers.numbers.items ≡ [] = search rules in
    let front : c.push_made.new.numbers.items ≡ earlier = c.in_ok-push_made.ensures.made ∙ ap (λ ns. ns ++ earlier) none in
    let read = subst (λ b. AddsLabels b (labels_at c.in-Some-take_dec.rest.now) c.push_made.new.numbers.items
    c.push_labels.new.numbers.items) formed c.in_ok-push_labels.ensures in
    let added = subst (λ ns. AddsLabels true (labels_at c.in-Some-take_dec.rest.now) ns c.push_labels.new.numbers.items) front read in
    many_decided c.args.names.now.names c.args.fields.now c.push_labels.new.numbers.items (c.in-Some.field-0-0, c.in-Some.rest.now)
    (c.in-Some-take_dec.field-0-0, c.in-Some-take_dec.rest.now) _ c.are_distinct.result c.requires.once c.in_ok-push_made.ensures.differ
    c.requires.many
    (sym c.in-Some.ensures.value) (sym c.in-Some-take_dec.ensures.value) refl added c.are_distinct.ensures

pub returns-then-are_distinct : goal.returns-then-are_distinct
returns-then-are_distinct c =
    decided ((goal.at.returns-then-are_distinct c).After-are_distinct) ∙ ap (λ b. Err (why_of (not b))) c.if-are_distinct.true

pub returns-else-are_distinct : goal.returns-else-are_distinct
returns-else-are_distinct c =
    decided ((goal.at.returns-else-are_distinct c).After-are_distinct) ∙ ap (λ b. Err (why_of (not b))) c.if-are_distinct.false
