use Rattle.std.proofs.Common.{rules, ◌≡◌, ◌∙◌, sym, subst, ap, Option, Some, true, option_map}
use Rattle.std.specs.Prelude.{IfSome, is_some}
use Rattle.kms_model.specs.Device.Properties.{Property, is_property, property_in, property_named}
use Rattle.kms_model.proofs.PropertyTable.{is_property-named}
use Rattle.kms_props.specs.Rows.{property_of}
use Rattle.kms_props.proofs.Found.{named-in_profile}
use Rattle.kms_props.proofs.properties.lookup.Goals as goal

pub returns-clause-in_table : goal.returns-clause-in_table
returns-clause-in_table c =
    let InTable : Option Property → Type 0 = λ o. IfSome o (λ p. is_property p.id ≡ true) in
    let found : property_named c.args.profile c.args.kind c.args.name.now
    ≡ Some (property_of c.in_ok-row_named.field-0) = sym c.row_named.ensures ∙ ap (option_map property_of) c.in_ok-row_named.was in
    let in_table = subst InTable found (is_property-named c.args.profile c.args.kind c.args.name.now) in
    search rules

pub returns-clause-in_profile : goal.returns-clause-in_profile
returns-clause-in_profile c =
    let InProfile : Option Property → Type 0 = λ o. IfSome o (λ p. is_some (property_in c.args.profile p.id) ≡ true) in
    let found : property_named c.args.profile c.args.kind c.args.name.now
    ≡ Some (property_of c.in_ok-row_named.field-0) = sym c.row_named.ensures ∙ ap (option_map property_of) c.in_ok-row_named.was in
    let in_profile = subst InProfile found (named-in_profile c.args.profile c.args.kind c.args.name.now) in
    search rules
