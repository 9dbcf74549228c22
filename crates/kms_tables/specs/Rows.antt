-- Rows of Markdown tables. From: the GitHub Flavored Markdown specification, "Tables"; the words are this project's own.
use Rattle.std.specs.Prelude.{ℕ, List, [], ◌∷◌, ◌++◌, codes}
use Rattle.std.specs.Fmt.{decimal, signed_decimal}
use Rattle.kms_model.specs.declared.ranges.Range.{Range}
use Rattle.kms_model.specs.declared.ranges.Range.TheVariants.{Numbers, Thing, CrtcName}
use Rattle.kms_model.specs.declared.refusals.Rule.{Rule}
use Rattle.kms_model.specs.Device.Objects.{first_id}
use Rattle.kms_model.specs.Report.Replies.{kind_name}
use Rattle.kms_tables.specs.declared.rows.AtStart.{AtStart}
use Rattle.kms_tables.specs.declared.rows.AtStart.TheVariants.{Number, Index, Script}
use Rattle.kms_tables.specs.declared.rows.ObjectRow.{ObjectRow}
use Rattle.kms_tables.specs.declared.rows.PropertyRow.{PropertyRow}
use Rattle.kms_tables.specs.declared.rows.SettableValues.{SettableValues}

-- the cells of a row, each behind a bar and a blank
abbrev pub cells : List (List ℕ) → List ℕ
cells [] = codes "|"
cells (cell ∷ more) = codes "| " ++ (cell ++ (codes " " ++ cells more))

-- a kind of object, its ids and the most objects of it
abbrev pub object_row : ObjectRow → List ℕ
object_row o = cells (kind_name o.kind ∷ (codes "from " ++ decimal (first_id o.kind)) ∷ decimal o.most ∷ [])

-- a rule: its number, its error number, its name, when it refuses and the kernel's function
abbrev pub refusal_row : Rule → List ℕ
refusal_row r = cells (decimal r.number ∷ r.errno.now ∷ r.name.now ∷ r.rule.now ∷ r.source.now ∷ [])

-- what a property may be set to
abbrev pub range_text : List ℕ → Range → List ℕ
range_text things (Numbers low high) = signed_decimal low ++ codes " to " ++ signed_decimal high
range_text things (Thing none) = signed_decimal none ++ codes ", or " ++ things
range_text things CrtcName = codes "0, or `crtcN` of a CRTC of the device"

abbrev pub values_text : SettableValues → List ℕ
values_text v = range_text v.things.now v.range

-- what the value of a property is before the first command
abbrev pub start_text : AtStart → List ℕ
start_text (Number n) = signed_decimal n
start_text Index = codes "its index"
start_text Script = codes "by the script"

-- a property of a kind of object
abbrev pub property_row : PropertyRow → List ℕ
property_row p = cells (kind_name p.kind ∷ p.name.now ∷ values_text p.values ∷ p.unit.now ∷ start_text p.start ∷ [])
