-- What the rows of the code's tables say, in the words of the definitions.
use Rattle.kms_model.specs.Device.Properties as model
use Rattle.kms_props.specs.declared.formats.FormatRow.{FormatRow}
use Rattle.kms_props.specs.declared.properties.PropertyRow.{PropertyRow}

abbrev pub property_of : PropertyRow → model.Property
property_of row = record {
  name = row.name.now;
  id = row.id;
  kinds = row.kinds.now;
  immutable = row.immutable;
  range = row.range;
  since =
      row.since;
}

abbrev pub format_row_of : FormatRow → model.FormatRow
format_row_of row = record { code = row.code; format = row.format }
