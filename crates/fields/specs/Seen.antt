-- Parts and fields of the code, as the definitions speak of them.
use Rattle.fields.specs.declared.part.Part.{Part}
use Rattle.fields.specs.declared.part.Field.{Field}
use Rattle.fields.specs.Fields.{Placed, PlacedField}

abbrev pub placed : Part → Placed
placed p = record { at = p.at; bytes = p.text.now }

abbrev pub placed_field : Field → PlacedField
placed_field f = record { name = placed f.name; body = placed f.body }
