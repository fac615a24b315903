-- What the picky collector makes of a field.
use Rattle.std.specs.Prelude.{cond, map, Some, Ok, Err, codes, Option, Result}
use Rattle.std.specs.Char.{to_ascii_lowercase}
use Rattle.std.specs.Option.{option_map}
use Rattle.std.specs.Str.{bytes_eq}
use Rattle.fields.specs.declared.refusal.Objection.{Objection}
use Rattle.fields.specs.declared.refusal.Objection.TheVariants.{Malformed}
use Rattle.fields.specs.Fields.{PlacedField}
use Rattle.fields.specs.Seen.{placed_field}
use Rattle.field_cases.specs.declared.picky.Picky.{Picky}

-- the last field that it was told
abbrev pub last_of : Picky → Option PlacedField
last_of p = option_map placed_field p.last

abbrev pub picks : Option PlacedField → PlacedField → Result (Option PlacedField) Objection
picks before f = cond (bytes_eq (map to_ascii_lowercase f.name.bytes) (codes "x-bad")) (Err Malformed) (Ok (Some f))
