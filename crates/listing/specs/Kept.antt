-- What the collector of a list keeps.
use Rattle.std.specs.Prelude.{ℕ, cond, List, [], ◌∷◌, ◌++◌, map, length, Ok, vec_items, vec_capacity, Result, nat_lt}
use Rattle.fields.specs.declared.refusal.Objection.{Objection}
use Rattle.fields.specs.Fields.{PlacedField}
use Rattle.fields.specs.Seen.{placed_field}
use Rattle.listing.specs.declared.Listing.{Listing}

-- fields, and the number for which there is room
pub record Roomy : Type 0 where
  pub room : ℕ
  pub fields : List PlacedField

abbrev pub roomy : Listing → Roomy
roomy l = record { room = vec_capacity l.fields; fields = map placed_field (vec_items l.fields) }

-- a field more, as long as there is room
abbrev pub keep : Roomy → PlacedField → Result Roomy Objection
keep k f = Ok (cond (nat_lt (length k.fields) k.room) (record { room = k.room; fields = k.fields ++ f ∷ [] }) k)
