-- All the fields of an input.
use Rattle.std.specs.Prelude.{◌≡◌, ℕ, List, [], ◌∷◌, ◌++◌, map, codes, Ok, Err, vec_items, Result, Vec}
use Rattle.std.specs.declared.alloc.Global.{Global}
use Rattle.fields.specs.declared.field.Form.{Form}
use Rattle.fields.specs.declared.part.Field.{Field}
use Rattle.fields.specs.declared.refusal.Objection.{Objection}
use Rattle.fields.specs.declared.refusal.Refusal.{Refusal}
use Rattle.fields.specs.Fields.{PlacedField}
use Rattle.fields.specs.Seen.{placed_field}
use Rattle.fields.specs.Refusals.{because}
use Rattle.fields.specs.Walks.{walked}
use Rattle.fields.specs.Built.{Input}
use Rattle.listing.specs.declared.Unlisted.{Unlisted}
use Rattle.listing.specs.declared.Unlisted.TheVariants.{Memory, Refused}

abbrev pub appended : List PlacedField → PlacedField → Result (List PlacedField) Objection
appended fs f = Ok (fs ++ f ∷ [])

-- the fields of an input, each behind the one before, or the refusal
unfoldable pub listed : Form → List ℕ → Result (List PlacedField) Refusal
listed form s = walked appended [] form s

-- r holds that list, or that refusal; want of memory may come instead of either
abbrev pub Holds : Result (List PlacedField) Refusal → Result (Vec Field Global) Unlisted → Type 0
Holds x (Ok v) = x ≡ Ok (map placed_field (vec_items v))
Holds x (Err (Refused why)) = x ≡ Err why
Holds x (Err Memory) = Unit {0}

-- in words why there is no list
abbrev pub unlisted_because : Unlisted → List ℕ
unlisted_because (Refused why) = because why
unlisted_because Memory = codes "no memory"

-- what is listed is an input's fields, and every input's are
pub record ListedExactly (form : Form) (s : List ℕ) : Type 0 where
  pub accepted : (fs : List PlacedField) → listed form s ≡ Ok fs → Input form fs s
  pub lists : (fs : List PlacedField) → Input form fs s → listed form s ≡ Ok fs
