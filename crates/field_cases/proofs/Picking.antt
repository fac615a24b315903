-- A name that is not the known one.
use Rattle.std.proofs.Common.{◌≡◌, ℕ, false, List, map, Some, Ok, Err, codes, Decides, Option, sym, refl, ⊎_elim}
use Rattle.std.specs.Char.{to_ascii_lowercase}
use Rattle.std.specs.Str.{bytes_eq}
use Rattle.std.proofs.lemmas.Slice.Eq.{bytes_eq-Decides}
use Rattle.std.proofs.lemmas.Bool.{both_ways, cases_Bool, cond-false}
use Rattle.fields.specs.declared.refusal.Objection.TheVariants.{Malformed}
use Rattle.fields.specs.Fields.{PlacedField}
use Rattle.field_cases.specs.Picks.{picks}

unlike : (xs ys : List ℕ) → Decides false (xs ≡ ys) → bytes_eq xs ys ≡ false
unlike xs ys d = ⊎_elim (λ t. absurd (both_ways false refl (d.1 ((bytes_eq-Decides xs ys).0 t)))) (λ f. f) (cases_Bool (bytes_eq xs ys))

pub picked : (before : Option PlacedField) (f : PlacedField) → Decides false (map to_ascii_lowercase f.name.bytes ≡ codes "x-bad") → Ok (Some f) ≡ picks before f
picked before f d = sym (cond-false (bytes_eq (map to_ascii_lowercase f.name.bytes) (codes "x-bad")) (Err Malformed) (Ok (Some f)) (unlike (map to_ascii_lowercase f.name.bytes) (codes "x-bad") d))
