-- When two strings are the same.
use Rattle.std.proofs.Common.{◌≡◌, ℕ, Bool, true, false, List, map, Decides, MatchBool, refl}
use Rattle.std.specs.Char.{to_ascii_lowercase}
use Rattle.std.proofs.lemmas.Slice.Eq.{bytes_eq-Decides}
use Rattle.std.proofs.lemmas.Bool.{false≢true}
use Rattle.std.proofs.lemmas.Bool.Decides.{same_from_decides}
use Rattle.abnf.specs.Strings.{alike}

decides : {P : Type 0} (r : Bool) → MatchBool r P (P → ⊥) → Decides r P
decides true h = (λ _. h, λ _. refl)
decides false h = (λ e. absurd (false≢true e), λ p. absurd (h p))

pub alike_told : (r : Bool) (a b : List ℕ) → MatchBool r (map to_ascii_lowercase a ≡ map to_ascii_lowercase b) (map to_ascii_lowercase a ≡ map to_ascii_lowercase b → ⊥) → r ≡ alike a b
unfolding alike
alike_told r a b h = same_from_decides r _ (decides r h) (bytes_eq-Decides (map to_ascii_lowercase a) (map to_ascii_lowercase b))

pub alike_decides : (a b : List ℕ) → Decides (alike a b) (map to_ascii_lowercase a ≡ map to_ascii_lowercase b)
unfolding alike
alike_decides a b = bytes_eq-Decides (map to_ascii_lowercase a) (map to_ascii_lowercase b)
