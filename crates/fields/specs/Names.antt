-- When two names are the same: the case of ASCII letters does not count.
use Rattle.std.specs.Prelude.{◌≡◌, ℕ, List, map}
use Rattle.std.specs.Char.{to_ascii_lowercase}

abbrev pub SameName : List ℕ → List ℕ → Type 0
SameName a b = map to_ascii_lowercase a ≡ map to_ascii_lowercase b
