-- Strings of ABNF (RFC 5234, 2.3): the case of ASCII letters does not count.
use Rattle.std.specs.Prelude.{ℕ, Bool, List, map}
use Rattle.std.specs.Char.{to_ascii_lowercase}
use Rattle.std.specs.Str.{bytes_eq}

unfoldable pub alike : List ℕ → List ℕ → Bool
alike a b = bytes_eq (map to_ascii_lowercase a) (map to_ascii_lowercase b)
