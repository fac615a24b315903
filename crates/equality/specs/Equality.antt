-- When two addresses are the same. All that compares addresses goes through `same_address`.
use Rattle.std.specs.Prelude.{ℕ, Bool, ◌&&◌, List}
use Rattle.std.specs.Str.{bytes_eq}
use Rattle.abnf.specs.Strings.{alike}
use Rattle.address.specs.Rfc5322.{Addr}

-- local parts as written: quotes, backslashes and folds count, and so does the case of letters
abbrev pub same_local : List ℕ → List ℕ → Bool
same_local x y = bytes_eq x y

-- domains, literals too, without the case of ASCII letters
abbrev pub same_domain : List ℕ → List ℕ → Bool
same_domain x y = alike x y

unfoldable pub same_address : Addr → Addr → Bool
same_address a b = same_local a.local b.local && same_domain a.domain b.domain
