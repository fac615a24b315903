-- How the code goes through a value.
use Rattle.std.specs.Prelude.{◌≡◌, ℕ, ◌<◌, List, [], ◌∷◌, length, Some, None, Option}
use Rattle.lexical.specs.declared.span.Taken.{Taken}
use Rattle.mime.specs.declared.values.Meanings.{Meanings}
use Rattle.mime.specs.Values.{between}

-- m is the next byte of what s means, and what is left behind it
pub record Next (s : List ℕ) (m : Taken ℕ) : Type 0 where
  pub means : between s ≡ m.value ∷ between m.rest.now
  pub less : length m.rest.now < length s

-- as long as there is one
abbrev pub GoesOn : List ℕ → Option (Taken ℕ) → Type 0
GoesOn s None = between s ≡ []
GoesOn s (Some m) = Next s m

-- what is still meant
abbrev pub meanings : Meanings → List ℕ
meanings m = between m.0.now
