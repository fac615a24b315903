-- Bodies as the walk hands them on: no line of a body is blank.
use Rattle.std.specs.Prelude.{ℕ, Bool, true, not, ◌&&◌, List, [], ◌∷◌, ◌==◌}
use Rattle.fields.specs.Classes.{CR, LF, wsp, starts, behind}
use Rattle.fields.specs.Fields.{PlacedField}

abbrev pub is_CR : ℕ → Bool
is_CR b = b == CR

-- s does not begin with a fold to a line that ends behind white space alone, in a further fold
abbrev pub no_blank : List ℕ → Bool
no_blank [] = true
no_blank (a ∷ []) = true
no_blank (a ∷ b ∷ []) = true
no_blank (a ∷ b ∷ c ∷ s) = not ((a == CR && b == LF) && starts is_CR (behind wsp s))

-- nowhere in s is such a fold
unfoldable pub clean : List ℕ → Bool
clean [] = true
clean (b ∷ s) = no_blank (b ∷ s) && clean s

abbrev pub all_clean : List PlacedField → Bool
all_clean [] = true
all_clean (f ∷ fs) = clean f.body.bytes && all_clean fs
