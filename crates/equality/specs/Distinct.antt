-- How many different addresses a list has.
use Rattle.std.specs.Prelude.{◌≡◌, ℕ, ◌+◌, Bool, true, false, cond, ◌⊎◌, List, [], ◌∷◌, length}
use Rattle.std.specs.List.{list_any}
use Rattle.address.specs.Rfc5322.{Addr}
use Rattle.equality.specs.Equality.{same_address}

-- the same address stands in the list
abbrev pub among : Addr → List Addr → Bool
among a xs = list_any (same_address a) xs

-- an address counts where it stands last
abbrev pub counts : Addr → List Addr → ℕ
counts a others = cond (among a others) 0 1

unfoldable pub distinct : List Addr → ℕ
distinct [] = 0
distinct (a ∷ others) = counts a others + distinct others

-- a stands in the list as it is
abbrev pub In : Addr → List Addr → Type 0
In a [] = ⊥
In a (x ∷ xs) = (a ≡ x) ⊎ In a xs

-- no two are the same address
abbrev pub AllDiffer : List Addr → Type 0
AllDiffer [] = Unit {0}
AllDiffer (a ∷ others) = (among a others ≡ false) × AllDiffer others

-- `same_address` parts the list into n classes: n addresses of it, no two the same, stand for all
pub record Classes (xs : List Addr) (n : ℕ) : Type 0 where
  pub chosen : List Addr
  pub number : length chosen ≡ n
  pub of_the_list : (a : Addr) → In a chosen → In a xs
  pub differ : AllDiffer chosen
  pub stand_for_all : (a : Addr) → In a xs → among a chosen ≡ true
