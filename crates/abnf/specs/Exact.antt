-- That a reader answers exactly what a rule derives.
use Rattle.std.specs.Prelude.{◌≡◌, ℕ, List, Some, Option}
use Rattle.abnf.specs.Abnf.{Rule}

-- where R x derives the strings that tell x, and a reader of s answers r, of which f is asked: an answer is f of what
-- s tells, whatever tells something is answered, and no string tells two things
pub record Exactly {X Y : Type 0} (R : X → Rule) (f : X → Y) (s : List ℕ) (r : Option Y) : Type 0 where
  pub derived : (y : Y) → r ≡ Some y → (x : X) × R x s × (y ≡ f x)
  pub answered : (x : X) → R x s → r ≡ Some (f x)
  pub alone : (x y : X) → R x s → R y s → x ≡ y

-- an answer that is what was read
abbrev pub itself : {X : Type 0} → X → X
itself x = x
