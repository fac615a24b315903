-- What is claimed of white space and comments, in the words of the RFC.
use Rattle.std.specs.Prelude.{◌≡◌, ℕ, false, List, [], ◌∷◌, Some, Option, ◌==◌}
use Rattle.fields.specs.Classes.{CR, wsp}
use Rattle.abnf.specs.Abnf.{opt, At}
use Rattle.lexical.specs.Rfc5322.{deepest, comment, CFWS}

-- nothing, or what begins neither with white space nor with a comment
abbrev pub Apart : List ℕ → Type 0
Apart [] = Unit {0}
Apart (b ∷ s) = (wsp b ≡ false) × ((b == CR) ≡ false) × ((b == 40) ≡ false)

-- r is what stands behind the comment that s begins with
pub record CommentExactly (s : List ℕ) (r : Option (List ℕ)) : Type 0 where
  pub derived : (t : List ℕ) → r ≡ Some t → At (comment deepest) s t
  pub answered : (t : List ℕ) → At (comment deepest) s t → r ≡ Some t
  pub alone : (t u : List ℕ) → At (comment deepest) s t → At (comment deepest) s u → t ≡ u

-- r is what stands behind the [CFWS] that s begins with, where that goes as far as it can
pub record CfwsExactly (s : List ℕ) (r : Option (List ℕ)) : Type 0 where
  pub derived : (t : List ℕ) → r ≡ Some t → At (opt CFWS) s t
  pub answered : (t : List ℕ) → Apart t → At (opt CFWS) s t → r ≡ Some t
  pub alone : (t u : List ℕ) → Apart t → Apart u → At (opt CFWS) s t → At (opt CFWS) s u → t ≡ u
