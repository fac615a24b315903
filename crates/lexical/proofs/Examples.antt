-- Examples, computed.
use Rattle.std.proofs.Common.{◌≡◌, ◌∷◌, ◌++◌, Some, None, codes, refl}
use Rattle.lexical.specs.Reads.{cfws, quoted_rest}

-- RFC 5322, A.5, in part
nested : cfws (codes " (b(c)) \\x") ≡ Some (codes "\\x")
unfolding cfws
nested = refl

pairs : cfws (codes "(A nice \\) chap) <") ≡ Some (codes "<")
unfolding cfws
pairs = refl

folded : cfws (codes " (a" ++ 13 ∷ 10 ∷ codes " b)" ++ 13 ∷ 10 ∷ codes " c") ≡ Some (codes "c")
unfolding cfws
folded = refl

sixteen : cfws (codes "((((((((((((((((x)))))))))))))))) a") ≡ Some (codes "a")
unfolding cfws
sixteen = refl

seventeen : cfws (codes "(((((((((((((((((x))))))))))))))))) a") ≡ None
unfolding cfws
seventeen = refl

open_comment : cfws (codes " (a") ≡ None
unfolding cfws
open_comment = refl

string : quoted_rest (codes "a \\\" b\" c") ≡ Some (codes " c")
unfolding quoted_rest
string = refl
