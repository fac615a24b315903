-- The classes of bytes, each as the RFC lists it, without the obs- forms.
use Rattle.std.specs.Prelude.{ℕ, Bool, false, cond, not, ◌&&◌, ◌||◌, List, [], ◌∷◌, Some, None, codes, Option, ◌==◌, nat_le}
use Rattle.fields.specs.Classes.{wsp, behind}
pub use Rattle.fields.specs.Classes.{behind_one, behind_byte}

-- %dLO-HI
abbrev pub within : ℕ → ℕ → ℕ → Bool
within lo hi b = nat_le lo b && nat_le b hi

-- one of these
abbrev pub among : List ℕ → ℕ → Bool
among [] b = false
among (n ∷ ns) b = b == n || among ns b

-- RFC 5234, appendix B.1
abbrev pub alpha : ℕ → Bool
alpha b = within 65 90 b || within 97 122 b

abbrev pub digit : ℕ → Bool
digit b = within 48 57 b

abbrev pub vchar : ℕ → Bool
vchar b = within 33 126 b

-- RFC 5322, 3.2.1: what may stand behind the "\" of a quoted-pair
abbrev pub quotable : ℕ → Bool
quotable b = vchar b || wsp b

-- RFC 5322, 3.2.2: what a comment is made of, without "(", ")" and "\"
abbrev pub ctext : ℕ → Bool
ctext b = within 33 39 b || (within 42 91 b || within 93 126 b)

-- RFC 5322, 3.2.3: what an atom is made of
abbrev pub atext : ℕ → Bool
atext b = alpha b || (digit b || among (codes "!#$%&'*+-/=?^_`{|}~") b)

-- RFC 5322, 3.2.4: what a quoted-string is made of, without the quote and "\"
abbrev pub qtext : ℕ → Bool
qtext b = b == 33 || (within 35 91 b || within 93 126 b)

-- RFC 5322, 3.4.1: what a domain-literal is made of, without "[", "]" and "\"
abbrev pub dtext : ℕ → Bool
dtext b = within 33 90 b || within 94 126 b

-- RFC 5322, 3.5: what a text is made of, any of 1 to 127 but CR and LF
abbrev pub text : ℕ → Bool
text b = within 1 9 b || (b == 11 || (b == 12 || within 14 127 b))

-- RFC 2045, 5.1: the signs that no token has
abbrev pub tspecials : ℕ → Bool
tspecials b = among (codes "()<>@,;:\\\"/[]?=") b

-- RFC 2045, 5.1: what a token is made of, no space, no control and none of tspecials
abbrev pub token : ℕ → Bool
token b = vchar b && not (tspecials b)

-- what stands behind a run of one byte or more of a class, as long as it goes
abbrev pub behind_some : (ℕ → Bool) → List ℕ → Option (List ℕ)
behind_some p [] = None
behind_some p (b ∷ s) = let more = Some (behind p s) in cond (p b) more None
