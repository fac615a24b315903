-- Classes of bytes, and the run of one class that a list begins with.
use Rattle.std.specs.Prelude.{ℕ, Bool, true, false, cond, not, ◌&&◌, ◌||◌, List, [], ◌∷◌, Some, None, Option, ◌==◌, nat_eq, nat_le}

abbrev pub CR : ℕ
CR = 13

abbrev pub LF : ℕ
LF = 10

abbrev pub colon : ℕ
colon = 58

-- a space or a tab
abbrev pub wsp : ℕ → Bool
wsp b = b == 32 || b == 9

-- RFC 5322, 3.6.8: what a field's name is made of, 33 to 126 without the colon
abbrev pub ftext : ℕ → Bool
ftext b = (nat_le 33 b && nat_le b 57) || (nat_le 59 b && nat_le b 126)

-- what may stand in a line before its CRLF: neither NUL nor LF nor CR
abbrev pub plain : ℕ → Bool
plain b = not (b == 0 || (b == LF || b == CR))

abbrev pub every : (ℕ → Bool) → List ℕ → Bool
every p [] = true
every p (b ∷ s) = p b && every p s

-- the first byte passes
abbrev pub starts : (ℕ → Bool) → List ℕ → Bool
starts p [] = false
starts p (b ∷ s) = p b

-- the longest front of s whose bytes all pass
abbrev pub front : (ℕ → Bool) → List ℕ → List ℕ
front p [] = []
front p (b ∷ s) = let more = b ∷ front p s in cond (p b) more []

-- what stands behind that front
abbrev pub behind : (ℕ → Bool) → List ℕ → List ℕ
behind p [] = []
behind p (b ∷ s) = let more = behind p s in cond (p b) more (b ∷ s)

-- what stands behind one byte of a class
abbrev pub behind_one : (ℕ → Bool) → List ℕ → Option (List ℕ)
behind_one p [] = None
behind_one p (b ∷ s) = cond (p b) (Some s) None

-- what stands behind a byte n
abbrev pub behind_byte : ℕ → List ℕ → Option (List ℕ)
behind_byte n = behind_one (λ b. nat_eq b n)
