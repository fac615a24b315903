-- The lines of an input. A line ends in CRLF; its text is what stands before that.
use Rattle.std.specs.Prelude.{ℕ, Bool, cond, ◌&&◌, List, [], ◌∷◌, length, ◌==◌, nat_le}
use Rattle.fields.specs.Limits.{longest_line}
use Rattle.fields.specs.Classes.{CR, LF, wsp, plain, every, starts}

-- one byte more before the first text
abbrev pub onto : ℕ → List (List ℕ) → List (List ℕ)
onto a [] = []
onto a (t ∷ ts) = (a ∷ t) ∷ ts

-- s parted at each CRLF: the texts of its lines, and last what stands behind the last CRLF
unfoldable pub texts : List ℕ → List (List ℕ)
texts [] = [] ∷ []
texts (a ∷ []) = (a ∷ []) ∷ []
texts (a ∷ b ∷ s) = let ended = [] ∷ texts s in let more = onto a (texts (b ∷ s)) in cond (a == CR && b == LF) ended more

-- a line's text is sound: at most 998 bytes, and no NUL, no LF and no CR
abbrev pub sound : List ℕ → Bool
sound t = every plain t && nat_le (length t) longest_line

-- it begins with a space or a tab, so that it continues the field before it
abbrev pub indented : List ℕ → Bool
indented t = starts wsp t

-- nothing but spaces and tabs
abbrev pub blank : List ℕ → Bool
blank t = every wsp t
