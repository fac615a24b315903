-- What a value means.
use Rattle.std.specs.Prelude.{ℕ, Bool, false, cond, ◌&&◌, List, [], ◌∷◌, ◌==◌}
use Rattle.fields.specs.Classes.{CR, LF, wsp, starts}

-- LF and white space: what makes a CR before it the start of a fold
abbrev pub at_fold : List ℕ → Bool
at_fold [] = false
at_fold (b ∷ s) = b == LF && starts wsp s

-- what stands behind a first quote, up to the last one: a quoted-pair means its second byte (RFC 5322, 3.2.4), and a
-- CRLF before white space means nothing (2.2.3)
abbrev pub between : List ℕ → List ℕ
between [] = []
between (a ∷ []) = cond (a == 34) [] (a ∷ [])
between (a ∷ b ∷ s) =
    let pair = b ∷ between s in
    let fold = between s in
    let plain = a ∷ between (b ∷ s) in
    cond (a == 34) [] (cond (a == 92) pair (cond (a == CR && at_fold (b ∷ s)) fold plain))

-- a text that does not begin with a quote means itself
abbrev pub unquoted : List ℕ → List ℕ
unquoted [] = []
unquoted (b ∷ s) = let inside = between s in cond (b == 34) inside (b ∷ s)
