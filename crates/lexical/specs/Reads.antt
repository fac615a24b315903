-- What each reader of white space and words leaves of its bytes.
use Rattle.std.specs.Prelude.{ℕ, zero, suc, Bool, cond, List, [], ◌∷◌, Some, None, ◌==◌}
use Rattle.fields.specs.Classes.{wsp, behind}
use Rattle.fields.specs.Scans.{fold_start}
use Rattle.abnf.specs.Classes.{quotable, ctext, atext, qtext, behind_one, behind_byte, behind_some}
use Rattle.abnf.specs.Turns.{Left, bind, run}
use Rattle.lexical.specs.Rfc5322.{deepest}

-- behind the white space of a fold, or as it was
abbrev pub unfolded : Left → List ℕ → List ℕ
unfolded None s = s
unfolded (Some line) s = behind wsp line

-- what is left behind an [FWS]
abbrev pub fws : List ℕ → List ℕ
fws s = let m = behind wsp s in unfolded (fold_start m) m

-- one piece of a comment or quoted-string and the [FWS] behind it, then on by `again`; or its end, the byte `close`.
-- A piece is a byte of the class, a quoted-pair, or a comment by `inner`
abbrev pub content : ℕ → (ℕ → Bool) → (List ℕ → Left) → (List ℕ → Left) → List ℕ → Left
content close class inner again [] = None
content close class inner again (b ∷ s) =
    let on : List ℕ → Left = λ t. again (fws t) in
    let plain = on s in
    let pair = bind (behind_one quotable s) on in
    let nested = cond (b == 40) (bind (inner s) on) None in
    cond (b == close) (Some s) (cond (class b) plain (cond (b == 92) pair nested))

-- what is left behind a comment whose "(" was read, nested at most d deep
abbrev pub comment_rest : ℕ → List ℕ → Left
comment_rest zero s = None
comment_rest (suc d) s = run (content 41 ctext (comment_rest d)) (fws s)

-- what is left behind a comment
abbrev pub comment_behind : List ℕ → Left
comment_behind s = bind (behind_byte 40 s) (comment_rest deepest)

-- each comment and the [FWS] behind it
abbrev pub comments : (List ℕ → Left) → List ℕ → Left
comments again [] = Some []
comments again (b ∷ s) =
    let nested = bind (comment_rest deepest s) (λ t. again (fws t)) in
    cond (b == 40) nested (Some (b ∷ s))

abbrev pub comments_behind : List ℕ → Left
comments_behind = run comments

-- what is left behind a [CFWS]
unfoldable pub cfws : List ℕ → Left
cfws s = comments_behind (fws s)

-- no comment stands in a quoted-string
abbrev pub no_comment : List ℕ → Left
no_comment s = None

-- what is left behind a quoted-string whose first quote was read
unfoldable pub quoted_rest : List ℕ → Left
quoted_rest s = run (content 34 qtext no_comment) (fws s)

-- by `inner` behind a byte n, else by `other`
abbrev pub either : ℕ → (List ℕ → Left) → (List ℕ → Left) → List ℕ → Left
either n inner other [] = other []
either n inner other (b ∷ s) =
    let opened = inner s in
    let plain = other (b ∷ s) in
    cond (b == n) opened plain

-- what is left behind a word's text
abbrev pub word_rest : List ℕ → Left
word_rest = either 34 quoted_rest (behind_some atext)
