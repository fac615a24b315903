-- What the readers of texts answer.
use Rattle.std.specs.Prelude.{ℕ, ◌-◌, Bool, true, cond, ◌&&◌, ◌||◌, List, [], ◌∷◌, length, Some, None, Option, ◌==◌}
use Rattle.fields.specs.Classes.{CR, LF, wsp}
use Rattle.fields.specs.Fields.{Placed}
use Rattle.abnf.specs.Classes.{atext, text, behind_byte, behind_some}
use Rattle.abnf.specs.Turns.{bind}
use Rattle.lexical.specs.Reads.{cfws}
use Rattle.lexical.specs.Spans.{within_of, token_of}
use Rattle.texts.specs.Rfc8098.{Typed}

-- nothing but text and folds
unfoldable pub is_text : List ℕ → Bool
is_text [] = true
is_text (a ∷ []) = text a
is_text (a ∷ b ∷ []) = text a && text b
is_text (a ∷ b ∷ c ∷ s) =
    let more = is_text (b ∷ c ∷ s) in
    let folded = ((a == CR && b == LF) && wsp c) && is_text s in
    cond (text a) more folded

-- what the end of a text is made of: white space and folds
abbrev pub blank : ℕ → Bool
blank b = wsp b || (b == CR || b == LF)

-- a byte before what is left of a text
abbrev pub glue : ℕ → List ℕ → List ℕ
glue b [] = cond (blank b) [] (b ∷ [])
glue b (c ∷ s) = b ∷ c ∷ s

-- without the blanks at the end
unfoldable pub trim : List ℕ → List ℕ
trim [] = []
trim (b ∷ s) = glue b (trim s)

-- the text that w is, and its place in `whole`, which ends with w
abbrev pub text_in : List ℕ → List ℕ → Option Placed
text_in whole w = cond (is_text w) (Some (record { at = length whole - length w; bytes = trim w })) None

unfoldable pub typed_of : List ℕ → Option Typed
typed_of s =
    bind (token_of (behind_some atext) s) (λ k. bind (behind_byte 59 k.rest) (λ u. bind (cfws u) (λ w. bind (text_in s w) (λ x.
    Some (record { kind = within_of s k.text; text = x })))))
