-- RFC 8098, sections 2.3, 3.1.2, 3.2.3 and 7: the bodies of the form type ";" text.
-- A body is what stands behind the colon, without the CRLF that ends the field.
use Rattle.std.specs.Prelude.{◌≡◌, ℕ, false, List, [], ◌∷◌}
use Rattle.fields.specs.Classes.{wsp}
use Rattle.fields.specs.Fields.{Placed}
use Rattle.abnf.specs.Abnf.{Rule, ◌⋅◌, ◌∕◌, star, plus, opt, byte, one, the, sized}
use Rattle.abnf.specs.Classes.{atext, text}
use Rattle.lexical.specs.Rfc5322.{CRLF, WSP, CFWS, around_at}
use Rattle.lexical.specs.Exact.{Apart}

-- such a body tells its type and its text, each with its place, counted from the body's first byte
pub record Typed : Type 0 where
  pub kind : Placed
  pub text : Placed

-- 2.3
abbrev pub OWS : Rule
OWS = opt CFWS

-- 3.1.2: Atom, by RFC 5321, 4.1.2: 1*atext
abbrev pub address_type : Rule
address_type = plus (one atext)

-- SETTLED: `text` has white space and parentheses too, so the RFC leaves open where a text begins and ends. Here folds may
-- stand inside it. It begins where the OWS before it can go no further, and a "(" there must open a complete comment. It ends
-- before the last white space and folds, and what looks like a comment at its end belongs to it. An empty text stands behind
-- all optional white space

-- 3.2.3: *text
abbrev pub generic_address : Rule
generic_address = star (one text ∕ (CRLF ⋅ WSP))

-- the OWS behind it
abbrev pub trailing : Rule
trailing = star (WSP ∕ (CRLF ⋅ WSP))

-- nothing, or what ends with a byte that is no white space
abbrev pub Ends : List ℕ → Type 0
Ends [] = Unit {0}
Ends (b ∷ []) = wsp b ≡ false
Ends (b ∷ c ∷ s) = Ends (c ∷ s)

-- generic-address OWS with the text x, where the OWS before it is over
abbrev pub text_to_end : List ℕ → Rule
text_to_end x w = Apart w × Ends x × (the x generic_address ⋅ trailing) w

-- 2.3: OWS address-type OWS ";" OWS generic-address OWS
abbrev pub typed_text : Typed → Rule
typed_text t = sized t.text.at (around_at t.kind address_type ⋅ byte 59 ⋅ OWS) ⋅ text_to_end t.text.bytes
