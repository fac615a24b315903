-- RFC 2045, section 5.1: the body of a Content-Type field. Its order turned round, since a definition stands before its use.
-- [CFWS] of RFC 5322 may stand around each token. A rule with a text x derives what has that text.
use Rattle.std.specs.Prelude.{ℕ, List}
use Rattle.abnf.specs.Abnf.{Rule, ◌⋅◌, ◌∕◌, plus, byte, one, each}
use Rattle.abnf.specs.Classes as classes
use Rattle.lexical.specs.Rfc5322.{around, quoted_string}

-- an attribute, and its value as it is written, with its quotes
pub record Parameter : Type 0 where
  pub attribute : List ℕ
  pub value : List ℕ

pub record Content : Type 0 where
  pub type : List ℕ
  pub subtype : List ℕ
  pub parameters : List Parameter

-- 1*<any (US-ASCII) CHAR except SPACE, CTLs, or tspecials>
abbrev pub token_text : Rule
token_text = plus (one classes.token)

abbrev pub token : List ℕ → Rule
token x = around x token_text

-- token / quoted-string
abbrev pub value : List ℕ → Rule
value x = token x ∕ quoted_string x

abbrev pub attribute : List ℕ → Rule
attribute x = token x

-- attribute "=" value
abbrev pub parameter : Parameter → Rule
parameter p = attribute p.attribute ⋅ byte 61 ⋅ value p.value

-- WIDER: any token is a type or a subtype, registered or not
abbrev pub subtype : List ℕ → Rule
subtype x = token x

abbrev pub type : List ℕ → Rule
type x = token x

-- type "/" subtype *(";" parameter)
abbrev pub content : Content → Rule
content c = type c.type ⋅ byte 47 ⋅ subtype c.subtype ⋅ each (λ p. byte 59 ⋅ parameter p) c.parameters
