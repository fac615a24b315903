-- What each reader answers of its bytes.
use Rattle.std.specs.Prelude.{ℕ, cond, List, [], ◌∷◌, Some, None, Option, ◌==◌}
use Rattle.std.specs.Option.{option_map}
use Rattle.abnf.specs.Classes.{token, behind_byte, behind_some}
use Rattle.abnf.specs.Turns.{Left, bind, run}
use Rattle.lexical.specs.Reads.{quoted_rest, either}
use Rattle.lexical.specs.Spans.{text_of, token_of}
use Rattle.mime.specs.Rfc2045.{Parameter, Content}

abbrev pub token_rest : List ℕ → Left
token_rest = behind_some token

-- what is left behind a value's text
abbrev pub value_rest : List ℕ → Left
value_rest = either 34 quoted_rest token_rest

-- a text, and what is left behind it
pub record Text : Type 0 where
  pub text : List ℕ
  pub rest : List ℕ

-- the token that stands before a byte n, and what is left behind that byte
unfoldable pub token_before : ℕ → List ℕ → Option Text
token_before n s = bind (token_of token_rest s) (λ a. bind (behind_byte n a.rest) (λ u. Some (record { text = text_of a.text; rest = u })))

-- a parameter, and what is left behind it
pub record Read : Type 0 where
  pub parameter : Parameter
  pub rest : List ℕ

unfoldable pub parameter_of : List ℕ → Option Read
parameter_of s =
    bind (token_before 61 s) (λ a. bind (token_of value_rest a.rest) (λ v.
    Some (record { parameter = record { attribute = a.text; value = text_of v.text }; rest = v.rest })))

-- a parameter behind each ";", up to the end
abbrev pub parameters : (List ℕ → Option (List Parameter)) → List ℕ → Option (List Parameter)
parameters again [] = Some []
parameters again (b ∷ s) =
    let more = bind (parameter_of s) (λ p. option_map (λ ps. p.parameter ∷ ps) (again p.rest)) in
    cond (b == 59) more None

unfoldable pub parameters_of : List ℕ → Option (List Parameter)
parameters_of = run parameters

unfoldable pub content_of : List ℕ → Option Content
content_of s =
    bind (token_before 47 s) (λ a. bind (token_of token_rest a.rest) (λ b.
    option_map (λ ps. record { type = a.text; subtype = text_of b.text; parameters = ps }) (parameters_of b.rest)))
