-- The body of a Disposition-Notification-Options field: RFC 8098, sections 2.2 and 7, each rule behind those that it is made of.
use Rattle.std.specs.Prelude.{◌≡◌, ℕ, List, map, codes}
use Rattle.std.specs.Char.{to_ascii_lowercase}
use Rattle.abnf.specs.Abnf.{Rule, ◌⋅◌, opt, byte, the, each}
use Rattle.lexical.specs.Rfc5322.{FWS, atom_text, word}
use Rattle.options.specs.declared.importance.Importance.{Importance}
use Rattle.options.specs.declared.importance.Importance.TheVariants.{Required, Optional}

-- one or more
pub record Series (X : Type 0) : Type 0 where
  pub first : X
  pub others : List X

-- A *([FWS] n [FWS] A), where each A tells one of these
abbrev pub series : {X : Type 0} → ℕ → (X → Rule) → Series X → Rule
series n A xs = A xs.first ⋅ each (λ x. opt FWS ⋅ byte n ⋅ opt FWS ⋅ A x) xs.others

-- what a parameter tells. The values are as they are written, from quote to quote where they are quoted
pub record Parameter : Type 0 where
  pub attribute : List ℕ
  pub importance : Importance
  pub values : Series (List ℕ)

-- RFC 5234, 2.3: a string in quotes. The case of its letters does not count; k has it in lower case
abbrev pub keyword : List ℕ → Rule
keyword k w = map to_ascii_lowercase w ≡ k

-- 2.2: "required" / "optional"
abbrev pub importance_word : Importance → List ℕ
importance_word Required = codes "required"
importance_word Optional = codes "optional"

abbrev pub importance : Importance → Rule
importance i = keyword (importance_word i)

-- 7: Atom, which in RFC 5321, 4.1.2, is 1*atext
abbrev pub attribute : List ℕ → Rule
attribute x = the x atom_text

-- 7: word
abbrev pub value : List ℕ → Rule
value x = word x

-- 2.2: attribute [FWS] "=" [FWS] importance [FWS] "," [FWS] value *([FWS] "," [FWS] value)
abbrev pub disposition_notification_parameter : Parameter → Rule
disposition_notification_parameter p =
    attribute p.attribute ⋅ opt FWS ⋅ byte 61 ⋅ opt FWS ⋅ importance p.importance ⋅ opt FWS ⋅ byte 44 ⋅ opt FWS ⋅ series 44 value p.values

-- 2.2: parameter *([FWS] ";" [FWS] parameter)
abbrev pub disposition_notification_parameter_list : Series Parameter → Rule
disposition_notification_parameter_list = series 59 disposition_notification_parameter

-- 2.2: what stands behind the colon of the field, up to its last CRLF
abbrev pub options_body : Series Parameter → Rule
options_body ps = opt FWS ⋅ disposition_notification_parameter_list ps
