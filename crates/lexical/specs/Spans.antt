-- A text by the bytes from it on and those behind it.
use Rattle.std.specs.Prelude.{ℕ, ◌+◌, ◌-◌, ◌^◌, min, List, length, take, Some, Option}
use Rattle.fields.specs.Fields.{Placed}
use Rattle.abnf.specs.Turns.{Left, bind}
use Rattle.lexical.specs.declared.span.Span.{Span}
use Rattle.lexical.specs.declared.span.Taken.{Taken}
use Rattle.lexical.specs.Reads.{cfws}

pub record Spanned : Type 0 where
  pub from : List ℕ
  pub to : List ℕ

-- the text of a span, and what is left behind it and its white space
pub record Token : Type 0 where
  pub text : Spanned
  pub rest : List ℕ

-- what stands before `to`
abbrev pub ahead : List ℕ → List ℕ → List ℕ
ahead from to = take (length from - length to) from

abbrev pub text_of : Spanned → List ℕ
text_of s = ahead s.from s.to

-- the place k bytes behind `at`, as far as the machine counts
abbrev pub further : ℕ → ℕ → ℕ
further at k = min (at + k) (2 ^ 64 - 1)

-- the text of a span, and its place in `whole`
abbrev pub within_of : List ℕ → Spanned → Placed
within_of whole s = record { at = length whole - length s.from; bytes = text_of s }

-- a text of a part of the input, with its place in the input
abbrev pub moved : ℕ → Placed → Placed
moved at p = record { at = further at p.at; bytes = p.bytes }

-- what is read of s between [CFWS] and [CFWS]
abbrev pub token_of : (List ℕ → Left) → List ℕ → Option Token
token_of leaves s =
    bind (cfws s) (λ from. bind (leaves from) (λ to. bind (cfws to) (λ rest. Some (record { text = record { from = from; to = to }; rest = rest }))))

-- the code's spans, as the definitions speak of them
abbrev pub spanned : Span → Spanned
spanned s = record { from = s.from.now; to = s.to.now }

abbrev pub taken : Taken Span → Token
taken t = record { text = spanned t.value; rest = t.rest.now }
