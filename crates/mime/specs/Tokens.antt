-- Tokens and values, as the rules have them.
use Rattle.std.specs.Prelude.{◌≡◌, ℕ, List, Some, refl}
use Rattle.std.proofs.Common.{sym, subst}
use Rattle.abnf.specs.Abnf.{Rule, ◌∕◌, At}
use Rattle.abnf.specs.Classes.{token}
use Rattle.abnf.specs.Turns.{Left}
use Rattle.abnf.proofs.Runs.{Off, Shortens, some_shortens}
use Rattle.lexical.specs.Exact.{Apart}
use Rattle.lexical.specs.Reads.{quoted_rest}
use Rattle.lexical.specs.Rfc5322.{around, quoted_text}
use Rattle.lexical.specs.Spans.{Token, text_of, token_of}
use Rattle.lexical.specs.Quoting.{QuotedTail, quoted_shortens}
use Rattle.lexical.specs.Tokens.{Reads, token_found, around_out, either_shortens, either_reads, some_first, some_reads, quoted_opened}
use Rattle.mime.specs.Rfc2045.{token_text}
use Rattle.mime.specs.Reads.{token_rest, value_rest}

pub token_reads : Reads token_rest token_text token
token_reads = some_reads token refl refl refl refl

pub value_shortens : Shortens value_rest
value_shortens = either_shortens 34 quoted_rest token_rest quoted_shortens (some_shortens token)

pub value_reads : Reads value_rest (token_text ∕ quoted_text) token
value_reads = either_reads 34 quoted_rest token_rest token_text QuotedTail token quoted_opened token_reads (refl, refl, refl) (some_first token 34 refl)

-- t goes on neither a token nor the white space behind it
abbrev pub Beyond : List ℕ → Type 0
Beyond t = Apart t × Off token t

pub around_complete : {leaves : List ℕ → Left} {R : Rule} → Reads leaves R token → {x s t : List ℕ} → Beyond t → At (around x R) s t → (k : Token) × (token_of leaves s ≡ Some k) × (text_of k.text ≡ x) × (k.rest ≡ t)
around_complete {leaves} known {s = s} b h =
    let z = around_out leaves h in
    (z.0, token_found known s z.0 (subst Apart (sym z.3) b.0) (subst (Off token) (sym z.3) b.1) z.1, z.2, z.3)
