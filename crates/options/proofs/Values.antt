-- The values of a parameter.
use Rattle.std.proofs.Common.{◌≡◌, ℕ, ◌≤◌, true, eqb, List, length, get_or, Some, Option, sym, refl, ap, ◌∙◌, subst}
use Rattle.std.specs.Option.{option_map}
use Rattle.fields.specs.Clean.{clean}
use Rattle.fields.proofs.Patterns.{tail}
use Rattle.abnf.specs.Abnf.{Rule, ◌⋅◌, ◌∕◌, opt, byte, At}
use Rattle.abnf.specs.Classes.{atext, behind_byte}
use Rattle.abnf.specs.Turns.{bind}
use Rattle.abnf.proofs.Operators.{seq_in, seq_out, opt_none, at_shorter}
use Rattle.abnf.proofs.Runs.{Off, byte_sound, byte_complete}
use Rattle.abnf.proofs.Turns.{bind_some, mapped_some}
use Rattle.lexical.specs.Rfc5322.{FWS, atom_text, quoted_text}
use Rattle.lexical.specs.Reads.{word_rest}
use Rattle.lexical.specs.Spans.{Token, token_of}
use Rattle.lexical.specs.Exact.{Apart}
use Rattle.lexical.proofs.Merging.{clean_rest, fws_cfws, cfws_fws}
use Rattle.lexical.specs.Tokens.{TokenSteps, token_steps, token_found, around_in, around_out, split, join, word_reads}
use Rattle.options.specs.Rfc8098.{Series, series, value}
use Rattle.options.specs.Reads.{Read, series_of, token_read, value_of, values_of}
use Rattle.options.proofs.Optional.{mapped_bind}
use Rattle.options.proofs.Listing.{Telling, Asking, asking_first, asking_next, series_sound, series_complete}

-- what may stand behind a value: the end, or a byte that is neither white space nor goes on with it
abbrev pub Ends : List ℕ → Type 0
Ends t = Apart t × Off atext t

value_sound : (s : List ℕ) (x : Read (List ℕ)) → value_of s ≡ Some x → At (opt FWS ⋅ value x.told) s x.rest
value_sound s x e =
    let k = mapped_some token_read (token_of word_rest s) x e in
    subst (λ (z : Read (List ℕ)). At (opt FWS ⋅ value z.told) s z.rest) k.2 (seq_in opt_none (split (around_in (token_steps word_reads s k.0 k.1))))

value_complete : (s m t x : List ℕ) → clean s ≡ true → At (opt FWS ⋅ value x) s m → At (opt FWS) m t → Ends t → value_of s ≡ Some (record { told = x; rest = t })
value_complete s m t x c h g ends =
    let p = seq_out h in
    let a = around_out word_rest (join p.2) in
    let text = a.0.text in
    let steps = a.1 in
    let k : Token = record { text = text; rest = t } in
    let fine : clean text.to ≡ true = clean_rest steps.text (clean_rest steps.before (clean_rest p.1 c)) in
    let all : TokenSteps word_rest (atom_text ∕ quoted_text) s k = record {
      before = fws_cfws c p.1 steps.before;
      text = steps.text;
      behind = cfws_fws fine steps.behind (subst (λ l. At (opt FWS) l t) (sym a.3) g);
    } in
    ap (option_map token_read) (token_found word_reads s k ends.0 ends.1 all) ∙ ap (λ w. Some (record { told = w; rest = t })) a.2

value_short : (s : List ℕ) (x : Read (List ℕ)) → value_of s ≡ Some x → length x.rest ≤ length s
value_short s x e = at_shorter (value_sound s x e)

-- "," [FWS] value *([FWS] "," [FWS] value)
abbrev pub Values : Series (List ℕ) → Rule
Values xs = byte 44 ⋅ opt FWS ⋅ series 44 value xs

pub values_sound : (s : List ℕ) (r : Read (Series (List ℕ))) → values_of s ≡ Some r → At (Values r.told) s r.rest
unfolding values_of
values_sound s r e = let u = bind_some (behind_byte 44 s) _ r e in seq_in (byte_sound 44 s u.0 u.1) (series_sound 44 value_of value value_sound u.0 r u.2)

pub values_complete : (s m t : List ℕ) (xs : Series (List ℕ)) → clean s ≡ true → At (Values xs) s m → At (opt FWS) m t → Ends t → Off (λ b. eqb b 44) t → values_of s ≡ Some (record { told = xs; rest = t })
unfolding values_of
values_complete s m t xs c h g ends o =
    let p = seq_out h in
    ap (λ o. bind o (series_of 44 value_of)) (byte_complete 44 s p.0 p.1)
    ∙ series_complete 44 value_of value Ends (λ u. ((refl, refl, refl), refl)) value_short value_complete p.0 m t xs (clean_rest p.1 c) p.2 g ends o

-- ---- the loop over them, of which only what is left is kept
abbrev pub kept : Read (List (List ℕ)) → Option (List ℕ)
kept xs = Some xs.rest

abbrev pub values_left : List ℕ → Option (List ℕ)
values_left s = option_map (λ v. v.rest) (values_of s)

-- from the value on that `from` begins with
abbrev pub Valuing : List ℕ → List ℕ → Type 0
Valuing from s = Asking 44 value_of kept (value_of from) (values_left s)

pub valuing_first : (s u : List ℕ) → Some u ≡ behind_byte 44 s → Valuing u s
unfolding values_of
valuing_first s u comma =
    subst (Asking 44 value_of kept (value_of u))
    (mapped_bind (λ v. v.rest) (series_of 44 value_of u) ∙ ap (λ o. option_map (λ v. v.rest) (bind o (series_of 44 value_of))) comma)
    (asking_first 44 value_of (λ v. Some v.rest) kept (λ x xs. refl) u)

pub value_less : (from : List ℕ) (k : Token) → Some k ≡ token_of word_rest from → length k.rest ≤ length from
value_less from k e = value_short from (token_read k) (ap (option_map token_read) (sym e))

pub valuing_next : (s from : List ℕ) → Valuing from s → (k : Token) → Some k ≡ token_of word_rest from → 1 ≤ length k.rest → get_or k.rest 0 0 ≡ 44 → Valuing (tail 1 k.rest) s
valuing_next s from g k e =
    let told : Telling 44 value_of kept k.rest (values_left s) = subst (λ o. Asking 44 value_of kept (option_map token_read o) (values_left s)) (sym e) g in
    asking_next 44 value_of kept (values_left s) value_short k.rest told
