-- Quoted strings.
use Rattle.std.specs.Prelude.{◌≡◌, ℕ, suc, List, length, Some, refl}
use Rattle.std.proofs.Common.{⊎_elim, arith}
use Rattle.std.proofs.lemmas.Option.{none-some}
use Rattle.abnf.specs.Abnf.{Rule, ◌⋅◌, star, opt, byte, nothing, At}
use Rattle.abnf.specs.Classes.{qtext}
use Rattle.abnf.proofs.Operators.{seq_in, seq_out, alt_left, alt_right, alt_out, many_in, many_out, many_map, no_more, one_more}
use Rattle.abnf.proofs.Runs.{Shortens}
use Rattle.abnf.proofs.Turns.{turns_shorten, Going, going_run}
use Rattle.lexical.specs.Rfc5322.{FWS, qcontent}
use Rattle.lexical.specs.Reads.{fws, content, no_comment, quoted_rest}
use Rattle.lexical.specs.Folds.{fws_shorter}
use Rattle.lexical.specs.Contents.{Inner, ApartClass, content_shortens, body_sound, body_complete}

-- a quoted-string behind its first quote
abbrev pub QuotedTail : Rule
QuotedTail = star (opt FWS ⋅ qcontent) ⋅ opt FWS ⋅ byte 34

inner : Inner no_comment nothing
inner = record { sound = λ s t e. absurd (none-some _ e); complete = λ s t h. absurd h.derived; short = λ s t e. absurd (none-some _ e) }

apart : ApartClass 34 qtext nothing
apart = record {
  not_close = refl;
  not_pair = refl;
  not_space = refl;
  not_tab = refl;
  not_cr = refl;
  not_opening = λ s t h. absurd h.derived;
  closes_pair = refl;
  closes_opening = refl;
  close_off = (refl, refl);
}

pub quoted_shortens : Shortens quoted_rest
unfolding quoted_rest
quoted_shortens s t e =
    omega (arith, fws_shorter s, turns_shorten (content 34 qtext no_comment) (content_shortens 34 qtext no_comment inner.short) (suc (length (fws s))) (fws s) t e)

pub quoted_sound : (s t : List ℕ) → quoted_rest s ≡ Some t → At QuotedTail s t
unfolding quoted_rest
quoted_sound s t e =
    let p = seq_out (body_sound 34 qtext no_comment nothing inner apart s t e) in
    seq_in
    (many_in (many_map
    (λ u v a. let q = seq_out a in one_more (seq_in q.1 (⊎_elim alt_left (λ r. ⊎_elim alt_right (λ z. absurd z.derived) (alt_out r)) (alt_out q.2))) no_more)
    (many_out p.1)))
    p.2

pub quoted_complete : (s t : List ℕ) → At QuotedTail s t → quoted_rest s ≡ Some t
unfolding quoted_rest
quoted_complete s t h =
    let p = seq_out h in
    body_complete 34 qtext no_comment nothing inner apart s t
    (seq_in
    (many_in (many_map
    (λ u v a. let q = seq_out a in one_more (seq_in q.1 (⊎_elim alt_left (λ r. alt_right (alt_left r)) (alt_out q.2))) no_more)
    (many_out p.1)))
    p.2)

pub quoted_run : (s : List ℕ) → Going (content 34 qtext no_comment) (fws s) (quoted_rest s)
unfolding quoted_rest
quoted_run s = going_run (content 34 qtext no_comment) (fws s)
