-- Text and folds, from the front.
use Rattle.std.proofs.Common.{◌≡◌, ℕ, ◌<◌, true, false, ◌&&◌, eqb, List, [], ◌∷◌, length, Some, None, sym, refl, ap, ◌∙◌, subst, ⊎_elim, arith}
use Rattle.std.proofs.lemmas.Bool.{cond_both, cond-true, cond-false, and_left, or_cases, eqb-true, ne_eqb}
use Rattle.std.proofs.lemmas.Option.{none-some}
use Rattle.fields.specs.Classes.{wsp, behind}
use Rattle.fields.specs.Scans.{fold_start}
use Rattle.fields.proofs.Folding.{fold_at, fold_size}
use Rattle.abnf.specs.Abnf.{Rule, ◌⋅◌, ◌∕◌, one, At}
use Rattle.abnf.specs.Classes.{text}
use Rattle.abnf.proofs.Operators.{seq_in, seq_out, alt_left, alt_right, alt_out, byte_in, byte_out, one_in, one_out, Many, no_more, one_more}
use Rattle.abnf.proofs.Runs.{Off, behind_shorter, behind_off}
use Rattle.lexical.specs.Rfc5322.{CRLF, WSP}
use Rattle.texts.specs.Reads.{is_text}

pub text_more : (b : ℕ) (s : List ℕ) → text b ≡ true → is_text (b ∷ s) ≡ is_text s
unfolding is_text
text_more b [] e = e
text_more b (c ∷ []) e = ap (λ v. v && text c) e
text_more b (c ∷ d ∷ s) e = cond-true (text b) (is_text (c ∷ d ∷ s)) _ e

pub fold_more : (w : ℕ) (s : List ℕ) → wsp w ≡ true → is_text (13 ∷ 10 ∷ w ∷ s) ≡ is_text s
unfolding is_text
fold_more w s e = ap (λ v. v && is_text s) e

-- at a byte that is no text, and no fold
pub text_stop : (b : ℕ) (s : List ℕ) → text b ≡ false → fold_start (b ∷ s) ≡ None → is_text (b ∷ s) ≡ false
unfolding is_text
text_stop b [] e f = e
text_stop b (c ∷ []) e f = and_left (text b) (text c) e
text_stop b (c ∷ d ∷ s) e f =
    let fold = (eqb b 13 && eqb c 10) && wsp d in
    let none : fold ≡ false = cond_both fold (Some s) None (λ o. o ≡ None → fold ≡ false) (λ _ q. absurd (none-some _ (sym q))) (λ h _. h) f in
    cond-false (text b) (is_text (c ∷ d ∷ s)) (fold && is_text s) e ∙ and_left fold (is_text s) none

-- ---- the turns of the reader
-- what is left of s, behind text
abbrev pub Past : List ℕ → List ℕ → Type 0
Past s rest = (is_text rest ≡ is_text s) × Off text rest

past_text : (s : List ℕ) → is_text (behind text s) ≡ is_text s
past_text [] = refl
past_text (b ∷ s) =
    cond_both (text b) (behind text s) (b ∷ s) (λ l. is_text l ≡ is_text (b ∷ s)) (λ e. past_text s ∙ sym (text_more b s e)) (λ _. refl)

pub past_skip : (s u rest : List ℕ) → is_text u ≡ is_text s → rest ≡ behind text u → Past s rest
past_skip s u rest e q = subst (Past s) (sym q) (past_text u ∙ e, behind_off text u)

pub past_fold : (s line : List ℕ) → Some line ≡ fold_start s → is_text s ≡ is_text line
past_fold s line e = let f = fold_at s line (sym e) in ap is_text f.end_is ∙ fold_more f.white line f.is_white

pub past_less : (s line rest : List ℕ) → Some line ≡ fold_start s → rest ≡ behind text line → length rest < length s
past_less s line rest e q = omega (arith, fold_size s line e, ap length q, behind_shorter text line)

pub past_all : (s rest : List ℕ) → Past s rest → fold_start rest ≡ None → eqb (length rest) 0 ≡ is_text s
unfolding is_text
past_all s rest p f = ended rest p.1 f ∙ p.0
  where
    ended : (r : List ℕ) → Off text r → fold_start r ≡ None → eqb (length r) 0 ≡ is_text r
    ended [] o e = refl
    ended (b ∷ r) o e = ne_eqb (length (b ∷ r)) 0 (λ z. omega arith) ∙ sym (text_stop b r o e)

-- ---- the rule
abbrev pub Piece : Rule
Piece = one text ∕ (CRLF ⋅ WSP)

abbrev pub White : Rule
White = WSP ∕ (CRLF ⋅ WSP)

pub fold_in : {b : ℕ} {s : List ℕ} → wsp b ≡ true → At (CRLF ⋅ WSP) (13 ∷ 10 ∷ b ∷ s) s
fold_in e = seq_in (seq_in (byte_in refl) (byte_in refl)) (one_in e)

pub fold_out : {s t : List ℕ} → At (CRLF ⋅ WSP) s t → (b : ℕ) × (s ≡ 13 ∷ 10 ∷ b ∷ t) × (wsp b ≡ true)
fold_out h =
    let p = seq_out h in
    let q = seq_out p.1 in
    let d = one_out p.2 in
    (d.0, byte_out q.1 ∙ ap (λ l. 13 ∷ l) (byte_out q.2) ∙ ap (λ l. 13 ∷ 10 ∷ l) d.1, d.2)

pub text_pieces : {s t : List ℕ} → Many Piece s t → is_text s ≡ is_text t
text_pieces no_more = refl
text_pieces (one_more {s} {m} {t} a r) =
    ⊎_elim
    (λ o. let d = one_out o in ap is_text d.1 ∙ text_more d.0 m d.2)
    (λ f. let d = fold_out f in ap is_text d.1 ∙ fold_more d.0 m d.2)
    (alt_out a)
    ∙ text_pieces r

wsp_text : (b : ℕ) → wsp b ≡ true → text b ≡ true
wsp_text b e = ⊎_elim (λ h. ap text (eqb-true b 32 h)) (λ h. ap text (eqb-true b 9 h)) (or_cases (eqb b 32) (eqb b 9) e)

pub white_piece : (s t : List ℕ) → At White s t → Many Piece s t
white_piece s t h = ⊎_elim
    (λ w. let d = one_out w in subst (λ l. Many Piece l t) (sym d.1) (one_more (alt_left (one_in (wsp_text d.0 d.2))) no_more))
    (λ f. one_more (alt_right f) no_more)
    (alt_out h)
