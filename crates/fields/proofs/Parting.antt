-- What parting at each CRLF gives.
use Rattle.std.proofs.Common.{◌≡◌, ℕ, zero, suc, ◌≤◌, Bool, true, false, cond, ◌&&◌, ◌||◌, eqb, leb, List, [], ◌∷◌, ◌++◌, length, Some, None, Option, sym, refl, ap, ◌∙◌, ⊎_elim, arith}
use Prim.Native.Nat.compare
use Rattle.std.proofs.lemmas.Bool.{cond-false, cond_both, and_parts, and_left, and_right, and_from, or_parts, not-true, eqb-true, ne_eqb, leb-true, lt-leb, or_cases, both_ways}
use Rattle.std.proofs.lemmas.List.{append-nil}
use Rattle.std.proofs.lemmas.Option.{none-some}
use Rattle.fields.specs.Classes.{wsp, ftext, plain, every, starts}
use Rattle.fields.specs.Lines.{onto, texts}
use Rattle.fields.specs.Scans.{at_crlf, line_end}

-- a CR is not plain
pub plain_cr : (b : ℕ) → plain b ≡ true → eqb b 13 ≡ false
plain_cr b e = let x = or_parts (eqb b 0) (eqb b 10 || eqb b 13) (not-true _ e) in (or_parts (eqb b 10) (eqb b 13) x.1).1

pub plain_from : (b : ℕ) → (b ≡ 0 → ⊥) → (b ≡ 10 → ⊥) → (b ≡ 13 → ⊥) → plain b ≡ true
plain_from b nul lf cr = rw (ne_eqb b 0 nul, ne_eqb b 10 lf, ne_eqb b 13 cr) refl

ftext_from : (b : ℕ) → ftext b ≡ true → 33 ≤ b
ftext_from b e =
    ⊎_elim (λ x. leb-true 33 b (and_parts _ _ x).0) (λ x. let y = leb-true 59 b (and_parts _ _ x).0 in omega arith) (or_cases (leb 33 b && leb b 57) (leb 59 b && leb b 126) e)

pub ftext_plain : (b : ℕ) → ftext b ≡ true → plain b ≡ true
ftext_plain b e = let h = ftext_from b e in plain_from b (omega arith) (omega arith) (omega arith)

pub ftext_not_wsp : (b : ℕ) → ftext b ≡ true → wsp b ≡ false
ftext_not_wsp b e = let h = ftext_from b e in rw (ne_eqb b 32 (omega arith), ne_eqb b 9 (omega arith)) refl

pub wsp_plain : (b : ℕ) → wsp b ≡ true → plain b ≡ true
wsp_plain b e = ⊎_elim (λ x. rw (eqb-true b 32 x) refl) (λ x. rw (eqb-true b 9 x) refl) (or_cases (eqb b 32) (eqb b 9) e)

pub every_sub : (p q : ℕ → Bool) → ((b : ℕ) → p b ≡ true → q b ≡ true) → (s : List ℕ) → every p s ≡ true → every q s ≡ true
every_sub p q h [] e = refl
every_sub p q h (b ∷ s) e = let x = and_parts (p b) (every p s) e in and_from (q b) (every q s) (h b x.0) (every_sub p q h s x.1)

pub no_crlf : (b : ℕ) (s : List ℕ) → eqb b 13 ≡ false → at_crlf (b ∷ s) ≡ false
no_crlf b [] e = refl
no_crlf b (a ∷ s) e = and_left (eqb b 13) (eqb a 10) e

-- texts are never none
pub record Parted (ts : List (List ℕ)) : Type 0 where
  pub first : List ℕ
  pub others : List (List ℕ)
  pub are : ts ≡ first ∷ others

pub never_none : Parted [] → ⊥
never_none p = let some : ◌≡◌ {A = List (List ℕ)} [] (p.first ∷ p.others) = p.are in let z : ◌≡◌ {A = ℕ} 0 1 = cc in omega arith

onto_parted : (a : ℕ) (ts : List (List ℕ)) → Parted ts → Parted (onto a ts)
onto_parted a ts p = record { first = a ∷ p.first; others = p.others; are = ap (onto a) p.are }

pub parted : (s : List ℕ) → Parted (texts s)
unfolding texts
parted [] = record { first = []; others = []; are = refl }
parted (a ∷ []) = record { first = a ∷ []; others = []; are = refl }
parted (a ∷ b ∷ s) =
    cond_both (eqb a 13 && eqb b 10) ([] ∷ texts s) (onto a (texts (b ∷ s))) Parted
    (λ _. record { first = []; others = texts s; are = refl })
    (λ _. onto_parted a (texts (b ∷ s)) (parted (b ∷ s)))

-- a byte that begins no CRLF belongs to the first text
pub texts_on : (b : ℕ) (s : List ℕ) → at_crlf (b ∷ s) ≡ false → texts (b ∷ s) ≡ onto b (texts s)
unfolding texts
texts_on b [] e = refl
texts_on b (a ∷ s) e = cond-false (eqb b 13 && eqb a 10) ([] ∷ texts s) (onto b (texts (a ∷ s))) e

pub texts_front : (p s t : List ℕ) (ts : List (List ℕ)) → every plain p ≡ true → texts s ≡ t ∷ ts → texts (p ++ s) ≡ (p ++ t) ∷ ts
unfolding texts
texts_front [] s t ts h e = e
texts_front (a ∷ p) s t ts h e =
    let x = and_parts (plain a) (every plain p) h in
    texts_on a (p ++ s) (no_crlf a (p ++ s) (plain_cr a x.0)) ∙ ap (onto a) (texts_front p s t ts x.1 e)

-- a line: its text comes first
pub texts_line : (p s : List ℕ) → every plain p ≡ true → texts (p ++ 13 ∷ 10 ∷ s) ≡ p ∷ texts s
unfolding texts
texts_line p s h = texts_front p (13 ∷ 10 ∷ s) [] (texts s) h refl ∙ ap (λ t. t ∷ texts s) (append-nil p)

-- the first text is empty, or begins with the first byte
pub first_starts : (g : ℕ → Bool) (s t : List ℕ) (ts : List (List ℕ)) → texts s ≡ t ∷ ts → starts g s ≡ false → starts g t ≡ false
unfolding texts
first_starts g [] t ts e h = let same : [] ≡ t = cc in ap (starts g) (sym same)
first_starts g (b ∷ []) t ts e h = let same : b ∷ [] ≡ t = cc in ap (starts g) (sym same) ∙ h
first_starts g (b ∷ c ∷ s) t ts e h =
    cond_both (eqb b 13 && eqb c 10) ([] ∷ texts s) (onto b (texts (c ∷ s))) (λ us. us ≡ t ∷ ts → starts g t ≡ false)
    (λ _ q. let same : [] ≡ t = cc in ap (starts g) (sym same))
    (λ _ q.
    let p = parted (c ∷ s) in
    let r : (b ∷ p.first) ∷ p.others ≡ t ∷ ts = sym (ap (onto b) p.are) ∙ q in
    let same : b ∷ p.first ≡ t = cc in
    ap (starts g) (sym same) ∙ h)
    e

pub crlf_is : (s : List ℕ) → at_crlf s ≡ true → (u : List ℕ) × (s ≡ 13 ∷ 10 ∷ u)
crlf_is [] e = absurd (both_ways false refl e)
crlf_is (a ∷ []) e = absurd (both_ways false refl e)
crlf_is (a ∷ b ∷ s) e =
    let x = and_parts (eqb a 13) (eqb b 10) e in
    let p : a ≡ 13 = eqb-true a 13 x.0 in
    let q : b ≡ 10 = eqb-true b 10 x.1 in
    (s, cc)

-- what `line_end` finds: a line's text of at most `room` plain bytes, and its CRLF
pub record LineAt (room : ℕ) (s e : List ℕ) : Type 0 where
  pub text : List ℕ
  pub rest : List ℕ
  pub whole_is : s ≡ text ++ e
  pub end_is : e ≡ 13 ∷ 10 ∷ rest
  pub plains : every plain text ≡ true
  pub fits : length text ≤ room

module _ (e : List ℕ) where
  line_here : (room : ℕ) (s : List ℕ) → at_crlf s ≡ true → Some s ≡ Some e → LineAt room s e
  line_here room s h q =
      let same : s ≡ e = cc in
      let x = crlf_is s h in
      record { text = []; rest = x.0; whole_is = same; end_is = sym same ∙ x.1; plains = refl; fits = omega arith }

  line_further : (room b : ℕ) (s : List ℕ) → plain b ≡ true → LineAt room s e → LineAt (suc room) (b ∷ s) e
  line_further room b s h l =
      record { text = b ∷ l.text; rest = l.rest; whole_is = ap (λ t. b ∷ t) l.whole_is; end_is = l.end_is; plains = and_from (plain b) (every plain l.text) h l.plains; fits = omega arith }

  pub line_at : (room : ℕ) (s : List ℕ) → line_end room s ≡ Some e → LineAt room s e
  line_at room [] q = absurd (none-some _ q)
  line_at zero (b ∷ s) q =
      cond_both (at_crlf (b ∷ s)) (Some (b ∷ s)) None (λ o. o ≡ Some e → LineAt zero (b ∷ s) e) (line_here zero (b ∷ s)) (λ _ n. absurd (none-some _ n)) q
  line_at (suc k) (b ∷ s) q =
      let P : Option (List ℕ) → Type 0 = λ o. o ≡ Some e → LineAt (suc k) (b ∷ s) e in
      cond_both (at_crlf (b ∷ s)) (Some (b ∷ s)) (cond (plain b) (line_end k s) None) P (line_here (suc k) (b ∷ s))
      (λ _. cond_both (plain b) (line_end k s) None P (λ h n. line_further k b s h (line_at k s n)) (λ _ n. absurd (none-some _ n)))
      q

-- the first text of b ∷ s is one byte longer than that of s
shifted : (b : ℕ) (s t u : List ℕ) (us : List (List ℕ)) → texts (b ∷ s) ≡ t ∷ u ∷ us → at_crlf (b ∷ s) ≡ false → (v : List ℕ) × (t ≡ b ∷ v) × (texts s ≡ v ∷ u ∷ us)
shifted b s t u us e h =
    let p = parted s in
    let q : (b ∷ p.first) ∷ p.others ≡ t ∷ u ∷ us = sym (texts_on b s h ∙ ap (onto b) p.are) ∙ e in
    let r : p.others ≡ u ∷ us = cc in
    (p.first, cc, p.are ∙ ap (λ ts. p.first ∷ ts) r)

-- where `line_end` finds none, the first text is no line's, or is not plain, or is too long
pub no_line : (room : ℕ) (s t u : List ℕ) (us : List (List ℕ)) → line_end room s ≡ None → texts s ≡ t ∷ u ∷ us → (every plain t && leb (length t) room) ≡ false
unfolding texts
no_line room [] t u us q e = let z : ◌≡◌ {A = ℕ} 0 1 = cc in absurd (omega arith)
no_line zero (b ∷ s) t u us q e =
    let Q : Type 0 = (every plain t && leb (length t) zero) ≡ false in
    cond_both (at_crlf (b ∷ s)) (Some (b ∷ s)) None (λ o. o ≡ None → Q) (λ _ n. absurd (none-some _ (sym n)))
    (λ h _. let x = shifted b s t u us e h in rw x.1 (and_right (plain b && every plain x.0) (leb (suc (length x.0)) 0) (lt-leb (suc (length x.0)) 0 (omega arith))))
    q
no_line (suc k) (b ∷ s) t u us q e =
    let Q : Type 0 = (every plain t && leb (length t) (suc k)) ≡ false in
    let P : Option (List ℕ) → Type 0 = λ o. o ≡ None → Q in
    cond_both (at_crlf (b ∷ s)) (Some (b ∷ s)) (cond (plain b) (line_end k s) None) P (λ _ n. absurd (none-some _ (sym n)))
    (λ h. let x = shifted b s t u us e h in
    cond_both (plain b) (line_end k s) None P
    (λ y n. rw x.1 (rw y (rw compare.suc-suc (no_line k s x.0 u us n x.2))))
    (λ y n. rw x.1 (rw y refl)))
    q
