-- One turn of each scanner.
use Rattle.std.proofs.Common.{◌≡◌, ℕ, zero, suc, ◌+◌, ◌<◌, ◌≤◌, Bool, true, false, cond, not, nat_lt, List, [], ◌∷◌, length, drop, take, min, get_or, Some, None, sym, refl, ap, ◌∙◌, subst, ⊎_elim, arith}
use Rattle.std.specs.List.{position, position_or_len}
use Rattle.std.proofs.lemmas.Bool.{cond-true, cond-false, cond_both, cases_Bool, ltb-true, ltb-false}
use Rattle.std.proofs.lemmas.Option.{none-some, cond_some}
use Rattle.std.proofs.lemmas.List.{length-take}
use Rattle.fields.specs.Classes.{wsp, plain, behind}
use Rattle.fields.specs.Scans.{at_crlf, crlf_here, line_end, fold_start}
use Rattle.fields.proofs.Patterns.{tail, one_ahead, three_ahead}
use Rattle.fields.proofs.Parting.{plain_cr, no_crlf}

module _ (p : ℕ → Bool) where
  pub behind_more : (s : List ℕ) → 1 ≤ length s → p (get_or s 0 0) ≡ true → behind p s ≡ behind p (tail 1 s)
  behind_more s h e = ap (behind p) (one_ahead s h) ∙ rw (e, behind) refl

  pub behind_none : (s : List ℕ) → length s < 1 → behind p s ≡ s
  behind_none [] h = refl
  behind_none (a ∷ s) h = absurd (omega arith)

-- ---- where a line ends, by how many plain bytes stand in front
pub line_here : (room b : ℕ) (s : List ℕ) → plain b ≡ false → line_end room (b ∷ s) ≡ crlf_here (b ∷ s)
line_here zero b s e = refl
line_here (suc k) b s e = ap (λ o. cond (at_crlf (b ∷ s)) (Some (b ∷ s)) o) (cond-false (plain b) (line_end k s) None e)

no_line_here : (b : ℕ) (s : List ℕ) → plain b ≡ true → crlf_here (b ∷ s) ≡ None
no_line_here b s e = cond-false (at_crlf (b ∷ s)) (Some (b ∷ s)) None (no_crlf b s (plain_cr b e))

line_on : (k b : ℕ) (s : List ℕ) → plain b ≡ true → line_end (suc k) (b ∷ s) ≡ line_end k s
line_on k b s e = cond-false (at_crlf (b ∷ s)) (Some (b ∷ s)) _ (no_crlf b s (plain_cr b e)) ∙ cond-true (plain b) (line_end k s) None e

abbrev unplain : ℕ → Bool
unplain b = not (plain b)

front_on : (b : ℕ) (s : List ℕ) → plain b ≡ true → position_or_len unplain (b ∷ s) ≡ suc (position_or_len unplain s)
front_on b s e = cond-true (not (unplain b)) (1 + position_or_len unplain s) 0 (ap (λ x. not (not x)) e) ∙ omega arith

front_here : (b : ℕ) (s : List ℕ) → plain b ≡ false → position_or_len unplain (b ∷ s) ≡ 0
front_here b s e = cond-false (not (unplain b)) (1 + position_or_len unplain s) 0 (ap (λ x. not (not x)) e)

-- n plain bytes stand in front of the first that is not
pub record LineBy (room : ℕ) (s : List ℕ) (n : ℕ) : Type 0 where
  pub none : length s ≤ n → line_end room s ≡ None
  pub far : room < n → line_end room s ≡ None
  pub near : n < length s → n ≤ room → line_end room s ≡ crlf_here (drop n s)

pub line_more : (room b : ℕ) (s : List ℕ) (n : ℕ) → plain b ≡ true → ((k : ℕ) → LineBy k s n) → LineBy room (b ∷ s) (suc n)
line_more zero b s n e h = let no = no_line_here b s e in record { none = λ _. no; far = λ _. no; near = λ _ g. absurd (omega arith) }
line_more (suc k) b s n e h =
    let on = line_on k b s e in
    let l = h k in
    record { none = λ g. on ∙ l.none (omega arith); far = λ g. on ∙ l.far (omega arith); near = λ g r. on ∙ l.near (omega arith) (omega arith) }

line_by : (room : ℕ) (s : List ℕ) → LineBy room s (position_or_len unplain s)
line_by room [] = record { none = λ _. refl; far = λ _. refl; near = λ g _. absurd (omega arith) }
line_by room (b ∷ s) = ⊎_elim
    (λ e. subst (LineBy room (b ∷ s)) (sym (front_on b s e)) (line_more room b s (position_or_len unplain s) e (λ k. line_by k s)))
    (λ e. subst (LineBy room (b ∷ s)) (sym (front_here b s e)) (record { none = λ g. absurd (omega arith); far = λ g. absurd (omega arith); near = λ _ _. line_here room b s e }))
    (cases_Bool (plain b))

-- how many plain bytes stand in front, where only k are looked at
front_near : (k : ℕ) (s : List ℕ) → position_or_len unplain (take k s) ≡ min k (position_or_len unplain s)
front_near zero s = omega arith
front_near (suc k) [] = omega arith
front_near (suc k) (b ∷ s) = ⊎_elim
    (λ e. omega (arith, front_on b (take k s) e, front_near k s, front_on b s e))
    (λ e. omega (arith, front_here b (take k s) e, front_here b s e))
    (cases_Bool (plain b))

-- the same, by the place of that first byte among those that have room and the one behind them
pub line_nowhere : (room : ℕ) (s : List ℕ) → position (λ b. not (plain b)) (take (room + 1) s) ≡ None → line_end room s ≡ None
line_nowhere room s e =
    let near = take (room + 1) s in
    let n = position_or_len unplain near in
    let by = line_by room s in
    let all = position_or_len unplain s in
    cond_both (nat_lt n (length near)) (Some n) None (λ o. o ≡ None → line_end room s ≡ None)
    (λ _ q. absurd (none-some n (sym q)))
    (λ h _. ⊎_elim
    (λ g. by.far (ltb-true room all g))
    (λ g. by.none (omega (arith, ltb-false room all g, front_near (room + 1) s, length-take (room + 1) s, ltb-false n (length near) h)))
    (cases_Bool (nat_lt room all)))
    e

pub line_near : (room : ℕ) (s : List ℕ) (k : ℕ) → position (λ b. not (plain b)) (take (room + 1) s) ≡ Some k → line_end room s ≡ crlf_here (drop k s)
line_near room s k e =
    let near = take (room + 1) s in
    let n = position_or_len unplain near in
    let all = position_or_len unplain s in
    let at = cond_some (nat_lt n (length near)) n k e in
    let same : all ≡ k = omega (arith, at.1, front_near (room + 1) s, length-take (room + 1) s, ltb-true n (length near) at.0) in
    (line_by room s).near (omega (arith, same, length-take (room + 1) s, ltb-true n (length near) at.0)) (omega (arith, same, length-take (room + 1) s, ltb-true n (length near) at.0)) ∙ ap (λ i. crlf_here (drop i s)) same

pub fold_here : (s : List ℕ) → 3 ≤ length s → get_or s 0 0 ≡ 13 → get_or s 1 0 ≡ 10 → wsp (get_or s 2 0) ≡ true → fold_start s ≡ Some (tail 3 s)
fold_here s h e f g = ap fold_start (three_ahead s h) ∙ rw (e, f) (rw (g, fold_start) refl)
