-- The continuation lines of a field, and its end.
use Rattle.std.proofs.Common.{◌≡◌, ℕ, suc, ◌+◌, ◌-◌, ◌≤◌, true, false, not, ◌&&◌, eqb, leb, List, [], ◌∷◌, ◌++◌, length, Some, None, sym, refl, ap, ◌∙◌, subst, ⊎_elim, arith, length-append}
use Rattle.std.proofs.lemmas.Bool.{cond-true, cond-false, cond_both, and_parts, and_from, and_left, and_right, both_ways, cases_Bool, eqb-true, le-leb, not_from_true}
use Rattle.std.proofs.lemmas.List.{append_assoc}
use Rattle.std.proofs.lemmas.Option.{none-some}
use Rattle.fields.specs.declared.field.Form.{Form}
use Rattle.fields.specs.Limits.{longest_line}
use Rattle.fields.specs.Classes.{wsp, ftext, plain, every, front, behind}
use Rattle.fields.specs.Lines.{onto, texts, sound, indented, blank}
use Rattle.fields.specs.Fields.{PlacedField, field_at, continued, Cut, whole, fault, stop, continues, spoils, faulty, opening, continuing, closing, by_role, cut}
use Rattle.fields.specs.Scans.{at_crlf, line_end, fold_start, fold_end}
use Rattle.fields.proofs.Parting.{parted, no_crlf, plain_cr, texts_on, texts_line, every_sub, wsp_plain, crlf_is, LineAt, line_at, no_line}
use Rattle.fields.proofs.Cutting.{parts_of, front_every, behind_is, cut_line, cut_closes}
use Rattle.fields.proofs.Opening.{role_continues, sound_parts, sound_from, Open}

-- a fold starts with CRLF and white space
pub record FoldAt (end line : List ℕ) : Type 0 where
  pub white : ℕ
  pub is_white : wsp white ≡ true
  pub end_is : end ≡ 13 ∷ 10 ∷ white ∷ line

pub fold_at : (end line : List ℕ) → fold_start end ≡ Some line → FoldAt end line
fold_at [] line e = absurd (none-some _ e)
fold_at (a ∷ []) line e = absurd (none-some _ e)
fold_at (a ∷ b ∷ []) line e = absurd (none-some _ e)
fold_at (a ∷ b ∷ c ∷ s) line e =
    cond_both ((eqb a 13 && eqb b 10) && wsp c) (Some s) None (λ o. o ≡ Some line → FoldAt (a ∷ b ∷ c ∷ s) line)
    (λ h q.
    let x = and_parts (eqb a 13 && eqb b 10) (wsp c) h in
    let y = and_parts (eqb a 13) (eqb b 10) x.0 in
    let cr : a ≡ 13 = eqb-true a 13 y.0 in
    let lf : b ≡ 10 = eqb-true b 10 y.1 in
    let same : s ≡ line = cc in
    record { white = c; is_white = x.1; end_is = cc })
    (λ _ n. absurd (none-some _ n))
    e

pub fold_size : (end line : List ℕ) → Some line ≡ fold_start end → length end ≡ length line + 3
fold_size end line e = ap length (fold_at end line (sym e)).end_is ∙ omega arith

-- a CRLF that starts no fold
pub not_indented : (rest : List ℕ) → fold_start (13 ∷ 10 ∷ rest) ≡ None → indented rest ≡ false
not_indented [] e = refl
not_indented (c ∷ s) e = cond_both (wsp c) (Some s) None (λ o. o ≡ None → wsp c ≡ false) (λ _ n. absurd (none-some _ (sym n))) (λ h _. h) e

-- white space alone up to the line's end
blank_line : (t rest : List ℕ) → at_crlf (behind wsp (t ++ 13 ∷ 10 ∷ rest)) ≡ false → every wsp t ≡ false
blank_line t rest h =
    ⊎_elim (λ y. absurd (both_ways (at_crlf (behind wsp (t ++ 13 ∷ 10 ∷ rest))) h (ap at_crlf (behind_is wsp t (13 ∷ 10 ∷ rest) y refl)))) (λ n. n) (cases_Bool (every wsp t))

-- what `fold_end` finds: a continuation line's text behind its first byte
pub fold_line : (line end : List ℕ) → fold_end line ≡ Some end → (l : LineAt (longest_line - 1) line end) × (every wsp l.text ≡ false)
fold_line line end e =
    cond_both (at_crlf (behind wsp line)) None (line_end (longest_line - 1) line) (λ o. o ≡ Some end → (l : LineAt (longest_line - 1) line end) × (every wsp l.text ≡ false))
    (λ _ n. absurd (none-some _ n))
    (λ h q.
    let l = line_at end (longest_line - 1) line q in
    (l, blank_line l.text l.rest (subst (λ s. at_crlf (behind wsp s) ≡ false) (l.whole_is ∙ ap (λ x. l.text ++ x) l.end_is) h)))
    e

pub fold_less : (line end : List ℕ) → Some end ≡ fold_end line → length end ≤ length line
fold_less line end e = let l = (fold_line line end (sym e)).0 in omega (arith, ap length l.whole_is ∙ length-append l.text end)

-- one continuation line more
module _ (at : ℕ) (s text : List ℕ) where
  pub folded : (end line end' : List ℕ) → Open at s text end → fold_start end ≡ Some line → fold_end line ≡ Some end' → Open at s text end'
  folded end line end' o f e =
      let n = front ftext s in
      let x = fold_at end line f in
      let y = fold_line line end' e in
      let l = y.0 in
      let w = x.white in
      let t = w ∷ l.text in
      let more = o.body ++ 13 ∷ 10 ∷ t in
      let here = at + length n + 1 + length o.body + 2 in
      let rest-is : o.rest ≡ t ++ 13 ∷ 10 ∷ l.rest =
      let a : 13 ∷ 10 ∷ o.rest ≡ 13 ∷ 10 ∷ w ∷ line = sym o.end_is ∙ x.end_is in
      let b : o.rest ≡ w ∷ line = cc in
      b ∙ ap (λ z. w ∷ z) (l.whole_is ∙ ap (λ z. l.text ++ z) l.end_is) in
      let is_sound = sound_from t (and_from (plain w) (every plain l.text) (wsp_plain w x.is_white) l.plains) (omega (arith, l.fits)) in
      let place : here + length t + 2 ≡ at + length n + 1 + length more + 2 =
      let z : length more ≡ length o.body + suc (suc (length t)) = length-append o.body (13 ∷ 10 ∷ t) in omega arith in
      record {
        body = more;
        rest = l.rest;
        text_is = o.text_is ∙ ap (λ z. o.body ++ z) (x.end_is ∙ ap (λ z. 13 ∷ 10 ∷ w ∷ z) l.whole_is) ∙ sym (append_assoc o.body (13 ∷ 10 ∷ t) end');
        end_is = l.end_is;
        goes = λ form.
            o.goes form
            ∙ ap (λ z. cut form (Some (field_at at n o.body)) here (texts z)) rest-is
            ∙ ap (cut form (Some (field_at at n o.body)) here) (texts_line t l.rest (sound_parts t is_sound).0)
            ∙ cut_line form (Some (field_at at n o.body)) here t l.rest
            ∙ ap (by_role (Some (field_at at n o.body)) here (λ g. cut form (Some g) (here + length t + 2) (texts l.rest))) (role_continues form (field_at at n o.body) here t is_sound x.is_white (and_right (wsp w) (every wsp l.text) y.1))
            ∙ ap (λ z. cut form (Some (field_at at n more)) z (texts l.rest)) place;
      }

-- a continuation line at fault
spoiled : (form : Form) (f : PlacedField) (at w : ℕ) (t : List ℕ) (ts : List (List ℕ)) → wsp w ≡ true → ((u : List ℕ) (us : List (List ℕ)) → ts ≡ u ∷ us → (sound (w ∷ t) && not (blank (w ∷ t))) ≡ false) → cut form (Some f) at ((w ∷ t) ∷ ts) ≡ stop (fault at)
unfolding cut
spoiled form f at w t [] h k = ap (by_role (Some f) at (λ g. stop whole)) (cond-true (wsp w) spoils faulty h)
spoiled form f at w t (u ∷ us) h k =
    let on : PlacedField → Cut = λ g. cut form (Some g) (at + length (w ∷ t) + 2) (u ∷ us) in
    let no = k u us refl in
    ap (by_role (Some f) at on) (cond-true (wsp w) (continuing (Some f) (w ∷ t)) (opening form at (w ∷ t)) h ∙ cond-false (sound (w ∷ t) && not (blank (w ∷ t))) (continues (continued f (w ∷ t))) spoils no)

-- where `fold_end` finds none
unfit : (w : ℕ) (line t u : List ℕ) (us : List (List ℕ)) → wsp w ≡ true → fold_end line ≡ None → texts line ≡ t ∷ u ∷ us → (sound (w ∷ t) && not (blank (w ∷ t))) ≡ false
unfit w line t u us h e p =
    let P : Type 0 = (sound (w ∷ t) && not (blank (w ∷ t))) ≡ false in
    let room = longest_line - 1 in
    cond_both (at_crlf (behind wsp line)) None (line_end room line) (λ o. o ≡ None → P)
    (λ c _.
    let x = crlf_is (behind wsp line) c in
    let ws = front wsp line in
    let white = front_every wsp line in
    let q : ws ∷ texts x.0 ≡ t ∷ u ∷ us = sym (ap texts (parts_of wsp line ∙ ap (λ z. ws ++ z) x.1) ∙ texts_line ws x.0 (every_sub wsp plain wsp_plain ws white)) ∙ p in
    let same : ws ≡ t = cc in
    and_right (sound (w ∷ t)) (not (blank (w ∷ t))) (not_from_true (blank (w ∷ t)) (and_from (wsp w) (every wsp t) h (subst (λ z. every wsp z ≡ true) same white))))
    (λ _ n.
    let no = no_line room line t u us n p in
    ⊎_elim (λ y.
    let z = sound_parts (w ∷ t) y in
    let k : length t ≤ room = omega (arith, z.1) in
    absurd (both_ways (every plain t && leb (length t) room) no (and_from (every plain t) (leb (length t) room) (and_parts (plain w) (every plain t) z.0).1 (le-leb (length t) room k))))
    (λ y. and_left (sound (w ∷ t)) (not (blank (w ∷ t))) y)
    (cases_Bool (sound (w ∷ t))))
    e

module _ (at : ℕ) (s text end : List ℕ) (o : Open at s text end) where
  -- how long the parts are
  pub text_size : length text ≡ length o.body + length end
  text_size = ap length o.text_is ∙ length-append o.body end

  pub end_size : length end ≡ length o.rest + 2
  end_size = ap length o.end_is ∙ omega arith

  pub fault_fold : (line : List ℕ) → fold_start end ≡ Some line → fold_end line ≡ None → (form : Form) → cut form None at (texts s) ≡ stop (fault (at + length (front ftext s) + 1 + length o.body + 2))
  fault_fold line f e form =
      let x = fold_at end line f in
      let w = x.white in
      let p = parted line in
      let a : 13 ∷ 10 ∷ o.rest ≡ 13 ∷ 10 ∷ w ∷ line = sym o.end_is ∙ x.end_is in
      let rest-is : o.rest ≡ w ∷ line = cc in
      let here = at + length (front ftext s) + 1 + length o.body + 2 in
      let f = field_at at (front ftext s) o.body in
      o.goes form
      ∙ ap (λ z. cut form (Some f) here (texts z)) rest-is
      ∙ ap (cut form (Some f) here) (texts_on w line (no_crlf w line (plain_cr w (wsp_plain w x.is_white))) ∙ ap (onto w) p.are)
      ∙ spoiled form f here w p.first p.others x.is_white (λ u us k. unfit w line p.first u us x.is_white e (p.are ∙ ap (λ ts. p.first ∷ ts) k))

  pub ended : fold_start end ≡ None → (form : Form) → cut form None at (texts s) ≡ closing (Some (field_at at (front ftext s) o.body)) (cut form None (at + length (front ftext s) + 1 + length o.body + 2) (texts o.rest))
  ended e form =
      o.goes form
      ∙ cut_closes form (field_at at (front ftext s) o.body) (at + length (front ftext s) + 1 + length o.body + 2) o.rest (not_indented o.rest (ap fold_start (sym o.end_is) ∙ e))

  -- the same, by what a reader found
  pub told_as : fold_start end ≡ None → (name body rest : List ℕ) (body_at rest_at : ℕ) → name ≡ front ftext s → body ≡ o.body → rest ≡ o.rest → body_at ≡ at + length (front ftext s) + 1 → rest_at ≡ at + length (front ftext s) + 1 + length o.body + 2 → (form : Form) → cut form None at (texts s) ≡ closing (Some (record { name = record { at = at; bytes = name }; body = record { at = body_at; bytes = body } })) (cut form None rest_at (texts rest))
  told_as e name body rest body_at rest_at n b r bp rp form = let x = ended e form in cc
