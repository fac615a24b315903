-- The first line of a field, and its continuation lines.
use Rattle.std.proofs.Common.{◌≡◌, ℕ, suc, ◌+◌, ◌-◌, ◌<◌, ◌≤◌, Bool, true, false, not, ◌&&◌, eqb, leb, List, [], ◌∷◌, ◌++◌, length, Some, None, Option, sym, refl, ap, ◌∙◌, arith, length-append}
use Rattle.std.proofs.lemmas.Bool.{cond-true, cond-false, cond_both, and_parts, and_from, both_ways, eqb-true, leb-true, le-leb, not_from_false}
use Rattle.std.proofs.lemmas.List.{append_assoc}
use Rattle.std.proofs.lemmas.Option.{none-some}
use Rattle.fields.specs.declared.field.Form.{Form}
use Rattle.fields.specs.Limits.{longest_line}
use Rattle.fields.specs.Classes.{wsp, ftext, plain, every, starts, front, behind}
use Rattle.fields.specs.Lines.{onto, texts, sound, indented, blank}
use Rattle.fields.specs.Fields.{PlacedField, field_at, continued, fault, stop, opens, continues, spoils, faulty, named, opening, continuing, role, by_role, cut}
use Rattle.fields.specs.Scans.{line_end, past_colon, no_field}
use Rattle.fields.proofs.Parting.{parted, no_crlf, texts_on, texts_front, texts_line, first_starts, every_sub, ftext_plain, ftext_not_wsp, line_at, no_line}
use Rattle.fields.proofs.Cutting.{parts_of, front_every, behind_stops, front_is, behind_is, cut_line, first_fault}

pub every_append : (p : ℕ → Bool) (s t : List ℕ) → every p s ≡ true → every p t ≡ true → every p (s ++ t) ≡ true
every_append p [] t h k = k
every_append p (b ∷ s) t h k = let x = and_parts (p b) (every p s) h in and_from (p b) (every p (s ++ t)) x.0 (every_append p s t x.1 k)

pub every_right : (p : ℕ → Bool) (s t : List ℕ) → every p (s ++ t) ≡ true → every p t ≡ true
every_right p [] t h = h
every_right p (b ∷ s) t h = every_right p s t (and_parts (p b) (every p (s ++ t)) h).1

-- the role of a line that opens a field, whatever stands before it
pub role_opens : (form : Form) (before : Option PlacedField) (at b : ℕ) (n t : List ℕ) → every ftext (b ∷ n) ≡ true → sound (b ∷ n ++ 58 ∷ t) ≡ true → role form before at (b ∷ n ++ 58 ∷ t) ≡ opens (field_at at (b ∷ n) t)
role_opens form before at b n t h k =
    let f = ftext_not_wsp b (and_parts (ftext b) (every ftext n) h).0 in
    cond-false (wsp b) (continuing before (b ∷ n ++ 58 ∷ t)) (opening form at (b ∷ n ++ 58 ∷ t)) f
    ∙ cond-true (sound (b ∷ n ++ 58 ∷ t)) (named at (front ftext (b ∷ n ++ 58 ∷ t)) (behind ftext (b ∷ n ++ 58 ∷ t))) faulty k
    ∙ ap (λ x. named at x (behind ftext (b ∷ n ++ 58 ∷ t))) (front_is ftext (b ∷ n) (58 ∷ t) h refl)
    ∙ ap (named at (b ∷ n)) (behind_is ftext (b ∷ n) (58 ∷ t) h refl)

-- the role of a continuation line
pub role_continues : (form : Form) (f : PlacedField) (at : ℕ) (t : List ℕ) → sound t ≡ true → indented t ≡ true → blank t ≡ false → role form (Some f) at t ≡ continues (continued f t)
role_continues form f at t s i b =
    cond-true (indented t) (continuing (Some f) t) (opening form at t) i
    ∙ cond-true (sound t && not (blank t)) (continues (continued f t)) spoils (and_from (sound t) (not (blank t)) s (not_from_false (blank t) b))

-- the first text of what is neither over nor at an empty line is not empty
first_some : (s t : List ℕ) (ts : List (List ℕ)) → texts s ≡ t ∷ ts → no_field s ≡ false → 0 < length t
first_some [] t ts e h = absurd (both_ways true h refl)
first_some (b ∷ s) t ts e h =
    let p = parted s in
    let r : (b ∷ p.first) ∷ p.others ≡ t ∷ ts = sym (texts_on b s h ∙ ap (onto b) p.are) ∙ e in
    let same : b ∷ p.first ≡ t = cc in
    omega (arith, ap length same)

fault_first : (form : Form) (at : ℕ) (t : List ℕ) (ts : List (List ℕ)) → 0 < length t → ((u : List ℕ) (us : List (List ℕ)) → ts ≡ u ∷ us → sound t ≡ true → named at (front ftext t) (behind ftext t) ≡ faulty) → cut form None at (t ∷ ts) ≡ stop (fault at)
fault_first form at [] ts l h = absurd (omega arith)
fault_first form at (b ∷ t) ts l h = first_fault form at b t ts h

no_colon : (s : List ℕ) → past_colon s ≡ None → starts (λ b. eqb b 58) s ≡ false
no_colon [] e = refl
no_colon (b ∷ s) e = cond_both (eqb b 58) (Some s) None (λ o. o ≡ None → eqb b 58 ≡ false) (λ _ n. absurd (none-some _ (sym n))) (λ h _. h) e

named_none : (at : ℕ) (n t : List ℕ) → starts (λ b. eqb b 58) t ≡ false → named at n t ≡ faulty
named_none at [] t h = refl
named_none at (b ∷ n) [] h = refl
named_none at (b ∷ n) (c ∷ t) h = cond-false (eqb c 58) (opens (field_at at (b ∷ n) t)) faulty h

plain_front : (s : List ℕ) → every plain (front ftext s) ≡ true
plain_front s = every_sub ftext plain ftext_plain (front ftext s) (front_every ftext s)

-- no colon behind the name
pub fault_no_colon : (form : Form) (at : ℕ) (s : List ℕ) → no_field s ≡ false → past_colon (behind ftext s) ≡ None → cut form None at (texts s) ≡ stop (fault at)
fault_no_colon form at s o q =
    let n = front ftext s in
    let r = behind ftext s in
    let p = parted r in
    let stops = first_starts ftext r p.first p.others p.are (behind_stops ftext s) in
    let e : texts s ≡ (n ++ p.first) ∷ p.others = ap texts (parts_of ftext s) ∙ texts_front n r p.first p.others (plain_front s) p.are in
    ap (cut form None at) e
    ∙ fault_first form at (n ++ p.first) p.others (first_some s (n ++ p.first) p.others e o)
    (λ u us _ _.
    ap (λ x. named at x (behind ftext (n ++ p.first))) (front_is ftext n p.first (front_every ftext s) stops)
    ∙ ap (named at n) (behind_is ftext n p.first (front_every ftext s) stops)
    ∙ named_none at n p.first (first_starts (λ b. eqb b 58) r p.first p.others p.are (no_colon r q)))

colon_is : (s text : List ℕ) → past_colon s ≡ Some text → s ≡ 58 ∷ text
colon_is [] text e = absurd (none-some _ e)
colon_is (b ∷ s) text e =
    cond_both (eqb b 58) (Some s) None (λ o. o ≡ Some text → b ∷ s ≡ 58 ∷ text)
    (λ h q. let x : b ≡ 58 = eqb-true b 58 h in let y : s ≡ text = cc in cc)
    (λ _ n. absurd (none-some _ n))
    e

-- the parts of a sound line
pub sound_parts : (t : List ℕ) → sound t ≡ true → (every plain t ≡ true) × (length t ≤ longest_line)
sound_parts t h = let x = and_parts (every plain t) (leb (length t) longest_line) h in (x.0, leb-true (length t) longest_line x.1)

pub sound_from : (t : List ℕ) → every plain t ≡ true → length t ≤ longest_line → sound t ≡ true
sound_from t h k = and_from (every plain t) (leb (length t) longest_line) h (le-leb (length t) longest_line k)

-- a field is open: its body so far is followed by the CRLF that ends a line of it, and the cut goes on behind that
pub record Open (at : ℕ) (s text end : List ℕ) : Type 0 where
  pub body : List ℕ
  pub rest : List ℕ
  pub text_is : text ≡ body ++ end
  pub end_is : end ≡ 13 ∷ 10 ∷ rest
  pub goes : (form : Form) → cut form None at (texts s) ≡ cut form (Some (field_at at (front ftext s) body)) (at + length (front ftext s) + 1 + length body + 2) (texts rest)

-- a name, its colon and the text behind it
module _ (at : ℕ) (s text : List ℕ) (q : past_colon (behind ftext s) ≡ Some text) where
  pub named_is : s ≡ front ftext s ++ 58 ∷ text
  named_is = parts_of ftext s ∙ ap (λ r. front ftext s ++ r) (colon_is (behind ftext s) text q)

  pub named_length : length s ≡ length (front ftext s) + 1 + length text
  named_length = ap length named_is ∙ length-append (front ftext s) (58 ∷ text) ∙ omega arith

  -- the room that the name and the colon leave to the first line
  pub room_left : (r : Option (List ℕ)) → r ≡ line_end (longest_line - (length s - length text)) text → line_end (longest_line - (length (front ftext s) + 1)) text ≡ r
  room_left r e =
      let size = named_length in
      let used : length (front ftext s) + 1 ≡ length s - length text = omega arith in
      ap (λ n. line_end (longest_line - n) text) used ∙ sym e

  -- the line is none if it is at fault wherever a CRLF ends it and a name stands there
  pub fault_named : ((t u : List ℕ) (us : List (List ℕ)) → texts text ≡ t ∷ u ∷ us → sound (front ftext s ++ 58 ∷ t) ≡ true → front ftext s ≡ []) → (form : Form) → cut form None at (texts s) ≡ stop (fault at)
  fault_named h form =
      let n = front ftext s in
      let p = parted text in
      let e : texts s ≡ (n ++ 58 ∷ p.first) ∷ p.others =
      ap texts named_is ∙ texts_front n (58 ∷ text) (58 ∷ p.first) p.others (plain_front s) (texts_on 58 text (no_crlf 58 text refl) ∙ ap (onto 58) p.are) in
      let l : 0 < length (n ++ 58 ∷ p.first) = simp length-append (omega arith) in
      ap (cut form None at) e
      ∙ fault_first form at (n ++ 58 ∷ p.first) p.others l
      (λ u us k i.
      ap (λ x. named at x (behind ftext (n ++ 58 ∷ p.first))) (front_is ftext n (58 ∷ p.first) (front_every ftext s) refl ∙ h p.first u us (p.are ∙ ap (λ ts. p.first ∷ ts) k) i))

  pub fault_long : longest_line < length (front ftext s) + 1 → (form : Form) → cut form None at (texts s) ≡ stop (fault at)
  fault_long h =
      fault_named (λ t u us _ i.
      let x = (sound_parts (front ftext s ++ 58 ∷ t) i).1 in
      let y : length (front ftext s ++ 58 ∷ t) ≡ length (front ftext s) + suc (length t) = length-append (front ftext s) (58 ∷ t) in
      absurd (omega arith))

  pub fault_line : line_end (longest_line - (length (front ftext s) + 1)) text ≡ None → (form : Form) → cut form None at (texts s) ≡ stop (fault at)
  fault_line h =
      fault_named (λ t u us e i.
      let n = front ftext s in
      let room = longest_line - (length n + 1) in
      let x = sound_parts (n ++ 58 ∷ t) i in
      let y : length (n ++ 58 ∷ t) ≡ length n + suc (length t) = length-append n (58 ∷ t) in
      let k : length t ≤ room = omega (arith, x.1) in
      let plains = (and_parts (plain 58) (every plain t) (every_right plain n (58 ∷ t) x.0)).1 in
      absurd (both_ways (every plain t && leb (length t) room) (no_line room text t u us h e) (and_from (every plain t) (leb (length t) room) plains (le-leb (length t) room k))))

-- the first line is sound, and the field open
pub opened_by : (form : Form) (at : ℕ) (n t s rest : List ℕ) → 1 ≤ length n → every ftext n ≡ true → sound (n ++ 58 ∷ t) ≡ true → s ≡ (n ++ 58 ∷ t) ++ 13 ∷ 10 ∷ rest → cut form None at (texts s) ≡ cut form (Some (field_at at n t)) (at + length n + 1 + length t + 2) (texts rest)
opened_by form at [] t s rest l h i e = absurd (omega arith)
opened_by form at (b ∷ n) t s rest l h i e =
    let line = b ∷ n ++ 58 ∷ t in
    let place : at + length line + 2 ≡ at + length (b ∷ n) + 1 + length t + 2 = let y : length (n ++ 58 ∷ t) ≡ length n + suc (length t) = length-append n (58 ∷ t) in omega arith in
    ap (λ x. cut form None at (texts x)) e
    ∙ ap (cut form None at) (texts_line line rest (sound_parts line i).0)
    ∙ cut_line form None at line rest
    ∙ ap (by_role None at (λ f. cut form (Some f) (at + length line + 2) (texts rest))) (role_opens form None at b n t h i)
    ∙ ap (λ x. cut form (Some (field_at at (b ∷ n) t)) x (texts rest)) place

pub opened : (at : ℕ) (s text end : List ℕ) → past_colon (behind ftext s) ≡ Some text → 1 ≤ length (front ftext s) → length (front ftext s) + 1 ≤ longest_line → line_end (longest_line - (length (front ftext s) + 1)) text ≡ Some end → Open at s text end
opened at s text end q some fits e =
    let n = front ftext s in
    let l = line_at end (longest_line - (length n + 1)) text e in
    let t = l.text in
    let size : length (n ++ 58 ∷ t) ≤ longest_line = let y : length (n ++ 58 ∷ t) ≡ length n + suc (length t) = length-append n (58 ∷ t) in omega (arith, l.fits) in
    let is : s ≡ (n ++ 58 ∷ t) ++ 13 ∷ 10 ∷ l.rest =
    named_is at s text q ∙ ap (λ x. n ++ 58 ∷ x) (l.whole_is ∙ ap (λ x. t ++ x) l.end_is) ∙ sym (append_assoc n (58 ∷ t) (13 ∷ 10 ∷ l.rest)) in
    record {
      body = t;
      rest = l.rest;
      text_is = l.whole_is;
      end_is = l.end_is;
      goes = λ form. opened_by form at n t s l.rest some (front_every ftext s) (sound_from (n ++ 58 ∷ t) (every_append plain n (58 ∷ t) (plain_front s) l.plains) size) is;
    }
