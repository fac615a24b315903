-- A fault stands where the longest front ends that is an input.
use Rattle.std.proofs.Common.{◌≡◌, ℕ, zero, suc, ◌+◌, ◌-◌, ◌<◌, ◌≤◌, false, ◌&&◌, eqb, List, [], ◌∷◌, ◌++◌, length, take, drop, Some, None, Option, sym, refl, ap, ◌∙◌, subst, arith, length-append}
use Rattle.std.proofs.lemmas.Bool.{cond_both, and_parts, and_right, eqb-true}
use Rattle.std.proofs.lemmas.List.{append_assoc, append-nil, take_at, take-append-drop}
use Rattle.fields.specs.declared.field.Form.{Form}
use Rattle.fields.specs.Classes.{wsp}
use Rattle.fields.specs.Lines.{onto, texts}
use Rattle.fields.specs.Fields.{PlacedField, whole, fault, Cut, stop, Role, opens, continues, ends, spoils, faulty, role, closing, by_role, cut, fields_of}
use Rattle.fields.specs.Scans.{at_crlf}
use Rattle.fields.specs.Built.{Built, InputUpTo}
use Rattle.fields.proofs.Parting.{Parted, parted, texts_on}
use Rattle.fields.proofs.Cutting.{cut_cons}
use Rattle.fields.proofs.Building.{fault_whole, bytes_of, bytes_texts, cut_exactly}

-- a first line, and what stands behind it
record LineOf (s t : List ℕ) (ts : List (List ℕ)) : Type 0 where
  rest : List ℕ
  bytes_are : s ≡ t ++ 13 ∷ 10 ∷ rest
  texts_are : texts rest ≡ ts
  texts_with : (y : List ℕ) → texts (t ++ 13 ∷ 10 ∷ y) ≡ t ∷ texts y

one_text : {t u : List ℕ} {us : List (List ℕ)} {r : List ℕ} → r ∷ [] ≡ t ∷ u ∷ us → ⊥
one_text e = let z : ◌≡◌ {A = ℕ} 0 1 = cc in omega arith

-- whether a CRLF begins depends on two bytes
same_start : (a b : ℕ) (f s x y : List ℕ) → (eqb a 13 && eqb b 10) ≡ false → b ∷ s ≡ f ++ 13 ∷ 10 ∷ x → at_crlf (a ∷ f ++ 13 ∷ 10 ∷ y) ≡ false
same_start a b [] s x y h e = and_right (eqb a 13) (eqb 13 10) refl
same_start a b (c ∷ f) s x y h e = let same : b ≡ c = cc in ap (λ d. eqb a 13 && eqb d 10) (sym same) ∙ h

line_of : (s t u : List ℕ) (us : List (List ℕ)) → texts s ≡ t ∷ u ∷ us → LineOf s t (u ∷ us)
unfolding texts
line_of [] t u us e = absurd (one_text e)
line_of (a ∷ []) t u us e = absurd (one_text e)
line_of (a ∷ b ∷ s) t u us e =
    cond_both (eqb a 13 && eqb b 10) ([] ∷ texts s) (onto a (texts (b ∷ s))) (λ ts. ts ≡ t ∷ u ∷ us → LineOf (a ∷ b ∷ s) t (u ∷ us))
    (λ h q.
    let x = and_parts (eqb a 13) (eqb b 10) h in
    let cr : a ≡ 13 = eqb-true a 13 x.0 in
    let lf : b ≡ 10 = eqb-true b 10 x.1 in
    let same : [] ≡ t = cc in
    let more : texts s ≡ u ∷ us = cc in
    let is : a ∷ b ∷ s ≡ 13 ∷ 10 ∷ s = cc in
    subst (λ v. LineOf (a ∷ b ∷ s) v (u ∷ us)) same (record { rest = s; bytes_are = is; texts_are = more; texts_with = λ y. refl }))
    (λ h q.
    let p = parted (b ∷ s) in
    let r : (a ∷ p.first) ∷ p.others ≡ t ∷ u ∷ us = sym (ap (onto a) p.are) ∙ q in
    let same : a ∷ p.first ≡ t = cc in
    let more : p.others ≡ u ∷ us = cc in
    let l = line_of (b ∷ s) p.first u us (p.are ∙ ap (λ ts. p.first ∷ ts) more) in
    subst (λ v. LineOf (a ∷ b ∷ s) v (u ∷ us)) same
    (record {
      rest = l.rest;
      bytes_are = ap (λ v. a ∷ v) l.bytes_are;
      texts_are = l.texts_are;
      texts_with = λ y. texts_on a (p.first ++ 13 ∷ 10 ∷ y) (same_start a b p.first s l.rest y h l.bytes_are) ∙ ap (onto a) (l.texts_with y);
    }))
    e

-- the bytes of whole lines
abbrev joined : List (List ℕ) → List ℕ
joined [] = []
joined (l ∷ ls) = l ++ 13 ∷ 10 ∷ joined ls

-- some lines, and what stands behind them
record LinesOf (s : List ℕ) (ls : List (List ℕ)) (ts : List (List ℕ)) : Type 0 where
  rest : List ℕ
  bytes_are : s ≡ joined ls ++ rest
  texts_are : texts rest ≡ ts
  texts_with : (y : List ℕ) → texts (joined ls ++ y) ≡ ls ++ texts y

lines_on : (l : List ℕ) (ls ts : List (List ℕ)) (s : List ℕ) (x : LineOf s l (ls ++ ts)) → LinesOf x.rest ls ts → LinesOf s (l ∷ ls) ts
lines_on l ls ts s x y =
    record {
      rest = y.rest;
      bytes_are = x.bytes_are ∙ ap (λ v. l ++ 13 ∷ 10 ∷ v) y.bytes_are ∙ sym (append_assoc l (13 ∷ 10 ∷ joined ls) y.rest);
      texts_are = y.texts_are;
      texts_with = λ v. ap texts (append_assoc l (13 ∷ 10 ∷ joined ls) v) ∙ x.texts_with (joined ls ++ v) ∙ ap (λ us. l ∷ us) (y.texts_with v);
    }

lines_of : (ls : List (List ℕ)) (t : List ℕ) (ts : List (List ℕ)) (s : List ℕ) → texts s ≡ ls ++ t ∷ ts → LinesOf s ls (t ∷ ts)
lines_of [] t ts s e = record { rest = s; bytes_are = refl; texts_are = e; texts_with = λ y. refl }
lines_of (l ∷ []) t ts s e = let x = line_of s l t ts e in lines_on l [] (t ∷ ts) s x (lines_of [] t ts x.rest x.texts_are)
lines_of (l ∷ m ∷ ls) t ts s e = let x = line_of s l m (ls ++ t ∷ ts) e in lines_on l (m ∷ ls) (t ∷ ts) s x (lines_of (m ∷ ls) t ts x.rest x.texts_are)

-- texts that end the cut as ts does, at the first of them: what is left is cut short, or its first line is the same
data Alike (ts : List (List ℕ)) : List (List ℕ) → Type 0 where
  cut_short : {c : ℕ} {w : List ℕ} → Alike ts ((c ∷ w) ∷ [])
  same_line : {t u z : List ℕ} {us zs : List (List ℕ)} → ts ≡ t ∷ u ∷ us → Alike ts (t ∷ z ∷ zs)

-- the lines ls can be cut, and the next text ends the cut at byte b
record StopsAt (form : Form) (before : Option PlacedField) (at : ℕ) (ts : List (List ℕ)) (b : ℕ) : Type 0 where
  ls : List (List ℕ)
  next : List ℕ
  others : List (List ℕ)
  texts_are : ts ≡ ls ++ next ∷ others
  place_is : at + length (joined ls) ≡ b
  something : next ≡ [] → others ≡ [] → ⊥
  closes : (cut form before at (ls ++ [] ∷ [])).ending ≡ whole
  never : (us : List (List ℕ)) → Alike (next ∷ others) us → (cut form before at (ls ++ us)).ending ≡ fault b

closing_ending : (before : Option PlacedField) (c : Cut) → (closing before c).ending ≡ c.ending
closing_ending None c = refl
closing_ending (Some f) c = refl

fault_same : {a b : ℕ} → fault a ≡ fault b → a ≡ b
fault_same e = cc

alike_parted : {ts us : List (List ℕ)} → Alike ts us → Parted us
alike_parted (cut_short {c = c} {w = w}) = record { first = c ∷ w; others = []; are = refl }
alike_parted (same_line {t = t} {z = z} {zs = zs} q) = record { first = t; others = z ∷ zs; are = refl }

append_parted : (ls us : List (List ℕ)) → Parted us → Parted (ls ++ us)
append_parted [] us p = p
append_parted (l ∷ ls) us p = record { first = l; others = ls ++ us; are = refl }

-- whatever field stands before, these end a cut as they stand
ends_whole : (form : Form) (before : Option PlacedField) (at : ℕ) → (cut form before at ([] ∷ [])).ending ≡ whole
unfolding cut
ends_whole form before at = closing_ending before (stop whole)

ends_short : (form : Form) (before : Option PlacedField) (at c : ℕ) (w : List ℕ) → (cut form before at ((c ∷ w) ∷ [])).ending ≡ fault at
unfolding cut
ends_short form before at c w =
    cond_both (wsp c) spoils faulty (λ r. (by_role before at (λ f. stop whole) r).ending ≡ fault at) (λ _. refl) (λ _. closing_ending before (stop (fault at)))

module _ (form : Form) (before : Option PlacedField) (at b : ℕ) (t u : List ℕ) (us : List (List ℕ)) where
  -- the first line is at fault
  stops_here : (r : Role) → role form before at t ≡ r → ((on : PlacedField → Cut) → (by_role before at on r).ending ≡ fault at) → fault at ≡ fault b → StopsAt form before at (t ∷ u ∷ us) b
  stops_here r e h q =
      let same = fault_same q in
      record {
        ls = [];
        next = t;
        others = u ∷ us;
        texts_are = refl;
        place_is = omega arith;
        something = λ _ o. let z : ◌≡◌ {A = ℕ} 0 1 = cc in omega arith;
        closes = ends_whole form before at;
        never = λ vs a. stays a ∙ q;
      }
    where
      stays : {vs : List (List ℕ)} → Alike (t ∷ u ∷ us) vs → (cut form before at vs).ending ≡ fault at
      stays (cut_short {c = c} {w = w}) = ends_short form before at c w
      stays (same_line {t = t'} {z = z} {zs = zs} p) =
          let line : t ≡ t' = cc in
          let on : PlacedField → Cut = λ f. cut form (Some f) (at + length t' + 2) (z ∷ zs) in
          ap (λ x. x.ending) (cut_cons form before at t' (z ∷ zs) (record { first = z; others = zs; are = refl }))
          ∙ ap (λ x. (by_role before at on x).ending) (ap (role form before at) (sym line) ∙ e)
          ∙ h on

  -- the first line goes on with the field f
  stops_later : (r : Role) (f : PlacedField) → role form before at t ≡ r → ((on : PlacedField → Cut) → (by_role before at on r).ending ≡ (on f).ending) → StopsAt form (Some f) (at + length t + 2) (u ∷ us) b → StopsAt form before at (t ∷ u ∷ us) b
  stops_later r f e h x =
      record {
        ls = t ∷ x.ls;
        next = x.next;
        others = x.others;
        texts_are = ap (λ ts. t ∷ ts) x.texts_are;
        place_is = let y : length (t ++ 13 ∷ 10 ∷ joined x.ls) ≡ length t + suc (suc (length (joined x.ls))) = length-append t (13 ∷ 10 ∷ joined x.ls) in omega (arith, x.place_is);
        something = x.something;
        closes = on_line (x.ls ++ [] ∷ []) (append_parted x.ls ([] ∷ []) (record { first = []; others = []; are = refl })) ∙ x.closes;
        never = λ vs a. on_line (x.ls ++ vs) (append_parted x.ls vs (alike_parted a)) ∙ x.never vs a;
      }
    where
      on_line : (ts : List (List ℕ)) → Parted ts → (cut form before at (t ∷ ts)).ending ≡ (cut form (Some f) (at + length t + 2) ts).ending
      on_line ts p =
          let on : PlacedField → Cut = λ g. cut form (Some g) (at + length t + 2) ts in
          ap (λ c. c.ending) (cut_cons form before at t ts p) ∙ ap (λ x. (by_role before at on x).ending) e ∙ h on

  stops_line : (r : Role) → role form before at t ≡ r → ((f : PlacedField) → (cut form (Some f) (at + length t + 2) (u ∷ us)).ending ≡ fault b → StopsAt form (Some f) (at + length t + 2) (u ∷ us) b)
      → (by_role before at (λ f. cut form (Some f) (at + length t + 2) (u ∷ us)) r).ending ≡ fault b → StopsAt form before at (t ∷ u ∷ us) b
  stops_line (opens f) e more q = stops_later (opens f) f e (λ on. closing_ending before (on f)) (more f (sym (closing_ending before (cut form (Some f) (at + length t + 2) (u ∷ us))) ∙ q))
  stops_line (continues f) e more q = stops_later (continues f) f e (λ on. refl) (more f q)
  stops_line ends e more q = absurd (fault_whole (sym q ∙ closing_ending before (stop whole)))
  stops_line spoils e more q = stops_here spoils e (λ on. refl) q
  stops_line faulty e more q = stops_here faulty e (λ on. closing_ending before (stop (fault at))) (sym (closing_ending before (stop (fault at))) ∙ q)

stops_at : (form : Form) (ts : List (List ℕ)) (before : Option PlacedField) (at b : ℕ) → (cut form before at ts).ending ≡ fault b → StopsAt form before at ts b
unfolding cut
stops_at form [] before at b e = absurd (fault_whole (sym e ∙ closing_ending before (stop whole)))
stops_at form ([] ∷ []) before at b e = absurd (fault_whole (sym e ∙ closing_ending before (stop whole)))
stops_at form ((c ∷ w) ∷ []) before at b e =
    let q : fault at ≡ fault b = sym (ends_short form before at c w) ∙ e in
    let same = fault_same q in
    record {
      ls = [];
      next = c ∷ w;
      others = [];
      texts_are = refl;
      place_is = omega arith;
      something = λ n _. let z : ◌≡◌ {A = ℕ} 0 1 = cc in omega arith;
      closes = ends_whole form before at;
      never = λ us a. only a ∙ q;
    }
  where
    only : {us : List (List ℕ)} → Alike ((c ∷ w) ∷ []) us → (cut form before at us).ending ≡ fault at
    only (cut_short {c = d} {w = v}) = ends_short form before at d v
    only (same_line p) = absurd (one_text p)
stops_at form (t ∷ u ∷ us) before at b e = stops_line form before at b t u us (role form before at t) refl (λ f q. stops_at form (u ∷ us) (Some f) (at + length t + 2) b q) e

-- bytes that go on behind a line have the same first line
texts_more : (w v x y : List ℕ) (ys : List (List ℕ)) → texts w ≡ x ∷ y ∷ ys → (z : List ℕ) × (zs : List (List ℕ)) × (texts (w ++ v) ≡ x ∷ z ∷ zs)
texts_more w v x y ys e =
    let l = line_of w x y ys e in
    let p = parted (l.rest ++ v) in
    (p.first, p.others, ap (λ s. texts (s ++ v)) l.bytes_are ∙ ap texts (append_assoc x (13 ∷ 10 ∷ l.rest) v) ∙ l.texts_with (l.rest ++ v) ∙ ap (λ ts. x ∷ ts) p.are)

-- a front that is not empty ends the cut where the whole does
front_alike : (w v next : List ℕ) (others : List (List ℕ)) → texts (w ++ v) ≡ next ∷ others → 0 < length w → Alike (next ∷ others) (texts w)
front_alike w v next others e l = by_parts (parted w).first (parted w).others (parted w).are
  where
    short : (x : List ℕ) → x ≡ w → Alike (next ∷ others) (x ∷ [])
    short [] q = absurd (omega (arith, ap length q))
    short (c ∷ x) q = cut_short

    by_parts : (x : List ℕ) (xs : List (List ℕ)) → texts w ≡ x ∷ xs → Alike (next ∷ others) (texts w)
    by_parts x [] q = subst (Alike (next ∷ others)) (sym q) (short x (ap bytes_of (sym q) ∙ bytes_texts w))
    by_parts x (y ∷ ys) q =
        let m = texts_more w v x y ys q in
        subst (Alike (next ∷ others)) (sym q) (same_line (sym e ∙ m.2))

take_past : (p q : List ℕ) (n : ℕ) → length p ≤ n → take n (p ++ q) ≡ p ++ take (n - length p) q
take_past [] q n h = let same : n ≡ n - 0 = omega arith in ap (λ m. take m q) same
take_past (a ∷ p) q zero h = absurd (omega arith)
take_past (a ∷ p) q (suc n) h =
    let same : n - length p ≡ suc n - suc (length p) = omega arith in
    ap (λ t. a ∷ t) (take_past p q n (omega arith) ∙ ap (λ m. p ++ take m q) same)

some_left : (s next : List ℕ) (others : List (List ℕ)) → texts s ≡ next ∷ others → (next ≡ [] → others ≡ [] → ⊥) → 0 < length s
unfolding texts
some_left [] next others e h = let n : next ≡ [] = cc in let o : others ≡ [] = cc in absurd (h n o)
some_left (c ∷ s) next others e h = omega arith

some_taken : (n : ℕ) (s : List ℕ) → 0 < n → 0 < length s → 0 < length (take n s)
some_taken zero s h l = absurd (omega arith)
some_taken (suc n) [] h l = absurd (omega arith)
some_taken (suc n) (c ∷ s) h l = omega arith

pub input_up_to : (form : Form) (s : List ℕ) (b : ℕ) → (fields_of form s).ending ≡ fault b → InputUpTo form s b
unfolding texts
input_up_to form s b e =
    let x = stops_at form (texts s) None 0 b e in
    let l = lines_of x.ls x.next x.others s x.texts_are in
    let done = joined x.ls in
    let size : length done ≡ b = let y = x.place_is in omega arith in
    let here : take b s ≡ done = ap (take b) l.bytes_are ∙ take_at done l.rest b size in
    let whole_here : (fields_of form done).ending ≡ whole =
    ap (λ v. (fields_of form v).ending) (sym (append-nil done)) ∙ ap (λ ts. (cut form None 0 ts).ending) (l.texts_with []) ∙ x.closes in
    record {
      so_far = ((fields_of form done).fields, subst (Built form 0 (fields_of form done).fields) (sym here) ((cut_exactly form done).accepted whole_here));
      no_further = λ n fs h d.
          let w = take (n - b) l.rest in
          let v = drop (n - b) l.rest in
          let long : take n s ≡ done ++ w = ap (take n) l.bytes_are ∙ take_past done l.rest n (omega arith) ∙ ap (λ m. done ++ take (n - m) l.rest) size in
          let some : 0 < length w = some_taken (n - b) l.rest (omega arith) (some_left l.rest x.next x.others l.texts_are x.something) in
          let alike = front_alike w v x.next x.others (ap texts (take-append-drop (n - b) l.rest) ∙ l.texts_are) some in
          let bad : (fields_of form (take n s)).ending ≡ fault b = ap (λ u. (fields_of form u).ending) long ∙ ap (λ ts. (cut form None 0 ts).ending) (l.texts_with w) ∙ x.never (texts w) alike in
          let good : (fields_of form (take n s)).ending ≡ whole = ap (λ (c : Cut). c.ending) ((cut_exactly form (take n s)).built fs d) in
          fault_whole (sym bad ∙ good);
    }
