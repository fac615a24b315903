-- What is cut with no fault is built of its fields, and the other way round.
use Rattle.std.proofs.Common.{◌≡◌, ℕ, suc, ◌+◌, ◌≤◌, true, false, not, ◌&&◌, eqb, List, [], ◌∷◌, ◌++◌, length, Some, None, sym, refl, ap, ◌∙◌, subst, arith, length-append}
use Rattle.std.proofs.lemmas.Bool.{cond_both, and_parts, eqb-true, not-true}
use Rattle.std.proofs.lemmas.List.{append_assoc, append-nil}
use Rattle.fields.specs.declared.field.Form.{Form}
use Rattle.fields.specs.declared.field.Form.TheVariants.{Header, Report}
use Rattle.fields.specs.Classes.{wsp, ftext, every, front, behind}
use Rattle.fields.specs.Lines.{onto, texts, sound, indented, blank}
use Rattle.fields.specs.Fields.{PlacedField, field_at, continued, whole, fault, Cut, stop, Role, opens, continues, spoils, faulty, named, opening, continuing, closing, by_role, cut}
use Rattle.fields.specs.Built.{Name, Folds, none, fold, FieldText, nothing, empty_line as rest-behind, Built, over, field, CutExactly}
use Rattle.fields.proofs.Parting.{Parted, never_none, parted, texts_line, ftext_not_wsp}
use Rattle.fields.proofs.Cutting.{parts_of, front_every, cut_line, opening_closes, cut_closes}
use Rattle.fields.proofs.Opening.{role_continues, sound_parts, opened_by}

-- the same field with its body prolonged
abbrev extended : PlacedField → List ℕ → PlacedField
extended f s = record { name = f.name; body = record { at = f.body.at; bytes = f.body.bytes ++ s } }

extended_none : (f : PlacedField) → extended f [] ≡ f
extended_none f = ap (λ b. record { name = f.name; body = record { at = f.body.at; bytes = b } }) (append-nil f.body.bytes)

extended_more : (f : PlacedField) (t s : List ℕ) → extended (continued f t) s ≡ extended f (13 ∷ 10 ∷ t ++ s)
extended_more f t s = ap (λ b. record { name = f.name; body = record { at = f.body.at; bytes = b } }) (append_assoc f.body.bytes (13 ∷ 10 ∷ t) s)

-- Built, then cut.

-- folds and a CRLF behind them begin with CRLF
crlf_first : {fo : List ℕ} (s : List ℕ) → Folds fo → (u : List ℕ) × (fo ++ 13 ∷ 10 ∷ s ≡ 13 ∷ 10 ∷ u)
crlf_first s none = (s, refl)
crlf_first s (fold {t = t} {s = r} c d) = ((t ++ r) ++ 13 ∷ 10 ∷ s, refl)

behind_crlf : {s t : List ℕ} → ◌≡◌ {A = List ℕ} (13 ∷ 10 ∷ s) (13 ∷ 10 ∷ t) → s ≡ t
behind_crlf e = cc

folds_cut : {fo : List ℕ} (form : Form) (f : PlacedField) (at : ℕ) (s u : List ℕ) → Folds fo → fo ++ 13 ∷ 10 ∷ s ≡ 13 ∷ 10 ∷ u → cut form (Some f) at (texts u) ≡ cut form (Some (extended f fo)) (at + length fo) (texts s)
folds_cut form f at s u none e =
    let place : at ≡ at + 0 = omega arith in
    ap (λ x. cut form (Some f) at (texts x)) (sym (behind_crlf e)) ∙ ap (λ x. cut form (Some f) x (texts s)) place ∙ ap (λ x. cut form (Some x) (at + 0) (texts s)) (sym (extended_none f))
folds_cut form f at s u (fold {t = t} {s = r} c d) e =
    let x = crlf_first s d in
    let is : u ≡ t ++ 13 ∷ 10 ∷ x.0 = sym (behind_crlf e) ∙ append_assoc t r (13 ∷ 10 ∷ s) ∙ ap (λ y. t ++ y) x.1 in
    let place : at + length t + 2 + length r ≡ at + length (13 ∷ 10 ∷ t ++ r) = let y : length (t ++ r) ≡ length t + length r = length-append t r in omega arith in
    ap (λ y. cut form (Some f) at (texts y)) is
    ∙ ap (cut form (Some f) at) (texts_line t x.0 (sound_parts t c.is_sound).0)
    ∙ cut_line form (Some f) at t x.0
    ∙ ap (by_role (Some f) at (λ g. cut form (Some g) (at + length t + 2) (texts x.0))) (role_continues form f at t c.is_sound c.is_indented c.not_blank)
    ∙ folds_cut form (continued f t) (at + length t + 2) s x.0 d x.1
    ∙ ap (λ y. cut form (Some y) (at + length t + 2 + length r) (texts s)) (extended_more f t r)
    ∙ ap (λ y. cut form (Some (extended f (13 ∷ 10 ∷ t ++ r))) y (texts s)) place

-- what is built begins with no white space
name_parts : (n : List ℕ) → Name n → (1 ≤ length n) × (every ftext n ≡ true)
name_parts [] h = absurd h
name_parts (b ∷ n) h = (omega arith, h)

name_first : (n s : List ℕ) → Name n → indented (n ++ s) ≡ false
name_first [] s h = absurd h
name_first (b ∷ n) s h = ftext_not_wsp b (and_parts (ftext b) (every ftext n) h).0

built_first : {form : Form} {at : ℕ} {fs : List PlacedField} {s : List ℕ} → Built form at fs s → indented s ≡ false
unfolding cut texts
built_first (over nothing) = refl
built_first (over rest-behind) = refl
built_first (field {name = n} {body = b} {s = s} x d) = ap indented (append_assoc n (58 ∷ b) (13 ∷ 10 ∷ s)) ∙ name_first n ((58 ∷ b) ++ 13 ∷ 10 ∷ s) x.named

built_cut : {form : Form} {at : ℕ} {fs : List PlacedField} {s : List ℕ} → Built form at fs s → cut form None at (texts s) ≡ record { fields = fs; ending = whole }
unfolding cut texts
built_cut (over nothing) = refl
built_cut {at = at} (over (rest-behind {s = s})) = cut_line Header None at [] s
built_cut {form} {at} (field {name = n} {body = b} {s = s} {fs = fs} x d) =
    let fo = x.folds in
    let first = x.first in
    let u = crlf_first s x.folded in
    let np = name_parts n x.named in
    let here = at + length n + 1 + length first + 2 in
    let is : (n ++ 58 ∷ b) ++ 13 ∷ 10 ∷ s ≡ (n ++ 58 ∷ first) ++ 13 ∷ 10 ∷ u.0 =
    append_assoc n (58 ∷ b) (13 ∷ 10 ∷ s)
    ∙ ap (λ y. n ++ 58 ∷ y) (ap (λ y. y ++ 13 ∷ 10 ∷ s) x.body_is ∙ append_assoc first fo (13 ∷ 10 ∷ s) ∙ ap (λ y. first ++ y) u.1)
    ∙ sym (append_assoc n (58 ∷ first) (13 ∷ 10 ∷ u.0)) in
    let place : here + length fo ≡ at + length n + 1 + length b + 2 = let y : length b ≡ length first + length fo = ap length x.body_is ∙ length-append first fo in omega arith in
    opened_by form at n first ((n ++ 58 ∷ b) ++ 13 ∷ 10 ∷ s) u.0 np.0 np.1 x.first_line is
    ∙ folds_cut form (field_at at n first) here s u.0 x.folded u.1
    ∙ ap (λ y. cut form (Some (field_at at n y)) (here + length fo) (texts s)) (sym x.body_is)
    ∙ ap (λ y. cut form (Some (field_at at n b)) y (texts s)) place
    ∙ cut_closes form (field_at at n b) (at + length n + 1 + length b + 2) s (built_first d)
    ∙ ap (closing (Some (field_at at n b))) (built_cut d)

-- Cut, then built.

-- the bytes that texts were parted from
abbrev pub bytes_of : List (List ℕ) → List ℕ
bytes_of [] = []
bytes_of (t ∷ []) = t
bytes_of (t ∷ u ∷ us) = t ++ 13 ∷ 10 ∷ bytes_of (u ∷ us)

bytes_onto : (a : ℕ) (ts : List (List ℕ)) → Parted ts → bytes_of (onto a ts) ≡ a ∷ bytes_of ts
bytes_onto a [] p = absurd (never_none p)
bytes_onto a (t ∷ []) p = refl
bytes_onto a (t ∷ u ∷ us) p = refl

bytes_line : (t : List ℕ) (ts : List (List ℕ)) → Parted ts → bytes_of (t ∷ ts) ≡ t ++ 13 ∷ 10 ∷ bytes_of ts
bytes_line t [] p = absurd (never_none p)
bytes_line t (u ∷ us) p = refl

pub bytes_texts : (s : List ℕ) → bytes_of (texts s) ≡ s
unfolding texts
bytes_texts [] = refl
bytes_texts (a ∷ []) = refl
bytes_texts (a ∷ b ∷ s) =
    cond_both (eqb a 13 && eqb b 10) ([] ∷ texts s) (onto a (texts (b ∷ s))) (λ ts. bytes_of ts ≡ a ∷ b ∷ s)
    (λ h.
    let x = and_parts (eqb a 13) (eqb b 10) h in
    let cr : a ≡ 13 = eqb-true a 13 x.0 in
    let lf : b ≡ 10 = eqb-true b 10 x.1 in
    let e : bytes_of ([] ∷ texts s) ≡ 13 ∷ 10 ∷ s = bytes_line [] (texts s) (parted s) ∙ ap (λ y. 13 ∷ 10 ∷ y) (bytes_texts s) in
    cc)
    (λ _. bytes_onto a (texts (b ∷ s)) (parted (b ∷ s)) ∙ ap (λ y. a ∷ y) (bytes_texts (b ∷ s)))

pub fault_whole : {at : ℕ} → fault at ≡ whole → ⊥
fault_whole e = let y : ◌≡◌ {A = ℕ} 0 1 = cc in omega arith

-- what a cut with no fault shows of the bytes s behind a line of the field f
record GoesOn (form : Form) (f : PlacedField) (at : ℕ) (s : List ℕ) (c : Cut) : Type 0 where
  folds : List ℕ
  rest : List ℕ
  others : List PlacedField
  folded : Folds folds
  bytes_are : 13 ∷ 10 ∷ s ≡ folds ++ 13 ∷ 10 ∷ rest
  built_on : Built form (at + length folds) others rest
  fields_are : c.fields ≡ extended f folds ∷ others

built_at : {form : Form} {at at' : ℕ} {fs fs' : List PlacedField} {s s' : List ℕ} → at ≡ at' → fs ≡ fs' → s ≡ s' → Built form at fs s → Built form at' fs' s'
built_at {form} {at} {at'} {fs} {fs'} {s} {s'} a f e b = subst (λ x. Built form at' fs' x) e (subst (λ x. Built form at' x s) f (subst (λ x. Built form x fs s) a b))

-- the texts ts behind a line of a field, cut with no fault
abbrev Further : Form → List (List ℕ) → Type 0
Further form ts = (f : PlacedField) (at : ℕ) → (cut form (Some f) at ts).ending ≡ whole → GoesOn form f at (bytes_of ts) (cut form (Some f) at ts)

-- a line that is not indented, before more texts of which this is known
module _ (form : Form) (at : ℕ) (t : List ℕ) (ts : List (List ℕ)) (more : Further form ts) where
  abbrev on : PlacedField → Cut
  on f = cut form (Some f) (at + length t + 2) ts

  abbrev Shown : Role → Type 0
  Shown r = (by_role None at on r).ending ≡ whole → Built form at (by_role None at on r).fields (t ++ 13 ∷ 10 ∷ bytes_of ts)

  named_shown : (n r : List ℕ) → t ≡ n ++ r → every ftext n ≡ true → sound t ≡ true → Shown (named at n r)
  named_shown [] r is h k = λ e. absurd (fault_whole e)
  named_shown (b ∷ n) [] is h k = λ e. absurd (fault_whole e)
  named_shown (b ∷ n) (c ∷ body) is h k =
      cond_both (eqb c 58) (opens (field_at at (b ∷ n) body)) faulty Shown
      (λ colon e.
      let name = b ∷ n in
      let line-is : t ≡ name ++ 58 ∷ body = is ∙ ap (λ x. name ++ x ∷ body) (eqb-true c 58 colon) in
      let g = more (field_at at name body) (at + length t + 2) e in
      let fo = g.folds in
      let place : at + length t + 2 + length fo ≡ at + length name + 1 + length (body ++ fo) + 2 =
      let x : length t ≡ length name + suc (length body) = ap length line-is ∙ length-append name (58 ∷ body) in
      let y : length (body ++ fo) ≡ length body + length fo = length-append body fo in
      omega arith in
      let bytes : (name ++ 58 ∷ body ++ fo) ++ 13 ∷ 10 ∷ g.rest ≡ t ++ 13 ∷ 10 ∷ bytes_of ts =
      append_assoc (name ++ 58 ∷ body) fo (13 ∷ 10 ∷ g.rest) ∙ ap (λ x. x ++ (fo ++ 13 ∷ 10 ∷ g.rest)) (sym line-is) ∙ ap (λ x. t ++ x) (sym g.bytes_are) in
      let text : FieldText name (body ++ fo) = record { named = h; first = body; folds = fo; body_is = refl; first_line = ap sound (sym line-is) ∙ k; folded = g.folded } in
      built_at refl (sym g.fields_are) (ap (λ x. x ++ 13 ∷ 10 ∷ g.rest) (sym (append_assoc name (58 ∷ body) fo)) ∙ bytes) (field text (built_at place refl refl g.built_on)))
      (λ _ e. absurd (fault_whole e))

opening_shown : (form : Form) (at : ℕ) (t : List ℕ) (ts : List (List ℕ)) (more : Further form ts) → Shown form at t ts more (opening form at t)
opening_shown Header at [] ts more = λ e. over rest-behind
opening_shown Report at [] ts more = λ e. absurd (fault_whole e)
opening_shown form at (b ∷ t) ts more =
    cond_both (sound (b ∷ t)) (named at (front ftext (b ∷ t)) (behind ftext (b ∷ t))) faulty (Shown form at (b ∷ t) ts more)
    (named_shown form at (b ∷ t) ts more (front ftext (b ∷ t)) (behind ftext (b ∷ t)) (parts_of ftext (b ∷ t)) (front_every ftext (b ∷ t)))
    (λ _ e. absurd (fault_whole e))

-- nothing stands behind the field
over_here : (form : Form) (f : PlacedField) (at : ℕ) → GoesOn form f at [] (closing (Some f) (stop whole))
over_here form f at = record { folds = []; rest = []; others = []; folded = none; bytes_are = refl; built_on = over nothing; fields_are = ap (λ x. x ∷ []) (sym (extended_none f)) }

further : (form : Form) (ts : List (List ℕ)) → Further form ts
unfolding cut
further form [] f at = λ e. over_here form f at
further form ([] ∷ []) f at = λ e. over_here form f at
further form ((b ∷ t) ∷ []) f at =
    cond_both (wsp b) spoils faulty (λ r. (by_role (Some f) at (λ g. stop whole) r).ending ≡ whole → GoesOn form f at (b ∷ t) (by_role (Some f) at (λ g. stop whole) r)) (λ _ e. absurd (fault_whole e)) (λ _ e. absurd (fault_whole e))
further form (t ∷ u ∷ us) f at =
    let ts = u ∷ us in
    let more = further form (u ∷ us) in
    let go : PlacedField → Cut = λ g. cut form (Some g) (at + length t + 2) ts in
    let P : Role → Type 0 = λ r. (by_role (Some f) at go r).ending ≡ whole → GoesOn form f at (t ++ 13 ∷ 10 ∷ bytes_of ts) (by_role (Some f) at go r) in
    cond_both (indented t) (continuing (Some f) t) (opening form at t) P
    (λ i.
    cond_both (sound t && not (blank t)) (continues (continued f t)) spoils P
    (λ k e.
    let x = and_parts (sound t) (not (blank t)) k in
    let g = more (continued f t) (at + length t + 2) e in
    let fo = g.folds in
    let place : at + length t + 2 + length fo ≡ at + length (13 ∷ 10 ∷ t ++ fo) = let y : length (t ++ fo) ≡ length t + length fo = length-append t fo in omega arith in
    record {
      folds = 13 ∷ 10 ∷ t ++ fo;
      rest = g.rest;
      others = g.others;
      folded = fold (record { is_sound = x.0; is_indented = i; not_blank = not-true (blank t) x.1 }) g.folded;
      bytes_are = ap (λ y. 13 ∷ 10 ∷ t ++ y) g.bytes_are ∙ ap (λ y. 13 ∷ 10 ∷ y) (sym (append_assoc t fo (13 ∷ 10 ∷ g.rest)));
      built_on = built_at place refl refl g.built_on;
      fields_are = g.fields_are ∙ ap (λ y. y ∷ g.others) (extended_more f t fo);
    })
    (λ _ e. absurd (fault_whole e)))
    (λ _ e.
    let c : Cut = by_role None at go (opening form at t) in
    let same : by_role (Some f) at go (opening form at t) ≡ closing (Some f) c = opening_closes f at go form at t in
    let here : at ≡ at + 0 = omega arith in
    record {
      folds = [];
      rest = t ++ 13 ∷ 10 ∷ bytes_of ts;
      others = c.fields;
      folded = none;
      bytes_are = refl;
      built_on = built_at here refl refl (opening_shown form at t ts more (sym (ap (λ x. x.ending) same) ∙ e));
      fields_are = ap (λ x. x.fields) same ∙ ap (λ x. x ∷ c.fields) (sym (extended_none f));
    })

first : (form : Form) (at : ℕ) (ts : List (List ℕ)) → (cut form None at ts).ending ≡ whole → Built form at (cut form None at ts).fields (bytes_of ts)
unfolding cut
first form at [] = λ e. over nothing
first form at ([] ∷ []) = λ e. over nothing
first form at ((b ∷ t) ∷ []) =
    cond_both (wsp b) spoils faulty (λ r. (by_role None at (λ g. stop whole) r).ending ≡ whole → Built form at (by_role None at (λ g. stop whole) r).fields (b ∷ t)) (λ _ e. absurd (fault_whole e)) (λ _ e. absurd (fault_whole e))
first form at (t ∷ u ∷ us) =
    let more = further form (u ∷ us) in
    cond_both (indented t) (continuing None t) (opening form at t) (Shown form at t (u ∷ us) more) (λ _ e. absurd (fault_whole e)) (λ _. opening_shown form at t (u ∷ us) more)

pub cut_exactly : (form : Form) (s : List ℕ) → CutExactly form s
cut_exactly form s = record { accepted = λ e. built_at refl refl (bytes_texts s) (first form 0 (texts s) e); built = λ fs d. built_cut d }
