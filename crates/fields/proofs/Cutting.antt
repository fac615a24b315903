-- How the cut goes on, line by line.
use Rattle.std.proofs.Common.{◌≡◌, ℕ, ◌+◌, ◌<◌, ◌≤◌, Bool, true, false, cond, eqb, List, [], ◌∷◌, ◌++◌, length, get_or, Some, None, Option, sym, refl, ap, ◌∙◌, subst, arith}
use Rattle.std.proofs.lemmas.Bool.{cond-true, cond-false, cond_both, and_parts, and_from}
use Rattle.fields.specs.declared.field.Form.{Form}
use Rattle.fields.specs.declared.field.Form.TheVariants.{Header, Report}
use Rattle.fields.specs.Classes.{wsp, ftext, every, starts, front, behind}
use Rattle.fields.specs.Lines.{texts, sound, indented}
use Rattle.fields.specs.Fields.{PlacedField, field_at, Cut, fault, whole, stop, Role, opens, spoils, faulty, named, empty_line, opening, continuing, role, closing, by_role, cut}
use Rattle.fields.proofs.Patterns.{tail, two_ahead}
use Rattle.fields.proofs.Parting.{Parted, never_none, parted, first_starts}

parts_by : (x : Bool) (b : ℕ) (u v s : List ℕ) → s ≡ u ++ v → b ∷ s ≡ cond x (b ∷ u) [] ++ cond x v (b ∷ s)
parts_by true b u v s e = ap (λ t. b ∷ t) e
parts_by false b u v s e = refl

module _ (p : ℕ → Bool) where
  pub parts_of : (s : List ℕ) → s ≡ front p s ++ behind p s
  parts_of [] = refl
  parts_of (b ∷ s) = parts_by (p b) b (front p s) (behind p s) s (parts_of s)

  pub front_every : (s : List ℕ) → every p (front p s) ≡ true
  front_every [] = refl
  front_every (b ∷ s) = cond_both (p b) (b ∷ front p s) [] (λ x. every p x ≡ true) (λ h. and_from (p b) (every p (front p s)) h (front_every s)) (λ _. refl)

  pub behind_stops : (s : List ℕ) → starts p (behind p s) ≡ false
  behind_stops [] = refl
  behind_stops (b ∷ s) = cond_both (p b) (behind p s) (b ∷ s) (λ t. starts p t ≡ false) (λ _. behind_stops s) (λ h. h)

  pub front_is : (n t : List ℕ) → every p n ≡ true → starts p t ≡ false → front p (n ++ t) ≡ n
  front_is [] [] h k = refl
  front_is [] (b ∷ t) h k = cond-false (p b) (b ∷ front p t) [] k
  front_is (b ∷ n) t h k =
      let x = and_parts (p b) (every p n) h in
      cond-true (p b) (b ∷ front p (n ++ t)) [] x.0 ∙ ap (λ u. b ∷ u) (front_is n t x.1 k)

  pub behind_is : (n t : List ℕ) → every p n ≡ true → starts p t ≡ false → behind p (n ++ t) ≡ t
  behind_is [] [] h k = refl
  behind_is [] (b ∷ t) h k = cond-false (p b) (behind p t) (b ∷ t) k
  behind_is (b ∷ n) t h k =
      let x = and_parts (p b) (every p n) h in
      cond-true (p b) (behind p (n ++ t)) (b ∷ n ++ t) x.0 ∙ behind_is n t x.1 k

-- a line, before other texts
pub cut_cons : (form : Form) (before : Option PlacedField) (at : ℕ) (t : List ℕ) (ts : List (List ℕ)) → Parted ts → cut form before at (t ∷ ts) ≡ by_role before at (λ f. cut form (Some f) (at + length t + 2) ts) (role form before at t)
unfolding cut
cut_cons form before at t [] p = absurd (never_none p)
cut_cons form before at t (u ∷ us) p = refl

pub cut_line : (form : Form) (before : Option PlacedField) (at : ℕ) (t s : List ℕ) → cut form before at (t ∷ texts s) ≡ by_role before at (λ f. cut form (Some f) (at + length t + 2) (texts s)) (role form before at t)
cut_line form before at t s = cut_cons form before at t (texts s) (parted s)

-- no bytes
pub cut_none : (form : Form) (at : ℕ) (s : List ℕ) → length s < 1 → cut form None at (texts s) ≡ stop whole
unfolding cut texts
cut_none form at [] h = refl
cut_none form at (b ∷ s) h = absurd (omega arith)

role_empty : (form : Form) (at : ℕ) (on : PlacedField → Cut) → by_role None at on (empty_line form) ≡ by_role None at (λ f. stop whole) (empty_line form)
role_empty Header at on = refl
role_empty Report at on = refl

-- an empty line first
pub cut_empty : (form known : Form) (at : ℕ) (s : List ℕ) → form ≡ known → 2 ≤ length s → get_or s 0 0 ≡ 13 → get_or s 1 0 ≡ 10 → cut form None at (texts s) ≡ by_role None at (λ f. stop whole) (empty_line known)
unfolding texts
cut_empty form known at s same h cr lf =
    let is : s ≡ 13 ∷ 10 ∷ tail 2 s = two_ahead s h ∙ rw (cr, lf) refl in
    ap (λ t. cut form None at (texts t)) is
    ∙ cut_line form None at [] (tail 2 s)
    ∙ role_empty form at (λ f. cut form (Some f) (at + 0 + 2) (texts (tail 2 s)))
    ∙ ap (λ f. by_role None at (λ g. stop whole) (empty_line f)) same

-- a first line that opens no field is at fault
pub first_fault : (form : Form) (at b : ℕ) (t : List ℕ) (ts : List (List ℕ)) → ((u : List ℕ) (us : List (List ℕ)) → ts ≡ u ∷ us → sound (b ∷ t) ≡ true → named at (front ftext (b ∷ t)) (behind ftext (b ∷ t)) ≡ faulty) → cut form None at ((b ∷ t) ∷ ts) ≡ stop (fault at)
unfolding cut
first_fault form at b t [] h = cond_both (wsp b) spoils faulty (λ r. by_role None at (λ f. stop whole) r ≡ stop (fault at)) (λ _. refl) (λ _. refl)
first_fault form at b t (u ∷ us) h =
    let P : Role → Type 0 = λ r. by_role None at (λ f. cut form (Some f) (at + length (b ∷ t) + 2) (u ∷ us)) r ≡ stop (fault at) in
    cond_both (wsp b) spoils (opening form at (b ∷ t)) P (λ _. refl)
    (λ _. cond_both (sound (b ∷ t)) (named at (front ftext (b ∷ t)) (behind ftext (b ∷ t))) faulty P (λ k. subst P (sym (h u us refl k)) refl) (λ _. refl))

-- what begins with no white space continues no field
module _ (f : PlacedField) (at : ℕ) (on : PlacedField → Cut) where
  abbrev pub Closes : Role → Type 0
  Closes r = by_role (Some f) at on r ≡ closing (Some f) (by_role None at on r)

  named_closes : (k : ℕ) (n t : List ℕ) → Closes (named k n t)
  named_closes k [] t = refl
  named_closes k (b ∷ n) [] = refl
  named_closes k (b ∷ n) (c ∷ t) = cond_both (eqb c 58) (opens (field_at k (b ∷ n) t)) faulty Closes (λ _. refl) (λ _. refl)

  pub opening_closes : (form : Form) (k : ℕ) (t : List ℕ) → Closes (opening form k t)
  opening_closes Header k [] = refl
  opening_closes Report k [] = refl
  opening_closes form k (b ∷ t) = cond_both (sound (b ∷ t)) (named k (front ftext (b ∷ t)) (behind ftext (b ∷ t))) faulty Closes (λ _. named_closes k (front ftext (b ∷ t)) (behind ftext (b ∷ t))) (λ _. refl)

texts_close : (form : Form) (f : PlacedField) (at : ℕ) (t : List ℕ) (ts : List (List ℕ)) → indented t ≡ false → cut form (Some f) at (t ∷ ts) ≡ closing (Some f) (cut form None at (t ∷ ts))
unfolding cut
texts_close form f at [] [] h = refl
texts_close form f at (b ∷ t) [] h =
    let P : Role → Type 0 = λ r. by_role (Some f) at (λ g. stop whole) r ≡ closing (Some f) (by_role None at (λ g. stop whole) r) in
    subst P (sym (cond-false (wsp b) spoils faulty h)) refl
texts_close form f at t (u ∷ us) h =
    let on : PlacedField → Cut = λ g. cut form (Some g) (at + length t + 2) (u ∷ us) in
    ap (by_role (Some f) at on) (cond-false (indented t) (continuing (Some f) t) (opening form at t) h)
    ∙ opening_closes f at on form at t
    ∙ ap (λ r. closing (Some f) (by_role None at on r)) (sym (cond-false (indented t) (continuing None t) (opening form at t) h))

pub cut_closes : (form : Form) (f : PlacedField) (at : ℕ) (s : List ℕ) → indented s ≡ false → cut form (Some f) at (texts s) ≡ closing (Some f) (cut form None at (texts s))
cut_closes form f at s h =
    let P : List (List ℕ) → Type 0 = λ ts. cut form (Some f) at ts ≡ closing (Some f) (cut form None at ts) in
    let p = parted s in
    subst P (sym p.are) (texts_close form f at p.first p.others (first_starts wsp s p.first p.others p.are h))
