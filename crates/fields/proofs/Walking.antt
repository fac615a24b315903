-- The turns of the walk.
use Rattle.std.proofs.Common.{◌≡◌, ℕ, suc, ◌+◌, ◌<◌, ◌≤◌, true, false, ltb, List, length, Some, None, Ok, Err, Result, sym, ap, ◌∙◌, add-one, arith}
use Rattle.std.proofs.lemmas.Bool.{cond-true, cond-false, lt-ltb, le-ltb}
use Rattle.fields.specs.declared.field.Form.{Form}
use Rattle.fields.specs.declared.refusal.Objection.{Objection}
use Rattle.fields.specs.declared.refusal.Refusal.{Refusal}
use Rattle.fields.specs.declared.refusal.Refusal.TheVariants.{TooLong, BadLine, TooManyFields, Objected}
use Rattle.fields.specs.Limits.{longest_input, most_fields}
use Rattle.fields.specs.Lines.{texts}
use Rattle.fields.specs.Fields.{PlacedField, Cut, whole, fault, stop, closing, cut, fields_of}
use Rattle.fields.specs.Walks.{place, taken, told, walked}

-- the fields of a cut, told from field n on
abbrev pub told_cut : {S : Type 0} → (S → PlacedField → Result S Objection) → ℕ → S → Cut → Result S Refusal
told_cut step n s c = told step n s c.fields c.ending

module _ {S : Type 0} (step : S → PlacedField → Result S Objection) (n : ℕ) (s : S) (f : PlacedField) (c : Cut) where
  pub too_many : ltb most_fields n ≡ true → told_cut step n s (closing (Some f) c) ≡ Err (TooManyFields (place n f.name.at))
  unfolding told
  too_many h = cond-true (ltb most_fields n) (Err (TooManyFields (place n f.name.at))) (taken (step s f) (place n f.name.at) (λ t. told step (suc n) t c.fields c.ending)) h

  told_on : ltb most_fields n ≡ false → told_cut step n s (closing (Some f) c) ≡ taken (step s f) (place n f.name.at) (λ t. told step (suc n) t c.fields c.ending)
  unfolding told
  told_on h = cond-false (ltb most_fields n) (Err (TooManyFields (place n f.name.at))) (taken (step s f) (place n f.name.at) (λ t. told step (suc n) t c.fields c.ending)) h

  pub objected : ltb most_fields n ≡ false → (why : Objection) → step s f ≡ Err why → told_cut step n s (closing (Some f) c) ≡ Err (Objected why (place n f.name.at))
  objected h why e = told_on h ∙ ap (λ r. taken r (place n f.name.at) (λ t. told step (suc n) t c.fields c.ending)) e

  pub took : ltb most_fields n ≡ false → (t : S) → step s f ≡ Ok t → told_cut step n s (closing (Some f) c) ≡ told_cut step (n + 1) t c
  took h t e =
      told_on h
      ∙ ap (λ r. taken r (place n f.name.at) (λ t. told step (suc n) t c.fields c.ending)) e
      ∙ ap (λ m. told_cut step m t c) (sym (add-one n))

-- a collector's state t with the fields from n on still to come, which stand at `at`: the answer is still to be that for the whole input
pub record Comes {S : Type 0} (step : S → PlacedField → Result S Objection) (s : S) (form : Form) (input : List ℕ) (n : ℕ) (t : S) (at : ℕ) (left : List ℕ) : Type 0 where
  pub same : told_cut step n t (cut form None at (texts left)) ≡ told_cut step 1 s (fields_of form input)
  pub place_is : at + length left ≡ length input
  pub few : n ≤ most_fields + 1

module _ {S : Type 0} (step : S → PlacedField → Result S Objection) (s : S) (form : Form) (input : List ℕ) where
  pub too_long : longest_input < length input → Err TooLong ≡ walked step s form input
  unfolding walked
  too_long h = sym (cond-true (ltb longest_input (length input)) (Err TooLong) (told_cut step 1 s (fields_of form input)) (lt-ltb longest_input (length input) h))

  module _ (n : ℕ) (t : S) (at : ℕ) (left : List ℕ) (c : Comes step s form input n t at left) where
    -- what is found first decides
    by_first : length input ≤ longest_input → (first : Cut) → cut form None at (texts left) ≡ first → told_cut step n t first ≡ walked step s form input
    unfolding walked
    by_first short first e =
        ap (told_cut step n t) (sym e) ∙ c.same ∙ sym (cond-false (ltb longest_input (length input)) (Err TooLong) (told_cut step 1 s (fields_of form input)) (le-ltb longest_input (length input) short))

    pub ends_whole : length input ≤ longest_input → cut form None at (texts left) ≡ stop whole → Ok t ≡ walked step s form input
    unfolding told
    ends_whole short e = by_first short (stop whole) e

    pub ends_at_fault : length input ≤ longest_input → (byte : ℕ) → cut form None at (texts left) ≡ stop (fault byte) → Err (BadLine (place n byte)) ≡ walked step s form input
    unfolding told
    ends_at_fault short byte e = by_first short (stop (fault byte)) e

    module _ (f : PlacedField) (next : Cut) (e : cut form None at (texts left) ≡ closing (Some f) next) where
      pub ends_crowded : length input ≤ longest_input → most_fields < n → Err (TooManyFields (place n f.name.at)) ≡ walked step s form input
      ends_crowded short h = sym (too_many step n t f next (lt-ltb most_fields n h)) ∙ by_first short (closing (Some f) next) e

      pub ends_objected : length input ≤ longest_input → n ≤ most_fields → (why : Objection) → Err why ≡ step t f → Err (Objected why (place n f.name.at)) ≡ walked step s form input
      ends_objected short h why o = sym (objected step n t f next (le-ltb most_fields n h) why (sym o)) ∙ by_first short (closing (Some f) next) e

    pub comes_on : (f : PlacedField) (at' : ℕ) (left' : List ℕ) → cut form None at (texts left) ≡ closing (Some f) (cut form None at' (texts left')) → at' + length left' ≡ at + length left → n ≤ most_fields → (u : S) → Ok u ≡ step t f → Comes step s form input (n + 1) u at' left'
    comes_on f at' left' e p h u o =
        record {
          same = sym (took step n t f (cut form None at' (texts left')) (le-ltb most_fields n h) u (sym o)) ∙ ap (told_cut step n t) (sym e) ∙ c.same;
          place_is = p ∙ c.place_is;
          few = omega arith;
        }
