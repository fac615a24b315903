-- A walk accepts inputs and nothing else.
use Rattle.std.proofs.Common.{◌≡◌, ℕ, suc, ◌+◌, ◌≤◌, true, ltb, List, [], ◌∷◌, length, Ok, Err, Result, sym, refl, ap, ◌∙◌, arith}
use Rattle.std.proofs.lemmas.Bool.{cond-false, cond_both, le-ltb, ltb-false}
use Rattle.fields.specs.declared.field.Form.{Form}
use Rattle.fields.specs.declared.refusal.Place.{Place}
use Rattle.fields.specs.declared.refusal.Objection.{Objection}
use Rattle.fields.specs.declared.refusal.Refusal.{Refusal}
use Rattle.fields.specs.declared.refusal.Refusal.TheVariants.{TooLong, BadLine, TooManyFields}
use Rattle.fields.specs.Limits.{longest_input, most_fields}
use Rattle.fields.specs.Fields.{PlacedField, Ending, whole, fault, Cut, fields_of}
use Rattle.fields.specs.Walks.{place, taken, told, walked}
use Rattle.fields.specs.Built.{all_told, Input, InputUpTo, WalkExactly}
use Rattle.fields.specs.Clean.{all_clean}
use Rattle.fields.proofs.Building.{cut_exactly}
use Rattle.fields.proofs.Stopping.{input_up_to}
use Rattle.fields.proofs.Cleaning.{fields_clean}

err_ok : {A E : Type 0} {a : A} {e : E} → ◌≡◌ {A = Result A E} (Err e) (Ok a) → ⊥
err_ok q = let z : ◌≡◌ {A = ℕ} 0 1 = cc in omega arith

-- fields that were all taken, with no fault behind them
record Taken {S : Type 0} (step : S → PlacedField → Result S Objection) (n : ℕ) (s : S) (fs : List PlacedField) (e : Ending) (t : S) : Type 0 where
  no_fault : e ≡ whole
  few : n + length fs ≤ most_fields + 1
  all : all_told step n s fs ≡ Ok t

module _ {S : Type 0} (step : S → PlacedField → Result S Objection) where
  taken_same : (r : Result S Objection) (p : Place) (on on' : S → Result S Refusal) → ((t : S) → on t ≡ on' t) → taken r p on ≡ taken r p on'
  taken_same (Ok t) p on on' h = h t
  taken_same (Err why) p on on' h = refl

  told_all : (n : ℕ) (s : S) (fs : List PlacedField) → n + length fs ≤ most_fields + 1 → told step n s fs whole ≡ all_told step n s fs
  unfolding told
  told_all n s [] h = refl
  told_all n s (f ∷ fs) h =
      cond-false (ltb most_fields n) (Err (TooManyFields (place n f.name.at))) (taken (step s f) (place n f.name.at) (λ t. told step (suc n) t fs whole)) (le-ltb most_fields n (omega arith))
      ∙ taken_same (step s f) (place n f.name.at) (λ t. told step (suc n) t fs whole) (λ t. all_told step (suc n) t fs) (λ t. told_all (suc n) t fs (omega arith))

  -- one field taken, and then the others
  taken_on : (n : ℕ) (s u : S) (f : PlacedField) (fs : List PlacedField) (e : Ending) (r : Result S Objection) → step s f ≡ r
      → ((t : S) → told step (suc n) t fs e ≡ Ok u → Taken step (suc n) t fs e u)
      → taken r (place n f.name.at) (λ t. told step (suc n) t fs e) ≡ Ok u → Taken step n s (f ∷ fs) e u
  taken_on n s u f fs e (Ok t) q more h =
      let x = more t h in
      record { no_fault = x.no_fault; few = omega (arith, x.few); all = ap (λ r. taken r (place n f.name.at) (λ v. all_told step (suc n) v fs)) q ∙ x.all }
  taken_on n s u f fs e (Err why) q more h = absurd (err_ok h)

  told_taken : (n : ℕ) (s t : S) (fs : List PlacedField) (e : Ending) → n ≤ most_fields + 1 → told step n s fs e ≡ Ok t → Taken step n s fs e t
  unfolding told
  told_taken n s t [] whole l h = record { no_fault = refl; few = omega arith; all = h }
  told_taken n s t [] (fault at) l h = absurd (err_ok h)
  told_taken n s t (f ∷ fs) e l h =
      cond_both (ltb most_fields n) (Err (TooManyFields (place n f.name.at))) (taken (step s f) (place n f.name.at) (λ v. told step (suc n) v fs e)) (λ r. r ≡ Ok t → Taken step n s (f ∷ fs) e t)
      (λ _ q. absurd (err_ok q))
      (λ k q. let m = ltb-false most_fields n k in taken_on n s t f fs e (step s f) refl (λ v g. told_taken (suc n) v t fs e (omega arith) g) q)
      h

  -- one field, and then a line at fault
  fault_on : (n : ℕ) (f : PlacedField) (fs : List PlacedField) (e : Ending) (p : Place) (r : Result S Objection)
      → ((t : S) → told step (suc n) t fs e ≡ Err (BadLine p) → (p.field ≡ suc n + length fs) × (e ≡ fault p.byte))
      → taken r (place n f.name.at) (λ t. told step (suc n) t fs e) ≡ Err (BadLine p) → (p.field ≡ n + length (f ∷ fs)) × (e ≡ fault p.byte)
  fault_on n f fs e p (Ok t) more q = let x = more t q in (omega (arith, x.0), x.1)
  fault_on n f fs e p (Err why) more q = let z : ◌≡◌ {A = ℕ} 0 1 = cc in absurd (omega arith)

  -- the place of a line at fault
  told_fault : (n : ℕ) (s : S) (fs : List PlacedField) (e : Ending) (p : Place) → told step n s fs e ≡ Err (BadLine p) → (p.field ≡ n + length fs) × (e ≡ fault p.byte)
  unfolding told
  told_fault n s [] whole p h = absurd (err_ok (sym h))
  told_fault n s [] (fault at) p h =
      let same : place n at ≡ p = cc in
      let l : n ≡ p.field = ap (λ (x : Place). x.field) same in
      (omega arith, ap (λ (x : Place). fault x.byte) same)
  told_fault n s (f ∷ fs) e p h =
      let at = place n f.name.at in
      cond_both (ltb most_fields n) (Err (TooManyFields at)) (taken (step s f) at (λ t. told step (suc n) t fs e)) (λ r. r ≡ Err (BadLine p) → (p.field ≡ n + length (f ∷ fs)) × (e ≡ fault p.byte))
      (λ _ q. let z : ◌≡◌ {A = ℕ} 0 1 = cc in absurd (omega arith))
      (λ _ q. fault_on n f fs e p (step s f) (λ t g. told_fault (suc n) t fs e p g) q)
      h

  module _ (s : S) (form : Form) (input : List ℕ) where
    walked_accepts : (t : S) → walked step s form input ≡ Ok t → (fs : List PlacedField) × Input form fs input × (all_told step 1 s fs ≡ Ok t)
    unfolding walked
    walked_accepts t h =
        let c = fields_of form input in
        cond_both (ltb longest_input (length input)) (Err TooLong) (told step 1 s c.fields c.ending) (λ r. r ≡ Ok t → (fs : List PlacedField) × Input form fs input × (all_told step 1 s fs ≡ Ok t))
        (λ _ q. absurd (err_ok q))
        (λ k q.
        let x = told_taken 1 s t c.fields c.ending (omega arith) q in
        (c.fields, record { is_built = (cut_exactly form input).accepted x.no_fault; few = omega (arith, x.few); short = ltb-false longest_input (length input) k }, x.all))
        h

    walked_tells : (fs : List PlacedField) → Input form fs input → walked step s form input ≡ all_told step 1 s fs
    unfolding walked
    walked_tells fs i =
        let c = fields_of form input in
        cond-false (ltb longest_input (length input)) (Err TooLong) (told step 1 s c.fields c.ending) (le-ltb longest_input (length input) i.short)
        ∙ ap (λ (x : Cut). told step 1 s x.fields x.ending) ((cut_exactly form input).built fs i.is_built)
        ∙ told_all 1 s fs (omega (arith, i.few))

    walked_stops : (p : Place) → walked step s form input ≡ Err (BadLine p) → (p.field ≡ length (fields_of form input).fields + 1) × InputUpTo form input p.byte
    unfolding walked
    walked_stops p h =
        let c = fields_of form input in
        cond_both (ltb longest_input (length input)) (Err TooLong) (told step 1 s c.fields c.ending) (λ r. r ≡ Err (BadLine p) → (p.field ≡ length c.fields + 1) × InputUpTo form input p.byte)
        (λ _ q. let z : ◌≡◌ {A = ℕ} 0 1 = cc in absurd (omega arith))
        (λ _ q. let x = told_fault 1 s c.fields c.ending p q in (omega (arith, x.0), input_up_to form input p.byte x.1))
        h

    pub walk_exactly : (r : Result S Refusal) → r ≡ walked step s form input → WalkExactly step s form input r
    walk_exactly r e = record { cuts = cut_exactly form input; accepted = λ t h. walked_accepts t (sym e ∙ h); tells = λ fs i. e ∙ walked_tells fs i; stops = λ p h. walked_stops p (sym e ∙ h) }

-- the three promises of a walk, of an answer that is what the walk means
pub answered : {S : Type 0} (step : S → PlacedField → Result S Objection) (s : S) (form : Form) (input : List ℕ) (r : Result S Refusal) → r ≡ walked step s form input
    → record { walks : r ≡ walked step s form input; exactly : WalkExactly step s form input r; clean : all_clean (fields_of form input).fields ≡ true }
answered step s form input r is = record { walks = is; exactly = walk_exactly step s form input r is; clean = fields_clean form input }
