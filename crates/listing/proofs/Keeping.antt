-- With room for every field that a walk may tell, all are kept.
use Rattle.std.proofs.Common.{◌≡◌, ℕ, suc, ◌<◌, ◌≤◌, cond, ltb, List, [], ◌∷◌, ◌++◌, map, length, Ok, Err, Result, sym, refl, ap, ◌∙◌, subst, ⊎_elim, arith}
use Rattle.std.proofs.lemmas.Bool.{cond-true, cond-false, cases_Bool, lt-ltb, le-ltb, ltb-false}
use Rattle.std.proofs.lemmas.List.{append_assoc, append-nil, length_push, length-map, map_push}
use Rattle.fields.specs.declared.field.Form.{Form}
use Rattle.fields.specs.declared.part.Field.{Field}
use Rattle.fields.specs.declared.refusal.Refusal.{Refusal}
use Rattle.fields.specs.declared.refusal.Refusal.TheVariants.{TooLong, TooManyFields}
use Rattle.fields.specs.Limits.{longest_input, most_fields}
use Rattle.fields.specs.Fields.{PlacedField, Ending, whole, fault, fields_of}
use Rattle.fields.specs.Seen.{placed_field}
use Rattle.fields.specs.Walks.{meaning, place, told, walked}
use Rattle.fields.specs.Built.{all_told, Input}
use Rattle.fields.proofs.Accepting.{walk_exactly}
use Rattle.listing.specs.Listed.{appended, listed, ListedExactly}
use Rattle.listing.specs.Kept.{Roomy, keep}

-- one field more, and none more
pub kept : (room room' : ℕ) (items more : List Field) (f : Field) → length items < room → more ≡ items ++ f ∷ [] → room' ≡ room → Ok (record { room = room'; fields = map placed_field more }) ≡ keep (record { room = room; fields = map placed_field items }) (placed_field f)
kept room room' items more f h e same =
    let fs = map placed_field items in
    let l : length fs < room = let x : length fs ≡ length items = length-map items placed_field in omega arith in
    ap (λ n. Ok (record { room = n; fields = map placed_field more })) same
    ∙ ap (λ gs. Ok (record { room = room; fields = gs })) (ap (map placed_field) e ∙ map_push placed_field items f)
    ∙ ap Ok (sym (cond-true (ltb (length fs) room) (record { room = room; fields = fs ++ placed_field f ∷ [] }) (record { room = room; fields = fs }) (lt-ltb (length fs) room l)))

pub not_kept : (room : ℕ) (items : List Field) (f : Field) → room ≤ length items → Ok (record { room = room; fields = map placed_field items }) ≡ keep (record { room = room; fields = map placed_field items }) (placed_field f)
not_kept room items f h =
    let l : room ≤ length (map placed_field items) = let x : length (map placed_field items) ≡ length items = length-map items placed_field in omega arith in
    ap Ok (sym (cond-false (ltb (length (map placed_field items)) room) (record { room = room; fields = map placed_field items ++ placed_field f ∷ [] }) (record { room = room; fields = map placed_field items }) (le-ltb (length (map placed_field items)) room l)))

abbrev in_room : ℕ → List PlacedField → Roomy
in_room room fs = record { room = room; fields = fs }

module _ (room : ℕ) (h : most_fields ≤ room) where
  told_kept : (n : ℕ) (acc fs : List PlacedField) (e : Ending) → length acc < n → told keep n (in_room room acc) fs e ≡ meaning (in_room room) (told appended n acc fs e)
  unfolding told
  told_kept n acc [] whole l = refl
  told_kept n acc [] (fault at) l = refl
  told_kept n acc (f ∷ fs) e l =
      let at = place n f.name.at in
      let none : Result (List PlacedField) Refusal = Err (TooManyFields at) in
      let none_kept : Result Roomy Refusal = Err (TooManyFields at) in
      let more = acc ++ f ∷ [] in
      let on = told appended (suc n) more fs e in
      let on-kept = told keep (suc n) (cond (ltb (length acc) room) (in_room room more) (in_room room acc)) fs e in
      ⊎_elim
      (λ y. cond-true (ltb most_fields n) none_kept on-kept y ∙ sym (ap (meaning (in_room room)) (cond-true (ltb most_fields n) none on y)))
      (λ y.
      let few = ltb-false most_fields n y in
      let size = length_push acc f in
      cond-false (ltb most_fields n) none_kept on-kept y
      ∙ ap (λ k. told keep (suc n) k fs e) (cond-true (ltb (length acc) room) (in_room room more) (in_room room acc) (lt-ltb (length acc) room (omega arith)))
      ∙ told_kept (suc n) more fs e (omega arith)
      ∙ sym (ap (meaning (in_room room)) (cond-false (ltb most_fields n) none on y)))
      (cases_Bool (ltb most_fields n))

  pub walked_kept : (form : Form) (s : List ℕ) → walked keep (in_room room []) form s ≡ meaning (in_room room) (listed form s)
  unfolding walked listed
  walked_kept form s =
      let c = fields_of form s in
      let long : Result (List PlacedField) Refusal = Err TooLong in
      let long_kept : Result Roomy Refusal = Err TooLong in
      let all = told appended 1 [] c.fields c.ending in
      let all-kept = told keep 1 (in_room room []) c.fields c.ending in
      ⊎_elim
      (λ y. cond-true (ltb longest_input (length s)) long_kept all-kept y ∙ sym (ap (meaning (in_room room)) (cond-true (ltb longest_input (length s)) long all y)))
      (λ y. cond-false (ltb longest_input (length s)) long_kept all-kept y ∙ told_kept 1 [] c.fields c.ending (omega arith) ∙ sym (ap (meaning (in_room room)) (cond-false (ltb longest_input (length s)) long all y)))
      (cases_Bool (ltb longest_input (length s)))

-- what the walk with such a collector gave is the list, or its refusal
module _ (start : Roomy) (form : Form) (s : List ℕ) (none_yet : start.fields ≡ []) (enough : most_fields ≤ start.room) where
  same_start : walked keep start form s ≡ meaning (in_room start.room) (listed form s)
  same_start = ap (λ fs. walked keep (in_room start.room fs) form s) none_yet ∙ walked_kept start.room enough form s

  pub list_is : (end : Roomy) → Ok end ≡ walked keep start form s → listed form s ≡ Ok end.fields
  list_is end e = by_answer (listed form s) (e ∙ same_start)
    where
      by_answer : (r : Result (List PlacedField) Refusal) → Ok end ≡ meaning (in_room start.room) r → r ≡ Ok end.fields
      by_answer (Ok fs) q = let x : end ≡ in_room start.room fs = cc in ap Ok (sym (ap (λ (k : Roomy). k.fields) x))
      by_answer (Err why) q = let z : ◌≡◌ {A = ℕ} 0 1 = cc in absurd (omega arith)

  pub refusal_is : (why : Refusal) → Err why ≡ walked keep start form s → listed form s ≡ Err why
  refusal_is why e = by_answer (listed form s) (e ∙ same_start)
    where
      by_answer : (r : Result (List PlacedField) Refusal) → Err why ≡ meaning (in_room start.room) r → r ≡ Err why
      by_answer (Ok fs) q = let z : ◌≡◌ {A = ℕ} 0 1 = cc in absurd (omega arith)
      by_answer (Err other) q = let x : why ≡ other = cc in ap Err (sym x)

listed_all : (n : ℕ) (acc fs : List PlacedField) → all_told appended n acc fs ≡ Ok (acc ++ fs)
listed_all n acc [] = ap Ok (sym (append-nil acc))
listed_all n acc (f ∷ fs) = listed_all (suc n) (acc ++ f ∷ []) fs ∙ ap Ok (append_assoc acc (f ∷ []) fs)

pub listed_exactly : (form : Form) (s : List ℕ) → ListedExactly form s
unfolding listed
listed_exactly form s =
    let w = walk_exactly appended [] form s (walked appended [] form s) refl in
    record {
      accepted = λ fs e. let x = w.accepted fs e in let q : Ok x.0 ≡ Ok fs = sym (listed_all 1 [] x.0) ∙ x.2 in let same : x.0 ≡ fs = cc in subst (λ gs. Input form gs s) same x.1;
      lists = λ fs i. w.tells fs i ∙ listed_all 1 [] fs;
    }
