-- A list has one number of classes.
use Rattle.std.proofs.Common.{◌≡◌, ℕ, suc, ◌≤◌, true, false, List, [], ◌∷◌, length, refl, ap, subst, inl, inr, ⊎_elim, arith}
use Rattle.std.proofs.lemmas.Bool.{or_left, or_right, or_cases, both_ways, cases_Bool}
use Rattle.address.specs.Rfc5322.{Addr}
use Rattle.equality.specs.Equality.{same_address}
use Rattle.equality.specs.Distinct.{among, In, AllDiffer, Classes}
use Rattle.equality.proofs.Laws.{same_back, same_on}

-- ys without one that is the same as c
record Without (c : Addr) (ys : List Addr) : Type 0 where
  gone : Addr
  rest : List Addr
  same : same_address c gone ≡ true
  fewer : length ys ≡ suc (length rest)
  kept : (a : Addr) → among a ys ≡ true → same_address a gone ≡ false → among a rest ≡ true

without : (c : Addr) (ys : List Addr) → among c ys ≡ true → Without c ys
without c [] h = absurd (both_ways false refl h)
without c (y ∷ ys) h = ⊎_elim
    (λ s. record {
      gone = y;
      rest = ys;
      same = s;
      fewer = refl;
      kept = λ a m n. ⊎_elim (λ t. absurd (both_ways (same_address a y) n t)) (λ m. m) (or_cases (same_address a y) (among a ys) m);
    })
    (λ m. let w = without c ys m in record {
      gone = w.gone;
      rest = y ∷ w.rest;
      same = w.same;
      fewer = ap suc w.fewer;
      kept = λ a m n. ⊎_elim
          (λ t. or_left (same_address a y) (among a w.rest) t)
          (λ t. or_right (same_address a y) (among a w.rest) (w.kept a t n))
          (or_cases (same_address a y) (among a ys) m);
    })
    (or_cases (same_address c y) (among c ys) h)

-- one that is the same as an element is among the list
among_in : (c a : Addr) (xs : List Addr) → In a xs → same_address c a ≡ true → among c xs ≡ true
among_in c a [] i s = absurd i
among_in c a (x ∷ xs) i s = ⊎_elim
    (λ e. or_left (same_address c x) (among c xs) (subst (λ b. same_address c b ≡ true) e s))
    (λ j. or_right (same_address c x) (among c xs) (among_in c a xs j s))
    i

-- different addresses that each stand among ys are not more than ys has
not_more : (xs ys : List Addr) → AllDiffer xs → ((a : Addr) → In a xs → among a ys ≡ true) → length xs ≤ length ys
not_more [] ys d h = omega arith
not_more (x ∷ xs) ys d h =
    let w = without x ys (h x (inl refl)) in
    let differs : (a : Addr) → In a xs → same_address a w.gone ≡ false = λ a i. ⊎_elim
    (λ s. absurd (both_ways (among x xs) d.0 (among_in x a xs i (same_on x w.gone a w.same (same_back a w.gone s)))))
    (λ n. n)
    (cases_Bool (same_address a w.gone)) in
    let less = not_more xs w.rest d.1 (λ a i. w.kept a (h a (inr i)) (differs a i)) in
    omega (arith, less, w.fewer)

pub one_number : (xs : List Addr) (m n : ℕ) → Classes xs m → Classes xs n → m ≡ n
one_number xs m n c d =
    let a = not_more c.chosen d.chosen c.differ (λ x i. d.stand_for_all x (c.of_the_list x i)) in
    let b = not_more d.chosen c.chosen d.differ (λ x i. c.stand_for_all x (d.of_the_list x i)) in
    omega (arith, a, b, c.number, d.number)
