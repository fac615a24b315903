-- `distinct` is the number of classes.
use Rattle.std.proofs.Common.{◌≡◌, ℕ, ◌+◌, ◌≤◌, Bool, true, false, cond, List, [], ◌∷◌, length, sym, refl, ap, ◌∙◌, subst, inl, inr, ⊎_elim, arith}
use Rattle.std.proofs.lemmas.Bool.{cond_both, or_left, or_right, or_parts, or_from, or_cases, both_ways}
use Rattle.address.specs.Rfc5322.{Addr}
use Rattle.equality.specs.Equality.{same_address}
use Rattle.equality.specs.Distinct.{among, counts, distinct, In, AllDiffer, Classes}
use Rattle.equality.proofs.Laws.{same_itself, same_on}

-- ---- the classes
abbrev chosen_of : List Addr → List Addr
chosen_of [] = []
chosen_of (a ∷ others) = cond (among a others) (chosen_of others) (a ∷ chosen_of others)

in_chosen : (xs : List Addr) (a : Addr) → In a (chosen_of xs) → In a xs
in_chosen [] a h = h
in_chosen (x ∷ xs) a h =
    cond_both (among x xs) (chosen_of xs) (x ∷ chosen_of xs) (λ l. In a l → In a (x ∷ xs))
    (λ _ i. inr (in_chosen xs a i))
    (λ _ i. ⊎_elim (λ e. inl e) (λ j. inr (in_chosen xs a j)) i)
    h

-- what is not among a list is not among a part of it
not_among : (a : Addr) (ys xs : List Addr) → ((b : Addr) → In b ys → In b xs) → among a xs ≡ false → among a ys ≡ false
not_among a [] xs part h = refl
not_among a (y ∷ ys) xs part h =
    or_from (same_address a y) (among a ys) (differs xs (part y (inl refl)) h) (not_among a ys xs (λ b i. part b (inr i)) h)
  where
    differs : (zs : List Addr) → In y zs → among a zs ≡ false → same_address a y ≡ false
    differs [] i k = absurd i
    differs (z ∷ zs) i k =
        let p = or_parts (same_address a z) (among a zs) k in
        ⊎_elim (λ e. subst (λ w. same_address a w ≡ false) (sym e) p.0) (λ j. differs zs j p.1) i

chosen_differ : (xs : List Addr) → AllDiffer (chosen_of xs)
chosen_differ [] = tt
chosen_differ (x ∷ xs) =
    cond_both (among x xs) (chosen_of xs) (x ∷ chosen_of xs) AllDiffer
    (λ _. chosen_differ xs)
    (λ h. (not_among x (chosen_of xs) xs (in_chosen xs) h, chosen_differ xs))

-- what is the same as one of a list is among it
among_on : (a b : Addr) (ys : List Addr) → same_address a b ≡ true → among b ys ≡ true → among a ys ≡ true
among_on a b [] e h = h
among_on a b (y ∷ ys) e h =
    ⊎_elim (λ s. or_left (same_address a y) (among a ys) (same_on a b y e s)) (λ m. or_right (same_address a y) (among a ys) (among_on a b ys e m)) (or_cases (same_address b y) (among b ys) h)

among_all : (a : Addr) (xs ys : List Addr) → ((b : Addr) → In b xs → among b ys ≡ true) → among a xs ≡ true → among a ys ≡ true
among_all a [] ys all h = absurd (both_ways false refl h)
among_all a (x ∷ xs) ys all h =
    ⊎_elim (λ s. among_on a x ys s (all x (inl refl))) (λ m. among_all a xs ys (λ b i. all b (inr i)) m) (or_cases (same_address a x) (among a xs) h)

chosen_all : (xs : List Addr) (a : Addr) → In a xs → among a (chosen_of xs) ≡ true
chosen_all [] a i = absurd i
chosen_all (x ∷ xs) a i =
    let ih = chosen_all xs in
    cond_both (among x xs) (chosen_of xs) (x ∷ chosen_of xs) (λ l. among a l ≡ true)
    (λ h. ⊎_elim (λ e. subst (λ b. among b (chosen_of xs) ≡ true) (sym e) (among_all x xs (chosen_of xs) ih h)) (λ j. ih a j) i)
    (λ _. ⊎_elim
    (λ e. or_left (same_address a x) (among a (chosen_of xs)) (subst (λ b. same_address a b ≡ true) e (same_itself a)))
    (λ j. or_right (same_address a x) (among a (chosen_of xs)) (ih a j))
    i)

chosen_number : (xs : List Addr) → length (chosen_of xs) ≡ distinct xs
unfolding distinct
chosen_number [] = refl
chosen_number (x ∷ xs) =
    let ih = chosen_number xs in
    cases (among x xs) (chosen_of xs) (distinct xs) ih
  where
    cases : (b : Bool) (l : List Addr) (n : ℕ) → length l ≡ n → length (cond b l (x ∷ l)) ≡ cond b 0 1 + n
    cases true l n e = omega arith
    cases false l n e = omega arith

pub classes : (xs : List Addr) → Classes xs (distinct xs)
classes xs = record { chosen = chosen_of xs; number = chosen_number xs; of_the_list = in_chosen xs; differ = chosen_differ xs; stand_for_all = chosen_all xs }

-- ---- the loops over a list
pub counts_few : (a : Addr) (others : List Addr) → counts a others ≤ 1
counts_few a others = cond_both (among a others) 0 1 (λ n. n ≤ 1) (λ _. omega arith) (λ _. omega arith)

pub distinct_few : (xs : List Addr) → distinct xs ≤ length xs
unfolding distinct
distinct_few [] = omega arith
distinct_few (x ∷ xs) = omega (arith, counts_few x xs, distinct_few xs)

pub distinct_on : (a : Addr) (others : List Addr) → distinct (a ∷ others) ≡ counts a others + distinct others
unfolding distinct
distinct_on a others = refl

pub distinct_none : distinct [] ≡ 0
unfolding distinct
distinct_none = refl

-- one turn
pub count_more : (n k : ℕ) (xs others whole : List Addr) (a : Addr) → n + distinct xs ≡ distinct whole → xs ≡ a ∷ others → k ≡ counts a others → n + k + distinct others ≡ distinct whole
count_more n k xs others whole a h p e =
    let d : distinct xs ≡ counts a others + distinct others = ap distinct p ∙ distinct_on a others in
    omega (arith, h, d, e)

pub count_over : (n : ℕ) (xs whole : List Addr) → n + distinct xs ≡ distinct whole → xs ≡ [] → n ≡ distinct whole
count_over n xs whole h p = let d : distinct xs ≡ 0 = ap distinct p ∙ distinct_none in omega (arith, h, d)
