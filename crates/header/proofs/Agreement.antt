-- When a header agrees.
use Rattle.std.proofs.Common.{◌≡◌, true, false, ◌&&◌, eqb, List, [], ◌∷◌, length, Some, None, Option, refl, ap, ◌∙◌, inl, ⊎_elim, arith}
use Rattle.std.proofs.lemmas.Bool.{and_parts, and_from, eqb-true, eq-eqb, or_cases, or_left}
use Rattle.address.specs.Rfc5322.{Addr}
use Rattle.equality.specs.Equality.{same_address}
use Rattle.equality.specs.Distinct.{among, distinct, In, Classes}
use Rattle.equality.proofs.Laws.{same_back, same_on}
use Rattle.equality.proofs.Counting.{classes}
use Rattle.equality.proofs.Numbers.{one_number}
use Rattle.header.specs.Collected.{Trace, never, once, again, Collected}
use Rattle.header.specs.Facts.{distinct_of, returns_to}
use Rattle.header.specs.Rules.{Agreeing, AgreesMeans}

-- ---- one class, and so all are the same
only : (a r : Addr) → among a (r ∷ []) ≡ true → same_address a r ≡ true
only a r h = ⊎_elim (λ s. s) (λ m. cc) (or_cases (same_address a r) false h)

one_class : (xs : List Addr) (a b : Addr) → distinct xs ≡ 1 → In a xs → In b xs → same_address a b ≡ true
one_class xs a b e i j = let k = classes xs in go k.chosen (k.number ∙ e) k.stand_for_all
  where
    go : (rs : List Addr) → length rs ≡ 1 → ((x : Addr) → In x xs → among x rs ≡ true) → same_address a b ≡ true
    go [] n all = absurd (omega arith)
    go (r ∷ []) n all = same_on a r b (only a r (all a i)) (same_back b r (only b r (all b j)))
    go (r ∷ q ∷ rs) n all = absurd (omega arith)

one_distinct : (a p : Addr) (others : List Addr) → ((b : Addr) → In b (a ∷ others) → same_address b p ≡ true) → distinct (a ∷ others) ≡ 1
one_distinct a p others all =
    let xs = a ∷ others in
    let alone : Classes xs 1 = record {
      chosen = a ∷ [];
      number = refl;
      of_the_list = λ b i. ⊎_elim (λ e. inl e) (λ n. absurd n) i;
      differ = (refl, tt);
      stand_for_all = λ b i. or_left (same_address b a) false (same_on b p a (all b i) (same_back a p (all a (inl refl))));
    } in
    one_number xs (distinct xs) 1 (classes xs) alone

-- ---- by what was collected
agrees_out : (c : Collected) (o : Option (List Addr)) (t : Trace) → c.requests ≡ o → c.trace ≡ t → eqb (distinct_of o) 1 ≡ true → returns_to o t ≡ true → Agreeing c
agrees_out c None t q w d r = cc
agrees_out c (Some []) t q w d r = cc
agrees_out c (Some (a ∷ others)) never q w d r = cc
agrees_out c (Some (a ∷ others)) (once None) q w d r = cc
agrees_out c (Some (a ∷ others)) again q w d r = cc
agrees_out c (Some (a ∷ others)) (once (Some p)) q w d r = record {
  first = a;
  others = others;
  address = p;
  asked = q;
  returned = w;
  all_the_same = λ b i. same_on b a p (one_class (a ∷ others) b a (eqb-true (distinct (a ∷ others)) 1 d) i (inl refl)) r;
}

agrees_in : (c : Collected) → Agreeing c → (eqb (distinct_of c.requests) 1 && returns_to c.requests c.trace) ≡ true
agrees_in c g =
    let a = g.first in
    let p = g.address in
    ap (λ o. eqb (distinct_of o) 1 && returns_to o c.trace) g.asked
    ∙ ap (λ t. eqb (distinct (a ∷ g.others)) 1 && returns_to (Some (a ∷ g.others)) t) g.returned
    ∙ and_from (eqb (distinct (a ∷ g.others)) 1) (same_address a p) (eq-eqb (distinct (a ∷ g.others)) 1 (one_distinct a p g.others g.all_the_same)) (g.all_the_same a (inl refl))

pub agrees_means : AgreesMeans
agrees_means c = (
  (λ e. let x = and_parts (eqb (distinct_of c.requests) 1) (returns_to c.requests c.trace) e in agrees_out c c.requests c.trace refl refl x.0 x.1),
  agrees_in c,
)
