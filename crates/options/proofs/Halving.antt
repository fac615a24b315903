-- The two sides of the last "=".
use Rattle.std.proofs.Common.{◌≡◌, ◌≢◌, ℕ, suc, ◌+◌, ◌-◌, ◌<◌, ◌≤◌, Bool, true, not, eqb, List, [], ◌∷◌, ◌++◌, length, get_or, take, drop, Some, None, Option, sym, refl, ap, ◌∙◌, subst, arith, length-drop, take-append-drop}
use Rattle.std.proofs.lemmas.List.{take_rest, drop_more, get_or-drop}
use Rattle.std.proofs.lemmas.Bool.{cond_both, cond-false, and_parts, and_from, not-true, eqb-true, ne_eqb, not_from_false}
use Rattle.std.proofs.lemmas.Option.{none-some, same_Some}
use Rattle.fields.specs.Classes.{every}
use Rattle.options.specs.Reads.{Sides, wider, sides_of}

-- any byte but "="
abbrev pub no_equals : ℕ → Bool
no_equals b = not (eqb b 61)

-- ---- the sides
wider_sound : (b : ℕ) (s : List ℕ) (o : Option Sides) → ((h : Sides) → o ≡ Some h → s ≡ h.left ++ 61 ∷ h.right) → (h : Sides) → wider b s o ≡ Some h → b ∷ s ≡ h.left ++ 61 ∷ h.right
wider_sound b s (Some g) known h e = subst (λ (z : Sides). b ∷ s ≡ z.left ++ 61 ∷ z.right) (same_Some _ _ e) (ap (λ l. b ∷ l) (known g refl))
wider_sound b s None known h e =
    cond_both (eqb b 61) (Some (record { left = []; right = s })) None (λ o. o ≡ Some h → b ∷ s ≡ h.left ++ 61 ∷ h.right)
    (λ q r. subst (λ (z : Sides). b ∷ s ≡ z.left ++ 61 ∷ z.right) (same_Some _ _ r) (ap (λ x. x ∷ s) (eqb-true b 61 q)))
    (λ _ r. absurd (none-some _ r))
    e

pub sides_sound : (s : List ℕ) (h : Sides) → sides_of s ≡ Some h → s ≡ h.left ++ 61 ∷ h.right
sides_sound [] h e = absurd (none-some _ e)
sides_sound (b ∷ s) h e = wider_sound b s (sides_of s) (sides_sound s) h e

sides_none : (s : List ℕ) → every no_equals s ≡ true → sides_of s ≡ None
sides_none [] h = refl
sides_none (b ∷ s) h = let x = and_parts (no_equals b) (every no_equals s) h in ap (wider b s) (sides_none s x.1) ∙ cond-false (eqb b 61) _ _ (not-true (eqb b 61) x.0)

pub sides_complete : (l r : List ℕ) → every no_equals r ≡ true → sides_of (l ++ 61 ∷ r) ≡ Some (record { left = l; right = r })
sides_complete [] r h = ap (wider 61 r) (sides_none r h)
sides_complete (b ∷ l) r h = ap (wider b (l ++ 61 ∷ r)) (sides_complete l r h)

-- ---- by the place of the last "="
no_equals_in : (s : List ℕ) → ((k : ℕ) → k < length s → get_or s k 0 ≢ 61) → every no_equals s ≡ true
no_equals_in [] h = refl
no_equals_in (b ∷ s) h = and_from (no_equals b) (every no_equals s) (not_from_false (eqb b 61) (ne_eqb b 61 (h 0 (omega arith)))) (no_equals_in s (λ k l. h (suc k) (omega arith)))

pub sides_nowhere : (s : List ℕ) → ((k : ℕ) → k < length s → get_or s k 0 ≢ 61) → None ≡ sides_of s
sides_nowhere s h = sym (sides_none s (no_equals_in s h))

pub sides_at : (s : List ℕ) (i : ℕ) → i < length s → get_or s i 0 ≡ 61 → ((k : ℕ) → i + 1 ≤ k → k < length s → get_or s k 0 ≢ 61) → Some (record { left = take i s; right = take (length s - (i + 1)) (drop (i + 1) s) }) ≡ sides_of s
sides_at s i h e after =
    let l = take i s in
    let r = drop (i + 1) s in
    let cut : s ≡ l ++ 61 ∷ r = sym (take-append-drop i s) ∙ ap (λ t. l ++ t) (drop_more s i 0 h ∙ ap (λ b. b ∷ r) e) in
    let past : (k : ℕ) → k < length r → get_or r k 0 ≢ 61 = λ k less q. after (i + 1 + k) (omega arith) (omega (arith, length-drop (i + 1) s)) (sym (get_or-drop (i + 1) s k 0) ∙ q) in
    ap (λ t. Some (record { left = l; right = t })) (take_rest s (i + 1))
    ∙ sym (ap sides_of cut ∙ sides_complete l r (no_equals_in r past))
