-- What the operators of ABNF say of bytes that go on behind the phrase.
use Rattle.std.proofs.Common.{◌≡◌, ℕ, ◌≤◌, Bool, true, false, eqb, ◌⊎◌, List, [], ◌∷◌, ◌++◌, length, sym, refl, ap, ◌∙◌, subst, inl, inr, append_assoc, append-nil, arith, length-append}
use Rattle.std.proofs.lemmas.Bool.{ne_eqb, both_ways}
use Rattle.abnf.specs.Abnf.{Rule, ◌⋅◌, ◌∕◌, star, star.done, star.more, opt, byte, one, the, sized, empty, At}

-- ---- one behind the other
pub seq_in : {A B : Rule} {s m t : List ℕ} → At A s m → At B m t → At (A ⋅ B) s t
seq_in {t = t} a b = record {
  phrase = a.phrase ++ b.phrase;
  is = a.is ∙ ap (λ l. a.phrase ++ l) b.is ∙ sym (append_assoc a.phrase b.phrase t);
  derived = (a.phrase, b.phrase, refl, a.derived, b.derived);
}

pub seq_out : {A B : Rule} {s t : List ℕ} → At (A ⋅ B) s t → (m : List ℕ) × At A s m × At B m t
seq_out {t = t} h =
    let d = h.derived in (
      d.1 ++ t,
      record { phrase = d.0; is = h.is ∙ ap (λ l. l ++ t) d.2 ∙ append_assoc d.0 d.1 t; derived = d.3 },
      record { phrase = d.1; is = refl; derived = d.4 },
    )

-- ---- one or the other
pub alt_left : {A B : Rule} {s t : List ℕ} → At A s t → At (A ∕ B) s t
alt_left a = record { phrase = a.phrase; is = a.is; derived = inl a.derived }

pub alt_right : {A B : Rule} {s t : List ℕ} → At B s t → At (A ∕ B) s t
alt_right b = record { phrase = b.phrase; is = b.is; derived = inr b.derived }

pub alt_out : {A B : Rule} {s t : List ℕ} → At (A ∕ B) s t → At A s t ⊎ At B s t
alt_out h = elim h.derived [ inl a ↦ inl (record { phrase = h.phrase; is = h.is; derived = a }) | inr b ↦ inr (record { phrase = h.phrase; is = h.is; derived = b }) ]

-- ---- one or none
pub opt_none : {A : Rule} {s : List ℕ} → At (opt A) s s
opt_none = record { phrase = []; is = refl; derived = inl refl }

pub opt_some : {A : Rule} {s t : List ℕ} → At A s t → At (opt A) s t
opt_some a = record { phrase = a.phrase; is = a.is; derived = inr a.derived }

pub opt_out : {A : Rule} {s t : List ℕ} → At (opt A) s t → (s ≡ t) ⊎ At A s t
opt_out {t = t} h = elim h.derived [ inl e ↦ inl (h.is ∙ ap (λ l. l ++ t) e) | inr a ↦ inr (record { phrase = h.phrase; is = h.is; derived = a }) ]

-- ---- bytes
pub byte_in : {n b : ℕ} {t : List ℕ} → b ≡ n → At (byte n) (b ∷ t) t
byte_in {b = b} e = record { phrase = b ∷ []; is = refl; derived = ap (λ x. x ∷ []) e }

pub byte_out : {n : ℕ} {s t : List ℕ} → At (byte n) s t → s ≡ n ∷ t
byte_out {t = t} h = h.is ∙ ap (λ l. l ++ t) h.derived

pub one_in : {p : ℕ → Bool} {b : ℕ} {t : List ℕ} → p b ≡ true → At (one p) (b ∷ t) t
one_in {b = b} e = record { phrase = b ∷ []; is = refl; derived = (b, refl, e) }

pub one_out : {p : ℕ → Bool} {s t : List ℕ} → At (one p) s t → (b : ℕ) × (s ≡ b ∷ t) × (p b ≡ true)
one_out {t = t} h = let d = h.derived in (d.0, h.is ∙ ap (λ l. l ++ t) d.1, d.2)

-- b is of a class that n is not of
pub differs : (p : ℕ → Bool) (n b : ℕ) → p n ≡ false → p b ≡ true → eqb b n ≡ false
differs p n b f e = ne_eqb b n (λ q. both_ways (p b) (ap p q ∙ f) e)

-- ---- *A, phrase by phrase
pub data Many (A : Rule) : List ℕ → List ℕ → Type 0 where
  no_more : {s : List ℕ} → Many A s s
  one_more : {s m t : List ℕ} → At A s m → Many A m t → Many A s t

pub many_in : {A : Rule} {s t : List ℕ} → Many A s t → At (star A) s t
many_in no_more = record { phrase = []; is = refl; derived = done }
many_in (one_more {t = t} a r) =
    let b = many_in r in
    record {
      phrase = a.phrase ++ b.phrase;
      is = a.is ∙ ap (λ l. a.phrase ++ l) b.is ∙ sym (append_assoc a.phrase b.phrase t);
      derived = more refl a.derived b.derived;
    }

many_from : {A : Rule} {w : List ℕ} (t : List ℕ) → star A w → Many A (w ++ t) t
many_from t done = no_more
many_from {A} t (more {u} {v} {w} e a r) =
    one_more (record { phrase = u; is = ap (λ l. l ++ t) e ∙ append_assoc u v t; derived = a }) (many_from t r)

pub many_out : {A : Rule} {s t : List ℕ} → At (star A) s t → Many A s t
many_out {A} {s} {t} h = subst (λ l. Many A l t) (sym h.is) (many_from t h.derived)

pub many_join : {A : Rule} {s m t : List ℕ} → Many A s m → Many A m t → Many A s t
many_join no_more q = q
many_join (one_more a r) q = one_more a (many_join r q)

pub many_map : {A B : Rule} {s t : List ℕ} → ((u v : List ℕ) → At A u v → Many B u v) → Many A s t → Many B s t
many_map f no_more = no_more
many_map f (one_more {s} {m} {t} a r) = many_join (f s m a) (many_map f r)

-- ---- what a rule tells
pub the_in : {A : Rule} {x s t : List ℕ} (a : At A s t) → a.phrase ≡ x → At (the x A) s t
the_in a e = record { phrase = a.phrase; is = a.is; derived = (e, a.derived) }

pub the_out : {A : Rule} {x s t : List ℕ} → At (the x A) s t → At A s t × (s ≡ x ++ t)
the_out {t = t} h = (record { phrase = h.phrase; is = h.is; derived = h.derived.1 }, h.is ∙ ap (λ l. l ++ t) h.derived.0)

pub sized_in : {A : Rule} {n : ℕ} {s t : List ℕ} (a : At A s t) → length a.phrase ≡ n → At (sized n A) s t
sized_in a e = record { phrase = a.phrase; is = a.is; derived = (e, a.derived) }

pub sized_out : {A : Rule} {n : ℕ} {s t : List ℕ} → At (sized n A) s t → (a : At A s t) × (length a.phrase ≡ n)
sized_out h = (record { phrase = h.phrase; is = h.is; derived = h.derived.1 }, h.derived.0)

pub empty_in : {s : List ℕ} → At empty s s
empty_in = record { phrase = []; is = refl; derived = refl }

pub empty_out : {s t : List ℕ} → At empty s t → s ≡ t
empty_out {t = t} h = h.is ∙ ap (λ l. l ++ t) h.derived

-- ---- a phrase that fills the bytes
pub whole_in : {A : Rule} {s : List ℕ} → A s → At A s []
whole_in {A} {s} a = record { phrase = s; is = sym (append-nil s); derived = a }

pub whole_out : {A : Rule} {s : List ℕ} → At A s [] → A s
whole_out {A} {s} h = subst A (sym (h.is ∙ append-nil h.phrase)) h.derived

pub at_shorter : {A : Rule} {s t : List ℕ} → At A s t → length t ≤ length s
at_shorter {A} {s} {t} h = omega (arith, ap length h.is ∙ length-append h.phrase t)
