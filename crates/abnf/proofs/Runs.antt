-- A run of one class leaves what the rule leaves.
use Rattle.std.proofs.Common.{◌≡◌, ℕ, suc, ◌<◌, ◌≤◌, Bool, false, eqb, List, [], ◌∷◌, length, Some, None, Option, sym, refl, ap, ◌∙◌, subst, arith}
use Rattle.std.proofs.lemmas.Bool.{cond_both, cond-true, cond-false, eqb-true, eq-eqb}
use Rattle.std.proofs.lemmas.Option.{none-some, same_Some}
use Rattle.fields.specs.Classes.{behind}
use Rattle.abnf.specs.Abnf.{plus, byte, one, At}
use Rattle.abnf.specs.Classes.{behind_one, behind_byte, behind_some}
use Rattle.abnf.proofs.Operators.{seq_in, seq_out, byte_in, byte_out, one_in, one_out, Many, no_more, one_more, many_in, many_out}

-- t does not begin with a byte of the class
abbrev pub Off : (ℕ → Bool) → List ℕ → Type 0
Off p [] = Unit {0}
Off p (b ∷ s) = p b ≡ false

-- what a reader leaves is shorter
abbrev pub Shortens : (List ℕ → Option (List ℕ)) → Type 0
Shortens f = (s t : List ℕ) → f s ≡ Some t → length t < length s

module _ (p : ℕ → Bool) where
  pub behind_shorter : (s : List ℕ) → length (behind p s) ≤ length s
  behind_shorter [] = omega arith
  behind_shorter (b ∷ s) =
      let ih = behind_shorter s in
      cond_both (p b) (behind p s) (b ∷ s) (λ l. length l ≤ suc (length s)) (λ e. omega arith) (λ e. omega arith)

  pub some_shortens : Shortens (behind_some p)
  some_shortens [] t e = absurd (none-some _ e)
  some_shortens (b ∷ s) t e =
      cond_both (p b) (Some (behind p s)) None (λ o. o ≡ Some t → length t < suc (length s)) (λ _ q. omega (arith, behind_shorter s, ap length (same_Some _ _ q))) (λ _ q. absurd (none-some _ q)) e

  pub one_shortens : Shortens (behind_one p)
  one_shortens [] t e = absurd (none-some _ e)
  one_shortens (b ∷ s) t e =
      cond_both (p b) (Some s) None (λ o. o ≡ Some t → length t < suc (length s)) (λ _ q. omega (arith, ap length (same_Some _ _ q))) (λ _ q. absurd (none-some _ q)) e

  pub one_sound : (s t : List ℕ) → behind_one p s ≡ Some t → At (one p) s t
  one_sound [] t e = absurd (none-some _ e)
  one_sound (b ∷ s) t e =
      cond_both (p b) (Some s) None (λ o. o ≡ Some t → At (one p) (b ∷ s) t)
      (λ h q. subst (λ l. At (one p) (b ∷ s) l) (same_Some _ _ q) (one_in h))
      (λ _ q. absurd (none-some _ q))
      e

  pub one_complete : (s t : List ℕ) → At (one p) s t → behind_one p s ≡ Some t
  one_complete s t h = let d = one_out h in ap (behind_one p) d.1 ∙ cond-true (p d.0) (Some t) None d.2

  pub behind_sound : (s : List ℕ) → Many (one p) s (behind p s)
  behind_sound [] = no_more
  behind_sound (b ∷ s) =
      let ih = behind_sound s in
      cond_both (p b) (behind p s) (b ∷ s) (λ l. Many (one p) (b ∷ s) l) (λ e. one_more (one_in e) ih) (λ _. no_more)

  pub behind_off : (s : List ℕ) → Off p (behind p s)
  behind_off [] = tt
  behind_off (b ∷ s) = cond_both (p b) (behind p s) (b ∷ s) (λ l. Off p l) (λ _. behind_off s) (λ e. e)

  pub behind_stays : (t : List ℕ) → Off p t → behind p t ≡ t
  behind_stays [] h = refl
  behind_stays (b ∷ t) h = cond-false (p b) (behind p t) (b ∷ t) h

  pub behind_complete : {s t : List ℕ} → Many (one p) s t → Off p t → behind p s ≡ t
  behind_complete {t = t} no_more h = behind_stays t h
  behind_complete (one_more {s} {m} {t} a r) h =
      let d = one_out a in
      ap (behind p) d.1 ∙ cond-true (p d.0) (behind p m) (d.0 ∷ m) d.2 ∙ behind_complete r h

  pub some_sound : (s t : List ℕ) → behind_some p s ≡ Some t → At (plus (one p)) s t
  some_sound [] t e = absurd (none-some _ e)
  some_sound (b ∷ s) t e =
      cond_both (p b) (Some (behind p s)) None (λ o. o ≡ Some t → At (plus (one p)) (b ∷ s) t)
      (λ h q. subst (λ l. At (plus (one p)) (b ∷ s) l) (same_Some _ _ q) (seq_in (one_in h) (many_in (behind_sound s))))
      (λ _ q. absurd (none-some _ q))
      e

  pub some_complete : (s t : List ℕ) → At (plus (one p)) s t → Off p t → behind_some p s ≡ Some t
  some_complete s t h o =
      let q = seq_out h in
      let d = one_out q.1 in
      ap (behind_some p) d.1 ∙ cond-true (p d.0) (Some (behind p q.0)) None d.2 ∙ ap Some (behind_complete (many_out q.2) o)

pub byte_sound : (n : ℕ) (s t : List ℕ) → behind_byte n s ≡ Some t → At (byte n) s t
byte_sound n s t e = let d = one_out (one_sound (λ b. eqb b n) s t e) in subst (λ l. At (byte n) l t) (sym d.1) (byte_in (eqb-true d.0 n d.2))

pub byte_complete : (n : ℕ) (s t : List ℕ) → At (byte n) s t → behind_byte n s ≡ Some t
byte_complete n s t h = ap (behind_byte n) (byte_out h) ∙ cond-true (eqb n n) (Some t) None (eq-eqb n n refl)
