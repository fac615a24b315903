-- Rules all of whose bytes pass a test.
use Rattle.std.proofs.Common.{◌≡◌, ℕ, Bool, true, eqb, List, refl, ap, ◌∙◌, ⊎_elim}
use Rattle.std.proofs.lemmas.Bool.{and_from, eqb-true, or_cases}
use Rattle.fields.specs.Classes.{wsp, every}
use Rattle.fields.proofs.Opening.{every_append}
use Rattle.abnf.specs.Abnf.{Rule, ◌⋅◌, star, star.done, star.more, opt, byte, one}
use Rattle.lexical.specs.Rfc5322.{FWS}

module _ (p : ℕ → Bool) where
  abbrev pub Made : Rule → Type 0
  Made A = (w : List ℕ) → A w → every p w ≡ true

  pub made_seq : (A B : Rule) → Made A → Made B → Made (A ⋅ B)
  made_seq A B a b w d = ap (every p) d.2 ∙ every_append p d.0 d.1 (a d.0 d.3) (b d.1 d.4)

  pub made_opt : (A : Rule) → Made A → Made (opt A)
  made_opt A a w d = ⊎_elim (λ e. ap (every p) e) (a w) d

  pub made_star : (A : Rule) → Made A → Made (star A)
  made_star A a w done = refl
  made_star A a w (more {u} {v} e d r) = ap (every p) e ∙ every_append p u v (a u d) (made_star A a v r)

  pub made_byte : (n : ℕ) → p n ≡ true → Made (byte n)
  made_byte n h w d = ap (every p) d ∙ and_from (p n) true h refl

  pub made_one : (q : ℕ → Bool) → ((b : ℕ) → q b ≡ true → p b ≡ true) → Made (one q)
  made_one q h w d = ap (every p) d.1 ∙ and_from (p d.0) true (h d.0 d.2) refl

  -- 1*A
  pub made_plus : (A : Rule) → Made A → Made (A ⋅ star A)
  made_plus A a = made_seq A (star A) a (made_star A a)

  pub made_fws : p 32 ≡ true → p 9 ≡ true → p 13 ≡ true → p 10 ≡ true → Made (opt FWS)
  made_fws space tab cr lf =
      let white = made_one wsp (λ b h. ⊎_elim (λ e. ap p (eqb-true b 32 e) ∙ space) (λ e. ap p (eqb-true b 9 e) ∙ tab) (or_cases (eqb b 32) (eqb b 9) h)) in
      let crlf = made_seq (byte 13) (byte 10) (made_byte 13 cr) (made_byte 10 lf) in
      made_opt FWS (made_seq (opt (star (one wsp) ⋅ (byte 13 ⋅ byte 10))) _ (made_opt _ (made_seq (star (one wsp)) _ (made_star (one wsp) white) crlf)) (made_plus (one wsp) white))
