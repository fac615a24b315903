-- The pieces between an opening byte and its closing one: those of comments, and those of quoted strings.
use Rattle.std.specs.Prelude.{◌≡◌, ℕ, zero, suc, ◌<◌, ◌≤◌, Bool, true, false, List, [], ◌∷◌, length, Some, None, ◌==◌, nat_eq, slice_index, refl}
use Rattle.std.proofs.Common.{⊎_elim, sym, ap, subst, ◌∙◌, arith}
use Rattle.std.proofs.lemmas.Bool.{cond_both, cond-true, cond-false, eqb-true, eq-eqb, or_from}
use Rattle.std.proofs.lemmas.Option.{none-some, same_Some}
use Rattle.fields.specs.Classes.{wsp}
use Rattle.fields.proofs.Patterns.{tail, one_ahead}
use Rattle.abnf.specs.Abnf.{Rule, ◌⋅◌, ◌∕◌, star, opt, byte, one, At}
use Rattle.abnf.specs.Classes.{quotable, behind_one}
use Rattle.abnf.specs.Turns.{Left, bind, turns, run}
use Rattle.abnf.proofs.Operators.{seq_in, seq_out, alt_left, alt_right, alt_out, byte_in, byte_out, one_in, one_out, differs, Many, no_more, one_more, many_in, many_out}
use Rattle.abnf.proofs.Runs.{Shortens, one_shortens, one_sound, one_complete}
use Rattle.abnf.proofs.Turns.{bind_some, ShortStep, Going, going_at, Turned, turned_by}
use Rattle.lexical.specs.Rfc5322.{quoted_pair, FWS}
use Rattle.lexical.specs.Reads.{fws, content}
use Rattle.lexical.specs.Folds.{fws_shorter, fws_sound, is_cr, fws_complete}

-- a reader of what stands behind a "(" leaves what R leaves
pub record Inner (inner : List ℕ → Left) (R : Rule) : Type 0 where
  pub sound : (s t : List ℕ) → inner s ≡ Some t → At R (40 ∷ s) t
  pub complete : (s t : List ℕ) → At R s t → (u : List ℕ) × (s ≡ 40 ∷ u) × (inner u ≡ Some t)
  pub short : Shortens inner

-- what the class has to leave alone
pub record ApartClass (close : ℕ) (class : ℕ → Bool) (R : Rule) : Type 0 where
  pub not_close : class close ≡ false
  pub not_pair : class 92 ≡ false
  pub not_space : class 32 ≡ false
  pub not_tab : class 9 ≡ false
  pub not_cr : class 13 ≡ false
  pub not_opening : (s t : List ℕ) → At R s t → class 40 ≡ false
  pub closes_pair : nat_eq 92 close ≡ false
  pub closes_opening : nat_eq 40 close ≡ false
  pub close_off : (wsp close ≡ false) × (is_cr close ≡ false)

module _ (close : ℕ) (class : ℕ → Bool) (inner : List ℕ → Left) where
  abbrev step : (List ℕ → Left) → List ℕ → Left
  step = content close class inner

  pub content_shortens : Shortens inner → ShortStep (content close class inner)
  content_shortens hi again ha [] t e = absurd (none-some _ e)
  content_shortens hi again ha (b ∷ s) t e =
      let P : Left → Type 0 = λ o. o ≡ Some t → length t < suc (length s) in
      let on : List ℕ → Left = λ u. again (fws u) in
      cond_both (b == close) (Some s) _ P (λ _ q. omega (arith, ap length (same_Some _ _ q)))
      (λ _. cond_both (class b) (on s) _ P (λ _ q. omega (arith, fws_shorter s, ha (fws s) t q))
      (λ _. cond_both (b == 92) (bind (behind_one quotable s) on) _ P
      (λ _ q. let u = bind_some (behind_one quotable s) on t q in omega (arith, one_shortens quotable s u.0 u.1, fws_shorter u.0, ha (fws u.0) t u.2))
      (λ _. cond_both (b == 40) (bind (inner s) on) None P
      (λ _ q. let u = bind_some (inner s) on t q in omega (arith, hi s u.0 u.1, fws_shorter u.0, ha (fws u.0) t u.2))
      (λ _ q. absurd (none-some _ q)))))
      e

  -- ---- one turn of the loop, by what stands first
  module _ (whole : Left) (s : List ℕ) (g : Going (content close class inner) s whole) (some : 1 ≤ length s) where
    cut : s ≡ slice_index s 0 ∷ tail 1 s
    cut = one_ahead s some

    on_to : (u : List ℕ) → length u ≤ length (tail 1 s) → turns step g.fuel (fws u) ≡ whole → Turned step s (fws u) whole
    on_to u less e = turned_by step whole g.fuel s (fws u) g.enough (omega (arith, ap length cut, fws_shorter u)) e

    pub past_plain : nat_eq (slice_index s 0) close ≡ false → class (slice_index s 0) ≡ true → Turned (content close class inner) s (fws (tail 1 s)) whole
    past_plain n e = on_to (tail 1 s) (omega arith) (rw (n, e) at (going_at g cut))

    pub past_pair : (u : List ℕ) → class 92 ≡ false → (92 == close) ≡ false → slice_index s 0 ≡ 92 → behind_one quotable (tail 1 s) ≡ Some u → Turned (content close class inner) s (fws u) whole
    past_pair u c n e q =
        on_to u (omega (arith, one_shortens quotable (tail 1 s) u q)) (rw q at (rw (n, c) at (rw e at (going_at g cut))))

    pub past_inner : (u : List ℕ) → Shortens inner → class 40 ≡ false → (40 == close) ≡ false → slice_index s 0 ≡ 40 → inner (tail 1 s) ≡ Some u → Turned (content close class inner) s (fws u) whole
    past_inner u short c n e q =
        on_to u (omega (arith, short (tail 1 s) u q)) (rw q at (rw (n, c) at (rw e at (going_at g cut))))

    pub stop_pair : class 92 ≡ false → (92 == close) ≡ false → slice_index s 0 ≡ 92 → behind_one quotable (tail 1 s) ≡ None → None ≡ whole
    stop_pair c n e q = rw q at (rw (n, c) at (rw e at (going_at g cut)))

    pub stop_inner : class 40 ≡ false → (40 == close) ≡ false → slice_index s 0 ≡ 40 → inner (tail 1 s) ≡ None → None ≡ whole
    stop_inner c n e q = rw q at (rw (n, c) at (rw e at (going_at g cut)))

    pub closed : nat_eq (slice_index s 0) close ≡ true → Some (tail 1 s) ≡ whole
    closed e = rw e at (going_at g cut)

  -- ---- the rule
  module _ (R : Rule) (known : Inner inner R) (apart : ApartClass close class R) where
    abbrev Piece : Rule
    Piece = one class ∕ quoted_pair ∕ R

    abbrev Body : Rule
    Body = star (opt FWS ⋅ Piece) ⋅ opt FWS ⋅ byte close

    body_more : {s m u t : List ℕ} → At (opt FWS) s m → At Piece m u → At Body u t → At Body s t
    body_more f c h = let p = seq_out h in seq_in (many_in (one_more (seq_in f c) (many_out p.1))) p.2

    content_sound : (k : ℕ) (r t : List ℕ) → turns step k r ≡ Some t → (s : List ℕ) → At (opt FWS) s r → At Body s t
    content_sound zero r t e s f = absurd (none-some _ e)
    content_sound (suc k) [] t e s f = absurd (none-some _ e)
    content_sound (suc k) (b ∷ u) t e s f =
        let P : Left → Type 0 = λ o. o ≡ Some t → At Body s t in
        let on : List ℕ → Left = λ v. turns step k (fws v) in
        let ih : (v : List ℕ) → on v ≡ Some t → At Body v t = λ v q. content_sound k (fws v) t q v (fws_sound v) in
        cond_both (b == close) (Some u) _ P
        (λ h q. seq_in (many_in no_more) (seq_in f (subst (λ l. At (byte close) (b ∷ u) l) (same_Some _ _ q) (byte_in (eqb-true b close h)))))
        (λ _. cond_both (class b) (on u) _ P
        (λ h q. body_more f (alt_left (one_in h)) (ih u q))
        (λ _. cond_both (b == 92) (bind (behind_one quotable u) on) _ P
        (λ h q. let v = bind_some (behind_one quotable u) on t q in body_more f (alt_right (alt_left (seq_in (byte_in (eqb-true b 92 h)) (one_sound quotable u v.0 v.1)))) (ih v.0 v.2))
        (λ _. cond_both (b == 40) (bind (inner u) on) None P
        (λ h q. let v = bind_some (inner u) on t q in body_more f (alt_right (alt_right (subst (λ x. At R (x ∷ u) v.0) (sym (eqb-true b 40 h)) (known.sound u v.0 v.1)))) (ih v.0 v.2))
        (λ _ q. absurd (none-some _ q)))))
        e

    -- past white space to a byte that is none
    here : (s v : List ℕ) (b : ℕ) (m : List ℕ) → m ≡ b ∷ v → At (opt FWS) s m → wsp b ≡ false → is_cr b ≡ false → fws s ≡ b ∷ v
    here s v b m e f w r = fws_complete s (b ∷ v) (subst (λ l. At (opt FWS) s l) e f) w r

    content_complete : (k : ℕ) {s u t : List ℕ} → Many (opt FWS ⋅ Piece) s u → At (opt FWS ⋅ byte close) u t → length (fws s) < k → turns step k (fws s) ≡ Some t
    content_complete zero m h less = absurd (omega arith)
    content_complete (suc k) {s} {u} {t} no_more h less =
        let p = seq_out h in
        ap (step (turns step k)) (here s t close p.0 (byte_out p.2) p.1 apart.close_off.0 apart.close_off.1)
        ∙ cond-true (close == close) _ _ (eq-eqb close close refl)
    content_complete (suc k) {t = t} (one_more {s = s} {m = v} a r) h less =
        let p = seq_out a in
        let m = p.0 in
        let again : List ℕ → Left = turns step k in
        let rec : length (fws v) < k → again (fws v) ≡ Some t = content_complete k r h in
        let small = fws_shorter v in
        ⊎_elim
        (λ c.
        let d = one_out c in
        let b = d.0 in
        let no : (n : ℕ) → class n ≡ false → (b == n) ≡ false = λ n f. differs class n b f d.2 in
        let e = here s v b m d.1 p.1 (or_from (b == 32) (b == 9) (no 32 apart.not_space) (no 9 apart.not_tab)) (no 13 apart.not_cr) in
        ap (step again) e ∙ cond-false (b == close) _ _ (no close apart.not_close) ∙ cond-true (class b) _ _ d.2 ∙ rec (omega (arith, ap length e)))
        (λ c. ⊎_elim
        (λ q.
        let z = seq_out q in
        let e = here s z.0 92 m (byte_out z.1) p.1 refl refl in
        let g = one_complete quotable z.0 v z.2 in
        ap (step again) e ∙ cond-false (92 == close) _ _ apart.closes_pair ∙ cond-false (class 92) _ _ apart.not_pair
        ∙ ap (λ o. bind o (λ x. again (fws x))) g ∙ rec (omega (arith, ap length e, one_shortens quotable z.0 v g)))
        (λ i.
        let z = known.complete m v i in
        let e = here s z.0 40 m z.1 p.1 refl refl in
        ap (step again) e ∙ cond-false (40 == close) _ _ apart.closes_opening ∙ cond-false (class 40) _ _ (apart.not_opening m v i)
        ∙ ap (λ o. bind o (λ x. again (fws x))) z.2 ∙ rec (omega (arith, ap length e, known.short z.0 v z.2)))
        (alt_out c))
        (alt_out p.2)

    -- behind the opening byte: pieces up to the closing one
    pub body_sound : (s t : List ℕ) → run (content close class inner) (fws s) ≡ Some t → At (star (opt FWS ⋅ (one class ∕ quoted_pair ∕ R)) ⋅ opt FWS ⋅ byte close) s t
    body_sound s t e = content_sound (suc (length (fws s))) (fws s) t e s (fws_sound s)

    pub body_complete : (s t : List ℕ) → At (star (opt FWS ⋅ (one class ∕ quoted_pair ∕ R)) ⋅ opt FWS ⋅ byte close) s t → run (content close class inner) (fws s) ≡ Some t
    body_complete s t h = let p = seq_out h in content_complete (suc (length (fws s))) (many_out p.1) p.2 (omega arith)
