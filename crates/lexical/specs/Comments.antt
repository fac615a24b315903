-- Comments, and [CFWS].
use Rattle.std.specs.Prelude.{◌≡◌, ℕ, zero, suc, ◌-◌, ◌<◌, ◌≤◌, List, [], ◌∷◌, length, Some, None, ◌==◌, slice_index, slice_index_or, refl}
use Rattle.std.proofs.Common.{⊎_elim, sym, ap, subst, ◌∙◌, arith}
use Rattle.std.proofs.lemmas.Bool.{cond_both, cond-false, eqb-true}
use Rattle.std.proofs.lemmas.Option.{none-some, same_Some}
use Rattle.fields.specs.Classes.{wsp}
use Rattle.fields.proofs.Patterns.{tail, one_ahead}
use Rattle.abnf.specs.Abnf.{Rule, ◌⋅◌, star, opt, At}
use Rattle.abnf.specs.Classes.{ctext, behind_byte}
use Rattle.abnf.specs.Turns.{Left, bind, turns}
use Rattle.abnf.proofs.Operators.{seq_in, seq_out, alt_left, alt_right, alt_out, opt_none, opt_some, opt_out, byte_in, byte_out, Many, no_more, one_more, many_in, many_out}
use Rattle.abnf.proofs.Runs.{Off, Shortens, byte_sound}
use Rattle.abnf.proofs.Turns.{bind_some, turns_shorten, Going, going_run, going_at, Turned, turned_by}
use Rattle.lexical.specs.Rfc5322.{FWS, deepest, comment, CFWS}
use Rattle.lexical.specs.Reads.{fws, content, comment_rest, comment_behind, comments, comments_behind, cfws}
use Rattle.lexical.specs.Exact.{Apart, CommentExactly, CfwsExactly}
use Rattle.lexical.specs.Folds.{fws_shorter, fws_sound, is_cr, fws_complete}
use Rattle.lexical.specs.Contents.{Inner, ApartClass, content_shortens, body_sound, body_complete}

-- ---- comment
pub comment_shortens : (d : ℕ) → Shortens (comment_rest d)
comment_shortens zero s t e = absurd (none-some _ e)
comment_shortens (suc d) s t e =
    omega (arith, fws_shorter s, turns_shorten (content 41 ctext (comment_rest d)) (content_shortens 41 ctext (comment_rest d) (comment_shortens d)) (suc (length (fws s))) (fws s) t e)

ctext_apart : (R : Rule) → ApartClass 41 ctext R
ctext_apart R = record {
  not_close = refl;
  not_pair = refl;
  not_space = refl;
  not_tab = refl;
  not_cr = refl;
  not_opening = λ s t h. refl;
  closes_pair = refl;
  closes_opening = refl;
  close_off = (refl, refl);
}

pub comment_inner : (d : ℕ) → Inner (comment_rest d) (comment d)
comment_inner zero = record { sound = λ s t e. absurd (none-some _ e); complete = λ s t h. absurd h.derived; short = comment_shortens 0 }
comment_inner (suc d) =
    let ih = comment_inner d in
    let apart = ctext_apart (comment d) in
    record {
      sound = λ s t e. seq_in (byte_in refl) (body_sound 41 ctext (comment_rest d) (comment d) ih apart s t e);
      complete = λ s t h. let p = seq_out h in (p.0, byte_out p.1, body_complete 41 ctext (comment_rest d) (comment d) ih apart p.0 t p.2);
      short = comment_shortens (suc d);
    }

pub comment_exact : (s : List ℕ) (r : Left) → r ≡ comment_behind s → CommentExactly s r
comment_exact s r e =
    let found : (t : List ℕ) → At (comment deepest) s t → comment_behind s ≡ Some t =
    λ t h. let z = (comment_inner deepest).complete s t h in ap comment_behind z.1 ∙ z.2 in
    record {
      derived = λ t q.
          let b = bind_some (behind_byte 40 s) (comment_rest deepest) t (sym e ∙ q) in
          subst (λ l. At (comment deepest) l t) (sym (byte_out (byte_sound 40 s b.0 b.1))) ((comment_inner deepest).sound b.0 t b.2);
      answered = λ t h. e ∙ found t h;
      alone = λ t u h k. same_Some _ _ (sym (found t h) ∙ found u k);
    }

-- the loop begins
pub comment_starts : (d : ℕ) (s : List ℕ) → 1 ≤ d → Going (content 41 ctext (comment_rest (d - 1))) (fws s) (comment_rest d s)
comment_starts zero s h = absurd (omega arith)
comment_starts (suc d) s h =
    let e : suc d - 1 ≡ d = omega arith in
    rw e (going_run (content 41 ctext (comment_rest d)) (fws s))

-- ---- [CFWS]
pub behind_comment : (s : List ℕ) → 1 ≤ length s → slice_index s 0 ≡ 40 → comment_behind s ≡ comment_rest deepest (tail 1 s)
behind_comment s h e = ap comment_behind (one_ahead s h) ∙ rw e refl

pub comments_shorten : (s t : List ℕ) → comment_behind s ≡ Some t → length t < length s
comments_shorten s t e =
    let b = bind_some (behind_byte 40 s) (comment_rest deepest) t e in
    omega (arith, ap length (byte_out (byte_sound 40 s b.0 b.1)), comment_shortens deepest b.0 t b.2)

module _ (whole : Left) (s : List ℕ) (g : Going comments s whole) (some : 1 ≤ length s) (opens : slice_index_or s 0 0 ≡ 40) where
  at_comment : bind (comment_rest deepest (tail 1 s)) (λ t. turns comments g.fuel (fws t)) ≡ whole
  at_comment = rw opens at (going_at g (one_ahead s some))

  pub past_comment : (u : List ℕ) → comment_behind s ≡ Some u → Turned comments s (fws u) whole
  past_comment u q =
      let r = sym (behind_comment s some opens) ∙ q in
      turned_by comments whole g.fuel s (fws u) g.enough (omega (arith, comments_shorten s u q, fws_shorter u)) (rw r at at_comment)

  pub open_comment : comment_behind s ≡ None → None ≡ whole
  open_comment q = let r = sym (behind_comment s some opens) ∙ q in rw r at at_comment

-- [CFWS] is *([FWS] comment) [FWS]
abbrev pub Mixed : Rule
Mixed = star (opt FWS ⋅ comment deepest) ⋅ opt FWS

comments_sound : (k : ℕ) (r t : List ℕ) → turns comments k r ≡ Some t → (s : List ℕ) → At (opt FWS) s r → At Mixed s t
comments_sound zero r t e s f = absurd (none-some _ e)
comments_sound (suc k) [] t e s f = seq_in (many_in no_more) (subst (λ l. At (opt FWS) s l) (same_Some _ _ e) f)
comments_sound (suc k) (b ∷ u) t e s f =
    let on : List ℕ → Left = λ v. turns comments k (fws v) in
    let ih : (v : List ℕ) → on v ≡ Some t → At Mixed v t = λ v q. comments_sound k (fws v) t q v (fws_sound v) in
    cond_both (b == 40) (bind (comment_rest deepest u) on) (Some (b ∷ u)) (λ o. o ≡ Some t → At Mixed s t)
    (λ h q.
    let v = bind_some (comment_rest deepest u) on t q in
    let p = seq_out (ih v.0 v.2) in
    let c = subst (λ x. At (comment deepest) (x ∷ u) v.0) (sym (eqb-true b 40 h)) ((comment_inner deepest).sound u v.0 v.1) in
    seq_in (many_in (one_more (seq_in f c) (many_out p.1))) p.2)
    (λ _ q. seq_in (many_in no_more) (subst (λ l. At (opt FWS) s l) (same_Some _ _ q) f))
    e

comments_stay : (again : List ℕ → Left) (t : List ℕ) → Apart t → comments again t ≡ Some t
comments_stay again [] a = refl
comments_stay again (b ∷ t) a = cond-false (b == 40) _ _ a.2

apart_wsp : (t : List ℕ) → Apart t → Off wsp t
apart_wsp [] a = tt
apart_wsp (b ∷ t) a = a.0

apart_cr : (t : List ℕ) → Apart t → Off is_cr t
apart_cr [] a = tt
apart_cr (b ∷ t) a = a.1

comments_complete : (k : ℕ) {s u t : List ℕ} → Many (opt FWS ⋅ comment deepest) s u → At (opt FWS) u t → Apart t → length (fws s) < k → turns comments k (fws s) ≡ Some t
comments_complete zero m h a less = absurd (omega arith)
comments_complete (suc k) {s} {u} {t} no_more h a less =
    ap (comments (turns comments k)) (fws_complete s t h (apart_wsp t a) (apart_cr t a)) ∙ comments_stay (turns comments k) t a
comments_complete (suc k) {t = t} (one_more {s = s} {m = v} c r) h a less =
    let p = seq_out c in
    let z = (comment_inner deepest).complete p.0 v p.2 in
    let again : List ℕ → Left = turns comments k in
    let e : fws s ≡ 40 ∷ z.0 = fws_complete s (40 ∷ z.0) (subst (λ l. At (opt FWS) s l) z.1 p.1) refl refl in
    ap (comments again) e ∙ ap (λ o. bind o (λ x. again (fws x))) z.2 ∙ comments_complete k r h a (omega (arith, ap length e, comment_shortens deepest z.0 v z.2, fws_shorter v))

pub mixed_in : {s t : List ℕ} → At (opt CFWS) s t → At Mixed s t
mixed_in {s} {t} h = ⊎_elim
    (λ e. seq_in (many_in no_more) (subst (λ l. At (opt FWS) s l) e opt_none))
    (λ c. ⊎_elim
    (λ p. let q = seq_out p in let z = seq_out q.1 in seq_in (many_in (one_more z.1 (many_out z.2))) q.2)
    (λ f. seq_in (many_in no_more) (opt_some f))
    (alt_out c))
    (opt_out h)

pub mixed_out : {s t : List ℕ} → At Mixed s t → At (opt CFWS) s t
mixed_out {s} {t} h = let p = seq_out h in go p.0 (many_out p.1) p.2
  where
    go : (m : List ℕ) → Many (opt FWS ⋅ comment deepest) s m → At (opt FWS) m t → At (opt CFWS) s t
    go m no_more o = ⊎_elim (λ e. subst (λ l. At (opt CFWS) s l) e opt_none) (λ f. opt_some (alt_right f)) (opt_out o)
    go m (one_more a r) o = opt_some (alt_left (seq_in (seq_in a (many_in r)) o))

pub cfws_sound : (s t : List ℕ) → cfws s ≡ Some t → At (opt CFWS) s t
unfolding cfws
cfws_sound s t e = mixed_out (comments_sound (suc (length (fws s))) (fws s) t e s (fws_sound s))

pub cfws_complete : (s t : List ℕ) → Apart t → At (opt CFWS) s t → cfws s ≡ Some t
unfolding cfws
cfws_complete s t a h = let p = seq_out (mixed_in h) in comments_complete (suc (length (fws s))) (many_out p.1) p.2 a (omega arith)

pub cfws_exact : (s : List ℕ) (r : Left) → r ≡ cfws s → CfwsExactly s r
cfws_exact s r e = record {
  derived = λ t q. cfws_sound s t (sym e ∙ q);
  answered = λ t a h. e ∙ cfws_complete s t a h;
  alone = λ t u a b h k. same_Some _ _ (sym (cfws_complete s t a h) ∙ cfws_complete s u b k);
}

pub cfws_told : (s u : List ℕ) (r : Left) → u ≡ fws s → r ≡ comments_behind u → r ≡ cfws s
unfolding cfws
cfws_told s u r e f = f ∙ ap comments_behind e
