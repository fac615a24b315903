-- Atoms with [FWS] behind them, and keywords.
use Rattle.std.proofs.Common.{◌≡◌, ℕ, ◌≤◌, true, false, eqb, List, [], ◌∷◌, ◌++◌, map, length, Some, None, Option, sym, refl, ap, ◌∙◌, subst, ⊎_elim, arith}
use Rattle.std.specs.Char.{to_ascii_lowercase}
use Rattle.std.specs.Str.{bytes_eq}
use Rattle.std.proofs.lemmas.Slice.Eq.{bytes_eq-Decides}
use Rattle.std.proofs.lemmas.Bool.{cond_both, and_parts, and_from, or_from, or_left}
use Rattle.std.proofs.lemmas.Bool.Decides.{nat_tests}
use Rattle.std.proofs.lemmas.Option.{none-some, same_Some}
use Rattle.fields.specs.Classes.{every}
use Rattle.abnf.specs.Abnf.{◌⋅◌, opt, one, the, At}
use Rattle.abnf.specs.Classes.{within, alpha, atext, behind_some}
use Rattle.abnf.specs.Turns.{bind}
use Rattle.abnf.proofs.Operators.{seq_in, seq_out, alt_right, opt_some, opt_out, one_in, one_out, differs, the_in, Many, no_more, one_more, many_in}
use Rattle.abnf.proofs.Runs.{Off, some_sound, some_complete}
use Rattle.abnf.proofs.Turns.{bind_some}
use Rattle.lexical.specs.Rfc5322.{FWS, atom_text}
use Rattle.lexical.specs.Reads.{fws}
use Rattle.lexical.specs.Spans.{ahead}
use Rattle.lexical.specs.Folds.{fws_sound, fws_complete}
use Rattle.lexical.specs.Tokens.{cfws_white, white_off, ahead_is}
use Rattle.options.specs.declared.importance.Importance.{Importance}
use Rattle.options.specs.declared.importance.Importance.TheVariants.{Required, Optional}
use Rattle.options.specs.Rfc8098.{importance_word, importance}
use Rattle.options.specs.Reads.{filled, importance_spelt, importance_of, atom_of}

-- ---- nothing is left
pub filled_some : {X : Type 0} (x y : X) (s : List ℕ) → filled x s ≡ Some y → (s ≡ []) × (x ≡ y)
filled_some x y [] e = (refl, same_Some _ _ e)
filled_some x y (b ∷ s) e = absurd (none-some _ e)

-- ---- 1*atext [FWS]
-- [FWS] is taken up to an atom
pub fws_to_atom : {s m t : List ℕ} → At (opt FWS) s m → At atom_text m t → fws s ≡ m
fws_to_atom {s} {m} {t} f a =
    let d = one_out (seq_out a).1 in
    let b = d.0 in
    let no : (n : ℕ) → atext n ≡ false → eqb b n ≡ false = λ n q. differs atext n b q d.2 in
    fws_complete s (b ∷ (seq_out a).0) (subst (λ l. At (opt FWS) s l) d.1 f) (or_from (eqb b 32) (eqb b 9) (no 32 refl) (no 9 refl)) (no 13 refl) ∙ sym d.1

-- an atom does not go on into [FWS]
fws_off : {s : List ℕ} → At (opt FWS) s [] → Off atext s
fws_off {s} h =
    let stop : s ≡ [] → Off atext s = λ e. subst (Off atext) (sym e) tt in
    ⊎_elim stop (λ f. ⊎_elim stop (λ w. subst (Off atext) (sym w.2) (white_off atext refl refl refl refl w.0 w.3)) (cfws_white s [] (opt_some (alt_right f)))) (opt_out h)

pub atom_sound : (s x : List ℕ) → atom_of s ≡ Some x → At (the x atom_text ⋅ opt FWS) s []
atom_sound s x e =
    let b = bind_some (behind_some atext s) _ x e in
    let t = b.0 in
    let a = some_sound atext s t b.1 in
    let f = filled_some (ahead s t) x (fws t) b.2 in
    seq_in (the_in a (sym (ahead_is s a.phrase t a.is) ∙ f.1)) (subst (λ l. At (opt FWS) t l) f.0 (fws_sound t))

pub atom_complete : {x s m : List ℕ} → At atom_text s m → s ≡ x ++ m → At (opt FWS) m [] → atom_of s ≡ Some x
atom_complete {x} {s} {m} a e f =
    ap (λ o. bind o (λ t. filled (ahead s t) (fws t))) (some_complete atext s m a (fws_off f))
    ∙ ap (filled (ahead s m)) (fws_complete m [] f tt tt)
    ∙ ap Some (ahead_is s x m e)

-- ---- keywords
lower_alpha : (b : ℕ) → within 97 122 (to_ascii_lowercase b) ≡ true → alpha b ≡ true
lower_alpha b e = grind (arith, nat_tests)

letters : (w : List ℕ) → every (within 97 122) (map to_ascii_lowercase w) ≡ true → every alpha w ≡ true
letters [] h = refl
letters (b ∷ w) h =
    let x = and_parts (within 97 122 (to_ascii_lowercase b)) (every (within 97 122) (map to_ascii_lowercase w)) h in
    and_from (alpha b) (every alpha w) (lower_alpha b x.0) (letters w x.1)

word_letters : (i : Importance) → every (within 97 122) (importance_word i) ≡ true
word_letters Required = refl
word_letters Optional = refl

pub importance_letters : (i : Importance) (w : List ℕ) → importance i w → every alpha w ≡ true
importance_letters i w e = letters w (ap (every (within 97 122)) e ∙ word_letters i)

all_atext : (w t : List ℕ) → every alpha w ≡ true → Many (one atext) (w ++ t) t
all_atext [] t h = no_more
all_atext (b ∷ w) t h = let x = and_parts (alpha b) (every alpha w) h in one_more (one_in (or_left (alpha b) _ x.0)) (all_atext w t x.1)

no_empty_word : (i : Importance) → 1 ≤ length (importance_word i)
no_empty_word Required = omega arith
no_empty_word Optional = omega arith

-- an importance is an atom
pub importance_atom : (i : Importance) {s t : List ℕ} → At (importance i) s t → At atom_text s t
importance_atom i {s} {t} a = subst (λ l. At atom_text l t) (sym a.is) (go a.phrase a.derived)
  where
    go : (w : List ℕ) → importance i w → At atom_text (w ++ t) t
    go [] e = absurd (omega (arith, no_empty_word i, ap length e))
    go (b ∷ w) e = let x = and_parts (alpha b) (every alpha w) (importance_letters i (b ∷ w) e) in seq_in (one_in (or_left (alpha b) _ x.0)) (many_in (all_atext w t x.1))

pub importance_sound : (w : List ℕ) (i : Importance) → importance_of w ≡ Some i → importance i w
importance_sound w i e =
    let k = map to_ascii_lowercase w in
    let P : Option Importance → Type 0 = λ o. o ≡ Some i → importance i w in
    let spelt : (j : Importance) → bytes_eq k (importance_word j) ≡ true → P (Some j) = λ j h q. (bytes_eq-Decides k (importance_word j)).0 h ∙ ap importance_word (same_Some _ _ q) in
    cond_both (bytes_eq k (importance_word Required)) (Some Required) _ P (spelt Required)
    (λ _. cond_both (bytes_eq k (importance_word Optional)) (Some Optional) None P (spelt Optional) (λ _ q. absurd (none-some _ q)))
    e

pub importance_complete : (w : List ℕ) (i : Importance) → importance i w → importance_of w ≡ Some i
importance_complete w Required e = ap importance_spelt e
importance_complete w Optional e = ap importance_spelt e
