-- A token with [CFWS] on both sides.
use Rattle.std.specs.Prelude.{◌≡◌, ℕ, suc, ◌+◌, ◌-◌, ◌<◌, ◌≤◌, Bool, true, false, ◌||◌, ◌⊎◌, List, [], ◌∷◌, ◌++◌, length, Some, ◌==◌, slice_index, refl}
use Rattle.std.proofs.Common.{inl, inr, ⊎_elim, sym, ap, subst, ◌∙◌, arith, length-append, take_at}
use Rattle.std.proofs.lemmas.Bool.{cond_both, cond-true, cond-false, eqb-true, eq-eqb, or_from, or_left, or_cases}
use Rattle.std.proofs.lemmas.Option.{same_Some}
use Rattle.fields.specs.Classes.{wsp}
use Rattle.fields.specs.Fields.{Placed}
use Rattle.fields.proofs.Patterns.{tail, one_ahead}
use Rattle.abnf.specs.Abnf.{Rule, ◌⋅◌, ◌∕◌, plus, opt, byte, one, At}
use Rattle.abnf.specs.Classes.{atext, behind_some}
use Rattle.abnf.specs.Turns.{Left, bind}
use Rattle.abnf.proofs.Operators.{seq_in, seq_out, alt_left, alt_right, alt_out, opt_out, byte_in, byte_out, one_out, differs, the_in, the_out, sized_in, sized_out, Many, no_more, one_more, many_out}
use Rattle.abnf.proofs.Runs.{Off, Shortens, some_shortens, some_sound, some_complete}
use Rattle.abnf.proofs.Turns.{bind_some}
use Rattle.lexical.specs.Rfc5322.{WSP, FWS, deepest, CFWS, around, around_at, quoted_text, atom_text}
use Rattle.lexical.specs.Reads.{cfws, quoted_rest, either, word_rest}
use Rattle.lexical.specs.Spans.{Token, ahead, text_of, within_of, token_of}
use Rattle.lexical.specs.Exact.{Apart}
use Rattle.lexical.specs.Comments.{comment_inner, cfws_sound, cfws_complete}
use Rattle.lexical.specs.Quoting.{QuotedTail, quoted_shortens, quoted_sound, quoted_complete}

-- ---- what a [CFWS] begins with
abbrev pub white : ℕ → Bool
white b = wsp b || (b == 13 || b == 40)

abbrev pub Whitened : List ℕ → Type 0
Whitened s = (b : ℕ) × (r : List ℕ) × (s ≡ b ∷ r) × (white b ≡ true)

wsp_white : {s m : List ℕ} → At WSP s m → Whitened s
wsp_white {s} {m} h = let d = one_out h in (d.0, m, d.1, or_left (wsp d.0) _ d.2)

fws_white : {s m : List ℕ} → At FWS s m → Whitened s
fws_white {s} {m} h =
    let p = seq_out h in
    let q = seq_out p.2 in
    ⊎_elim
    (λ e. subst Whitened (sym e) (wsp_white q.1))
    (λ g. let z = seq_out g in let c = seq_out z.2 in go z.0 (many_out z.1) (13, c.0, byte_out c.1, refl))
    (opt_out p.1)
  where
    go : (m : List ℕ) → Many WSP s m → Whitened m → Whitened s
    go m no_more w = w
    go m (one_more a r) w = wsp_white a

pub cfws_white : (s t : List ℕ) → At (opt CFWS) s t → (s ≡ t) ⊎ Whitened s
cfws_white s t h = ⊎_elim inl (λ c. inr (⊎_elim
    (λ p. let q = seq_out p in let z = seq_out q.1 in let y = seq_out z.1 in
    let first = (comment_inner deepest).complete y.0 z.0 y.2 in
    ⊎_elim (λ e. subst Whitened (sym e) (40, first.0, first.1, refl)) fws_white (opt_out y.1))
    fws_white (alt_out c))) (opt_out h)

-- to be off white space it is enough to be off its four bytes
pub white_off : (p : ℕ → Bool) → p 32 ≡ false → p 9 ≡ false → p 13 ≡ false → p 40 ≡ false → (b : ℕ) → white b ≡ true → p b ≡ false
white_off p e f g h b w =
    let at : (n : ℕ) → p n ≡ false → (b == n) ≡ true → p b ≡ false = λ n q r. ap p (eqb-true b n r) ∙ q in
    ⊎_elim (λ v. ⊎_elim (at 32 e) (at 9 f) (or_cases (b == 32) (b == 9) v)) (λ v. ⊎_elim (at 13 g) (at 40 h) (or_cases (b == 13) (b == 40) v)) (or_cases (wsp b) (b == 13 || b == 40) w)

-- what begins with a byte of a class that has no white space
pub apart_class : (p : ℕ → Bool) → p 32 ≡ false → p 9 ≡ false → p 13 ≡ false → p 40 ≡ false → {s t : List ℕ} → At (one p) s t → Apart s
apart_class p e f g h {s} {t} a =
    let d = one_out a in
    let b = d.0 in
    let no : (n : ℕ) → p n ≡ false → (b == n) ≡ false = λ n q. differs p n b q d.2 in
    subst Apart (sym d.1) (or_from (b == 32) (b == 9) (no 32 e) (no 9 f), no 13 g, no 40 h)

-- ---- texts
pub ahead_is : (u w v : List ℕ) → u ≡ w ++ v → ahead u v ≡ w
ahead_is u w v e = ap (λ l. ahead l v) e ∙ take_at w v _ (omega (arith, length-append w v))

-- a reader leaves what R leaves, where what stands behind does not go on by a byte of `on`
pub record Reads (leaves : List ℕ → Left) (R : Rule) (on : ℕ → Bool) : Type 0 where
  pub sound : (u v : List ℕ) → leaves u ≡ Some v → At R u v
  pub complete : (u v : List ℕ) → At R u v → Off on v → leaves u ≡ Some v
  pub begins : (u v : List ℕ) → At R u v → Apart u
  pub ends : (b : ℕ) → white b ≡ true → on b ≡ false

-- the three steps of a token
pub record TokenSteps (leaves : List ℕ → Left) (R : Rule) (s : List ℕ) (k : Token) : Type 0 where
  pub before : At (opt CFWS) s k.text.from
  pub text : At R k.text.from k.text.to
  pub behind : At (opt CFWS) k.text.to k.rest

pub token_steps : {leaves : List ℕ → Left} {R : Rule} {on : ℕ → Bool} → Reads leaves R on → (s : List ℕ) (k : Token) → token_of leaves s ≡ Some k → TokenSteps leaves R s k
token_steps {leaves} {R} h s k e =
    let a = bind_some (cfws s) _ k e in
    let b = bind_some (leaves a.0) _ k a.2 in
    let c = bind_some (cfws b.0) _ k b.2 in
    let same : record { text = record { from = a.0; to = b.0 }; rest = c.0 } ≡ k = same_Some _ _ c.2 in
    subst (λ (z : Token). TokenSteps leaves R s z) same
    (record { before = cfws_sound s a.0 a.1; text = h.sound a.0 b.0 b.1; behind = cfws_sound b.0 c.0 c.1 })

pub token_found : {leaves : List ℕ → Left} {R : Rule} {on : ℕ → Bool} → Reads leaves R on → (s : List ℕ) (k : Token) → Apart k.rest → Off on k.rest → TokenSteps leaves R s k → token_of leaves s ≡ Some k
token_found {leaves} {R} {on} h s k a o st =
    let from = k.text.from in
    let to = k.text.to in
    let off : Off on to = ⊎_elim
    (λ e. subst (Off on) (sym e) o)
    (λ w. subst (Off on) (sym w.2) (h.ends w.0 w.3))
    (cfws_white to k.rest st.behind) in
    ap (λ r. bind r (λ f. bind (leaves f) (λ g. bind (cfws g) (λ rest. Some (record { text = record { from = f; to = g }; rest = rest }))))) (cfws_complete s from (h.begins from to st.text) st.before)
    ∙ ap (λ r. bind r (λ g. bind (cfws g) (λ rest. Some (record { text = record { from = from; to = g }; rest = rest })))) (h.complete from to st.text off)
    ∙ ap (λ r. bind r (λ rest. Some (record { text = record { from = from; to = to }; rest = rest }))) (cfws_complete to k.rest a st.behind)

-- the rule with its text
pub around_in : {leaves : List ℕ → Left} {R : Rule} {s : List ℕ} {k : Token} → TokenSteps leaves R s k → At (around (text_of k.text) R) s k.rest
around_in {leaves} {R} {s} {k} st = seq_in st.before (seq_in (the_in st.text (sym (ahead_is k.text.from st.text.phrase k.text.to st.text.is))) st.behind)

pub around_out : (leaves : List ℕ → Left) {R : Rule} {x s t : List ℕ} → At (around x R) s t → (k : Token) × TokenSteps leaves R s k × (text_of k.text ≡ x) × (k.rest ≡ t)
around_out leaves {R} {x} {s} {t} h =
    let p = seq_out h in
    let q = seq_out p.2 in
    let w = the_out q.1 in
    (record { text = record { from = p.0; to = q.0 }; rest = t }, record { before = p.1; text = w.0; behind = q.2 }, ahead_is p.0 x q.0 w.1, refl)

-- and with its place
before_size : {s m : List ℕ} (a : At (opt CFWS) s m) → length a.phrase ≡ length s - length m
before_size {s} {m} a = let e : length s ≡ length a.phrase + length m = ap length a.is ∙ length-append a.phrase m in omega arith

pub placed_in : {leaves : List ℕ → Left} {R : Rule} {s : List ℕ} {k : Token} → TokenSteps leaves R s k → At (around_at (within_of s k.text) R) s k.rest
placed_in {leaves} {R} {s} {k} st =
    seq_in (sized_in st.before (before_size st.before)) (seq_in (the_in st.text (sym (ahead_is k.text.from st.text.phrase k.text.to st.text.is))) st.behind)

pub placed_out : (leaves : List ℕ → Left) {R : Rule} {x : Placed} {s t : List ℕ} → At (around_at x R) s t → (k : Token) × TokenSteps leaves R s k × (within_of s k.text ≡ x) × (k.rest ≡ t)
placed_out leaves {R} {x} {s} {t} h =
    let p = seq_out h in
    let q = seq_out p.2 in
    let w = the_out q.1 in
    let z = sized_out p.1 in
    let at : length s - length p.0 ≡ x.at = sym (before_size z.0) ∙ z.1 in
    let text : ahead p.0 q.0 ≡ x.bytes = ahead_is p.0 x.bytes q.0 w.1 in (
      record { text = record { from = p.0; to = q.0 }; rest = t },
      record { before = z.0; text = w.0; behind = q.2 },
      ap (λ n. record { at = n; bytes = ahead p.0 q.0 }) at ∙ ap (λ l. record { at = x.at; bytes = l }) text,
      refl,
    )

-- ---- a plain token, or one that a byte n opens
-- behind that byte, `inner` leaves what T leaves
pub record Opened (inner : List ℕ → Left) (T : Rule) : Type 0 where
  pub sound : (s t : List ℕ) → inner s ≡ Some t → At T s t
  pub complete : (s t : List ℕ) → At T s t → inner s ≡ Some t

module _ (n : ℕ) (inner plain : List ℕ → Left) where
  pub opened : (s : List ℕ) → 1 ≤ length s → slice_index s 0 ≡ n → either n inner plain s ≡ inner (tail 1 s)
  opened s h e = ap (either n inner plain) (one_ahead s h) ∙ cond-true (slice_index s 0 == n) (inner (tail 1 s)) _ (eq-eqb _ _ e)

  pub either_shortens : Shortens inner → Shortens plain → Shortens (either n inner plain)
  either_shortens hi hp [] t e = hp [] t e
  either_shortens hi hp (b ∷ s) t e =
      cond_both (b == n) (inner s) (plain (b ∷ s)) (λ o. o ≡ Some t → length t < suc (length s)) (λ _ q. omega (arith, hi s t q)) (λ _ q. hp (b ∷ s) t q) e

  module _ (A T : Rule) (on : ℕ → Bool) (known : Opened inner T) (other : Reads plain A on) (apart : Apart (n ∷ [])) (first : (u v : List ℕ) → At A u v → (b : ℕ) × (r : List ℕ) × (u ≡ b ∷ r) × ((b == n) ≡ false)) where
    either_sound : (u v : List ℕ) → either n inner plain u ≡ Some v → At (A ∕ (byte n ⋅ T)) u v
    either_sound [] v e = alt_left (other.sound [] v e)
    either_sound (b ∷ u) v e =
        cond_both (b == n) (inner u) (plain (b ∷ u)) (λ o. o ≡ Some v → At (A ∕ (byte n ⋅ T)) (b ∷ u) v)
        (λ h q. alt_right (seq_in (byte_in (eqb-true b n h)) (known.sound u v q)))
        (λ _ q. alt_left (other.sound (b ∷ u) v q))
        e

    skipped : (u v : List ℕ) → At A u v → either n inner plain u ≡ plain u
    skipped u v h =
        let d = first u v h in
        ap (either n inner plain) d.2 ∙ cond-false (d.0 == n) (inner d.1) (plain (d.0 ∷ d.1)) d.3 ∙ ap plain (sym d.2)

    pub either_reads : Reads (either n inner plain) (A ∕ (byte n ⋅ T)) on
    either_reads = record {
      sound = either_sound;
      complete = λ u v h o. ⊎_elim
          (λ d. skipped u v d ∙ other.complete u v d o)
          (λ q. let p = seq_out q in ap (either n inner plain) (byte_out p.1) ∙ cond-true (n == n) (inner p.0) (plain (n ∷ p.0)) (eq-eqb n n refl) ∙ known.complete p.0 v p.2)
          (alt_out h);
      begins = λ u v h. ⊎_elim
          (λ d. other.begins u v d)
          (λ q. let p = seq_out q in subst Apart (sym (byte_out p.1)) apart)
          (alt_out h);
      ends = other.ends;
    }

-- around (A / B) is (around A) / (around B)
pub split : {A B : Rule} {x s t : List ℕ} → At (around x (A ∕ B)) s t → At (around x A ∕ around x B) s t
split {A} {B} {x} h =
    let p = seq_out h in
    let q = seq_out p.2 in
    let w = q.1 in
    elim w.derived.1 [
      | inl a ↦ alt_left (seq_in p.1 (seq_in (record { phrase = w.phrase; is = w.is; derived = (w.derived.0, a) }) q.2))
      | inr b ↦ alt_right (seq_in p.1 (seq_in (record { phrase = w.phrase; is = w.is; derived = (w.derived.0, b) }) q.2))
    ]

pub join : {A B : Rule} {x s t : List ℕ} → At (around x A ∕ around x B) s t → At (around x (A ∕ B)) s t
join {A} {B} {x} h = ⊎_elim
    (λ a. let p = seq_out a in let q = seq_out p.2 in let w = q.1 in
    seq_in p.1 (seq_in (record { phrase = w.phrase; is = w.is; derived = (w.derived.0, inl w.derived.1) }) q.2))
    (λ b. let p = seq_out b in let q = seq_out p.2 in let w = q.1 in
    seq_in p.1 (seq_in (record { phrase = w.phrase; is = w.is; derived = (w.derived.0, inr w.derived.1) }) q.2))
    (alt_out h)

-- ---- runs of a class, and words
pub some_first : (p : ℕ → Bool) (n : ℕ) → p n ≡ false → (u v : List ℕ) → At (plus (one p)) u v → (b : ℕ) × (r : List ℕ) × (u ≡ b ∷ r) × ((b == n) ≡ false)
some_first p n e u v h = let q = seq_out h in let d = one_out q.1 in (d.0, q.0, d.1, differs p n d.0 e d.2)

pub some_reads : (p : ℕ → Bool) → p 32 ≡ false → p 9 ≡ false → p 13 ≡ false → p 40 ≡ false → Reads (behind_some p) (plus (one p)) p
some_reads p e f g h = record {
  sound = some_sound p;
  complete = λ u v k o. some_complete p u v k o;
  begins = λ u v k. let q = seq_out k in apart_class p e f g h q.1;
  ends = white_off p e f g h;
}

pub quoted_opened : Opened quoted_rest QuotedTail
quoted_opened = record { sound = quoted_sound; complete = quoted_complete }

pub word_shortens : Shortens word_rest
word_shortens = either_shortens 34 quoted_rest (behind_some atext) quoted_shortens (some_shortens atext)

pub word_reads : Reads word_rest (atom_text ∕ quoted_text) atext
word_reads = either_reads 34 quoted_rest (behind_some atext) atom_text QuotedTail atext quoted_opened (some_reads atext refl refl refl refl) (refl, refl, refl) (some_first atext 34 refl)
