-- *word [CFWS], in a clean body.
use Rattle.std.proofs.Common.{◌≡◌, ℕ, zero, suc, ◌<◌, ◌≤◌, true, false, eqb, List, [], ◌∷◌, length, get_or, Some, None, sym, refl, ap, ◌∙◌, subst, ⊎_elim, arith}
use Rattle.std.proofs.lemmas.Bool.{cond_both, cond-true, cond-false, or_from, or_left, or_cases, eqb-true}
use Rattle.std.proofs.lemmas.Option.{none-some, same_Some}
use Rattle.fields.specs.Classes.{wsp, behind}
use Rattle.fields.specs.Clean.{clean}
use Rattle.fields.proofs.Patterns.{tail, one_ahead}
use Rattle.abnf.specs.Abnf.{Rule, ◌⋅◌, ◌∕◌, star, opt, one, At}
use Rattle.abnf.specs.Classes.{atext, behind_some}
use Rattle.abnf.specs.Turns.{Left, bind, turns, run}
use Rattle.abnf.proofs.Operators.{seq_in, seq_out, alt_left, alt_right, alt_out, opt_none, byte_out, one_out, differs, the_in, the_out, Many, no_more, one_more, many_in, many_out, many_join, many_map, at_shorter}
use Rattle.abnf.proofs.Runs.{Off, behind_sound, behind_stays}
use Rattle.abnf.proofs.Turns.{bind_some, Going, going_run, going_at, Turned, turned_by}
use Rattle.lexical.specs.Rfc5322.{CFWS, deepest, around, atom_text, atom, quoted_text, quoted_string, word}
use Rattle.lexical.specs.Reads.{cfws, quoted_rest, word_rest}
use Rattle.lexical.specs.Exact.{Apart}
use Rattle.lexical.specs.Comments.{comment_inner, cfws_sound, cfws_complete}
use Rattle.lexical.specs.Quoting.{quoted_complete}
use Rattle.lexical.proofs.Merging.{clean_rest, Bit, merged, cfws_bits}
use Rattle.lexical.specs.Tokens.{apart_class, word_shortens, word_reads}
use Rattle.address.specs.Reads.{word_first, name_words, name_rest}

-- a word, whatever its text
abbrev pub AnyWord : Rule
AnyWord w = (x : List ℕ) × word x w

-- ---- the loop
pub name_starts : (s u : List ℕ) → cfws s ≡ Some u → Going name_words u (name_rest s)
unfolding name_rest
name_starts s u e = subst (λ w. Going name_words u w) (sym (ap (λ o. bind o (run name_words)) e)) (going_run name_words u)

pub no_name : (s : List ℕ) → cfws s ≡ None → None ≡ name_rest s
unfolding name_rest
no_name s e = sym (ap (λ o. bind o (run name_words)) e)

-- each turn leaves less
pub word_less : (s t u : List ℕ) → word_rest s ≡ Some t → cfws t ≡ Some u → length u < length s
word_less s t u q r = omega (arith, word_shortens s t q, at_shorter (cfws_sound t u r))

module _ (whole : Left) (s : List ℕ) (g : Going name_words s whole) (some : 1 ≤ length s) where
  cut : s ≡ get_or s 0 0 ∷ tail 1 s
  cut = one_ahead s some

  at_word : word_first (get_or s 0 0) ≡ true → (o : Left) → word_rest s ≡ o → bind o (λ t. bind (cfws t) (turns name_words g.fuel)) ≡ whole
  at_word e o q =
      let r : word_rest (get_or s 0 0 ∷ tail 1 s) ≡ o = ap word_rest (sym cut) ∙ q in
      ap (λ x. bind x (λ t. bind (cfws t) (turns name_words g.fuel))) (sym r) ∙ sym (cond-true (word_first (get_or s 0 0)) _ (Some (get_or s 0 0 ∷ tail 1 s)) e) ∙ going_at g cut

  pub past_word : word_first (get_or s 0 0) ≡ true → (t u : List ℕ) → word_rest s ≡ Some t → cfws t ≡ Some u → Turned name_words s u whole
  past_word e t u q r =
      turned_by name_words whole g.fuel s u g.enough (word_less s t u q r)
      (ap (λ o. bind o (turns name_words g.fuel)) (sym r) ∙ at_word e (Some t) q)

-- ---- what is left stands behind *word [CFWS]: each word takes the white space before it
abbrev pub Named : Rule
Named = star AnyWord ⋅ opt CFWS

told : {x : List ℕ} {s t : List ℕ} → At (word x) s t → At AnyWord s t
told {x} h = record { phrase = h.phrase; is = h.is; derived = (x, h.derived) }

named_more : {s u v m : List ℕ} → At (opt CFWS) s u → At (atom_text ∕ quoted_text) u v → At Named v m → At Named s m
named_more f t h =
    let p = seq_out h in
    let w = ⊎_elim (λ a. told (alt_left (seq_in f (seq_in (the_in a refl) opt_none)))) (λ q. told (alt_right (seq_in f (seq_in (the_in q refl) opt_none)))) (alt_out t) in
    seq_in (many_in (one_more w (many_out p.1))) p.2

words_sound : (k : ℕ) (u m : List ℕ) → turns name_words k u ≡ Some m → (s : List ℕ) → At (opt CFWS) s u → At Named s m
words_sound zero u m e s f = absurd (none-some _ e)
words_sound (suc k) [] m e s f = seq_in (many_in no_more) (subst (λ l. At (opt CFWS) s l) (same_Some _ _ e) f)
words_sound (suc k) (b ∷ u) m e s f =
    let on : List ℕ → Left = λ t. bind (cfws t) (turns name_words k) in
    cond_both (word_first b) (bind (word_rest (b ∷ u)) on) (Some (b ∷ u)) (λ o. o ≡ Some m → At Named s m)
    (λ _ q.
    let v = bind_some (word_rest (b ∷ u)) on m q in
    let w = bind_some (cfws v.0) (turns name_words k) m v.2 in
    named_more f (word_reads.sound (b ∷ u) v.0 v.1) (words_sound k w.0 m w.2 v.0 (cfws_sound v.0 w.0 w.1)))
    (λ _ q. seq_in (many_in no_more) (subst (λ l. At (opt CFWS) s l) (same_Some _ _ q) f))
    e

pub name_sound : (s m : List ℕ) → name_rest s ≡ Some m → At Named s m
unfolding name_rest
name_sound s m e = let w = bind_some (cfws s) (run name_words) m e in words_sound (suc (length w.0)) w.0 m w.2 s (cfws_sound s w.0 w.1)

-- ---- and the other way round, piece by piece: a bit of white space, one atext, or a quoted-string
abbrev pub Piece : Rule
Piece = Bit ∕ (one atext ∕ quoted_text)

-- what ends a name
abbrev pub Stop : List ℕ → Type 0
Stop [] = Unit {0}
Stop (b ∷ s) = (wsp b ≡ false) × (eqb b 13 ≡ false) × (eqb b 40 ≡ false) × (atext b ≡ false) × (eqb b 34 ≡ false)

stop_apart : (m : List ℕ) → Stop m → Apart m
stop_apart [] h = tt
stop_apart (b ∷ m) h = (h.0, h.1, h.2)

stop_off : (m : List ℕ) → Stop m → Off atext m
stop_off [] h = tt
stop_off (b ∷ m) h = h.3

-- what stands behind the white space
data Next (t m : List ℕ) : Type 0 where
  over : t ≡ m → Next t m
  letter : {v : List ℕ} → At (one atext) t v → Many Piece v m → Next t m
  string : {v : List ℕ} → At quoted_text t v → Many Piece v m → Next t m

white_front : {s m : List ℕ} → Many Piece s m → (t : List ℕ) × Many Bit s t × Next t m
white_front {s} no_more = (s, no_more, over refl)
white_front (one_more {s = s} a r) =
    let q = white_front r in
    ⊎_elim (λ p. (q.0, one_more p q.1, q.2)) (λ x. ⊎_elim (λ l. (s, no_more, letter l r)) (λ g. (s, no_more, string g r)) (alt_out x)) (alt_out a)

next_apart : {t m : List ℕ} → Stop m → Next t m → Apart t
next_apart {t} {m} h (over e) = subst Apart (sym e) (stop_apart m h)
next_apart {t} h (letter {v} a r) = apart_class atext refl refl refl refl a
next_apart {t} h (string {v} g r) = let p = seq_out g in subst Apart (sym (byte_out p.1)) (refl, refl, refl)

wsp_atext : (b : ℕ) → wsp b ≡ true → atext b ≡ false
wsp_atext b e = ⊎_elim (λ x. ap atext (eqb-true b 32 x)) (λ x. ap atext (eqb-true b 9 x)) (or_cases (eqb b 32) (eqb b 9) e)

bit_off : {s v : List ℕ} → At Bit s v → Off atext s
bit_off {s} {v} h = ⊎_elim
    (λ w. let d = one_out w in subst (Off atext) (sym d.1) (wsp_atext d.0 d.2))
    (λ x. ⊎_elim
    (λ f. let p = seq_out f in let c = seq_out p.1 in subst (Off atext) (sym (byte_out c.1)) refl)
    (λ k. let z = (comment_inner deepest).complete s v k in subst (Off atext) (sym z.1) refl)
    (alt_out x))
    (alt_out h)

-- a run of atext is taken whole
letters : {v m : List ℕ} → Stop m → Many Piece v m → Many Piece (behind atext v) m
letters {v} {m} h no_more = subst (λ l. Many Piece l v) (sym (behind_stays atext v (stop_off v h))) no_more
letters {m = m} h (one_more {s = s} {m = v} a r) =
    let kept : Off atext s → Many Piece (behind atext s) m = λ o. subst (λ l. Many Piece l m) (sym (behind_stays atext s o)) (one_more a r) in
    let ih = letters h r in
    ⊎_elim
    (λ p. kept (bit_off p))
    (λ x. ⊎_elim
    (λ l. let d = one_out l in subst (λ y. Many Piece y m) (sym (ap (behind atext) d.1 ∙ cond-true (atext d.0) (behind atext v) (d.0 ∷ v) d.2)) ih)
    (λ g. let p = seq_out g in kept (subst (Off atext) (sym (byte_out p.1)) refl))
    (alt_out x))
    (alt_out a)

words_stay : (again : List ℕ → Left) (m : List ℕ) → Stop m → name_words again m ≡ Some m
words_stay again [] h = refl
words_stay again (b ∷ m) h = cond-false (word_first b) _ _ (or_from (atext b) (eqb b 34) h.3 h.4)

-- past the white space, by what is known of fewer turns
white_then : (k : ℕ) (v m : List ℕ) → clean v ≡ true → Stop m → Many Piece v m → ((t : List ℕ) → clean t ≡ true → Next t m → length t ≤ length v → turns name_words k t ≡ Some m) → bind (cfws v) (turns name_words k) ≡ Some m
white_then k v m c h r known =
    let q = white_front r in
    let t = q.0 in
    let gone = many_in q.1 in
    ap (λ o. bind o (turns name_words k)) (cfws_complete v t (next_apart h q.2) (merged c q.1)) ∙ known t (clean_rest gone c) q.2 (at_shorter gone)

words_complete : (k : ℕ) (t m : List ℕ) → clean t ≡ true → Stop m → Next t m → length t < k → turns name_words k t ≡ Some m
words_complete zero t m c h n less = absurd (omega arith)
words_complete (suc k) t m c h (over e) less = ap (name_words (turns name_words k)) e ∙ words_stay (turns name_words k) m h
words_complete (suc k) t m c h (letter {v} a r) less =
    let d = one_out a in
    let l = behind atext v in
    let past = many_in (behind_sound atext v) in
    let on : List ℕ → Left = λ x. bind (cfws x) (turns name_words k) in
    let whole : word_rest (d.0 ∷ v) ≡ Some l =
    cond-false (eqb d.0 34) (quoted_rest v) (behind_some atext (d.0 ∷ v)) (differs atext 34 d.0 refl d.2) ∙ cond-true (atext d.0) (Some l) None d.2 in
    let known : (u : List ℕ) → clean u ≡ true → Next u m → length u ≤ length l → turns name_words k u ≡ Some m = λ u cu n small. words_complete k u m cu h n (omega (arith, at_shorter past, ap length d.1)) in
    ap (name_words (turns name_words k)) d.1
    ∙ cond-true (word_first d.0) (bind (word_rest (d.0 ∷ v)) on) _ (or_left (atext d.0) (eqb d.0 34) d.2)
    ∙ ap (λ o. bind o on) whole
    ∙ white_then k l m (clean_rest past (clean_rest a c)) h (letters h r) known
words_complete (suc k) t m c h (string {v} g r) less =
    let p = seq_out g in
    let u = p.0 in
    let e = byte_out p.1 in
    let on : List ℕ → Left = λ x. bind (cfws x) (turns name_words k) in
    let known : (x : List ℕ) → clean x ≡ true → Next x m → length x ≤ length v → turns name_words k x ≡ Some m = λ x cx n small. words_complete k x m cx h n (omega (arith, at_shorter p.2, ap length e)) in
    ap (name_words (turns name_words k)) e
    ∙ ap (λ o. bind o on) (quoted_complete u v p.2)
    ∙ white_then k v m (clean_rest g c) h r known

pub name_complete : (s m : List ℕ) → clean s ≡ true → Stop m → Many Piece s m → name_rest s ≡ Some m
unfolding name_rest
name_complete s m c h r =
    let q = white_front r in
    let t = q.0 in
    ap (λ o. bind o (run name_words)) (cfws_complete s t (next_apart h q.2) (merged c q.1))
    ∙ words_complete (suc (length t)) t m (clean_rest (many_in q.1) c) h q.2 (omega arith)

-- ---- the rules, piece by piece
pub white_pieces : {s t : List ℕ} → At (opt CFWS) s t → Many Piece s t
white_pieces h = many_map (λ u v a. one_more (alt_left a) no_more) (cfws_bits h)

pub atext_pieces : {s t : List ℕ} → At atom_text s t → Many Piece s t
atext_pieces h =
    let p = seq_out h in
    let piece : (u v : List ℕ) → At (one atext) u v → Many Piece u v = λ u v a. one_more (alt_right (alt_left a)) no_more in
    many_join (piece _ _ p.1) (many_map piece (many_out p.2))

pub quoted_pieces : {s t : List ℕ} → At quoted_text s t → Many Piece s t
quoted_pieces h = one_more (alt_right (alt_right h)) no_more

around_pieces : {A : Rule} {x s t : List ℕ} → ((m n : List ℕ) → At A m n → Many Piece m n) → At (around x A) s t → Many Piece s t
around_pieces f h = let p = seq_out h in let q = seq_out p.2 in many_join (white_pieces p.1) (many_join (f _ _ (the_out q.1).0) (white_pieces q.2))

pub word_pieces : (u v : List ℕ) → At AnyWord u v → Many Piece u v
word_pieces u v w =
    let x = w.derived.0 in
    ⊎_elim
    (λ a. around_pieces {x = x} (λ m n. atext_pieces) a)
    (λ q. around_pieces {x = x} (λ m n. quoted_pieces) q)
    (alt_out {A = atom x} {B = quoted_string x} (record { phrase = w.phrase; is = w.is; derived = w.derived.1 }))
