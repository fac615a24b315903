-- dot-atom-text, local parts and domains.
use Rattle.std.specs.Prelude.{◌≡◌, ℕ, zero, suc, ◌<◌, ◌≤◌, Bool, false, ◌||◌, List, [], ◌∷◌, length, Some, None, ◌==◌, nat_eq, slice_index_or, refl}
use Rattle.std.proofs.Common.{sym, ap, subst, ◌∙◌, arith}
use Rattle.std.proofs.lemmas.Bool.{cond_both, cond-false, eqb-true, or_parts}
use Rattle.std.proofs.lemmas.Option.{none-some, same_Some}
use Rattle.fields.specs.Classes.{behind}
use Rattle.fields.proofs.Patterns.{tail, one_ahead}
use Rattle.abnf.specs.Abnf.{Rule, ◌⋅◌, ◌∕◌, star, plus, byte, one, At}
use Rattle.abnf.specs.Classes.{atext, dtext, behind_byte, behind_some}
use Rattle.abnf.specs.Turns.{Left, bind, turns, run}
use Rattle.abnf.proofs.Operators.{seq_in, seq_out, byte_in, byte_out, Many, no_more, one_more, many_in, many_out}
use Rattle.abnf.proofs.Runs.{Off, Shortens, behind_shorter, behind_sound, behind_complete, one_shortens, byte_sound, byte_complete, some_shortens, some_sound, some_complete}
use Rattle.abnf.proofs.Turns.{bind_some, Going, going_run, going_at, Turned, turned_by}
use Rattle.lexical.specs.Rfc5322.{quoted_text}
use Rattle.lexical.specs.Reads.{quoted_rest}
use Rattle.lexical.specs.Quoting.{QuotedTail, quoted_shortens}
use Rattle.lexical.specs.Tokens.{white_off, apart_class, Reads, Opened, either_shortens, either_reads, some_first, quoted_opened}
use Rattle.address.specs.Rfc5322.{dot_atom_text, literal_text}
use Rattle.address.specs.Reads.{dotted, dot_atom_rest, literal_rest, local_rest, domain_rest}

-- ---- the loop
pub dots_start : (s u : List ℕ) → behind_some atext s ≡ Some u → Going dotted u (dot_atom_rest s)
unfolding dot_atom_rest
dots_start s u e = subst (λ w. Going dotted u w) (sym (ap (λ o. bind o (run dotted)) e)) (going_run dotted u)

pub no_dots : (s : List ℕ) → behind_some atext s ≡ None → None ≡ dot_atom_rest s
unfolding dot_atom_rest
no_dots s e = sym (ap (λ o. bind o (run dotted)) e)

module _ (whole : Left) (s : List ℕ) (g : Going dotted s whole) (some : 1 ≤ length s) (dot : slice_index_or s 0 0 ≡ 46) where
  pub past_dot : (u : List ℕ) → behind_some atext (tail 1 s) ≡ Some u → Turned dotted s u whole
  past_dot u q =
      turned_by dotted whole g.fuel s u g.enough (omega (arith, ap length (one_ahead s some), some_shortens atext (tail 1 s) u q))
      (rw q at (rw dot at (going_at g (one_ahead s some))))

  pub last_dot : behind_some atext (tail 1 s) ≡ None → None ≡ whole
  last_dot q = rw q at (rw dot at (going_at g (one_ahead s some)))

-- ---- what is left is shorter
dotted_shorter : (k : ℕ) (s t : List ℕ) → turns dotted k s ≡ Some t → length t ≤ length s
dotted_shorter zero s t e = absurd (none-some _ e)
dotted_shorter (suc k) [] t e = omega (arith, ap length (same_Some _ _ e))
dotted_shorter (suc k) (b ∷ s) t e =
    cond_both (b == 46) (bind (behind_some atext s) (turns dotted k)) (Some (b ∷ s)) (λ o. o ≡ Some t → length t ≤ suc (length s))
    (λ _ q. let u = bind_some (behind_some atext s) (turns dotted k) t q in omega (arith, some_shortens atext s u.0 u.1, dotted_shorter k u.0 t u.2))
    (λ _ q. omega (arith, ap length (same_Some _ _ q)))
    e

pub dots_shorten : Shortens dot_atom_rest
unfolding dot_atom_rest
dots_shorten s t e =
    let u = bind_some (behind_some atext s) (run dotted) t e in
    omega (arith, some_shortens atext s u.0 u.1, dotted_shorter (suc (length u.0)) u.0 t u.2)

pub literal_shortens : Shortens literal_rest
literal_shortens s t e = omega (arith, behind_shorter dtext s, one_shortens (λ b. nat_eq b 93) (behind dtext s) t e)

pub local_shortens : Shortens local_rest
local_shortens = either_shortens 34 quoted_rest dot_atom_rest quoted_shortens dots_shorten

pub domain_shortens : Shortens domain_rest
domain_shortens = either_shortens 91 literal_rest dot_atom_rest literal_shortens dots_shorten

-- ---- the rule
abbrev Next : Rule
Next = byte 46 ⋅ plus (one atext)

dotted_sound : (k : ℕ) (s t : List ℕ) → turns dotted k s ≡ Some t → Many Next s t
dotted_sound zero s t e = absurd (none-some _ e)
dotted_sound (suc k) [] t e = subst (λ l. Many Next [] l) (same_Some _ _ e) no_more
dotted_sound (suc k) (b ∷ s) t e =
    cond_both (b == 46) (bind (behind_some atext s) (turns dotted k)) (Some (b ∷ s)) (λ o. o ≡ Some t → Many Next (b ∷ s) t)
    (λ h q.
    let u = bind_some (behind_some atext s) (turns dotted k) t q in
    one_more (seq_in (byte_in (eqb-true b 46 h)) (some_sound atext s u.0 u.1)) (dotted_sound k u.0 t u.2))
    (λ _ q. subst (λ l. Many Next (b ∷ s) l) (same_Some _ _ q) no_more)
    e

dots_sound : (s t : List ℕ) → dot_atom_rest s ≡ Some t → At dot_atom_text s t
unfolding dot_atom_rest
dots_sound s t e =
    let u = bind_some (behind_some atext s) (run dotted) t e in
    seq_in (some_sound atext s u.0 u.1) (many_in (dotted_sound (suc (length u.0)) u.0 t u.2))

abbrev is_dot : ℕ → Bool
is_dot b = b == 46

-- what goes on a dot-atom-text
abbrev pub dot_or_atext : ℕ → Bool
dot_or_atext b = atext b || b == 46

dotted_stays : (again : List ℕ → Left) (t : List ℕ) → Off is_dot t → dotted again t ≡ Some t
dotted_stays again [] o = refl
dotted_stays again (b ∷ t) o = cond-false (b == 46) _ _ o

-- no run of atext goes on at a "." or at the end
next_off : {m t : List ℕ} → Many Next m t → Off atext t → Off atext m
next_off no_more o = o
next_off (one_more {s} {m} {t} a r) o = let p = seq_out a in subst (Off atext) (sym (byte_out p.1)) refl

dotted_complete : (k : ℕ) {s t : List ℕ} → Many Next s t → Off atext t → Off is_dot t → length s < k → turns dotted k s ≡ Some t
dotted_complete zero m o d less = absurd (omega arith)
dotted_complete (suc k) {t = t} no_more o d less = dotted_stays (turns dotted k) t d
dotted_complete (suc k) {t = t} (one_more {s = s} {m = v} a r) o d less =
    let p = seq_out a in
    let e = byte_out p.1 in
    let f = some_complete atext p.0 v p.2 (next_off r o) in
    ap (dotted (turns dotted k)) e ∙ ap (λ x. bind x (turns dotted k)) f ∙ dotted_complete k r o d (omega (arith, ap length e, some_shortens atext p.0 v f))

dots_complete : (s t : List ℕ) → At dot_atom_text s t → Off atext t → Off is_dot t → dot_atom_rest s ≡ Some t
unfolding dot_atom_rest
dots_complete s t h o d =
    let p = seq_out h in
    let r = many_out p.2 in
    ap (λ x. bind x (run dotted)) (some_complete atext s p.0 p.1 (next_off r o)) ∙ dotted_complete (suc (length p.0)) r o d (omega arith)

off_both : (v : List ℕ) → Off dot_or_atext v → Off atext v × Off is_dot v
off_both [] o = (tt, tt)
off_both (b ∷ v) o = or_parts (atext b) (b == 46) o

pub dots_read : Reads dot_atom_rest dot_atom_text dot_or_atext
dots_read = record {
  sound = dots_sound;
  complete = λ u v h o. let d = off_both v o in dots_complete u v h d.0 d.1;
  begins = λ u v h. let p = seq_out h in let q = seq_out p.1 in apart_class atext refl refl refl refl q.1;
  ends = white_off dot_or_atext refl refl refl refl;
}

dots_first : (n : ℕ) → atext n ≡ false → (u v : List ℕ) → At dot_atom_text u v → (b : ℕ) × (r : List ℕ) × (u ≡ b ∷ r) × ((b == n) ≡ false)
dots_first n e u v h = let p = seq_out h in some_first atext n e u p.0 p.1

pub local_reads : Reads local_rest (dot_atom_text ∕ quoted_text) dot_or_atext
local_reads = either_reads 34 quoted_rest dot_atom_rest dot_atom_text QuotedTail dot_or_atext quoted_opened dots_read (refl, refl, refl) (dots_first 34 refl)

literal_opened : Opened literal_rest (star (one dtext) ⋅ byte 93)
literal_opened = record {
  sound = λ s t e. seq_in (many_in (behind_sound dtext s)) (byte_sound 93 (behind dtext s) t e);
  complete = λ s t h.
      let p = seq_out h in
      let stop : Off dtext p.0 = subst (Off dtext) (sym (byte_out p.2)) refl in
      ap (behind_byte 93) (behind_complete dtext (many_out p.1) stop) ∙ byte_complete 93 p.0 t p.2;
}

pub domain_reads : Reads domain_rest (dot_atom_text ∕ literal_text) dot_or_atext
domain_reads = either_reads 91 literal_rest dot_atom_rest dot_atom_text (star (one dtext) ⋅ byte 93) dot_or_atext literal_opened dots_read (refl, refl, refl) (dots_first 91 refl)
