-- The bodies of all fields that an input is cut into are clean.
use Rattle.std.proofs.Common.{◌≡◌, ℕ, ◌+◌, true, false, not, ◌&&◌, eqb, List, [], ◌∷◌, ◌++◌, length, Some, None, Option, sym, refl, ap, ◌∙◌, subst}
use Rattle.std.proofs.lemmas.Bool.{cond_both, and_parts, and_from, both_ways, not-true, not_from_false}
use Rattle.std.proofs.lemmas.List.{append_assoc, append-nil}
use Rattle.fields.specs.declared.field.Form.{Form}
use Rattle.fields.specs.declared.field.Form.TheVariants.{Header, Report}
use Rattle.fields.specs.Classes.{wsp, ftext, plain, every, starts, front, behind}
use Rattle.fields.specs.Lines.{texts, sound, indented, blank}
use Rattle.fields.specs.Fields.{PlacedField, field_at, continued, whole, Cut, stop, Role, opens, continues, ends, spoils, faulty, named, opening, continuing, role, last_role, closing, by_role, cut, fields_of}
use Rattle.fields.specs.Clean.{is_CR, no_blank, clean, all_clean}
use Rattle.fields.specs.Built.{Continuation, Folds, none, fold}
use Rattle.fields.proofs.Parting.{plain_cr}
use Rattle.fields.proofs.Cutting.{parts_of}
use Rattle.fields.proofs.Opening.{every_right, sound_parts}

-- ---- folds are clean
not_fold : (b : ℕ) (s : List ℕ) → eqb b 13 ≡ false → no_blank (b ∷ s) ≡ true
not_fold b [] e = refl
not_fold b (c ∷ []) e = refl
not_fold b (c ∷ d ∷ s) e = rw e refl

clean_plain : (p s : List ℕ) → every plain p ≡ true → clean s ≡ true → clean (p ++ s) ≡ true
unfolding clean
clean_plain [] s h k = k
clean_plain (b ∷ p) s h k =
    let x = and_parts (plain b) (every plain p) h in
    and_from (no_blank (b ∷ p ++ s)) (clean (p ++ s)) (not_fold b (p ++ s) (plain_cr b x.0)) (clean_plain p s x.1 k)

-- behind white space, a line that is not blank goes on
goes_on : (t s : List ℕ) → every plain t ≡ true → every wsp t ≡ false → starts is_CR (behind wsp (t ++ s)) ≡ false
goes_on [] s h k = absurd (both_ways true k refl)
goes_on (b ∷ t) s h k =
    let x = and_parts (plain b) (every plain t) h in
    cond_both (wsp b) (behind wsp (t ++ s)) (b ∷ t ++ s) (λ l. starts is_CR l ≡ false)
    (λ w. goes_on t s x.1 (sym (ap (λ v. v && every wsp t) w) ∙ k))
    (λ _. plain_cr b x.0)

fold_clean : (t s : List ℕ) → Continuation t → clean s ≡ true → clean (13 ∷ 10 ∷ t ++ s) ≡ true
unfolding clean
fold_clean [] s c k = absurd (both_ways false refl c.is_indented)
fold_clean (w ∷ t) s c k =
    let x = (sound_parts (w ∷ t) c.is_sound).0 in
    let blanks : every wsp t ≡ false = sym (ap (λ v. v && every wsp t) c.is_indented) ∙ c.not_blank in
    and_from (no_blank (13 ∷ 10 ∷ w ∷ t ++ s)) (clean (10 ∷ w ∷ t ++ s)) (not_from_false _ (goes_on t s (and_parts (plain w) (every plain t) x).1 blanks)) (and_from (no_blank (10 ∷ w ∷ t ++ s)) (clean (w ∷ t ++ s)) (not_fold 10 (w ∷ t ++ s) refl) (clean_plain (w ∷ t) s x k))

folds_clean : {fo : List ℕ} → Folds fo → clean fo ≡ true
unfolding clean
folds_clean none = refl
folds_clean (fold {t = t} {s = s} c d) = fold_clean t s c (folds_clean d)

-- ---- a body is plain bytes and folds
record BodyText (b : List ℕ) : Type 0 where
  first : List ℕ
  folds : List ℕ
  is : b ≡ first ++ folds
  plains : every plain first ≡ true
  folded : Folds folds

body_clean : (b : List ℕ) → BodyText b → clean b ≡ true
body_clean b x = subst (λ s. clean s ≡ true) (sym x.is) (clean_plain x.first x.folds x.plains (folds_clean x.folded))

folds_more : {fo : List ℕ} (t : List ℕ) → Continuation t → Folds fo → Folds (fo ++ 13 ∷ 10 ∷ t)
folds_more t c none = subst (λ l. Folds (13 ∷ 10 ∷ l)) (append-nil t) (fold c none)
folds_more t c (fold {t = u} {s = s} d e) = subst Folds (ap (λ l. 13 ∷ 10 ∷ l) (sym (append_assoc u s (13 ∷ 10 ∷ t)))) (fold d (folds_more t c e))

body_more : (b t : List ℕ) → Continuation t → BodyText b → BodyText (b ++ 13 ∷ 10 ∷ t)
body_more b t c x = record {
  first = x.first;
  folds = x.folds ++ 13 ∷ 10 ∷ t;
  is = ap (λ l. l ++ 13 ∷ 10 ∷ t) x.is ∙ append_assoc x.first x.folds (13 ∷ 10 ∷ t);
  plains = x.plains;
  folded = folds_more t c x.folded;
}

-- ---- so is every body of a cut
abbrev OpenField : Option PlacedField → Type 0
OpenField None = Unit {0}
OpenField (Some f) = BodyText f.body.bytes

abbrev RoleSound : Role → Type 0
RoleSound (opens f) = BodyText f.body.bytes
RoleSound (continues f) = BodyText f.body.bytes
RoleSound ends = Unit {0}
RoleSound spoils = Unit {0}
RoleSound faulty = Unit {0}

named_sound : (at : ℕ) (n r : List ℕ) → every plain r ≡ true → RoleSound (named at n r)
named_sound at [] r h = tt
named_sound at (b ∷ n) [] h = tt
named_sound at (b ∷ n) (c ∷ r) h =
    cond_both (eqb c 58) (opens (field_at at (b ∷ n) r)) faulty RoleSound
    (λ _. record { first = r; folds = []; is = sym (append-nil r); plains = (and_parts (plain c) (every plain r) h).1; folded = none })
    (λ _. tt)

opening_sound : (form : Form) (at : ℕ) (t : List ℕ) → RoleSound (opening form at t)
opening_sound Header at [] = tt
opening_sound Report at [] = tt
opening_sound form at (b ∷ t) =
    let s = b ∷ t in
    cond_both (sound s) (named at (front ftext s) (behind ftext s)) faulty RoleSound
    (λ h. named_sound at (front ftext s) (behind ftext s) (every_right plain (front ftext s) (behind ftext s) (subst (λ l. every plain l ≡ true) (parts_of ftext s) (sound_parts s h).0)))
    (λ _. tt)

continuing_sound : (before : Option PlacedField) (t : List ℕ) → OpenField before → indented t ≡ true → RoleSound (continuing before t)
continuing_sound None t o i = tt
continuing_sound (Some f) t o i =
    cond_both (sound t && not (blank t)) (continues (continued f t)) spoils RoleSound
    (λ h. let x = and_parts (sound t) (not (blank t)) h in body_more f.body.bytes t (record { is_sound = x.0; is_indented = i; not_blank = not-true (blank t) x.1 }) o)
    (λ _. tt)

role_sound : (form : Form) (before : Option PlacedField) (at : ℕ) (t : List ℕ) → OpenField before → RoleSound (role form before at t)
role_sound form before at t o =
    cond_both (indented t) (continuing before t) (opening form at t) RoleSound (λ i. continuing_sound before t o i) (λ _. opening_sound form at t)

closing_clean : (before : Option PlacedField) (c : Cut) → OpenField before → all_clean c.fields ≡ true → all_clean (closing before c).fields ≡ true
closing_clean None c o h = h
closing_clean (Some f) c o h = and_from (clean f.body.bytes) (all_clean c.fields) (body_clean f.body.bytes o) h

by_role_clean : (before : Option PlacedField) (at : ℕ) (on : PlacedField → Cut) (r : Role) → OpenField before → RoleSound r → ((f : PlacedField) → BodyText f.body.bytes → all_clean (on f).fields ≡ true) → all_clean (by_role before at on r).fields ≡ true
by_role_clean before at on (opens f) o r h = closing_clean before (on f) o (h f r)
by_role_clean before at on (continues f) o r h = h f r
by_role_clean before at on ends o r h = closing_clean before (stop whole) o refl
by_role_clean before at on spoils o r h = refl
by_role_clean before at on faulty o r h = closing_clean before _ o refl

last_sound : (t : List ℕ) → RoleSound (last_role t)
last_sound [] = tt
last_sound (b ∷ t) = cond_both (indented (b ∷ t)) spoils faulty RoleSound (λ _. tt) (λ _. tt)

cut_clean : (form : Form) (before : Option PlacedField) (at : ℕ) (ts : List (List ℕ)) → OpenField before → all_clean (cut form before at ts).fields ≡ true
unfolding cut
cut_clean form before at [] o = closing_clean before (stop whole) o refl
cut_clean form before at (t ∷ []) o = by_role_clean before at (λ f. stop whole) (last_role t) o (last_sound t) (λ f b. refl)
cut_clean form before at (t ∷ u ∷ ts) o =
    by_role_clean before at (λ f. cut form (Some f) (at + length t + 2) (u ∷ ts)) (role form before at t) o (role_sound form before at t o)
    (λ f b. cut_clean form (Some f) (at + length t + 2) (u ∷ ts) b)

pub fields_clean : (form : Form) (s : List ℕ) → all_clean (fields_of form s).fields ≡ true
fields_clean form s = cut_clean form None 0 (texts s) tt
