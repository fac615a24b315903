-- What stands before the first "," of a parameter.
use Rattle.std.proofs.Common.{◌≡◌, ℕ, Bool, true, eqb, List, [], ◌∷◌, ◌++◌, Some, sym, refl, ap, ◌∙◌, subst}
use Rattle.std.specs.Option.{option_map}
use Rattle.std.proofs.lemmas.Bool.{not_from_false, or_left}
use Rattle.fields.proofs.Parting.{every_sub}
use Rattle.abnf.specs.Abnf.{Rule, ◌⋅◌, opt, byte, one, At}
use Rattle.abnf.specs.Classes.{alpha, atext}
use Rattle.abnf.specs.Turns.{bind}
use Rattle.abnf.proofs.Operators.{seq_in, seq_out, byte_in, byte_out, differs, the_out, whole_in, whole_out}
use Rattle.abnf.proofs.Turns.{bind_some, mapped_some}
use Rattle.lexical.specs.Rfc5322.{FWS}
use Rattle.lexical.specs.Reads.{fws}
use Rattle.lexical.specs.Folds.{fws_sound}
use Rattle.options.specs.declared.importance.Importance.{Importance}
use Rattle.options.specs.Rfc8098.{importance, attribute}
use Rattle.options.specs.Reads.{importance_of, atom_of, sides_of, Marking, marking, importance_at, marking_of, no_comma}
use Rattle.options.proofs.Everywhere.{Made, made_seq, made_byte, made_one, made_plus, made_fws}
use Rattle.options.proofs.Words.{fws_to_atom, atom_sound, atom_complete, importance_letters, importance_atom, importance_sound, importance_complete}
use Rattle.options.proofs.Halving.{no_equals, sides_sound, sides_complete}

-- attribute [FWS] "=" [FWS] importance [FWS]
abbrev pub Marks : Marking → Rule
Marks m = attribute m.name ⋅ opt FWS ⋅ byte 61 ⋅ opt FWS ⋅ importance m.mark ⋅ opt FWS

-- with more bytes behind it
pub at_more : {A : Rule} {s : List ℕ} (t : List ℕ) → At A s [] → At A (s ++ t) t
at_more {A} {s} t h = record { phrase = s; is = refl; derived = whole_out h }

-- ---- on the right of the last "="
right_sound : (s : List ℕ) (i : Importance) → importance_at s ≡ Some i → At (opt FWS ⋅ importance i ⋅ opt FWS) s []
right_sound s i e =
    let w = bind_some (atom_of (fws s)) importance_of i e in
    let a = seq_out (atom_sound (fws s) w.0 w.1) in
    let word : At (importance i) (fws s) a.0 = record { phrase = w.0; is = (the_out a.1).1; derived = importance_sound w.0 i w.2 } in
    seq_in (fws_sound s) (seq_in word a.2)

right_complete : (s : List ℕ) (i : Importance) → At (opt FWS ⋅ importance i ⋅ opt FWS) s [] → importance_at s ≡ Some i
right_complete s i h =
    let f = seq_out h in
    let w = seq_out f.2 in
    let a = importance_atom i w.1 in
    ap (λ l. bind (atom_of l) importance_of) (fws_to_atom f.1 a)
    ∙ ap (λ o. bind o importance_of) (atom_complete a w.1.is w.2)
    ∙ importance_complete w.1.phrase i w.1.derived

-- what every letter passes, an importance does
letters_pass : (p : ℕ → Bool) → ((b : ℕ) → alpha b ≡ true → p b ≡ true) → (i : Importance) → Made p (importance i)
letters_pass p h i w d = every_sub alpha p h w (importance_letters i w d)

-- no "=" stands there
right_plain : (i : Importance) → Made no_equals (opt FWS ⋅ importance i ⋅ opt FWS)
right_plain i =
    let gap = made_fws no_equals refl refl refl refl in
    made_seq no_equals (opt FWS) _ gap (made_seq no_equals (importance i) (opt FWS) (letters_pass no_equals (λ b h. not_from_false (eqb b 61) (differs alpha 61 b refl h)) i) gap)

-- ---- all of it
pub marking_sound : (s : List ℕ) (m : Marking) → marking_of s ≡ Some m → At (Marks m) s []
unfolding marking_of
marking_sound s m e =
    let h = bind_some (sides_of s) _ m e in
    let a = bind_some (atom_of h.0.left) _ m h.2 in
    let i = mapped_some (marking a.0) (importance_at h.0.right) m a.2 in
    let r = h.0.right in
    let left = seq_out (at_more (61 ∷ r) (atom_sound h.0.left a.0 a.1)) in
    subst (λ (z : Marking). At (Marks z) s []) i.2
    (subst (λ l. At (Marks (marking a.0 i.0)) l []) (sym (sides_sound s h.0 h.1)) (seq_in left.1 (seq_in left.2 (seq_in (byte_in refl) (right_sound r i.0 i.1)))))

pub marking_complete : (s : List ℕ) (m : Marking) → At (Marks m) s [] → marking_of s ≡ Some m
unfolding marking_of
marking_complete s m d =
    let p = seq_out d in
    let q = seq_out p.2 in
    let z = seq_out q.2 in
    let right = z.0 in
    let left = seq_in p.1 q.1 in
    let l = left.phrase in
    let cut : s ≡ l ++ 61 ∷ right = left.is ∙ ap (λ t. l ++ t) (byte_out z.1) in
    let a = seq_out (whole_in left.derived) in
    let name = the_out a.1 in
    ap (λ o. bind o (λ h. bind (atom_of h.left) (λ x. option_map (marking x) (importance_at h.right)))) (ap sides_of cut ∙ sides_complete l right (right_plain m.mark right (whole_out z.2)))
    ∙ ap (λ o. bind o (λ x. option_map (marking x) (importance_at right))) (atom_complete name.0 name.1 a.2)
    ∙ ap (option_map (marking m.name)) (right_complete right m.mark z.2)

-- no "," stands in it
pub marks_plain : (m : Marking) → Made no_comma (Marks m)
marks_plain m =
    let p = no_comma in
    let atoms : (b : ℕ) → atext b ≡ true → p b ≡ true = λ b h. not_from_false (eqb b 44) (differs atext 44 b refl h) in
    let name : Made p (attribute m.name) = λ w d. made_plus p (one atext) (made_one p atext atoms) w d.1 in
    let gap = made_fws p refl refl refl refl in
    made_seq p (attribute m.name) _ name (made_seq p (opt FWS) _ gap (made_seq p (byte 61) _ (made_byte p 61 refl)
    (made_seq p (opt FWS) _ gap (made_seq p (importance m.mark) (opt FWS) (letters_pass p (λ b h. atoms b (or_left (alpha b) _ h)) m.mark) gap))))
