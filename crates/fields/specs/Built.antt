-- What an input is that is cut with no fault, in terms of what it is made of.
use Rattle.std.specs.Prelude.{◌≡◌, ℕ, suc, ◌+◌, ◌<◌, ◌≤◌, true, false, List, [], ◌∷◌, ◌++◌, length, take, Ok, Err, Result}
use Rattle.fields.specs.declared.field.Form.{Form}
use Rattle.fields.specs.declared.field.Form.TheVariants.{Header}
use Rattle.fields.specs.declared.refusal.Place.{Place}
use Rattle.fields.specs.declared.refusal.Objection.{Objection}
use Rattle.fields.specs.declared.refusal.Refusal.{Refusal}
use Rattle.fields.specs.declared.refusal.Refusal.TheVariants.{BadLine}
use Rattle.fields.specs.Limits.{longest_input, most_fields}
use Rattle.fields.specs.Classes.{CR, LF, colon, ftext, every}
use Rattle.fields.specs.Lines.{sound, indented, blank}
use Rattle.fields.specs.Fields.{PlacedField, field_at, whole, fields_of}
use Rattle.fields.specs.Walks.{place, taken}

-- one or more bytes that a name is made of
abbrev pub Name : List ℕ → Type 0
Name [] = ⊥
Name (b ∷ n) = every ftext (b ∷ n) ≡ true

-- a line's text that may continue a field
pub record Continuation (t : List ℕ) : Type 0 where
  pub is_sound : sound t ≡ true
  pub is_indented : indented t ≡ true
  pub not_blank : blank t ≡ false

-- the folds of a body: each a CRLF and a continuation
pub data Folds : List ℕ → Type 0 where
  none : Folds []
  fold : {t s : List ℕ} → Continuation t → Folds s → Folds (CR ∷ LF ∷ t ++ s)

-- a name and the body behind its colon, that is the rest of the first line and the folds
pub record FieldText (name body : List ℕ) : Type 0 where
  pub named : Name name
  pub first : List ℕ
  pub folds : List ℕ
  pub body_is : body ≡ first ++ folds
  pub first_line : sound (name ++ colon ∷ first) ≡ true
  pub folded : Folds folds

-- what may stand behind the last field: nothing, and in a header also an empty line and any rest
pub data Rest : Form → List ℕ → Type 0 where
  nothing : {form : Form} → Rest form []
  empty_line : {s : List ℕ} → Rest Header (CR ∷ LF ∷ s)

-- from byte `at` on, s is the lines of these fields, each name, colon, body and CRLF, and then the rest
pub data Built (form : Form) : ℕ → List PlacedField → List ℕ → Type 0 where
  over : {at : ℕ} {s : List ℕ} → Rest form s → Built form at [] s
  field : {at : ℕ} {name body s : List ℕ} {fs : List PlacedField} → FieldText name body → Built form (at + length name + 1 + length body + 2) fs s
      → Built form at (field_at at name body ∷ fs) ((name ++ colon ∷ body) ++ CR ∷ LF ∷ s)

-- an input is cut with no fault exactly if it is so built, and then into the fields that it is built of
pub record CutExactly (form : Form) (s : List ℕ) : Type 0 where
  pub accepted : (fields_of form s).ending ≡ whole → Built form 0 (fields_of form s).fields s
  pub built : (fs : List PlacedField) → Built form 0 fs s → fields_of form s ≡ record { fields = fs; ending = whole }

-- s is an input up to byte b and no further: its first b bytes are one, and no longer front of it is
pub record InputUpTo (form : Form) (s : List ℕ) (b : ℕ) : Type 0 where
  pub so_far : (fs : List PlacedField) × Built form 0 fs (take b s)
  pub no_further : (n : ℕ) (fs : List PlacedField) → b < n → Built form 0 fs (take n s) → ⊥

-- the fields fs, of which the first is field n, told to `step` from the state s on, as long as it takes them
abbrev pub all_told : {S : Type 0} → (S → PlacedField → Result S Objection) → ℕ → S → List PlacedField → Result S Refusal
all_told step n s [] = Ok s
all_told step n s (f ∷ fs) = taken (step s f) (place n f.name.at) (λ t. all_told step (suc n) t fs)

-- an input that is built of the fields fs, within the bounds
pub record Input (form : Form) (fs : List PlacedField) (s : List ℕ) : Type 0 where
  pub is_built : Built form 0 fs s
  pub few : length fs ≤ most_fields
  pub short : length s ≤ longest_input

-- r is what a walk over s from the state s₀ on answers: it accepts nothing but an input all of whose fields it told;
-- of every input it tells the fields; and a line at fault stands where s ceases to be an input, behind the fields that are whole
pub record WalkExactly {S : Type 0} (step : S → PlacedField → Result S Objection) (s₀ : S) (form : Form) (s : List ℕ) (r : Result S Refusal) : Type 0 where
  pub cuts : CutExactly form s
  pub accepted : (t : S) → r ≡ Ok t → (fs : List PlacedField) × Input form fs s × (all_told step 1 s₀ fs ≡ Ok t)
  pub tells : (fs : List PlacedField) → Input form fs s → r ≡ all_told step 1 s₀ fs
  pub stops : (p : Place) → r ≡ Err (BadLine p) → (p.field ≡ length (fields_of form s).fields + 1) × InputUpTo form s p.byte
