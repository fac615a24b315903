-- The fields of an input, cut from its lines.
use Rattle.std.specs.Prelude.{ℕ, ◌+◌, cond, not, ◌&&◌, List, [], ◌∷◌, ◌++◌, length, Some, None, Option, ◌==◌}
use Rattle.fields.specs.declared.field.Form.{Form}
use Rattle.fields.specs.declared.field.Form.TheVariants.{Header, Report}
use Rattle.fields.specs.Classes.{CR, LF, colon, ftext, front, behind}
use Rattle.fields.specs.Lines.{texts, sound, indented, blank}

-- bytes of the input, and how many stand before them there
pub record Placed : Type 0 where
  pub at : ℕ
  pub bytes : List ℕ

pub record PlacedField : Type 0 where
  pub name : Placed
  pub body : Placed

-- a field whose name stands at `at`, and its body behind the colon
abbrev pub field_at : ℕ → List ℕ → List ℕ → PlacedField
field_at at name body = record { name = record { at = at; bytes = name }; body = record { at = at + length name + 1; bytes = body } }

-- the same field with one line more
abbrev pub continued : PlacedField → List ℕ → PlacedField
continued f t = record { name = f.name; body = record { at = f.body.at; bytes = f.body.bytes ++ CR ∷ LF ∷ t } }

-- how an input's fields end: there are no more, or the line at this byte is at fault
pub data Ending : Type 0 where
  whole : Ending
  fault : ℕ → Ending

-- the fields of an input, in order, and how they end
pub record Cut : Type 0 where
  pub fields : List PlacedField
  pub ending : Ending

-- what a line is to the fields
pub data Role : Type 0 where
  -- it opens this field
  opens : PlacedField → Role
  -- it continues the field before it to this one
  continues : PlacedField → Role
  -- it is the empty line that ends a header
  ends : Role
  -- it is a continuation line at fault, and the field before it with it
  spoils : Role
  -- it is at fault, and the field before it, if any, is over
  faulty : Role

-- a line that opens a field: a name, and right behind it a colon
abbrev pub named : ℕ → List ℕ → List ℕ → Role
named at [] rest = faulty
named at (b ∷ name) [] = faulty
named at (b ∷ name) (c ∷ body) = cond (c == colon) (opens (field_at at (b ∷ name) body)) faulty

abbrev pub empty_line : Form → Role
empty_line Header = ends
empty_line Report = faulty

-- the role of a line at `at` that is not indented: it is empty, or opens a field
abbrev pub opening : Form → ℕ → List ℕ → Role
opening form at [] = empty_line form
opening form at (b ∷ t) = cond (sound (b ∷ t)) (named at (front ftext (b ∷ t)) (behind ftext (b ∷ t))) faulty

-- the role of an indented line, behind the field `before` or as the first line
abbrev pub continuing : Option PlacedField → List ℕ → Role
continuing None t = spoils
continuing (Some f) t = cond (sound t && not (blank t)) (continues (continued f t)) spoils

-- the role of a line at `at`, behind the field `before` or as the first line
abbrev pub role : Form → Option PlacedField → ℕ → List ℕ → Role
role form before at t = cond (indented t) (continuing before t) (opening form at t)

-- the role of what stands behind the last CRLF, which is no line
abbrev pub last_role : List ℕ → Role
last_role [] = ends
last_role (b ∷ t) = cond (indented (b ∷ t)) spoils faulty

-- no field, and this ending
abbrev pub stop : Ending → Cut
stop e = record { fields = []; ending = e }

-- the field `before`, if any, is over, and what follows it is c
abbrev pub closing : Option PlacedField → Cut → Cut
closing None c = c
closing (Some f) c = record { fields = f ∷ c.fields; ending = c.ending }

-- what a line at `at` behind the field `before` brings; `on f` is the cut behind the line, where f is still open
abbrev pub by_role : Option PlacedField → ℕ → (PlacedField → Cut) → Role → Cut
by_role before at on (opens f) = closing before (on f)
by_role before at on (continues f) = on f
by_role before at on ends = closing before (stop whole)
by_role before at on spoils = stop (fault at)
by_role before at on faulty = closing before (stop (fault at))

-- the cut of these texts, of which the first stands at `at`, where the field `before`, if any, is still open
unfoldable pub cut : Form → Option PlacedField → ℕ → List (List ℕ) → Cut
cut form before at [] = closing before (stop whole)
cut form before at (t ∷ []) = by_role before at (λ f. stop whole) (last_role t)
cut form before at (t ∷ u ∷ ts) = by_role before at (λ f. cut form (Some f) (at + length t + 2) (u ∷ ts)) (role form before at t)

-- the fields of an input
abbrev pub fields_of : Form → List ℕ → Cut
fields_of form s = cut form None 0 (texts s)
