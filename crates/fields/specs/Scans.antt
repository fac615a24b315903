-- What the scanners of lines answer.
use Rattle.std.specs.Prelude.{◌≡◌, ℕ, zero, suc, ◌+◌, ◌-◌, ◌<◌, Bool, true, false, cond, ◌&&◌, List, [], ◌∷◌, length, Some, None, Ok, Err, Option, Result, ◌==◌}
use Rattle.fields.specs.declared.part.Part.{Part}
use Rattle.fields.specs.declared.field.Form.{Form}
use Rattle.fields.specs.declared.field.Front.{Front}
use Rattle.fields.specs.declared.field.Fault.{Fault}
use Rattle.fields.specs.Limits.{longest_line}
use Rattle.fields.specs.Classes.{CR, LF, colon, wsp, plain, behind, behind_byte}
use Rattle.fields.specs.Lines.{texts}
use Rattle.fields.specs.Fields.{Cut, whole, fault, stop, closing, cut}
use Rattle.fields.specs.Seen.{placed_field}

-- s begins with CRLF
abbrev pub at_crlf : List ℕ → Bool
at_crlf [] = false
at_crlf (a ∷ []) = false
at_crlf (a ∷ b ∷ s) = a == CR && b == LF

abbrev pub crlf_here : List ℕ → Option (List ℕ)
crlf_here s = cond (at_crlf s) (Some s) None

-- s from the CRLF on that ends its first line, where at most `room` bytes stand before it and each is plain
abbrev pub line_end : ℕ → List ℕ → Option (List ℕ)
line_end room [] = None
line_end zero (b ∷ s) = crlf_here (b ∷ s)
line_end (suc room) (b ∷ s) = let more = cond (plain b) (line_end room s) None in cond (at_crlf (b ∷ s)) (Some (b ∷ s)) more

abbrev pub past_colon : List ℕ → Option (List ℕ)
past_colon = behind_byte colon

-- what stands behind a CRLF and one byte of white space
abbrev pub fold_start : List ℕ → Option (List ℕ)
fold_start [] = None
fold_start (a ∷ []) = None
fold_start (a ∷ b ∷ []) = None
fold_start (a ∷ b ∷ c ∷ s) = cond ((a == CR && b == LF) && wsp c) (Some s) None

-- the line end of a continuation line that is not blank, from its second byte on
abbrev pub fold_end : List ℕ → Option (List ℕ)
fold_end s = let more = line_end (longest_line - 1) s in cond (at_crlf (behind wsp s)) None more

-- there is no line, or an empty one
abbrev pub no_field : List ℕ → Bool
no_field [] = true
no_field (b ∷ s) = at_crlf (b ∷ s)

-- the cut that begins with what was found first, and goes on behind it
abbrev pub found : Form → Result (Option Front) Fault → Cut
found form (Ok None) = stop whole
found form (Ok (Some f)) = closing (Some (placed_field f.field)) (cut form None f.rest.at (texts f.rest.text.now))
found form (Err line) = stop (fault line.byte)

-- what is left is further on in the same bytes
abbrev pub Ahead : Part → Result (Option Front) Fault → Type 0
Ahead from (Ok None) = Unit {0}
Ahead from (Ok (Some f)) = (length f.rest.text.now < length from.text.now) × (f.rest.at + length f.rest.text.now ≡ from.at + length from.text.now)
Ahead from (Err line) = Unit {0}
