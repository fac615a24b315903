-- Each refusal's number, layer and place.
use Rattle.std.specs.Prelude.{ℕ, List, ◌++◌, codes, decimal}
use Rattle.fields.specs.declared.refusal.Place.{Place}
use Rattle.fields.specs.declared.refusal.Objection.{Objection}
use Rattle.fields.specs.declared.refusal.Objection.TheVariants.{Repeated, Malformed, NotAscii}
use Rattle.fields.specs.declared.refusal.Refusal.{Refusal}
use Rattle.fields.specs.declared.refusal.Refusal.TheVariants.{TooLong, BadLine, TooManyFields, Objected}
use Rattle.fields.specs.declared.refusal.Numbers.{Numbers}

abbrev pub numbers_at : ℕ → ℕ → Place → Numbers
numbers_at n l p = record { number = n; layer = l; field = p.field; byte = p.byte }

-- the place of a refusal that concerns no field
abbrev pub nowhere : Place
nowhere = record { field = 0; byte = 0 }

abbrev pub objection_number : Objection → ℕ
objection_number Repeated = 4
objection_number Malformed = 5
objection_number NotAscii = 8

abbrev pub numbered : Refusal → Numbers
numbered TooLong = numbers_at 1 1 nowhere
numbered (BadLine p) = numbers_at 2 1 p
numbered (TooManyFields p) = numbers_at 3 1 p
numbered (Objected why p) = numbers_at (objection_number why) 2 p

-- the cause in words
abbrev pub objection_words : Objection → List ℕ
objection_words Repeated = codes "a field that may stand once stands again"
objection_words Malformed = codes "a body outside its grammar"
objection_words NotAscii = codes "a byte above 127 in a report"

abbrev pub because : Refusal → List ℕ
because TooLong = codes "more than 32,768 bytes"
because (BadLine _) = codes "a line at fault"
because (TooManyFields _) = codes "more than 256 fields"
because (Objected why _) = objection_words why

-- the numbers as they are printed
abbrev pub numbers_text : Numbers → List ℕ
numbers_text n = decimal n.number ++ (codes " layer " ++ (decimal n.layer ++ (codes " field " ++ (decimal n.field ++ (codes " byte " ++ decimal n.byte)))))
