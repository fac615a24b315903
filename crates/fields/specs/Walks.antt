-- The walk over the fields of an input: each is told to a collector's step, in order.
use Rattle.std.specs.Prelude.{ℕ, suc, cond, List, [], ◌∷◌, length, Ok, Err, Result, nat_lt}
use Rattle.fields.specs.declared.field.Form.{Form}
use Rattle.fields.specs.declared.refusal.Place.{Place}
use Rattle.fields.specs.declared.refusal.Objection.{Objection}
use Rattle.fields.specs.declared.refusal.Refusal.{Refusal}
use Rattle.fields.specs.declared.refusal.Refusal.TheVariants.{TooLong, BadLine, TooManyFields, Objected}
use Rattle.fields.specs.Limits.{longest_input, most_fields}
use Rattle.fields.specs.Fields.{PlacedField, Ending, whole, fault, fields_of}

-- what a call makes of the state: its new value, or the reason why not
abbrev pub became : {A S E : Type 0} → Result A E → S → Result S E
became (Ok a) s = Ok s
became (Err e) s = Err e

-- an answer by what it means
abbrev pub meaning : {A B E : Type 0} → (A → B) → Result A E → Result B E
meaning f (Ok a) = Ok (f a)
meaning f (Err e) = Err e

abbrev pub place : ℕ → ℕ → Place
place n at = record { field = n; byte = at }

-- what was made of the field at p, and by `on` of those behind it
abbrev pub taken : {S : Type 0} → Result S Objection → Place → (S → Result S Refusal) → Result S Refusal
taken (Ok s) p on = on s
taken (Err why) p on = Err (Objected why p)

-- the fields fs, of which the first is field n, told to `step` from the state s on, up to the first that is refused
unfoldable pub told : {S : Type 0} → (S → PlacedField → Result S Objection) → ℕ → S → List PlacedField → Ending → Result S Refusal
told step n s [] whole = Ok s
told step n s [] (fault at) = Err (BadLine (place n at))
told step n s (f ∷ fs) e =
    let at = place n f.name.at in
    let more = taken (step s f) at (λ t. told step (suc n) t fs e) in
    cond (nat_lt most_fields n) (Err (TooManyFields at)) more

-- the fields of an input told to `step` from the state s on
unfoldable pub walked : {S : Type 0} → (S → PlacedField → Result S Objection) → S → Form → List ℕ → Result S Refusal
walked step s form input =
    let c = fields_of form input in
    let more = told step 1 s c.fields c.ending in
    cond (nat_lt longest_input (length input)) (Err TooLong) more
