-- Inputs worked out by hand.
use Rattle.std.proofs.Common.{◌≡◌, ℕ, List, [], ◌∷◌, ◌++◌, codes, refl}
use Rattle.fields.specs.declared.field.Form.TheVariants.{Header, Report}
use Rattle.fields.specs.Lines.{texts}
use Rattle.fields.specs.Fields.{field_at, whole, fault, cut, fields_of}

abbrev crlf : List ℕ → List ℕ
crlf s = 13 ∷ 10 ∷ s

empty : fields_of Header [] ≡ record { fields = []; ending = whole }
unfolding texts cut
empty = refl

empty_line_first : fields_of Header (crlf (0 ∷ [])) ≡ record { fields = []; ending = whole }
unfolding texts cut
empty_line_first = refl

empty_line_of_report : fields_of Report (crlf []) ≡ record { fields = []; ending = fault 0 }
unfolding texts cut
empty_line_of_report = refl

two : fields_of Report (codes "X: a" ++ crlf (codes " b" ++ crlf (codes "Y:c:d" ++ crlf []))) ≡ record { fields = field_at 0 (codes "X") (codes " a" ++ crlf (codes " b")) ∷ field_at 10 (codes "Y") (codes "c:d") ∷ []; ending = whole }
unfolding texts cut
two = refl

blank_continuation : fields_of Header (codes "X: a" ++ crlf (codes " " ++ crlf (codes "Y: b" ++ crlf []))) ≡ record { fields = []; ending = fault 6 }
unfolding texts cut
blank_continuation = refl

bare_lf : fields_of Header (codes "X:a" ++ 10 ∷ codes "Y:b" ++ crlf []) ≡ record { fields = []; ending = fault 0 }
unfolding texts cut
bare_lf = refl

cr_at_the_end : fields_of Header (codes "X: a" ++ crlf (13 ∷ [])) ≡ record { fields = field_at 0 (codes "X") (codes " a") ∷ []; ending = fault 6 }
unfolding texts cut
cr_at_the_end = refl

nul_in_continuation : fields_of Header (codes "Message-ID: bad" ++ crlf (32 ∷ 0 ∷ crlf [])) ≡ record { fields = []; ending = fault 17 }
unfolding texts cut
nul_in_continuation = refl
