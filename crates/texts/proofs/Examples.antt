-- Bodies, and what they tell.
use Rattle.std.proofs.Common.{◌≡◌, ℕ, List, [], ◌∷◌, ◌++◌, Some, None, codes, Option, refl}
use Rattle.lexical.specs.Reads.{cfws}
use Rattle.texts.specs.Rfc8098.{Typed}
use Rattle.texts.specs.Reads.{is_text, trim, typed_of}

abbrev told : ℕ → List ℕ → ℕ → List ℕ → Option Typed
told k kind t text = Some (record { kind = record { at = k; bytes = kind }; text = record { at = t; bytes = text } })

plain : typed_of (codes " rfc822; a@b") ≡ told 1 (codes "rfc822") 9 (codes "a@b")
unfolding typed_of cfws is_text trim
plain = refl

comment_in_text : typed_of (codes "rfc822; a b (c) ") ≡ told 0 (codes "rfc822") 8 (codes "a b (c)")
unfolding typed_of cfws is_text trim
comment_in_text = refl

empty : typed_of (codes "rfc822;") ≡ told 0 (codes "rfc822") 7 []
unfolding typed_of cfws is_text trim
empty = refl

empty_behind_comment : typed_of (codes "rfc822; (c) ") ≡ told 0 (codes "rfc822") 12 []
unfolding typed_of cfws is_text trim
empty_behind_comment = refl

folded : typed_of (codes "rfc822; a" ++ 13 ∷ 10 ∷ codes " b") ≡ told 0 (codes "rfc822") 8 (codes "a" ++ 13 ∷ 10 ∷ codes " b")
unfolding typed_of cfws is_text trim
folded = refl

fold_at_end : typed_of (codes "(x) dns (y) ;" ++ 13 ∷ 10 ∷ codes " a" ++ 13 ∷ 10 ∷ codes " ") ≡ told 4 (codes "dns") 16 (codes "a")
unfolding typed_of cfws is_text trim
fold_at_end = refl

last_of_text : typed_of (codes "x;" ++ 127 ∷ []) ≡ told 0 (codes "x") 2 (127 ∷ [])
unfolding typed_of cfws is_text trim
last_of_text = refl

above_text : typed_of (codes "x;" ++ 128 ∷ []) ≡ None
unfolding typed_of cfws is_text trim
above_text = refl

bare_cr : typed_of (codes "x;a" ++ 13 ∷ codes "b") ≡ None
unfolding typed_of cfws is_text trim
bare_cr = refl

nul : typed_of (codes "x;a" ++ 0 ∷ []) ≡ None
unfolding typed_of cfws is_text trim
nul = refl

open_comment : typed_of (codes "rfc822;(a") ≡ None
unfolding typed_of cfws is_text trim
open_comment = refl

dotted_type : typed_of (codes "x.400;a") ≡ None
unfolding typed_of cfws is_text trim
dotted_type = refl

no_type : typed_of (codes ";a") ≡ None
unfolding typed_of cfws is_text trim
no_type = refl

no_semicolon : typed_of (codes "rfc822 a") ≡ None
unfolding typed_of cfws is_text trim
no_semicolon = refl
