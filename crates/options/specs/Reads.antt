-- What is read of a body, part by part.
use Rattle.std.specs.Prelude.{ℕ, Bool, true, false, cond, not, ◌||◌, List, [], ◌∷◌, map, Some, None, Option, ◌==◌}
use Rattle.std.specs.Option.{option_map}
use Rattle.std.specs.List.{list_any}
use Rattle.std.specs.Borrow.{Bor}
use Rattle.std.specs.Char.{to_ascii_lowercase}
use Rattle.std.specs.Str.{bytes_eq}
use Rattle.fields.specs.Classes.{behind}
use Rattle.abnf.specs.Classes.{atext, behind_byte, behind_some}
use Rattle.abnf.specs.Turns.{bind, run}
use Rattle.lexical.specs.Reads.{fws, word_rest}
use Rattle.lexical.specs.Spans.{Token, ahead, text_of, token_of}
use Rattle.options.specs.declared.importance.Importance.{Importance}
use Rattle.options.specs.declared.importance.Importance.TheVariants.{Required, Optional}
use Rattle.lexical.specs.declared.span.Taken.{Taken}
use Rattle.options.specs.Rfc8098.{Series, Parameter, importance_word}

-- what was read, and what is left behind it
pub record Read (X : Type 0) : Type 0 where
  pub told : X
  pub rest : List ℕ

-- x, where nothing is left
abbrev pub filled : {X : Type 0} → X → List ℕ → Option X
filled x [] = Some x
filled x (b ∷ s) = None

-- ---- one or more, parted by the byte n
-- what was read and, by `again`, what is behind it, put together by `join`
abbrev pub followed : {X Y Z : Type 0} → (X → Read Y → Read Z) → (List ℕ → Option (Read Y)) → Read X → Option (Read Z)
followed join again x = option_map (join x.told) (again x.rest)

abbrev pub onto : {X : Type 0} → X → Read (List X) → Read (List X)
onto x xs = record { told = x ∷ xs.told; rest = xs.rest }

abbrev pub headed : {X : Type 0} → X → Read (List X) → Read (Series X)
headed x xs = record { told = record { first = x; others = xs.told }; rest = xs.rest }

abbrev pub more : {X : Type 0} → ℕ → (List ℕ → Option (Read X)) → (List ℕ → Option (Read (List X))) → List ℕ → Option (Read (List X))
more n one again [] = Some (record { told = []; rest = [] })
more n one again (b ∷ s) =
    let next = bind (one s) (followed onto again) in
    let over = Some (record { told = []; rest = b ∷ s }) in
    cond (b == n) next over

abbrev pub series_of : {X : Type 0} → ℕ → (List ℕ → Option (Read X)) → List ℕ → Option (Read (Series X))
series_of n one s = bind (one s) (followed headed (run (more n one)))

-- ---- what stands before the first ","
-- by a word in lower case
abbrev pub importance_spelt : List ℕ → Option Importance
importance_spelt k =
    let optional = cond (bytes_eq k (importance_word Optional)) (Some Optional) None in
    cond (bytes_eq k (importance_word Required)) (Some Required) optional

abbrev pub importance_of : List ℕ → Option Importance
importance_of w = importance_spelt (map to_ascii_lowercase w)

-- 1*atext, then [FWS] and nothing more: its text
abbrev pub atom_of : List ℕ → Option (List ℕ)
atom_of s = bind (behind_some atext s) (λ t. filled (ahead s t) (fws t))

-- what stands on both sides of an "="
pub record Sides : Type 0 where
  pub left : List ℕ
  pub right : List ℕ

abbrev pub wider : ℕ → List ℕ → Option Sides → Option Sides
wider b s (Some h) = Some (record { left = b ∷ h.left; right = h.right })
wider b s None = cond (b == 61) (Some (record { left = []; right = s })) None

-- what stands on both sides of the last "="
abbrev pub sides_of : List ℕ → Option Sides
sides_of [] = None
sides_of (b ∷ s) = wider b s (sides_of s)

-- attribute and importance
pub record Marking : Type 0 where
  pub name : List ℕ
  pub mark : Importance

abbrev pub marking : List ℕ → Importance → Marking
marking a i = record { name = a; mark = i }

-- the importance on the right
abbrev pub importance_at : List ℕ → Option Importance
importance_at s = bind (atom_of (fws s)) importance_of

unfoldable pub marking_of : List ℕ → Option Marking
marking_of s = bind (sides_of s) (λ h. bind (atom_of h.left) (λ a. option_map (marking a) (importance_at h.right)))

-- ---- a parameter, behind [FWS]
abbrev pub token_read : Token → Read (List ℕ)
token_read k = record { told = text_of k.text; rest = k.rest }

abbrev pub value_of : List ℕ → Option (Read (List ℕ))
value_of s = option_map token_read (token_of word_rest s)

-- from the first "," on
unfoldable pub values_of : List ℕ → Option (Read (Series (List ℕ)))
values_of s = bind (behind_byte 44 s) (series_of 44 value_of)

abbrev pub no_comma : ℕ → Bool
no_comma b = not (b == 44)

abbrev pub with_values : Marking → Read (Series (List ℕ)) → Read Parameter
with_values m v = record { told = record { attribute = m.name; importance = m.mark; values = v.told }; rest = v.rest }

abbrev pub parameter_at : List ℕ → List ℕ → Option (Read Parameter)
parameter_at from comma = bind (marking_of (ahead from comma)) (λ m. option_map (with_values m) (values_of comma))

unfoldable pub parameter_of : List ℕ → Option (Read Parameter)
parameter_of s = let from = fws s in parameter_at from (behind no_comma from)

-- ---- a body
abbrev pub options_of : List ℕ → Option (Series Parameter)
options_of s = bind (series_of 59 parameter_of s) (λ ps. filled ps.told ps.rest)

abbrev pub is_required : Importance → Bool
is_required Required = true
is_required Optional = false

abbrev pub any_required : List Parameter → Bool
any_required = list_any (λ p. is_required p.importance)

-- some parameter is marked required
abbrev pub some_required : Series Parameter → Bool
some_required ps = is_required ps.first.importance || any_required ps.others

-- ---- what the code keeps
abbrev pub sides : Bor (List ℕ) × Bor (List ℕ) → Sides
sides h = record { left = h.0.now; right = h.1.now }

abbrev pub marked : Taken Importance → Read Importance
marked t = record { told = t.value; rest = t.rest.now }

abbrev pub mark_of : Read Parameter → Read Importance
mark_of p = record { told = p.told.importance; rest = p.rest }
