-- Bodies worked out by hand.
use Rattle.std.proofs.Common.{◌≡◌, ℕ, Bool, true, false, List, [], ◌∷◌, ◌++◌, Some, None, codes, Option, refl}
use Rattle.std.specs.Option.{option_map}
use Rattle.lexical.specs.Reads.{cfws, quoted_rest}
use Rattle.options.specs.declared.importance.Importance.{Importance}
use Rattle.options.specs.declared.importance.Importance.TheVariants.{Required, Optional}
use Rattle.options.specs.Rfc8098.{Series, Parameter}
use Rattle.options.specs.Reads.{marking_of, values_of, parameter_of, options_of, some_required}

abbrev parameter : List ℕ → Importance → List ℕ → List (List ℕ) → Parameter
parameter a i v vs = record { attribute = a; importance = i; values = record { first = v; others = vs } }

abbrev body : Parameter → List Parameter → Option (Series Parameter)
body p ps = Some (record { first = p; others = ps })

abbrev answer : List ℕ → Option Bool
answer s = option_map some_required (options_of s)

-- ---- what a body tells
one : options_of (codes "a=required,x") ≡ body (parameter (codes "a") Required (codes "x") []) []
unfolding marking_of values_of parameter_of cfws quoted_rest
one = refl

equals_sign_in_attribute : options_of (codes "a==required,x") ≡ body (parameter (codes "a=") Required (codes "x") []) []
unfolding marking_of values_of parameter_of cfws quoted_rest
equals_sign_in_attribute = refl

equals_sign_before_space : options_of (codes "a= =required,x") ≡ body (parameter (codes "a=") Required (codes "x") []) []
unfolding marking_of values_of parameter_of cfws quoted_rest
equals_sign_before_space = refl

two : options_of (codes "A = REQUIRED , \"q\" , (c) y ; b=optional,z") ≡ body (parameter (codes "A") Required (codes "\"q\"") (codes "y" ∷ [])) (parameter (codes "b") Optional (codes "z") [] ∷ [])
unfolding marking_of values_of parameter_of cfws quoted_rest
two = refl

folded : options_of (13 ∷ 10 ∷ codes " a=required,x;" ++ 13 ∷ 10 ∷ codes " b=optional,\"y;z\"") ≡ body (parameter (codes "a") Required (codes "x") []) (parameter (codes "b") Optional (codes "\"y;z\"") [] ∷ [])
unfolding marking_of values_of parameter_of cfws quoted_rest
folded = refl

-- ---- whether one is required
the_second : answer (codes "a=optional,x;b=required,y") ≡ Some true
unfolding marking_of values_of parameter_of cfws quoted_rest
the_second = refl

neither : answer (codes "a=optional,x;b=Optional,y") ≡ Some false
unfolding marking_of values_of parameter_of cfws quoted_rest
neither = refl

-- ---- outside the grammar
no_body : options_of [] ≡ None
unfolding marking_of values_of parameter_of cfws quoted_rest
no_body = refl

no_attribute : options_of (codes "=required,x") ≡ None
unfolding marking_of values_of parameter_of cfws quoted_rest
no_attribute = refl

no_values : options_of (codes "a=required") ≡ None
unfolding marking_of values_of parameter_of cfws quoted_rest
no_values = refl

no_value : options_of (codes "a=required,") ≡ None
unfolding marking_of values_of parameter_of cfws quoted_rest
no_value = refl

no_importance : options_of (codes "a=must,x") ≡ None
unfolding marking_of values_of parameter_of cfws quoted_rest
no_importance = refl

no_parameter : options_of (codes "a=required,x;") ≡ None
unfolding marking_of values_of parameter_of cfws quoted_rest
no_parameter = refl

space_in_attribute : options_of (codes "a b=required,x") ≡ None
unfolding marking_of values_of parameter_of cfws quoted_rest
space_in_attribute = refl

comment_before_attribute : options_of (codes "(c)a=required,x") ≡ None
unfolding marking_of values_of parameter_of cfws quoted_rest
comment_before_attribute = refl

comment_behind_importance : options_of (codes "a=required(c),x") ≡ None
unfolding marking_of values_of parameter_of cfws quoted_rest
comment_behind_importance = refl

more_behind : options_of (codes "a=required,x=y z") ≡ None
unfolding marking_of values_of parameter_of cfws quoted_rest
more_behind = refl
