-- Whether one of the parameters says it, one by one.
use Rattle.std.proofs.Common.{◌≡◌, ℕ, ◌<◌, ◌≤◌, Bool, false, ◌||◌, List, ◌∷◌, length, get_or, Some, None, Option, refl, ap, ◌∙◌, arith}
use mathlib.Core.Bool.{or_assoc}
use Rattle.std.specs.Option.{option_map}
use Rattle.fields.proofs.Patterns.{tail, one_ahead}
use Rattle.abnf.specs.Turns.{bind, turns, run}
use Rattle.abnf.proofs.Turns.{Going, going_run, going_at, turned_by}
use Rattle.mime.specs.Rfc2045.{Parameter}
use Rattle.mime.specs.Kinds.{some, reports}
use Rattle.mime.specs.Reads.{Read, parameter_of, parameters, parameters_of}
use Rattle.mime.proofs.Grammar.{parameter_shorter}

-- of the parameters before `rest` it is `found`, and with those in `rest` it is to be `whole`
pub record Finding (found : Bool) (rest : List ℕ) (whole : Option Bool) : Type 0 where
  pub left : Option (List Parameter)
  pub goes : Going parameters rest left
  pub same : option_map (λ ps. found || some reports ps) left ≡ whole

pub finding_start : (s : List ℕ) → Finding false s (option_map (some reports) (parameters_of s))
unfolding parameters_of
finding_start s = record { left = run parameters s; goes = going_run parameters s; same = refl }

-- after one turn
pub record Found (found : Bool) (s next : List ℕ) (whole : Option Bool) : Type 0 where
  pub less : length next < length s
  pub goes : Finding found next whole

found_more : (found : Bool) (p : Parameter) (o : Option (List Parameter)) → option_map (λ ps. (found || reports p) || some reports ps) o ≡ option_map (λ ps. found || some reports ps) (option_map (λ ps. p ∷ ps) o)
found_more found p None = refl
found_more found p (Some ps) = ap Some (or_assoc found (reports p) (some reports ps))

module _ (found : Bool) (whole : Option Bool) (s : List ℕ) (g : Finding found s whole) (one : 1 ≤ length s) (semicolon : get_or s 0 0 ≡ 59) where
  at_parameter : bind (parameter_of (tail 1 s)) (λ p. option_map (λ ps. p.parameter ∷ ps) (turns parameters g.goes.fuel p.rest)) ≡ g.left
  at_parameter = rw semicolon at (going_at g.goes (one_ahead s one))

  pub found_on : (p : Read) → parameter_of (tail 1 s) ≡ Some p → Found (found || reports p.parameter) s p.rest whole
  found_on p q =
      let after = turns parameters g.goes.fuel p.rest in
      let r : option_map (λ ps. p.parameter ∷ ps) after ≡ g.left = rw q at at_parameter in
      let t = turned_by parameters after g.goes.fuel s p.rest g.goes.enough (omega (arith, ap length (one_ahead s one), parameter_shorter (tail 1 s) p q)) refl in
      record { less = t.less; goes = record { left = after; goes = t.goes; same = found_more found p.parameter after ∙ ap (option_map (λ ps. found || some reports ps)) r ∙ g.same } }
