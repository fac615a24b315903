use Rattle.std.proofs.Common.{sym, ap, ◌∙◌, arith, tests, ltb-false}
use Rattle.std.specs.Option.{option_map}
use Rattle.abnf.proofs.Turns.{Turned}
use Rattle.address.specs.Reads.{dotted, dot_atom_rest}
use Rattle.address.specs.Dots.{dots_start, no_dots, past_dot, last_dot}
use Rattle.address.proofs.addr_spec.DotAtomReader.read.Goals as goal

pub returns-in_err-rest : goal.returns-in_err-rest
returns-in_err-rest c = ap (option_map (λ x. x.now)) c.from_residual.ensures ∙ no_dots c.args.s.now (sym c.in_err-rest.ensures)

pub loop-rest-init : goal.loop-rest-init
loop-rest-init c = dots_start c.args.s.now c.in_ok-rest.rest.now (sym c.in_ok-rest.ensures)

turned : (c : goal.In_ok-rest-2) → Turned dotted c.loop-rest.rest.now c.in_ok-rest-2.rest.now (dot_atom_rest c.args.s.now)
turned c = past_dot _ c.loop-rest.rest.now c.loop-rest.invariant (omega (arith, ltb-false)) (omega (arith, tests)) c.in_ok-rest-2.rest.now (sym c.in_ok-rest-2.ensures)

pub returns-in_err-rest-2 : goal.returns-in_err-rest-2
returns-in_err-rest-2 c =
    ap (option_map (λ x. x.now)) c.from_residual-in_err-rest-2.ensures
    ∙ last_dot _ c.loop-rest.rest.now c.loop-rest.invariant (omega (arith, ltb-false)) (omega (arith, tests)) (sym c.in_err-rest-2.ensures)

pub loop-rest-smaller : goal.loop-rest-smaller
loop-rest-smaller c = (turned c).less

pub loop-rest-preserved : goal.loop-rest-preserved
loop-rest-preserved c = (turned c).goes
