use Rattle.std.proofs.Common.{arith, rules, tests}
use Rattle.lexical.specs.Spans.{taken}
use Rattle.options.specs.Reads.{values_of}
use Rattle.options.proofs.Values.{value_less, valuing_first, valuing_next}
use Rattle.options.proofs.parameter.skip_values.Goals as goal

pub returns-in_err-from : goal.returns-in_err-from
unfolding values_of
returns-in_err-from c = search rules

pub loop-rest-init : goal.loop-rest-init
loop-rest-init c = valuing_first c.args.s.now c.in_ok-from.from.now c.in_ok-from.ensures

pub loop-rest-smaller : goal.loop-rest-smaller
loop-rest-smaller c = omega (arith, value_less c.loop-rest.from.now (taken c.in_ok-rest.field-0) c.in_ok-rest.ensures)

pub loop-rest-preserved : goal.loop-rest-preserved
loop-rest-preserved c = valuing_next c.args.s.now c.loop-rest.from.now c.loop-rest.invariant (taken c.in_ok-rest.field-0) c.in_ok-rest.ensures c.in-44.len_at_least (omega (arith, tests))
