use Rattle.std.proofs.Common.{arith, rules, tests}
use Rattle.options.specs.Reads.{marked}
use Rattle.options.proofs.Bodies.{options_exact, parameter_shorter, listed_next}
use Rattle.options.proofs.body.read_options.Goals as goal

pub returns-in_err-p-clause-exactly : goal.returns-in_err-p-clause-exactly
returns-in_err-p-clause-exactly c = options_exact c.args.body.now _ (search rules)

pub returns-in-empty-clause-exactly : goal.returns-in-empty-clause-exactly
returns-in-empty-clause-exactly c = options_exact c.args.body.now _ (search rules)

pub returns-in_default-clause-exactly : goal.returns-in_default-clause-exactly
returns-in_default-clause-exactly c = options_exact c.args.body.now _ (search rules)

pub loop-p-smaller : goal.loop-p-smaller
loop-p-smaller c = omega (arith, parameter_shorter c.loop-p.rest.now (marked c.in_ok-p.p) c.in_ok-p.ensures)

pub loop-p-preserved : goal.loop-p-preserved
loop-p-preserved c =
    listed_next c.args.body.now c.loop-p.rest.now c.loop-p.required c.is_required-required.result c.loop-p.invariant (marked c.in_ok-p.p) c.in_ok-p.ensures
    c.is_required-required.ensures c.in-59.len_at_least (omega (arith, tests))
