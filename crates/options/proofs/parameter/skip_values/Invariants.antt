use Rattle.std.proofs.Common.{length}
use Rattle.options.proofs.Values.{Valuing}
use Rattle.options.proofs.parameter.skip_values.Given as goal

abbrev pub invariant-loop-rest : goal.invariant-loop-rest
invariant-loop-rest l = Valuing l.from l.s

abbrev pub decreases-loop-rest : goal.decreases-loop-rest
decreases-loop-rest l = length l.from
