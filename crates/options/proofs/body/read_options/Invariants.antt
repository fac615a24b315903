use Rattle.std.proofs.Common.{length}
use Rattle.options.proofs.Bodies.{Listed}
use Rattle.options.proofs.body.read_options.Given as goal

abbrev pub invariant-loop-p : goal.invariant-loop-p
invariant-loop-p l = Listed l.required l.rest l.body

abbrev pub decreases-loop-p : goal.decreases-loop-p
decreases-loop-p l = length l.rest
