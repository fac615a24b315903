use Rattle.std.proofs.Common.{length}
use Rattle.texts.proofs.Folded.{Past}
use Rattle.texts.proofs.text.is_text.Given as goal

abbrev pub invariant-loop-line : goal.invariant-loop-line
invariant-loop-line l = Past l.s l.rest

abbrev pub decreases-loop-line : goal.decreases-loop-line
decreases-loop-line l = length l.rest
