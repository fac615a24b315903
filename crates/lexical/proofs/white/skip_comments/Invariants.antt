use Rattle.std.proofs.Common.{length}
use Rattle.abnf.proofs.Turns.{Going}
use Rattle.lexical.specs.Reads.{comments, comments_behind}
use Rattle.lexical.proofs.white.skip_comments.Given as goal

abbrev pub invariant-loop-rest : goal.invariant-loop-rest
invariant-loop-rest l = Going comments l.rest (comments_behind l.s)

abbrev pub decreases-loop-rest : goal.decreases-loop-rest
decreases-loop-rest l = length l.rest
