use Rattle.std.proofs.Common.{◌-◌, length}
use Rattle.abnf.specs.Classes.{ctext}
use Rattle.abnf.proofs.Turns.{Going}
use Rattle.lexical.specs.Reads.{content, comment_rest}
use Rattle.lexical.proofs.white.+comment.Given as goal

abbrev pub decreases-comment : goal.decreases-comment
decreases-comment l = l.depth

abbrev pub invariant-loop-rest : goal.invariant-loop-rest
invariant-loop-rest l = Going (content 41 ctext (comment_rest (l.depth - 1))) l.rest (comment_rest l.depth l.s)

abbrev pub decreases-loop-rest : goal.decreases-loop-rest
decreases-loop-rest l = length l.rest
