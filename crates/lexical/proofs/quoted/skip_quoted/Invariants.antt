use Rattle.std.proofs.Common.{length}
use Rattle.abnf.specs.Classes.{qtext}
use Rattle.abnf.proofs.Turns.{Going}
use Rattle.lexical.specs.Reads.{content, no_comment, quoted_rest}
use Rattle.lexical.proofs.quoted.skip_quoted.Given as goal

abbrev pub invariant-loop-rest : goal.invariant-loop-rest
invariant-loop-rest l = Going (content 34 qtext no_comment) l.rest (quoted_rest l.s)

abbrev pub decreases-loop-rest : goal.decreases-loop-rest
decreases-loop-rest l = length l.rest
