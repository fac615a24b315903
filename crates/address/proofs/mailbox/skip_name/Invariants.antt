use Rattle.std.proofs.Common.{length}
use Rattle.abnf.proofs.Turns.{Going}
use Rattle.address.specs.Reads.{name_words, name_rest}
use Rattle.address.proofs.mailbox.skip_name.Given as goal

abbrev pub invariant-loop-rest : goal.invariant-loop-rest
invariant-loop-rest l = Going name_words l.rest (name_rest l.s)

abbrev pub decreases-loop-rest : goal.decreases-loop-rest
decreases-loop-rest l = length l.rest
