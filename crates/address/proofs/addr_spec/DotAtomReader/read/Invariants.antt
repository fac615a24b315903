use Rattle.std.proofs.Common.{length}
use Rattle.abnf.proofs.Turns.{Going}
use Rattle.address.specs.Reads.{dotted, dot_atom_rest}
use Rattle.address.proofs.addr_spec.DotAtomReader.read.Given as goal

abbrev pub invariant-loop-rest : goal.invariant-loop-rest
invariant-loop-rest l = Going dotted l.rest (dot_atom_rest l.s)

abbrev pub decreases-loop-rest : goal.decreases-loop-rest
decreases-loop-rest l = length l.rest
