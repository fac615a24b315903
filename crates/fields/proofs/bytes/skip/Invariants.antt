use Rattle.std.proofs.Common.{◌≡◌, length}
use Rattle.fields.specs.Classes.{behind}
use Rattle.fields.proofs.bytes.skip.Given as goal

abbrev pub invariant-loop-rest : goal.invariant-loop-rest
invariant-loop-rest g l = let p = g.C.Class.test in behind p l.rest ≡ behind p l.s

abbrev pub decreases-loop-rest : goal.decreases-loop-rest
decreases-loop-rest g l = length l.rest
