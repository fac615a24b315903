use Rattle.std.proofs.Common.{◌≡◌, ◌+◌}
use Rattle.address.specs.Seen.{listing}
use Rattle.equality.specs.Distinct.{distinct}
use Rattle.equality.proofs.distinct.Given as goal

abbrev pub invariant-loop-address : goal.invariant-loop-address
invariant-loop-address l = l.count + distinct (listing l.list) ≡ distinct (listing l.initial.list)
