use Rattle.std.proofs.Common.{◌≤◌, length}
use Rattle.std.specs.Str.Iter.{bytes_rest}
use Rattle.spelling.proofs.count.Given as goal

abbrev pub invariant-loop-b : goal.invariant-loop-b
invariant-loop-b l = length (bytes_rest l.rest) ≤ length (bytes_rest l.fn.rest)
