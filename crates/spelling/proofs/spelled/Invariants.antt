use Rattle.std.proofs.Common.{◌≤◌, vec_len}
use Rattle.spelling.proofs.spelled.Given as goal

abbrev pub invariant-loop-b : goal.invariant-loop-b
invariant-loop-b l = l.group ≤ vec_len l.bytes
