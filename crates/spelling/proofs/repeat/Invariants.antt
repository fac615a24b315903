use Rattle.std.proofs.Common.{◌<◌, ◌≤◌, vec_len}
use Rattle.spelling.proofs.repeat.Given as goal

abbrev pub invariant-loop-more : goal.invariant-loop-more
invariant-loop-more l = (l.group ≤ vec_len l.bytes) × (vec_len l.initial.bytes ≤ vec_len l.bytes) × (0 < l.more → l.group < vec_len l.bytes)

abbrev pub decreases-loop-more : goal.decreases-loop-more
decreases-loop-more l = l.more
