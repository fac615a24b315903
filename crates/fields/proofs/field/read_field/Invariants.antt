use Rattle.std.proofs.Common.{length}
use Rattle.fields.proofs.Opening.{Open}
use Rattle.fields.proofs.field.read_field.Given as goal

abbrev pub invariant-loop-line : goal.invariant-loop-line
invariant-loop-line l = Open l.from.at l.from.text.now l.text l.end

abbrev pub decreases-loop-line : goal.decreases-loop-line
decreases-loop-line l = length l.end
