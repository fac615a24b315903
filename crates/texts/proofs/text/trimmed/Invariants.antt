use Rattle.std.proofs.Common.{◌≡◌, length}
use Rattle.texts.specs.Reads.{trim}
use Rattle.texts.proofs.text.trimmed.Given as goal

abbrev pub invariant-loop-text : goal.invariant-loop-text
invariant-loop-text l = trim l.text ≡ trim l.s

abbrev pub decreases-loop-text : goal.decreases-loop-text
decreases-loop-text l = length l.text
