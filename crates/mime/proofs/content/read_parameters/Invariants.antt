use Rattle.std.proofs.Common.{length}
use Rattle.std.specs.Option.{option_map}
use Rattle.mime.specs.Kinds.{some, reports}
use Rattle.mime.specs.Reads.{parameters_of}
use Rattle.mime.proofs.Finding.{Finding}
use Rattle.mime.proofs.content.read_parameters.Given as goal

abbrev pub invariant-loop-rest : goal.invariant-loop-rest
invariant-loop-rest l = Finding l.found l.rest (option_map (some reports) (parameters_of l.s))

abbrev pub decreases-loop-rest : goal.decreases-loop-rest
decreases-loop-rest l = length l.rest
