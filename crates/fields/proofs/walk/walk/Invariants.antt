use Rattle.std.proofs.Common.{length}
use Rattle.fields.proofs.Walking.{Comes}
use Rattle.fields.proofs.walk.walk.Given as goal

abbrev pub invariant-loop-collector : goal.invariant-loop-collector
invariant-loop-collector g l =
    let C = g.C.Collector in
    Comes C.step (C.state l.initial.collector) l.form l.input l.field (C.state l.collector) l.rest.at l.rest.text.now

abbrev pub decreases-loop-collector : goal.decreases-loop-collector
decreases-loop-collector g l = length l.rest.text.now
