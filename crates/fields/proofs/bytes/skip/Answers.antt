use Rattle.std.proofs.Common.{sym, ◌∙◌, arith, ltb-false, ltb-true}
use Rattle.fields.proofs.Scanning.{behind_more, behind_none}
use Rattle.fields.proofs.bytes.skip.Goals as goal

pub loop-rest-preserved : goal.loop-rest-preserved
loop-rest-preserved g c = sym (behind_more g.C.Class.test c.loop-rest.rest.now (omega (arith, ltb-true, ltb-false)) (sym c.if-holds.ensures)) ∙ c.loop-rest.invariant

pub returns-then-rest-lt1 : goal.returns-then-rest-lt1
returns-then-rest-lt1 g c = sym (behind_none g.C.Class.test c.loop-rest.rest.now (omega (arith, ltb-true, ltb-false))) ∙ c.loop-rest.invariant
