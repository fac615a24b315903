use Rattle.std.proofs.Common.{sym, arith, tests, ltb-false}
use Rattle.fields.proofs.Scanning.{fold_here}
use Rattle.fields.proofs.line.fold_start.Goals as goal

pub returns-in-13 : goal.returns-in-13
returns-in-13 c = sym (fold_here c.args.s.now (omega (arith, ltb-false)) (omega (arith, tests)) (omega (arith, tests)) (sym c.if-holds.ensures))
