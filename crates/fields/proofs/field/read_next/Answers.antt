use Rattle.std.proofs.Common.{arith, tests, ltb-false}
use Rattle.fields.specs.declared.field.Form.TheVariants.{Header, Report}
use Rattle.fields.proofs.Cutting.{cut_none, cut_empty}
use Rattle.fields.proofs.field.read_next.Goals as goal

pub returns-in-empty-clause-found : goal.returns-in-empty-clause-found
returns-in-empty-clause-found c = cut_none c.args.form c.args.from.at c.args.from.text.now (omega (arith, tests))

pub returns-in-Header-clause-found : goal.returns-in-Header-clause-found
returns-in-Header-clause-found c = cut_empty c.args.form Header c.args.from.at c.args.from.text.now c.in-Header.is (omega (arith, ltb-false)) (omega (arith, tests)) (omega (arith, tests))

pub returns-in-Report-clause-found : goal.returns-in-Report-clause-found
returns-in-Report-clause-found c = cut_empty c.args.form Report c.args.from.at c.args.from.text.now c.in-Report.is (omega (arith, ltb-false)) (omega (arith, tests)) (omega (arith, tests))
