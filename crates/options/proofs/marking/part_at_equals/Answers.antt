use Rattle.std.proofs.Common.{rules, ap, ◌∙◌}
use Rattle.std.specs.Option.{option_map}
use Rattle.options.specs.Reads.{sides}
use Rattle.options.proofs.Halving.{sides_nowhere, sides_at}
use Rattle.options.proofs.marking.part_at_equals.Goals as goal

pub returns-in_err-at : goal.returns-in_err-at
returns-in_err-at c = ap (option_map sides) c.from_residual.ensures ∙ sides_nowhere c.args.s.now (search rules)

pub returns : goal.returns
returns c = sides_at c.args.s.now c.in_ok-at.at (search rules) (search rules) (search rules)
