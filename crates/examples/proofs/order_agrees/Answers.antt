use Rattle.std.proofs.Common.{arith}
use Rattle.std.proofs.lemmas.Grind.{common_steps}
use Rattle.examples.proofs.Stars.{agrees_told}
use Rattle.examples.proofs.order_agrees.Goals as goal

pub returns : goal.returns
returns c = grind (arith, common_steps, agrees_told c.read_header.result c.read_header.ensures.answers)
