use Rattle.std.proofs.Common.{rules}
use Rattle.address.specs.Paths.{msg_id_exact}
use Rattle.address.proofs.msg_id.read_msg_id.Goals as goal

pub returns-clause-exactly : goal.returns-clause-exactly
returns-clause-exactly c = msg_id_exact c.args.body.at c.args.body.text.now _ (search rules)
