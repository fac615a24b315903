use Rattle.std.proofs.Common.{length, sym, ap, rules}
use Rattle.address.specs.Seen.{found}
use Rattle.address.proofs.Lists.{first_found}
use Rattle.address.proofs.mailbox.MailboxesIterator.next.Goals as goal

pub returns-clause-steps : goal.returns-clause-steps
returns-clause-steps c = rw (first_found c.args.self.now.text.now (found c.in_ok-address.field-0) (sym c.in_ok-address.ensures)) (search rules)

pub returns-clause-goes : goal.returns-clause-goes
returns-clause-goes c = let shorter = ap length (returns-clause-steps c) in search rules
