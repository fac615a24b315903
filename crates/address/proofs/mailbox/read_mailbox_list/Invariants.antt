use Rattle.address.proofs.Lists.{Counting}
use Rattle.address.proofs.mailbox.read_mailbox_list.Given as goal

abbrev pub invariant-loop : goal.invariant-loop
invariant-loop l = Counting l.body l.rest l.counter
