use Rattle.std.proofs.Common.{rules, sym, arith}
use Rattle.address.specs.Seen.{found}
use Rattle.address.proofs.Lists.{list_exact, last_mailbox, one_counted}
use Rattle.address.proofs.mailbox.read_mailbox_list.Goals as goal

pub returns-then-is_empty : goal.returns-then-is_empty
returns-then-is_empty c =
    let e = last_mailbox c.args.body.now _ _ c.loop.invariant (found c.in_ok-found.found) (sym c.in_ok-found.ensures) (omega arith) (search rules) in
    record { answers = e; exactly = list_exact c.args.body.now _ e }

pub loop-preserved : goal.loop-preserved
loop-preserved c = one_counted c.args.body.now _ _ c.loop.invariant (found c.in_ok-found.found) (sym c.in_ok-found.ensures) c.in_ok-rest.rest.now (sym c.in_ok-rest.ensures)

pub returns-clause-exactly : goal.returns-clause-exactly
returns-clause-exactly c = list_exact c.args.body.now _ (search rules)
