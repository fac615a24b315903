use Rattle.std.proofs.Common.{sym, subst, arith}
use Rattle.std.proofs.lemmas.Grind.{common_steps}
use Rattle.address.specs.Seen.{addr, listing}
use Rattle.address.proofs.Lists.{addresses_few}
use Rattle.equality.specs.Distinct.{Classes}
use Rattle.equality.proofs.Counting.{classes, distinct_few, count_more, count_over}
use Rattle.equality.proofs.Numbers.{one_number}
use Rattle.equality.proofs.distinct.Goals as goal

pub loop-address-preserved : goal.loop-address-preserved
loop-address-preserved c = count_more c.loop-address.count _ _ (listing c.next.new.self) (listing c.args.list) (addr c.in-Some.address) c.loop-address.invariant c.in-Some.ensures.steps (grind (arith, common_steps))

pub overflow_add-count : goal.overflow_add-count
overflow_add-count c = omega (arith, loop-address-preserved c, distinct_few (listing c.args.list), addresses_few c.args.list.text.now, c.ranges.list.0)

pub returns : goal.returns
returns c =
    let e = count_over c.loop-address.count (listing c.loop-address.list) (listing c.args.list) c.loop-address.invariant c.in_default.ensures.steps.0 in
    let all = subst (Classes (listing c.args.list)) (sym e) (classes (listing c.args.list)) in
    record { counted = e; classes = all; alone = λ n h. one_number (listing c.args.list) n c.loop-address.count h all }
