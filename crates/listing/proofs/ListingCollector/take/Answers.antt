use Rattle.std.proofs.Common.{vec_items, vec_capacity, arith}
use Rattle.listing.proofs.Keeping.{kept, not_kept}
use Rattle.listing.proofs.ListingCollector.take.Goals as goal

pub returns-then-len-capacity : goal.returns-then-len-capacity
returns-then-len-capacity c =
    let before = c.args.self.now.fields in
    let after = c.push_reserved.new.self in
    let size = before.ok.0 in
    kept (vec_capacity before) (vec_capacity after) (vec_items before) (vec_items after) c.args.field (omega arith) c.push_reserved.ensures.items c.push_reserved.ensures.capacity

pub returns-else-len-capacity : goal.returns-else-len-capacity
returns-else-len-capacity c =
    let before = c.args.self.now.fields in
    let size = before.ok.0 in
    not_kept (vec_capacity before) (vec_items before) c.args.field (omega arith)
