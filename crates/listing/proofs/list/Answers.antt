use Rattle.std.proofs.Common.{map, ap}
use Rattle.std.proofs.lemmas.Result.{err_from_is_err_and}
use Rattle.fields.specs.Seen.{placed_field}
use Rattle.listing.specs.Kept.{roomy}
use Rattle.listing.proofs.Keeping.{list_is, refusal_is, listed_exactly}
use Rattle.listing.proofs.list.Goals as goal

pub returns-in_err-with_capacity : goal.returns-in_err-with_capacity
returns-in_err-with_capacity c =
    record {
      holds = let p = err_from_is_err_and c.from_residual.result c.from_residual.ensures.1 in rw (p.1, p.2) tt;
      exactly = listed_exactly c.args.form c.args.input.now;
    }

pub returns-in_err-fields : goal.returns-in_err-fields
returns-in_err-fields c =
    let empty = c.in_ok-with_capacity.field-0 in
    let made = c.in_ok-with_capacity.ensures in
    record {
      holds =
          let p = err_from_is_err_and c.from_residual-in_err-fields.result c.from_residual-in_err-fields.ensures.1 in
          rw (p.1, p.2) (refusal_is (roomy (record { fields = empty })) c.args.form c.args.input.now (ap (map placed_field) made.items) made.capacity c.in_err-fields.field-0.0 c.in_err-fields.ensures.walks);
      exactly = listed_exactly c.args.form c.args.input.now;
    }

pub returns : goal.returns
returns c =
    let empty = c.in_ok-with_capacity.field-0 in
    let made = c.in_ok-with_capacity.ensures in
    record {
      holds = list_is (roomy (record { fields = empty })) c.args.form c.args.input.now (ap (map placed_field) made.items) made.capacity (roomy c.in_ok-fields.field-0) c.in_ok-fields.ensures.walks;
      exactly = listed_exactly c.args.form c.args.input.now;
    }
