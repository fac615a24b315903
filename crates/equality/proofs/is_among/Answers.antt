use Rattle.std.proofs.Common.{refl, rules, tests}
use Rattle.std.proofs.lemmas.Iterator.Consumers.{YieldsList-from_first}
use Rattle.std.proofs.lemmas.Iterator.Search.{any_from_yields_List}
use Rattle.address.specs.Seen.{addr, listing}
use Rattle.equality.specs.Equality.{same_address}
use Rattle.equality.proofs.is_among.Goals as goal

pub returns : goal.returns
returns c =
    any_from_yields_List (same_address (addr c.args.address)) c.any.new.self _ _ c.any.ensures.ran (YieldsList-from_first addr listing (listing c.args.list) refl) (λ x b q k. search (rules, tests))
