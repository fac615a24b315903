use Rattle.std.proofs.Common.{◌≡◌, arith}
use Rattle.std.proofs.lemmas.Grind.{common_steps}
use Rattle.fields.specs.Walks.{meaning}
use Rattle.header.specs.Facts.{header_of}
use Rattle.header.specs.Seen.{facts_said}
use Rattle.header.proofs.Telling.{says_exactly}
use Rattle.header.proofs.Agreement.{agrees_means}
use Rattle.header.proofs.facts.read_header.Goals as goal

pub returns : goal.returns
unfolding header_of
returns c =
    let e : meaning facts_said c.map.result ≡ header_of c.args.input.now = grind (arith, common_steps) in
    record { answers = e; exactly = says_exactly c.args.input.now _ e; agreement = agrees_means }
