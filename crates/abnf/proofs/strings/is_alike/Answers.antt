use Rattle.std.proofs.cmp.Tests.{cases_from_iff}
use Rattle.abnf.proofs.Spelling.{alike_told}
use Rattle.abnf.proofs.strings.is_alike.Goals as goal

pub returns : goal.returns
returns c = alike_told _ c.args.text.now c.args.known.now (cases_from_iff c.eq_ignore_ascii_case.ensures.test)
