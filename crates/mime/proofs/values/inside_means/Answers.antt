use Rattle.std.proofs.Common.{ap, rules}
use Rattle.std.specs.Char.{to_ascii_lowercase}
use Rattle.std.proofs.lemmas.Iterator.{YieldsList-from_slice, YieldsList-from_map}
use Rattle.std.proofs.lemmas.Iterator.Consumers.{YieldsList-from_first}
use Rattle.abnf.specs.Strings.{alike}
use Rattle.mime.specs.Values.{between}
use Rattle.mime.specs.Meanings.{meanings}
use Rattle.mime.proofs.Comparing.{eq_gives}
use Rattle.mime.proofs.values.inside_means.Goals as goal

pub returns : goal.returns
unfolding alike
returns c =
    eq_gives _ c.eq.ensures.ran
    (YieldsList-from_map _ to_ascii_lowercase (YieldsList-from_first (λ x. x) meanings (between c.args.s.now) (ap meanings c.map.ensures.source)) c.map.ensures.closure (λ x r q k. search rules))
    (YieldsList-from_map _ to_ascii_lowercase (YieldsList-from_slice c.args.known.now cc) c.map-2.ensures.closure (λ x r q k. search rules))
