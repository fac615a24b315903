use Rattle.std.proofs.Common.{◌||◌, sym, subst, arith, tests, ltb-false}
use Rattle.std.specs.Option.{option_map}
use Rattle.mime.specs.Kinds.{some, reports}
use Rattle.mime.specs.Reads.{parameters_of}
use Rattle.mime.specs.Seen.{read}
use Rattle.mime.proofs.Finding.{Found, finding_start, found_on}
use Rattle.mime.proofs.content.read_parameters.Goals as goal

pub loop-rest-init : goal.loop-rest-init
loop-rest-init c = finding_start c.args.s.now

on : (c : goal.After-rest-1) → Found (c.loop-rest.found || c.says_notification-found.result) c.loop-rest.rest.now c.in_ok-p.p.rest.now (option_map (some reports) (parameters_of c.args.s.now))
on c =
    subst (λ b. Found (c.loop-rest.found || b) c.loop-rest.rest.now c.in_ok-p.p.rest.now (option_map (some reports) (parameters_of c.args.s.now))) (sym c.says_notification-found.ensures)
    (found_on c.loop-rest.found _ c.loop-rest.rest.now c.loop-rest.invariant (omega (arith, ltb-false)) (omega (arith, tests)) (read c.in_ok-p.p) (sym c.in_ok-p.ensures))

pub loop-rest-smaller : goal.loop-rest-smaller
loop-rest-smaller c = (on c).less

pub loop-rest-preserved : goal.loop-rest-preserved
loop-rest-preserved c = (on c).goes
