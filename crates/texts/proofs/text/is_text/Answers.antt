use Rattle.std.proofs.Common.{sym, refl, ◌∙◌}
use Rattle.texts.proofs.Folded.{past_skip, past_fold, past_less, past_all}
use Rattle.texts.proofs.text.is_text.Goals as goal

pub loop-line-init : goal.loop-line-init
loop-line-init c = past_skip c.args.s.now c.args.s.now _ refl c.skip-rest.ensures

pub loop-line-smaller : goal.loop-line-smaller
loop-line-smaller c = past_less c.loop-line.rest.now c.in-Some.line.now _ c.in-Some.ensures c.skip-rest-in-Some.ensures

pub loop-line-preserved : goal.loop-line-preserved
loop-line-preserved c =
    past_skip c.args.s.now c.in-Some.line.now _ (sym (past_fold c.loop-line.rest.now c.in-Some.line.now c.in-Some.ensures) ∙ c.loop-line.invariant.0) c.skip-rest-in-Some.ensures

pub returns : goal.returns
returns c = c.is_empty.ensures ∙ past_all c.args.s.now c.loop-line.rest.now c.loop-line.invariant (sym c.in_default.ensures)
