use Rattle.std.proofs.Common.{sym, ap, ◌∙◌, subst, arith, tests, ltb-false}
use Rattle.std.specs.Option.{option_map}
use Rattle.abnf.proofs.Turns.{going_run, Turned}
use Rattle.lexical.specs.Reads.{comments, comments_behind}
use Rattle.lexical.specs.Comments.{past_comment, open_comment}
use Rattle.lexical.proofs.white.skip_comments.Goals as goal

pub loop-rest-init : goal.loop-rest-init
loop-rest-init c = going_run comments c.args.s.now

pub returns-in_err-skip_comment : goal.returns-in_err-skip_comment
returns-in_err-skip_comment c =
    ap (option_map (λ x. x.now)) c.from_residual.ensures
    ∙ open_comment _ c.loop-rest.rest.now c.loop-rest.invariant (omega (arith, ltb-false)) (omega (arith, tests)) (sym c.in_err-skip_comment.ensures.leaves)

turned : (c : goal.After-skip_fws-rest) → Turned comments c.loop-rest.rest.now c.skip_fws-rest.result.now (comments_behind c.args.s.now)
turned c =
    subst (λ u. Turned comments c.loop-rest.rest.now u (comments_behind c.args.s.now)) (sym c.skip_fws-rest.ensures)
    (past_comment _ c.loop-rest.rest.now c.loop-rest.invariant (omega (arith, ltb-false)) (omega (arith, tests)) c.in_ok-skip_comment.field-0.now (sym c.in_ok-skip_comment.ensures.leaves))

pub loop-rest-smaller : goal.loop-rest-smaller
loop-rest-smaller c = (turned c).less

pub loop-rest-preserved : goal.loop-rest-preserved
loop-rest-preserved c = (turned c).goes
