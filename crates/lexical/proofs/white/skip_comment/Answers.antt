use Rattle.std.proofs.Common.{sym, ◌∙◌, arith, tests, ltb-false}
use Rattle.lexical.specs.Comments.{behind_comment, comment_exact}
use Rattle.lexical.proofs.white.skip_comment.Goals as goal

pub returns-in-40 : goal.returns-in-40
returns-in-40 c =
    let e = c.comment.ensures ∙ sym (behind_comment c.args.s.now (omega (arith, ltb-false)) (omega (arith, tests))) in
    record { leaves = e; exactly = comment_exact c.args.s.now _ e }
