use Rattle.lexical.specs.Comments.{cfws_told, cfws_exact}
use Rattle.lexical.proofs.white.skip_cfws.Goals as goal

pub returns : goal.returns
returns c = let e = cfws_told c.args.s.now c.skip_fws.result.now _ c.skip_fws.ensures c.skip_comments.ensures in record { leaves = e; exactly = cfws_exact c.args.s.now _ e }
