use Rattle.std.proofs.Common.{◌≤◌, length, get_or, sym, refl, ap, ◌∙◌, subst, arith, ltb-false}
use Rattle.abnf.specs.Classes.{qtext}
use Rattle.abnf.proofs.Operators.{differs}
use Rattle.abnf.proofs.Turns.{Going, Turned}
use Rattle.lexical.specs.Reads.{fws, content, no_comment, quoted_rest}
use Rattle.lexical.specs.Contents.{past_plain, past_pair}
use Rattle.lexical.specs.Quoting.{quoted_run}
use Rattle.lexical.proofs.quoted.skip_quoted.Goals as goal
use Rattle.lexical.proofs.quoted.skip_quoted.Goals.{in-92+in_ok-next-in-92, in_default-b}

pub loop-rest-init : goal.loop-rest-init
loop-rest-init c = subst (λ r. Going (content 34 qtext no_comment) r (quoted_rest c.args.s.now)) (sym c.skip_fws-rest.ensures) (quoted_run c.args.s.now)

turned : (c : goal.After-skip_fws-rest-in-len1-up) → Turned (content 34 qtext no_comment) c.loop-rest.rest.now c.skip_fws-rest-in-len1-up.result.now (quoted_rest c.args.s.now)
turned c =
    let s = c.loop-rest.rest.now in
    let some : 1 ≤ length s = omega (arith, ltb-false) in
    let whole = quoted_rest c.args.s.now in
    let left = c.skip_fws-rest-in-len1-up.ensures in
    elim c.match-b.branch [
      | in-92+in_ok-next-in-92 w ↦ subst (λ u. Turned (content 34 qtext no_comment) s u whole) (sym (left ∙ ap (λ r. fws r.now) w.next-is)) (past_pair 34 qtext no_comment whole s c.loop-rest.invariant some w.in_ok-next-in-92.next.now refl refl w.in-92.is (sym w.in_ok-next-in-92.ensures))
      | in_default-b w ↦ let e = sym w.if-holds.ensures in subst (λ u. Turned (content 34 qtext no_comment) s u whole) (sym (left ∙ ap (λ r. fws r.now) w.next-is)) (past_plain 34 qtext no_comment whole s c.loop-rest.invariant some (differs qtext 34 (get_or s 0 0) refl e) e)
    ]

pub loop-rest-smaller : goal.loop-rest-smaller
loop-rest-smaller c = (turned c).less

pub loop-rest-preserved : goal.loop-rest-preserved
loop-rest-preserved c = (turned c).goes
