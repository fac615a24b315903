use Rattle.std.proofs.Common.{ℕ, ◌-◌, ◌≤◌, length, get_or, sym, refl, ap, ◌∙◌, subst, arith, ltb-false}
use Rattle.abnf.specs.Classes.{ctext}
use Rattle.abnf.proofs.Operators.{differs}
use Rattle.abnf.proofs.Turns.{Going, Turned}
use Rattle.lexical.specs.Reads.{fws, content, comment_rest}
use Rattle.lexical.specs.Contents.{past_plain, past_pair, past_inner}
use Rattle.lexical.specs.Comments.{comment_starts, comment_shortens}
use Rattle.lexical.proofs.white.+comment.Goals as goal
use Rattle.lexical.proofs.white.+comment.Goals.{in-40+in_ok-next-in-40, in-92+in_ok-next-in-92, in_default-b}

pub loop-rest-init : goal.loop-rest-init
loop-rest-init t c =
    subst (λ r. Going (content 41 ctext (comment_rest (c.args.depth - 1))) r (comment_rest c.args.depth c.args.s.now)) (sym c.skip_fws-rest.ensures)
    (comment_starts c.args.depth c.args.s.now (omega arith))

turned : (t : ℕ) (c : goal.After-skip_fws-rest-in-len1-up t) → Turned (content 41 ctext (comment_rest (c.args.depth - 1))) c.loop-rest.rest.now c.skip_fws-rest-in-len1-up.result.now (comment_rest c.args.depth c.args.s.now)
turned t c =
    let s = c.loop-rest.rest.now in
    let some : 1 ≤ length s = omega (arith, ltb-false) in
    let inner = comment_rest (c.args.depth - 1) in
    let whole = comment_rest c.args.depth c.args.s.now in
    let left = c.skip_fws-rest-in-len1-up.ensures in
    elim c.match-b.branch [
      | in-40+in_ok-next-in-40 w ↦ subst (λ u. Turned (content 41 ctext inner) s u whole) (sym (left ∙ ap (λ r. fws r.now) w.next-is)) (past_inner 41 ctext inner whole s c.loop-rest.invariant some w.in_ok-next-in-40.next.now (comment_shortens (c.args.depth - 1)) refl refl w.in-40.is (sym w.in_ok-next-in-40.ensures))
      | in-92+in_ok-next-in-92 w ↦ subst (λ u. Turned (content 41 ctext inner) s u whole) (sym (left ∙ ap (λ r. fws r.now) w.next-is)) (past_pair 41 ctext inner whole s c.loop-rest.invariant some w.in_ok-next-in-92.next.now refl refl w.in-92.is (sym w.in_ok-next-in-92.ensures))
      | in_default-b w ↦ let e = sym w.if-holds.ensures in subst (λ u. Turned (content 41 ctext inner) s u whole) (sym (left ∙ ap (λ r. fws r.now) w.next-is)) (past_plain 41 ctext inner whole s c.loop-rest.invariant some (differs ctext 41 (get_or s 0 0) refl e) e)
    ]

pub loop-rest-smaller : goal.loop-rest-smaller
loop-rest-smaller t c = (turned t c).less

pub loop-rest-preserved : goal.loop-rest-preserved
loop-rest-preserved t c = (turned t c).goes
