use Rattle.std.proofs.Common.{rules, ◌≡◌, ◌+◌, ◌-◌, ◌∷◌, length, take, drop, Some, None, Err, sym, ap, ◌∙◌, ⊎_elim, arith, length-drop}
use Rattle.std.proofs.lemmas.List.{take_at, take_rest, nil_from_length}
use Rattle.fields.specs.Classes.{ftext, front, behind}
use Rattle.fields.specs.Fields.{fault, stop}
use Rattle.fields.specs.Scans.{past_colon, line_end, fold_start, fold_end, found}
use Rattle.fields.specs.Walks.{meaning}
use Rattle.fields.specs.Limits.{longest_line}
use Rattle.fields.proofs.Opening.{fault_no_colon, named_is, named_length, room_left, fault_named, fault_long, fault_line, opened}
use Rattle.fields.proofs.Folding.{fold_size, fold_less, folded, text_size, end_size, fault_fold, told_as}
use Rattle.fields.proofs.field.read_field.Goals as goal

pub returns-in_err-text-clause-found : goal.returns-in_err-text-clause-found
returns-in_err-text-clause-found c form n =
    let e : c.from_residual.result ≡ Err (record { byte = c.args.from.at }) = search rules in
    let none : past_colon (behind ftext c.args.from.text.now) ≡ None = search rules in
    fault_no_colon form c.args.from.at c.args.from.text.now n none ∙ ap (λ r. found form (meaning Some r)) (sym e)

pub overflow_sub-used : goal.overflow_sub-used
overflow_sub-used c =
    let at = c.args.from.at in
    let s = c.args.from.text.now in
    let text = c.in_ok-text.text.now in
    let colon : past_colon (behind ftext s) ≡ Some text = search rules in
    omega (arith, named_length at s text colon)

pub returns-then-used-eq1-clause-found : goal.returns-then-used-eq1-clause-found
returns-then-used-eq1-clause-found c form n =
    let at = c.args.from.at in
    let s = c.args.from.text.now in
    let text = c.in_ok-text.text.now in
    let colon : past_colon (behind ftext s) ≡ Some text = search rules in
    let size = named_length at s text colon in
    ⊎_elim
    (λ e. fault_named at s text colon (λ t u us _ _. nil_from_length (front ftext s) (omega arith)) form)
    (λ e. fault_long at s text colon (omega arith) form)
    c.then-used-eq1.either

pub returns-in_err-end-clause-found : goal.returns-in_err-end-clause-found
returns-in_err-end-clause-found c form n =
    let at = c.args.from.at in
    let s = c.args.from.text.now in
    let text = c.in_ok-text.text.now in
    let colon : past_colon (behind ftext s) ≡ Some text = search rules in
    let none : None ≡ line_end (longest_line - (length s - length text)) text = search rules in
    let e : c.from_residual-in_err-end.result ≡ Err (record { byte = at }) = search rules in
    fault_line at s text colon (room_left at s text colon None none) form ∙ ap (λ r. found form (meaning Some r)) (sym e)

pub loop-line-init : goal.loop-line-init
loop-line-init c =
    let at = c.args.from.at in
    let s = c.args.from.text.now in
    let text = c.in_ok-text.text.now in
    let colon : past_colon (behind ftext s) ≡ Some text = search rules in
    let size = named_length at s text colon in
    let end = c.in_ok-end.end.now in
    let some : Some end ≡ line_end (longest_line - (length s - length text)) text = search rules in
    opened at s text end colon (omega arith) (omega arith) (room_left at s text colon (Some end) some)

pub overflow_sub-byte : goal.overflow_sub-byte
overflow_sub-byte c =
    let at = c.args.from.at in
    let s = c.args.from.text.now in
    let text = c.in_ok-text.text.now in
    let colon : past_colon (behind ftext s) ≡ Some text = search rules in
    let end = c.loop-line.end.now in
    let o = c.loop-line.invariant in
    let line = c.in-Some.line.now in
    let folds : Some line ≡ fold_start end = search rules in
    omega (arith, named_length at s text colon, text_size at s text end o, fold_size end line folds)

pub overflow_sub-byte-in-Some : goal.overflow_sub-byte-in-Some
overflow_sub-byte-in-Some c =
    let at = c.args.from.at in
    let s = c.args.from.text.now in
    let text = c.in_ok-text.text.now in
    let colon : past_colon (behind ftext s) ≡ Some text = search rules in
    let end = c.loop-line.end.now in
    let o = c.loop-line.invariant in
    let line = c.in-Some.line.now in
    let folds : Some line ≡ fold_start end = search rules in
    omega (arith, named_length at s text colon, text_size at s text end o, fold_size end line folds)

pub returns-in_err-end-2-clause-found : goal.returns-in_err-end-2-clause-found
returns-in_err-end-2-clause-found c form n =
    let at = c.args.from.at in
    let s = c.args.from.text.now in
    let text = c.in_ok-text.text.now in
    let colon : past_colon (behind ftext s) ≡ Some text = search rules in
    let end = c.loop-line.end.now in
    let o = c.loop-line.invariant in
    let line = c.in-Some.line.now in
    let folds : Some line ≡ fold_start end = search rules in
    let none : fold_end line ≡ None = search rules in
    let e : c.from_residual-in_err-end-2.result ≡ Err (record { byte = at + (length s - length line) - 1 }) = search rules in
    let place : at + length (front ftext s) + 1 + length o.body + 2 ≡ at + (length s - length line) - 1 = omega (arith, named_length at s text colon, text_size at s text end o, fold_size end line folds) in
    fault_fold at s text end o line (sym folds) none form ∙ ap (λ k. stop (fault k)) place ∙ ap (λ r. found form (meaning Some r)) (sym e)

pub loop-line-smaller : goal.loop-line-smaller
loop-line-smaller c =
    let end = c.loop-line.end.now in
    let o = c.loop-line.invariant in
    let line = c.in-Some.line.now in
    let folds : Some line ≡ fold_start end = search rules in
    let next = c.in_ok-end-2.end.now in
    let ends : Some next ≡ fold_end line = search rules in
    omega (arith, fold_size end line folds, fold_less line next ends)

pub loop-line-preserved : goal.loop-line-preserved
loop-line-preserved c =
    let at = c.args.from.at in
    let s = c.args.from.text.now in
    let text = c.in_ok-text.text.now in
    let colon : past_colon (behind ftext s) ≡ Some text = search rules in
    let end = c.loop-line.end.now in
    let o = c.loop-line.invariant in
    let line = c.in-Some.line.now in
    let folds : Some line ≡ fold_start end = search rules in
    let next = c.in_ok-end-2.end.now in
    let ends : Some next ≡ fold_end line = search rules in
    folded at s text end line next o (sym folds) (sym ends)

pub overflow_sub-name : goal.overflow_sub-name
overflow_sub-name c =
    let at = c.args.from.at in
    let s = c.args.from.text.now in
    let text = c.in_ok-text.text.now in
    let colon : past_colon (behind ftext s) ≡ Some text = search rules in
    omega (arith, named_length at s text colon)

pub overflow_sub-rest : goal.overflow_sub-rest
overflow_sub-rest c =
    let at = c.args.from.at in
    let s = c.args.from.text.now in
    let text = c.in_ok-text.text.now in
    let colon : past_colon (behind ftext s) ≡ Some text = search rules in
    let end = c.loop-line.end.now in
    let o = c.loop-line.invariant in
    omega (arith, named_length at s text colon, text_size at s text end o)

pub overflow_add-rest-2 : goal.overflow_add-rest-2
overflow_add-rest-2 c =
    let at = c.args.from.at in
    let s = c.args.from.text.now in
    let text = c.in_ok-text.text.now in
    let colon : past_colon (behind ftext s) ≡ Some text = search rules in
    let end = c.loop-line.end.now in
    let o = c.loop-line.invariant in
    omega (arith, named_length at s text colon, text_size at s text end o, end_size at s text end o)

pub returns-clause-found : goal.returns-clause-found
returns-clause-found c form n =
    let at = c.args.from.at in
    let s = c.args.from.text.now in
    let text = c.in_ok-text.text.now in
    let colon : past_colon (behind ftext s) ≡ Some text = search rules in
    let size = named_length at s text colon in
    let end = c.loop-line.end.now in
    let o = c.loop-line.invariant in
    let body-size = text_size at s text end o in
    let rest-size = end_size at s text end o in
    let no-fold : fold_start end ≡ None = search rules in
    told_as at s text end o no-fold _ _ _ _ _
    (ap (take _) (named_is at s text colon) ∙ take_at (front ftext s) (58 ∷ text) _ (omega arith))
    (ap (take _) o.text_is ∙ take_at o.body end _ (omega arith))
    (take_rest end 2 ∙ ap (drop 2) o.end_is)
    (omega arith)
    (omega arith)
    form

pub returns-clause-ahead : goal.returns-clause-ahead
returns-clause-ahead c =
    let at = c.args.from.at in
    let s = c.args.from.text.now in
    let text = c.in_ok-text.text.now in
    let colon : past_colon (behind ftext s) ≡ Some text = search rules in
    let size = named_length at s text colon in
    let end = c.loop-line.end.now in
    let o = c.loop-line.invariant in
    let body-size = text_size at s text end o in
    let rest-size = end_size at s text end o in
    let left : length (take (length end - 2) (drop 2 end)) ≡ length end - 2 = ap length (take_rest end 2) ∙ length-drop 2 end in
    (omega arith, omega arith)
