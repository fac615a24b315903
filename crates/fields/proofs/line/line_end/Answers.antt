use Rattle.std.proofs.Common.{sym, ap, not, ◌∙◌}
use Rattle.std.proofs.lemmas.List.{take_rest}
use Rattle.std.specs.List.{position}
use Rattle.std.specs.Option.{option_map}
use Rattle.fields.specs.Classes.{plain}
use Rattle.fields.specs.Scans.{crlf_here}
use Rattle.fields.proofs.Scanning.{line_nowhere, line_near}
use Rattle.fields.proofs.line.line_end.Goals as goal

pub returns-in_err-front : goal.returns-in_err-front
returns-in_err-front c = ap (option_map (λ x. x.now)) c.from_residual.ensures ∙ sym (line_nowhere c.args.room c.args.s.now (ap (position (λ b. not (plain b))) (sym c.near.ensures) ∙ sym c.plain_front.ensures ∙ c.in_err-front.was))

pub returns : goal.returns
returns c =
    c.crlf.ensures
    ∙ ap crlf_here (take_rest c.args.s.now c.in_ok-front.front)
    ∙ sym (line_near c.args.room c.args.s.now c.in_ok-front.front (ap (position (λ b. not (plain b))) (sym c.near.ensures) ∙ sym c.plain_front.ensures ∙ c.in_ok-front.was))
