use Rattle.std.proofs.Common.{sym, ◌∙◌, arith, ltb-false, ltb-true}
use Rattle.texts.proofs.Trimming.{trim_more, trim_done, trim_none}
use Rattle.texts.proofs.text.trimmed.Goals as goal

pub loop-text-preserved : goal.loop-text-preserved
loop-text-preserved c = sym (trim_more c.loop-text.text.now (omega (arith, ltb-false)) (sym c.if-is_blank.ensures)) ∙ c.loop-text.invariant

pub returns-then-text-lt1 : goal.returns-then-text-lt1
returns-then-text-lt1 c = sym (trim_none c.loop-text.text.now (omega (arith, ltb-true))) ∙ c.loop-text.invariant

pub returns-else-is_blank : goal.returns-else-is_blank
returns-else-is_blank c = sym (trim_done c.loop-text.text.now (omega (arith, ltb-false)) (sym c.if-is_blank.ensures)) ∙ c.loop-text.invariant
