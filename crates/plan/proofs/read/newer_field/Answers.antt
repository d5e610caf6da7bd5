-- `newer_field` meets its contract: test 3, and the field by its tag.
use mathlib.Core.Path.{sym, ◌∙◌}
use native.Mathlib.Omega.{arith}
use Rattle.cqf.specs.Form.{newer}
use Rattle.plan.specs.Layout.{Kind}
use Rattle.plan.specs.laws.Tested.{tag_known, tag_unknown}
use Rattle.plan.proofs.read.newer_field.Goals as goal

pub returns-in-17 : goal.returns-in-17
returns-in-17 c = c.value_of.ensures ∙ sym (tag_known _ _ _ Kind.header2 _ c.in-17.is)

pub returns-in-18 : goal.returns-in-18
returns-in-18 c = c.value_of-in-18.ensures ∙ sym (tag_known _ _ _ Kind.port2 _ c.in-18.is)

pub returns-in-19 : goal.returns-in-19
returns-in-19 c = c.value_of-in-19.ensures ∙ sym (tag_known _ _ _ Kind.flow2 _ c.in-19.is)

pub returns-in_default : goal.returns-in_default
returns-in_default c = sym (tag_unknown _ _ _ newer _ ((λ e. omega arith), ((λ e. omega arith), ((λ e. omega arith), tt))))
