-- `older_field` meets its contract: test 3, and the field by its tag.
use mathlib.Core.Path.{sym, ◌∙◌}
use native.Mathlib.Omega.{arith}
use Rattle.cqf.specs.Form.{older}
use Rattle.plan.specs.Layout.{Kind}
use Rattle.plan.specs.laws.Tested.{tag_known, tag_unknown}
use Rattle.plan.proofs.read.older_field.Goals as goal

pub returns-in-1 : goal.returns-in-1
returns-in-1 c = c.value_of.ensures ∙ sym (tag_known _ _ _ Kind.header _ c.in-1.is)

pub returns-in-2 : goal.returns-in-2
returns-in-2 c = c.value_of-in-2.ensures ∙ sym (tag_known _ _ _ Kind.port _ c.in-2.is)

pub returns-in-3 : goal.returns-in-3
returns-in-3 c = c.value_of-in-3.ensures ∙ sym (tag_known _ _ _ Kind.flow _ c.in-3.is)

pub returns-in-4 : goal.returns-in-4
returns-in-4 c = c.value_of-in-4.ensures ∙ sym (tag_known _ _ _ Kind.extra _ c.in-4.is)

pub returns-in-5 : goal.returns-in-5
returns-in-5 c = c.value_of-in-5.ensures ∙ sym (tag_known _ _ _ Kind.jitter _ c.in-5.is)

pub returns-in-6 : goal.returns-in-6
returns-in-6 c = c.value_of-in-6.ensures ∙ sym (tag_known _ _ _ Kind.clock _ c.in-6.is)

pub returns-in_default : goal.returns-in_default
returns-in_default c = sym (tag_unknown _ _ _ older _ ((λ e. omega arith), ((λ e. omega arith), ((λ e. omega arith), ((λ e. omega arith), ((λ e. omega arith), ((λ e. omega arith), tt)))))))
