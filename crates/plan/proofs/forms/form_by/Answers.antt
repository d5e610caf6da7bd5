-- `form_by` meets its contract: an empty plan has no first byte.
use mathlib.Core.Path.{sym}
use native.Mathlib.Omega.{arith}
use borrow.Author.Tests.{eq-eqb, ne_eqb}
use lib.ListN.{get_or-eq_default}
use Rattle.plan.specs.Layout.{form_by}
use Rattle.plan.proofs.forms.form_by.Goals as goal

pub returns-in_default : goal.returns-in_default
unfolding form_by
returns-in_default c = sym (rw (get_or-eq_default c.args.plan.now 0 {n = 0} (omega arith)))

pub returns-then-first-eq-HEADER2_TAG : goal.returns-then-first-eq-HEADER2_TAG
unfolding form_by
returns-then-first-eq-HEADER2_TAG c = sym (rw (eq-eqb _ 17 c.if-first-eq-HEADER2_TAG.true))

pub returns-else-first-eq-HEADER2_TAG : goal.returns-else-first-eq-HEADER2_TAG
unfolding form_by
returns-else-first-eq-HEADER2_TAG c = sym (rw (ne_eqb _ 17 c.if-first-eq-HEADER2_TAG.false))
