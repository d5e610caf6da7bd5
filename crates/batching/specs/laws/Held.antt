-- A planner that is lent under the top that its form allows is asked about its plan.
use Rattle.std.specs.Prelude.{ℕ, ◌≡◌}
use Rattle.std.proofs.Common.{ap, ◌∙◌}
use Rattle.answers.specs.Answer.{Answer}
use Rattle.cqf.specs.Form.{held_top}
use Rattle.questions.specs.FixedPoint.{FixedPoint, fixed_point_answer}
use Rattle.tables.specs.Lent.{plan_lent, LentOf}
use Rattle.tables.specs.Tables.{plan_of}
use Rattle.tables.specs.declared.Planner.{Planner}
use Rattle.tables.specs.declared.lending.Lent.{Lent}

lent_held : (t : Planner) (l : Lent) → LentOf t l → plan_lent (record l { top = held_top t.form t.hops t.top }) ≡ plan_of t
lent_held t l e =
    rw (e.guard, e.clock, e.rates, e.blockings, e.extras, e.periods, e.counts, e.lengths, e.jitters, e.hops, e.routes)

pub asked
    : (t : Planner) (l asks : Lent) (top d n : ℕ) {answer : Answer FixedPoint}
    → LentOf t l
    → top ≡ held_top t.form t.hops t.top
    → asks ≡ record l { top = top }
    → answer ≡ fixed_point_answer (plan_lent asks) d n
    → answer ≡ fixed_point_answer (plan_of t) d n
asked t l asks top d n lent held is told =
    told ∙ ap (λ p. fixed_point_answer p d n) (rw (is, held) (lent_held t l lent))
