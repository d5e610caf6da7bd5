-- A span ends at the duration asked or later, and not above top.
use Rattle.std.proofs.Common.{ℕ, ◌≤◌, ◌≡◌, true, sym, arith, le-leb}
use Rattle.cqf.specs.Bounded.{within}
use Rattle.cqf.specs.Plan.{Plan, valid_plan}
use Rattle.span_lists.specs.Span.{Span}
use Rattle.answers.specs.Answer.{result}
use Rattle.questions.specs.Spans.{span_of, span_answer}
use Rattle.tables.specs.Tables.{plan_of}
use Rattle.tables.specs.declared.Planner.{Planner}
use Rattle.questions.specs.declared.one_span.SpanRecord.{SpanRecord}
use Rattle.questions.specs.laws.Spans.{span_result}
use Rattle.console.specs.laws.Held.{held_top_lem}
use Rattle.spans.proofs.say_spans.Goals as goal

-- where a span ends
ends
    : (p : Plan) (T : ℕ) (s : Span)
    → valid_plan p ≡ true
    → 1 ≤ T
    → T ≤ p.top
    → span_answer p T ≡ result s
    → (T ≤ s.last) × (s.last ≤ p.top)
ends p T s valid low high e =
    let ranged : within 1 p.top T ≡ true = rw (le-leb 1 T low, le-leb T p.top high) in
    let r = (span_result p T valid ranged low s).0 e in
    (r.1, r.0.high)

-- the same of a planner whose plan is valid
further
    : (s : Planner) (T : ℕ) (found : SpanRecord)
    → valid_plan (plan_of s) ≡ true
    → 1 ≤ T
    → T ≤ s.top
    → result (span_of found) ≡ span_answer (plan_of s) T
    → (T ≤ found.last) × (found.last ≤ s.top)
further s T found valid low high e =
    let held = held_top_lem s valid in
    let r = ends (plan_of s) T (span_of found) valid low (omega (arith, held)) (sym e) in
    (r.0, omega (arith, held, r.1))

pub overflow_add-at : goal.overflow_add-at
overflow_add-at g c =
    let r = further c.args.held.planner c.loop-at.at c.in-Ok.span c.args.held.valid c.loop-at.invariant c.loop-at-test.true c.in-Ok.ensures.answers in
    record { fits = omega (arith, r.1) }

pub loop-at-smaller : goal.loop-at-smaller
loop-at-smaller g c =
    let r = further c.args.held.planner c.loop-at.at c.in-Ok.span c.args.held.valid c.loop-at.invariant c.loop-at-test.true c.in-Ok.ensures.answers in
    omega (arith, r.0, r.1)
