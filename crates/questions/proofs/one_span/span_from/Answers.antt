-- `questions::one_span::span_from` meets its contract: the run that holds the least admissible duration from the one asked for on.
use mathlib.Core.Path.{◌≡◌, sym, ap, subst, ◌∙◌}
use mathlib.Core.Bool.{true}
use Prim.Native.Nat.{ℕ, ◌≤◌}
use native.Mathlib.Omega.{arith}
use Rattle.cqf.specs.Condition.{admissible}
use Rattle.cqf.specs.Need.{least_from}
use Rattle.cqf.proofs.laws.LeastFrom.{least_from_admissible}
use Rattle.span_lists.specs.Span.{last_from}
use Rattle.span_lists.specs.laws.Runs.{last_high, last_from_lem}
use Rattle.tables.specs.Lent.{plan_lent}
use Rattle.questions.specs.Run.{FirstOf}
use Rattle.questions.specs.laws.Spans.{next-none, next_above, next-found, is_none, is_some}
use Rattle.questions.proofs.one_span.span_from.Goals as goal

pub returns-then-limit-duration : goal.returns-then-limit-duration
returns-then-limit-duration c = is_none (next_above (plan_lent c.args.held.lent) c.args.duration c.requires (omega (arith, c.if-limit-duration.true)))

pub returns-then-limit-start : goal.returns-then-limit-start
returns-then-limit-start c =
    is_none (next-none (plan_lent c.args.held.lent) c.args.duration c.requires (omega (arith, c.first_from-start.ensures, c.if-limit-start.true)))

pub first_of-first-requires-clause-range : goal.first_of-first-requires-clause-range
first_of-first-requires-clause-range c =
    let p = plan_lent c.args.held.lent in
    let T = c.args.duration in
    let upto : least_from p T ≤ p.top = omega (arith, c.first_from-start.ensures, c.if-limit-start.false) in
    (c.requires, omega (arith, c.first_from-start.ensures, (least_from_admissible p T c.requires upto).from), omega (arith, c.if-limit-start.false), c.first_from-start.auto.out)

pub first_of-first-requires-clause-start_value : goal.first_of-first-requires-clause-start_value
first_of-first-requires-clause-start_value c =
    let p = plan_lent c.args.held.lent in
    let T = c.args.duration in
    let upto : least_from p T ≤ p.top = omega (arith, c.first_from-start.ensures, c.if-limit-start.false) in
    subst (λ (t : ℕ). admissible p t ≡ true) (sym c.first_from-start.ensures) (least_from_admissible p T c.requires upto).good

pub last_from-last-requires-clause-start_value : goal.last_from-last-requires-clause-start_value
last_from-last-requires-clause-start_value c =
    let p = plan_lent c.args.held.lent in
    let T = c.args.duration in
    let upto : least_from p T ≤ p.top = omega (arith, c.first_from-start.ensures, c.if-limit-start.false) in
    subst (λ (t : ℕ). admissible p t ≡ true) (sym c.first_from-start.ensures) (least_from_admissible p T c.requires upto).good

pub returns : goal.returns
returns c =
    let p = plan_lent c.args.held.lent in
    let T = c.args.duration in
    let first = c.first_of-first.result in
    let is = c.first_from-start.ensures in
    let upto : least_from p T ≤ p.top = omega (arith, is, c.if-limit-start.false) in
    let a = least_from_admissible p T c.requires upto in
    let from : FirstOf p T (least_from p T) first = subst (λ (t : ℕ). FirstOf p T t first) is c.first_of-first.ensures in
    let last : c.last_from-last.result ≡ last_from p (least_from p T) = c.last_from-last.ensures ∙ ap (last_from p) is in
    let later = last_from_lem p (least_from p T) (omega (arith, c.requires, a.from)) upto a.good in
    is_some (ap (λ (l : ℕ). record { first = first; last = l }) last ∙ sym (next-found p T c.requires first upto from))
    (omega (arith, last, later, a.from, c.requires)) (omega (arith, last, last_high p (least_from p T)))
