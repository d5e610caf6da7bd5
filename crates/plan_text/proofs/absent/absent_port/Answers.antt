-- `absent_port` meets its contract, by whether the port at the place is in the plan.
use Rattle.std.proofs.Common.{ℕ, suc, ◌≡◌, ◌+◌, ◌-◌, ◌<◌, false, List, sym, ap, ◌∙◌, arith, get_or}
use Rattle.cqf.specs.Plan.{port_in}
use Rattle.cqf.specs.Bounded.{sublist}
use Rattle.plan_text.specs.Text.{missing}
use Rattle.plan_text.specs.laws.Absent.{missing_here, missing-next, missing-none}
use Rattle.plan_text.proofs.absent.absent_port.Goals as goal

-- the port at the place is not in the plan
told
    : (rates routes : List ℕ) (base hops i : ℕ)
    → i < hops
    → missing rates (sublist routes base hops) ≡ missing rates (sublist routes (base + i) (hops - i))
    → port_in rates (get_or routes (base + i) 0) ≡ false
    → missing rates (sublist routes base hops) ≡ get_or routes (base + i) 0
told rates routes base hops i less so_far out =
    let left : hops - i ≡ suc (hops - (i + 1)) = omega arith in
    so_far ∙ ap (λ (h : ℕ). missing rates (sublist routes (base + i) h)) left ∙ missing_here rates routes (base + i) (hops - (i + 1)) out

pub returns-then-port-eq0-clause-named : goal.returns-then-port-eq0-clause-named
returns-then-port-eq0-clause-named c =
    let a = c.args in
    sym (told a.tables.now.rates a.tables.now.routes a.base a.hops c.loop-i.i c.loop-i-test.true c.loop-i.invariant (sym c.has_port.ensures ∙ c.if-not-has_port.true)
    ∙ c.if-port-eq0.true)

pub returns-else-port-eq0-clause-named : goal.returns-else-port-eq0-clause-named
returns-else-port-eq0-clause-named c =
    let a = c.args in
    sym (told a.tables.now.rates a.tables.now.routes a.base a.hops c.loop-i.i c.loop-i-test.true c.loop-i.invariant (sym c.has_port.ensures ∙ c.if-not-has_port.true))

pub loop-i-preserved : goal.loop-i-preserved
loop-i-preserved c =
    let a = c.args in
    let i = c.loop-i.i in
    let left : a.hops - i ≡ suc (a.hops - (i + 1)) = omega (arith, c.loop-i-test.true) in
    c.loop-i.invariant
    ∙ ap (λ (h : ℕ). missing a.tables.now.rates (sublist a.tables.now.routes (a.base + i) h)) left
    ∙ missing-next a.tables.now.rates a.tables.now.routes (a.base + i) (a.hops - (i + 1)) (sym c.has_port.ensures ∙ c.if-not-has_port.false)
    ∙ ap (λ (k : ℕ). missing a.tables.now.rates (sublist a.tables.now.routes k (a.hops - (i + 1)))) (omega arith)

pub returns-clause-named : goal.returns-clause-named
returns-clause-named c =
    let a = c.args in
    let none : a.hops - c.loop-i.i ≡ 0 = omega (arith, c.loop-i-test.false) in
    sym (c.loop-i.invariant
    ∙ ap (λ (h : ℕ). missing a.tables.now.rates (sublist a.tables.now.routes (a.base + c.loop-i.i) h)) none
    ∙ missing-none a.tables.now.rates a.tables.now.routes (a.base + c.loop-i.i))
