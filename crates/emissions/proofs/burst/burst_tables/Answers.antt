-- `burst_tables` meets its contract: the refusals in their order.
use mathlib.Core.Path.{◌≡◌, sym, ap, ap₂, ◌∙◌}
use mathlib.Core.Bool.{Bool, true, ◌&&◌}
use Prim.Native.Nat.{◌-◌, ◌<◌}
use native.Mathlib.Omega.{arith}
use lib.Dec.{ltb}
use borrow.Author.Tests.{lt-ltb, le-ltb}
use Rattle.cqf.specs.Bounded.{within}
use Rattle.cqf.specs.Limits.{port_ok, flow_ok}
use Rattle.cqf.specs.Plan.{period_of, valid_plan}
use Rattle.tables.specs.Lent.{plan_lent}
use Rattle.answers.specs.Answer.{result}
use Rattle.emissions.specs.laws.Burst.{within_low, within_high, burst-none, burst_out, burst-port, burst_absent, burst-found}
use Rattle.emissions.proofs.burst.burst_tables.Goals as goal

pub returns-in_default : goal.returns-in_default
returns-in_default c = let a = c.args in sym (burst-none (plan_lent a.lent) a.duration a.port a.flow a.k c.in_default.ensures)

pub returns-then-not-between : goal.returns-then-not-between
returns-then-not-between c =
    let a = c.args in
    let p = plan_lent a.lent in
    let valid : valid_plan p ≡ true = rw c.in-Some.ensures at c.in-Some.held.valid in
    let top = rw c.from.ensures at c.between.ensures in
    sym (burst_out p a.duration a.port a.flow a.k valid (sym top ∙ c.if-not-between.true))

pub returns-then-not-between-2 : goal.returns-then-not-between-2
returns-then-not-between-2 c =
    let a = c.args in
    let p = plan_lent a.lent in
    let valid : valid_plan p ≡ true = rw c.in-Some.ensures at c.in-Some.held.valid in
    let top = rw c.from.ensures at c.between.ensures in
    let ranged : within 1 p.top a.duration ≡ true = sym top ∙ c.if-not-between.false in
    sym (burst-port p a.duration a.port a.flow a.k valid ranged (sym c.between-2.ensures ∙ c.if-not-between-2.true))

pub returns-then-not-between-3 : goal.returns-then-not-between-3
returns-then-not-between-3 c =
    let a = c.args in
    let p = plan_lent a.lent in
    let valid : valid_plan p ≡ true = rw c.in-Some.ensures at c.in-Some.held.valid in
    let top = rw c.from.ensures at c.between.ensures in
    let ranged : within 1 p.top a.duration ≡ true = sym top ∙ c.if-not-between.false in
    let ported : port_ok a.port ≡ true = sym c.between-2.ensures ∙ c.if-not-between-2.false in
    sym
    (burst_absent p a.duration a.port a.flow a.k valid ranged ported
    (ap (λ (b : Bool). b && ltb 0 (period_of p (a.flow - 1))) (sym c.between-3.ensures ∙ c.if-not-between-3.true)))

pub overflow_sub-f : goal.overflow_sub-f
overflow_sub-f c =
    let numbered : flow_ok c.args.flow ≡ true = sym c.between-3.ensures ∙ c.if-not-between-3.false in
    omega (arith, within_low 1 256 c.args.flow numbered)

pub bounds-lent-f : goal.bounds-lent-f
bounds-lent-f c =
    let numbered : flow_ok c.args.flow ≡ true = sym c.between-3.ensures ∙ c.if-not-between-3.false in
    omega (arith, within_low 1 256 c.args.flow numbered, within_high 1 256 c.args.flow numbered)

pub returns-then-lent-f-eq0 : goal.returns-then-lent-f-eq0
returns-then-lent-f-eq0 c =
    let a = c.args in
    let p = plan_lent a.lent in
    let valid : valid_plan p ≡ true = rw c.in-Some.ensures at c.in-Some.held.valid in
    let top = rw c.from.ensures at c.between.ensures in
    let ranged : within 1 p.top a.duration ≡ true = sym top ∙ c.if-not-between.false in
    let ported : port_ok a.port ≡ true = sym c.between-2.ensures ∙ c.if-not-between-2.false in
    let numbered : flow_ok a.flow ≡ true = sym c.between-3.ensures ∙ c.if-not-between-3.false in
    sym
    (burst_absent p a.duration a.port a.flow a.k valid ranged ported
    (ap₂ (λ (b d : Bool). b && d) numbered (le-ltb 0 (period_of p (a.flow - 1)) (omega (arith, c.if-lent-f-eq0.true)))))

pub overflow_sub-port : goal.overflow_sub-port
overflow_sub-port c =
    let ported : port_ok c.args.port ≡ true = sym c.between-2.ensures ∙ c.if-not-between-2.false in
    omega (arith, within_low 1 64 c.args.port ported)

pub burst_of-requires : goal.burst_of-requires
burst_of-requires c =
    let a = c.args in
    let p = plan_lent a.lent in
    let valid : valid_plan p ≡ true = rw c.in-Some.ensures at c.in-Some.held.valid in
    let top = rw c.from.ensures at c.between.ensures in
    let ranged : within 1 p.top a.duration ≡ true = sym top ∙ c.if-not-between.false in
    let ported : port_ok a.port ≡ true = sym c.between-2.ensures ∙ c.if-not-between-2.false in
    let numbered : flow_ok a.flow ≡ true = sym c.between-3.ensures ∙ c.if-not-between-3.false in
    let there : 0 < period_of p (a.flow - 1) = omega (arith, c.if-lent-f-eq0.false) in
    rw c.in-Some.ensures (
      within_high _ _ _ ranged,
      omega (arith, within_low 1 64 a.port ported, within_high 1 64 a.port ported),
      omega (arith, within_low 1 256 a.flow numbered, within_high 1 256 a.flow numbered),
      there,
    )

pub returns : goal.returns
returns c =
    let a = c.args in
    let p = plan_lent a.lent in
    let valid : valid_plan p ≡ true = rw c.in-Some.ensures at c.in-Some.held.valid in
    let top = rw c.from.ensures at c.between.ensures in
    let ranged : within 1 p.top a.duration ≡ true = sym top ∙ c.if-not-between.false in
    let ported : port_ok a.port ≡ true = sym c.between-2.ensures ∙ c.if-not-between-2.false in
    let numbered : flow_ok a.flow ≡ true = sym c.between-3.ensures ∙ c.if-not-between-3.false in
    let there : 0 < period_of p (a.flow - 1) = omega (arith, c.if-lent-f-eq0.false) in
    ap result (rw c.in-Some.ensures at c.burst_of.ensures)
    ∙ sym
    (burst-found p a.duration a.port a.flow a.k valid ranged ported
    (ap₂ (λ (b d : Bool). b && d) numbered (lt-ltb 0 (period_of p (a.flow - 1)) there)))
