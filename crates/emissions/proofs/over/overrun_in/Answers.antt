-- `overrun_in` meets its contract: what each port must send is what the definition says.
use mathlib.Core.Path.{refl, sym, ap, ◌∙◌}
use Prim.Native.Nat.{ℕ}
use native.Mathlib.Omega.{arith}
use Rattle.cqf.specs.Bounded.{lowest, tabulate}
use Rattle.cqf.specs.Limits.{port_slots}
use Rattle.cqf.proofs.laws.Tabulate.{tabulate-at}
use Rattle.tables.specs.Lent.{plan_lent}
use Rattle.questions.specs.Failing.{fails_in}
use Rattle.emissions.specs.laws.Over.{window_most, over_is, each_most}
use Rattle.emissions.proofs.over.overrun_in.Goals as goal

pub cycle_bits-requires : goal.cycle_bits-requires
unfolding tabulate
cycle_bits-requires c = (c.requires.0, c.requires.1, c.requires.2, refl, tabulate-at port_slots (λ r. 0))

pub lowest_over-requires : goal.lowest_over-requires
lowest_over-requires c =
    let a = c.args in
    let p = plan_lent a.held.now.lent in
    let v = a.held.now.valid in (
      omega (arith, c.window-available.ensures, window_most p v a.duration c.requires.0 a.q a.c),
      each_most p v a.duration c.requires.0 a.q a.c c.cycle_bits.new.bits c.cycle_bits.ensures,
    )

pub returns-in_err-slot : goal.returns-in_err-slot
returns-in_err-slot c =
    let a = c.args in
    let l = a.held.now.lent in
    let bits = c.cycle_bits.new.bits in
    let same =
    ap (λ (w : ℕ). lowest port_slots (fails_in l.rates.now l.blockings.now l.extras.now w bits)) c.window-available.ensures
    ∙ over_is (plan_lent l) a.held.now.valid a.duration c.requires.0 a.q a.c bits c.cycle_bits.ensures in
    rw c.from_residual.ensures (sym same ∙ c.in_err-slot.ensures)

pub returns : goal.returns
returns c =
    let a = c.args in
    let l = a.held.now.lent in
    let bits = c.cycle_bits.new.bits in
    let same =
    ap (λ (w : ℕ). lowest port_slots (fails_in l.rates.now l.blockings.now l.extras.now w bits)) c.window-available.ensures
    ∙ over_is (plan_lent l) a.held.now.valid a.duration c.requires.0 a.q a.c bits c.cycle_bits.ensures in
    let found = rw c.in_ok-slot.was at c.lowest_over.ensures in
    (found.0, sym same ∙ found.1, c.cycle_bits.ensures c.in_ok-slot.slot found.0)
