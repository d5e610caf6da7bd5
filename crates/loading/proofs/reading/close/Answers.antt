-- `close` meets its contract: test 8, then test 9.
use Prim.Native.Nat.{◌<◌}
use mathlib.Core.Path.{◌≡◌, sym, ◌∙◌}
use mathlib.Core.Bool.{true}
use native.Mathlib.Omega.{arith}
use borrow.Author.Tests.{lt-ltb, ltb-true, ltb-false}
use lib.ListN.{get_or}
use Rattle.plan_reading.specs.Key.{header_key}
use Rattle.plan_reading.specs.Draft.{Draft, has_key}
use Rattle.plan_reading.specs.laws.reading.Closing.{close_headless, close_flowless, close_absent, close_accepted}
use Rattle.loading.specs.Loading.{draft_of}
use Rattle.loading.proofs.reading.close.Goals as goal
use Rattle.loading.proofs.reading.close.Goals.{then-tally-eq0-via-then-tally-eq0, then-tally-eq0-via-else-tally-eq0+then-tally-eq0-2}

headed : (d : Draft) → 0 < get_or d.seen header_key 0 → has_key d header_key ≡ true
headed d h = lt-ltb 0 (get_or d.seen header_key 0) h

pub returns-then-tally-eq0 : goal.returns-then-tally-eq0
returns-then-tally-eq0 c = λ decides.
    let a = c.args in
    let d = draft_of a.tables.now a.tally.now in
    elim c.then-tally-eq0.branch [
      | then-tally-eq0-via-then-tally-eq0 w ↦ sym (close_headless a.plan.now d (rw w.if-tally-eq0.true))
      | then-tally-eq0-via-else-tally-eq0+then-tally-eq0-2 w ↦ sym (close_flowless a.plan.now d w.if-tally-eq0-2.true)
    ]

pub returns-then-any_absent : goal.returns-then-any_absent
returns-then-any_absent c = λ decides.
    let a = c.args in
    let d = draft_of a.tables.now a.tally.now in
    rw c.first_absent.ensures
    (sym (close_absent a.plan.now d (headed d (omega (arith, c.if-tally-eq0.false))) c.if-tally-eq0-2.false
    (ltb-true _ _ (sym decides ∙ sym c.any_absent.ensures ∙ c.if-any_absent.true))))

pub returns : goal.returns
returns c = λ decides.
    let a = c.args in
    let d = draft_of a.tables.now a.tally.now in
    sym (close_accepted a.plan.now d (headed d (omega (arith, c.if-tally-eq0.false))) c.if-tally-eq0-2.false
    (ltb-false _ _ (sym decides ∙ sym c.any_absent.ensures ∙ c.if-any_absent.false)))
