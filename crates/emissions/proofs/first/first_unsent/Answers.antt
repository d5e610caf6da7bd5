use mathlib.Core.Path.{◌≡◌, sym, ◌∙◌}
use mathlib.Core.Bool.{true, false}
use Rattle.std.specs.Prelude.{Option, Some, None}
use Rattle.std.specs.Option.{MatchOption, is_some}
use Prim.Native.Nat.{◌+◌}
use native.Mathlib.Omega.{arith}
use borrow.Author.Count.{below_more}
use Rattle.cqf.specs.Limits.{port_slots}
use Rattle.tables.specs.Lent.{plan_lent}
use Rattle.emissions.specs.declared.over.Overrun.{Overrun}
use Rattle.emissions.specs.laws.Burst.{latest_most}
use Rattle.emissions.specs.laws.Over.{none_yet, none_in, first_is, first_last}
use Rattle.emissions.proofs.first.first_unsent.Goals as goal

pub overflow_add-end : goal.overflow_add-end
overflow_add-end c = omega (arith, c.requires.2, latest_most (plan_lent c.args.held.lent) c.args.held.valid c.args.q)

pub loop-c-init : goal.loop-c-init
loop-c-init c = none_yet (plan_lent c.args.held.lent) c.args.duration c.args.q

pub overrun_in-requires : goal.overrun_in-requires
overrun_in-requires c = c.requires

-- what is told of a frame that is left unsent, and of none
told : (r : Option Overrun) (P : Type 0) (Q : Overrun → Type 0) → MatchOption r P Q → is_some r ≡ true → (over : Overrun) × Q over
told (Some over) P Q m e = (over, m)
told None P Q m e = cc

told-none : (r : Option Overrun) (P : Type 0) (Q : Overrun → Type 0) → MatchOption r P Q → is_some r ≡ false → P
told-none (Some over) P Q m e = cc
told-none None P Q m e = m

pub returns-then-is_some : goal.returns-then-is_some
returns-then-is_some c =
    let a = c.args in
    let over = told c.overrun_in.result _ _ c.overrun_in.ensures (sym c.is_some.ensures ∙ c.if-is_some.true) in
    first_is (plan_lent a.held.lent) a.duration a.q c.loop-c.c over.0.slot (omega (arith, c.requires.2)) c.loop-c.invariant (sym over.1.1) over.1.0

pub loop-c-preserved : goal.loop-c-preserved
loop-c-preserved c =
    let a = c.args in
    let none = told-none c.overrun_in.result _ _ c.overrun_in.ensures (sym c.is_some.ensures ∙ c.if-is_some.false) in
    below_more _ _ c.loop-c.invariant (none_in (plan_lent a.held.lent) a.duration a.q c.loop-c.c port_slots (sym none) (λ l. omega (arith, l)))

pub returns : goal.returns
returns c =
    let a = c.args in
    let all : a.latest + 1 ≡ c.loop-c.c = omega arith in
    all ∙ first_last (plan_lent a.held.lent) a.duration a.q c.loop-c.c (omega (arith, all, c.requires.2)) c.loop-c.invariant
