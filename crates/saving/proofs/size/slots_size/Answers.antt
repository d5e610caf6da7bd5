-- `slots_size` meets its contract: a sum of few slots, each of few bytes.
use Prim.Native.Nat.{ℕ, ◌*◌, ◌≤◌, ◌<◌}
use mathlib.Core.Path.{◌≡◌, refl, ap, ◌∙◌}
use native.Mathlib.Omega.{arith}
use Rattle.cqf.specs.Bounded.{sum_to}
use Rattle.cqf.specs.Limits.{flow_slots}
use Rattle.cqf.specs.Plan.{Plan}
use Rattle.cqf.proofs.laws.Bounds.{sum_to_most}
use Rattle.tables.specs.Lent.{plan_lent}
use Rattle.saving.specs.declared.kind.Kind.{Kind}
use Rattle.saving.specs.Slots.{slots_of, slot_size, SlotsInRange}
use Rattle.saving.specs.laws.Sizes.{most_size, slots_few, slot_most, sum_next}
use Rattle.saving.specs.laws.Whole.{valid_range}
use Rattle.saving.proofs.size.slots_size.Goals as goal

-- the sum so far is small
small : (k : Kind) (p : Plan) (i n : ℕ) → SlotsInRange p.extras p.hops → i < slots_of k → n ≡ sum_to i (slot_size k p) → n ≤ flow_slots * most_size
small k p i n range below is =
    omega (arith, is, below, slots_few k, sum_to_most i (slot_size k p) most_size (λ j l. slot_most k p j range (omega (arith, below))))

pub loop-slot-init : goal.loop-slot-init
unfolding sum_to
loop-slot-init c = refl

pub slot_size-size-requires : goal.slot_size-size-requires
slot_size-size-requires c = omega (arith, c.slots-slot-end.ensures)

pub overflow_add-size : goal.overflow_add-size
overflow_add-size c =
    let a = c.args in
    let p = plan_lent a.held.lent in
    let range = valid_range p a.held.valid in
    let i = c.loop-slot.slot in
    let below : i < slots_of a.kind = omega (arith, c.slots-slot-end.ensures) in
    omega (arith, small a.kind p i c.loop-slot.size range below c.loop-slot.invariant, c.slot_size-size.ensures, slot_most a.kind p i range below)

pub loop-slot-preserved : goal.loop-slot-preserved
loop-slot-preserved c =
    let a = c.args in
    let p = plan_lent a.held.lent in
    omega (arith, c.loop-slot.invariant, c.slot_size-size.ensures, sum_next c.loop-slot.slot (slot_size a.kind p))

pub returns : goal.returns
returns c =
    let a = c.args in
    let p = plan_lent a.held.lent in
    let all : c.loop-slot.slot ≡ slots_of a.kind = omega (arith, c.slots-slot-end.ensures) in
    c.loop-slot.invariant ∙ ap (λ (n : ℕ). sum_to n (slot_size a.kind p)) all
