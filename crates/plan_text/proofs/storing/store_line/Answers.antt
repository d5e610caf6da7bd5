-- `store_line` meets its contract, kind by kind: what passed its tests fits the columns.
use Rattle.std.proofs.Common.{◌≡◌, ℕ, Bool, arith, List, get_or, subst, inl, inr}
use Rattle.cqf.specs.Limits.{flow_slots, max_top}
use Rattle.plan_reading.specs.Store.{store_all, store}
use Rattle.plan_reading.specs.laws.fields.Within.{within_low, within_high, slot_below}
use Rattle.plan_text.specs.Line.{form_by}
use Rattle.plan_text.specs.Reading.{numbers_by, Fits}
use Rattle.plan_text.specs.Drafting.{Passed}
use Rattle.plan_text.specs.Text.{added, stored}
use Rattle.plan_text.specs.declared.grammar.Kind.{Kind}
use Rattle.plan_text.specs.laws.Fits.{at_number, guard_fits, top_fits, port_fits, extra_fits, flow_fits, jitter_fits, clocks_fit}
use Rattle.plan_text.proofs.storing.store_line.Goals as goal

-- a line of a known kind
known : {newer : Bool} {k : Kind} {numbers route : List ℕ} → Passed newer k numbers route → (kind : Kind) → k ≡ kind → Fits (form_by newer) kind (numbers_by kind numbers) route
known {newer} {k} {numbers} {route} p kind e = subst (λ (k : Kind). Fits (form_by newer) k (numbers_by k numbers) route) e p.fits

pub overflow_cast-draft : goal.overflow_cast-draft
overflow_cast-draft c =
    record { fits = omega (arith, within_high 0 1000000 (get_or c.args.numbers.now 0 0) (guard_fits (form_by c.args.draft.now.newer) c.args.numbers.now c.args.route.now (known c.requires Kind.Guard c.in-Guard.is))) }

pub overflow_cast-draft-in-Top : goal.overflow_cast-draft-in-Top
overflow_cast-draft-in-Top c =
    record { fits = omega (arith, within_high 1 max_top (get_or c.args.numbers.now 0 0) (top_fits (form_by c.args.draft.now.newer) c.args.numbers.now c.args.route.now (known c.requires Kind.Top c.in-Top.is))) }

pub store_port-requires : goal.store_port-requires
store_port-requires c =
    let f = known c.requires Kind.Port c.in-Port.is in
    let form = form_by c.args.draft.now.newer in
    (c.requires.room, port_fits form c.args.numbers.now c.args.route.now f, extra_fits form c.args.numbers.now c.args.route.now f)

pub slot_of-requires : goal.slot_of-requires
slot_of-requires c =
    (omega (arith, c.requires.room), within_low 1 flow_slots (get_or c.args.numbers.now 0 0) (flow_fits (form_by c.args.draft.now.newer) c.args.numbers.now c.args.route.now (known c.requires Kind.Flow c.in-Flow.is)).number)

pub offset_bounds-draft-slot_of : goal.offset_bounds-draft-slot_of
offset_bounds-draft-slot_of c =
    record { fits = omega (arith, c.slot_of.ensures, slot_below flow_slots (get_or c.args.numbers.now 0 0) (flow_fits (form_by c.args.draft.now.newer) c.args.numbers.now c.args.route.now (known c.requires Kind.Flow c.in-Flow.is)).number) }

pub bounds-draft-slot_of : goal.bounds-draft-slot_of
bounds-draft-slot_of c =
    omega (arith, c.slot_of.ensures, slot_below flow_slots (get_or c.args.numbers.now 0 0) (flow_fits (form_by c.args.draft.now.newer) c.args.numbers.now c.args.route.now (known c.requires Kind.Flow c.in-Flow.is)).number)

pub store_flow-requires : goal.store_flow-requires
store_flow-requires c =
    let f = known c.requires Kind.Flow c.in-Flow.is in
    let form = form_by c.args.draft.now.newer in
    (c.requires.room, flow_fits form c.args.numbers.now c.args.route.now f, jitter_fits form c.args.numbers.now c.args.route.now f, f.ports)

pub clock_of-requires : goal.clock_of-requires
clock_of-requires c = (c.requires.room, clocks_fit (form_by c.args.draft.now.newer) c.args.numbers.now c.args.route.now (known c.requires Kind.Clocks c.in-Clocks.is))

pub returns-in-Format : goal.returns-in-Format
unfolding added stored
returns-in-Format c = rw c.in-Format.is

pub returns-in-Guard : goal.returns-in-Guard
unfolding added stored
returns-in-Guard c = rw c.in-Guard.is (rw (at_number Kind.Guard c.args.numbers.now 0 (omega arith)))

pub returns-in-Top : goal.returns-in-Top
unfolding added stored
returns-in-Top c = rw c.in-Top.is (rw (at_number Kind.Top c.args.numbers.now 0 (omega arith)))

pub returns-in-Port : goal.returns-in-Port
unfolding added stored store_all store
returns-in-Port c =
    let n = c.args.numbers.now in
    rw (c.in-Port.is, c.store_port.ensures)
    (rw (at_number Kind.Port n 0 (omega arith), at_number Kind.Port n 1 (omega arith), at_number Kind.Port n 2 (omega arith), at_number Kind.Port n 3 (omega arith)))

pub returns-in-Flow : goal.returns-in-Flow
unfolding added stored store_all store
returns-in-Flow c =
    let n = c.args.numbers.now in
    rw (c.in-Flow.is, c.store_flow.ensures, c.slot_of.ensures)
    (rw (at_number Kind.Flow n 0 (omega arith), at_number Kind.Flow n 1 (omega arith), at_number Kind.Flow n 2 (omega arith), at_number Kind.Flow n 3 (omega arith), at_number Kind.Flow n 4 (omega arith)))

pub returns-in-Clocks : goal.returns-in-Clocks
unfolding added stored store_all store
returns-in-Clocks c =
    let n = c.args.numbers.now in
    rw (c.in-Clocks.is, c.clock_of.ensures) (rw (at_number Kind.Clocks n 0 (omega arith), at_number Kind.Clocks n 1 (omega arith), at_number Kind.Clocks n 2 (omega arith)))

pub returns-in-Format-kind : goal.returns-in-Format-kind
unfolding added stored
returns-in-Format-kind c = elim c.in-Format-kind.is [ inl e ↦ absurd (c.in_default.not-Format e) | inr e ↦ rw e ]
