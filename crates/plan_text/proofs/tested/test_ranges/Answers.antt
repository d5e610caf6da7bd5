-- `test_ranges` meets its contract, test by test.
use Rattle.std.proofs.Common.{ℕ, ◌≤◌, Some, None, List, arith, subst, sym, length-take-le}
use Rattle.cqf.specs.Limits.{max_hops}
use Rattle.plan_text.specs.Line.{form_by, range_test, port_test}
use Rattle.plan_text.specs.Reading.{FailsAs}
use Rattle.plan_text.specs.laws.Line.{items_most}
use Rattle.plan_text.specs.laws.Says.{numbers_size, most_hops, range_out, hops_out, port_out, all_in}
use Rattle.plan_text.proofs.tested.test_ranges.Goals as goal

pub offset_bounds-numbers-i : goal.offset_bounds-numbers-i
offset_bounds-numbers-i c =
    let a = c.args in
    let out = subst (λ (l : List ℕ). FailsAs (range_test a.kind) l (Some c.in-Some.i)) c.numbers_by.ensures (c.in-Some.ensures (range_test a.kind) (λ i n b p. p)) in
    record { fits = omega (arith, out.0, numbers_size a.kind a.numbers.now c.requires.0, items_most a.kind) }

pub bounds-numbers-i : goal.bounds-numbers-i
bounds-numbers-i c =
    let a = c.args in
    let out = subst (λ (l : List ℕ). FailsAs (range_test a.kind) l (Some c.in-Some.i)) c.numbers_by.ensures (c.in-Some.ensures (range_test a.kind) (λ i n b p. p)) in
    omega (arith, out.0, numbers_size a.kind a.numbers.now c.requires.0, items_most a.kind, c.requires.0)

pub returns-in-Some : goal.returns-in-Some
returns-in-Some c r many there routed =
    let a = c.args in
    let out = subst (λ (l : List ℕ). FailsAs (range_test a.kind) l (Some c.in-Some.i)) c.numbers_by.ensures (c.in-Some.ensures (range_test a.kind) (λ i n b p. p)) in
    sym (range_out a.kind a.numbers.now c.requires.0 (form_by a.newer) a.route.now a.hops r many there (sym out.1)
    (omega (arith, out.0, numbers_size a.kind a.numbers.now c.requires.0)) c.item_at.ensures)

pub returns-then-most_hops-hops : goal.returns-then-most_hops-hops
returns-then-most_hops-hops c r many there routed =
    let a = c.args in
    let out = subst (λ (l : List ℕ). FailsAs (range_test a.kind) l None) c.numbers_by.ensures (c.in_default.ensures (range_test a.kind) (λ i n b p. p)) in
    sym (hops_out a.kind a.numbers.now c.requires.0 (form_by a.newer) a.route.now a.hops r many there (sym out)
    (omega (arith, numbers_size a.kind a.numbers.now c.requires.0)) (omega (arith, c.most_hops.ensures, c.if-most_hops-hops.true)))

-- the ports are few enough to stand in the array
pub offset_bounds-route-i : goal.offset_bounds-route-i
offset_bounds-route-i c =
    let a = c.args in
    let out = c.in-Some-out.ensures port_test (λ i n b p. p) in
    let few : a.hops ≤ max_hops = omega (arith, c.if-most_hops-hops.false, c.most_hops.ensures, most_hops (form_by a.newer)) in
    record { fits = omega (arith, out.0, length-take-le a.hops a.route.now (omega (arith, few, c.requires.1))) }

pub bounds-route-i : goal.bounds-route-i
bounds-route-i c =
    let a = c.args in
    let out = c.in-Some-out.ensures port_test (λ i n b p. p) in
    let few : a.hops ≤ max_hops = omega (arith, c.if-most_hops-hops.false, c.most_hops.ensures, most_hops (form_by a.newer)) in
    omega (arith, out.0, length-take-le a.hops a.route.now (omega (arith, few, c.requires.1)), c.requires.1)

pub returns-in-Some-out : goal.returns-in-Some-out
returns-in-Some-out c r many there routed =
    let a = c.args in
    let out = subst (λ (l : List ℕ). FailsAs (range_test a.kind) l None) c.numbers_by.ensures (c.in_default.ensures (range_test a.kind) (λ i n b p. p)) in
    let port = c.in-Some-out.ensures port_test (λ i n b p. p) in
    let few : a.hops ≤ max_hops = omega (arith, c.if-most_hops-hops.false, c.most_hops.ensures, most_hops (form_by a.newer)) in
    sym (port_out a.kind a.numbers.now c.requires.0 (form_by a.newer) a.route.now a.hops r many there (sym out)
    (omega (arith, numbers_size a.kind a.numbers.now c.requires.0)) (omega (arith, c.most_hops.ensures, c.if-most_hops-hops.false)) (sym port.1)
    (omega (arith, port.0, length-take-le a.hops a.route.now (omega (arith, few, c.requires.1)))))

pub returns : goal.returns
returns c r many there routed =
    let a = c.args in
    let out = subst (λ (l : List ℕ). FailsAs (range_test a.kind) l None) c.numbers_by.ensures (c.in_default.ensures (range_test a.kind) (λ i n b p. p)) in
    let port = c.in_default-out.ensures port_test (λ i n b p. p) in
    let few : a.hops ≤ max_hops = omega (arith, c.if-most_hops-hops.false, c.most_hops.ensures, most_hops (form_by a.newer)) in
    all_in a.kind a.numbers.now c.requires.0 (form_by a.newer) a.route.now a.hops r many there (sym out)
    (omega (arith, numbers_size a.kind a.numbers.now c.requires.0)) (omega (arith, c.most_hops.ensures, c.if-most_hops-hops.false)) (sym port) routed
    (omega (arith, length-take-le a.hops a.route.now (omega (arith, few, c.requires.1))))
