-- `store_field` meets its contract, by the kind of field.
use Prim.Native.Nat.{ℕ, ◌+◌}
use mathlib.Core.Path.{◌≡◌, refl, sym, ap, subst}
use mathlib.Core.List.{List}
use native.Mathlib.Nat.{add-zero}
use native.Mathlib.Omega.{arith}
use lib.ListN.{set}
use Rattle.cqf.specs.Plan.{Plan}
use Rattle.plan.specs.Layout.{layout}
use Rattle.plan.specs.declared.Field as declared
use Rattle.plan.specs.Field.{Field, route_ports}
use Rattle.plan_reading.specs.Part.{Part, parts_of}
use Rattle.plan_reading.specs.Ranges.{NumbersOk, RouteFits, PartOk}
use Rattle.plan_reading.specs.Key.{key_of}
use Rattle.plan_reading.specs.Store.{store, store_all}
use Rattle.plan_reading.specs.Draft.{Draft, added, ports_in, flows_in, sum_of}
use Rattle.plan.specs.Answer.{field_of}
use Rattle.plan_reading.specs.laws.fields.Kinds.{key_below, parts_ok}
use Rattle.plan_reading.specs.laws.fields.Ranged.{All}
use Rattle.loading.specs.Loading.{draft_of}
use Rattle.loading.proofs.store.store_field.Goals as goal

-- what a field of a known kind says is in range, and the route is its own
says
    : (f x : declared.Field) (r : List ℕ)
    → f ≡ x
    → NumbersOk (layout (field_of f).kind).form (field_of f)
    → RouteFits (field_of f) r
    → All PartOk (parts_of (field_of x) r)
says f x r is n fits = subst (λ (y : declared.Field). All PartOk (parts_of (field_of y) r)) is (parts_ok (field_of f) n r fits)

goes : (f x : declared.Field) (r : List ℕ) → f ≡ x → RouteFits (field_of f) r → RouteFits (field_of x) r
goes f x r is fits = subst (λ (y : declared.Field). RouteFits (field_of y) r) is fits

-- the parts of a field of a known kind
parts_of_of : (f x : declared.Field) (r : List ℕ) → f ≡ x → parts_of (field_of f) r ≡ parts_of (field_of x) r
parts_of_of f x r is = ap (λ (y : declared.Field). parts_of (field_of y) r) is

-- a field stored into any draft, by its parts: the tables, its key and how many ports and flows there are
stored
    : (d : Draft) (x : Field) (r : List ℕ) (key : ℕ) (parts : List Part) {tables : Plan} {ports flows : ℕ}
    → parts_of x r ≡ parts
    → key ≡ key_of x
    → tables ≡ store_all d.tables parts
    → ports ≡ d.ports + sum_of ports_in parts
    → flows ≡ d.flows + sum_of flows_in parts
    → record { tables = tables; seen = set d.seen key 1; ports = ports; flows = flows } ≡ added d x r
unfolding added
stored d x r key parts own k t ps fs = rw (k, own, t, ps, fs)

pub bounds-tally-key : goal.bounds-tally-key
bounds-tally-key c = omega (arith, c.key_of-key.ensures, key_below (field_of c.args.field) c.requires.numbers)

pub store_port-requires : goal.store_port-requires
store_port-requires c = (says _ _ (route_ports c.args.route.now) c.in-Port.is c.requires.numbers c.requires.route).0

pub store_flow-requires : goal.store_flow-requires
store_flow-requires c =
    let on = goes _ _ (route_ports c.args.route.now) c.in-Flow.is c.requires.route in
    let own = says _ _ (route_ports c.args.route.now) c.in-Flow.is c.requires.numbers c.requires.route in
    record { numbers = rw on.hops at own.0; route = on }

pub store_extra-requires : goal.store_extra-requires
store_extra-requires c = (says _ _ (route_ports c.args.route.now) c.in-Extra.is c.requires.numbers c.requires.route).0

pub store_jitter-requires : goal.store_jitter-requires
store_jitter-requires c = (says _ _ (route_ports c.args.route.now) c.in-Jitter.is c.requires.numbers c.requires.route).0

pub store_port2-requires : goal.store_port2-requires
store_port2-requires c =
    let own = says _ _ (route_ports c.args.route.now) c.in-Port2.is c.requires.numbers c.requires.route in
    record { port = own.0; extra = own.1.0 }

pub store_flow2-requires : goal.store_flow2-requires
store_flow2-requires c =
    let on = goes _ _ (route_ports c.args.route.now) c.in-Flow2.is c.requires.route in
    let own = says _ _ (route_ports c.args.route.now) c.in-Flow2.is c.requires.numbers c.requires.route in
    record { numbers = rw on.hops at own.0; route = on; jitter = own.1.0 }

-- a number of ports or flows to which the field adds none
abbrev none_more : (n : ℕ) → n ≡ n + 0
none_more n = sym (add-zero n)

pub returns-in-Header-clause-draft : goal.returns-in-Header-clause-draft
unfolding store_all store
returns-in-Header-clause-draft c =
    let a = c.args in
    stored (draft_of a.tables.now a.tally.now) (field_of a.field) (route_ports a.route.now) c.key_of-key.result _ (parts_of_of _ _ _ c.in-Header.is) c.key_of-key.ensures
    refl (none_more a.tally.now.ports) (none_more a.tally.now.flows)

pub returns-in-Port-clause-draft : goal.returns-in-Port-clause-draft
unfolding store_all store
returns-in-Port-clause-draft c =
    let a = c.args in
    stored (draft_of a.tables.now a.tally.now) (field_of a.field) (route_ports a.route.now) c.key_of-key.result _ (parts_of_of _ _ _ c.in-Port.is) c.key_of-key.ensures
    c.store_port.ensures refl (none_more a.tally.now.flows)

pub returns-in-Flow-clause-draft : goal.returns-in-Flow-clause-draft
unfolding store_all store
returns-in-Flow-clause-draft c =
    let a = c.args in
    stored (draft_of a.tables.now a.tally.now) (field_of a.field) (route_ports a.route.now) c.key_of-key.result _ (parts_of_of _ _ _ c.in-Flow.is) c.key_of-key.ensures
    c.store_flow.ensures (none_more a.tally.now.ports) refl

pub returns-in-Extra-clause-draft : goal.returns-in-Extra-clause-draft
unfolding store_all store
returns-in-Extra-clause-draft c =
    let a = c.args in
    stored (draft_of a.tables.now a.tally.now) (field_of a.field) (route_ports a.route.now) c.key_of-key.result _ (parts_of_of _ _ _ c.in-Extra.is) c.key_of-key.ensures
    c.store_extra.ensures (none_more a.tally.now.ports) (none_more a.tally.now.flows)

pub returns-in-Jitter-clause-draft : goal.returns-in-Jitter-clause-draft
unfolding store_all store
returns-in-Jitter-clause-draft c =
    let a = c.args in
    stored (draft_of a.tables.now a.tally.now) (field_of a.field) (route_ports a.route.now) c.key_of-key.result _ (parts_of_of _ _ _ c.in-Jitter.is) c.key_of-key.ensures
    c.store_jitter.ensures (none_more a.tally.now.ports) (none_more a.tally.now.flows)

pub returns-in-Clock-clause-draft : goal.returns-in-Clock-clause-draft
unfolding store_all store
returns-in-Clock-clause-draft c =
    let a = c.args in
    stored (draft_of a.tables.now a.tally.now) (field_of a.field) (route_ports a.route.now) c.key_of-key.result _ (parts_of_of _ _ _ c.in-Clock.is) c.key_of-key.ensures
    refl (none_more a.tally.now.ports) (none_more a.tally.now.flows)

pub returns-in-Header2-clause-draft : goal.returns-in-Header2-clause-draft
unfolding store_all store
returns-in-Header2-clause-draft c =
    let a = c.args in
    stored (draft_of a.tables.now a.tally.now) (field_of a.field) (route_ports a.route.now) c.key_of-key.result _ (parts_of_of _ _ _ c.in-Header2.is) c.key_of-key.ensures
    refl (none_more a.tally.now.ports) (none_more a.tally.now.flows)

pub returns-in-Port2-clause-draft : goal.returns-in-Port2-clause-draft
unfolding store_all store
returns-in-Port2-clause-draft c =
    let a = c.args in
    stored (draft_of a.tables.now a.tally.now) (field_of a.field) (route_ports a.route.now) c.key_of-key.result _ (parts_of_of _ _ _ c.in-Port2.is) c.key_of-key.ensures
    c.store_port2.ensures refl (none_more a.tally.now.flows)

pub returns-in-Flow2-clause-draft : goal.returns-in-Flow2-clause-draft
unfolding store_all store
returns-in-Flow2-clause-draft c =
    let a = c.args in
    stored (draft_of a.tables.now a.tally.now) (field_of a.field) (route_ports a.route.now) c.key_of-key.result _ (parts_of_of _ _ _ c.in-Flow2.is) c.key_of-key.ensures
    c.store_flow2.ensures (none_more a.tally.now.ports) refl
