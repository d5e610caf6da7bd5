-- A field that says what its absence says leaves nothing behind.
use Rattle.std.specs.Prelude.{ℕ, ◌+◌, ◌-◌, ◌≡◌, refl, List, [], ◌∷◌, get_or, set}
use Rattle.std.proofs.Common.{sym, ap, ◌∙◌, subst, arith}
use Rattle.std.proofs.lemmas.List.{get_or-replicate, set-get_or}
use Rattle.cqf.specs.Form.{Form}
use Rattle.cqf.specs.Limits.{port_slots, flow_slots}
use Rattle.cqf.specs.Plan.{Clock, Plan, no_plan, equal_clocks}
use Rattle.plan.specs.Bytes.{tag_at, value_at}
use Rattle.plan.specs.Layout.{form_by}
use Rattle.plan.specs.Field.{Field, route_in}
use Rattle.plan_reading.specs.Part.{Part, header, port, flow, extra, jitter, clock, parts_of}
use Rattle.plan_reading.specs.Store.{store, store_all}
use Rattle.plan_reading.specs.Draft.{Draft, blank, added, ports_in, flows_in, sum_of}
use Rattle.plan_reading.specs.Ranges.{ExtraOk, JitterOk, NumbersOk, RouteFits, PartOk}
use Rattle.plan_reading.specs.Reading.{accepted, read_plan}
use Rattle.plan_reading.specs.FieldOrder.{AllFields, more, Nothing, AllNothing, SaysNothing, ZeroMore}
use Rattle.plan_reading.specs.laws.fields.Within.{slot_below}
use Rattle.plan_reading.specs.laws.fields.Ranged.{All}
use Rattle.plan_reading.specs.laws.fields.Kinds.{parts_ok, routeless}
use Rattle.plan_reading.specs.laws.fields.Passes.{Passes, field_passes, passes_once}
use Rattle.plan_reading.specs.laws.reading.Walk.{accepted_reads, closing_accepted}
use Rattle.plan_reading.specs.laws.stores.Stored.{Stored, nothing, next, stored_permuted}
use Rattle.plan_reading.specs.laws.order.Order.{all_permuted, accepted_stored, flagged_blank}

-- a column with 0 in the slot stays as it is
kept : (l : List ℕ) (i v : ℕ) → get_or l i 0 ≡ 0 → v ≡ 0 → set l i v ≡ l
kept l i v none zero = ap (set l i) (zero ∙ sym none) ∙ set-get_or l i 0

-- the tables with this clock, these extra bytes and jitters
abbrev tables_with : Plan → Clock → (extras jitters : List ℕ) → Plan
tables_with p k extras jitters =
    record {
      guard = p.guard;
      top = p.top;
      clock = k;
      rates = p.rates;
      blockings = p.blockings;
      extras = extras;
      periods = p.periods;
      counts = p.counts;
      lengths = p.lengths;
      jitters = jitters;
      hops = p.hops;
      routes = p.routes;
    }

-- empty tables stay so with extra bytes of 0, with a jitter of 0, and with clocks that are taken as equal
extra_nothing : (n b : ℕ) → ExtraOk n b → b ≡ 0 → store no_plan (extra n b) ≡ no_plan
unfolding store no_plan
extra_nothing n b ok zero =
    let none = get_or-replicate {A = ℕ} port_slots (n - 1) 0 0 (slot_below port_slots n ok.number) in
    ap (λ (l : List ℕ). tables_with no_plan equal_clocks l no_plan.jitters) (kept no_plan.extras (n - 1) b none zero)

jitter_nothing : (n j : ℕ) → JitterOk n j → j ≡ 0 → store no_plan (jitter n j) ≡ no_plan
unfolding store no_plan
jitter_nothing n j ok zero =
    let none = get_or-replicate {A = ℕ} flow_slots (n - 1) 0 0 (slot_below flow_slots n ok.number) in
    ap (tables_with no_plan equal_clocks no_plan.extras) (kept no_plan.jitters (n - 1) j none zero)

clock_nothing : (k : Clock) → k ≡ equal_clocks → store no_plan (clock k) ≡ no_plan
unfolding store no_plan
clock_nothing k same = ap (λ (c : Clock). tables_with no_plan c no_plan.extras no_plan.jitters) same

-- two drafts with the same tables and counts, whatever was seen
record Alike (d e : Draft) : Type 0 where
  tables : d.tables ≡ e.tables
  ports : d.ports ≡ e.ports
  flows : d.flows ≡ e.flows

alike-added : (d e : Draft) (x : Field) (r : List ℕ) → Alike d e → Alike (added d x r) (added e x r)
unfolding added
alike-added d e x r h =
    record {
      tables = ap (λ (p : Plan). store_all p (parts_of x r)) h.tables;
      ports = ap (λ (n : ℕ). n + sum_of ports_in (parts_of x r)) h.ports;
      flows = ap (λ (n : ℕ). n + sum_of flows_in (parts_of x r)) h.flows;
    }

-- the same fields leave of them two that are alike
stored-alike
    : {form other : Form} {bs : List (List ℕ)} {d e f g : Draft}
    → Alike d f
    → Stored form bs d e
    → Stored other bs f g
    → Alike e g
stored-alike {d = d} {e = e} {f = f} {g = g} h (nothing p) (nothing q) =
    subst (λ (z : Draft). Alike z g) p (subst (λ (z : Draft). Alike d z) q h)
stored-alike {other = form} {e = e} {f = f} {g = g} h (next {b = b} {bs = bs} {d = d} x k fresh rest) (next y m _ other) =
    let r = route_in x.kind (value_at b 0) in
    let same : y ≡ x = passes_once (tag_at b 0) (value_at b 0) y x m k in
    stored-alike {d = added d x r} {e = e} {f = added f x r} {g = g} (alike-added d f x r h) rest
    (subst (λ (z : Field). Stored form bs (added f z (route_in z.kind (value_at b 0))) g) same other)

-- parts that say nothing leave empty tables, and none is counted
part_nothing : (x : Part) → PartOk x → Nothing x → (store no_plan x ≡ no_plan) × (ports_in x ≡ 0) × (flows_in x ≡ 0)
part_nothing (header g t) ok void = absurd void
part_nothing (port n rate b) ok void = absurd void
part_nothing (flow n t c l r) ok void = absurd void
part_nothing (extra n b) ok zero = (extra_nothing n b ok zero, refl, refl)
part_nothing (jitter n j) ok zero = (jitter_nothing n j ok zero, refl, refl)
part_nothing (clock k) ok same = (clock_nothing k same, refl, refl)

parts_nothing
    : (xs : List Part)
    → All PartOk xs
    → AllNothing xs
    → (store_all no_plan xs ≡ no_plan) × (sum_of ports_in xs ≡ 0) × (sum_of flows_in xs ≡ 0)
unfolding store_all
parts_nothing [] ok void = (refl, refl, refl)
parts_nothing (x ∷ xs) ok void =
    let t = part_nothing x ok.0 void.0 in
    let u = parts_nothing xs ok.1 void.1 in
    (ap (λ (p : Plan). store_all p xs) t.0 ∙ u.0, omega (arith, t.1, u.1), omega (arith, t.2, u.2))

-- it in a draft that nothing was read into
blank-alike : {form : Form} (x : Field) (r : List ℕ) → NumbersOk form x → RouteFits x r → SaysNothing x → Alike (added blank x r) blank
unfolding added blank
blank-alike x r ok fits void =
    let t = parts_nothing (parts_of x r) (parts_ok x ok r fits) (routeless x r void) in
    let ports : 0 + sum_of ports_in (parts_of x r) ≡ 0 = omega (arith, t.1) in
    let flows : 0 + sum_of flows_in (parts_of x r) ≡ 0 = omega (arith, t.2) in
    record { tables = t.0; ports = ports; flows = flows }

-- the fields but the first, where that says nothing
without_zero
    : {form other : Form} (x : Field) (zero : List ℕ) (others : List (List ℕ)) (e f : Draft)
    → Passes form (tag_at zero 0) (value_at zero 0) x
    → SaysNothing x
    → Stored form (zero ∷ others) blank e
    → Stored other others blank f
    → Alike e f
without_zero {form} x zero others e f says nought (next y k fresh rest) other =
    let r = route_in x.kind (value_at zero 0) in
    let same : y ≡ x = passes_once (tag_at zero 0) (value_at zero 0) y x k says in
    stored-alike {d = added blank x r} {e = e} {f = blank} {g = f} (blank-alike x r says.ok says.route nought)
    (subst (λ (z : Field). Stored form others (added blank z (route_in z.kind (value_at zero 0))) e) same rest)
    other

but_first : {b : List ℕ} {bs : List (List ℕ)} → AllFields (b ∷ bs) → AllFields bs
but_first (more is h) = h

-- an accepted plan with such a field is held as the accepted plan without it, with the same numbers of port and flow fields
pub zero_absent
    : (s t : List ℕ)
    → ZeroMore s t
    → (p q : Plan) (m n k l : ℕ)
    → read_plan s ≡ accepted p m n
    → read_plan t ≡ accepted q k l
    → (p ≡ q) × (m ≡ k) × (n ≡ l)
zero_absent s t z p q m n k l left right =
    let a = accepted_reads s p m n left in
    let b = accepted_reads t q k l right in
    let c = closing_accepted s a.final p m n a.closes in
    let d = closing_accepted t b.final q k l b.closes in
    let all = accepted_stored z.all s a.final z.bytes_all z.fields a.walk in
    let first = stored_permuted blank a.final z.permuted flagged_blank all in
    let rest = but_first (all_permuted z.permuted z.fields) in
    let second = accepted_stored z.others t b.final z.bytes_others rest b.walk in
    let says = (field_passes (form_by s) z.zero 0 z.read _ z.says).passes in
    let same = without_zero z.read z.zero z.others a.final b.final says z.nothing first second in (
      sym c.plan ∙ same.tables ∙ d.plan,
      sym c.ports_read ∙ same.ports ∙ d.ports_read,
      sym c.flows_read ∙ same.flows ∙ d.flows_read,
    )
