-- How long a plan is that is saved in the newer form.
use Rattle.std.specs.Prelude.{ℕ, zero, suc, ◌+◌, ◌*◌, ◌≤◌, ◌<◌, ◌≡◌, List, [], ◌∷◌, ◌++◌, Bool, true, false, ltb, length}
use Rattle.std.proofs.Common.{arith, length-append}
use Rattle.cqf.specs.Form.{older, newer, most_hops_in}
use Rattle.cqf.specs.Limits.{port_slots, flow_slots, route_stride}
use Rattle.cqf.specs.Plan.{Plan, rate_of, period_of, hops_of, route_of}
use Rattle.cqf.proofs.laws.Lists.{sublist_length}
use Rattle.plan.specs.Bytes.{head_size}
use Rattle.plan.specs.Layout.{Kind, numbers_size}
use Rattle.plan_reading.specs.Strict.{Entry}
use Rattle.plan_reading.specs.FieldBytes.{bytes2s, value_of, bytes_of, row_bytes}
use Rattle.plan_reading.specs.Saved.{header2_field, port2_field, flow2_field, field_when, collect_fields, port2_fields, flow2_fields, newer_fields, form_bytes}
use Rattle.plan_reading.specs.laws.fields.Decoded.{ports_length}

row_append : (es fs : List Entry) → length (row_bytes (es ++ fs)) ≡ length (row_bytes es) + length (row_bytes fs)
unfolding row_bytes
row_append [] fs = omega arith
row_append (e ∷ es) fs = omega (arith, length-append (bytes_of e) (row_bytes (es ++ fs)), length-append (bytes_of e) (row_bytes es), row_append es fs)

when_most : (test : Bool) (e : Entry) (most : ℕ) → length (bytes_of e) ≤ most → length (row_bytes (field_when test e)) ≤ most
unfolding row_bytes
when_most true e most h = omega (arith, length-append (bytes_of e) [])
when_most false e most h = omega arith

collect_most
    : (n : ℕ) (at : ℕ → List Entry) (most : ℕ)
    → ((i : ℕ) → i < n → length (row_bytes (at i)) ≤ most)
    → length (row_bytes (collect_fields n at)) ≤ n * most
unfolding collect_fields row_bytes
collect_most zero at most h = omega arith
collect_most (suc n) at most h =
    omega (arith, row_append (collect_fields n at) (at n), collect_most n at most (λ i l. h i (omega arith)), h n (omega arith))

-- the longest plan of routes of at most sixteen ports, of 13,399 bytes
abbrev pub newer_most : ℕ
newer_most =
    (head_size + numbers_size Kind.header2)
    + port_slots * (head_size + numbers_size Kind.port2)
    + flow_slots * (head_size + (numbers_size Kind.flow2 + 2 * most_hops_in older))

pub newer_most_lem : (p : Plan) → ((f : ℕ) → f < flow_slots → hops_of p f ≤ most_hops_in older) → length (form_bytes newer p) ≤ newer_most
unfolding form_bytes newer_fields bytes_of value_of row_bytes
newer_most_lem p hops =
    let long : (f : ℕ) → f < flow_slots → length (bytes2s (route_of p f)) ≤ 2 * most_hops_in older =
    λ f l. omega (arith, ports_length (route_of p f), sublist_length p.routes (f * route_stride) (hops_of p f), hops f l) in
    let ports = collect_most port_slots (port2_fields p) (head_size + numbers_size Kind.port2) (λ q l. when_most (ltb 0 (rate_of p q)) (port2_field p q) _ (omega arith)) in
    let flows =
    collect_most flow_slots (flow2_fields p) (head_size + (numbers_size Kind.flow2 + 2 * most_hops_in older))
    (λ f l. when_most (ltb 0 (period_of p f)) (flow2_field p f) _ (omega (arith, long f l))) in
    omega (
      arith,
      length-append (bytes_of (header2_field p)) (row_bytes (collect_fields port_slots (port2_fields p) ++ collect_fields flow_slots (flow2_fields p))),
      row_append (collect_fields port_slots (port2_fields p)) (collect_fields flow_slots (flow2_fields p)),
    )
