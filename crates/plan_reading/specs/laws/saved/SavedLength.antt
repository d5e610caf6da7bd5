-- A saved plan is no longer than a plan may be.
use Rattle.std.specs.Prelude.{ℕ, zero, suc, ◌+◌, ◌*◌, ◌≤◌, ◌<◌, ◌≡◌, ◌⊎◌, List, [], ◌∷◌, ◌++◌, Bool, true, false, not, leb, ltb, get_or}
use Rattle.std.proofs.Common.{inl, inr, leb-true, length-append}
use native.Mathlib.Omega.{arith}
use Rattle.std.proofs.Math.ListN.{length}
use Rattle.cqf.specs.Form.{Form, older, newer, form_number, most_hops_in, form_fits}
use Rattle.cqf.specs.Limits.{port_slots, flow_slots, max_hops, route_stride}
use Rattle.cqf.specs.Plan.{Plan, clocks_equal, rate_of, extra_of, period_of, jitter_of, hops_of, route_of, valid_plan}
use Rattle.cqf.proofs.laws.Bounded.{all_to-at}
use Rattle.cqf.proofs.laws.Lists.{sublist_length}
use Rattle.cqf.proofs.laws.Valid.{Empty, Held, slot_cases}
use Rattle.plan.specs.Bytes.{head_size}
use Rattle.plan.specs.Layout.{Kind, layout, numbers_size}
use Rattle.plan_reading.specs.Part.{Part}
use Rattle.plan_reading.specs.Reading.{max_bytes}
use Rattle.plan_reading.specs.FieldBytes.{bytes2s, value_of, bytes_of, row_bytes}
use Rattle.plan_reading.specs.Saved.{spell, when, collect, header_part, port_part, flow_part, extra_part, jitter_part, clock_part, port_parts, flow_parts, extra_parts, jitter_parts, clock_parts, saved_parts, part_bytes, saved_bytes}
use Rattle.plan_reading.specs.laws.fields.Decoded.{ports_length}
use Rattle.plan_reading.specs.laws.saved.Says.{jitters_on, extras_on, flows_on, ports_on}

-- a plan that fits a form has no longer routes than the form allows
pub fits_hops : (form : Form) (hops : List ℕ) → form_fits (form_number form) hops ≡ true → (f : ℕ) → f < flow_slots → get_or hops f 0 ≤ most_hops_in form
unfolding form_fits
fits_hops older hops fits f l = leb-true _ _ (all_to-at flow_slots (λ f. leb (get_or hops f 0) (most_hops_in older)) fits f l)
fits_hops newer hops fits f l = leb-true _ _ (all_to-at flow_slots (λ f. leb (get_or hops f 0) (most_hops_in newer)) fits f l)

-- the length of the bytes of parts: one by one, and list by list
part_length : (x : Part) (xs : List Part) → length (part_bytes (x ∷ xs)) ≡ length (bytes_of (spell x)) + length (part_bytes xs)
unfolding row_bytes
part_length x xs = length-append (bytes_of (spell x)) (part_bytes xs)

pub parts_length : (xs ys : List Part) → length (part_bytes (xs ++ ys)) ≡ length (part_bytes xs) + length (part_bytes ys)
unfolding row_bytes
parts_length [] ys = omega arith
parts_length (x ∷ xs) ys = omega (arith, part_length x (xs ++ ys), part_length x xs, parts_length xs ys)

-- a part or none, and those of the first n slots, where none is longer than this
when_most : (test : Bool) (x : Part) (most : ℕ) → length (bytes_of (spell x)) ≤ most → length (part_bytes (when test x)) ≤ most
unfolding row_bytes
when_most true x most h = omega (arith, part_length x [])
when_most false x most h = omega arith

collect_most
    : (n : ℕ) (at : ℕ → List Part) (most : ℕ)
    → ((i : ℕ) → i < n → length (part_bytes (at i)) ≤ most)
    → length (part_bytes (collect n at)) ≤ n * most
unfolding collect row_bytes
collect_most zero at most h = omega arith
collect_most (suc n) at most h =
    omega (arith, parts_length (collect n at) (at n), collect_most n at most (λ i l. h i (omega arith)), h n (omega arith))

-- the longest field of a kind with its head
abbrev most_bytes : Kind → ℕ
most_bytes k = head_size + (numbers_size k + 2 * (layout k).most_hops)

-- the longest saved plan, of 15,002 bytes: each port with extra bytes, each flow with the longest route and a jitter
abbrev pub saved_most : ℕ
saved_most =
    most_bytes Kind.header
    + port_slots * most_bytes Kind.port
    + flow_slots * most_bytes Kind.flow
    + port_slots * most_bytes Kind.extra
    + flow_slots * most_bytes Kind.jitter
    + most_bytes Kind.clock

module _ (p : Plan) where
  pub saved_most_lem : ((f : ℕ) → f < flow_slots → hops_of p f ≤ (layout Kind.flow).most_hops) → length (saved_bytes p) ≤ saved_most
  unfolding saved_bytes saved_parts bytes_of value_of
  saved_most_lem hops =
      let long : (f : ℕ) → f < flow_slots → length (bytes2s (route_of p f)) ≤ 2 * (layout Kind.flow).most_hops =
      λ f l. omega (arith, ports_length (route_of p f), sublist_length p.routes (f * route_stride) (hops_of p f), hops f l) in
      let ports = collect_most port_slots (port_parts p) (most_bytes Kind.port) (λ q l. when_most (ltb 0 (rate_of p q)) (port_part p q) _ (omega arith)) in
      let flows =
      collect_most flow_slots (flow_parts p) (most_bytes Kind.flow) (λ f l. when_most (ltb 0 (period_of p f)) (flow_part p f) _ (omega (arith, long f l))) in
      let extras = collect_most port_slots (extra_parts p) (most_bytes Kind.extra) (λ q l. when_most (ltb 0 (extra_of p q)) (extra_part p q) _ (omega arith)) in
      let jitters = collect_most flow_slots (jitter_parts p) (most_bytes Kind.jitter) (λ f l. when_most (ltb 0 (jitter_of p f)) (jitter_part p f) _ (omega arith)) in
      let clocks = when_most (not (clocks_equal p)) (clock_part p) (most_bytes Kind.clock) (omega arith) in
      omega (
        arith,
        part_length (header_part p) (ports_on p),
        parts_length (collect port_slots (port_parts p)) (flows_on p),
        parts_length (collect flow_slots (flow_parts p)) (extras_on p),
        parts_length (collect port_slots (extra_parts p)) (jitters_on p),
        parts_length (collect flow_slots (jitter_parts p)) (clock_parts p),
      )

  -- the routes of a valid plan are no longer than a route may be
  pub valid_hops : valid_plan p ≡ true → (f : ℕ) → f < flow_slots → hops_of p f ≤ max_hops
  valid_hops valid f l = go (slot_cases p valid f l)
    where
      go : Empty p f ⊎ Held p f → hops_of p f ≤ max_hops
      go (inl e) = omega (arith, e.hops)
      go (inr e) = e.hops_most

  -- a plan that can have been read in the older form is saved in it as no more bytes than a plan may have
  pub saved_length : form_fits (form_number older) p.hops ≡ true → length (saved_bytes p) ≤ max_bytes
  saved_length fits = omega (arith, saved_most_lem (λ f l. fits_hops older p.hops fits f l))
