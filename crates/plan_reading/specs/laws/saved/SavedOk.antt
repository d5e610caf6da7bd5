-- The fields as which a valid plan is saved: each in range, in strict order, the header first, a flow among them, and every port
-- and flow that they name in the plan.
use Rattle.std.specs.Prelude.{ℕ, ◌-◌, ◌*◌, ◌≤◌, ◌<◌, ◌≡◌, refl, true, not, ltb, length}
use Rattle.std.proofs.Common.{sym, ap, ◌∙◌, inl, inr, arith}
use mathlib.Core.List.{List, [], ◌∷◌, Memᴰ}
use Rattle.std.proofs.Math.Bool.{and-eq-true_iff}
use Rattle.cqf.specs.Bounded.{every, distinct}
use Rattle.cqf.specs.Form.{older, most_hops_in}
use Rattle.cqf.specs.Limits.{port_slots, flow_slots, route_stride, guard_ok, top_ok, port_ok, rate_ok, length_ok, blocking_ok, extra_ok, period_ok, count_ok, jitter_ok, hops_ok}
use Rattle.cqf.specs.Plan.{Plan, clock_ok, rate_of, period_of, hops_of, present, port_in, valid_plan}
use Rattle.cqf.proofs.laws.Bounded.{any_to_true}
use Rattle.cqf.proofs.laws.Lists.{sublist_length}
use Rattle.cqf.proofs.laws.Route.{port_in_there}
use Rattle.plan_reading.specs.Part.{Part, header, port, flow, extra, jitter, clock}
use Rattle.plan_reading.specs.Ranges.{PartOk}
use Rattle.plan_reading.specs.Strict.{rising}
use Rattle.plan_reading.specs.Saved.{spell, spell_all, header_part, flow_part, saved_parts, saved_fields}
use Rattle.plan_reading.specs.laws.fields.Within.{within_low, within_high, slot_below}
use Rattle.plan_reading.specs.laws.validity.Held.{parts, port_held, flow_held}
use Rattle.plan_reading.specs.laws.reading.Absent.{flow_there, NamesPresent}
use Rattle.plan_reading.specs.laws.rows.RowAbsent.{AllPresent, none, more}
use Rattle.plan_reading.specs.laws.rows.SavedRow.{EntryOk, AllOk}
use Rattle.plan_reading.specs.laws.rows.Spelled.{RoutePart, spell_ok, spelled_part, all_spelled}
use Rattle.plan_reading.specs.laws.saved.Entries.{Says}
use Rattle.plan_reading.specs.laws.saved.Says.{ports_on, flow_says, saved_says, says_saved}
use Rattle.plan_reading.specs.laws.saved.SavedOrder.{saved_in_order}

-- ports of the plan have numbers in range
pub ports_numbered : (rates r : List ℕ) → every (port_in rates) r ≡ true → every port_ok r ≡ true
unfolding every
ports_numbered rates [] h = refl
ports_numbered rates (n ∷ r) h =
    let t = (and-eq-true_iff (port_in rates n) (every (port_in rates) r)).0 h in
    (and-eq-true_iff (port_ok n) (every port_ok r)).1 (((and-eq-true_iff (port_ok n) _).0 t.0).0, ports_numbered rates r t.1)

-- of a plan whose routes a field of the older form can name
module _ (p : Plan) (valid : valid_plan p ≡ true) (few : (f : ℕ) → f < flow_slots → hops_of p f ≤ most_hops_in older) where
  -- each part that it says is in range
  pub part_ok : (x : Part) → Says p x → PartOk x × RoutePart x
  part_ok (header g t) h = (
    record { guard = ap guard_ok (sym h.stands.0) ∙ (parts p valid).guard; top = ap top_ok (sym h.stands.1) ∙ (parts p valid).top },
    tt,
  )
  part_ok (port n v b) h =
      let s = h.stands in
      let k = port_held p valid (n - 1) (slot_below port_slots n s.0) (inl (omega (arith, h.tells, s.1))) in
      (record { number = s.0; rate = ap rate_ok (sym s.1) ∙ k.rate; blocking = ap blocking_ok (sym s.2) ∙ k.blocking }, tt)
  part_ok (flow n t c l r) h =
      let s = h.stands in
      let k = flow_held p valid (n - 1) (slot_below flow_slots n s.0) (inl (omega (arith, h.tells, s.1))) in
      let ports : every port_ok r ≡ true = ap (every port_ok) (sym s.4) ∙ ports_numbered p.rates _ k.in_plan in
      let once : distinct r ≡ true = ap distinct (sym s.4) ∙ k.once in
      let long : hops_of p (n - 1) ≡ length r = sym (sublist_length p.routes ((n - 1) * route_stride) (hops_of p (n - 1))) ∙ ap length s.4 in (
        record {
          number = s.0;
          period = ap period_ok (sym s.1) ∙ k.period;
          count = ap count_ok (sym s.2) ∙ k.count;
          length = ap length_ok (sym s.3) ∙ k.bytes;
          hops = ap hops_ok (sym long) ∙ k.hops;
        },
        (ports, ap not once, omega (arith, long, few (n - 1) (slot_below flow_slots n s.0))),
      )
  part_ok (extra n b) h =
      let s = h.stands in
      let k = port_held p valid (n - 1) (slot_below port_slots n s.0) (inr (omega (arith, h.tells, s.1))) in
      (record { number = s.0; bytes = ap extra_ok (sym s.1) ∙ k.extra }, tt)
  part_ok (jitter n j) h =
      let s = h.stands in
      let k = flow_held p valid (n - 1) (slot_below flow_slots n s.0) (inr (omega (arith, h.tells, s.1))) in
      (record { number = s.0; ns = ap jitter_ok (sym s.1) ∙ k.jitter }, tt)
  part_ok (clock c) h = (ap clock_ok (sym h.stands) ∙ (parts p valid).clock, tt)

  pub says_ok : (x : Part) → Says p x → EntryOk older (spell x)
  says_ok x h = let t = part_ok x h in spell_ok x t.0 t.1

  -- and names what is in the plan
  part_names : (x : Part) → Says p x → NamesPresent p.rates p.periods x
  part_names (header g t) h = tt
  part_names (port n v b) h = tt
  part_names (flow n t c l r) h =
      let s = h.stands in
      let k = flow_held p valid (n - 1) (slot_below flow_slots n s.0) (inl (omega (arith, h.tells, s.1))) in
      ap (every (port_in p.rates)) (sym s.4) ∙ k.in_plan
  part_names (extra n b) h =
      let s = h.stands in
      let k = port_held p valid (n - 1) (slot_below port_slots n s.0) (inr (omega (arith, h.tells, s.1))) in
      let low = within_low 1 port_slots n s.0 in
      let there = within_low 1 _ (rate_of p (n - 1)) k.rate in
      port_in_there p.rates n low (within_high 1 port_slots n s.0) (λ e. omega arith)
  part_names (jitter n j) h =
      let s = h.stands in
      let k = flow_held p valid (n - 1) (slot_below flow_slots n s.0) (inr (omega (arith, h.tells, s.1))) in
      flow_there p.periods n s.0 (omega (arith, within_low _ _ (period_of p (n - 1)) k.period))
  part_names (clock c) h = tt

  pub saved_present : AllPresent p.rates p.periods (saved_fields p)
  saved_present = all_present (saved_parts p) (λ x m. part_names x (saved_says p m))
    where
      all_present
          : (xs : List Part)
          → ((x : Part) → Memᴰ x xs → NamesPresent p.rates p.periods x)
          → AllPresent p.rates p.periods (spell_all xs)
      all_present [] all = none
      all_present (x ∷ xs) all =
          more {e = spell x} (rw (spelled_part x) (all x (Memᴰ.head refl), tt)) (all_present xs (λ y m. all y (Memᴰ.tail m)))

  -- all are in range and in strict order
  pub saved_ok : AllOk older (saved_fields p)
  saved_ok = all_spelled (saved_parts p) (λ x m. says_ok x (saved_says p m))

  pub saved_rising : rising (saved_fields p) ≡ true
  saved_rising = saved_in_order p (λ x h. (says_ok x h).numbers)

-- the flow in some slot is among the parts
pub saved_flow : (p : Plan) → valid_plan p ≡ true → (f : ℕ) × Memᴰ (flow_part p f) (saved_parts p)
saved_flow p valid =
    let s = any_to_true flow_slots (present p) (parts p valid).some in
    (s.0, says_saved p (flow_part p s.0) (flow_says p s.0 s.1 ((and-eq-true_iff (ltb s.0 flow_slots) _).0 s.2).1))

-- the first is the header
pub saved_header : (p : Plan) → saved_fields p ≡ spell (header_part p) ∷ spell_all (ports_on p)
unfolding saved_parts
saved_header p = refl
