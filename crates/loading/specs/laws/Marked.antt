-- What one field names, and what is marked for it.
use Rattle.std.specs.Prelude.{ℕ, suc, ◌+◌, ◌-◌, ◌<◌, ◌≡◌, List, [], ◌∷◌, Bool, not, ◌&&◌, ◌||◌, ltb, eqb, length, get_or}
use Rattle.std.proofs.Math.Path.{refl}
use Rattle.std.proofs.Common.{sym, ap, ◌∙◌, true≢false, arith, ltb-true, eqb-true}
use Rattle.std.proofs.Math.Bool.{true, false, and-eq-true_iff}
use Rattle.std.proofs.lemmas.Bool.{not-false}
use Rattle.cqf.specs.Bounded.{every}
use Rattle.cqf.specs.Form.{Form}
use Rattle.cqf.specs.Limits.{port_slots, flow_slots, port_ok, flow_ok}
use Rattle.cqf.specs.Plan.{port_in}
use Rattle.cqf.proofs.laws.Route.{port_in_there}
use Rattle.plan.specs.Bytes.{number2, tag_at, value_at}
use Rattle.plan.specs.Layout.{Kind, layout, hops_allowed}
use Rattle.plan.specs.Field.{Field, field, field_at, field_by}
use Rattle.plan_reading.specs.Key.{extra_keys, jitter_keys, key_of}
use Rattle.plan_reading.specs.Reading.{route_at, has_flow, absent_in, names_absent, jitter_absent, extra_absent}
use Rattle.plan_reading.specs.laws.fields.Passes.{field_passes}
use Rattle.plan_reading.specs.laws.fields.Found.{found-numbers, found_route}
use Rattle.plan_reading.specs.laws.fields.Ranged.{InRange}
use Rattle.plan_reading.specs.laws.fields.Within.{within_low, within_high, slot_below}
use Rattle.plan_reading.specs.laws.reading.Absent.{flow_there, absent_flow, absent_flow2, absent_jitter, absent_extra}
use Rattle.loading.specs.Loading.{Covers, marks_of}
use Rattle.loading.specs.laws.Covers.{covers_route, mark_inside}

-- a field whose route is marked names no port that is not
no_route : (b : ℕ → Bool) (r : List ℕ) → length r ≡ 0 → every b r ≡ true
unfolding every
no_route b [] e = refl
no_route b (n ∷ r) e = absurd (omega arith)

module _ (named s : List ℕ) (at : ℕ) where
  routed_kind : (k : Kind) → tag_at s at ≡ (layout k).tag → every (port_in named) (route_at k s at) ≡ true → names_absent named s at ≡ false
  unfolding names_absent absent_in
  routed_kind Kind.header e t = rw e
  routed_kind Kind.port e t = rw e
  routed_kind Kind.flow e t = rw (e, t)
  routed_kind Kind.extra e t = rw e
  routed_kind Kind.jitter e t = rw e
  routed_kind Kind.clock e t = rw e
  routed_kind Kind.header2 e t = rw e
  routed_kind Kind.port2 e t = rw e
  routed_kind Kind.flow2 e t = rw (e, t)

  -- and one that names none that is absent has its ports there
  named_kind
      : (k : Kind)
      → tag_at s at ≡ (layout k).tag
      → (h : ℕ)
      → length (route_at k s at) ≡ h
      → hops_allowed (layout k).most_hops h ≡ true
      → names_absent named s at ≡ false
      → every (port_in named) (route_at k s at) ≡ true
  named_kind Kind.header e h l m n = no_route (port_in named) (route_at Kind.header s at) (l ∙ eqb-true h 0 m)
  named_kind Kind.port e h l m n = no_route (port_in named) (route_at Kind.port s at) (l ∙ eqb-true h 0 m)
  named_kind Kind.flow e h l m n = not-false _ (sym (absent_flow named s at e) ∙ n)
  named_kind Kind.extra e h l m n = no_route (port_in named) (route_at Kind.extra s at) (l ∙ eqb-true h 0 m)
  named_kind Kind.jitter e h l m n = no_route (port_in named) (route_at Kind.jitter s at) (l ∙ eqb-true h 0 m)
  named_kind Kind.clock e h l m n = no_route (port_in named) (route_at Kind.clock s at) (l ∙ eqb-true h 0 m)
  named_kind Kind.header2 e h l m n = no_route (port_in named) (route_at Kind.header2 s at) (l ∙ eqb-true h 0 m)
  named_kind Kind.port2 e h l m n = no_route (port_in named) (route_at Kind.port2 s at) (l ∙ eqb-true h 0 m)
  named_kind Kind.flow2 e h l m n = not-false _ (sym (absent_flow2 named s at e) ∙ n)

  pub names_there
      : (form : Form) (x : Field) (next : ℕ)
      → field_at form s at ≡ field x next
      → names_absent named s at ≡ false
      → every (port_in named) (route_at x.kind s at) ≡ true
  names_there form x next stands n =
      named_kind x.kind (field_passes form s at x next stands).passes.kind x.hops (found_route form s at x next stands).hops
      (found-numbers form s at x next stands).hops n

  pub routed
      : (form : Form) (x : Field) (next : ℕ)
      → field_at form s at ≡ field x next
      → every (port_in named) (route_at x.kind s at) ≡ true
      → names_absent named s at ≡ false
  routed form x next stands t = routed_kind x.kind (field_passes form s at x next stands).passes.kind t

-- a route whose ports are marked names none that is absent where the marked ones are there
module _ (named rates s : List ℕ) (at : ℕ) (c : Covers named rates) where
  still : (a b d : Bool) → (b ≡ true → d ≡ true) → (a && not b) ≡ false → (a && not d) ≡ false
  still false b d f h = refl
  still true false d f h = absurd (true≢false h)
  still true true d f h = rw (f refl)

  covers_in : (k : Kind) → absent_in k named s at ≡ false → absent_in k rates s at ≡ false
  unfolding absent_in
  covers_in k h = still (eqb (tag_at s at) (layout k).tag) _ _ (covers_route named rates (route_at k s at) c) h

  pub covers_flow : names_absent named s at ≡ false → names_absent rates s at ≡ false
  unfolding names_absent
  covers_flow h = go (absent_in Kind.flow named s at) (absent_in Kind.flow2 named s at) refl refl h
    where
      go
          : (a b : Bool)
          → absent_in Kind.flow named s at ≡ a
          → absent_in Kind.flow2 named s at ≡ b
          → a || b ≡ false
          → (absent_in Kind.flow rates s at || absent_in Kind.flow2 rates s at) ≡ false
      go true b p q e = absurd (true≢false e)
      go false b p q e = rw (covers_in Kind.flow p, covers_in Kind.flow2 (q ∙ e))

-- nor do extra bytes or a jitter whose key is marked
module _ (seen rates periods s : List ℕ) (at : ℕ) where
  port-marked
      : (n : ℕ)
      → port_ok n ≡ true
      → 0 < get_or seen ((layout Kind.extra).key + n) 0
      → Covers (marks_of seen extra_keys port_slots) rates
      → port_in rates n ≡ true
  port-marked n ok m c =
      let here : extra_keys + (n - 1) ≡ (layout Kind.extra).key + n = omega (arith, within_low 1 port_slots n ok) in
      let own : 0 < get_or seen (extra_keys + (n - 1)) 0 = rw here m in
      let there = c (n - 1) (omega (arith, mark_inside seen extra_keys port_slots (n - 1) (slot_below port_slots n ok), own)) in
      port_in_there rates n (within_low 1 port_slots n ok) (within_high 1 port_slots n ok) (λ z. omega (arith, there, z))

  flow_marked
      : (n : ℕ)
      → flow_ok n ≡ true
      → 0 < get_or seen ((layout Kind.jitter).key + n) 0
      → Covers (marks_of seen jitter_keys flow_slots) periods
      → has_flow periods n ≡ true
  flow_marked n ok m c =
      let here : jitter_keys + (n - 1) ≡ (layout Kind.jitter).key + n = omega (arith, within_low 1 flow_slots n ok) in
      let own : 0 < get_or seen (jitter_keys + (n - 1)) 0 = rw here m in
      flow_there periods n ok (c (n - 1) (omega (arith, mark_inside seen jitter_keys flow_slots (n - 1) (slot_below flow_slots n ok), own)))

  pub marked_kind
      : (k : Kind)
      → tag_at s at ≡ (layout k).tag
      → InRange (layout k).numbers 0 (field_by k (value_at s at)).numbers
      → 0 < get_or seen (key_of (field_by k (value_at s at))) 0
      → Covers (marks_of seen extra_keys port_slots) rates
      → Covers (marks_of seen jitter_keys flow_slots) periods
      → (jitter_absent periods s at ≡ false) × (extra_absent rates s at ≡ false)
  unfolding jitter_absent extra_absent
  marked_kind Kind.header e t m c g = (rw e, rw e)
  marked_kind Kind.port e t m c g = (rw e, rw e)
  marked_kind Kind.flow e t m c g = (rw e, rw e)
  marked_kind Kind.extra e t m c g = (rw e, rw (e, port-marked (number2 (value_at s at) 0) t.0 m c))
  marked_kind Kind.jitter e t m c g = (rw (e, flow_marked (number2 (value_at s at) 0) t.0 m g), rw e)
  marked_kind Kind.clock e t m c g = (rw e, rw e)
  marked_kind Kind.header2 e t m c g = (rw e, rw e)
  marked_kind Kind.port2 e t m c g = (rw e, rw e)
  marked_kind Kind.flow2 e t m c g = (rw e, rw e)

-- a key of extra bytes, or of a jitter, is that of a field of its kind: where the field names none that is absent, its port or its flow is
-- there
module _ (rates periods s : List ℕ) (at : ℕ) where
  abbrev pub Keyed : (key q : ℕ) → Kind → Type 0
  Keyed key q k =
      (tag_at s at ≡ (layout k).tag)
      × InRange (layout k).numbers 0 (field_by k (value_at s at)).numbers
      × (key + q ≡ key_of (field_by k (value_at s at)))

  slot_there : (l : List ℕ) (n q : ℕ) → n ≡ suc q → ltb 0 (get_or (0 ∷ l) n 0) ≡ true → 0 < get_or l q 0
  slot_there l n q is h = ltb-true 0 (get_or l q 0) (sym (ap (λ (m : ℕ). ltb 0 (get_or (0 ∷ l) m 0)) is) ∙ h)

  pub extra_there : (q : ℕ) (k : Kind) → q < port_slots → Keyed extra_keys q k → extra_absent rates s at ≡ false → 0 < get_or rates q 0
  extra_there q Kind.header l t h = absurd (omega (arith, t.2))
  extra_there q Kind.port l t h = absurd (omega (arith, t.2, within_high 1 port_slots (number2 (value_at s at) 0) t.1.0))
  extra_there q Kind.flow l t h = absurd (omega (arith, t.2, within_high 1 flow_slots (number2 (value_at s at) 0) t.1.0))
  extra_there q Kind.extra l t h =
      let n = number2 (value_at s at) 0 in
      let in_plan : port_in rates n ≡ true = not-false _ (sym (absent_extra rates s at t.0) ∙ h) in
      slot_there rates n q (omega (arith, t.2)) ((and-eq-true_iff (port_ok n) (ltb 0 (get_or (0 ∷ rates) n 0))).0 in_plan).1
  extra_there q Kind.jitter l t h = absurd (omega (arith, t.2, within_low 1 flow_slots (number2 (value_at s at) 0) t.1.0))
  extra_there q Kind.clock l t h = absurd (omega (arith, t.2))
  extra_there q Kind.header2 l t h = absurd (omega (arith, t.2))
  extra_there q Kind.port2 l t h = absurd (omega (arith, t.2, within_high 1 port_slots (number2 (value_at s at) 0) t.1.0))
  extra_there q Kind.flow2 l t h = absurd (omega (arith, t.2, within_high 1 flow_slots (number2 (value_at s at) 0) t.1.0))

  pub jitter_there : (f : ℕ) (k : Kind) → f < flow_slots → Keyed jitter_keys f k → jitter_absent periods s at ≡ false → 0 < get_or periods f 0
  jitter_there f Kind.header l t h = absurd (omega (arith, t.2))
  jitter_there f Kind.port l t h = absurd (omega (arith, t.2, within_high 1 port_slots (number2 (value_at s at) 0) t.1.0))
  jitter_there f Kind.flow l t h = absurd (omega (arith, t.2, within_high 1 flow_slots (number2 (value_at s at) 0) t.1.0))
  jitter_there f Kind.extra l t h = absurd (omega (arith, t.2, within_high 1 port_slots (number2 (value_at s at) 0) t.1.0))
  jitter_there f Kind.jitter l t h =
      let n = number2 (value_at s at) 0 in
      let in_plan : has_flow periods n ≡ true = not-false _ (sym (absent_jitter periods s at t.0) ∙ h) in
      slot_there periods n f (omega (arith, t.2)) ((and-eq-true_iff (flow_ok n) (ltb 0 (get_or (0 ∷ periods) n 0))).0 in_plan).1
  jitter_there f Kind.clock l t h = absurd (omega (arith, t.2))
  jitter_there f Kind.header2 l t h = absurd (omega (arith, t.2))
  jitter_there f Kind.port2 l t h = absurd (omega (arith, t.2, within_high 1 port_slots (number2 (value_at s at) 0) t.1.0))
  jitter_there f Kind.flow2 l t h = absurd (omega (arith, t.2, within_high 1 flow_slots (number2 (value_at s at) 0) t.1.0))
