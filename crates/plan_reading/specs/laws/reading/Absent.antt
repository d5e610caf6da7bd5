-- Laws of what test 9 seeks: fields that name a port or a flow not in the plan.
use Rattle.std.specs.Prelude.{ℕ, ◌+◌, ◌-◌, ◌≤◌, ◌<◌, ◌≡◌, refl, List, ◌∷◌, Bool, true, false, not, ltb, length, get_or}
use Rattle.std.proofs.Common.{sym, ◌∙◌, arith}
use Rattle.std.proofs.Math.Bool.{or-false, and-eq-true_iff}
use borrow.Author.Tests.{eq-eqb, ne_eqb, lt-ltb, le-ltb, ltb-true, ltb-false, not-false}
use Rattle.cqf.specs.Bounded.{every}
use Rattle.cqf.specs.Limits.{flow_slots, flow_ok}
use Rattle.cqf.specs.Plan.{port_in}
use Rattle.cqf.proofs.laws.Route.{rate_at}
use Rattle.plan.specs.Bytes.{number2, head_size, tag_at, size_at, whole_at, value_at}
use Rattle.plan.specs.Layout.{Kind, layout}
use Rattle.plan_reading.specs.Part.{Part, header, port, flow, extra, jitter, clock}
use Rattle.plan_reading.specs.Reading.{route_at, has_flow, absent_in, names_absent, jitter_absent, extra_absent, or_else, first_field, first_absent}
use Rattle.plan_reading.specs.laws.fields.Within.{within_low}
use Rattle.plan_reading.specs.laws.reading.First.{NoneFrom, none_front}

-- flow n, from 1 on, stands in slot n - 1
pub flow_there : (periods : List ℕ) (n : ℕ) → flow_ok n ≡ true → 0 < get_or periods (n - 1) 0 → has_flow periods n ≡ true
flow_there periods n ok there =
    let l : 0 < get_or (0 ∷ periods) n 0 = omega (arith, rate_at periods n (within_low 1 flow_slots n ok)) in
    (and-eq-true_iff (flow_ok n) (ltb 0 (get_or (0 ∷ periods) n 0))).1 (ok, lt-ltb 0 (get_or (0 ∷ periods) n 0) l)

module _ (rates s : List ℕ) (at : ℕ) where
  -- only a flow has a route
  pub absent_other : (tag_at s at ≡ (layout Kind.flow).tag → ⊥) → (tag_at s at ≡ (layout Kind.flow2).tag → ⊥) → names_absent rates s at ≡ false
  unfolding names_absent absent_in
  absent_other h k = rw (ne_eqb (tag_at s at) (layout Kind.flow).tag h, ne_eqb (tag_at s at) (layout Kind.flow2).tag k)

  pub absent_flow : tag_at s at ≡ (layout Kind.flow).tag → names_absent rates s at ≡ not (every (port_in rates) (route_at Kind.flow s at))
  unfolding names_absent absent_in
  absent_flow h = rw (eq-eqb (tag_at s at) (layout Kind.flow).tag h, ne_eqb (tag_at s at) (layout Kind.flow2).tag (λ k. omega arith)) (or-false _)

  pub absent_flow2 : tag_at s at ≡ (layout Kind.flow2).tag → names_absent rates s at ≡ not (every (port_in rates) (route_at Kind.flow2 s at))
  unfolding names_absent absent_in
  absent_flow2 h = rw (ne_eqb (tag_at s at) (layout Kind.flow).tag (λ k. omega arith), eq-eqb (tag_at s at) (layout Kind.flow2).tag h)

  -- extra bytes name one port
  pub absent_plain : (tag_at s at ≡ (layout Kind.extra).tag → ⊥) → extra_absent rates s at ≡ false
  unfolding extra_absent
  absent_plain h = rw (ne_eqb (tag_at s at) (layout Kind.extra).tag h)

  pub absent_extra : tag_at s at ≡ (layout Kind.extra).tag → extra_absent rates s at ≡ not (port_in rates (number2 (value_at s at) 0))
  unfolding extra_absent
  absent_extra h = rw (eq-eqb (tag_at s at) (layout Kind.extra).tag h)

-- a jitter names one flow
module _ (periods s : List ℕ) (at : ℕ) where
  pub absent_steady : (tag_at s at ≡ (layout Kind.jitter).tag → ⊥) → jitter_absent periods s at ≡ false
  unfolding jitter_absent
  absent_steady h = rw (ne_eqb (tag_at s at) (layout Kind.jitter).tag h)

  pub absent_jitter : tag_at s at ≡ (layout Kind.jitter).tag → jitter_absent periods s at ≡ not (has_flow periods (number2 (value_at s at) 0))
  unfolding jitter_absent
  absent_jitter h = rw (eq-eqb (tag_at s at) (layout Kind.jitter).tag h)

-- an offset in the plan is the one, any other gives way to the next
module _ (s : List ℕ) (at next : ℕ) where
  pub else_here : at < length s → or_else s at next ≡ at
  else_here l = rw (lt-ltb _ _ l)

  pub else_next : length s ≤ at → or_else s at next ≡ next
  else_next l = rw (le-ltb _ _ l)

  else_none : length s ≤ or_else s at next → (length s ≤ at) × (length s ≤ next)
  else_none h = go (ltb at (length s)) refl
    where
      go : (b : Bool) → ltb at (length s) ≡ b → (length s ≤ at) × (length s ≤ next)
      go true q =
          let l : at < length s = ltb-true _ _ q in
          absurd (omega (arith, else_here l))
      go false q =
          let l : length s ≤ at = ltb-false _ _ q in
          (l, omega (arith, else_next l))

-- test 9 first seeks a route, then a jitter, then extra bytes
module _ (rates periods s : List ℕ) where
  pub first_route
      : first_field (names_absent rates) s < length s
      → first_absent rates periods s ≡ first_field (names_absent rates) s
  unfolding first_absent
  first_route l = else_here s _ _ l

  pub first_jitter
      : length s ≤ first_field (names_absent rates) s
      → first_field (jitter_absent periods) s < length s
      → first_absent rates periods s ≡ first_field (jitter_absent periods) s
  unfolding first_absent
  first_jitter r l = else_next s _ _ r ∙ else_here s _ _ l

  pub first_extra
      : length s ≤ first_field (names_absent rates) s
      → length s ≤ first_field (jitter_absent periods) s
      → first_absent rates periods s ≡ first_field (extra_absent rates) s
  unfolding first_absent
  first_extra r l = else_next s _ _ r ∙ else_next s _ _ l

-- what the field at this offset names is in the plan; what all fields from it on name is
pub record NamedThere (rates periods s : List ℕ) (at : ℕ) : Type 0 where
  pub routes : names_absent rates s at ≡ false
  pub jitters : jitter_absent periods s at ≡ false
  pub extras : extra_absent rates s at ≡ false

pub record AllThere (rates periods s : List ℕ) (at : ℕ) : Type 0 where
  pub routes : NoneFrom (names_absent rates) s at
  pub jitters : NoneFrom (jitter_absent periods) s at
  pub extras : NoneFrom (extra_absent rates) s at

pub all_there : (rates periods s : List ℕ) → length s ≤ first_absent rates periods s → AllThere rates periods s 0
unfolding first_absent
all_there rates periods s h =
    let t = else_none s _ _ h in
    let u = else_none s _ _ t.1 in
    record { routes = t.0; jitters = u.0; extras = u.1 }

module _ (rates periods s : List ℕ) (at : ℕ) where
  pub there_front
      : at < length s
      → whole_at s at ≡ true
      → AllThere rates periods s at
      → NamedThere rates periods s at × AllThere rates periods s (at + head_size + size_at s at)
  there_front l w h =
      let a = none_front (names_absent rates) s at l w h.routes in
      let b = none_front (jitter_absent periods) s at l w h.jitters in
      let c = none_front (extra_absent rates) s at l w h.extras in (
        record { routes = a.front; jitters = b.front; extras = c.front },
        record { routes = a.rest; jitters = b.rest; extras = c.rest },
      )

  pub there_route : tag_at s at ≡ (layout Kind.flow).tag → NamedThere rates periods s at → every (port_in rates) (route_at Kind.flow s at) ≡ true
  there_route kind h = not-false _ (sym (absent_flow rates s at kind) ∙ h.routes)

  pub there_route2 : tag_at s at ≡ (layout Kind.flow2).tag → NamedThere rates periods s at → every (port_in rates) (route_at Kind.flow2 s at) ≡ true
  there_route2 kind h = not-false _ (sym (absent_flow2 rates s at kind) ∙ h.routes)

  pub there_jitter : tag_at s at ≡ (layout Kind.jitter).tag → NamedThere rates periods s at → has_flow periods (number2 (value_at s at) 0) ≡ true
  there_jitter kind h = not-false _ (sym (absent_jitter periods s at kind) ∙ h.jitters)

  pub there_extra : tag_at s at ≡ (layout Kind.extra).tag → NamedThere rates periods s at → port_in rates (number2 (value_at s at) 0) ≡ true
  there_extra kind h = not-false _ (sym (absent_extra rates s at kind) ∙ h.extras)

-- what a part names is in the plan with these rates and periods: each port of a flow's route, the flow of a jitter, the port of
-- extra bytes
abbrev pub NamesPresent : (rates periods : List ℕ) → Part → Type 0
NamesPresent rates periods (header guard top) = Unit {0}
NamesPresent rates periods (port n rate blocking) = Unit {0}
NamesPresent rates periods (flow n period count bytes route) = every (port_in rates) route ≡ true
NamesPresent rates periods (extra n bytes) = port_in rates n ≡ true
NamesPresent rates periods (jitter n ns) = has_flow periods n ≡ true
NamesPresent rates periods (clock k) = Unit {0}

-- a port or a flow of which the part speaks is in the plan with these rates and periods
abbrev pub Present : (rates periods : List ℕ) → Part → Type 0
Present rates periods (header guard top) = Unit {0}
Present rates periods (port n rate blocking) = port_in rates n ≡ true
Present rates periods (flow n period count bytes route) = has_flow periods n ≡ true
Present rates periods (extra n bytes) = Unit {0}
Present rates periods (jitter n ns) = Unit {0}
Present rates periods (clock k) = Unit {0}
