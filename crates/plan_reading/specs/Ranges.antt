-- A field whose numbers are in range, and a route that fits the field: what tests 4 and 5 leave. And the same of what it says.
use Rattle.std.specs.Prelude.{ℕ, ◌≡◌, List, true, length}
use Rattle.cqf.specs.Form.{Form}
use Rattle.cqf.specs.Bounded.{every}
use Rattle.cqf.specs.Limits.{guard_ok, top_ok, port_ok, rate_ok, length_ok, blocking_ok, extra_ok, flow_ok, period_ok, count_ok, jitter_ok, hops_ok}
use Rattle.cqf.specs.Plan.{clock_ok}
use Rattle.plan.specs.Layout.{layout, hops_allowed}
use Rattle.plan.specs.Field.{Field, in_ranges}
use Rattle.plan_reading.specs.Part.{Part, header, port, flow, extra, jitter, clock}

-- the field may stand in a plan of this form, each of its numbers is in its range, and it has as many ports as it may
pub record NumbersOk (form : Form) (x : Field) : Type 0 where
  pub kind : (layout x.kind).form ≡ form
  pub ranges : in_ranges (layout x.kind).numbers x.numbers ≡ true
  pub hops : hops_allowed (layout x.kind).most_hops x.hops ≡ true

-- a route of h ports, each with a number in range
pub record RouteOk (h : ℕ) (r : List ℕ) : Type 0 where
  pub hops : length r ≡ h
  pub ports : every port_ok r ≡ true

-- r is the field's route
abbrev pub RouteFits : Field → List ℕ → Type 0
RouteFits x r = RouteOk x.hops r

pub record HeaderOk (g t : ℕ) : Type 0 where
  pub guard : guard_ok g ≡ true
  pub top : top_ok t ≡ true

pub record PortOk (n r b : ℕ) : Type 0 where
  pub number : port_ok n ≡ true
  pub rate : rate_ok r ≡ true
  pub blocking : blocking_ok b ≡ true

pub record FlowOk (n p c l h : ℕ) : Type 0 where
  pub number : flow_ok n ≡ true
  pub period : period_ok p ≡ true
  pub count : count_ok c ≡ true
  pub length : length_ok l ≡ true
  pub hops : hops_ok h ≡ true

pub record ExtraOk (n b : ℕ) : Type 0 where
  pub number : port_ok n ≡ true
  pub bytes : extra_ok b ≡ true

pub record JitterOk (n j : ℕ) : Type 0 where
  pub number : flow_ok n ≡ true
  pub ns : jitter_ok j ≡ true

-- each number of the part is in its range
abbrev pub PartOk : Part → Type 0
PartOk (header g t) = HeaderOk g t
PartOk (port n r b) = PortOk n r b
PartOk (flow n p c l r) = FlowOk n p c l (length r)
PartOk (extra n b) = ExtraOk n b
PartOk (jitter n j) = JitterOk n j
PartOk (clock k) = clock_ok k ≡ true
