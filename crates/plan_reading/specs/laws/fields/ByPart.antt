-- Parts and their keys. And what holds of what a part gives, by its key: shown of the kind of part that gives it, with its numbers in
-- range, and of what any other gives.
use Rattle.std.specs.Prelude.{ℕ, ◌+◌, ◌-◌, ◌≤◌, ◌<◌, ◌≡◌, ◌≢◌, List, [], ◌∷◌, true, cond, ltb, length}
use Rattle.std.proofs.Common.{arith, lt-ltb, le-ltb}
use Rattle.cqf.specs.Bounded.{distinct}
use Rattle.cqf.specs.Form.{Form, older, newer}
use Rattle.cqf.specs.Limits.{port_slots, flow_slots}
use Rattle.cqf.specs.Plan.{Clock, clock_ok}
use Rattle.plan_reading.specs.Part.{Part, header, port, flow, extra, jitter, clock, of_header_lem, of_port_lem, of_flow_lem, ofExtra, ofJitter, ofClock}
use Rattle.plan_reading.specs.Key.{header_key, extra_keys, clock_key}
use Rattle.plan_reading.specs.Ranges.{HeaderOk, PortOk, FlowOk, ExtraOk, JitterOk, PartOk}
use Rattle.plan_reading.specs.laws.fields.Ranged.{All}

-- one number for each thing that parts say
abbrev pub part_key : Part → ℕ
part_key (header g t) = header_key
part_key (port n r b) = header_key + n
part_key (flow n p c l r) = port_slots + n
part_key (extra n b) = port_slots + flow_slots + n
part_key (jitter n j) = port_slots + flow_slots + port_slots + n
part_key (clock k) = clock_key

-- the key of the field that says the part of this key, in a plan of this form: in the newer one the clocks stand in the header, the
-- extra bytes of a port and the jitter of a flow with the port and the flow
unfoldable pub owner : Form → ℕ → ℕ
owner older key = key
owner newer key = cond (ltb key extra_keys) key (cond (ltb key clock_key) (key - (port_slots + flow_slots)) header_key)

pub own_first : (key first : ℕ) → key ≡ first → key < extra_keys → owner newer key ≡ first
unfolding owner
own_first key first is l = rw (lt-ltb key extra_keys l) is

pub own_second : (key first : ℕ) → key ≡ port_slots + flow_slots + first → extra_keys ≤ key → key < clock_key → owner newer key ≡ first
unfolding owner
own_second key first is low high = rw (le-ltb key extra_keys low, lt-ltb key clock_key high) (omega arith)

-- parts of which each differs from this one, and of which none has the key of another
abbrev pub Apart : Part → List Part → Type 0
Apart x = All (λ y. part_key x ≢ part_key y)

abbrev pub Separate : List Part → Type 0
Separate [] = Unit {0}
Separate (x ∷ xs) = Apart x xs × Separate xs

-- a route holds no port twice
abbrev pub Once : Part → Type 0
Once (header g t) = Unit {0}
Once (port n r b) = Unit {0}
Once (flow n p c l r) = distinct r ≡ true
Once (extra n b) = Unit {0}
Once (jitter n j) = Unit {0}
Once (clock k) = Unit {0}

module _ {A : Type 0} (P : ℕ → A → Type 0) (other : A) (rest : (key : ℕ) → P key other) where
  pub of_header
      : (gives : (guard top : ℕ) → A)
      → ((g t : ℕ) → HeaderOk g t → P header_key (gives g t))
      → (x : Part)
      → PartOk x
      → P (part_key x) (of_header_lem other gives x)
  of_header gives own (header g t) k = own g t k
  of_header gives own (port n r b) k = rest (header_key + n)
  of_header gives own (flow n p c l r) k = rest (port_slots + n)
  of_header gives own (extra n b) k = rest (port_slots + flow_slots + n)
  of_header gives own (jitter n j) k = rest (port_slots + flow_slots + port_slots + n)
  of_header gives own (clock c) k = rest clock_key

  pub of_port
      : (gives : (number rate blocking : ℕ) → A)
      → ((n r b : ℕ) → PortOk n r b → P (header_key + n) (gives n r b))
      → (x : Part)
      → PartOk x
      → P (part_key x) (of_port_lem other gives x)
  of_port gives own (header g t) k = rest header_key
  of_port gives own (port n r b) k = own n r b k
  of_port gives own (flow n p c l r) k = rest (port_slots + n)
  of_port gives own (extra n b) k = rest (port_slots + flow_slots + n)
  of_port gives own (jitter n j) k = rest (port_slots + flow_slots + port_slots + n)
  of_port gives own (clock c) k = rest clock_key

  pub of_flow
      : (gives : (number period count bytes : ℕ) (route : List ℕ) → A)
      → ((n p c l : ℕ) (r : List ℕ) → FlowOk n p c l (length r) → P (port_slots + n) (gives n p c l r))
      → (x : Part)
      → PartOk x
      → P (part_key x) (of_flow_lem other gives x)
  of_flow gives own (header g t) k = rest header_key
  of_flow gives own (port n r b) k = rest (header_key + n)
  of_flow gives own (flow n p c l r) k = own n p c l r k
  of_flow gives own (extra n b) k = rest (port_slots + flow_slots + n)
  of_flow gives own (jitter n j) k = rest (port_slots + flow_slots + port_slots + n)
  of_flow gives own (clock c) k = rest clock_key

  pub of_extra
      : (gives : (number bytes : ℕ) → A)
      → ((n b : ℕ) → ExtraOk n b → P (port_slots + flow_slots + n) (gives n b))
      → (x : Part)
      → PartOk x
      → P (part_key x) (ofExtra other gives x)
  of_extra gives own (header g t) k = rest header_key
  of_extra gives own (port n r b) k = rest (header_key + n)
  of_extra gives own (flow n p c l r) k = rest (port_slots + n)
  of_extra gives own (extra n b) k = own n b k
  of_extra gives own (jitter n j) k = rest (port_slots + flow_slots + port_slots + n)
  of_extra gives own (clock c) k = rest clock_key

  pub of_jitter
      : (gives : (number ns : ℕ) → A)
      → ((n j : ℕ) → JitterOk n j → P (port_slots + flow_slots + port_slots + n) (gives n j))
      → (x : Part)
      → PartOk x
      → P (part_key x) (ofJitter other gives x)
  of_jitter gives own (header g t) k = rest header_key
  of_jitter gives own (port n r b) k = rest (header_key + n)
  of_jitter gives own (flow n p c l r) k = rest (port_slots + n)
  of_jitter gives own (extra n b) k = rest (port_slots + flow_slots + n)
  of_jitter gives own (jitter n j) k = own n j k
  of_jitter gives own (clock c) k = rest clock_key

  pub of_clock
      : (gives : Clock → A)
      → ((c : Clock) → clock_ok c ≡ true → P clock_key (gives c))
      → (x : Part)
      → PartOk x
      → P (part_key x) (ofClock other gives x)
  of_clock gives own (header g t) k = rest header_key
  of_clock gives own (port n r b) k = rest (header_key + n)
  of_clock gives own (flow n p c l r) k = rest (port_slots + n)
  of_clock gives own (extra n b) k = rest (port_slots + flow_slots + n)
  of_clock gives own (jitter n j) k = rest (port_slots + flow_slots + port_slots + n)
  of_clock gives own (clock c) k = own c k
