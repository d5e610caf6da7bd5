-- What a field says: one part or more, each of which goes into columns of the tables.
use Rattle.std.specs.Prelude.{ℕ, List, [], ◌∷◌, get_or}
use Rattle.cqf.specs.Plan.{Clock}
use Rattle.plan.specs.Layout.{Kind}
use Rattle.plan.specs.Field.{Field}

pub data Part : Type 0 where
  header : (guard top : ℕ) → Part
  port : (number rate blocking : ℕ) → Part
  flow : (number period count bytes : ℕ) (route : List ℕ) → Part
  extra : (number bytes : ℕ) → Part
  jitter : (number ns : ℕ) → Part
  clock : (numbers : Clock) → Part

-- the parts of a field of this kind, with these numbers and this route
abbrev pub parts_by : Kind → List ℕ → List ℕ → List Part
parts_by Kind.header ns r = header (get_or ns 0 0) (get_or ns 1 0) ∷ []
parts_by Kind.port ns r = port (get_or ns 0 0) (get_or ns 1 0) (get_or ns 2 0) ∷ []
parts_by Kind.flow ns r = flow (get_or ns 0 0) (get_or ns 1 0) (get_or ns 2 0) (get_or ns 3 0) r ∷ []
parts_by Kind.extra ns r = extra (get_or ns 0 0) (get_or ns 1 0) ∷ []
parts_by Kind.jitter ns r = jitter (get_or ns 0 0) (get_or ns 1 0) ∷ []
parts_by Kind.clock ns r = clock (record { drift = get_or ns 0 0; timing_jitter_of = get_or ns 1 0; sync_error_of = get_or ns 2 0 }) ∷ []
parts_by Kind.header2 ns r =
    header (get_or ns 0 0) (get_or ns 1 0)
    ∷ clock (record { drift = get_or ns 2 0; timing_jitter_of = get_or ns 3 0; sync_error_of = get_or ns 4 0 })
    ∷ []
parts_by Kind.port2 ns r = port (get_or ns 0 0) (get_or ns 1 0) (get_or ns 2 0) ∷ extra (get_or ns 0 0) (get_or ns 3 0) ∷ []
parts_by Kind.flow2 ns r = flow (get_or ns 0 0) (get_or ns 1 0) (get_or ns 2 0) (get_or ns 3 0) r ∷ jitter (get_or ns 0 0) (get_or ns 4 0) ∷ []

abbrev pub parts_of : Field → List ℕ → List Part
parts_of x r = parts_by x.kind x.numbers r

-- what a part of one kind gives; a part of any other kind gives the first
abbrev pub of_header_lem {ℓ} : {A : Type ℓ} → A → ((guard top : ℕ) → A) → Part → A
of_header_lem other gives (header g t) = gives g t
of_header_lem other gives (port n r b) = other
of_header_lem other gives (flow n p c l r) = other
of_header_lem other gives (extra n b) = other
of_header_lem other gives (jitter n j) = other
of_header_lem other gives (clock k) = other

abbrev pub of_port_lem {ℓ} : {A : Type ℓ} → A → ((number rate blocking : ℕ) → A) → Part → A
of_port_lem other gives (header g t) = other
of_port_lem other gives (port n r b) = gives n r b
of_port_lem other gives (flow n p c l r) = other
of_port_lem other gives (extra n b) = other
of_port_lem other gives (jitter n j) = other
of_port_lem other gives (clock k) = other

abbrev pub of_flow_lem {ℓ} : {A : Type ℓ} → A → ((number period count bytes : ℕ) (route : List ℕ) → A) → Part → A
of_flow_lem other gives (header g t) = other
of_flow_lem other gives (port n r b) = other
of_flow_lem other gives (flow n p c l r) = gives n p c l r
of_flow_lem other gives (extra n b) = other
of_flow_lem other gives (jitter n j) = other
of_flow_lem other gives (clock k) = other

abbrev pub ofExtra {ℓ} : {A : Type ℓ} → A → ((number bytes : ℕ) → A) → Part → A
ofExtra other gives (header g t) = other
ofExtra other gives (port n r b) = other
ofExtra other gives (flow n p c l r) = other
ofExtra other gives (extra n b) = gives n b
ofExtra other gives (jitter n j) = other
ofExtra other gives (clock k) = other

abbrev pub ofJitter {ℓ} : {A : Type ℓ} → A → ((number ns : ℕ) → A) → Part → A
ofJitter other gives (header g t) = other
ofJitter other gives (port n r b) = other
ofJitter other gives (flow n p c l r) = other
ofJitter other gives (extra n b) = other
ofJitter other gives (jitter n j) = gives n j
ofJitter other gives (clock k) = other

abbrev pub ofClock {ℓ} : {A : Type ℓ} → A → (Clock → A) → Part → A
ofClock other gives (header g t) = other
ofClock other gives (port n r b) = other
ofClock other gives (flow n p c l r) = other
ofClock other gives (extra n b) = other
ofClock other gives (jitter n j) = other
ofClock other gives (clock k) = gives k
