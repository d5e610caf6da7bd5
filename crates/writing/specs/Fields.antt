-- The bytes of fields that are written into a buffer.
use Rattle.std.specs.Prelude.{ℕ, List, [], ◌∷◌, ◌++◌, cond, leb, length}
use Rattle.cqf.specs.Limits.{max_hops}
use Rattle.cqf.specs.Plan.{Clock}
use Rattle.plan.specs.Layout.{Kind}
use Rattle.plan_reading.specs.Part.{Part}
use Rattle.plan_reading.specs.Strict.{entry_of}
use Rattle.plan_reading.specs.FieldBytes.{bytes2, bytes4, bytes_of}
use Rattle.plan_reading.specs.Saved.{spell}

-- a head: the tag, and the value's length in 2 bytes
abbrev pub head_bytes : (tag size : ℕ) → List ℕ
head_bytes tag size = tag ∷ bytes2 size

-- the numbers with which a header, a port and a flow begin in either form, and those of the clocks
abbrev pub header_numbers : (guard top : ℕ) → List ℕ
header_numbers guard top = bytes4 guard ++ bytes4 top

abbrev pub port_numbers : (number rate blocking : ℕ) → List ℕ
port_numbers n rate blocking = bytes2 n ++ (bytes4 rate ++ bytes2 blocking)

abbrev pub flow_numbers : (number period count bytes : ℕ) → List ℕ
flow_numbers n period count bytes = bytes2 n ++ (bytes4 period ++ (bytes2 count ++ bytes2 bytes))

abbrev pub clock_numbers : Clock → List ℕ
clock_numbers k = bytes4 k.drift ++ (bytes4 k.timing_jitter_of ++ bytes4 k.sync_error_of)

-- the older form's field that says this part
abbrev pub field_bytes : Part → List ℕ
field_bytes x = bytes_of (spell x)

-- a field of this kind with these numbers, over this route
abbrev pub routed_bytes : Kind → List ℕ → List ℕ → List ℕ
routed_bytes k ns r = bytes_of (entry_of (record { kind = k; numbers = ns; hops = length r }) r)

-- the same, and none where the route has more ports than a plan may have
abbrev pub allowed_bytes : Kind → List ℕ → List ℕ → List ℕ
allowed_bytes k ns r = cond (leb (length r) max_hops) (routed_bytes k ns r) []

abbrev pub flow_bytes : (number period count bytes : ℕ) → List ℕ → List ℕ
flow_bytes n period count bytes = allowed_bytes Kind.flow (n ∷ period ∷ count ∷ bytes ∷ [])

-- the newer form's fields
abbrev pub header2_bytes : (guard top : ℕ) → Clock → List ℕ
header2_bytes guard top k = routed_bytes Kind.header2 (guard ∷ top ∷ k.drift ∷ k.timing_jitter_of ∷ k.sync_error_of ∷ []) []

abbrev pub port2_bytes : (number rate blocking extra : ℕ) → List ℕ
port2_bytes n rate blocking extra = routed_bytes Kind.port2 (n ∷ rate ∷ blocking ∷ extra ∷ []) []

abbrev pub flow2_bytes : (number period count bytes jitter : ℕ) → List ℕ → List ℕ
flow2_bytes n period count bytes jitter = allowed_bytes Kind.flow2 (n ∷ period ∷ count ∷ bytes ∷ jitter ∷ [])
