-- What a held plan says, and the fields as which it is saved: the header, the ports, the flows, then the fields of later tags, each
-- by rising number. What says no more than its absence is left out.
use Rattle.std.specs.Prelude.{ℕ, zero, suc, Bool, cond, not, ltb, length}
use mathlib.Core.List.{List, [], ◌∷◌, ◌++◌, Memᴰ}
use Rattle.cqf.specs.Limits.{port_slots, flow_slots}
use Rattle.cqf.specs.Form.{Form, older, newer}
use Rattle.cqf.specs.Plan.{Plan, clocks_equal, rate_of, blocking_of, extra_of, period_of, count_of, length_of, jitter_of, route_of}
use Rattle.plan.specs.Layout.{Kind}
use Rattle.plan_reading.specs.Part.{Part, header, port, flow, extra, jitter, clock}
use Rattle.plan_reading.specs.FieldOrder.{SaysNothing}
use Rattle.plan_reading.specs.Strict.{Entry, entry_of, fields_in}
use Rattle.plan_reading.specs.FieldBytes.{row_bytes}

-- the field that says this part alone
abbrev plain : Kind → List ℕ → Entry
plain k ns = entry_of (record { kind = k; numbers = ns; hops = 0 }) []

abbrev pub spell : Part → Entry
spell (header g t) = plain Kind.header (g ∷ t ∷ [])
spell (port n r b) = plain Kind.port (n ∷ r ∷ b ∷ [])
spell (flow n p c l r) = entry_of (record { kind = Kind.flow; numbers = n ∷ p ∷ c ∷ l ∷ []; hops = length r }) r
spell (extra n b) = plain Kind.extra (n ∷ b ∷ [])
spell (jitter n j) = plain Kind.jitter (n ∷ j ∷ [])
spell (clock k) = plain Kind.clock (k.drift ∷ k.timing_jitter_of ∷ k.sync_error_of ∷ [])

abbrev pub spell_all : List Part → List Entry
spell_all [] = []
spell_all (x ∷ xs) = spell x ∷ spell_all xs

-- a part where the test holds, and none where it does not
abbrev pub when : Bool → Part → List Part
when test x = cond test (x ∷ []) []

-- the parts of the first n slots
unfoldable pub collect : ℕ → (ℕ → List Part) → List Part
collect zero at = []
collect (suc n) at = collect n at ++ at n

-- the header, the port in slot q, the flow in slot f, the port's extra bytes, the flow's jitter, the clocks
abbrev pub header_part : Plan → Part
header_part p = header p.guard p.top

abbrev pub port_part : Plan → ℕ → Part
port_part p q = port (suc q) (rate_of p q) (blocking_of p q)

abbrev pub flow_part : Plan → ℕ → Part
flow_part p f = flow (suc f) (period_of p f) (count_of p f) (length_of p f) (route_of p f)

abbrev pub extra_part : Plan → ℕ → Part
extra_part p q = extra (suc q) (extra_of p q)

abbrev pub jitter_part : Plan → ℕ → Part
jitter_part p f = jitter (suc f) (jitter_of p f)

abbrev pub clock_part : Plan → Part
clock_part p = clock p.clock

-- each where it says something
abbrev pub port_parts : Plan → ℕ → List Part
port_parts p q = when (ltb 0 (rate_of p q)) (port_part p q)

abbrev pub flow_parts : Plan → ℕ → List Part
flow_parts p f = when (ltb 0 (period_of p f)) (flow_part p f)

abbrev pub extra_parts : Plan → ℕ → List Part
extra_parts p q = when (ltb 0 (extra_of p q)) (extra_part p q)

abbrev pub jitter_parts : Plan → ℕ → List Part
jitter_parts p f = when (ltb 0 (jitter_of p f)) (jitter_part p f)

abbrev pub clock_parts : Plan → List Part
clock_parts p = when (not (clocks_equal p)) (clock_part p)

-- all that a plan says, in strict order of the fields that say it
unfoldable pub saved_parts : Plan → List Part
unfolding collect
saved_parts p =
    header_part p
    ∷ (collect port_slots (port_parts p)
    ++ (collect flow_slots (flow_parts p)
    ++ (collect port_slots (extra_parts p)
    ++ (collect flow_slots (jitter_parts p)
    ++ clock_parts p))))

-- the fields, and their bytes
abbrev pub saved_fields : Plan → List Entry
saved_fields p = spell_all (saved_parts p)

abbrev pub part_bytes : List Part → List ℕ
part_bytes xs = row_bytes (spell_all xs)

unfoldable pub saved_bytes : Plan → List ℕ
unfolding saved_parts row_bytes
saved_bytes p = part_bytes (saved_parts p)

-- The same in the newer form: the header with the clocks, the ports with their extra bytes, the flows with their jitter, each by rising
-- number.
abbrev pub header2_field : Plan → Entry
header2_field p =
    plain Kind.header2 (p.guard ∷ p.top ∷ p.clock.drift ∷ p.clock.timing_jitter_of ∷ p.clock.sync_error_of ∷ [])

abbrev pub port2_field : Plan → ℕ → Entry
port2_field p q = plain Kind.port2 (suc q ∷ rate_of p q ∷ blocking_of p q ∷ extra_of p q ∷ [])

abbrev pub flow2_field : Plan → ℕ → Entry
flow2_field p f =
    entry_of
    (record {
      kind = Kind.flow2;
      numbers = suc f ∷ period_of p f ∷ count_of p f ∷ length_of p f ∷ jitter_of p f ∷ [];
      hops = length (route_of p f);
    })
    (route_of p f)

-- a field where the test holds, and the fields of the first n slots
abbrev pub field_when : Bool → Entry → List Entry
field_when test e = cond test (e ∷ []) []

unfoldable pub collect_fields : ℕ → (ℕ → List Entry) → List Entry
collect_fields zero at = []
collect_fields (suc n) at = collect_fields n at ++ at n

abbrev pub port2_fields : Plan → ℕ → List Entry
port2_fields p q = field_when (ltb 0 (rate_of p q)) (port2_field p q)

abbrev pub flow2_fields : Plan → ℕ → List Entry
flow2_fields p f = field_when (ltb 0 (period_of p f)) (flow2_field p f)

unfoldable pub newer_fields : Plan → List Entry
unfolding collect_fields
newer_fields p = header2_field p ∷ (collect_fields port_slots (port2_fields p) ++ collect_fields flow_slots (flow2_fields p))

-- the fields as which a plan is saved in each form, and their bytes
abbrev pub form_fields : Form → Plan → List Entry
form_fields older p = saved_fields p
form_fields newer p = newer_fields p

unfoldable pub form_bytes : Form → Plan → List ℕ
unfolding saved_parts newer_fields row_bytes
form_bytes form p = row_bytes (form_fields form p)

-- no field of a plan says what its absence says
abbrev pub NoneSaysNothing : List ℕ → Type 0
NoneSaysNothing s = (e : Entry) → Memᴰ e (fields_in s) → SaysNothing e.field → ⊥
