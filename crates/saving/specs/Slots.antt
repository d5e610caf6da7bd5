-- What the tables are saved as, by the kind of field and its slots. Header and clocks have one slot.
use Rattle.std.specs.Prelude.{ℕ, zero, suc, ◌+◌, ◌*◌, ◌≤◌, ◌<◌, List, [], ◌++◌, Bool, true, cond, not, ltb, get_or}
use Rattle.cqf.specs.Bounded.{sum_to}
use Rattle.cqf.specs.Form.{Form, older, newer}
use Rattle.cqf.specs.Limits.{port_slots, flow_slots, max_hops, max_extra}
use Rattle.cqf.specs.Plan.{Plan, clocks_equal, rate_of, extra_of, period_of, jitter_of, hops_of}
use Rattle.plan.specs.Bytes.{head_size}
use Rattle.plan.specs.Layout as wire
use Rattle.plan_reading.specs.Strict.{Entry}
use Rattle.plan_reading.specs.FieldBytes.{row_bytes}
use Rattle.plan_reading.specs.Saved.{spell, header_part, port_part, flow_part, extra_part, jitter_part, clock_part, header2_field, port2_field, flow2_field, field_when, collect_fields}
use Rattle.saving.specs.declared.kind.Kind.{Kind}

abbrev pub slots_of : Kind → ℕ
slots_of Kind.Header = 1
slots_of Kind.Port = port_slots
slots_of Kind.Flow = flow_slots
slots_of Kind.Extra = port_slots
slots_of Kind.Jitter = flow_slots
slots_of Kind.Clock = 1
slots_of Kind.Header2 = 1
slots_of Kind.Port2 = port_slots
slots_of Kind.Flow2 = flow_slots

-- the field of this kind in a slot, and whether the slot has it
abbrev pub field_in : Kind → Plan → ℕ → Entry
field_in Kind.Header p i = spell (header_part p)
field_in Kind.Port p q = spell (port_part p q)
field_in Kind.Flow p f = spell (flow_part p f)
field_in Kind.Extra p q = spell (extra_part p q)
field_in Kind.Jitter p f = spell (jitter_part p f)
field_in Kind.Clock p i = spell (clock_part p)
field_in Kind.Header2 p i = header2_field p
field_in Kind.Port2 p q = port2_field p q
field_in Kind.Flow2 p f = flow2_field p f

abbrev pub has_field : Kind → Plan → ℕ → Bool
has_field Kind.Header p i = true
has_field Kind.Port p q = ltb 0 (rate_of p q)
has_field Kind.Flow p f = ltb 0 (period_of p f)
has_field Kind.Extra p q = ltb 0 (extra_of p q)
has_field Kind.Jitter p f = ltb 0 (jitter_of p f)
has_field Kind.Clock p i = not (clocks_equal p)
has_field Kind.Header2 p i = true
has_field Kind.Port2 p q = ltb 0 (rate_of p q)
has_field Kind.Flow2 p f = ltb 0 (period_of p f)

-- its bytes, and those of the fields of this kind in all slots
abbrev pub fields_in : Kind → Plan → ℕ → List Entry
fields_in kind p slot = field_when (has_field kind p slot) (field_in kind p slot)

abbrev pub slot_bytes : Kind → Plan → ℕ → List ℕ
slot_bytes kind p slot = row_bytes (fields_in kind p slot)

abbrev pub kind_bytes : Kind → Plan → List ℕ
kind_bytes kind p = row_bytes (collect_fields (slots_of kind) (fields_in kind p))

-- the length of its value, by the columns that it goes by
abbrev pub value_size : Kind → Plan → ℕ → ℕ
value_size Kind.Header p i = wire.numbers_size wire.Kind.header
value_size Kind.Port p q = wire.numbers_size wire.Kind.port
value_size Kind.Flow p f = wire.numbers_size wire.Kind.flow + 2 * hops_of p f
value_size Kind.Extra p q = wire.numbers_size wire.Kind.extra
value_size Kind.Jitter p f = wire.numbers_size wire.Kind.jitter
value_size Kind.Clock p i = wire.numbers_size wire.Kind.clock
value_size Kind.Header2 p i = wire.numbers_size wire.Kind.header2
value_size Kind.Port2 p q = wire.numbers_size wire.Kind.port2
value_size Kind.Flow2 p f = wire.numbers_size wire.Kind.flow2 + 2 * hops_of p f

-- the most bytes of a flow's numbers
abbrev pub most_numbers : ℕ
most_numbers = wire.numbers_size wire.Kind.flow2

-- how many bytes they are
abbrev pub slot_size : Kind → Plan → ℕ → ℕ
slot_size kind p slot = cond (has_field kind p slot) (head_size + value_size kind p slot) 0

abbrev pub kind_size : Kind → Plan → ℕ
kind_size kind p = sum_to (slots_of kind) (slot_size kind p)

-- the kinds of a form in the order in which they are saved, and the fields of the first of them
abbrev pub kinds_in : Form → ℕ
kinds_in older = 6
kinds_in newer = 3

abbrev pub kind_at : Form → ℕ → Kind
kind_at older zero = Kind.Header
kind_at older (suc zero) = Kind.Port
kind_at older (suc (suc zero)) = Kind.Flow
kind_at older (suc (suc (suc zero))) = Kind.Extra
kind_at older (suc (suc (suc (suc zero)))) = Kind.Jitter
kind_at older (suc (suc (suc (suc (suc k))))) = Kind.Clock
kind_at newer zero = Kind.Header2
kind_at newer (suc zero) = Kind.Port2
kind_at newer (suc (suc k)) = Kind.Flow2

unfoldable pub kinds_bytes : Form → ℕ → Plan → List ℕ
unfolding row_bytes collect_fields
kinds_bytes form zero p = []
kinds_bytes form (suc k) p = kinds_bytes form k p ++ kind_bytes (kind_at form k) p

-- how many bytes all fields of a plan are
abbrev pub saved_size : Form → Plan → ℕ
saved_size form p = sum_to (kinds_in form) (λ k. kind_size (kind_at form k) p)

-- what the tables of a valid plan keep to: no port adds more bytes to a frame, and no route has more ports, than a field may name
pub record SlotsInRange (extras hops : List ℕ) : Type 0 where
  pub extra_most : (q : ℕ) → q < port_slots → get_or extras q 0 ≤ max_extra
  pub hops_most : (f : ℕ) → f < flow_slots → get_or hops f 0 ≤ max_hops
