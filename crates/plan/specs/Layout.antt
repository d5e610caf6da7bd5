-- The wire format: a row for each kind of field (document 01, "The plan's bytes", and document 02). What is read, tested and
-- written of a field follows from its row.
use Rattle.std.specs.Prelude.{ℕ, zero, suc, ◌+◌, List, [], ◌∷◌, ◌++◌, Bool, true, false, cond, eqb}
use Rattle.cqf.specs.Bounded.{within}
use Rattle.cqf.specs.Form.{Form, older, newer, most_hops_in}
use Rattle.cqf.specs.Limits.{port_slots, flow_slots, guard_ok, top_ok, drift_ok, timing_jitter_ok, sync_error_ok, port_ok, rate_ok, length_ok, blocking_ok, extra_ok, flow_ok, period_ok, count_ok, jitter_ok}
use Rattle.plan.specs.Bytes.{byte_at}

-- a number stands in 2 bytes or in 4
pub data Width : Type 0 where
  two : Width
  four : Width

abbrev pub bytes_in : Width → ℕ
bytes_in two = 2
bytes_in four = 4

-- a number of a field: its width and its range
pub record Number : Type 0 where
  pub width : Width
  pub ok : ℕ → Bool

abbrev in2 : (ℕ → Bool) → Number
in2 range = record { width = two; ok = range }

abbrev in4 : (ℕ → Bool) → Number
in4 range = record { width = four; ok = range }

-- a kind of field: the form of the plans that may have it; its tag; the key before the first of its fields, or that of the one field that a plan may have of it; its numbers
-- in their order; whether the first of them is the field's own number (a plan has one field of a kind without); and the most ports of
-- the route that follows them, 0 where none does
pub record Layout : Type 0 where
  pub form : Form
  pub tag : ℕ
  pub key : ℕ
  pub numbers : List Number
  pub numbered : Bool
  pub most_hops : ℕ

pub data Kind : Type 0 where
  header : Kind
  port : Kind
  flow : Kind
  extra : Kind
  jitter : Kind
  clock : Kind
  header2 : Kind
  port2 : Kind
  flow2 : Kind

abbrev pub layout : Kind → Layout
layout Kind.header = record { form = older; tag = 1; key = 0; numbers = in4 guard_ok ∷ in4 top_ok ∷ []; numbered = false; most_hops = 0 }
layout Kind.port =
    record { form = older; tag = 2; key = 0; numbers = in2 port_ok ∷ in4 rate_ok ∷ in2 blocking_ok ∷ []; numbered = true; most_hops = 0 }
layout Kind.flow =
    record {
      form = older;
      tag = 3;
      key = port_slots;
      numbers = in2 flow_ok ∷ in4 period_ok ∷ in2 count_ok ∷ in2 length_ok ∷ [];
      numbered = true;
      most_hops = most_hops_in older;
    }
layout Kind.extra =
    record { form = older; tag = 4; key = port_slots + flow_slots; numbers = in2 port_ok ∷ in2 extra_ok ∷ []; numbered = true; most_hops = 0 }
layout Kind.jitter =
    record { form = older; tag = 5; key = port_slots + flow_slots + port_slots; numbers = in2 flow_ok ∷ in4 jitter_ok ∷ []; numbered = true; most_hops = 0 }
layout Kind.clock =
    record {
      form = older;
      tag = 6;
      key = port_slots + flow_slots + port_slots + flow_slots + 1;
      numbers = in4 drift_ok ∷ in4 timing_jitter_ok ∷ in4 sync_error_ok ∷ [];
      numbered = false;
      most_hops = 0;
    }
-- tags 11, 12 and 13 (hexadecimal)
layout Kind.header2 =
    record {
      form = newer;
      tag = 17;
      key = 0;
      numbers = in4 guard_ok ∷ in4 top_ok ∷ in4 drift_ok ∷ in4 timing_jitter_ok ∷ in4 sync_error_ok ∷ [];
      numbered = false;
      most_hops = 0;
    }
layout Kind.port2 =
    record {
      form = newer;
      tag = 18;
      key = 0;
      numbers = in2 port_ok ∷ in4 rate_ok ∷ in2 blocking_ok ∷ in2 extra_ok ∷ [];
      numbered = true;
      most_hops = 0;
    }
layout Kind.flow2 =
    record {
      form = newer;
      tag = 19;
      key = port_slots;
      numbers = in2 flow_ok ∷ in4 period_ok ∷ in2 count_ok ∷ in2 length_ok ∷ in4 jitter_ok ∷ [];
      numbered = true;
      most_hops = most_hops_in newer;
    }

-- the kinds of field that a plan of each form may have; every kind
abbrev pub kinds : Form → List Kind
kinds older = Kind.header ∷ Kind.port ∷ Kind.flow ∷ Kind.extra ∷ Kind.jitter ∷ Kind.clock ∷ []
kinds newer = Kind.header2 ∷ Kind.port2 ∷ Kind.flow2 ∷ []

abbrev pub every_kind : List Kind
every_kind = kinds older ++ kinds newer

-- a plan is of the newer form when its first byte is the tag of that form's header
unfoldable pub form_by : List ℕ → Form
form_by s = cond (eqb (byte_at s 0) (layout Kind.header2).tag) newer older

-- the kind of the flows in a plan of this form
abbrev pub flow_kind : Form → Kind
flow_kind older = Kind.flow
flow_kind newer = Kind.flow2

-- the bytes of these numbers
abbrev pub widths : List Number → ℕ
widths [] = 0
widths (c ∷ cs) = bytes_in c.width + widths cs

-- those of a kind: its value before the route
abbrev pub numbers_size : Kind → ℕ
numbers_size k = widths (layout k).numbers

-- how many ports a route may have: none where the most is 0, else 1 at least
abbrev pub hops_allowed : (most hops : ℕ) → Bool
hops_allowed zero h = eqb h 0
hops_allowed (suc m) h = within 1 (suc m) h
