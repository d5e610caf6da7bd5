-- A field's key: one number for each thing that a plan may say once. Test 6 asks for the key, and so does test 12 of the strict
-- reading: keys rise with tag and number. In the loose reading fields of different keys may stand in any order. The header has key 0,
-- port n key n, flow n the n-th key after the ports, the extra bytes of port n the n-th after the flows, the jitter of flow n the n-th
-- after those, the clock the one after these. A plan has fields of one form only, and those of the newer one have the keys of the
-- header, the ports and the flows.
use Rattle.std.specs.Prelude.{ℕ, ◌+◌}
use Rattle.cqf.specs.Limits.{port_slots, flow_slots}
use Rattle.plan.specs.Layout.{layout}
use Rattle.plan.specs.Field.{Field}
use Rattle.plan_reading.specs.Rank.{number_of}

abbrev pub header_key : ℕ
header_key = 0

-- the key of port 1, of flow 1, of port 1's extra bytes, of flow 1's jitter, of the clock, and the first that no field has
abbrev pub port_keys : ℕ
port_keys = header_key + 1

abbrev pub flow_keys : ℕ
flow_keys = port_keys + port_slots

abbrev pub extra_keys : ℕ
extra_keys = flow_keys + flow_slots

abbrev pub jitter_keys : ℕ
jitter_keys = extra_keys + port_slots

abbrev pub clock_key : ℕ
clock_key = jitter_keys + flow_slots

abbrev pub key_slots : ℕ
key_slots = clock_key + 1

-- the key of a field is its kind's and its number, which is from 1 on, or 0 where a plan has one field of the kind only
abbrev pub key_of : Field → ℕ
key_of x = (layout x.kind).key + number_of x
