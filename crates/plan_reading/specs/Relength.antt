-- The bytes of a saved plan with another frame length for one flow.
use Rattle.std.specs.Prelude.{ℕ, List, map, cond, ◌&&◌, eqb, set}
use Rattle.cqf.specs.Form.{Form, older, newer}
use Rattle.cqf.specs.Plan.{Plan}
use Rattle.plan_reading.specs.Part.{Part, flow, of_flow_lem}
use Rattle.plan.specs.Layout.{Kind, layout}
use Rattle.plan_reading.specs.Rank.{tag_of, number_of}
use Rattle.plan_reading.specs.Strict.{Entry, entry_of}
use Rattle.plan_reading.specs.FieldBytes.{row_bytes}
use Rattle.plan_reading.specs.Saved.{saved_parts, part_bytes, newer_fields}

-- a part, with frames of this many bytes where it is that of flow n
abbrev pub relengthed : (n bytes : ℕ) → Part → Part
relengthed n bytes x = of_flow_lem x (λ m period count was route. flow m period count (cond (eqb m n) bytes was) route) x

-- a field of the newer form, with frames of this many bytes where it is that of flow n
abbrev pub relengthed2 : (n bytes : ℕ) → Entry → Entry
relengthed2 n bytes e =
    entry_of
    (record {
      kind = e.field.kind;
      numbers = cond (eqb (tag_of e.field) (layout Kind.flow2).tag && eqb (number_of e.field) n) (set e.field.numbers 3 bytes) e.field.numbers;
      hops = e.field.hops;
    })
    e.route

-- the bytes of the saved plan in which just that number is changed, in each form
unfoldable pub relengthed_bytes : Form → Plan → (n bytes : ℕ) → List ℕ
unfolding row_bytes saved_parts newer_fields
relengthed_bytes older p n bytes = part_bytes (map (relengthed n bytes) (saved_parts p))
relengthed_bytes newer p n bytes = row_bytes (map (relengthed2 n bytes) (newer_fields p))
