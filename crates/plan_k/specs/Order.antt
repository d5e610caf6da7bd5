-- The theorem on field order applied to plan K: K and K with its fields in another order have the same fields, and so every question
-- is answered alike after their loads.
use Rattle.std.specs.Prelude.{◌≡◌, refl, ℕ}
use mathlib.Core.List.{List, [], ◌∷◌, flatten, ◌++◌, Permᴰ}
use Rattle.std.proofs.Math.Option.{some}
use Rattle.std.proofs.Common.{lit≤}
use Rattle.cqf.specs.Bounded.{elem, distinct, every}
use Rattle.cqf.specs.Plan.{no_plan}
use Rattle.plan.specs.Bytes.{number2, number4, size_at, whole_at, value_at, numbers2}
use Rattle.plan.specs.Layout.{form_by}
use Rattle.plan.specs.Field.{route_ports, route_in, value_in, kind_by, field_in, field_at, repeats}
use Rattle.plan_reading.specs.Store.{store, store_all}
use Rattle.plan_reading.specs.Draft.{blank, added}
use Rattle.plan_reading.specs.Reading.{step_at, names_absent, jitter_absent, extra_absent, first_from, first_absent, closing, read_from, read_as_of, read_plan, loose, absent_in, read_form}
use Rattle.plan_reading.specs.FieldOrder.{AllFields, none, more, SameFields}
use Rattle.sequences.specs.Calls.{load, after, held_from, held_bytes, form_after}
use Rattle.sequences.specs.Reply.{SameAnswers}
use Rattle.sequences.specs.results.Theorem.{order_free}
use Rattle.plan_k.specs.PlanK.{bytes_k, held_k}

-- the four fields of K
header : List ℕ
header = 0x01 ∷ 0x00 ∷ 0x08 ∷ 0x00 ∷ 0x00 ∷ 0x03 ∷ 0xe8 ∷ 0x00 ∷ 0x0f ∷ 0x42 ∷ 0x40 ∷ []

port : List ℕ
port = 0x02 ∷ 0x00 ∷ 0x08 ∷ 0x00 ∷ 0x01 ∷ 0x00 ∷ 0x00 ∷ 0x00 ∷ 0x64 ∷ 0x00 ∷ 0x00 ∷ []

flow1 : List ℕ
flow1 = 0x03 ∷ 0x00 ∷ 0x0c ∷ 0x00 ∷ 0x01 ∷ 0x00 ∷ 0x01 ∷ 0x86 ∷ 0xa0 ∷ 0x00 ∷ 0x01 ∷ 0x00 ∷ 0xe6 ∷ 0x00 ∷ 0x01 ∷ []

flow2 : List ℕ
flow2 = 0x03 ∷ 0x00 ∷ 0x0c ∷ 0x00 ∷ 0x02 ∷ 0x00 ∷ 0x01 ∷ 0xad ∷ 0xb0 ∷ 0x00 ∷ 0x01 ∷ 0x02 ∷ 0x5d ∷ 0x00 ∷ 0x01 ∷ []

-- K with its flows before its port and its header last
bytes_reordered : List ℕ
bytes_reordered =
    0x03 ∷ 0x00 ∷ 0x0c ∷ 0x00 ∷ 0x01 ∷ 0x00 ∷ 0x01 ∷ 0x86 ∷ 0xa0 ∷ 0x00 ∷ 0x01 ∷ 0x00 ∷ 0xe6 ∷ 0x00 ∷ 0x01
    ∷ 0x03 ∷ 0x00 ∷ 0x0c ∷ 0x00 ∷ 0x02 ∷ 0x00 ∷ 0x01 ∷ 0xad ∷ 0xb0 ∷ 0x00 ∷ 0x01 ∷ 0x02 ∷ 0x5d ∷ 0x00 ∷ 0x01
    ∷ 0x02 ∷ 0x00 ∷ 0x08 ∷ 0x00 ∷ 0x01 ∷ 0x00 ∷ 0x00 ∷ 0x00 ∷ 0x64 ∷ 0x00 ∷ 0x00
    ∷ 0x01 ∷ 0x00 ∷ 0x08 ∷ 0x00 ∷ 0x00 ∷ 0x03 ∷ 0xe8 ∷ 0x00 ∷ 0x0f ∷ 0x42 ∷ 0x40
    ∷ []

-- each is a whole field
whole : AllFields (header ∷ port ∷ flow1 ∷ flow2 ∷ [])
unfolding header port flow1 flow2 size_at
whole =
    more (record { headed = lit≤ tt; whole = refl })
    (more (record { headed = lit≤ tt; whole = refl })
    (more (record { headed = lit≤ tt; whole = refl })
    (more (record { headed = lit≤ tt; whole = refl }) none)))

-- the one order from the other: the header, then the port, to the end
permuted : Permᴰ (header ∷ port ∷ flow1 ∷ flow2 ∷ []) (flow1 ∷ flow2 ∷ port ∷ header ∷ [])
permuted =
    Permᴰ.trans (Permᴰ.swap refl refl)
    (Permᴰ.trans (Permᴰ.cons refl (Permᴰ.swap refl refl))
    (Permᴰ.trans (Permᴰ.cons refl (Permᴰ.cons refl (Permᴰ.swap refl refl)))
    (Permᴰ.trans (Permᴰ.swap refl refl)
    (Permᴰ.cons refl (Permᴰ.swap refl refl)))))

same_fields_k : SameFields bytes_k bytes_reordered
unfolding bytes_k bytes_reordered header port flow1 flow2 flatten ◌++◌
same_fields_k =
    record {
      first = header ∷ port ∷ flow1 ∷ flow2 ∷ [];
      second = flow1 ∷ flow2 ∷ port ∷ header ∷ [];
      fields = whole;
      bytes_first = refl;
      bytes_second = refl;
      permuted = permuted;
    }

held_reordered : held_bytes (load loose bytes_reordered ∷ []) ≡ some bytes_reordered
unfolding bytes_reordered no_plan held_bytes held_from read_plan read_as_of read_form form_by read_from blank step_at field_at field_in value_in kind_by number2 number4 size_at whole_at value_at numbers2 route_ports route_in repeats every distinct elem store_all store added closing first_from first_absent names_absent absent_in jitter_absent extra_absent
held_reordered = refl

same_answers_k
    : SameAnswers (form_after (load loose bytes_k ∷ [])) (after (load loose bytes_k ∷ [])) (form_after (load loose bytes_reordered ∷ [])) (after (load loose bytes_reordered ∷ []))
same_answers_k = order_free (load loose bytes_k ∷ []) (load loose bytes_reordered ∷ []) bytes_k bytes_reordered held_k held_reordered same_fields_k
