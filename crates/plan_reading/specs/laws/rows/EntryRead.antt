-- The bytes of a field, between any other bytes, are read as the field.
use Rattle.std.specs.Prelude.{ℕ, ◌+◌, ◌≡◌, List, ◌++◌, true, length}
use Rattle.std.proofs.Math.Path.{refl}
use Rattle.std.proofs.Common.{◌∙◌, arith, length-append}
use Rattle.std.proofs.Math.Seq.{take_all}
use Rattle.plan.specs.Bytes.{head_size, tag_at, size_at, whole_at, value_at}
use Rattle.cqf.specs.Form.{Form}
use Rattle.plan.specs.Field.{field, field_at}
use Rattle.plan_reading.specs.Rank.{tag_of}
use Rattle.plan_reading.specs.Reading.{route_at}
use Rattle.plan_reading.specs.Strict.{Entry}
use Rattle.plan_reading.specs.FieldBytes.{size_of, value_of, bytes_of}
use Rattle.plan_reading.specs.FieldOrder.{IsField}
use Rattle.plan.specs.laws.Whole.{whole}
use Rattle.plan.specs.laws.Tested.{field_whole}
use Rattle.plan_reading.specs.laws.order.Order.{tag_inside, size_inside, value_inside}
use Rattle.plan_reading.specs.laws.fields.Decoded.{decoded2, value_length, value_decoded, route_in_value}
use Rattle.plan_reading.specs.laws.rows.SavedRow.{EntryOk}

-- a field's bytes by themselves
module _ {form : Form} (e : Entry) (ok : EntryOk form e) where
  -- they are its head and its value
  pub entry_length : length (bytes_of e) ≡ head_size + size_of e.field
  unfolding bytes_of
  entry_length = omega (arith, value_length e.field e.route ok.numbers ok.fits)

  entry_tag : tag_at (bytes_of e) 0 ≡ tag_of e.field
  unfolding bytes_of
  entry_tag = refl

  entry_size : size_at (bytes_of e) 0 ≡ size_of e.field
  unfolding bytes_of size_at
  entry_size = decoded2 (size_of e.field)

  entry_value : value_at (bytes_of e) 0 ≡ value_of e.field e.route
  unfolding bytes_of value_at
  entry_value = take_all (size_at (bytes_of e) 0) (value_of e.field e.route) (omega (arith, entry_size, value_length e.field e.route ok.numbers ok.fits))

  entry_is_field : IsField (bytes_of e)
  entry_is_field = record { headed = omega (arith, entry_length); whole = omega (arith, entry_length, entry_size) }

-- between other bytes
module _ {form : Form} (front rest : List ℕ) (e : Entry) (ok : EntryOk form e) where
  abbrev there : List ℕ
  there = front ++ (bytes_of e ++ rest)

  tag_there : tag_at there (length front) ≡ tag_of e.field
  tag_there = tag_inside front (bytes_of e) rest (entry_is_field e ok) ∙ entry_tag e ok

  size_there : size_at there (length front) ≡ size_of e.field
  size_there = size_inside front (bytes_of e) rest (entry_is_field e ok) ∙ entry_size e ok

  value_there : value_at there (length front) ≡ value_of e.field e.route
  value_there = value_inside front (bytes_of e) rest (entry_is_field e ok) ∙ entry_value e ok

  whole_there : whole_at there (length front) ≡ true
  whole_there =
      whole there (length front)
      (omega (arith, size_there, entry_length e ok, length-append front (bytes_of e ++ rest), length-append (bytes_of e) rest))

  pub field_there : field_at form there (length front) ≡ field e.field (length front + length (bytes_of e))
  field_there =
      let next : length front + head_size + size_at there (length front) ≡ length front + length (bytes_of e) =
      omega (arith, size_there, entry_length e ok) in
      field_whole form there (length front) whole_there
      ∙ rw (next, tag_there, value_there)
      (value_decoded e.field e.route ok.numbers ok.fits (length front) (length front + length (bytes_of e)))

  -- with its route
  pub route_there : route_at e.field.kind there (length front) ≡ e.route
  route_there = rw value_there (route_in_value e.field e.route ok.numbers ok.fits)
