-- A plan's bytes are those of its fields as they are read.
use Rattle.std.specs.Prelude.{ℕ, zero, suc, ◌+◌, ◌*◌, ◌/◌, ◌≤◌, ◌≡◌, true}
use Rattle.std.proofs.Math.Path.{sym, ap, ap₂}
use Rattle.std.proofs.Common.{◌∙◌, length-append, length-take, take-append-drop, drop_of_length-le, drop-cons, drop-drop, take_all}
use mathlib.Core.List.{List, ◌∷◌, ◌++◌}
use native.Mathlib.Omega.{arith}
use Rattle.std.proofs.Math.ListN.{length, take, drop, length-drop}
use Rattle.plan.specs.Bytes.{Octets, head_size, tag_at, size_at, whole_at, value_at}
use Rattle.cqf.specs.Form.{Form}
use Rattle.plan.specs.Layout.{form_by, Kind, layout, numbers_size}
use Rattle.plan.specs.Field.{Field, field, route_ports, route_in, field_at}
use Rattle.plan_reading.specs.Draft.{Draft}
use Rattle.plan_reading.specs.Reading.{route_at}
use Rattle.plan_reading.specs.Strict.{entry_of, fields_from}
use Rattle.plan_reading.specs.FieldBytes.{bytes2, bytes2s, numbers_bytes, size_of, value_of, bytes_of, row_bytes}
use Rattle.plan.specs.laws.Whole.{whole_fits}
use Rattle.plan_reading.specs.laws.fields.Found.{found-numbers, found_route, found_forward, found_within}
use Rattle.plan_reading.specs.laws.rows.SavedRow.{EntryOk}
use Rattle.plan_reading.specs.laws.rows.EntryRead.{entry_length}
use Rattle.plan_reading.specs.laws.fields.Passes.{Passes, field_is_whole, field_passes}
use Rattle.plan_reading.specs.laws.reading.Walk.{Reads, done, one}
use Rattle.plan_reading.specs.laws.order.Late.{past_end}
use Rattle.plan_reading.specs.laws.order.Rows.{row_refused, row_field}
use Rattle.plan_reading.specs.laws.fields.Encoded.{octets_drop, octets_take, part_add, encoded2, encoded2s, encoded_numbers}

-- the value of a field
module _ (tag : ℕ) (v : List ℕ) (o : Octets v) where
  -- the ports of its route
  route_bytes : (k : Kind) (h : ℕ) → length v ≡ numbers_size k + 2 * h → take (2 * h) (drop (numbers_size k) v) ≡ bytes2s (route_in k v)
  unfolding route_in route_ports
  route_bytes k h size =
      let w = drop (numbers_size k) v in
      let long : length w ≡ 2 * h = length-drop (numbers_size k) v ∙ omega arith in
      let hops : h ≡ length w / 2 = omega arith in
      ap (λ (m : ℕ). take (2 * m) w) hops
      ∙ encoded2s w (octets_drop (numbers_size k) v o) 0 (length w / 2) (omega arith)

  value_bytes : {form : Form} (x : Field) → Passes form tag v x → v ≡ value_of x (route_in x.kind v)
  unfolding value_of
  value_bytes x k =
      let n = numbers_size x.kind in
      let start : 0 + n ≡ n = omega arith in
      sym (take_all (n + 2 * x.hops) v (omega (arith, k.size)))
      ∙ part_add v 0 n (2 * x.hops)
      ∙ ap₂ ◌++◌
      (encoded_numbers v o (layout x.kind).numbers 0 (omega (arith, k.size))
      ∙ ap (λ (y : Field). numbers_bytes (layout x.kind).numbers y.numbers) k.numbers)
      (ap (λ (m : ℕ). take (2 * x.hops) (drop m v)) start ∙ route_bytes x.kind x.hops k.size)

-- the value of a whole field is as long as its head says
whole_value : (s : List ℕ) (at : ℕ) → whole_at s at ≡ true → length (value_at s at) ≡ size_at s at
unfolding value_at
whole_value s at w =
    let bound = whole_fits s at w in
    omega (arith, length-take (size_at s at) (drop (at + head_size) s), length-drop (at + head_size) s)

-- a whole field
module _ (form : Form) (s : List ℕ) (o : Octets s) (at : ℕ) (x : Field) (next : ℕ) (e : field_at form s at ≡ field x next) where
  fits : at + head_size + size_at s at ≤ length s
  fits = whole_fits s at (field_is_whole form s at x next e)

  octets_value : Octets (value_at s at)
  unfolding value_at
  octets_value = octets_take (size_at s at) (drop (at + head_size) s) (octets_drop (at + head_size) s o)

  value_length : length (value_at s at) ≡ size_at s at
  value_length = whole_value s at (field_is_whole form s at x next e)

  head_bytes : take (head_size + size_at s at) (drop at s) ≡ tag_at s at ∷ (bytes2 (size_at s at) ++ value_at s at)
  unfolding size_at value_at
  head_bytes =
      let bound = fits in
      let three : head_size + size_at s at ≡ 1 + (2 + size_at s at) = omega arith in
      let after : at + 1 + 2 ≡ at + head_size = omega arith in
      ap (λ (n : ℕ). take n (drop at s)) three
      ∙ part_add s at 1 (2 + size_at s at)
      ∙ ap₂ ◌++◌ (ap (take 1) (drop-cons s at 0 (omega arith)))
      (part_add s (at + 1) 2 (size_at s at)
      ∙ ap₂ ◌++◌ (encoded2 s o (at + 1) (omega arith)) (ap (λ (n : ℕ). take (size_at s at) (drop n s)) after))

  field_bytes : take (head_size + size_at s at) (drop at s) ≡ bytes_of (entry_of x (route_at x.kind s at))
  unfolding bytes_of
  field_bytes =
      let k = (field_passes form s at x next e).passes in
      let size : size_at s at ≡ size_of x = sym value_length ∙ k.size in
      head_bytes
      ∙ ap₂ ◌∷◌ k.kind (ap₂ ◌++◌ (ap bytes2 size) (value_bytes (tag_at s at) (value_at s at) octets_value x k))

-- the bytes from a field on are those of the fields from it on
row_bytes_lem
    : {form : Form} (s : List ℕ)
    → Octets s
    → (n : ℕ) {at : ℕ} {d e : Draft}
    → Reads form s at d e
    → length s ≤ at + n
    → drop at s ≡ row_bytes (fields_from form n s at)
unfolding row_bytes
row_bytes_lem {form} s o n {at} (done same end) enough =
    drop_of_length-le s end ∙ ap row_bytes (sym (row_refused form n s at 2 at (past_end form s at end)))
row_bytes_lem s o zero (one x next less stands fresh no_repeat rest) enough = absurd (omega arith)
row_bytes_lem {form} s o (suc n) {at} (one x next less stands fresh no_repeat rest) enough =
    let r = field_passes form s at x next stands in
    let size = head_size + size_at s at in
    let after : at + size ≡ next = omega (arith, r.follows) in
    sym (take-append-drop size (drop at s))
    ∙ ap₂ ◌++◌ (field_bytes form s o at x next stands)
    (drop-drop size at s ∙ ap (λ (m : ℕ). drop m s) after ∙ row_bytes_lem s o n rest (omega arith))
    ∙ ap row_bytes (sym (row_field form n s at x next stands))

pub plan_bytes : (s : List ℕ) {d e : Draft} → Octets s → Reads (form_by s) s 0 d e → s ≡ row_bytes (fields_from (form_by s) (length s) s 0)
plan_bytes s o reads = row_bytes_lem s o (length s) reads (omega arith)

-- whatever the bytes are, those of the fields are as many
row_long
    : {form : Form} (s : List ℕ) (n : ℕ) {at : ℕ} {d e : Draft}
    → Reads form s at d e
    → at ≤ length s
    → length s ≤ at + n
    → at + length (row_bytes (fields_from form n s at)) ≡ length s
unfolding row_bytes
row_long {form} s n {at} (done same end) inside enough = rw (row_refused form n s at 2 at (past_end form s at end)) (omega arith)
row_long s zero (one x next less stands fresh no_repeat rest) inside enough = absurd (omega arith)
row_long {form} s (suc n) {at} (one x next less stands fresh no_repeat rest) inside enough =
    let r = field_passes form s at x next stands in
    let f = entry_of x (route_at x.kind s at) in
    let ok : EntryOk form f =
    record { numbers = found-numbers form s at x next stands; fits = found_route form s at x next stands; no_repeat = no_repeat } in
    let within = found_within form s at x next stands in
    let size : length (value_at s at) ≡ size_at s at = whole_value s at (field_is_whole form s at x next stands) in
    rw (row_field form n s at x next stands)
    (omega (
      arith,
      length-append (bytes_of f) (row_bytes (fields_from form n s next)),
      entry_length f ok,
      r.passes.size,
      r.follows,
      row_long s n rest within (omega (arith, found_forward form s at x next stands)),
    ))

pub plan_long : {form : Form} (s : List ℕ) {d e : Draft} → Reads form s 0 d e → length (row_bytes (fields_from form (length s) s 0)) ≡ length s
plan_long s reads = omega (arith, row_long s (length s) reads (omega arith) (omega arith))
