-- Two accepted plans with the same fields in different order leave the same tables and the same numbers of fields.
use Rattle.std.specs.Prelude.{◌≡◌, refl, ℕ, ◌+◌, ◌≤◌, ◌<◌, get_or, drop}
use Rattle.std.proofs.Common.{sym, ◌∙◌, arith, length-append, get_or-append-add}
use Rattle.std.proofs.Math.Path.{ap}
use mathlib.Core.List.{List, [], ◌∷◌, ◌++◌, flatten, append_assoc, append-nil, Permᴰ}
use Rattle.std.proofs.Math.ListN.{length, take, length-drop, get_or-append}
use Rattle.std.proofs.lemmas.List.{length-replicate}
use Rattle.std.proofs.Math.Seq.{drop-append-add, drop-append-le, take-append-le}
use Rattle.cqf.specs.Plan.{Plan}
use Rattle.plan.specs.Bytes.{head_size, tag_at, size_at, value_at}
use Rattle.cqf.specs.Form.{Form}
use Rattle.plan_reading.specs.Key.{key_slots}
use Rattle.plan_reading.specs.Draft.{Draft, blank, added}
use Rattle.plan_reading.specs.Reading.{accepted, route_at, read_plan}
use Rattle.plan_reading.specs.FieldOrder.{IsField, AllFields, more, SameFields}
use Rattle.plan_reading.specs.laws.fields.Passes.{field_passes}
use Rattle.plan_reading.specs.laws.reading.Walk.{Reads, done, one, accepted_reads, closing_accepted}
use Rattle.plan_reading.specs.laws.stores.Stored.{Stored, nothing, Flagged, stored_once, stored_permuted}

-- a whole field between other bytes has the tag, the length and the value that it has by itself
module _ (front b rest : List ℕ) (is : IsField b) where
  byte_inside : (i j : ℕ) → i < length b → j ≡ length front + i → get_or (front ++ (b ++ rest)) j 0 ≡ get_or b i 0
  byte_inside i j l e = rw e (get_or-append-add front (b ++ rest) i 0 ∙ get_or-append b rest 0 i l)

  pub tag_inside : tag_at (front ++ (b ++ rest)) (length front) ≡ tag_at b 0
  tag_inside = byte_inside 0 (length front) (omega (arith, is.headed)) (omega arith)

  pub size_inside : size_at (front ++ (b ++ rest)) (length front) ≡ size_at b 0
  unfolding size_at
  size_inside =
      let high = byte_inside 1 (length front + 1) (omega (arith, is.headed)) (omega arith) in
      let low = byte_inside 2 (length front + 1 + 1) (omega (arith, is.headed)) (omega arith) in
      rw (high, low)

  pub value_inside : value_at (front ++ (b ++ rest)) (length front) ≡ value_at b 0
  unfolding value_at
  value_inside =
      let fits : size_at b 0 ≤ length (drop head_size b) = omega (arith, length-drop head_size b, is.whole) in
      ap (λ (n : ℕ). take n (drop (length front + head_size) (front ++ (b ++ rest)))) size_inside
      ∙ ap (take (size_at b 0))
      (drop-append-add front (b ++ rest) head_size ∙ drop-append-le head_size b rest is.headed)
      ∙ take-append-le (size_at b 0) (drop head_size b) rest fits

-- a walk over whole fields stores them one after the other
walk_stored
    : {form : Form} (bs : List (List ℕ)) (s front : List ℕ) (at : ℕ) (d e : Draft)
    → s ≡ front ++ flatten bs
    → at ≡ length front
    → AllFields bs
    → Reads form s at d e
    → Stored form bs d e
unfolding flatten
walk_stored [] s front at d e p q h (done same end) = nothing same
walk_stored [] s front at d e p q h (one x after less stands fresh no_repeat rest) =
    absurd (omega (arith, ap length (p ∙ append-nil front)))
walk_stored (b ∷ bs) s front at d e p q (more is h) (done same end) =
    absurd (omega (arith, ap length p, length-append front (b ++ flatten bs), length-append b (flatten bs), is.headed))
walk_stored {form} (b ∷ bs) s front at d e p q (more is h) (one x after less stands fresh no_repeat rest) =
    let r = field_passes form s at x after stands in
    let tag : tag_at s at ≡ tag_at b 0 = rw (p, q) (tag_inside front b (flatten bs) is) in
    let size : size_at s at ≡ size_at b 0 = rw (p, q) (size_inside front b (flatten bs) is) in
    let value : value_at s at ≡ value_at b 0 = rw (p, q) (value_inside front b (flatten bs) is) in
    let ends : after ≡ length (front ++ b) = omega (arith, r.follows, length-append front b, is.whole) in
    Stored.next {d = d} {e = e} x (rw (tag, value) at r.passes) fresh
    (rw value at
    (walk_stored bs s (front ++ b) after (added d x (route_at x.kind s at)) e (p ∙ sym (append_assoc front b (flatten bs))) ends h rest))

-- a permutation of whole fields is one
pub all_permuted : {bs cs : List (List ℕ)} → Permᴰ bs cs → AllFields bs → AllFields cs
all_permuted Permᴰ.nil h = h
all_permuted (Permᴰ.cons same perm) (more is h) = more (rw same at is) (all_permuted perm h)
all_permuted (Permᴰ.swap p q) (more is (more was h)) = more (rw q at was) (more (rw p at is) h)
all_permuted (Permᴰ.trans p q) h = all_permuted q (all_permuted p h)

-- an accepted plan of whole fields leaves what they store
pub accepted_stored
    : {form : Form} (bs : List (List ℕ)) (s : List ℕ) (d : Draft)
    → s ≡ flatten bs
    → AllFields bs
    → Reads form s 0 blank d
    → Stored form bs blank d
accepted_stored bs s d p h reads = walk_stored bs s [] 0 blank d p refl h reads

pub flagged_blank : Flagged blank
unfolding blank
flagged_blank = length-replicate {A = ℕ} key_slots 0

-- the same tables, and the same numbers of port and flow fields
pub field_order
    : (s t : List ℕ)
    → SameFields s t
    → (p q : Plan) (m n k l : ℕ)
    → read_plan s ≡ accepted p m n
    → read_plan t ≡ accepted q k l
    → (p ≡ q) × (m ≡ k) × (n ≡ l)
field_order s t same p q m n k l left right =
    let a = accepted_reads s p m n left in
    let b = accepted_reads t q k l right in
    let c = closing_accepted s a.final p m n a.closes in
    let d = closing_accepted t b.final q k l b.closes in
    let first = accepted_stored same.first s a.final same.bytes_first same.fields a.walk in
    let fields = all_permuted same.permuted same.fields in
    let second = accepted_stored same.second t b.final same.bytes_second fields b.walk in
    let final : a.final ≡ b.final = stored_once (stored_permuted blank a.final same.permuted flagged_blank first) second in (
      sym c.plan ∙ ap (λ (e : Draft). e.tables) final ∙ d.plan,
      sym c.ports_read ∙ ap (λ (e : Draft). e.ports) final ∙ d.ports_read,
      sym c.flows_read ∙ ap (λ (e : Draft). e.flows) final ∙ d.flows_read,
    )
