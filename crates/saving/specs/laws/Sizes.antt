-- Laws of how many bytes the fields of the slots are.
use Rattle.std.specs.Prelude.{ℕ, zero, suc, ◌+◌, ◌*◌, ◌≤◌, ◌<◌, ◌≡◌, refl, Bool, true, false, cond, List, [], ◌∷◌, ◌++◌, length}
use Rattle.std.proofs.Common.{sym, ap, ap₂, ◌∙◌, append-nil, append_assoc, add-one, arith, length-append}
use Rattle.std.proofs.Math.Decide.{ℕ_discrete}
use Rattle.cqf.specs.Bounded.{sum_to}
use Rattle.cqf.specs.Limits.{flow_slots, max_hops, route_stride}
use Rattle.cqf.specs.Plan.{Plan, hops_of, route_of}
use Rattle.cqf.proofs.laws.Lists.{sublist_length}
use Rattle.plan.specs.Bytes.{head_size}
use Rattle.plan_reading.specs.Strict.{Entry}
use Rattle.plan_reading.specs.FieldBytes.{value_of, bytes_of, row_bytes}
use Rattle.plan_reading.specs.Saved.{field_when, collect_fields}
use Rattle.plan_reading.specs.laws.fields.Decoded.{ports_length}
use Rattle.saving.specs.declared.kind.Kind.{Kind}
use Rattle.saving.specs.Slots.{slots_of, field_in, has_field, fields_in, slot_bytes, most_numbers, value_size, slot_size, SlotsInRange}

-- a field that stands where a test holds
field_length : (b : Bool) (x : Entry) (n : ℕ) → length (bytes_of x) ≡ n → length (row_bytes (field_when b x)) ≡ cond b n 0
unfolding row_bytes
field_length true x n is = ap length (append-nil (bytes_of x)) ∙ is
field_length false x n is = refl

-- the ports of a route are as many as the table says
pub route_ports : (p : Plan) (f : ℕ) → length (route_of p f) ≡ hops_of p f
route_ports p f = sublist_length p.routes (f * route_stride) (hops_of p f)

-- the field of a slot
bytes_length : (kind : Kind) (p : Plan) (i : ℕ) → length (bytes_of (field_in kind p i)) ≡ head_size + value_size kind p i
unfolding bytes_of value_of
bytes_length Kind.Header p i = refl
bytes_length Kind.Port p q = refl
bytes_length Kind.Flow p f = omega (arith, route_ports p f, ports_length (route_of p f))
bytes_length Kind.Extra p q = refl
bytes_length Kind.Jitter p f = refl
bytes_length Kind.Clock p i = refl
bytes_length Kind.Header2 p i = refl
bytes_length Kind.Port2 p q = refl
bytes_length Kind.Flow2 p f = omega (arith, route_ports p f, ports_length (route_of p f))

pub slot_length : (kind : Kind) (p : Plan) (i : ℕ) → length (slot_bytes kind p i) ≡ slot_size kind p i
slot_length kind p i = field_length (has_field kind p i) (field_in kind p i) (head_size + value_size kind p i) (bytes_length kind p i)

-- the fields of one slot more
pub rows_append : (xs ys : List Entry) → row_bytes (xs ++ ys) ≡ row_bytes xs ++ row_bytes ys
unfolding row_bytes
rows_append [] ys = refl
rows_append (x ∷ xs) ys =
    ap (λ (l : List ℕ). bytes_of x ++ l) (rows_append xs ys) ∙ sym (append_assoc (bytes_of x) (row_bytes xs) (row_bytes ys))

pub collect-next : (n : ℕ) (at : ℕ → List Entry) → row_bytes (collect_fields (n + 1) at) ≡ row_bytes (collect_fields n at) ++ row_bytes (at n)
unfolding collect_fields
collect-next n at = rw (add-one n) (rows_append (collect_fields n at) (at n))

-- the fields of the first slots
pub collect_length : (kind : Kind) (p : Plan) (n : ℕ) → length (row_bytes (collect_fields n (fields_in kind p))) ≡ sum_to n (slot_size kind p)
unfolding collect_fields row_bytes sum_to
collect_length kind p zero = refl
collect_length kind p (suc n) =
    ap length (rows_append (collect_fields n (fields_in kind p)) (fields_in kind p n))
    ∙ length-append (row_bytes (collect_fields n (fields_in kind p))) (slot_bytes kind p n)
    ∙ ap₂ ◌+◌ (collect_length kind p n) (slot_length kind p n)

-- a sum over one number more, and over more of them
pub sum_next : (n : ℕ) (g : ℕ → ℕ) → sum_to (n + 1) g ≡ sum_to n g + g n
unfolding sum_to
sum_next n g = rw (add-one n)

pub sum_front : (m n : ℕ) (g : ℕ → ℕ) → n ≤ m → sum_to n g ≤ sum_to m g
unfolding sum_to
sum_front zero n g less = let z : n ≡ 0 = omega arith in rw z (omega arith)
sum_front (suc m) n g less = go (ℕ_discrete n (suc m)) (sum_front m n g)
  where
    go : Dec (n ≡ suc m) → (n ≤ m → sum_to n g ≤ sum_to m g) → sum_to n g ≤ sum_to m g + g m
    go (yes e) before = rw e (omega arith)
    go (no ne) before = omega (arith, before (omega arith))

-- one slot more leaves room for what follows
pub collect_room
    : (kind : Kind) (p : Plan) (i n : ℕ)
    → i < n
    → length (row_bytes (collect_fields i (fields_in kind p))) + length (slot_bytes kind p i) ≤ length (row_bytes (collect_fields n (fields_in kind p)))
collect_room kind p i n l =
    omega (arith, collect_length kind p i, slot_length kind p i, collect_length kind p n, sum_next i (slot_size kind p), sum_front n (i + 1) (slot_size kind p) (omega arith))

-- no kind has more slots than the flows, and no field more bytes than a flow over the longest route
abbrev pub most_size : ℕ
most_size = head_size + (most_numbers + 2 * max_hops)

pub slots_few : (kind : Kind) → slots_of kind ≤ flow_slots
slots_few Kind.Header = omega arith
slots_few Kind.Port = omega arith
slots_few Kind.Flow = omega arith
slots_few Kind.Extra = omega arith
slots_few Kind.Jitter = omega arith
slots_few Kind.Clock = omega arith
slots_few Kind.Header2 = omega arith
slots_few Kind.Port2 = omega arith
slots_few Kind.Flow2 = omega arith

-- the slots are those of the kind that it is
pub slots_same : {k m : Kind} (i : ℕ) → k ≡ m → i < slots_of k → i < slots_of m
slots_same i e l = omega (arith, ap slots_of e)

cond_most : (b : Bool) (n m : ℕ) → n ≤ m → cond b n 0 ≤ m
cond_most true n m l = l
cond_most false n m l = omega arith

value_most : (kind : Kind) (p : Plan) (i : ℕ) → SlotsInRange p.extras p.hops → i < slots_of kind → head_size + value_size kind p i ≤ most_size
value_most Kind.Header p i k l = omega arith
value_most Kind.Port p q k l = omega arith
value_most Kind.Flow p f k l = omega (arith, k.hops_most f l)
value_most Kind.Extra p q k l = omega arith
value_most Kind.Jitter p f k l = omega arith
value_most Kind.Clock p i k l = omega arith
value_most Kind.Header2 p i k l = omega arith
value_most Kind.Port2 p q k l = omega arith
value_most Kind.Flow2 p f k l = omega (arith, k.hops_most f l)

pub slot_most : (kind : Kind) (p : Plan) (i : ℕ) → SlotsInRange p.extras p.hops → i < slots_of kind → slot_size kind p i ≤ most_size
slot_most kind p i k l = cond_most (has_field kind p i) (head_size + value_size kind p i) most_size (value_most kind p i k l)
