-- A field, the tests 2 to 5 of document 01 for one field, and test 7.
use Rattle.std.specs.Prelude.{ℕ, ◌+◌, ◌-◌, ◌*◌, ◌/◌, List, [], ◌∷◌, Bool, true, false, cond, not, ◌&&◌, eqb, length, get_or, drop}
use Rattle.std.proofs.Math.Option.{Option, some, none}
use Rattle.answers.specs.Refusals.{truncated, unknown_tag, wrong_length, out_of_range}
use Rattle.cqf.specs.Bounded.{every, distinct}
use Rattle.cqf.specs.Limits.{port_ok}
use Rattle.plan.specs.Bytes.{number2, number4, numbers2, head_size, tag_at, size_at, whole_at, value_at}
use Rattle.cqf.specs.Form.{Form}
use Rattle.plan.specs.Layout.{Width, two, four, bytes_in, Number, Kind, layout, kinds, flow_kind, numbers_size, hops_allowed}

-- a field as it is spelled: its kind and its numbers. A route stays in the field's value; hops is how many ports it has.
pub record Field : Type 0 where
  pub kind : Kind
  pub numbers : List ℕ
  pub hops : ℕ

-- a field's head: its tag and its value's length, or a refusal's number where the plan does not hold the whole field
pub data HeadRead : Type 0 where
  head : (tag size : ℕ) → HeadRead
  cut : (number : ℕ) → HeadRead

unfoldable pub head_at : List ℕ → ℕ → HeadRead
unfolding whole_at size_at
head_at s at = cond (whole_at s at) (head (tag_at s at) (size_at s at)) (cut truncated)

-- a field and the offset after it, or a refusal's number and its offset (document 01: place)
pub data FieldRead : Type 0 where
  field : Field → ℕ → FieldRead
  refused : (number offset : ℕ) → FieldRead

-- the answer where the test holds, else the refusal of this number
abbrev pub unless : ℕ → ℕ → Bool → FieldRead → FieldRead
unless number offset ok answer = cond ok answer (refused number offset)

-- the number of this width at this position
abbrev pub number_in : Width → List ℕ → ℕ → ℕ
number_in two = number2
number_in four = number4

-- the numbers from this position on
abbrev pub numbers_at : List Number → List ℕ → ℕ → List ℕ
numbers_at [] v i = []
numbers_at (c ∷ cs) v i = number_in c.width v i ∷ numbers_at cs v (i + bytes_in c.width)

-- each number is there and in its range
abbrev pub in_ranges : List Number → List ℕ → Bool
in_ranges [] [] = true
in_ranges [] (n ∷ ns) = false
in_ranges (c ∷ cs) [] = false
in_ranges (c ∷ cs) (n ∷ ns) = c.ok n && in_ranges cs ns

-- how many ports a value of this length names
abbrev pub hops_in : Kind → ℕ → ℕ
hops_in k size = (size - numbers_size k) / 2

-- how many ports a route's bytes name, and which
abbrev pub route_length : List ℕ → ℕ
route_length r = length r / 2

unfoldable pub route_ports : List ℕ → List ℕ
unfolding numbers2
route_ports r = numbers2 r 0 (route_length r)

-- port i of them, counted from 0; 0 past their end
unfoldable pub route_port : List ℕ → ℕ → ℕ
unfolding route_ports
route_port r i = get_or (route_ports r) i 0

-- the bytes of the route in a value, and its ports
abbrev pub route_bytes : Kind → List ℕ → List ℕ
route_bytes k v = drop (numbers_size k) v

unfoldable pub route_in : Kind → List ℕ → List ℕ
unfolding route_ports
route_in k v = route_ports (route_bytes k v)

-- the field of this kind whose numbers stand in a value
abbrev pub field_by : Kind → List ℕ → Field
field_by k v = record { kind = k; numbers = numbers_at (layout k).numbers v 0; hops = hops_in k (length v) }

-- test 4: the value has the length of the numbers and of a route that is allowed
abbrev pub size_ok : Kind → ℕ → Bool
size_ok k size = hops_allowed (layout k).most_hops (hops_in k size) && eqb size (numbers_size k + 2 * hops_in k size)

-- test 5: each number is in its range, and each port of the route
abbrev pub ranges_ok : Kind → List ℕ → Bool
ranges_ok k v = in_ranges (layout k).numbers (numbers_at (layout k).numbers v 0) && every port_ok (route_in k v)

-- a field of this kind with value v at offset at, next being the offset after it: test 4, then test 5
unfoldable pub value_in : Kind → List ℕ → (at next : ℕ) → FieldRead
unfolding number2 number4 every route_in
value_in k v at next = unless wrong_length at (size_ok k (length v)) (unless out_of_range at (ranges_ok k v) (field (field_by k v) next))

-- the kind of a tag, among these: test 3
unfoldable pub kind_by : List Kind → ℕ → Option Kind
kind_by [] tag = none
kind_by (k ∷ ks) tag = elim (eqb tag (layout k).tag) [ true ↦ some k | false ↦ kind_by ks tag ]

abbrev pub kind_read : Option Kind → List ℕ → (at next : ℕ) → FieldRead
kind_read none v at next = refused unknown_tag at
kind_read (some k) v at next = value_in k v at next

-- the field by its tag, in a plan of this form
unfoldable pub field_in : Form → ℕ → List ℕ → (at next : ℕ) → FieldRead
unfolding kind_by value_in
field_in form tag v at next = kind_read (kind_by (kinds form) tag) v at next

-- the field at this offset: test 2 first
unfoldable pub field_at : Form → List ℕ → ℕ → FieldRead
unfolding field_in whole_at value_at size_at
field_at form s at = unless truncated at (whole_at s at) (field_in form (tag_at s at) (value_at s at) at (at + head_size + size_at s at))

-- test 7: a port twice in the route of a flow's value, in a plan of this form
unfoldable pub repeats : Form → List ℕ → Bool
unfolding route_in distinct
repeats form v = not (distinct (route_in (flow_kind form) v))
