-- Two plans with the same fields in any order (document 01: "Fields may stand in any order"), and two of which one has a field
-- more that says nothing.
use Rattle.std.specs.Prelude.{◌≡◌, ℕ, ◌+◌, ◌≤◌, length}
use mathlib.Core.List.{List, [], ◌∷◌, flatten, Permᴰ}
use Rattle.cqf.specs.Plan.{equal_clocks}
use Rattle.plan.specs.Bytes.{head_size, size_at}
use Rattle.plan.specs.Layout.{form_by}
use Rattle.plan.specs.Field.{Field, field, field_at}
use Rattle.plan_reading.specs.Part.{Part, header, port, flow, extra, jitter, clock, parts_of}

-- bytes that are one whole field: a head, and as many bytes after it as the head says
pub record IsField (b : List ℕ) : Type 0 where
  pub headed : head_size ≤ length b
  pub whole : length b ≡ head_size + size_at b 0

pub data AllFields : List (List ℕ) → Type 0 where
  none : AllFields []
  more : {b : List ℕ} {bs : List (List ℕ)} → IsField b → AllFields bs → AllFields (b ∷ bs)

-- s is a sequence of whole fields, and t a permutation of it
pub record SameFields (s t : List ℕ) : Type 0 where
  pub first : List (List ℕ)
  pub second : List (List ℕ)
  pub fields : AllFields first
  pub bytes_first : s ≡ flatten first
  pub bytes_second : t ≡ flatten second
  pub permuted : Permᴰ first second

-- the part says what its absence says
abbrev pub Nothing : Part → Type 0
Nothing (header guard top) = ⊥
Nothing (port n rate blocking) = ⊥
Nothing (flow n period count bytes route) = ⊥
Nothing (extra n bytes) = bytes ≡ 0
Nothing (jitter n ns) = ns ≡ 0
Nothing (clock k) = k ≡ equal_clocks

-- the field says nothing: each of its parts says what its absence says
abbrev pub AllNothing : List Part → Type 0
AllNothing [] = Unit {0}
AllNothing (x ∷ xs) = Nothing x × AllNothing xs

abbrev pub SaysNothing : Field → Type 0
SaysNothing x = AllNothing (parts_of x [])

-- s is the fields of t, and among them, anywhere, one that says nothing
pub record ZeroMore (s t : List ℕ) : Type 0 where
  pub all : List (List ℕ)
  pub zero : List ℕ
  pub others : List (List ℕ)
  pub read : Field
  pub fields : AllFields all
  pub says : field_at (form_by s) zero 0 ≡ field read (length zero)
  pub nothing : SaysNothing read
  pub bytes_all : s ≡ flatten all
  pub bytes_others : t ≡ flatten others
  pub permuted : Permᴰ all (zero ∷ others)
