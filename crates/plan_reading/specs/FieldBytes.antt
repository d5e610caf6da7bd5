-- The bytes of a field: tag, length and value, numbers high byte first.
use Rattle.std.specs.Prelude.{ℕ, ◌+◌, ◌*◌, ◌/◌, ◌%◌, List, [], ◌∷◌, ◌++◌}
use Rattle.plan.specs.Layout.{Width, two, four, Number, layout, numbers_size}
use Rattle.plan.specs.Field.{Field}
use Rattle.plan_reading.specs.Rank.{tag_of}
use Rattle.plan_reading.specs.Strict.{Entry}

-- a number in 2 bytes, in 4, and several in 2 each
abbrev pub bytes2 : ℕ → List ℕ
bytes2 n = n / 256 ∷ n % 256 ∷ []

abbrev pub bytes4 : ℕ → List ℕ
bytes4 n = bytes2 (n / 65536) ++ bytes2 (n % 65536)

unfoldable pub bytes2s : List ℕ → List ℕ
bytes2s [] = []
bytes2s (n ∷ ns) = bytes2 n ++ bytes2s ns

-- a number of this width, and numbers of these
abbrev pub bytes_by : Width → ℕ → List ℕ
bytes_by two = bytes2
bytes_by four = bytes4

abbrev pub numbers_bytes : List Number → List ℕ → List ℕ
numbers_bytes [] ns = []
numbers_bytes (c ∷ cs) [] = []
numbers_bytes (c ∷ cs) (n ∷ ns) = bytes_by c.width n ++ numbers_bytes cs ns

-- the length of a field's value, and the value, r being the ports of its route
abbrev pub size_of : Field → ℕ
size_of x = numbers_size x.kind + 2 * x.hops

unfoldable pub value_of : Field → List ℕ → List ℕ
unfolding bytes2s
value_of x r = numbers_bytes (layout x.kind).numbers x.numbers ++ bytes2s r

unfoldable pub bytes_of : Entry → List ℕ
unfolding value_of
bytes_of e = tag_of e.field ∷ (bytes2 (size_of e.field) ++ value_of e.field e.route)

-- the bytes of a row of fields
unfoldable pub row_bytes : List Entry → List ℕ
unfolding bytes_of
row_bytes [] = []
row_bytes (e ∷ es) = bytes_of e ++ row_bytes es
