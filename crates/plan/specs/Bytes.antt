-- Numbers in bytes, high byte first, and a field's head and value.
use Rattle.std.specs.Prelude.{ℕ, zero, suc, ◌+◌, ◌*◌, ◌<◌, List, [], ◌∷◌, Bool, cond, ◌&&◌, leb, length, get_or, take, drop}

abbrev pub byte_at : List ℕ → ℕ → ℕ
byte_at s i = get_or s i 0

-- each number of the list is a byte
abbrev pub Octets : List ℕ → Type 0
Octets s = (i : ℕ) → byte_at s i < 256

unfoldable pub number2 : List ℕ → ℕ → ℕ
number2 s i = byte_at s i * 256 + byte_at s (i + 1)

unfoldable pub number4 : List ℕ → ℕ → ℕ
unfolding number2
number4 s i = number2 s i * 65536 + number2 s (i + 2)

-- a field's head: tag (1 byte) and length (2 bytes)
abbrev pub head_size : ℕ
head_size = 3

abbrev pub tag_at : List ℕ → ℕ → ℕ
tag_at s at = byte_at s at

unfoldable pub size_at : List ℕ → ℕ → ℕ
unfolding number2
size_at s at = number2 s (at + 1)

-- whether the plan holds the whole field at this offset: its head, and as many bytes after it as the head says
unfoldable pub whole_at : List ℕ → ℕ → Bool
unfolding size_at
whole_at s at = leb (at + head_size) (length s) && leb (at + head_size + size_at s at) (length s)

-- the value of the field at this offset: the part of the plan after its head
unfoldable pub value_at : List ℕ → ℕ → List ℕ
unfolding size_at
value_at s at = take (size_at s at) (drop (at + head_size) s)

-- the splitter's part: the value of a whole field, nothing where the plan does not hold it
unfoldable pub part_at : List ℕ → ℕ → List ℕ
unfolding whole_at value_at
part_at s at = cond (whole_at s at) (value_at s at) []

-- the h numbers of 2 bytes from position at on
unfoldable pub numbers2 : List ℕ → ℕ → ℕ → List ℕ
unfolding number2
numbers2 s at zero = []
numbers2 s at (suc h) = number2 s at ∷ numbers2 s (at + 2) h
