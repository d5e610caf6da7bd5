-- Numbers that are given wider than they are written.
use Rattle.std.specs.Prelude.{ℕ, cond, leb}

-- the widest number of 2 bytes, which no number of a field may be
abbrev pub widest : ℕ
widest = 65535

-- a number of 2 bytes: the number itself, or the widest in place of a wider one
abbrev pub narrowed : ℕ → ℕ
narrowed n = cond (leb n widest) n widest
