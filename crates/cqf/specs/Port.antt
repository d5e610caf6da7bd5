-- What a port must send and what it can, in one cycle (document 01, "The condition" and "Emissions and runs"). The condition and
-- the run share these; T is a cycle duration in ns, f the slot of a flow, q the slot of a port.
use Rattle.std.specs.Prelude.{ℕ, ◌+◌, ◌-◌, ◌*◌, Bool, cond, ◌&&◌, eqb, ltb}
use Rattle.cqf.specs.Plan.{Plan, rate_of, blocking_of, extra_of, length_of}

-- preamble and start delimiter 8, gap 12
abbrev pub overhead : ℕ
overhead = 20

-- one Mbit/s carries one bit in 1,000 ns
abbrev pub ns_per_bit : ℕ
ns_per_bit = 1000

-- On numbers. A frame of this many bytes on the wire, in bits; extra is what the port adds to each frame.
abbrev pub bits_of : (bytes extra : ℕ) → ℕ
bits_of bytes extra = 8 * (bytes + overhead + extra)

-- the wire bits of the longest frame of another class (document 01: the blocker); none where the length is 0
abbrev pub blocking_bits_of : (bytes extra : ℕ) → ℕ
blocking_bits_of bytes extra = cond (eqb bytes 0) 0 (bits_of bytes extra)

-- the part of a cycle in which a port sends: T - 2S, 0 where T is below 2S (a difference of naturals is 0 there)
abbrev pub window_of : (guard T : ℕ) → ℕ
window_of guard T = T - 2 * guard

-- what a port can send in a window, and what it must be able to send, both in thousandths of a bit
abbrev pub capacity_of : (rate window : ℕ) → ℕ
capacity_of rate window = rate * window

abbrev pub workload_of : (blocking extra bits : ℕ) → ℕ
workload_of blocking extra bits = ns_per_bit * (bits + blocking_bits_of blocking extra)

-- whether a port must send more than it can
abbrev pub exceeds : (work capacity : ℕ) → Bool
exceeds work capacity = ltb capacity work

-- whether a port that must send these bits in a window fails; one that must send none does not
abbrev pub fails_by_of : (rate blocking extra window bits : ℕ) → Bool
fails_by_of rate blocking extra window bits = ltb 0 bits && exceeds (workload_of blocking extra bits) (capacity_of rate window)

-- Of a plan. The wire bits of one frame of flow f at the port in slot q.
unfoldable pub wire_bits : Plan → ℕ → ℕ → ℕ
wire_bits p f q = bits_of (length_of p f) (extra_of p q)

unfoldable pub window : Plan → ℕ → ℕ
window p T = window_of p.guard T

unfoldable pub capacity : Plan → ℕ → ℕ → ℕ
unfolding window
capacity p q T = capacity_of (rate_of p q) (window p T)

unfoldable pub workload : Plan → ℕ → ℕ → ℕ
workload p q bits = workload_of (blocking_of p q) (extra_of p q) bits
