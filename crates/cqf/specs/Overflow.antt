-- Bounds that follow from the ranges: no sum of the code passes 64 bits. No rule rests on them.
use Rattle.std.specs.Prelude.{ℕ, pred, ◌+◌, ◌*◌, ◌/◌}
use Rattle.cqf.specs.Limits.{flow_slots, max_top, min_period, max_count, max_length, max_jitter, max_drift, max_timing_jitter, max_extra, million}
use Rattle.cqf.specs.Port.{bits_of}

-- the longest widened duration, and the most periods that begin in it and the jitter before it
abbrev pub most_widened : ℕ
most_widened = max_top + (max_top * max_drift + pred million) / million + max_timing_jitter

abbrev pub most_begun : ℕ
most_begun = (most_widened + max_jitter + pred min_period) / min_period

-- the most bits that one flow brings to a port, and the largest demand of a port
abbrev pub most_bits : ℕ
most_bits = max_count * most_begun * bits_of max_length max_extra

abbrev pub most_demand : ℕ
most_demand = flow_slots * most_bits
