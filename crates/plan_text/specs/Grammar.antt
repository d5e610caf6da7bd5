-- The numbers of a plan's text: the word before each, its range, and what it is where it is left out.
use Rattle.std.specs.Prelude.{ℕ, Bool, true, false, List, []}
use Rattle.std.proofs.Math.Option.{Option, some, none}
use Rattle.cqf.specs.Bounded.{within}
use Rattle.cqf.specs.Limits.{guard_ok, top_ok, drift_ok, timing_jitter_ok, sync_error_ok, port_ok, rate_ok, length_ok, blocking_ok, extra_ok, flow_ok, period_ok, count_ok, jitter_ok, hops_ok}
use Rattle.plan_text.specs.Names.{rate_word, blocker_word, extra_word, period_word, count_word, length_word, jitter_word, route_word, drift_word, timing_word, sync_word}
use Rattle.plan_text.specs.declared.grammar.Item.{Item}

-- the word before a number; the first word of a line stands before the number that has none of its own
abbrev pub word_of : Item → List ℕ
word_of Item.Rate = rate_word
word_of Item.Blocker = blocker_word
word_of Item.Extra = extra_word
word_of Item.Period = period_word
word_of Item.Count = count_word
word_of Item.Length = length_word
word_of Item.Jitter = jitter_word
word_of Item.Drift = drift_word
word_of Item.Timing = timing_word
word_of Item.Sync = sync_word
word_of Item.Route = route_word
word_of _ = []

-- whether it has none
abbrev pub is_own : Item → Bool
is_own Item.Guard = true
is_own Item.Top = true
is_own Item.Port = true
is_own Item.Flow = true
is_own Item.Format = true
is_own _ = false

-- its range; a port of a route has the range of a port
abbrev pub range_of : Item → ℕ → Bool
range_of Item.Guard n = guard_ok n
range_of Item.Top n = top_ok n
range_of Item.Port n = port_ok n
range_of Item.Rate n = rate_ok n
range_of Item.Blocker n = blocking_ok n
range_of Item.Extra n = extra_ok n
range_of Item.Flow n = flow_ok n
range_of Item.Period n = period_ok n
range_of Item.Count n = count_ok n
range_of Item.Length n = length_ok n
range_of Item.Jitter n = jitter_ok n
range_of Item.Drift n = drift_ok n
range_of Item.Timing n = timing_jitter_ok n
range_of Item.Sync n = sync_error_ok n
range_of Item.Format n = within 2 2 n
range_of Item.Route n = port_ok n
range_of Item.Hops n = hops_ok n
range_of Item.First n = within 0 0 n
range_of Item.End n = within 0 0 n

-- its least and its largest number
abbrev pub low_of : Item → ℕ
low_of Item.Guard = 0
low_of Item.Top = 1
low_of Item.Port = 1
low_of Item.Rate = 1
low_of Item.Blocker = 64
low_of Item.Extra = 0
low_of Item.Flow = 1
low_of Item.Period = 1000
low_of Item.Count = 1
low_of Item.Length = 64
low_of Item.Jitter = 0
low_of Item.Drift = 0
low_of Item.Timing = 0
low_of Item.Sync = 0
low_of Item.Format = 2
low_of Item.Route = 1
low_of Item.Hops = 1
low_of Item.First = 0
low_of Item.End = 0

abbrev pub high_of : Item → ℕ
high_of Item.Guard = 1000000
high_of Item.Top = 100000000
high_of Item.Port = 64
high_of Item.Rate = 100000
high_of Item.Blocker = 2000
high_of Item.Extra = 64
high_of Item.Flow = 256
high_of Item.Period = 100000000
high_of Item.Count = 64
high_of Item.Length = 2000
high_of Item.Jitter = 10000000
high_of Item.Drift = 1000
high_of Item.Timing = 1000
high_of Item.Sync = 1000000
high_of Item.Format = 2
high_of Item.Route = 64
high_of Item.Hops = 24
high_of Item.First = 0
high_of Item.End = 0

-- whether 0 is allowed too
abbrev pub zero_too : Item → Bool
zero_too Item.Blocker = true
zero_too _ = false

-- what it is where it is left out, if it may be
abbrev pub absent_of : Item → Option ℕ
absent_of Item.Blocker = some 0
absent_of Item.Extra = some 0
absent_of Item.Count = some 1
absent_of Item.Jitter = some 0
absent_of _ = none
