-- The numbers of a plan and their ranges (document 01, "The plan's bytes").
use Rattle.std.specs.Prelude.{ℕ, Bool, ◌||◌, eqb}
use Rattle.cqf.specs.Bounded.{within}

-- ports are numbered from 1 to 64, flows from 1 to 256; a route has at most 24 ports
abbrev pub port_slots : ℕ
port_slots = 64

abbrev pub flow_slots : ℕ
flow_slots = 256

abbrev pub max_hops : ℕ
max_hops = 24

-- places in the table of routes from one flow's route to the next: no kind of field has a longer route
abbrev pub route_stride : ℕ
route_stride = 24

-- the longest top and the periods, in ns; frames in a period; bytes in a frame
abbrev pub max_top : ℕ
max_top = 100000000

abbrev pub min_period : ℕ
min_period = 1000

abbrev pub max_period : ℕ
max_period = 100000000

abbrev pub max_count : ℕ
max_count = 64

abbrev pub max_length : ℕ
max_length = 2000

-- the most that a frame is released after its nominal instant, in ns
abbrev pub max_jitter : ℕ
max_jitter = 10000000

-- the most that clocks drift apart, in parts per million; their largest timing jitter and synchronization error, in ns
abbrev pub max_drift : ℕ
max_drift = 1000

abbrev pub max_timing_jitter : ℕ
max_timing_jitter = 1000

abbrev pub max_sync_error : ℕ
max_sync_error = 1000000

-- parts of one
abbrev pub million : ℕ
million = 1000000

-- guard band S in ns
abbrev pub guard_ok : ℕ → Bool
guard_ok n = within 0 1000000 n

-- the longest duration that is asked about, in ns
abbrev pub top_ok : ℕ → Bool
top_ok n = within 1 max_top n

-- the three numbers of the clocks
abbrev pub drift_ok : ℕ → Bool
drift_ok n = within 0 max_drift n

abbrev pub timing_jitter_ok : ℕ → Bool
timing_jitter_ok n = within 0 max_timing_jitter n

abbrev pub sync_error_ok : ℕ → Bool
sync_error_ok n = within 0 max_sync_error n

-- a port's number
abbrev pub port_ok : ℕ → Bool
port_ok n = within 1 port_slots n

-- a rate in Mbit/s
abbrev pub rate_ok : ℕ → Bool
rate_ok n = within 1 100000 n

-- a frame's length in bytes, destination address through check sequence
abbrev pub length_ok : ℕ → Bool
length_ok n = within 64 max_length n

-- 0 stands for no blocking frame
abbrev pub blocking_ok : ℕ → Bool
blocking_ok n = eqb n 0 || length_ok n

-- the most bytes that a port adds to each frame, and a number of them
abbrev pub max_extra : ℕ
max_extra = 64

abbrev pub extra_ok : ℕ → Bool
extra_ok n = within 0 max_extra n

-- a flow's number
abbrev pub flow_ok : ℕ → Bool
flow_ok n = within 1 flow_slots n

-- a period in ns
abbrev pub period_ok : ℕ → Bool
period_ok n = within min_period max_period n

-- frames in a period
abbrev pub count_ok : ℕ → Bool
count_ok n = within 1 max_count n

-- release jitter in ns
abbrev pub jitter_ok : ℕ → Bool
jitter_ok n = within 0 max_jitter n

-- ports on a route
abbrev pub hops_ok : ℕ → Bool
hops_ok n = within 1 max_hops n
