-- A run, cycle by cycle (document 01, "Emissions and runs"). Its input is the cycle in which each frame is emitted.
use Rattle.std.specs.Prelude.{◌≡◌, List, [], ◌∷◌, Bool, true, false, cond, ℕ, zero, suc, ◌+◌, ◌*◌, ◌≤◌, length, get_or, eqb}
use Rattle.cqf.specs.Bounded.{sum_to, count_to, any_to}
use Rattle.cqf.specs.Limits.{port_slots, flow_slots}
use Rattle.cqf.specs.Plan.{Plan, rate_of, blocking_of, extra_of, route_of}
use Rattle.cqf.specs.Port.{wire_bits, window, fails_by_of}
use Rattle.cqf.specs.Cycles.{Cycles}

-- where a frame is when a cycle starts: not yet emitted; received by a port in the cycle before, with the ports that it meets
-- after that one; or gone from its last port
pub data Place : Type 0 where
  source : Place
  queued : ℕ → List ℕ → Place
  gone : Place

-- the place of frame k of the flow in slot f; a flow has as many frames as its list is long
abbrev pub Places : Type 0
Places = ℕ → ℕ → Place

-- handed on along the rest of its route: received by the next port, or gone after the last
abbrev pub handed : List ℕ → Place
handed [] = gone
handed (n ∷ rest) = queued n rest

-- one cycle of one frame: its first port receives it in the cycle of its emission; a port sends in each cycle what it
-- received in the cycle before, and the next port receives it in that cycle
abbrev pub advance : Bool → List ℕ → Place → Place
advance true route source = handed route
advance false route source = source
advance emitted route (queued n rest) = handed rest
advance emitted route gone = gone

abbrev pub is_queued_at : ℕ → Place → Bool
is_queued_at n source = false
is_queued_at n (queued m rest) = eqb n m
is_queued_at n gone = false

abbrev pub is_gone : Place → Bool
is_gone source = false
is_gone (queued n rest) = false
is_gone gone = true

-- the wire bits that the port in slot q, of number q + 1, must send in this cycle
unfoldable pub queued_bits : Plan → Cycles → Places → ℕ → ℕ
unfolding sum_to count_to wire_bits
queued_bits p cycles places q =
    sum_to flow_slots
    (λ f. count_to (length (cycles f)) (λ k. is_queued_at (suc q) (places f k)) * wire_bits p f q)

-- whether that port leaves a frame unsent
unfoldable pub overrun_at : Plan → ℕ → ℕ → ℕ → Bool
unfolding window
overrun_at p T bits q = fails_by_of (rate_of p q) (blocking_of p q) (extra_of p q) (window p T) bits

unfoldable pub overrun : Plan → ℕ → Cycles → Places → Bool
unfolding any_to queued_bits overrun_at
overrun p T cycles places = any_to port_slots (λ q. overrun_at p T (queued_bits p cycles places q) q)

-- the network when a cycle starts, or stopped by a frame left unsent
pub data Network : Type 0 where
  running : Places → Network
  stopped : Network

-- the network after cycle c, from the network when it starts
abbrev pub next : Plan → ℕ → Cycles → ℕ → Network → Network
next p T cycles c stopped = stopped
next p T cycles c (running places) =
    cond (overrun p T cycles places)
    stopped
    (running (λ f k. advance (eqb (get_or (cycles f) k 0) c) (route_of p f) (places f k)))

-- the network when cycle c starts
unfoldable pub run : Plan → ℕ → Cycles → ℕ → Network
run p T cycles zero = running (λ f k. source)
run p T cycles (suc c) = next p T cycles c (run p T cycles c)

-- Where cycles are aligned, a sent frame is wholly sent between S after its cycle's start and S before its end: the end of its sending in cycle c may be
-- any whole instant from the one to the other, both included.
pub record MayEnd (p : Plan) (T c end : ℕ) : Type 0 where
  pub opened : c * T + p.guard ≤ end
  pub closed : end + p.guard ≤ suc c * T

-- a frame is left unsent somewhere in the run
pub record Overruns (p : Plan) (T : ℕ) (cycles : Cycles) : Type 0 where
  pub cycle : ℕ
  pub unsent : run p T cycles cycle ≡ stopped

-- frame k of the flow in slot f leaves its last port in cycle c
pub record Leaves (p : Plan) (T : ℕ) (cycles : Cycles) (f k c : ℕ) : Type 0 where
  pub before : Places
  pub after : Places
  pub starts : run p T cycles c ≡ running before
  pub ends : run p T cycles (suc c) ≡ running after
  pub there : is_gone (before f k) ≡ false
  pub left : is_gone (after f k) ≡ true
