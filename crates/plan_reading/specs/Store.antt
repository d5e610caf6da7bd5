-- How a part is stored: column by column, what it puts there. Its numbers are from 1 on.
use Rattle.std.specs.Prelude.{ℕ, ◌-◌, ◌*◌, List, [], ◌∷◌, length}
use Rattle.std.proofs.Math.Option.{Option, some, none}
use Rattle.cqf.specs.Limits.{route_stride}
use Rattle.cqf.specs.Plan.{Clock, Plan}
use Rattle.plan_reading.specs.Part.{Part, of_header_lem, of_port_lem, of_flow_lem, ofExtra, ofJitter, ofClock}
use Rattle.plan_reading.specs.Put.{Put, keep, number, run, put, given}

-- a number of the header, of a port, of a flow: into the slot of its number
abbrev pub header_number : ((guard top : ℕ) → ℕ) → Part → Option ℕ
header_number which = of_header_lem none (λ guard top. some (which guard top))

abbrev pub port_number : ((number rate blocking : ℕ) → ℕ) → Part → Put
port_number which = of_port_lem keep (λ n rate blocking. number (n - 1) (which n rate blocking))

abbrev pub flow_number : ((number period count bytes : ℕ) (route : List ℕ) → ℕ) → Part → Put
flow_number which = of_flow_lem keep (λ n period count bytes r. number (n - 1) (which n period count bytes r))

-- the columns
abbrev pub puts_guard : Part → Option ℕ
puts_guard = header_number (λ guard top. guard)

abbrev pub puts_top : Part → Option ℕ
puts_top = header_number (λ guard top. top)

abbrev pub puts_clock : Part → Option Clock
puts_clock = ofClock none (λ k. some k)

abbrev pub puts_rate : Part → Put
puts_rate = port_number (λ n rate blocking. rate)

abbrev pub puts_blocking : Part → Put
puts_blocking = port_number (λ n rate blocking. blocking)

abbrev pub puts_extra : Part → Put
puts_extra = ofExtra keep (λ n bytes. number (n - 1) bytes)

abbrev pub puts_period : Part → Put
puts_period = flow_number (λ n period count bytes r. period)

abbrev pub puts_count : Part → Put
puts_count = flow_number (λ n period count bytes r. count)

abbrev pub puts_length : Part → Put
puts_length = flow_number (λ n period count bytes r. bytes)

abbrev pub puts_jitter : Part → Put
puts_jitter = ofJitter keep (λ n ns. number (n - 1) ns)

abbrev pub puts_hops : Part → Put
puts_hops = flow_number (λ n period count bytes r. length r)

abbrev pub puts_route : Part → Put
puts_route = of_flow_lem keep (λ n period count bytes r. run ((n - 1) * route_stride) r)

unfoldable pub store : Plan → Part → Plan
store p x =
    record {
      guard = given p.guard (puts_guard x);
      top = given p.top (puts_top x);
      clock = given p.clock (puts_clock x);
      rates = put p.rates (puts_rate x);
      blockings = put p.blockings (puts_blocking x);
      extras = put p.extras (puts_extra x);
      periods = put p.periods (puts_period x);
      counts = put p.counts (puts_count x);
      lengths = put p.lengths (puts_length x);
      jitters = put p.jitters (puts_jitter x);
      hops = put p.hops (puts_hops x);
      routes = put p.routes (puts_route x);
    }

-- several, one after the other
unfoldable pub store_all : Plan → List Part → Plan
unfolding store
store_all p [] = p
store_all p (x ∷ xs) = store_all (store p x) xs
