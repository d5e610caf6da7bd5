-- The columns of the tables, and the kind of part that puts a number into each.
use Rattle.std.specs.Prelude.{ℕ, zero, suc, ◌-◌, ◌*◌, ◌<◌, ◌≡◌, refl, List, length, get_or, replicate}
use Rattle.std.proofs.Common.{sym, ◌∙◌, arith, ext_get_or}
use Rattle.std.proofs.Math.Option.{some}
use Rattle.cqf.specs.Limits.{port_slots, flow_slots, route_stride}
use Rattle.cqf.specs.Plan.{Clock, no_plan}
use Rattle.plan_reading.specs.Part.{Part, header, port, flow, extra, jitter, clock}
use Rattle.plan_reading.specs.Put.{run}
use Rattle.plan_reading.specs.Store.{header_number, port_number, flow_number, puts_rate, puts_blocking, puts_extra, puts_period, puts_count, puts_length, puts_jitter, puts_hops, puts_route, puts_clock, store}
use Rattle.plan_reading.specs.laws.stores.Sources.{Column, Touches}

-- an empty column
pub zeros : (n j : ℕ) → get_or {A = ℕ} (replicate n 0) j 0 ≡ 0
zeros zero j = refl
zeros (suc n) zero = refl
zeros (suc n) (suc j) = zeros n j

-- two columns of a size that agree slot by slot are equal
pub same_column : (n : ℕ) (l m : List ℕ) → length l ≡ n → length m ≡ n → ((i : ℕ) → i < n → get_or l i 0 ≡ get_or m i 0) → l ≡ m
same_column n l m a b same = ext_get_or 0 l m (a ∙ sym b) (λ i k. same i (omega arith))

-- each column
pub rate_column : Column (λ p. p.rates) puts_rate
unfolding store no_plan
rate_column = record { stores = λ p x. refl; empty = zeros port_slots }

pub blocking_column : Column (λ p. p.blockings) puts_blocking
unfolding store no_plan
blocking_column = record { stores = λ p x. refl; empty = zeros port_slots }

pub extra_column : Column (λ p. p.extras) puts_extra
unfolding store no_plan
extra_column = record { stores = λ p x. refl; empty = zeros port_slots }

pub period_column : Column (λ p. p.periods) puts_period
unfolding store no_plan
period_column = record { stores = λ p x. refl; empty = zeros flow_slots }

pub count_column : Column (λ p. p.counts) puts_count
unfolding store no_plan
count_column = record { stores = λ p x. refl; empty = zeros flow_slots }

pub length_column : Column (λ p. p.lengths) puts_length
unfolding store no_plan
length_column = record { stores = λ p x. refl; empty = zeros flow_slots }

pub jitter_column : Column (λ p. p.jitters) puts_jitter
unfolding store no_plan
jitter_column = record { stores = λ p x. refl; empty = zeros flow_slots }

pub hops_column : Column (λ p. p.hops) puts_hops
unfolding store no_plan
hops_column = record { stores = λ p x. refl; empty = zeros flow_slots }

pub route_column : Column (λ p. p.routes) puts_route
unfolding store no_plan
route_column = record { stores = λ p x. refl; empty = zeros (flow_slots * route_stride) }

-- a part that puts a number there, by its kind
pub touched_port : (which : (number rate blocking : ℕ) → ℕ) (x : Part) (j : ℕ) → Touches j (port_number which x) → (n v b : ℕ) × (x ≡ port n v b) × (n - 1 ≡ j)
touched_port which (header g t) j h = absurd h
touched_port which (port n v b) j h = (n, v, b, refl, h)
touched_port which (flow n t c l k) j h = absurd h
touched_port which (extra n b) j h = absurd h
touched_port which (jitter n ns) j h = absurd h
touched_port which (clock k) j h = absurd h

pub touched_flow : (which : (number period count bytes : ℕ) (route : List ℕ) → ℕ) (x : Part) (j : ℕ) → Touches j (flow_number which x) → (n t c l : ℕ) × (r : List ℕ) × (x ≡ flow n t c l r) × (n - 1 ≡ j)
touched_flow which (header g t) j h = absurd h
touched_flow which (port n v b) j h = absurd h
touched_flow which (flow n t c l k) j h = (n, t, c, l, k, refl, h)
touched_flow which (extra n b) j h = absurd h
touched_flow which (jitter n ns) j h = absurd h
touched_flow which (clock k) j h = absurd h

pub touched_route : (x : Part) (j : ℕ) → Touches j (puts_route x) → (n t c l : ℕ) × (r : List ℕ) × (x ≡ flow n t c l r) × Touches j (run ((n - 1) * route_stride) r)
touched_route (header g t) j h = absurd h
touched_route (port n v b) j h = absurd h
touched_route (flow n t c l k) j h = (n, t, c, l, k, refl, h)
touched_route (extra n b) j h = absurd h
touched_route (jitter n ns) j h = absurd h
touched_route (clock k) j h = absurd h

pub touched_extra : (x : Part) (j : ℕ) → Touches j (puts_extra x) → (n b : ℕ) × (x ≡ extra n b) × (n - 1 ≡ j)
touched_extra (header g t) j h = absurd h
touched_extra (port n v b) j h = absurd h
touched_extra (flow n t c l k) j h = absurd h
touched_extra (extra n b) j h = (n, b, refl, h)
touched_extra (jitter n ns) j h = absurd h
touched_extra (clock k) j h = absurd h

pub touched_jitter : (x : Part) (j : ℕ) → Touches j (puts_jitter x) → (n ns : ℕ) × (x ≡ jitter n ns) × (n - 1 ≡ j)
touched_jitter (header g t) j h = absurd h
touched_jitter (port n v b) j h = absurd h
touched_jitter (flow n t c l k) j h = absurd h
touched_jitter (extra n b) j h = absurd h
touched_jitter (jitter n ns) j h = (n, ns, refl, h)
touched_jitter (clock k) j h = absurd h

-- and one that gives a number of the header, or the clocks'
pub given_header : (which : (guard top : ℕ) → ℕ) (x : Part) (a : ℕ) → header_number which x ≡ some a → (g t : ℕ) × (x ≡ header g t)
given_header which (header g t) a h = (g, t, refl)
given_header which (port n v b) a h = let z : ◌≡◌ {A = ℕ} 0 1 = cc in absurd (omega arith)
given_header which (flow n t c l k) a h = let z : ◌≡◌ {A = ℕ} 0 1 = cc in absurd (omega arith)
given_header which (extra n b) a h = let z : ◌≡◌ {A = ℕ} 0 1 = cc in absurd (omega arith)
given_header which (jitter n ns) a h = let z : ◌≡◌ {A = ℕ} 0 1 = cc in absurd (omega arith)
given_header which (clock k) a h = let z : ◌≡◌ {A = ℕ} 0 1 = cc in absurd (omega arith)

pub given-clock : (x : Part) (a : Clock) → puts_clock x ≡ some a → (k : Clock) × (x ≡ clock k)
given-clock (header g t) a h = let z : ◌≡◌ {A = ℕ} 0 1 = cc in absurd (omega arith)
given-clock (port n v b) a h = let z : ◌≡◌ {A = ℕ} 0 1 = cc in absurd (omega arith)
given-clock (flow n t c l k) a h = let z : ◌≡◌ {A = ℕ} 0 1 = cc in absurd (omega arith)
given-clock (extra n b) a h = let z : ◌≡◌ {A = ℕ} 0 1 = cc in absurd (omega arith)
given-clock (jitter n ns) a h = let z : ◌≡◌ {A = ℕ} 0 1 = cc in absurd (omega arith)
given-clock (clock k) a h = (k, refl)
