-- What a row of parts of which none has the key of another leaves is tidy, and a tidy plan has nothing to be tidied.
use Rattle.std.specs.Prelude.{ℕ, ◌+◌, ◌-◌, ◌*◌, ◌/◌, ◌%◌, ◌≤◌, ◌<◌, ◌≡◌, refl, List, Bool, true, false, cond, ltb, length, get_or}
use Rattle.std.proofs.Common.{sym, ap, ◌∙◌, subst, arith, lt-ltb, ltb-false}
use Rattle.std.proofs.Math.Decide.{dec_lt}
use Rattle.cqf.specs.Bounded.{tabulate}
use Rattle.cqf.specs.Limits.{flow_slots, route_stride}
use Rattle.cqf.specs.Plan.{Plan, hops_of, route_of}
use Rattle.cqf.proofs.laws.Lists.{sublist_length}
use Rattle.cqf.proofs.laws.Tabulate.{tabulate_length, tabulate-at}
use Rattle.plan_reading.specs.Part.{Part, flow}
use Rattle.plan_reading.specs.Store.{puts_route}
use Rattle.plan_reading.specs.Ranges.{PartOk}
use Rattle.plan_reading.specs.Tidy.{Tidy, tidied_at, tidied}
use Rattle.plan_reading.specs.Sized.{Sized}
use Rattle.plan_reading.specs.laws.fields.Within.{within_high}
use Rattle.plan_reading.specs.laws.fields.Ranged.{all_at}
use Rattle.plan_reading.specs.laws.stores.Stores.{sublist_same}
use Rattle.plan_reading.specs.laws.stores.Sources.{Touches, tables_of, source}
use Rattle.plan_reading.specs.laws.stores.Columns.{same_column, route_column, touched_route}
use Rattle.plan_reading.specs.laws.stores.Fresh.{Fresh, fresh_stands}
use Rattle.plan_reading.specs.laws.saved.Entries.{Stands}

-- a route that stands in the tables does so in the places of its own flow, as far as its hops go
pub route_place
    : (p : Plan) (x : Part) (f i : ℕ)
    → PartOk x
    → Stands p x
    → i < route_stride
    → Touches (f * route_stride + i) (puts_route x)
    → i < hops_of p f
route_place p x f i ok h less t =
    let u = touched_route x (f * route_stride + i) t in
    let r = u.4 in
    let y = flow u.0 u.1 u.2 u.3 r in
    let s : Stands p y = subst (Stands p) u.5 h in
    let k : PartOk y = subst PartOk u.5 ok in
    let slot = u.0 - 1 in
    let long : length r ≡ hops_of p slot = ap length (sym s.4) ∙ sublist_length p.routes (slot * route_stride) (hops_of p slot) in
    let short = within_high _ _ (length r) k.hops in
    let same : slot ≡ f = omega (arith, u.6.0, u.6.1) in
    let here : hops_of p slot ≡ hops_of p f = ap (hops_of p) same in
    omega (arith, u.6.1)

-- what such a row leaves
pub fresh_tidy : (xs : List Part) → Fresh xs → Tidy (tables_of xs)
fresh_tidy xs fresh f i l past less = go (dec_lt 0 (get_or (tables_of xs).routes (f * route_stride + i) 0))
  where
    go : Dec (0 < get_or (tables_of xs).routes (f * route_stride + i) 0) → get_or (tables_of xs).routes (f * route_stride + i) 0 ≡ 0
    go (no none) = omega arith
    go (yes there) =
        let s = source route_column xs (f * route_stride + i) there in
        absurd (omega (arith, route_place (tables_of xs) s.0 f i (all_at PartOk xs fresh.ok s.1) (fresh_stands fresh s.1) less s.2))

-- a tidy plan
pub tidied_same : (p : Plan) → Sized p → Tidy p → tidied p ≡ p
unfolding tidied
tidied_same p sized tidy =
    let places = flow_slots * route_stride in
    let routes : tabulate places (tidied_at p) ≡ p.routes =
    same_column places (tabulate places (tidied_at p)) p.routes (tabulate_length places (tidied_at p)) sized.routes
    (λ j l. tabulate-at places (tidied_at p) j l ∙ at j l) in
    λ i. record {
      guard = p.guard;
      top = p.top;
      clock = p.clock;
      rates = p.rates;
      blockings = p.blockings;
      extras = p.extras;
      periods = p.periods;
      counts = p.counts;
      lengths = p.lengths;
      jitters = p.jitters;
      hops = p.hops;
      routes = routes i;
    }
  where
    at : (j : ℕ) → j < flow_slots * route_stride → tidied_at p j ≡ get_or p.routes j 0
    at j l = go (ltb (j % route_stride) (hops_of p (j / route_stride))) refl
      where
        go : (b : Bool) → ltb (j % route_stride) (hops_of p (j / route_stride)) ≡ b → cond b (get_or p.routes j 0) 0 ≡ get_or p.routes j 0
        go true less = refl
        go false past =
            let place : j / route_stride * route_stride + j % route_stride ≡ j = omega arith in
            sym
            (ap (λ (k : ℕ). get_or p.routes k 0) (sym place)
            ∙ tidy (j / route_stride) (j % route_stride) (omega arith) (ltb-false _ _ past) (omega arith))

-- each flow keeps its route
pub tidied_route : (p : Plan) (f : ℕ) → f < flow_slots → hops_of p f ≤ route_stride → route_of (tidied p) f ≡ route_of p f
unfolding tidied
tidied_route p f l few =
    sublist_same (tabulate (flow_slots * route_stride) (tidied_at p)) p.routes (f * route_stride) (hops_of p f)
    (λ k low high.
    let i = k - f * route_stride in
    let slot : k / route_stride ≡ f = omega arith in
    let place : k % route_stride ≡ i = omega arith in
    let less : ltb (k % route_stride) (hops_of p (k / route_stride)) ≡ true = rw (slot, place) (lt-ltb i (hops_of p f) (omega arith)) in
    tabulate-at (flow_slots * route_stride) (tidied_at p) k (omega arith) ∙ rw less)
