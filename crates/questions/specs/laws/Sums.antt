-- Laws of the demands as they are summed up, flow by flow, from columns that are in_range for it.
use Rattle.std.specs.Prelude.{◌≡◌, refl, ◌⊎◌, Bool, List, [], ◌∷◌, length, get_or}
use Rattle.std.proofs.Common.{sym, ap, ◌∙◌, inl, inr, add-zero, mul-le-mul_right, le_trans, add-one, arith, ext_get_or, ne_eqb}
use Rattle.std.proofs.Math.Bool.{true, false, cond, and-eq-true_iff}
use Rattle.std.proofs.lemmas.Bool.{false≢true}
use Prim.Native.Nat.{ℕ, ◌+◌, ◌*◌, ◌≤◌, ◌<◌, zero-le}
use Rattle.std.proofs.Math.Decide.{ℕ_discrete}
use Rattle.cqf.specs.Bounded.{sum_to, elem, every, distinct, sublist, tabulate}
use Rattle.cqf.specs.Limits.{port_slots, flow_slots, route_stride, min_period, port_ok}
use Rattle.cqf.specs.Overflow.{most_widened, most_bits, most_demand}
use Rattle.cqf.specs.Plan.{Plan, extra_of, period_of, count_of, length_of, jitter_of, hops_of, route_of, crosses, port_in, valid_plan}
use Rattle.cqf.specs.Port.{bits_of, wire_bits}
use Rattle.cqf.specs.Widened.{widened}
use Rattle.cqf.specs.Condition.{frames_by, frames, demand}
use Rattle.cqf.proofs.laws.Bounds.{sum_to_most}
use Rattle.cqf.proofs.laws.Valid.{Empty, Held, slot_cases}
use Rattle.cqf.proofs.laws.Lists.{elem_at, sublist_length, sublist-at}
use Rattle.cqf.proofs.laws.Route.{sublist_more, elem_more, next-port}
use Rattle.cqf.proofs.laws.Tabulate.{tabulate_length, tabulate-at}
use Rattle.cqf.proofs.laws.Demand.{frames_by_lem, share, demand_sum, flow_bits_most, share-none, demand-next}
use Rattle.tables.specs.Columns.{FlowInRange, ExtrasInRange, Marked}

-- a stronger test that each number of a list passes
every_weaker : (a b : ℕ → Bool) → ((n : ℕ) → a n ≡ true → b n ≡ true) → (l : List ℕ) → every a l ≡ true → every b l ≡ true
unfolding every
every_weaker a b h [] e = refl
every_weaker a b h (x ∷ l) e =
    let t = (and-eq-true_iff (a x) (every a l)).0 e in
    (and-eq-true_iff (b x) (every b l)).1 (h x t.0, every_weaker a b h l t.1)

-- every slot of the flows' columns is in_range
abbrev pub AllInRange : Plan → Type 0
AllInRange p = (f : ℕ) → f < flow_slots → FlowInRange (period_of p f) (count_of p f) (length_of p f) (jitter_of p f) (hops_of p f) (route_of p f)

-- those of a valid plan are
pub slot_in_range : (p : Plan) → valid_plan p ≡ true → AllInRange p
unfolding sublist every distinct
slot_in_range p valid f l = go (slot_cases p valid f l)
  where
    go : Empty p f ⊎ Held p f → FlowInRange (period_of p f) (count_of p f) (length_of p f) (jitter_of p f) (hops_of p f) (route_of p f)
    go (inl e) =
        record {
          absent = λ _. e.hops;
          period_least = λ ne. absurd (ne e.period);
          period_most = omega (arith, e.period);
          count_most = omega (arith, e.count);
          bytes_most = omega (arith, e.bytes);
          jitter_most = omega (arith, e.jitter);
          hops_most = omega (arith, e.hops);
          ports = rw e.hops;
          once = rw e.hops;
        }
    go (inr h) =
        record {
          absent = λ e. absurd (omega (arith, h.period_least, e));
          period_least = λ _. h.period_least;
          period_most = h.period_most;
          count_most = h.count_most;
          bytes_most = h.bytes_most;
          jitter_most = h.jitter_most;
          hops_most = h.hops_most;
          ports = every_weaker (port_in p.rates) port_ok (λ n e. ((and-eq-true_iff _ _).0 e).0) (route_of p f) h.in_plan;
          once = h.once;
        }

-- the port at i of a flow's route: in range, and none of those before
pub route_next
    : (p : Plan)
    → valid_plan p ≡ true
    → (f i : ℕ)
    → f < flow_slots
    → i < hops_of p f
    → (0 < get_or p.routes (f * route_stride + i) 0)
    × (get_or p.routes (f * route_stride + i) 0 ≤ port_slots)
    × (elem (get_or p.routes (f * route_stride + i) 0) (sublist p.routes (f * route_stride) i) ≡ false)
route_next p valid f i slot l =
    let r = slot_in_range p valid f slot in
    next-port p.routes (f * route_stride) (hops_of p f) i r.ports r.once l

-- the wire bits of flow f's frames at the port in slot q
abbrev pub bits_at : Plan → ℕ → ℕ → ℕ → ℕ
bits_at p T f q = frames p f T * bits_of (length_of p f) (extra_of p q)

-- its frames, counted over a number that is the plan's length for it
pub framed
    : (p : Plan) (T f : ℕ) {over many : ℕ}
    → over ≡ widened p T
    → many ≡ frames_by (count_of p f) over (jitter_of p f) (period_of p f)
    → many ≡ frames p f T
framed p T f is e =
    e ∙ ap (λ (n : ℕ). frames_by (count_of p f) n (jitter_of p f) (period_of p f)) is ∙ sym (frames_by_lem p f T)

-- each port's demand by the flows before f
abbrev pub Sums : Plan → ℕ → ℕ → List ℕ → Type 0
Sums p T f l = (q : ℕ) → q < port_slots → get_or l q 0 ≡ sum_to f (share p q T)

module _ (p : Plan) (T : ℕ) where
  pub sums_none : (l : List ℕ) → ((q : ℕ) → q < port_slots → get_or l q 0 ≡ 0) → Sums p T 0 l
  unfolding sum_to
  sums_none l zeros = zeros

  -- a flow without ports adds nothing
  pub sums_skip : (f : ℕ) (l : List ℕ) → hops_of p f ≡ 0 → Sums p T f l → Sums p T (f + 1) l
  sums_skip f l none sums q h =
      sums q h ∙ sym (demand-next p q T f ∙ ap (λ (n : ℕ). sum_to f (share p q T) + n) (share-none p q T f none) ∙ add-zero _)

  -- a flow whose bits are added at each port of its route
  pub sums_add
      : (f many : ℕ) (l l' : List ℕ)
      → many ≡ frames p f T
      → Marked l l' (route_of p f) (λ q. many * bits_of (length_of p f) (extra_of p q))
      → Sums p T f l
      → Sums p T (f + 1) l'
  unfolding wire_bits
  sums_add f many l l' e marked sums q h =
      marked q h
      ∙ rw (e, sums q h) (sym (demand-next p q T f))

  -- after the last flow
  pub sums_all : (l : List ℕ) → length l ≡ port_slots → Sums p T flow_slots l → l ≡ tabulate port_slots (λ q. demand p q T)
  sums_all l long sums =
      ext_get_or 0 l (tabulate port_slots (λ q. demand p q T)) (long ∙ sym (tabulate_length port_slots _))
      (λ q h.
      let h' : q < port_slots = omega arith in
      sums q h' ∙ sym (demand_sum p q T) ∙ sym (tabulate-at port_slots (λ q. demand p q T) q h'))

-- one port's demand by the flows before f, with flow f, which crosses it or does not
module _ (p : Plan) (q T f : ℕ) {sum : ℕ} (before : sum ≡ sum_to f (share p q T)) where
  pub sum_crossing
      : {over bits : ℕ}
      → crosses p f q ≡ true
      → over ≡ widened p T
      → bits ≡ frames_by (count_of p f) over (jitter_of p f) (period_of p f) * bits_of (length_of p f) (extra_of p q)
      → sum + bits ≡ sum_to (f + 1) (share p q T)
  unfolding wire_bits
  sum_crossing e is bits = rw (before, bits, framed p T f is refl) (sym (demand-next p q T f ∙ rw e))

  pub sum_apart : crosses p f q ≡ false → sum ≡ sum_to (f + 1) (share p q T)
  sum_apart e = before ∙ sym (demand-next p q T f ∙ (rw e (add-zero _)))

module _ (p : Plan) (in_range : AllInRange p) (small : ExtrasInRange p.extras) (T : ℕ) (fits : widened p T ≤ most_widened) where
  -- one flow brings at most its most bits to a port
  pub flow_most : (f : ℕ) → f < flow_slots → (period_of p f ≡ 0 → ⊥) → (q : ℕ) → q < port_slots → bits_at p T f q ≤ most_bits
  flow_most f l there q slot =
      let r = in_range f l in
      rw (frames_by_lem p f T)
      (flow_bits_most (widened p T) fits (r.period_least there) r.count_most r.bytes_most r.jitter_most (small q slot))

  share_most : (q f : ℕ) → q < port_slots → f < flow_slots → share p q T f ≤ most_bits
  unfolding wire_bits
  share_most q f slot l = go (ℕ_discrete (period_of p f) 0)
    where
      part : (x : Bool) → bits_at p T f q ≤ most_bits → cond x (bits_at p T f q) 0 ≤ most_bits
      part true h = h
      part false h = zero-le

      go : Dec (period_of p f ≡ 0) → share p q T f ≤ most_bits
      go (yes e) = omega (arith, share-none p q T f ((in_range f l).absent e))
      go (no there) = part (crosses p f q) (flow_most f l there q slot)

  -- the sums by the flows before f, and so each demand
  pub sum_most : (q f : ℕ) → q < port_slots → f ≤ flow_slots → sum_to f (share p q T) ≤ most_demand
  sum_most q f slot l =
      le_trans (sum_to_most f (share p q T) most_bits (λ i h. share_most q i slot (omega arith))) (mul-le-mul_right most_bits l)

  pub demand_most : (q : ℕ) → q < port_slots → demand p q T ≤ most_demand
  demand_most q slot = omega (arith, demand_sum p q T, sum_most q flow_slots slot (omega arith))

-- a flow that crosses a port has a period
pub crossing_period : (p : Plan) → AllInRange p → (q f : ℕ) → f < flow_slots → crosses p f q ≡ true → min_period ≤ period_of p f
unfolding sublist elem
crossing_period p in_range q f l e =
    (in_range f l).period_least (λ none. false≢true (rw ((in_range f l).absent none) at e))

-- whether a number stands in a sublist, one place further and at a place
pub elem_next
    : (l : List ℕ) (at i n : ℕ)
    → elem n (sublist l at i) ≡ false
    → (get_or l (at + i) 0 ≡ n → ⊥)
    → elem n (sublist l at (i + 1)) ≡ false
elem_next l at i n e ne =
    rw (add-one i, sublist_more l at i, elem_more n (sublist l at i) (get_or l (at + i) 0), e, ne_eqb n (get_or l (at + i) 0) (λ d. ne (sym d)))

pub elem_here : (l : List ℕ) (at h i n : ℕ) → i < h → get_or l (at + i) 0 ≡ n → elem n (sublist l at h) ≡ true
elem_here l at h i n less e =
    ap (λ (m : ℕ). elem m (sublist l at h)) (sym (sublist-at l at h i less ∙ e))
    ∙ elem_at (sublist l at h) i (rw sublist_length less)
