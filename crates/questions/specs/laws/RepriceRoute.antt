-- What the code of another frame length rests on: the demand with it, its bounds, and the list as it is written port by port.
use Rattle.std.specs.Prelude.{◌≡◌, refl, true, List, [], ◌∷◌, ℤ, length, get_or, set}
use Rattle.std.proofs.Math.Path.{sym, ap}
use Rattle.std.proofs.Common.{ap₂, ◌∙◌, add-one, arith, ne_eqb}
use Rattle.std.proofs.Math.Bool.{or-false}
use Prim.Native.Nat.{ℕ, zero, suc, ◌+◌, ◌-◌, ◌*◌, ◌≤◌, ◌<◌}
use Rattle.std.proofs.Math.IntN.{sub_ℕ}
use Rattle.cqf.specs.Bounded.{elem, sublist}
use Rattle.cqf.specs.Limits.{port_slots, flow_slots, max_length}
use Rattle.cqf.specs.Overflow.{most_widened, most_demand}
use Rattle.cqf.specs.Plan.{Plan, rate_of, blocking_of, extra_of, period_of, count_of, length_of, jitter_of, crosses}
use Rattle.cqf.specs.Port.{bits_of, workload_of, wire_bits, window, capacity, workload}
use Rattle.cqf.specs.Widened.{widened_by, widened}
use Rattle.cqf.specs.Condition.{frames_by, frames, demand, slack}
use Rattle.cqf.specs.Reprice.{with_length, replaced}
use Rattle.cqf.proofs.laws.Bounded.{sum_to_term}
use Rattle.cqf.proofs.laws.Route.{sublist_more, elem_more}
use Rattle.cqf.proofs.laws.Demand.{share, demand_sum}
use Rattle.cqf.proofs.laws.Replaced.{replaced_more}
use Rattle.cqf.proofs.laws.Reprice.{demand-with}
use Rattle.cqf.proofs.laws.Repriced.{slack_is}
use Rattle.tables.specs.Columns.{ExtrasInRange}
use Rattle.questions.specs.laws.Sums.{AllInRange, framed, demand_most, elem_here}

-- a number set in a list that is at most as large
set_most : (l : List ℕ) (i v g m : ℕ) → get_or l g 0 ≤ m → v ≤ m → get_or (set l i v) g 0 ≤ m
set_most [] i v g m old new = old
set_most (x ∷ xs) zero v zero m old new = new
set_most (x ∷ xs) zero v (suc g) m old new = old
set_most (x ∷ xs) (suc i) v zero m old new = old
set_most (x ∷ xs) (suc i) v (suc g) m old new = set_most xs i v g m old new

module _ (p : Plan) (in_range : AllInRange p) (f bytes : ℕ) (few : bytes ≤ max_length) where
  changed_in_range : AllInRange (with_length p f bytes)
  unfolding with_length
  changed_in_range g l =
      let r = in_range g l in
      record {
        absent = r.absent;
        period_least = r.period_least;
        period_most = r.period_most;
        count_most = r.count_most;
        bytes_most = set_most p.lengths f bytes g max_length r.bytes_most few;
        jitter_most = r.jitter_most;
        hops_most = r.hops_most;
        ports = r.ports;
        once = r.once;
      }

  pub changed_fits
      : ExtrasInRange p.extras
      → (T : ℕ)
      → widened_by p.clock T ≤ most_widened
      → (q : ℕ)
      → q < port_slots
      → demand (with_length p f bytes) q T ≤ most_demand
  unfolding with_length widened
  changed_fits small T fits q slot = demand_most (with_length p f bytes) changed_in_range small T fits q slot

-- the flow's bits with its own length and with the other, from its frames
module _ (p : Plan) (f q T : ℕ) (slot : f < flow_slots) (long : f < length p.lengths) (on : crosses p f q ≡ true) where
  -- its own are part of the demand
  pub own_bits
      : {over old : ℕ}
      → over ≡ widened p T
      → old ≡ frames_by (count_of p f) over (jitter_of p f) (period_of p f) * bits_of (length_of p f) (extra_of p q)
      → old ≡ frames p f T * bits_of (length_of p f) (extra_of p q)
  own_bits is e = e ∙ ap (λ (n : ℕ). n * bits_of (length_of p f) (extra_of p q)) (framed p T f is refl)

  pub own-part : frames p f T * bits_of (length_of p f) (extra_of p q) ≤ demand p q T
  unfolding wire_bits
  own-part =
      let term = rw on at (sum_to_term flow_slots (share p q T) f slot) in
      omega (arith, term, demand_sum p q T)

  pub other_bits
      : (bytes : ℕ) {over new : ℕ}
      → over ≡ widened p T
      → new ≡ frames_by (count_of p f) over (jitter_of p f) (period_of p f) * bits_of bytes (extra_of p q)
      → new ≡ frames p f T * bits_of bytes (extra_of p q)
  other_bits bytes is e = e ∙ ap (λ (n : ℕ). n * bits_of bytes (extra_of p q)) (framed p T f is refl)

  pub demand_changed
      : (bytes : ℕ) {bits old new : ℕ}
      → bits ≡ demand p q T
      → old ≡ frames p f T * bits_of (length_of p f) (extra_of p q)
      → new ≡ frames p f T * bits_of bytes (extra_of p q)
      → bits - old + new ≡ demand (with_length p f bytes) q T
  demand_changed bytes b o n = omega (arith, demand-with p f slot q T bytes long on, own-part)

-- what a port can send, and must send of given bits, with that length
capacity_here : (p : Plan) (f bytes q T : ℕ) → capacity (with_length p f bytes) q T ≡ rate_of p q * (T - 2 * p.guard)
unfolding with_length capacity window
capacity_here p f bytes q T = refl

workload_here : (p : Plan) (f bytes q bits : ℕ) → workload (with_length p f bytes) q bits ≡ workload_of (blocking_of p q) (extra_of p q) bits
unfolding with_length workload
workload_here p f bytes q bits = refl

-- the slack by the numbers of the port and the demand with that length
pub changed_slack
    : (p : Plan) (f bytes q T : ℕ) {available bits : ℕ} {z : ℤ}
    → available ≡ T - 2 * p.guard
    → bits ≡ demand (with_length p f bytes) q T
    → z ≡ sub_ℕ (rate_of p q * available) (workload_of (blocking_of p q) (extra_of p q) bits)
    → z ≡ slack (with_length p f bytes) q T
changed_slack p f bytes q T w b e =
    e
    ∙ ap₂ (λ (n m : ℕ). sub_ℕ (rate_of p q * n) (workload_of (blocking_of p q) (extra_of p q) m)) w b
    ∙ sym (slack_is (with_length p f bytes) q T ∙ ap₂ sub_ℕ (capacity_here p f bytes q T) (workload_here p f bytes q _))

-- the ports of a route with one more, n
module _ (routes : List ℕ) (at i n : ℕ) (is : get_or routes (at + i) 0 ≡ n) (some : 0 < n) where
  more_same : (q : ℕ) → (q ≡ n - 1 → ⊥) → elem (suc q) (sublist routes at (i + 1)) ≡ elem (suc q) (sublist routes at i)
  more_same q ne =
      rw (add-one i, sublist_more routes at i, elem_more (suc q) (sublist routes at i) (get_or routes (at + i) 0), is, ne_eqb (suc q) n (λ k. ne (omega arith)))
      (or-false (elem (suc q) (sublist routes at i)))

  more_here : elem (suc (n - 1)) (sublist routes at (i + 1)) ≡ true
  more_here = elem_here routes at (i + 1) i (suc (n - 1)) (omega arith) (omega arith)

-- the list with its slack
pub repriced-next
    : (routes : List ℕ) (at i : ℕ) (v : ℕ → ℤ) (out₀ out : List ℤ) (z : ℤ)
    → out ≡ replaced (λ q. elem (suc q) (sublist routes at i)) v out₀
    → 0 < get_or routes (at + i) 0
    → z ≡ v (get_or routes (at + i) 0 - 1)
    → set out (get_or routes (at + i) 0 - 1) z ≡ replaced (λ q. elem (suc q) (sublist routes at (i + 1))) v out₀
repriced-next routes at i v out₀ out z e some is =
    ap₂ (λ (l : List ℤ) (y : ℤ). set l (get_or routes (at + i) 0 - 1) y) e is
    ∙ replaced_more (λ q. elem (suc q) (sublist routes at i)) (λ q. elem (suc q) (sublist routes at (i + 1))) v out₀
    (get_or routes (at + i) 0 - 1)
    (more_same routes at i (get_or routes (at + i) 0) refl some)
    (more_here routes at i (get_or routes (at + i) 0) refl some)
