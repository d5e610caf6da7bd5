-- The emission of a port that fails: each flow that crosses it emits all it may in one cycle, chosen so that all of it is queued at
-- that port in one later cycle. It keeps every contract, and these cycles are permitted.
use Rattle.std.specs.Prelude.{◌≡◌, Bool, cond, ◌&&◌, ℕ, suc, ◌+◌, ◌-◌, ◌*◌, ◌/◌, ◌≤◌, ◌<◌, length, get_or, eqb}
use Rattle.std.proofs.Math.Path.{refl}
use Rattle.std.proofs.Common.{sym, not-suc-le-zero, le_trans, le_of_eq, arith, eqb-true}
use Rattle.std.proofs.Math.Bool.{true, false, and-eq-true_iff}
use mathlib.Core.List.{List, [], map}
use Rattle.std.proofs.Math.Decide.{dec_lt}
use Rattle.std.proofs.Math.ListN.{length-map}
use Rattle.std.proofs.lemmas.Bool.{eqb-false}
use Rattle.cqf.specs.Bounded.{lowest}
use Rattle.cqf.specs.Limits.{flow_slots, max_hops}
use Rattle.cqf.specs.Plan.{Plan, period_of, count_of, jitter_of, route_of, present, crosses, clocks_equal, valid_plan}
use Rattle.cqf.specs.Widened.{widened}
use Rattle.cqf.specs.Condition.{begun, frames}
use Rattle.cqf.specs.Emission.{Emission, Released, Keeps, NominalsInOrder}
use Rattle.cqf.specs.Cycles.{Cycles, cycles_of, Partition, Permitted, aligned, parted}
use Rattle.cqf.proofs.laws.Bounded.{lowest-passes, lowest_below}
use Rattle.cqf.proofs.laws.Lists.{elem_index}
use Rattle.cqf.proofs.laws.Valid.{Held, held_period, present_held, crosses_held, held_present}
use Rattle.cqf.proofs.laws.Begun.{widened_covers, widened-aligned, begun-before}
use Rattle.cqf.proofs.laws.Burst.{burst, nominally, all_in, burst_from, burst-early, burst-rising, burst_released, burst-spaced, burst_ordered, burst_count, burst-aligned}
use Rattle.cqf.proofs.laws.Sending.{emitted_in}

-- where the port in slot q stands on the route of flow f
unfoldable pub hop : Plan → ℕ → ℕ → ℕ
hop p q f = lowest (length (route_of p f)) (λ i. eqb (get_or (route_of p f) i 0) (suc q))

pub hop-at
    : (p : Plan) (q f : ℕ)
    → crosses p f q ≡ true
    → (hop p q f < length (route_of p f)) × (get_or (route_of p f) (hop p q f) 0 ≡ suc q)
unfolding hop
hop-at p q f h = go (dec_lt (hop p q f) (length (route_of p f)))
  where
    test : ℕ → Bool
    test i = eqb (get_or (route_of p f) i 0) (suc q)

    go
        : Dec (hop p q f < length (route_of p f))
        → (hop p q f < length (route_of p f)) × (get_or (route_of p f) (hop p q f) 0 ≡ suc q)
    go (yes l) = (l, eqb-true _ _ (lowest-passes (length (route_of p f)) test l))
    go (no n) =
        let t = elem_index (suc q) (route_of p f) h in
        let low = lowest_below (length (route_of p f)) test t.0 (omega (arith, t.1)) in
        absurd (eqb-false _ _ low t.2)

-- the instant from which flow f has its burst: early by as many cycles as the port is late on its route
abbrev begins : Plan → ℕ → ℕ → ℕ → ℕ
begins p T q f = (max_hops - hop p q f) * T

-- all that flow f may emit from there
abbrev burst_of : Plan → ℕ → ℕ → ℕ → List ℕ
burst_of p T q f = burst (begins p T q f) (begun p f T) (count_of p f) (period_of p f) (jitter_of p f)

-- the emission: the burst of each flow that crosses the port
unfoldable pub worst : Plan → ℕ → ℕ → Emission
unfolding hop
worst p T q f = cond (present p f && crosses p f q) (burst_of p T q f) []

-- the cycle of each burst
unfoldable pub chosen : Plan → ℕ → ℕ → Cycles
unfolding hop worst
chosen p T q f = map (λ (t : ℕ). max_hops - hop p q f) (worst p T q f)

module _ (p : Plan) (valid : valid_plan p ≡ true) (T : ℕ) (long : 0 < T) (q : ℕ) where
  -- its periods begin within the stretch and the jitter before it
  in_widened : (f : ℕ) → Held p f → (m : ℕ) → m < begun p f T → m * period_of p f < widened p T + jitter_of p f
  in_widened f flow m l = begun-before p f T m (held_period p f flow) l

  -- what holds of no frames and of the burst of a flow holds of the emission
  worst_cases : (P : List ℕ → Type 0) (f : ℕ) → P [] → (Held p f → P (burst_of p T q f)) → P (worst p T q f)
  unfolding worst
  worst_cases P f none some = go (present p f && crosses p f q) refl
    where
      go : (x : Bool) → present p f && crosses p f q ≡ x → P (cond x (burst_of p T q f) [])
      go true h = some (present_held p valid f ((and-eq-true_iff (present p f) (crosses p f q)).0 h).0)
      go false h = none

  -- what holds of each frame of each burst holds of each frame of the emission
  worst-frames
      : (P : List ℕ → Type 0) (f k : ℕ)
      → (Held p f → k < length (burst_of p T q f) → P (burst_of p T q f))
      → k < length (worst p T q f)
      → P (worst p T q f)
  worst-frames P f k = λ each. worst_cases (λ l. k < length l → P l) f (λ h. absurd (not-suc-le-zero h)) each

  -- it keeps every contract
  worst_absent : (f : ℕ) → present p f ≡ false → worst p T q f ≡ []
  unfolding worst
  worst_absent f h = rw h

  worst-rising : (f k : ℕ) → suc k < length (worst p T q f) → get_or (worst p T q f) k 0 ≤ get_or (worst p T q f) (suc k) 0
  worst-rising f k =
      worst-frames (λ l. get_or l k 0 ≤ get_or l (suc k) 0) f (suc k)
      (λ flow. burst-rising (begins p T q f) (begun p f T) (count_of p f) (period_of p f) (jitter_of p f) flow.count_least k)

  abbrev worst_nominal : ℕ → ℕ → ℕ
  worst_nominal f k = nominally (begins p T q f) (count_of p f) (period_of p f) k

  worst_released : (f k : ℕ) → k < length (worst p T q f) → Released (jitter_of p f) (worst_nominal f k) (get_or (worst p T q f) k 0)
  worst_released f k =
      worst-frames (λ l. Released (jitter_of p f) (worst_nominal f k) (get_or l k 0)) f k
      (λ flow. burst_released (begins p T q f) (begun p f T) (count_of p f) (period_of p f) (jitter_of p f) k)

  worst-spaced
      : (f k : ℕ)
      → k + count_of p f < length (worst p T q f)
      → worst_nominal f k + period_of p f ≤ worst_nominal f (k + count_of p f)
  worst-spaced f k =
      worst-frames (λ l. worst_nominal f k + period_of p f ≤ worst_nominal f (k + count_of p f)) f (k + count_of p f)
      (λ flow _.
      burst-spaced (begins p T q f) (begun p f T) (count_of p f) (period_of p f) (jitter_of p f) flow.count_least k)

  pub worst_keeps : Keeps p (worst p T q)
  worst_keeps =
      record {
        absent = worst_absent;
        rising = worst-rising;
        nominal = worst_nominal;
        released = worst_released;
        spaced = worst-spaced;
      }

  -- and its nominal instants never fall
  pub worst_ordered : NominalsInOrder worst_keeps
  unfolding worst_keeps hop
  worst_ordered f k =
      worst-frames (λ l. worst_nominal f k ≤ worst_nominal f (suc k)) f (suc k)
      (λ flow _.
      burst_ordered (begins p T q f) (begun p f T) (count_of p f) (period_of p f) (jitter_of p f) flow.count_least k)

  -- Each burst may have one cycle for its own. Its frames lie within the stretch from its beginning on.
  worst-early : (f k : ℕ) → k < length (worst p T q f) → get_or (worst p T q f) k 0 < begins p T q f + widened p T
  worst-early f k =
      worst-frames (λ l. get_or l k 0 < begins p T q f + widened p T) f k
      (λ flow.
      burst-early
      (begins p T q f)
      (begun p f T)
      (count_of p f)
      (period_of p f)
      (jitter_of p f)
      flow.count_least
      (widened p T)
      (le_trans long (widened_covers p T))
      (in_widened f flow)
      k)

  worst_from : (f k : ℕ) → k < length (worst p T q f) → begins p T q f ≤ get_or (worst p T q f) k 0
  worst_from f k =
      worst-frames (λ l. begins p T q f ≤ get_or l k 0) f k
      (λ flow. burst_from (begins p T q f) (begun p f T) (count_of p f) (period_of p f) (jitter_of p f) k)

  chosen_each : (f : ℕ) → length (chosen p T q f) ≡ length (worst p T q f)
  unfolding chosen
  chosen_each f = length-map (worst p T q f) (λ (t : ℕ). max_hops - hop p q f)

  chosen_at : (f k : ℕ) → k < length (worst p T q f) → get_or (chosen p T q f) k 0 ≡ max_hops - hop p q f
  unfolding chosen
  chosen_at f k l = all_in (max_hops - hop p q f) (worst p T q f) k (rw length-map l)

  chosen_partition : Partition p T (worst p T q) (chosen p T q)
  chosen_partition =
      record {
        each = chosen_each;
        rising = λ f k l. omega (arith, chosen_at f k (omega arith), chosen_at f (suc k) l);
        near = λ f i j l m _. omega (arith, worst-early f j m, worst_from f i (omega arith));
      }

  -- where clocks are taken as equal, that cycle is the aligned one
  chosen-aligned : clocks_equal p ≡ true → (f : ℕ) → chosen p T q f ≡ cycles_of T (worst p T q) f
  unfolding chosen
  chosen-aligned same f =
      worst_cases (λ l. map (λ (t : ℕ). max_hops - hop p q f) l ≡ map (λ (t : ℕ). t / T) l) f refl
      (λ flow.
      burst-aligned T (max_hops - hop p q f) (begun p f T) (count_of p f) (period_of p f) (jitter_of p f) flow.count_least long
      (λ m l. rw (widened-aligned p same T) at (in_widened f flow m l)))

  pub chosen_permitted : Permitted p T (worst p T q) (chosen p T q)
  chosen_permitted = go (clocks_equal p) refl
    where
      go : (x : Bool) → clocks_equal p ≡ x → Permitted p T (worst p T q) (chosen p T q)
      go true h = aligned h (chosen-aligned h)
      go false h = parted h chosen_partition

  -- each flow that crosses the port emits its frames in the cycle chosen for it
  worst-burst : (f : ℕ) → f < flow_slots → crosses p f q ≡ true → worst p T q f ≡ burst_of p T q f
  unfolding worst
  worst-burst f l h = rw (held_present p f l (crosses_held p valid f q l h), h)

  pub worst_emitted : (f : ℕ) → f < flow_slots → crosses p f q ≡ true → frames p f T ≤ emitted_in (chosen p T q) f (max_hops - hop p q f)
  unfolding frames chosen
  worst_emitted f l h =
      rw (worst-burst f l h)
      (le_of_eq
      (sym (burst_count (begins p T q f) (begun p f T) (count_of p f) (period_of p f) (jitter_of p f) (max_hops - hop p q f))))
