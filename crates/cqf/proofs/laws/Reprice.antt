-- Laws of a plan in which one flow's frames have another length: what stays, and what a port's demand becomes.
use Rattle.std.specs.Prelude.{◌≡◌, ◌≢◌, true, false, List, ℕ, zero, suc, ◌+◌, ◌*◌, ◌≤◌, ◌<◌, length}
use Rattle.std.proofs.Math.Path.{refl, ap}
use Rattle.std.proofs.Common.{sym, ◌∙◌, mul-add, mul_assoc, mul_comm, not-suc-le-zero, arith, get_or-set_same, get_or-set_other}
use Rattle.std.proofs.Math.Bool.{cond}
use Rattle.std.proofs.Math.Decide.{ℕ_discrete}
use Rattle.std.proofs.lemmas.List.{set-get_or}
use Rattle.cqf.specs.Bounded.{sum_to}
use Rattle.cqf.specs.Limits.{flow_slots}
use Rattle.cqf.specs.Plan.{Plan, extra_of, length_of, crosses}
use Rattle.cqf.specs.Port.{bits_of, wire_bits, capacity, window, workload}
use Rattle.cqf.specs.Widened.{widened}
use Rattle.cqf.specs.Condition.{begun, frames, demand, crossed}
use Rattle.cqf.specs.Reprice.{with_length}
use Rattle.cqf.proofs.laws.Demand.{share, demand_sum}

-- two sums of the same terms but for one
sum_to_but
    : (n : ℕ) (g h : ℕ → ℕ) (i : ℕ)
    → i < n
    → ((j : ℕ) → j ≢ i → g j ≡ h j)
    → sum_to n g + h i ≡ sum_to n h + g i
unfolding sum_to
sum_to_but zero g h i l same = absurd (not-suc-le-zero l)
sum_to_but (suc n) g h i l same = go (ℕ_discrete n i) (λ less. sum_to_but n g h i less same)
  where
    before : (m : ℕ) → m ≤ i → sum_to m g ≡ sum_to m h
    before zero k = refl
    before (suc m) k = omega (arith, before m (omega arith), same m (λ e. omega arith))

    go : Dec (n ≡ i) → (i < n → sum_to n g + h i ≡ sum_to n h + g i) → sum_to n g + g n + h i ≡ sum_to n h + h n + g i
    go (yes e) ih = rw (← e) (omega (arith, before n (omega arith)))
    go (no ne) ih = omega (arith, ih (omega arith), same n ne)

module _ (p : Plan) (f bytes : ℕ) where
  -- which ports are crossed, what they can send and the work of given bits are the plan's
  pub crossed_same : (q : ℕ) → crossed (with_length p f bytes) q ≡ crossed p q
  unfolding with_length crossed
  crossed_same q = refl

  pub capacity_same : (q T : ℕ) → capacity (with_length p f bytes) q T ≡ capacity p q T
  unfolding with_length capacity window
  capacity_same q T = refl

  pub workload_same : (q bits : ℕ) → workload (with_length p f bytes) q bits ≡ workload p q bits
  unfolding with_length workload
  workload_same q bits = refl

  -- what another flow brings to a port
  share_other : (q T g : ℕ) → g ≢ f → share (with_length p f bytes) q T g ≡ share p q T g
  unfolding with_length frames begun widened wire_bits
  share_other q T g ne =
      ap (λ (n : ℕ). cond (crosses p g q) (frames p g T * bits_of n (extra_of p q)) 0) (get_or-set_other p.lengths f g bytes 0 ne)

  -- what this one brings to a port that it crosses
  share_here
      : (q T : ℕ)
      → f < length p.lengths
      → crosses p f q ≡ true
      → share (with_length p f bytes) q T f ≡ frames p f T * bits_of bytes (extra_of p q)
  unfolding with_length frames begun widened wire_bits
  share_here q T l e =
      ap (λ (n : ℕ). cond (crosses p f q) (frames p f T * bits_of n (extra_of p q)) 0) (get_or-set_same p.lengths f bytes 0 l) ∙ rw e

  -- and to one that it does not cross
  share-apart : (q T : ℕ) → crosses p f q ≡ false → share (with_length p f bytes) q T f ≡ 0
  unfolding with_length
  share-apart q T e = rw e

-- the plan's own length changes nothing
pub same_length : (p : Plan) (f : ℕ) → with_length p f (length_of p f) ≡ p
unfolding with_length
same_length p f =
    ap
    (λ (l : List ℕ).
    record {
      guard = p.guard;
      top = p.top;
      clock = p.clock;
      rates = p.rates;
      blockings = p.blockings;
      extras = p.extras;
      periods = p.periods;
      counts = p.counts;
      lengths = l;
      jitters = p.jitters;
      hops = p.hops;
      routes = p.routes;
    })
    (set-get_or p.lengths f 0)

module _ (p : Plan) (f : ℕ) (slot : f < flow_slots) (q T : ℕ) where
  -- a port's demand with one length and with another
  demand_but
      : (a b : ℕ)
      → demand (with_length p f a) q T + share (with_length p f b) q T f
      ≡ demand (with_length p f b) q T + share (with_length p f a) q T f
  demand_but a b =
      rw (demand_sum (with_length p f a) q T, demand_sum (with_length p f b) q T)
      (sum_to_but flow_slots (share (with_length p f a) q T) (share (with_length p f b) q T) f slot
      (λ g ne. share_other p f a q T g ne ∙ sym (share_other p f b q T g ne)))

  -- a port that the flow crosses has its frames with the one length in place of those with the other
  pub demand-with
      : (bytes : ℕ)
      → f < length p.lengths
      → crosses p f q ≡ true
      → demand (with_length p f bytes) q T + frames p f T * bits_of (length_of p f) (extra_of p q)
      ≡ demand p q T + frames p f T * bits_of bytes (extra_of p q)
  demand-with bytes l e =
      let own = rw (same_length p f) at (demand_but bytes (length_of p f)) in
      let old = rw (same_length p f) at (share_here p f (length_of p f) q T l e) in
      omega (arith, own, old, share_here p f bytes q T l e)

  -- so many bytes more are eight times as many bits in each frame
  pub demand_longer
      : (bytes more : ℕ)
      → f < length p.lengths
      → crosses p f q ≡ true
      → demand (with_length p f (bytes + more)) q T ≡ demand (with_length p f bytes) q T + 8 * (more * frames p f T)
  demand_longer bytes more l e =
      let n = frames p f T in
      let x = extra_of p q in
      let wide : n * bits_of (bytes + more) x ≡ n * bits_of bytes x + 8 * (more * n) = longer n x in
      omega (arith, demand_but (bytes + more) bytes, share_here p f (bytes + more) q T l e, share_here p f bytes q T l e)
    where
      longer : (n x : ℕ) → n * bits_of (bytes + more) x ≡ n * bits_of bytes x + 8 * (more * n)
      longer n x =
          let apart : bits_of (bytes + more) x ≡ bits_of bytes x + 8 * more = omega arith in
          let turned : n * (8 * more) ≡ 8 * (more * n) = mul_comm n (8 * more) ∙ mul_assoc 8 more n in
          ap (λ (k : ℕ). n * k) apart ∙ mul-add n (bits_of bytes x) (8 * more) ∙ ap (λ (k : ℕ). n * bits_of bytes x + k) turned

  -- a port that the flow does not cross has the plan's demand
  pub demand-apart : (bytes : ℕ) → crosses p f q ≡ false → demand (with_length p f bytes) q T ≡ demand p q T
  demand-apart bytes e =
      let own = rw (same_length p f) at (demand_but bytes (length_of p f)) in
      let none = rw (same_length p f) at (share-apart p f (length_of p f) q T e) in
      omega (arith, own, none, share-apart p f bytes q T e)
