-- The emission of one flow that brings count frames in each of n periods from an instant on: the nominal instants of the first count
-- frames lie the whole jitter before it, and those of count more after each period. A frame is released at the start where its
-- nominal instant lies before that, and else at its nominal instant.
use Rattle.std.specs.Prelude.{◌≡◌, refl, List, [], ◌∷◌, map, ℕ, zero, suc, ◌+◌, ◌-◌, ◌*◌, ◌/◌, ◌≤◌, ◌<◌, length, get_or, eqb}
use Rattle.std.proofs.Common.{sym, ap, ◌∙◌, mul_comm, suc-mul, mul-le-mul_right, div-mul-le_self, le-div_iff_mul-le, div-lt_iff_lt-mul, not-suc-le-zero, add-one, arith, ext_get_or, eq-eqb}
use Rattle.std.proofs.Math.Nat.{add-div_right}
use Rattle.std.proofs.lemmas.List.{length-map}
use Rattle.std.proofs.Math.Arith.{digits_div}
use Rattle.cqf.specs.Bounded.{count_to, tabulate}
use Rattle.cqf.specs.Emission.{Released}
use Rattle.cqf.proofs.laws.Bounded.{count_to_all}
use Rattle.cqf.proofs.laws.Tabulate.{tabulate_length, tabulate-at}
use Rattle.cqf.proofs.laws.Partition.{cycle_of}

-- each of a list's frames in cycle c
pub all_in : (c : ℕ) (l : List ℕ) (k : ℕ) → k < length (map (λ (t : ℕ). c) l) → get_or (map (λ (t : ℕ). c) l) k 0 ≡ c
all_in c [] k l = absurd (not-suc-le-zero l)
all_in c (x ∷ xs) zero l = refl
all_in c (x ∷ xs) (suc k) l = all_in c xs k (omega arith)

-- the nominal instant of frame k, with the jitter added
abbrev pub nominally : (start count period k : ℕ) → ℕ
nominally start count period k = start + k / count * period

-- the instants of the burst
unfoldable pub burst : (start n count period jitter : ℕ) → List ℕ
unfolding tabulate
burst start n count period jitter = tabulate (count * n) (λ k. start + (k / count * period - jitter))

-- count frames in each period
pub burst_length : (start n count period jitter : ℕ) → length (burst start n count period jitter) ≡ count * n
unfolding burst
burst_length start n count period jitter = tabulate_length _ _

-- a later frame is not nominally earlier
later : (count period k : ℕ) → 0 < count → k / count * period ≤ suc k / count * period
later count period k some =
    let up : k / count ≤ suc k / count = (le-div_iff_mul-le some).1 (omega (arith, div-mul-le_self k count)) in
    mul-le-mul_right period up

module _ (start n count period jitter : ℕ) where
  -- its instants
  abbrev instants : List ℕ
  instants = burst start n count period jitter

  -- the instant of frame k
  pub burst-at : (k : ℕ) → k < length instants → get_or instants k 0 ≡ start + (k / count * period - jitter)
  unfolding burst
  burst-at k l = tabulate-at _ _ k (rw tabulate_length at l)

  -- each frame is released within its jitter
  pub burst_released : (k : ℕ) → k < length instants → Released jitter (nominally start count period k) (get_or instants k 0)
  burst_released k l = (omega (arith, burst-at k l), omega (arith, burst-at k l))

  -- none before the start
  pub burst_from : (k : ℕ) → k < length instants → start ≤ get_or instants k 0
  burst_from k l = omega (arith, burst-at k l)

  module _ (some : 0 < count) where
    -- instants never fall, and neither do the nominal ones
    pub burst-rising : (k : ℕ) → suc k < length instants → get_or instants k 0 ≤ get_or instants (suc k) 0
    burst-rising k l = omega (arith, burst-at k (omega arith), burst-at (suc k) l, later count period k some)

    pub burst_ordered : (k : ℕ) → nominally start count period k ≤ nominally start count period (suc k)
    burst_ordered k = omega (arith, later count period k some)

    -- frame k + count nominally comes one period after frame k
    pub burst-spaced : (k : ℕ) → nominally start count period k + period ≤ nominally start count period (k + count)
    burst-spaced k =
        let up : (k + count) / count ≡ suc (k / count) = add-div_right k some ∙ add-one _ in
        omega (arith, ap (λ (x : ℕ). x * period) up, suc-mul (k / count) period)

    -- where each period begins less than a length and the jitter after the first, every frame is emitted in that length
    pub burst-early
        : (T : ℕ)
        → 0 < T
        → ((m : ℕ) → m < n → m * period < T + jitter)
        → (k : ℕ)
        → k < length instants
        → get_or instants k 0 < start + T
    burst-early T long within k l =
        let l' : k < n * count = omega (arith, burst_length start n count period jitter, mul_comm count n) in
        omega (arith, burst-at k l, within (k / count) ((div-lt_iff_lt-mul some).1 l'))

-- where all its frames are emitted in cycle c, that cycle receives them all
pub burst_count
    : (start n count period jitter c : ℕ)
    → count_to (length (map (λ (t : ℕ). c) (burst start n count period jitter)))
    (λ k. eqb (get_or (map (λ (t : ℕ). c) (burst start n count period jitter)) k 0) c)
    ≡ count * n
burst_count start n count period jitter c =
    count_to_all _ _ (λ k l. eq-eqb _ _ (all_in c instants' k l))
    ∙ length-map instants' (λ (t : ℕ). c)
    ∙ burst_length start n count period jitter
  where
    instants' : List ℕ
    instants' = burst start n count period jitter

-- where they lie within cycle c of duration T, that is the aligned cycle of each
pub burst-aligned
    : (T c n count period jitter : ℕ)
    → 0 < count
    → 0 < T
    → ((m : ℕ) → m < n → m * period < T + jitter)
    → map (λ (t : ℕ). c) (burst (c * T) n count period jitter) ≡ map (λ (t : ℕ). t / T) (burst (c * T) n count period jitter)
burst-aligned T c n count period jitter some long within =
    ext_get_or 0 _ _ (length-map in_cycle (λ (t : ℕ). c) ∙ sym (length-map in_cycle (λ (t : ℕ). t / T))) each
  where
    in_cycle : List ℕ
    in_cycle = burst (c * T) n count period jitter

    each
        : (k : ℕ)
        → k < length (map (λ (t : ℕ). c) (burst (c * T) n count period jitter))
        → get_or (map (λ (t : ℕ). c) (burst (c * T) n count period jitter)) k 0
        ≡ get_or (map (λ (t : ℕ). t / T) (burst (c * T) n count period jitter)) k 0
    each k l =
        let l' : k < length (burst (c * T) n count period jitter) = rw length-map at l in
        let early = burst-early (c * T) n count period jitter some T long within k l' in
        let at = burst-at (c * T) n count period jitter k l' in
        let less : k / count * period - jitter < T = omega arith in
        all_in c (burst (c * T) n count period jitter) k l
        ∙ sym (cycle_of T (burst (c * T) n count period jitter) k ∙ rw at (digits_div c less))
