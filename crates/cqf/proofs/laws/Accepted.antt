-- At an admissible duration the run of an emission that keeps every contract never stops, and each frame is on time.
use Rattle.std.specs.Prelude.{◌≡◌, refl, true, false, List, length, get_or}
use Rattle.std.proofs.Common.{sym, ap, subst, ◌∙◌, true≢false, div-add-mod', mod-lt, add-mul, suc-mul, arith}
use Prim.Native.Nat.{ℕ, zero, suc, ◌+◌, ◌*◌, ◌/◌, ◌%◌, ◌≤◌, ◌<◌}
use Rattle.cqf.specs.Limits.{port_slots}
use Rattle.cqf.specs.Plan.{Plan, route_of, clocks_equal, valid_plan}
use Rattle.cqf.specs.Condition.{frames, admissible}
use Rattle.cqf.specs.Emission.{Emission, Keeps}
use Rattle.cqf.specs.Cycles.{Cycles, Permitted, aligned, parted}
use Rattle.cqf.specs.Run.{Places, source, is_gone, running, run, overrun, overrun_at, queued_bits, Leaves, MayEnd}
use Rattle.cqf.specs.LargeEnough.{OnTime}
use Rattle.cqf.proofs.laws.Bounded.{any_to-none}
use Rattle.cqf.proofs.laws.Valid.{held_period, present_held}
use Rattle.cqf.proofs.laws.Partition.{cycle_of, permitted_partition}
use Rattle.cqf.proofs.laws.Arrivals.{at_most}
use Rattle.cqf.proofs.laws.Places.{track, moved, run_goes, run-track, track_there, track_gone}
use Rattle.cqf.proofs.laws.Condition.{none-fails, no_overrun}
use Rattle.cqf.proofs.laws.Sending.{emitted_in, bits_most}

-- the delay of a frame that leaves h cycles after its own lies within one cycle of h cycles
delay_within
    : (p : Plan) (T : ℕ)
    → 0 < T
    → (t h end : ℕ)
    → MayEnd p T (t / T + h) end
    → (t + h * T ≤ end + T) × (end ≤ t + suc h * T)
delay_within p T long t h end sent =
    let from = sent.opened in
    let upto = sent.closed in
    let split = div-add-mod' t T in
    let less : t % T < T = mod-lt t long in
    let start = add-mul (t / T) h T in
    let stop = suc-mul (t / T + h) T in
    let more = suc-mul h T in
    (omega arith, omega arith)

module _ (p : Plan) (valid : valid_plan p ≡ true) (T : ℕ) (long : 0 < T) (good : admissible p T ≡ true) (e : Emission) (keeps : Keeps p e) (cycles : Cycles) (permitted : Permitted p T e cycles) where
  -- no flow emits more than its frames in a cycle
  few : (f own : ℕ) → emitted_in cycles f own ≤ frames p f T
  few f own =
      at_most p e keeps T cycles (permitted_partition p T long e keeps cycles permitted) f own
      (λ h. let flow = present_held p valid f h in (flow.count_least, held_period p f flow))

  -- no port leaves a frame unsent
  none-unsent : (c : ℕ) (places : Places) → run p T cycles c ≡ running places → overrun p T cycles places ≡ false
  unfolding overrun
  none-unsent c places goes =
      any_to-none
      port_slots
      (λ q. overrun_at p T (queued_bits p cycles places q) q)
      (λ q l. no_overrun p T q _ (none-fails p T good q l) (bits_most p T cycles c places goes valid few q))

  -- the run goes on
  pub goes_on : (c : ℕ) → (places : Places) × (run p T cycles c ≡ running places)
  unfolding run
  goes_on zero = (λ f k. source, refl)
  goes_on (suc c) =
      let b = goes_on c in
      (moved p T cycles c b.0, run_goes p T cycles c b.0 b.1 (none-unsent c b.0 b.1))

  module _ (f k : ℕ) where
    -- the cycle in which it is emitted
    abbrev own : ℕ
    own = get_or (cycles f) k 0

    -- where the frame is when cycle c starts
    place : (c : ℕ) (places : Places) → run p T cycles c ≡ running places → places f k ≡ track own (route_of p f) c
    place c places goes = run-track p T cycles c places goes f k

    -- the frame leaves its last port as many cycles after its own as its route has ports
    leaves : Leaves p T cycles f k (own + length (route_of p f))
    leaves =
        let c = own + length (route_of p f) in
        let b = goes_on c in
        let a = goes_on (suc c) in
        record {
          before = b.0;
          after = a.0;
          starts = b.1;
          ends = a.1;
          there = rw (place c b.0 b.1) (track_there own (route_of p f) c (omega arith));
          left = rw (place (suc c) a.0 a.1) (track_gone own (route_of p f) (suc c) (omega arith));
        }

    -- and in no other cycle
    once : (c : ℕ) → Leaves p T cycles f k c → c ≡ own + length (route_of p f)
    once c l = omega (arith, early, late)
      where
        early : ¬ (own + length (route_of p f) < c)
        early h = true≢false (sym (track_gone own (route_of p f) c h) ∙ ap is_gone (sym (place c l.before l.starts)) ∙ l.there)

        late : ¬ (c < own + length (route_of p f))
        late h =
            true≢false
            (sym l.left ∙ ap is_gone (place (suc c) l.after l.ends) ∙ track_there own (route_of p f) (suc c) h)

    -- where clocks are taken as equal its cycle is the aligned one
    own-aligned : clocks_equal p ≡ true → own ≡ get_or (e f) k 0 / T
    own-aligned same = go permitted
      where
        go : Permitted p T e cycles → own ≡ get_or (e f) k 0 / T
        go (aligned _ is) = ap (λ (l : List ℕ). get_or l k 0) (is f) ∙ cycle_of T (e f) k
        go (parted not _) = absurd (true≢false (sym same ∙ not))

    -- whichever cycle that is, and wherever in it its sending ends
    delay
        : clocks_equal p ≡ true
        → (c end : ℕ)
        → Leaves p T cycles f k c
        → MayEnd p T c end
        → (get_or (e f) k 0 + length (route_of p f) * T ≤ end + T) × (end ≤ get_or (e f) k 0 + suc (length (route_of p f)) * T)
    delay same c end l sent =
        let at : c ≡ get_or (e f) k 0 / T + length (route_of p f) = once c l ∙ ap (λ (n : ℕ). n + length (route_of p f)) (own-aligned same) in
        delay_within p T long (get_or (e f) k 0) (length (route_of p f)) end (subst (λ (n : ℕ). MayEnd p T n end) at sent)

    -- so every frame is on time
    pub on_time : OnTime p T cycles f k (get_or (e f) k 0) own (length (route_of p f))
    on_time = record { leaves = leaves; once = once; delay = delay }
