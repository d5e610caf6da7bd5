-- The run of the bad emission: which bits each port must send in each cycle, and the first cycle in which a frame is left unsent.
use Rattle.std.specs.Prelude.{◌≡◌, refl, Bool, List}
use Rattle.std.proofs.Common.{sym, ◌∙◌, le_refl, arith}
use Rattle.std.proofs.Math.Path.{ap, subst}
use Rattle.std.proofs.Math.Bool.{true, false, cond, false≢true, and-eq-true_iff}
use mathlib.Mathlib.Data.Bool.Basic.{eq-false_of_not-eq-true}
use Prim.Native.Nat.{ℕ, zero, suc, ◌*◌, ◌≤◌, ◌<◌, zero-le}
use Rattle.std.proofs.Math.Decide.{dec_lt}
use Rattle.std.proofs.Math.ListN.{length, get_or}
use borrow.Author.Tests.{eq-eqb, lt-ltb}
use Rattle.cqf.specs.Bounded.{any_to}
use Rattle.cqf.specs.Limits.{port_slots, flow_slots}
use Rattle.cqf.specs.Plan.{Plan, route_of, crosses, valid_plan}
use Rattle.cqf.specs.Port.{wire_bits}
use Rattle.cqf.specs.Condition.{frames, demand, crossed, fails}
use Rattle.cqf.specs.Run.{Places, source, running, run, is_queued_at, queued_bits, overrun_at, overrun}
use Rattle.cqf.proofs.laws.Bounded.{sum_to_le, any_to_true, any_to_some, cond_some, lowest-passes, lowest_below}
use Rattle.cqf.proofs.laws.Bounds.{max_to-at}
use Rattle.cqf.proofs.laws.Valid.{crosses_held, held_present}
use Rattle.cqf.proofs.laws.Condition.{frames_pos, overrun-at}
use Rattle.cqf.proofs.laws.Need.{fails-crossed}
use Rattle.cqf.proofs.laws.Places.{track, moved, run_goes, run-stops, run-track}
use Rattle.cqf.proofs.laws.Sending.{queued_of}
use Rattle.emissions.specs.BadEmission.{hop, latest_hop, burst_cycle, burst_frames, bad_cycles, burst_at, burst_bits, unsent_at, first_unsent, unsent_slot}
use Rattle.emissions.specs.Unsent.{sendable}
use Rattle.emissions.specs.Meaning.{LeftUnsent}
use Rattle.emissions.specs.laws.Kept.{hop-at, hop_most, cycle_of_burst, cycle_frames, cycle_at, bad_keeps, bad_permitted}
use Rattle.emissions.specs.laws.Sendable.{overrun_more}
use Rattle.emissions.specs.laws.Track.{count_same, sum_same, lowest-within, lowest_last, in_time, track-at}

module _ (p : Plan) (valid : valid_plan p ≡ true) (T : ℕ) (long : 0 < T) (q : ℕ) where
  abbrev cycles : ℕ → List ℕ
  cycles = bad_cycles p T q

  -- where the port is crossed, the earliest burst is in cycle 0
  flow_bursts : (f : ℕ) → f < flow_slots → crosses p f q ≡ true → 0 < burst_frames p T q f
  unfolding burst_frames
  flow_bursts f l h =
      let flow = crosses_held p valid f q l h in
      rw (held_present p f l flow, h) (frames_pos p f flow long)

  late_flow : 0 < latest_hop p q → (f : ℕ) × (f < flow_slots) × (crosses p f q ≡ true) × (hop p q f ≡ latest_hop p q)
  unfolding latest_hop
  late_flow l =
      let m = max_to-at flow_slots (λ f. cond (crosses p f q) (hop p q f) 0) l in
      let h = cond_some (crosses p m.0 q) (hop p q m.0) (subst (λ (n : ℕ). 0 < n) (sym m.2) l) in
      (m.0, m.1, h, rw h at m.2)

  some_flow : crossed p q ≡ true → (f : ℕ) × (f < flow_slots) × (crosses p f q ≡ true)
  unfolding crossed
  some_flow c = any_to_true flow_slots (λ f. crosses p f q) c

  earliest : crossed p q ≡ true → (f : ℕ) × (0 < burst_frames p T q f) × (burst_cycle p q f ≡ 0)
  earliest c = go (dec_lt 0 (latest_hop p q))
    where
      go : Dec (0 < latest_hop p q) → (f : ℕ) × (0 < burst_frames p T q f) × (burst_cycle p q f ≡ 0)
      go (yes l) =
          let m = late_flow l in
          (m.0, flow_bursts m.0 m.1 m.2, omega (arith, cycle_of_burst p q m.0, m.3))
      go (no none) =
          let s = some_flow c in
          (s.0, flow_bursts s.0 s.1 s.2, omega (arith, cycle_of_burst p q s.0))

  -- one cycle after the latest burst has come to the port, all are queued there
  met : (f : ℕ) → f < flow_slots → crosses p f q ≡ true → burst_at p q f (suc (latest_hop p q)) q ≡ true
  unfolding burst_at
  met f l h =
      let at = hop-at p q f h in
      let m = in_time (latest_hop p q) (hop p q f) (burst_cycle p q f) (cycle_of_burst p q f) (hop_most p q f l h) in
      (and-eq-true_iff _ _).1 (lt-ltb _ _ m.0, eq-eqb _ _ (ap (λ (j : ℕ). get_or (route_of p f) j 0) m.1 ∙ at.1))

  all_there : demand p q T ≤ burst_bits p T q (suc (latest_hop p q)) q
  unfolding demand burst_bits burst_frames
  all_there = sum_to_le flow_slots _ _ (λ f l. flow f l (crosses p f q) refl)
    where
      flow
          : (f : ℕ)
          → f < flow_slots
          → (x : Bool)
          → crosses p f q ≡ x
          → cond x (frames p f T * wire_bits p f q) 0 ≤ cond (burst_at p q f (suc (latest_hop p q)) q) (burst_frames p T q f) 0 * wire_bits p f q
      flow f l true h = rw (met f l h, held_present p f l (crosses_held p valid f q l h), h) (le_refl _)
      flow f l false h = zero-le

  module _ (c : ℕ) (places : Places) (goes : run p T cycles c ≡ running places) where
    -- all frames of a burst are queued at a port, or none
    queued_burst : (f r : ℕ) → queued_of cycles places f r ≡ cond (burst_at p q f c r) (burst_frames p T q f) 0
    unfolding burst_at
    queued_burst f r =
        count_same (length (cycles f)) (λ k. is_queued_at (suc r) (places f k)) (burst_at p q f c r) each
        ∙ ap (λ (n : ℕ). cond (burst_at p q f c r) n 0) (cycle_frames p T q f)
      where
        each : (k : ℕ) → k < length (bad_cycles p T q f) → is_queued_at (suc r) (places f k) ≡ burst_at p q f c r
        each k l =
            let own = cycle_at p T q f k (omega (arith, cycle_frames p T q f)) in
            ap (is_queued_at (suc r)) (run-track p T (bad_cycles p T q) c places goes f k)
            ∙ ap (λ (o : ℕ). is_queued_at (suc r) (track o (route_of p f) c)) own
            ∙ track-at (burst_cycle p q f) (route_of p f) c r

    pub bits_are : (r : ℕ) → queued_bits p cycles places r ≡ burst_bits p T q c r
    unfolding queued_bits burst_bits
    bits_are r = sum_same flow_slots _ _ (λ f. ap (λ (n : ℕ). n * wire_bits p f r) (queued_burst f r))

    unsent_is : (r : ℕ) → overrun_at p T (queued_bits p cycles places r) r ≡ unsent_at p T q c r
    unfolding unsent_at
    unsent_is r = ap (λ (n : ℕ). overrun_at p T n r) (bits_are r)

    overrun_any : any_to port_slots (unsent_at p T q c) ≡ true → overrun p T cycles places ≡ true
    unfolding overrun
    overrun_any h =
        let s = any_to_true port_slots (unsent_at p T q c) h in
        any_to_some port_slots (λ r. overrun_at p T (queued_bits p (bad_cycles p T q) places r) r) s.0 s.1 (unsent_is s.0 ∙ s.2)

    any_overrun : overrun p T cycles places ≡ true → any_to port_slots (unsent_at p T q c) ≡ true
    unfolding overrun
    any_overrun h =
        let s = any_to_true port_slots (λ r. overrun_at p T (queued_bits p (bad_cycles p T q) places r) r) h in
        any_to_some port_slots (unsent_at p T q c) s.0 s.1 (sym (unsent_is s.0) ∙ s.2)

  -- in no cycle before the first is a frame left unsent
  none_before : (c : ℕ) → c < first_unsent p T q → any_to port_slots (unsent_at p T q c) ≡ false
  unfolding first_unsent
  none_before c l = lowest_below (suc (latest_hop p q)) (λ c. any_to port_slots (unsent_at p T q c)) c l

  -- so the run goes on to it
  run_to : (c : ℕ) → c ≤ first_unsent p T q → (places : Places) × (run p T cycles c ≡ running places)
  unfolding run
  run_to zero l = (λ f k. source, refl)
  run_to (suc c) l =
      let before = run_to c (omega arith) in
      let none : overrun p T cycles before.0 ≡ false =
      eq-false_of_not-eq-true (λ o. false≢true (sym (none_before c l) ∙ any_overrun c before.0 before.1 o)) in
      (moved p T cycles c before.0, run_goes p T cycles c before.0 before.1 none)

  module _ (slot : q < port_slots) (failed : fails p T q ≡ true) where
    abbrev first : ℕ
    first = first_unsent p T q

    -- in the cycle in which all bursts are queued at the port it leaves a frame unsent
    last_unsent : unsent_at p T q (suc (latest_hop p q)) q ≡ true
    unfolding unsent_at
    last_unsent = overrun-at p q T valid long _ failed all_there

    -- and in the first one some port does
    first_overrun : (places : Places) → run p T cycles first ≡ running places → overrun p T cycles places ≡ true
    unfolding first_unsent
    first_overrun places goes = go (dec_lt (first_unsent p T q) (suc (latest_hop p q)))
      where
        go : Dec (first_unsent p T q < suc (latest_hop p q)) → overrun p T (bad_cycles p T q) places ≡ true
        go (yes l) =
            overrun_any (first_unsent p T q) places goes
            (lowest-passes (suc (latest_hop p q)) (λ c. any_to port_slots (unsent_at p T q c)) l)
        go (no n) =
            let last : first_unsent p T q ≡ suc (latest_hop p q) =
            lowest_last (suc (latest_hop p q)) (λ c. any_to port_slots (unsent_at p T q c)) n in
            overrun_any (first_unsent p T q) places goes
            (any_to_some port_slots (unsent_at p T q (first_unsent p T q)) q slot (ap (λ (c : ℕ). unsent_at p T q c q) last ∙ last_unsent))

    pub left_unsent
        : LeftUnsent p T q (first_unsent p T q) (unsent_slot p T q) (burst_bits p T q (first_unsent p T q) (unsent_slot p T q)) (sendable p T (unsent_slot p T q))
    unfolding unsent_slot
    left_unsent =
        let end = run_to first (le_refl _) in
        let over = first_overrun end.0 end.1 in
        let s = any_to_true port_slots (unsent_at p T q first) (any_overrun first end.0 end.1 over) in
        let low = lowest-within port_slots (unsent_at p T q first) s.0 s.1 s.2 in
        let bits = bits_are first end.0 end.1 (unsent_slot p T q) in
        let told = unsent_is first end.0 end.1 (unsent_slot p T q) ∙ lowest-passes port_slots (unsent_at p T q first) low in
        let unsent = subst (λ (b : ℕ). overrun_at p T b (unsent_slot p T q) ≡ true) bits told in
        record {
          earliest = earliest (fails-crossed p T q failed);
          keeps = bad_keeps p valid T q long;
          permitted = bad_permitted p valid T q long;
          places = end.0;
          goes = end.1;
          stops = run-stops p T cycles first end.0 end.1 over;
          low = low;
          must = bits;
          more = overrun_more p T (unsent_slot p T q) _ unsent;
          unsent = unsent;
          lower = λ r l. unsent_is first end.0 end.1 r ∙ lowest_below port_slots (unsent_at p T q first) r l;
        }
