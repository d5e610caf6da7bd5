-- Laws of the condition: demand, workload, and the ports that fail.
use Rattle.std.specs.Prelude.{◌≡◌, Bool, true, cond, ◌&&◌, ℕ, ◌*◌, ◌≤◌, ◌<◌, eqb, ltb}
use Rattle.std.proofs.Math.Path.{refl}
use Rattle.std.proofs.Math.Bool.{false, and-eq-true_iff}
use Rattle.std.proofs.lemmas.Bool.{false≢true, eqb-false}
use Rattle.std.proofs.Common.{zero-le, mul-pos, le_trans, arith, eqb-true, ne_eqb, ltb-true, ltb-false, lt-ltb, le-ltb}
use Rattle.cqf.specs.Bounded.{count_to}
use Rattle.cqf.specs.Limits.{port_slots, flow_slots}
use Rattle.cqf.specs.Plan.{Plan, crosses, valid_plan}
use Rattle.cqf.specs.Port.{bits_of, blocking_bits_of, workload_of, wire_bits, capacity, workload}
use Rattle.cqf.specs.Condition.{frames, demand, crossed, fails, failing, admissible}
use Rattle.cqf.specs.Run.{overrun_at}
use Rattle.cqf.proofs.laws.Bounded.{cond_some, count_to_zero, count_to_pos, sum_to_term, sum_to_pos, any_to_true, any_to_some}
use Rattle.cqf.proofs.laws.Valid.{Held, held_period, crosses_held}
use Rattle.cqf.proofs.laws.Begun.{begun_positive}

-- a number that is not 0 is above it
above_zero : (n : ℕ) → eqb n 0 ≡ false → 0 < n
above_zero n h = let e : ¬ (n ≡ 0) = eqb-false n 0 h in omega arith

-- more bits are more work
pub workload_mono : (p : Plan) (q : ℕ) {a b : ℕ} → a ≤ b → workload p q a ≤ workload p q b
unfolding workload
workload_mono p q l = omega arith

-- a blocking frame that is no longer has no more bits, and with no more of its own a port has no more work
blocking_easier : {a b x y : ℕ} → a ≤ b → x ≤ y → blocking_bits_of a x ≤ blocking_bits_of b y
blocking_easier {a} {b} {x} {y} l m = go (eqb a 0) refl
  where
    go : (z : Bool) → eqb a 0 ≡ z → cond z 0 (bits_of a x) ≤ blocking_bits_of b y
    go true e = zero-le
    go false e = let some = above_zero a e in rw (ne_eqb b 0 (λ z. omega arith)) (omega arith)

pub workload_easier : {a b x y m n : ℕ} → a ≤ b → x ≤ y → m ≤ n → workload_of a x m ≤ workload_of b y n
workload_easier l h k = omega (arith, k, blocking_easier l h)

-- a frame has bits on the wire, a flow has frames, and so a crossed port has a demand
pub wire_bits_pos : (p : Plan) (f q : ℕ) → 0 < wire_bits p f q
unfolding wire_bits
wire_bits_pos p f q = omega arith

pub frames_pos : (p : Plan) (f : ℕ) {T : ℕ} → Held p f → 0 < T → 0 < frames p f T
unfolding frames
frames_pos p f flow long =
    mul-pos flow.count_least (begun_positive p f long (held_period p f flow))

pub demand_pos : (p : Plan) (q T : ℕ) → valid_plan p ≡ true → 0 < T → crossed p q ≡ true → 0 < demand p q T
unfolding demand crossed
demand_pos p q T valid long h =
    let s = any_to_true flow_slots (λ f. crosses p f q) h in
    let term = sum_to_term flow_slots (λ f. cond (crosses p f q) (frames p f T * wire_bits p f q) 0) s.0 s.1 in
    le_trans
    (mul-pos (frames_pos p s.0 (crosses_held p valid s.0 q s.1 s.2) long) (wire_bits_pos p s.0 q))
    (rw s.2 at term)

-- a port with a demand is crossed
pub demand-crossed : (p : Plan) (q T : ℕ) → 0 < demand p q T → crossed p q ≡ true
unfolding demand crossed
demand-crossed p q T l =
    let s = sum_to_pos flow_slots (λ f. cond (crosses p f q) (frames p f T * wire_bits p f q) 0) l in
    any_to_some flow_slots (λ f. crosses p f q) s.0 s.1 (cond_some (crosses p s.0 q) _ s.2)

-- no port fails at an admissible duration
pub none-fails : (p : Plan) (T : ℕ) → admissible p T ≡ true → (q : ℕ) → q < port_slots → fails p T q ≡ false
unfolding admissible failing
none-fails p T good = count_to_zero port_slots (fails p T) (eqb-true _ _ good)

-- some port fails at a duration that is not admissible
pub some_fails : (p : Plan) (T : ℕ) → admissible p T ≡ false → (q : ℕ) × (q < port_slots) × (fails p T q ≡ true)
unfolding admissible failing
some_fails p T bad = count_to_pos port_slots (fails p T) (above_zero (count_to port_slots (fails p T)) bad)

-- a port that does not fail leaves nothing unsent of bits up to its demand
pub no_overrun : (p : Plan) (T q bits : ℕ) → fails p T q ≡ false → bits ≤ demand p q T → overrun_at p T bits q ≡ false
unfolding overrun_at capacity workload
no_overrun p T q bits valid l = go (ltb 0 bits) refl
  where
    fits
        : (x : Bool)
        → x ≡ true
        → x && ltb (capacity p q T) (workload p q (demand p q T)) ≡ false
        → ltb (capacity p q T) (workload p q bits) ≡ false
    fits true h e = le-ltb _ _ (le_trans (workload_mono p q l) (ltb-false _ _ e))
    fits false h e = absurd (false≢true h)

    go : (x : Bool) → ltb 0 bits ≡ x → x && ltb (capacity p q T) (workload p q bits) ≡ false
    go true h = let some = ltb-true 0 bits h in fits (crossed p q) (demand-crossed p q T (omega arith)) (unfold fails capacity workload in valid)
    go false h = refl

-- a port that fails leaves a frame unsent of bits from its demand up
pub overrun-at
    : (p : Plan) (q T : ℕ)
    → valid_plan p ≡ true
    → 0 < T
    → (bits : ℕ)
    → fails p T q ≡ true
    → demand p q T ≤ bits
    → overrun_at p T bits q ≡ true
unfolding overrun_at fails capacity workload
overrun-at p q T valid long bits failed l =
    let h = (and-eq-true_iff (crossed p q) (ltb (capacity p q T) (workload p q (demand p q T)))).0 failed in
    (and-eq-true_iff (ltb 0 bits) (ltb (capacity p q T) (workload p q bits))).1
    (lt-ltb _ _ (le_trans (demand_pos p q T valid long h.0) l), lt-ltb _ _ (le_trans (ltb-true _ _ h.1) (workload_mono p q l)))
