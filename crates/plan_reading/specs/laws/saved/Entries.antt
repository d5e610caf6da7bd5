-- What a plan says: parts that stand in its tables and say more than their absence.
use Rattle.std.specs.Prelude.{ℕ, zero, suc, ◌-◌, ◌<◌, ◌≡◌, refl, ◌⊎◌, Bool, true, false, not}
use Rattle.std.proofs.Common.{sym, ◌∙◌, subst, inl, inr, true≢false, not-suc-le-zero, arith, eqb-true}
use mathlib.Core.List.Memᴰ
use mathlib.Core.List.{List, ◌++◌, Memᴰ}
use Rattle.std.proofs.Math.Bool.{and-eq-true_iff}
use Rattle.std.proofs.Math.Decide.{ℕ_discrete}
use Rattle.std.proofs.lemmas.Bool.{not-true}
use Rattle.cqf.specs.Limits.{port_ok, flow_ok}
use Rattle.cqf.specs.Plan.{Plan, equal_clocks, clocks_equal, rate_of, blocking_of, extra_of, period_of, count_of, length_of, jitter_of, route_of}
use Rattle.plan_reading.specs.Part.{Part, header, port, flow, extra, jitter, clock}
use Rattle.plan_reading.specs.Saved.{when, collect}

-- the part's numbers stand in the plan's tables
abbrev pub Stands : Plan → Part → Type 0
Stands p (header g t) = (p.guard ≡ g) × (p.top ≡ t)
Stands p (port n v b) = (port_ok n ≡ true) × (rate_of p (n - 1) ≡ v) × (blocking_of p (n - 1) ≡ b)
Stands p (flow n t c l r) =
    (flow_ok n ≡ true)
    × (period_of p (n - 1) ≡ t)
    × (count_of p (n - 1) ≡ c)
    × (length_of p (n - 1) ≡ l)
    × (route_of p (n - 1) ≡ r)
Stands p (extra n b) = (port_ok n ≡ true) × (extra_of p (n - 1) ≡ b)
Stands p (jitter n j) = (flow_ok n ≡ true) × (jitter_of p (n - 1) ≡ j)
Stands p (clock k) = p.clock ≡ k

-- it says more than its absence
abbrev pub Tells : Part → Type 0
Tells (header g t) = Unit {0}
Tells (port n v b) = 0 < v
Tells (flow n t c l r) = 0 < t
Tells (extra n b) = 0 < b
Tells (jitter n j) = 0 < j
Tells (clock k) = k ≡ equal_clocks → ⊥

pub record Says (p : Plan) (x : Part) : Type 0 where
  pub stands : Stands p x
  pub tells : Tells x

-- a part of a collection is one of a slot
pub collect_slot : {e : Part} (n : ℕ) (at : ℕ → List Part) → Memᴰ e (collect n at) → (i : ℕ) × (i < n) × Memᴰ e (at i)
unfolding collect
collect_slot zero at m = absurd (Memᴰ.not-nil m)
collect_slot {e} (suc n) at m = go (collect_slot n at) (Memᴰ.append_cases (collect n at) m)
  where
    go
        : (Memᴰ e (collect n at) → (i : ℕ) × (i < n) × Memᴰ e (at i))
        → Memᴰ e (collect n at) ⊎ Memᴰ e (at n)
        → (i : ℕ) × (i < suc n) × Memᴰ e (at i)
    go rest (inl k) = let t = rest k in (t.0, omega (arith, t.1), t.2)
    go rest (inr k) = (n, omega arith, k)

pub slot_collect : {e : Part} (n : ℕ) (at : ℕ → List Part) (i : ℕ) → i < n → Memᴰ e (at i) → Memᴰ e (collect n at)
unfolding collect
slot_collect zero at i l m = absurd (not-suc-le-zero l)
slot_collect {e} (suc n) at i l m = go (slot_collect n at i) (ℕ_discrete i n)
  where
    go : (i < n → Memᴰ e (at i) → Memᴰ e (collect n at)) → Dec (i ≡ n) → Memᴰ e (collect n at ++ at n)
    go rest (yes same) = Memᴰ.append_right (collect n at) (subst (λ (j : ℕ). Memᴰ e (at j)) same m)
    go rest (no apart) = Memᴰ.append_left (at n) (rest (omega arith) m)

-- a part that stands where a test holds
pub when_only : {e f : Part} (test : Bool) → Memᴰ e (when test f) → (test ≡ true) × (e ≡ f)
when_only true m = (refl, Memᴰ.eq_of_singleton m)
when_only false m = absurd (Memᴰ.not-nil m)

pub when_there : {e f : Part} (test : Bool) → test ≡ true → e ≡ f → Memᴰ e (when test f)
when_there true h same = Memᴰ.head same
when_there false h same = absurd (true≢false (sym h))

-- clocks of which not all numbers are 0
pub clocks_equal_lem : (p : Plan) → clocks_equal p ≡ true → p.clock ≡ equal_clocks
clocks_equal_lem p h =
    let t = simp and-eq-true_iff at h in
    let a = eqb-true p.clock.drift 0 t.0.0 in
    let b = eqb-true p.clock.timing_jitter_of 0 t.0.1 in
    let c = eqb-true p.clock.sync_error_of 0 t.1 in
    λ i. record { drift = a i; timing_jitter_of = b i; sync_error_of = c i }

pub clocks_differ : (p : Plan) → not (clocks_equal p) ≡ true → p.clock ≡ equal_clocks → ⊥
clocks_differ p h same =
    let e : clocks_equal p ≡ true = rw same in
    true≢false (sym e ∙ not-true (clocks_equal p) h)

pub differ_clocks : (p : Plan) → (p.clock ≡ equal_clocks → ⊥) → not (clocks_equal p) ≡ true
differ_clocks p apart = go (clocks_equal p) refl
  where
    go : (b : Bool) → clocks_equal p ≡ b → not b ≡ true
    go true e = absurd (apart (clocks_equal_lem p e))
    go false e = refl
