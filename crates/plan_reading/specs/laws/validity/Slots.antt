-- Laws of the validity of one slot, by the numbers that stand in it.
use Rattle.std.specs.Prelude.{◌≡◌, List, Bool, true, ◌&&◌, ◌||◌, ℕ, suc, ◌≤◌, eqb}
use Rattle.std.proofs.Common.{ap, arith, leb-true, ltb-true, eqb-true}
use Rattle.std.proofs.Math.Bool.{and-eq-true_iff, or-true}
use Rattle.cqf.specs.Bounded.{every, distinct}
use Rattle.cqf.specs.Limits.{max_hops, rate_ok, blocking_ok, extra_ok, length_ok, period_ok, count_ok, jitter_ok, hops_ok}
use Rattle.cqf.specs.Plan.{Plan, rate_of, blocking_of, extra_of, period_of, count_of, length_of, jitter_of, hops_of, route_of, port_in, valid_port, valid_flow}
use Rattle.cqf.proofs.laws.Bounded.{or_cases}
use Rattle.cqf.proofs.laws.Slot.{empty_at}
use Rattle.plan_reading.specs.Reading.{has_flow}
use Rattle.plan_reading.specs.laws.fields.Passes.{and_three}

-- whether slot q is empty, or holds a rate and a blocker in range; the extra bytes apart
unfoldable pub valid_rate : Plan → ℕ → Bool
valid_rate p q = (eqb (rate_of p q) 0 && eqb (blocking_of p q) 0) || (rate_ok (rate_of p q) && blocking_ok (blocking_of p q))

-- whether slot q has no extra bytes, or some in range and a port with these rates
unfoldable pub valid_extra : List ℕ → Plan → ℕ → Bool
valid_extra rates p q = eqb (extra_of p q) 0 || (extra_ok (extra_of p q) && port_in rates (suc q))

-- both make a valid port
pub port_whole : (p : Plan) (q : ℕ) → valid_rate p q ≡ true → valid_extra p.rates p q ≡ true → valid_port p q ≡ true
unfolding valid_rate valid_extra valid_port
port_whole p q link bytes = or_cases (eqb (rate_of p q) 0 && eqb (blocking_of p q) 0) _ link empty held
  where
    empty : (eqb (rate_of p q) 0 && eqb (blocking_of p q) 0) ≡ true → valid_port p q ≡ true
    empty h = or_cases (eqb (extra_of p q) 0) _ bytes (λ z. rw (h, z)) λ z.
        let t = simp and-eq-true_iff at z in
        let none = eqb-true (rate_of p q) 0 ((and-eq-true_iff (eqb (rate_of p q) 0) _).0 h).0 in
        absurd (omega (arith, ltb-true 0 (rate_of p q) t.1.1))

    held : (rate_ok (rate_of p q) && blocking_ok (blocking_of p q)) ≡ true → valid_port p q ≡ true
    held h =
        let e : extra_ok (extra_of p q) ≡ true =
        or_cases (eqb (extra_of p q) 0) _ bytes (λ z. ap extra_ok (eqb-true (extra_of p q) 0 z)) (λ z. ((and-eq-true_iff (extra_ok (extra_of p q)) _).0 z).0) in
        rw (h, e) (or-true (eqb (rate_of p q) 0 && eqb (blocking_of p q) 0 && eqb (extra_of p q) 0))

-- slot f is empty, the jitter apart
abbrev empty_in : Plan → ℕ → Bool
empty_in p f = eqb (period_of p f) 0 && eqb (count_of p f) 0 && eqb (length_of p f) 0 && eqb (hops_of p f) 0

-- it holds a flow in range over distinct ports with these rates, the jitter apart
abbrev held_in : List ℕ → Plan → ℕ → Bool
held_in rates p f =
    period_ok (period_of p f)
    && count_ok (count_of p f)
    && length_ok (length_of p f)
    && hops_ok (hops_of p f)
    && every (port_in rates) (route_of p f)
    && distinct (route_of p f)

unfoldable pub valid_in : List ℕ → Plan → ℕ → Bool
valid_in rates p f = empty_in p f || held_in rates p f

-- whether slot f has no jitter, or one in range and a flow with these periods
unfoldable pub valid_jitter : List ℕ → Plan → ℕ → Bool
valid_jitter periods p f = eqb (jitter_of p f) 0 || (jitter_ok (jitter_of p f) && has_flow periods (suc f))

-- both make a valid flow
pub flow_whole
    : (p : Plan) (f : ℕ)
    → valid_in p.rates p f ≡ true
    → valid_jitter p.periods p f ≡ true
    → valid_flow p f ≡ true
unfolding valid_in valid_jitter valid_flow
flow_whole p f numbers late = or_cases (empty_in p f) (held_in p.rates p f) numbers empty held
  where
    empty : empty_in p f ≡ true → valid_flow p f ≡ true
    empty h =
        let t = simp and-eq-true_iff at h in
        or_cases (eqb (jitter_of p f) 0) _ late (λ z. rw (t.0.0.0, t.0.0.1, t.0.1, z, t.1)) λ z.
        let u = simp and-eq-true_iff at z in
        let none = eqb-true (period_of p f) 0 t.0.0.0 in
        absurd (omega (arith, ltb-true 0 (period_of p f) u.1.1))

    held : held_in p.rates p f ≡ true → valid_flow p f ≡ true
    held h =
        let j : jitter_ok (jitter_of p f) ≡ true =
        or_cases (eqb (jitter_of p f) 0) _ late (λ z. ap jitter_ok (eqb-true (jitter_of p f) 0 z)) (λ z. ((and-eq-true_iff (jitter_ok (jitter_of p f)) _).0 z).0) in
        let ranges = period_ok (period_of p f) && count_ok (count_of p f) && length_ok (length_of p f) in
        let t = and_three (ranges && hops_ok (hops_of p f)) (every (port_in p.rates) (route_of p f)) (distinct (route_of p f)) h in
        let u = (and-eq-true_iff ranges (hops_ok (hops_of p f))).0 t.0 in
        rw (u.0, j, u.1, t.1, t.2) (or-true (empty_at p f))

-- a valid slot has at most 16 hops
pub valid_hops : (rates : List ℕ) (p : Plan) (f : ℕ) → valid_in rates p f ≡ true → hops_of p f ≤ max_hops
unfolding valid_in
valid_hops rates p f e = or_cases (empty_in p f) (held_in rates p f) e empty held
  where
    empty : empty_in p f ≡ true → hops_of p f ≤ max_hops
    empty h = let t = simp and-eq-true_iff at h in omega (arith, eqb-true (hops_of p f) 0 t.1)

    held : held_in rates p f ≡ true → hops_of p f ≤ max_hops
    held h = let t = simp and-eq-true_iff at h in leb-true _ _ t.0.0.1.1

-- a slot whose numbers stay is as valid as it was
pub rate_kept
    : (p o : Plan) (q : ℕ)
    → rate_of o q ≡ rate_of p q
    → blocking_of o q ≡ blocking_of p q
    → valid_rate p q ≡ true
    → valid_rate o q ≡ true
unfolding valid_rate
rate_kept p o q a b h = rw (a, b) h

pub extra_kept : (rates : List ℕ) (p o : Plan) (q : ℕ) → extra_of o q ≡ extra_of p q → valid_extra rates p q ≡ true → valid_extra rates o q ≡ true
unfolding valid_extra
extra_kept rates p o q a h = rw a h

pub jitter_kept
    : (periods : List ℕ) (p o : Plan) (f : ℕ)
    → jitter_of o f ≡ jitter_of p f
    → valid_jitter periods p f ≡ true
    → valid_jitter periods o f ≡ true
unfolding valid_jitter
jitter_kept periods p o f a h = rw a h

pub flow_kept
    : (rates : List ℕ) (p o : Plan) (f : ℕ)
    → period_of o f ≡ period_of p f
    → count_of o f ≡ count_of p f
    → length_of o f ≡ length_of p f
    → hops_of o f ≡ hops_of p f
    → route_of o f ≡ route_of p f
    → valid_in rates p f ≡ true
    → valid_in rates o f ≡ true
unfolding valid_in
flow_kept rates p o f a b c d e h = rw (e, a, b, c, d) h

-- a slot with numbers in range is valid
pub rate_filled : (p : Plan) (q : ℕ) → rate_ok (rate_of p q) ≡ true → blocking_ok (blocking_of p q) ≡ true → valid_rate p q ≡ true
unfolding valid_rate
rate_filled p q a b = rw (a, b) (or-true (eqb (rate_of p q) 0 && eqb (blocking_of p q) 0))

pub extra-filled
    : (rates : List ℕ) (p : Plan) (q : ℕ)
    → extra_ok (extra_of p q) ≡ true
    → port_in rates (suc q) ≡ true
    → valid_extra rates p q ≡ true
unfolding valid_extra
extra-filled rates p q a b = rw (a, b) (or-true (eqb (extra_of p q) 0))

pub jitter-filled
    : (periods : List ℕ) (p : Plan) (f : ℕ)
    → jitter_ok (jitter_of p f) ≡ true
    → has_flow periods (suc f) ≡ true
    → valid_jitter periods p f ≡ true
unfolding valid_jitter
jitter-filled periods p f a b = rw (a, b) (or-true (eqb (jitter_of p f) 0))

pub flow_filled
    : (rates : List ℕ) (p : Plan) (f : ℕ)
    → period_ok (period_of p f) ≡ true
    → count_ok (count_of p f) ≡ true
    → length_ok (length_of p f) ≡ true
    → hops_ok (hops_of p f) ≡ true
    → every (port_in rates) (route_of p f) ≡ true
    → distinct (route_of p f) ≡ true
    → valid_in rates p f ≡ true
unfolding valid_in
flow_filled rates p f a b c d e g = rw (a, b, c, d, e, g) (or-true (empty_in p f))
