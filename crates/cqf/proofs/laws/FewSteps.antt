-- The fixed-point iteration and the two searches of a plan with few ports and flows, by what those alone need.
use Rattle.std.specs.Prelude.{◌≡◌, ◌||◌, eqb, leb}
use Rattle.std.proofs.Math.Path.{refl, ap, ap₂}
use Rattle.std.proofs.Common.{subst, ◌∙◌}
use Rattle.std.proofs.Math.Bool.{true, false, and-false}
use mathlib.Core.List.{List, [], ◌∷◌}
use Prim.Native.Nat.{ℕ, zero, suc, ◌+◌, ◌≤◌, ◌<◌}
use Rattle.std.proofs.Math.ListN.{length}
use Rattle.std.proofs.Math.Dec.{ltb}
use Rattle.cqf.specs.Bounded.{sum_to}
use Rattle.cqf.specs.Limits.{flow_slots}
use Rattle.cqf.specs.Plan.{Plan, valid_plan}
use Rattle.cqf.specs.Condition.{least, margin_safe}
use Rattle.cqf.specs.FixedPoint.{visited_in, visited, steps_from, Outcome, found, none, unfinished, after_steps, iterate, later, most_steps}
use Rattle.cqf.proofs.laws.Prefix.{sum_to_prefix}
use Rattle.cqf.proofs.laws.Condition.{none-fails}
use Rattle.cqf.proofs.laws.Few.{Few, failing_in, largest_need_in, admissible-few, largest-few}
use Rattle.cqf.proofs.laws.Search.{Ascended, Descended, ascent_next, ascent_least, descent_next, descent_stop}

-- the durations visited and the outcome, by what is needed at each duration
unfoldable pub visited_by : (need : ℕ → ℕ) → (top most t : ℕ) → List ℕ
visited_by need top zero t = []
visited_by need top (suc n) t = t ∷ elim (leb (need t) t || ltb top (need t)) [ true ↦ [] | false ↦ visited_by need top n (need t) ]

unfoldable pub iterate_by : (need : ℕ → ℕ) → (top t steps : ℕ) → Outcome
iterate_by need top t zero = unfinished t
iterate_by need top t (suc n) =
    elim (leb (need t) t) [
      | true ↦ found t 1
      | false ↦ elim (ltb top (need t)) [ true ↦ none 1 | false ↦ after_steps 1 (iterate_by need top (need t) n) ]
    ]

module _ {m n : ℕ} {p : Plan} (small : Few m n p) where
  visited_in-few : (most t : ℕ) → visited_in p most t ≡ visited_by (largest_need_in m n p) p.top most t
  unfolding visited_in visited_by
  visited_in-few zero t = refl
  visited_in-few (suc k) t =
      let e = largest-few small t in
      ap₂ (λ d rest. t ∷ elim (leb d t || ltb p.top d) [ true ↦ [] | false ↦ rest ]) e (ap (visited_in p k) e ∙ visited_in-few k (largest_need_in m n p t))

  pub visited-few : (t : ℕ) → visited p t ≡ visited_by (largest_need_in m n p) p.top p.top t
  unfolding visited
  visited-few t = visited_in-few p.top t

  pub steps_few : (t : ℕ) → steps_from p t ≡ length (visited_by (largest_need_in m n p) p.top p.top t)
  unfolding steps_from
  steps_few t = ap length (visited-few t)

  pub iterate-few : (t steps : ℕ) → iterate p t steps ≡ iterate_by (largest_need_in m n p) p.top t steps
  unfolding iterate iterate_by
  iterate-few t zero = refl
  iterate-few t (suc k) =
      let e = largest-few small t in
      ap₂ {B = Outcome} {C = Outcome}
      (λ d rest. elim (leb d t) [ true ↦ found t 1 | false ↦ elim (ltb p.top d) [ true ↦ none 1 | false ↦ after_steps 1 rest ] ])
      e
      (ap (λ d. iterate p d k) e ∙ iterate-few (largest_need_in m n p t) k)

  pub most_steps_few : most_steps p ≡ 2 + sum_to n (λ f. later p f p.top)
  unfolding most_steps later
  most_steps_few = ap (λ k. 2 + k) (sum_to_prefix small.flows (λ f. later p f p.top) (λ f l. rw ((small.flow f l).0, and-false (ltb f flow_slots))))

  module _ (valid : valid_plan p ≡ true) where
    -- up to what is needed, and from there the least duration
    pub up_few : {d t : ℕ} → Ascended p d t → t < largest_need_in m n p t → largest_need_in m n p t ≤ p.top → Ascended p d (largest_need_in m n p t)
    up_few {d} {t} s less within =
        let e = largest-few small t in
        subst (Ascended p d) e (ascent_next p valid s (rw e less) (rw e within))

    pub least-few : {t : ℕ} → Ascended p 1 t → failing_in m n p t ≡ 0 → least p ≡ t
    least-few {t} s e = ascent_least p valid s (none-fails p t (admissible-few small t ∙ ap (λ k. eqb k 0) e))

    -- down to what is needed one below, until that is more
    pub down_few : (u t : ℕ) → Descended p (suc u) → 1 ≤ t → t ≤ u → largest_need_in m n p u ≤ t → Descended p t
    down_few u t s low l most = descent_next p valid u t s low l (rw (largest-few small u) most)

    pub stop_few : (u : ℕ) → 1 ≤ u → Descended p (suc u) → u < largest_need_in m n p u → margin_safe p ≡ suc u
    stop_few u low s less = descent_stop p valid u low s (rw (largest-few small u) less)
