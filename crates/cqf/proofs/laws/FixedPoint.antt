-- The fixed-point iteration: it ends in as many steps as durations visited, with the least duration from its start on; stopped
-- before, it can go on; and its length is bounded by the periods that begin.
use Rattle.std.proofs.Math.Path.{◌≡◌, refl, sym, ap, subst}
use Rattle.std.proofs.Common.{◌∙◌, zero-add, suc-add, not-suc-le-zero, le_trans, arith, leb-true, leb-false, ltb-true, ltb-false}
use Rattle.std.specs.Prelude.{Bool, true, false, get_or}
use mathlib.Core.List.{List, [], ◌∷◌}
use Prim.Native.Nat.{ℕ, zero, suc, ◌+◌, ◌-◌, ◌≤◌, ◌<◌}
use Rattle.std.proofs.Math.Nat.{le_refl}
use Rattle.std.proofs.Math.ListN.{length}
use Rattle.cqf.specs.Plan.{Plan, valid_plan}
use Rattle.cqf.specs.Need.{largest_need, least_from}
use Rattle.cqf.specs.FixedPoint.{settles, passes_top, visited_in, Outcome, found, none, unfinished, after_steps, iterate, ended}
use Rattle.cqf.proofs.laws.Ended.{ended-within, ended_above, after-ended}
use Rattle.cqf.proofs.laws.Search.{Ascended, largest-none, ascent_found, ascent_next, ascent_over}

-- a step is the last or goes on to a larger need up to top
pub data StepCase (p : Plan) (t : ℕ) : Type 0 where
  settled : settles p t ≡ true → largest_need p t ≤ t → StepCase p t
  over : settles p t ≡ false → passes_top p t ≡ true → t < largest_need p t → p.top < largest_need p t → StepCase p t
  rises : settles p t ≡ false → passes_top p t ≡ false → t < largest_need p t → largest_need p t ≤ p.top → StepCase p t

pub step_at : (p : Plan) (t : ℕ) → StepCase p t
step_at p t = go (settles p t) refl (passes_top p t) refl
  where
    go : (a : Bool) → settles p t ≡ a → (b : Bool) → passes_top p t ≡ b → StepCase p t
    go true e b d = settled e (leb-true _ _ e)
    go false e true d = over e d (leb-false _ _ e) (ltb-true _ _ d)
    go false e false d = rises e d (leb-false _ _ e) (ltb-false _ _ d)

-- steps before steps
pub after_zero : (o : Outcome) → after_steps 0 o ≡ o
after_zero (found t n) = ap (found t) (omega arith)
after_zero (none n) = ap none (omega arith)
after_zero (unfinished t) = refl

pub after_add : (j k : ℕ) (o : Outcome) → after_steps j (after_steps k o) ≡ after_steps (j + k) o
after_add j k (found t n) = ap (found t) (omega arith)
after_add j k (none n) = ap none (omega arith)
after_add j k (unfinished t) = refl

after-unfinished : (o : Outcome) (u : ℕ) → after_steps 1 o ≡ unfinished u → o ≡ unfinished u
after-unfinished (found t n) u e = absurd (let z : ◌≡◌ {A = ℕ} 0 1 = cc in omega arith)
after-unfinished (none n) u e = absurd (let z : ◌≡◌ {A = ℕ} 0 1 = cc in omega arith)
after-unfinished (unfinished t) u e = e

module _ (p : Plan) where
  -- a step of the iteration, by what it is
  pub iterate_settled : (t n : ℕ) → settles p t ≡ true → iterate p t (suc n) ≡ found t 1
  unfolding iterate
  iterate_settled t n e = rw (iterate, e)

  pub iterate-over : (t n : ℕ) → settles p t ≡ false → passes_top p t ≡ true → iterate p t (suc n) ≡ none 1
  unfolding iterate
  iterate-over t n e d = rw (iterate, e, d)

  pub iterate_rises : (t n : ℕ) → settles p t ≡ false → passes_top p t ≡ false → iterate p t (suc n) ≡ after_steps 1 (iterate p (largest_need p t) n)
  unfolding iterate
  iterate_rises t n e d = rw (iterate, e, d)

  -- and the durations from it on
  pub visited_settled : (n t : ℕ) → settles p t ≡ true → visited_in p (suc n) t ≡ t ∷ []
  unfolding visited_in
  visited_settled n t e = rw (visited_in, e)

  pub visited-over : (n t : ℕ) → settles p t ≡ false → passes_top p t ≡ true → visited_in p (suc n) t ≡ t ∷ []
  unfolding visited_in
  visited-over n t e d = rw (visited_in, e, d)

  pub visited_rises : (n t : ℕ) → settles p t ≡ false → passes_top p t ≡ false → visited_in p (suc n) t ≡ t ∷ visited_in p n (largest_need p t)
  unfolding visited_in
  visited_rises n t e d = rw (visited_in, e, d)

  -- fewer steps stop at the duration of the next one
  pub stops_in : (m n t : ℕ) → n < length (visited_in p m t) → iterate p t n ≡ unfinished (get_or (visited_in p m t) n 0)
  unfolding iterate visited_in
  stops_in zero n t l = absurd (not-suc-le-zero l)
  stops_in (suc m) zero t l = refl
  stops_in (suc m) (suc n) t l = go (stops_in m n (largest_need p t)) (step_at p t)
    where
      one : visited_in p (suc m) t ≡ t ∷ [] → ⊥
      one e = omega (arith, l, ap length e)

      go
          : (n < length (visited_in p m (largest_need p t)) → iterate p (largest_need p t) n ≡ unfinished (get_or (visited_in p m (largest_need p t)) n 0))
          → StepCase p t
          → iterate p t (suc n) ≡ unfinished (get_or (visited_in p (suc m) t) (suc n) 0)
      go more (settled e _) = absurd (one (visited_settled m t e))
      go more (over e d _ _) = absurd (one (visited-over m t e d))
      go more (rises e d _ _) =
          let rest = visited_rises m t e d in
          iterate_rises t n e d
          ∙ ap (after_steps 1) (more (omega (arith, l, ap length rest)))
          ∙ ap (λ (ts : List ℕ). unfinished (get_or ts (suc n) 0)) (sym rest)

  -- going on from where it stopped is one iteration
  pub resumes_in : (a b t u : ℕ) → iterate p t a ≡ unfinished u → iterate p t (a + b) ≡ after_steps a (iterate p u b)
  unfolding iterate
  resumes_in zero b t u e =
      let same : t ≡ u = cc in
      ap (iterate p t) (zero-add b) ∙ ap (λ (v : ℕ). iterate p v b) same ∙ sym (after_zero (iterate p u b))
  resumes_in (suc a) b t u e = ap (iterate p t) (suc-add a b) ∙ go (resumes_in a b (largest_need p t) u) (step_at p t)
    where
      go
          : (iterate p (largest_need p t) a ≡ unfinished u → iterate p (largest_need p t) (a + b) ≡ after_steps a (iterate p u b))
          → StepCase p t
          → iterate p t (suc (a + b)) ≡ after_steps (suc a) (iterate p u b)
      go more (settled d _) = let f = iterate_settled t a d in absurd (let z : ◌≡◌ {A = ℕ} 0 1 = cc in omega arith)
      go more (over d h _ _) = let f = iterate-over t a d h in absurd (let z : ◌≡◌ {A = ℕ} 0 1 = cc in omega arith)
      go more (rises d h _ _) =
          iterate_rises t (a + b) d h
          ∙ ap (after_steps 1) (more (after-unfinished _ u (sym (iterate_rises t a d h) ∙ e)))
          ∙ after_add 1 a (iterate p u b)
          ∙ ap (λ (k : ℕ). after_steps k (iterate p u b)) (omega arith)

  -- one step more from there
  module _ (t a : ℕ) {u : ℕ} (e : iterate p t a ≡ unfinished u) where
    module _ {n : ℕ} (less : a < n) where
      with_rest : iterate p t n ≡ after_steps a (iterate p u (suc (n - suc a)))
      with_rest = ap (iterate p t) (omega (arith, less)) ∙ resumes_in a (suc (n - suc a)) t u e

      pub then_settled : settles p u ≡ true → iterate p t n ≡ found u (a + 1)
      then_settled d = with_rest ∙ ap (after_steps a) (iterate_settled u _ d)

      pub then_over : settles p u ≡ false → passes_top p u ≡ true → iterate p t n ≡ none (a + 1)
      then_over d h = with_rest ∙ ap (after_steps a) (iterate-over u _ d h)

    pub then_rises : settles p u ≡ false → passes_top p u ≡ false → iterate p t (a + 1) ≡ unfinished (largest_need p u)
    unfolding iterate
    then_rises d h = resumes_in a 1 t u e ∙ ap (after_steps a) (iterate_rises u 0 d h)

  -- there are no more durations than the room for them
  pub visited_most : (m t : ℕ) → length (visited_in p m t) ≤ m
  unfolding visited_in
  visited_most zero t = le_refl 0
  visited_most (suc m) t = go (visited_most m (largest_need p t)) (step_at p t)
    where
      go : length (visited_in p m (largest_need p t)) ≤ m → StepCase p t → length (visited_in p (suc m) t) ≤ suc m
      go more (settled e _) = omega (arith, ap length (visited_settled m t e))
      go more (over e d _ _) = omega (arith, ap length (visited-over m t e d))
      go more (rises e d _ _) = omega (arith, ap length (visited_rises m t e d))

  module _ (valid : valid_plan p ≡ true) where
    -- where it stopped, no duration from its start on was passed that is admissible
    pub reached_in : (n t u : ℕ) {d : ℕ} → Ascended p d t → iterate p t n ≡ unfinished u → Ascended p d u
    unfolding iterate
    reached_in zero t u {d} s e = let same : t ≡ u = cc in subst (Ascended p d) same s
    reached_in (suc n) t u {d} s e = go (λ k. reached_in n (largest_need p t) u k) (step_at p t)
      where
        go : (Ascended p d (largest_need p t) → iterate p (largest_need p t) n ≡ unfinished u → Ascended p d u) → StepCase p t → Ascended p d u
        go more (settled h _) = let f = iterate_settled t n h in absurd (let z : ◌≡◌ {A = ℕ} 0 1 = cc in omega arith)
        go more (over h k _ _) = let f = iterate-over t n h k in absurd (let z : ◌≡◌ {A = ℕ} 0 1 = cc in omega arith)
        go more (rises h k less within) =
            more (ascent_next p valid s less within) (after-unfinished _ u (sym (iterate_rises t n h k) ∙ e))

    -- with a room of steps up to top it ends
    pub ends_in
        : (m t : ℕ) {d : ℕ}
        → Ascended p d t
        → p.top < m + t
        → (n : ℕ)
        → length (visited_in p m t) ≤ n
        → iterate p t n ≡ ended p (least_from p d) (length (visited_in p m t))
    unfolding visited_in
    ends_in zero t s room n l = absurd (omega (arith, s.within))
    ends_in (suc m) t s room zero l = absurd (not-suc-le-zero l)
    ends_in (suc m) t {d} s room (suc n) l = go (λ k. ends_in m (largest_need p t) k) (step_at p t)
      where
        last : List ℕ → Outcome
        last ts = ended p (least_from p d) (length ts)

        long : 0 < t
        long = le_trans s.start s.first

        go
            : (Ascended p d (largest_need p t)
            → p.top < m + largest_need p t
            → (n : ℕ)
            → length (visited_in p m (largest_need p t)) ≤ n
            → iterate p (largest_need p t) n ≡ ended p (least_from p d) (length (visited_in p m (largest_need p t))))
            → StepCase p t
            → iterate p t (suc n) ≡ ended p (least_from p d) (length (visited_in p (suc m) t))
        go more (settled e le) =
            iterate_settled t n e
            ∙ sym (ap last (visited_settled m t e) ∙ ended-within p 1 (ascent_found p valid s (largest-none p valid t long le)) s.within)
        go more (over e h less above) =
            iterate-over t n e h
            ∙ sym (ap last (visited-over m t e h) ∙ ended_above p 1 (ascent_over p valid s less above))
        go more (rises e h less within) =
            let rest = visited_rises m t e h in
            iterate_rises t n e h
            ∙ ap (after_steps 1) (more (ascent_next p valid s less within) (omega arith) n (omega (arith, l, ap length rest)))
            ∙ after-ended p (least_from p d) _
            ∙ ap last (sym rest)
