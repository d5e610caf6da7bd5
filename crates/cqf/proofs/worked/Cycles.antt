-- Assignments of K's frames to cycles that are partitions, and that are none, where its clocks have numbers.
use Rattle.std.specs.Prelude.{◌≡◌, refl, List, [], ◌∷◌, ℕ, zero, suc, ◌≤◌, ◌<◌, length, get_or}
use Rattle.std.proofs.Common.{ap, mul-zero, arith, lit≤}
use Rattle.cqf.specs.Ceil.{ceil_div}
use Rattle.cqf.specs.Widened.{widened}
use Rattle.cqf.specs.Emission.{Emission}
use Rattle.cqf.specs.Cycles.{Cycles, cycles_of, Partition, Permitted, parted}
use Rattle.cqf.proofs.laws.Begun.{widened_covers}
use Rattle.cqf.proofs.worked.K.{early}
use Rattle.cqf.proofs.worked.Clock.{plan_kc, widened_lengths}

-- Clocks that only have a synchronization error, or none, count frames as equal clocks do.
error_alone : (T : ℕ) → widened (plan_kc 0 0 5000 0 0) T ≡ T
unfolding plan_kc widened ceil_div
error_alone T = omega (arith, mul-zero T)

no_error : (T : ℕ) → widened (plan_kc 1000 1000 0 0 0) T ≡ T
unfolding plan_kc widened ceil_div
no_error T = omega arith

-- Yet they permit cycles that are not aligned: at 100,000 the frames of the first flow in cycles 0 and 2 and those of the second in
-- 1 and 4, where the aligned ones are 0 and 1.
apart : Cycles
apart zero = 0 ∷ 2 ∷ []
apart (suc zero) = 1 ∷ 4 ∷ []
apart (suc (suc f)) = []

apart_each : (f : ℕ) → length (apart f) ≡ length (early f)
unfolding apart early
apart_each zero = refl
apart_each (suc zero) = refl
apart_each (suc (suc f)) = refl

apart-rising : (f k : ℕ) → suc k < length (early f) → get_or (apart f) k 0 ≤ get_or (apart f) (suc k) 0
unfolding apart early
apart-rising zero zero h = lit≤ tt
apart-rising zero (suc k) h = absurd (omega arith)
apart-rising (suc zero) zero h = lit≤ tt
apart-rising (suc zero) (suc k) h = absurd (omega arith)
apart-rising (suc (suc f)) k h = absurd (omega arith)

-- no two frames of a flow have one cycle
apart_near : (f i j : ℕ) → i ≤ j → j < length (early f) → get_or (apart f) i 0 ≡ get_or (apart f) j 0 → i ≡ j
unfolding apart early
apart_near zero zero zero l h e = refl
apart_near zero zero (suc zero) l h e = absurd (omega arith)
apart_near zero (suc zero) (suc zero) l h e = refl
apart_near zero (suc zero) zero l h e = absurd (omega arith)
apart_near zero (suc (suc i)) j l h e = absurd (omega arith)
apart_near zero zero (suc (suc j)) l h e = absurd (omega arith)
apart_near zero (suc zero) (suc (suc j)) l h e = absurd (omega arith)
apart_near (suc zero) zero zero l h e = refl
apart_near (suc zero) zero (suc zero) l h e = absurd (omega arith)
apart_near (suc zero) (suc zero) (suc zero) l h e = refl
apart_near (suc zero) (suc zero) zero l h e = absurd (omega arith)
apart_near (suc zero) (suc (suc i)) j l h e = absurd (omega arith)
apart_near (suc zero) zero (suc (suc j)) l h e = absurd (omega arith)
apart_near (suc zero) (suc zero) (suc (suc j)) l h e = absurd (omega arith)
apart_near (suc (suc f)) i j l h e = absurd (omega arith)

apart_differs : apart 0 ≡ cycles_of 100000 early 0 → ⊥
unfolding apart early
apart_differs e = let second : ◌≡◌ {A = ℕ} 2 1 = ap (λ (l : List ℕ). get_or l 1 0) e in omega arith

unaligned : Permitted (plan_kc 0 0 5000 0 0) 100000 early apart
unfolding plan_kc
unaligned =
    parted
    refl
    (record {
      each = apart_each;
      rising = apart-rising;
      near = λ f i j l h e.
          omega (arith, apart_near f i j l h e, ap (λ (k : ℕ). get_or (early f) k 0) (apart_near f i j l h e), widened_covers (plan_kc 0 0 5000 0 0) 100000);
    })

-- an assignment that goes back is no partition
back : Cycles
back zero = 1 ∷ 0 ∷ []
back (suc zero) = 0 ∷ 1 ∷ []
back (suc (suc f)) = []

none_back : Partition (plan_kc 1000 1000 5000 0 0) 109000 early back → ⊥
unfolding back early
none_back parts = omega (arith, parts.rising 0 0 (omega arith))

-- nor is one in which neighbours lie within the stretch, and the first and the last frame of a cycle do not
thrice : Emission
thrice f = 0 ∷ 100000 ∷ 200000 ∷ []

none_spread : Partition (plan_kc 1000 1000 5000 0 0) 109000 thrice (λ f. 0 ∷ 0 ∷ 0 ∷ []) → ⊥
unfolding thrice
none_spread parts = omega (arith, parts.near 0 0 2 (omega arith) (omega arith) refl, widened_lengths.1)

-- nor one in which two frames of a cycle lie just the stretch apart
edge : Emission
edge f = 0 ∷ 110109 ∷ []

none_closed : Partition (plan_kc 1000 1000 5000 0 0) 109000 edge (λ f. 0 ∷ 0 ∷ []) → ⊥
unfolding edge
none_closed parts = omega (arith, parts.near 0 0 1 (omega arith) (omega arith) refl, widened_lengths.1)
