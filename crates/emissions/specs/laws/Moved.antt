-- An emission and its cycles, moved by whole cycles: what the later one keeps the earlier one keeps, and its cycles are permitted alike.
use Rattle.std.specs.Prelude.{◌≡◌, false, List, [], map, ℕ, suc, ◌+◌, ◌-◌, ◌*◌, ◌/◌, ◌≤◌, ◌<◌, length, get_or}
use Rattle.std.proofs.Common.{sym, ap, ◌∙◌, add_comm, arith, ext_get_or}
use Rattle.std.proofs.Math.Nat.{add-mul-div_right}
use Rattle.std.proofs.lemmas.List.{length-map}
use Rattle.cqf.specs.Plan.{Plan, present, count_of, jitter_of}
use Rattle.cqf.specs.Emission.{Emission, Keeps}
use Rattle.cqf.specs.Cycles.{Cycles, cycles_of, Partition, Permitted, aligned, parted}
use Rattle.cqf.proofs.laws.Partition.{cycle_of}

-- each number of the later list is d more
pub record Later (d : ℕ) (l late : ℕ → List ℕ) : Type 0 where
  pub each : (f : ℕ) → length (late f) ≡ length (l f)
  pub at : (f k : ℕ) → k < length (l f) → get_or (late f) k 0 ≡ d + get_or (l f) k 0

-- the contracts
module _ (p : Plan) (d : ℕ) (e late : Emission) (moved : Later d e late) (keeps : Keeps p late) where
  in_late : (f k : ℕ) → k < length (e f) → k < length (late f)
  in_late f k l = omega (arith, moved.each f)

  released_late : (f k : ℕ) → k < length (e f) → (keeps.nominal f k ≤ d + get_or (e f) k 0 + jitter_of p f) × (d + get_or (e f) k 0 ≤ keeps.nominal f k)
  released_late f k l =
      let r = keeps.released f k (in_late f k l) in
      let at = moved.at f k l in
      (omega (arith, r.0, at), omega (arith, r.1, at))

  pub moved_keeps : ((f : ℕ) → present p f ≡ false → e f ≡ []) → Keeps p e
  moved_keeps absent =
      record {
        absent = absent;
        rising = λ f k l. omega (arith, keeps.rising f k (in_late f (suc k) l), moved.at f k (omega arith), moved.at f (suc k) l);
        nominal = λ f k. keeps.nominal f k - d;
        released = λ f k l. (omega (arith, (released_late f k l).0), omega (arith, (released_late f k l).1));
        spaced = λ f k l. omega (arith, keeps.spaced f k (in_late f (k + count_of p f) l), (released_late f k (omega arith)).1);
      }

-- the cycles
module _ (p : Plan) (T n : ℕ) (long : 0 < T) (e late : Emission) (cycles lateCycles : Cycles) (moved : Later (n * T) e late) (turned : Later n cycles lateCycles) (same : (f : ℕ) → length (cycles f) ≡ length (e f)) where
  later_cycle : (f k : ℕ) → k < length (e f) → get_or (late f) k 0 / T ≡ get_or (e f) k 0 / T + n
  later_cycle f k l =
      ap (λ (t : ℕ). t / T) (moved.at f k l ∙ add_comm (n * T) (get_or (e f) k 0)) ∙ add-mul-div_right (get_or (e f) k 0) n long

  moved_aligned : ((f : ℕ) → lateCycles f ≡ cycles_of T late f) → (f : ℕ) → cycles f ≡ cycles_of T e f
  moved_aligned aligns f = ext_get_or 0 _ _ (same f ∙ sym (length-map (e f) (λ (t : ℕ). t / T))) each
    where
      each : (k : ℕ) → k < length (cycles f) → get_or (cycles f) k 0 ≡ get_or (map (λ (t : ℕ). t / T) (e f)) k 0
      each k l =
          let own : get_or (lateCycles f) k 0 ≡ get_or (late f) k 0 / T = ap (λ (x : List ℕ). get_or x k 0) (aligns f) ∙ cycle_of T (late f) k in
          omega (arith, own, turned.at f k l, later_cycle f k (omega (arith, same f)), cycle_of T (e f) k)

  moved_partition : Partition p T late lateCycles → Partition p T e cycles
  moved_partition parts =
      record {
        each = same;
        rising = λ f k l.
            omega (arith, parts.rising f k (omega (arith, moved.each f)), turned.at f k (omega (arith, same f)), turned.at f (suc k) (omega (arith, same f)));
        near = λ f i j l m own.
            omega
            (arith, parts.near f i j l (omega (arith, moved.each f)) (turned.at f i (omega (arith, same f)) ∙ ap (λ (c : ℕ). n + c) own ∙ sym (turned.at f j (omega (arith, same f)))), moved.at f i (omega arith), moved.at f j m);
      }

  pub moved_permitted : Permitted p T late lateCycles → Permitted p T e cycles
  moved_permitted (aligned equal aligns) = aligned equal (moved_aligned aligns)
  moved_permitted (parted differ parts) = parted differ (moved_partition parts)
