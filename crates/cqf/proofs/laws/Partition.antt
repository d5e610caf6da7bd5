-- Aligned cycles are a partition, so that all permitted cycles are, and they are permitted where clocks differ too.
use Rattle.std.specs.Prelude.{◌≡◌, refl, List, map, Bool, true, false, ℕ, suc, ◌+◌, ◌*◌, ◌/◌, ◌≤◌, ◌<◌, get_or}
use Rattle.std.proofs.Common.{sym, ap, ◌∙◌, subst, div-mul-le_self, le-div_iff_mul-le, le_trans, arith}
use Rattle.std.proofs.Math.Nat.{lt-div-mul-add, zero-div}
use Rattle.std.proofs.lemmas.List.{length-map}
use Rattle.std.proofs.Math.ListN.{get_or-map}
use Rattle.cqf.specs.Plan.{Plan, clocks_equal}
use Rattle.cqf.specs.Emission.{Emission, Keeps}
use Rattle.cqf.specs.Cycles.{Cycles, cycles_of, Partition, Permitted, aligned, parted}
use Rattle.cqf.proofs.laws.Begun.{widened_covers}

-- the aligned cycle of frame k is its instant divided by T
pub cycle_of : (T : ℕ) (l : List ℕ) (k : ℕ) → get_or (map (λ (t : ℕ). t / T) l) k 0 ≡ get_or l k 0 / T
cycle_of T l k =
    subst (λ (d : ℕ). get_or (map (λ (t : ℕ). t / T) l) k d ≡ get_or l k 0 / T) (zero-div T)
    (get_or-map (λ (t : ℕ). t / T) l k 0)

-- two instants of one aligned cycle lie less than T apart
same_cycle : (s t : ℕ) {T : ℕ} → 0 < T → s / T ≡ t / T → t < s + T
same_cycle s t {T} h e = omega (arith, lt-div-mul-add {a = t} h, div-mul-le_self s T, ap (λ (x : ℕ). x * T) e)

-- a later instant lies in no earlier cycle
later_cycle : (s t : ℕ) {T : ℕ} → 0 < T → s ≤ t → s / T ≤ t / T
later_cycle s t {T} h l = (le-div_iff_mul-le h).1 (le_trans (div-mul-le_self s T) l)

module _ (p : Plan) (T : ℕ) (long : 0 < T) (e : Emission) (keeps : Keeps p e) where
  pub aligned_partition : Partition p T e (cycles_of T e)
  aligned_partition =
      record {
        each = λ f. length-map (e f) (λ (t : ℕ). t / T);
        rising = λ f k l. rw (cycle_of T (e f) k, cycle_of T (e f) (suc k)) (later_cycle (get_or (e f) k 0) (get_or (e f) (suc k) 0) long (keeps.rising f k l));
        near = λ f i j _ _ same.
            let close = same_cycle (get_or (e f) i 0) (get_or (e f) j 0) long (sym (cycle_of T (e f) i) ∙ same ∙ cycle_of T (e f) j) in
            omega (arith, close, widened_covers p T);
      }

  -- what permitted cycles have in common
  pub permitted_partition : (cycles : Cycles) → Permitted p T e cycles → Partition p T e cycles
  permitted_partition cycles (parted _ parts) = parts
  permitted_partition cycles (aligned _ same) =
      record {
        each = λ f. rw (same f) (aligned_partition.each f);
        rising = λ f k l. rw (same f) (aligned_partition.rising f k l);
        near = λ f i j l m h. aligned_partition.near f i j l m (rw (same f) at h);
      }

  -- aligned cycles are permitted, whatever the clocks
  pub aligned_permitted : Permitted p T e (cycles_of T e)
  aligned_permitted = go (clocks_equal p) refl
    where
      go : (x : Bool) → clocks_equal p ≡ x → Permitted p T e (cycles_of T e)
      go true h = aligned h (λ f. refl)
      go false h = parted h aligned_partition
