-- Test 4 of a kind with a route: the lengths that it allows.
use Rattle.std.specs.Prelude.{◌≡◌, true, false, ℕ, suc, ◌+◌, ◌*◌, ◌≤◌}
use Rattle.std.proofs.Common.{sym, ap, ◌∙◌, eqb-true, leb-true}
use Rattle.std.proofs.Math.Bool.{and-eq-true_iff}
use mathlib.Mathlib.Data.Bool.Basic.{eq-false_of_not-eq-true}
use Rattle.cqf.specs.Bounded.{within}
use Rattle.plan.specs.Layout.{Kind, layout, numbers_size, hops_allowed}
use Rattle.plan.specs.Field.{hops_in, size_ok}

module _ (k : Kind) (m : ℕ) (routed : (layout k).most_hops ≡ suc m) where
  ports : (h : ℕ) → hops_allowed (layout k).most_hops h ≡ within 1 (suc m) h
  ports h = ap (λ (n : ℕ). hops_allowed n h) routed

  -- an allowed length is that of a number of ports
  pub allowed_hops
      : (size : ℕ)
      → size_ok k size ≡ true
      → (1 ≤ hops_in k size) × ((hops_in k size ≤ suc m) × (size ≡ numbers_size k + 2 * hops_in k size))
  allowed_hops size e =
      let t = (and-eq-true_iff (hops_allowed (layout k).most_hops (hops_in k size)) _).0 e in
      let ok = (and-eq-true_iff _ _).0 (sym (ports (hops_in k size)) ∙ t.0) in
      (leb-true _ _ ok.0, (leb-true _ _ ok.1, eqb-true _ _ t.1))

  -- a length that is that of no number of ports is refused
  pub other_length
      : (size : ℕ)
      → ((h : ℕ) → 1 ≤ h → h ≤ suc m → size ≡ numbers_size k + 2 * h → ⊥)
      → size_ok k size ≡ false
  other_length size none = eq-false_of_not-eq-true λ e.
      let t = allowed_hops size e in
      none (hops_in k size) t.0 t.1.0 t.1.1
