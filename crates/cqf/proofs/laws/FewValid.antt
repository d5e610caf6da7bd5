-- A plan with few ports and flows is valid where those are.
use Rattle.std.specs.Prelude.{◌≡◌, Bool, true, false, ℕ, ◌≤◌, ltb}
use Rattle.std.proofs.Math.Path.{ap₂}
use Rattle.std.proofs.Math.Bool.{◌&&◌, and-false}
use Rattle.cqf.specs.Bounded.{any_to, all_to}
use Rattle.cqf.specs.Limits.{flow_slots, guard_ok, top_ok}
use Rattle.cqf.specs.Plan.{Plan, present, clock_ok, valid_port, valid_flow, valid_plan}
use Rattle.cqf.proofs.laws.Prefix.{any_to_prefix, all_to_prefix}
use Rattle.cqf.proofs.laws.Few.{Few}

-- the rules for the first m ports and the first n flows alone
unfoldable pub valid_in : (m n : ℕ) → Plan → Bool
unfolding valid_port valid_flow
valid_in m n p =
    top_ok p.top
    && guard_ok p.guard
    && clock_ok p.clock
    && all_to m (valid_port p)
    && all_to n (valid_flow p)
    && any_to n (present p)

module _ {m n : ℕ} {p : Plan} (small : Few m n p) where
  port_empty : (q : ℕ) → m ≤ q → valid_port p q ≡ true
  unfolding valid_port
  port_empty q l = let e = small.port q l in rw (e.0, e.1, e.2)

  flow_empty : (f : ℕ) → n ≤ f → valid_flow p f ≡ true
  unfolding valid_flow
  flow_empty f l = let e = small.flow f l in rw (e.0, e.1, e.2, e.3, e.4)

  none-present : (f : ℕ) → n ≤ f → present p f ≡ false
  none-present f l = rw (small.flow f l).0 (and-false (ltb f flow_slots))

  pub valid_few : valid_plan p ≡ valid_in m n p
  unfolding valid_plan valid_in
  valid_few =
      let ports = all_to_prefix small.ports (valid_port p) port_empty in
      let flows = all_to_prefix small.flows (valid_flow p) flow_empty in
      let some = any_to_prefix small.flows (present p) none-present in
      ap₂ ◌&&◌ (ap₂ (λ a b. top_ok p.top && guard_ok p.guard && clock_ok p.clock && a && b) ports flows) some
