-- A run in which only the first n flows have frames: what a port has queued is summed over those alone.
use Rattle.std.specs.Prelude.{◌≡◌, Bool, cond, length, get_or, eqb}
use Rattle.std.proofs.Math.Path.{refl, ap, fun_ext}
use Rattle.std.proofs.Common.{◌∙◌, zero-mul}
use Prim.Native.Nat.{ℕ, zero, suc, ◌*◌, ◌≤◌}
use Rattle.cqf.specs.Bounded.{sum_to, count_to, any_to}
use Rattle.cqf.specs.Limits.{port_slots, flow_slots}
use Rattle.cqf.specs.Plan.{Plan, route_of}
use Rattle.cqf.specs.Port.{wire_bits}
use Rattle.cqf.specs.Cycles.{Cycles}
use Rattle.cqf.specs.Run.{Places, source, advance, is_queued_at, Network, running, stopped, next, run, queued_bits, overrun_at, overrun}
use Rattle.cqf.proofs.laws.Prefix.{sum_to_prefix}

unfoldable pub queued_in : (n : ℕ) → Plan → Cycles → Places → ℕ → ℕ
unfolding sum_to count_to wire_bits
queued_in n p cycles places q =
    sum_to n (λ f. count_to (length (cycles f)) (λ k. is_queued_at (suc q) (places f k)) * wire_bits p f q)

unfoldable pub overrun_in : (n : ℕ) → Plan → ℕ → Cycles → Places → Bool
unfolding any_to queued_in overrun_at
overrun_in n p T cycles places = any_to port_slots (λ q. overrun_at p T (queued_in n p cycles places q) q)

abbrev next_in : (n : ℕ) → Plan → ℕ → Cycles → ℕ → Network → Network
next_in n p T cycles c stopped = stopped
next_in n p T cycles c (running places) =
    cond (overrun_in n p T cycles places)
    stopped
    (running (λ f k. advance (eqb (get_or (cycles f) k 0) c) (route_of p f) (places f k)))

unfoldable pub run_in : (n : ℕ) → Plan → ℕ → Cycles → ℕ → Network
run_in n p T cycles zero = running (λ f k. source)
run_in n p T cycles (suc c) = next_in n p T cycles c (run_in n p T cycles c)

module _ {n : ℕ} (p : Plan) (T : ℕ) (cycles : Cycles) (l : n ≤ flow_slots) (none : (f : ℕ) → n ≤ f → length (cycles f) ≡ 0) where
  queued_few : (places : Places) (q : ℕ) → queued_bits p cycles places q ≡ queued_in n p cycles places q
  unfolding queued_bits queued_in count_to
  queued_few places q = sum_to_prefix l _ (λ f m. rw (none f m) (zero-mul (wire_bits p f q)))

  overrun-few : (places : Places) → overrun p T cycles places ≡ overrun_in n p T cycles places
  unfolding overrun overrun_in
  overrun-few places = ap (any_to port_slots) (fun_ext (λ q. ap (λ bits. overrun_at p T bits q) (queued_few places q)))

  next-few : (c : ℕ) (net : Network) → next p T cycles c net ≡ next_in n p T cycles c net
  next-few c stopped = refl
  next-few c (running places) = rw (overrun-few places)

  pub run-few : (c : ℕ) → run p T cycles c ≡ run_in n p T cycles c
  unfolding run run_in
  run-few zero = refl
  run-few (suc c) = ap (next p T cycles c) (run-few c) ∙ next-few c (run_in n p T cycles c)
