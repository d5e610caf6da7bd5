-- Laws of a route's bytes: how many ports they name, and where each stands.
use Rattle.std.specs.Prelude.{ℕ, zero, suc, ◌+◌, ◌*◌, ◌/◌, ◌≤◌, ◌<◌, ◌≡◌, refl, List, Bool, true, false, not, ◌&&◌, ◌||◌, eqb, length, get_or, drop}
use Rattle.std.proofs.Math.Path.{ap}
use Rattle.std.proofs.Common.{◌∙◌, le_of_suc-le-suc, not-suc-le-zero, arith, length-drop}
use Rattle.std.proofs.Math.ListN.{get_or-eq_default}
use Rattle.cqf.specs.Bounded.{every, elem, distinct}
use Rattle.plan.specs.Bytes.{number2, numbers2}
use Rattle.plan.specs.Layout.{Kind, numbers_size}
use Rattle.plan.specs.Field.{hops_in, route_length, route_ports, route_port, route_in}
use Rattle.plan.specs.laws.Lists.{every_drop, elem_drop, distinct_drop, every_end, elem_end, distinct_end}

-- h numbers are h
pub numbers2_length : (v : List ℕ) (a h : ℕ) → length (numbers2 v a h) ≡ h
unfolding numbers2
numbers2_length v a zero = refl
numbers2_length v a (suc h) = ap suc (numbers2_length v (a + 2) h)

-- number i of them stands 2 * i bytes after the first
pub numbers2-at : (v : List ℕ) (a h i : ℕ) → i < h → get_or (numbers2 v a h) i 0 ≡ number2 v (a + 2 * i)
unfolding numbers2
numbers2-at v a zero i l = absurd (not-suc-le-zero l)
numbers2-at v a (suc h) zero l = ap (number2 v) (omega arith)
numbers2-at v a (suc h) (suc i) l = numbers2-at v (a + 2) h i (le_of_suc-le-suc l) ∙ ap (number2 v) (omega arith)

module _ (r : List ℕ) where
  pub route_length_lem : length (route_ports r) ≡ route_length r
  unfolding route_ports
  route_length_lem = numbers2_length r 0 (route_length r)

  -- each port is a number of 2 bytes
  pub route_at : (i : ℕ) → i < route_length r → route_port r i ≡ number2 r (2 * i)
  unfolding route_port
  route_at i h = numbers2-at r 0 (route_length r) i h ∙ ap (number2 r) (omega arith)

  -- past the route's end stands 0
  pub route_past : (i : ℕ) → route_length r ≤ i → route_port r i ≡ 0
  unfolding route_port
  route_past i h = get_or-eq_default (route_ports r) 0 (omega (arith, route_length_lem))

  -- the tests on the route from port i on, by port i and the ports after it
  pub every_step : (b : ℕ → Bool) (i : ℕ) → i < route_length r
      → every b (drop i (route_ports r)) ≡ (b (route_port r i) && every b (drop (i + 1) (route_ports r)))
  unfolding route_port
  every_step b i h = every_drop (route_ports r) i b (omega (arith, route_length_lem))

  pub names_step : (n i : ℕ) → i < route_length r
      → elem n (drop i (route_ports r)) ≡ (eqb n (route_port r i) || elem n (drop (i + 1) (route_ports r)))
  unfolding route_port
  names_step n i h = elem_drop (route_ports r) i n (omega (arith, route_length_lem))

  pub distinct_step : (i : ℕ) → i < route_length r
      → distinct (drop i (route_ports r)) ≡ (not (elem (route_port r i) (drop (i + 1) (route_ports r))) && distinct (drop (i + 1) (route_ports r)))
  unfolding route_port
  distinct_step i h = distinct_drop (route_ports r) i (omega (arith, route_length_lem))

  -- and past its end
  pub every-past : (b : ℕ → Bool) (i : ℕ) → route_length r ≤ i → every b (drop i (route_ports r)) ≡ true
  every-past b i h = every_end (route_ports r) i b (omega (arith, route_length_lem))

  pub names_past : (n i : ℕ) → route_length r ≤ i → elem n (drop i (route_ports r)) ≡ false
  names_past n i h = elem_end (route_ports r) i n (omega (arith, route_length_lem))

  pub distinct-past : (i : ℕ) → route_length r ≤ i → distinct (drop i (route_ports r)) ≡ true
  distinct-past i h = distinct_end (route_ports r) i (omega (arith, route_length_lem))

-- a value names as many ports as its length says
pub value_hops : (k : Kind) (v : List ℕ) → length (route_in k v) ≡ hops_in k (length v)
unfolding route_in
value_hops k v = route_length_lem (drop (numbers_size k) v) ∙ ap (λ (n : ℕ). n / 2) (length-drop (numbers_size k) v)
