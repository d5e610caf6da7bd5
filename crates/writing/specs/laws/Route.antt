-- Laws of the bytes of a route.
use Rattle.std.specs.Prelude.{ℕ, ◌+◌, ◌*◌, ◌≤◌, ◌<◌, ◌≡◌, refl, List, [], ◌∷◌, ◌++◌, length, get_or, take}
use Rattle.std.proofs.Common.{ap, ◌∙◌, arith, add-one, length-take, take-suc}
use Rattle.plan_reading.specs.FieldBytes.{bytes2, bytes2s}
use Rattle.plan_reading.specs.laws.fields.Decoded.{ports_length}

route_more : (r t : List ℕ) → bytes2s (r ++ t) ≡ bytes2s r ++ bytes2s t
unfolding bytes2s
route_more [] t = refl
route_more (n ∷ r) t = ap (λ (l : List ℕ). bytes2 n ++ l) (route_more r t)

-- the first i ports
pub front_length : (r : List ℕ) (i : ℕ) → i ≤ length r → length (bytes2s (take i r)) ≡ 2 * i
front_length r i within = ports_length (take i r) ∙ (omega (arith, length-take i r))

-- and the port behind them
pub route_next : (r : List ℕ) (i : ℕ) → i < length r → bytes2s (take (i + 1) r) ≡ bytes2s (take i r) ++ bytes2 (get_or r i 0)
unfolding bytes2s
route_next r i below = rw (add-one i, take-suc r i 0 below, route_more (take i r) (get_or r i 0 ∷ []))
