-- Laws of the bytes of a field with a route, by how many ports it has.
use Rattle.std.specs.Prelude.{ℕ, ◌+◌, ◌*◌, ◌≤◌, ◌<◌, ◌≡◌, List, [], ◌∷◌}
use Rattle.std.proofs.Math.Path.{ap}
use Rattle.std.proofs.Common.{◌∙◌, arith, le-leb}
use Rattle.std.proofs.lemmas.Bool.{lt-leb}
use Rattle.std.proofs.Math.ListN.{length}
use Rattle.cqf.specs.Limits.{max_hops}
use Rattle.plan.specs.Bytes.{head_size}
use Rattle.plan.specs.Layout.{Kind, numbers_size}
use Rattle.plan_reading.specs.FieldBytes.{value_of, bytes_of}
use Rattle.plan_reading.specs.laws.fields.Decoded.{ports_length}
use Rattle.writing.specs.Fields.{routed_bytes, allowed_bytes, flow_bytes, flow2_bytes}

module _ (k : Kind) (ns r : List ℕ) where
  pub route_long : max_hops < length r → allowed_bytes k ns r ≡ []
  route_long long = rw (lt-leb (length r) max_hops long)

  pub route_named : length r ≤ max_hops → allowed_bytes k ns r ≡ routed_bytes k ns r
  route_named few = rw (le-leb (length r) max_hops few)

-- how long it is
module _ (n period count bytes : ℕ) (r : List ℕ) (few : length r ≤ max_hops) where
  pub flow_length : length (flow_bytes n period count bytes r) ≡ head_size + (numbers_size Kind.flow + 2 * length r)
  unfolding bytes_of value_of
  flow_length = ap length (route_named Kind.flow (n ∷ period ∷ count ∷ bytes ∷ []) r few) ∙ omega (arith, ports_length r)

  pub flow2_length : (jitter : ℕ) → length (flow2_bytes n period count bytes jitter r) ≡ head_size + (numbers_size Kind.flow2 + 2 * length r)
  unfolding bytes_of value_of
  flow2_length jitter = ap length (route_named Kind.flow2 (n ∷ period ∷ count ∷ bytes ∷ jitter ∷ []) r few) ∙ omega (arith, ports_length r)
