-- A flow whose route has more ports than any form allows is refused for its length.
use Rattle.std.specs.Prelude.{ℕ, suc, ◌≤◌, ◌<◌, ◌≡◌, List, length}
use Rattle.std.proofs.Common.{◌∙◌, arith}
use Rattle.cqf.specs.Limits.{max_hops}
use Rattle.plan.specs.Layout.{Kind, layout}
use Rattle.plan.specs.Field.{refused, field_at}
use Rattle.plan.specs.laws.Tested.{value_length}
use Rattle.plan.specs.laws.Lengths.{other_length}
use Rattle.plan_reading.specs.FieldBytes.{value_of}
use Rattle.writing.specs.Fields.{routed_bytes}
use Rattle.field_writing.specs.laws.Back.{field_back, length_back}

pub long_refused
    : (k : Kind) (ns r : List ℕ) (m : ℕ)
    → length ns ≡ length (layout k).numbers
    → (layout k).most_hops ≡ suc m
    → suc m ≤ max_hops
    → max_hops < length r
    → field_at (layout k).form (routed_bytes k ns r) 0 ≡ refused 4 0
long_refused k ns r m many routed most long =
    let v = value_of (record { kind = k; numbers = ns; hops = length r }) r in
    field_back k ns r many
    ∙ value_length v 0 _ k (other_length k m routed (length v) (λ h low high e. omega (arith, length_back k ns r many)))
