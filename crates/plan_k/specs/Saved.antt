-- Plan K saved.
use Rattle.std.specs.Prelude.{◌≡◌, refl}
use Rattle.cqf.specs.Bounded.{sublist}
use Rattle.cqf.specs.Plan.{no_plan}
use Rattle.cqf.proofs.worked.K.{plan_k}
use Rattle.plan_reading.specs.FieldBytes.{bytes2s, value_of, bytes_of, row_bytes}
use Rattle.plan_reading.specs.Saved.{collect, saved_parts, saved_bytes}
use Rattle.plan_k.specs.PlanK.{bytes_k}

-- K stands in strict order and has no field that says what its absence says: it is saved as its own 52 bytes
saved_k : saved_bytes plan_k ≡ bytes_k
unfolding plan_k no_plan bytes_k saved_bytes saved_parts collect row_bytes bytes_of value_of bytes2s sublist
saved_k = refl
