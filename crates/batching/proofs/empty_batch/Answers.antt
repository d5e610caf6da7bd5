-- `empty_batch` meets its contract.
use Rattle.batches.specs.Batch.{empty_batch}
use Rattle.batching.proofs.empty_batch.Goals as goal

pub returns : goal.returns
unfolding empty_batch
returns c = rw c.vacant-slot.ensures
