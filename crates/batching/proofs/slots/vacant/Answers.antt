-- `vacant` meets its contract.
use Rattle.batching.specs.Slots.{slot_by}
use Rattle.batching.proofs.slots.vacant.Goals as goal

pub returns : goal.returns
unfolding slot_by
returns c = c.with_numbers.ensures
