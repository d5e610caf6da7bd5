-- `put_header` meets its contract: the bytes are those of the field.
use Rattle.plan_reading.specs.FieldBytes.{value_of, bytes_of}
use Rattle.writing.proofs.field.put_header.Goals as goal

pub returns : goal.returns
unfolding bytes_of value_of
returns c = c.begin_header.ensures
