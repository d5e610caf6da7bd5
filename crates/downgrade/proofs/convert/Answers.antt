-- What is written lies within the buffer.
use Rattle.converting.specs.laws.Room.{downgrade_room}
use Rattle.console.specs.laws.Inside.{inside}
use Rattle.downgrade.proofs.convert.Goals as goal

pub say_converted-requires : goal.say_converted-requires
say_converted-requires c = inside _ _ c.downgrade-answer.ensures (downgrade_room _ _)
