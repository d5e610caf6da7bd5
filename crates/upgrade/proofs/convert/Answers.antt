-- What is written lies within the buffer.
use Rattle.converting.specs.laws.Room.{upgrade_room}
use Rattle.console.specs.laws.Inside.{inside}
use Rattle.upgrade.proofs.convert.Goals as goal

pub say_converted-requires : goal.say_converted-requires
say_converted-requires c = inside _ _ c.upgrade-answer.ensures (upgrade_room _ _)
