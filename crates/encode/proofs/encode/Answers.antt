-- What is written lies within the buffer.
use Rattle.text_coding.specs.laws.Room.{encode_inside}
use Rattle.encode.proofs.encode.Goals as goal

pub say_encoded-requires : goal.say_encoded-requires
say_encoded-requires c = encode_inside _ _ c.encode_text-answer.result _ c.encode_text-answer.ensures
