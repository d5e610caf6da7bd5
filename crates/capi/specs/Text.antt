-- What the encoding of a text answers as numbers: the refusal, 0 for a result, and what is told with it.
use Rattle.std.specs.Prelude.{ℕ, get_or}
use Rattle.answers.specs.Answer.{Answer, result, refusal}
use Rattle.plan_text.specs.declared.grammar.Fault.{Fault}
use Rattle.plan_text.specs.declared.grammar.Item.{Item}
use Rattle.text_coding.specs.Encode.{Encoded, answered, refused}
use Rattle.capi.specs.declared.EncodeAnswerNumbers.{EncodeAnswerNumbers}

-- why a text is refused, from 1 on
abbrev pub fault_number : Fault → ℕ
fault_number Fault.Word = 1
fault_number Fault.Number = 2
fault_number Fault.Range = 3
fault_number Fault.Again = 4
fault_number Fault.Twice = 5
fault_number Fault.Incomplete = 6
fault_number Fault.Absent = 7
fault_number Fault.Size = 8

-- what is named with it
abbrev pub item_number : Item → ℕ
item_number Item.Guard = 1
item_number Item.Top = 2
item_number Item.Port = 3
item_number Item.Rate = 4
item_number Item.Blocker = 5
item_number Item.Extra = 6
item_number Item.Flow = 7
item_number Item.Period = 8
item_number Item.Count = 9
item_number Item.Length = 10
item_number Item.Jitter = 11
item_number Item.Drift = 12
item_number Item.Timing = 13
item_number Item.Sync = 14
item_number Item.Format = 15
item_number Item.Route = 16
item_number Item.Hops = 17
item_number Item.First = 18
item_number Item.End = 19

-- a text that is refused has a number that no plan's refusal has
abbrev pub bad_text : ℕ
bad_text = 30

abbrev pub length_numbers : (refusal length : ℕ) → EncodeAnswerNumbers
length_numbers number length = record { refusal = number; line = 0; fault = 0; item = 0; value = length }

-- the length written, or needed; or the line, why, and what is named with it
abbrev pub encode_numbers : Encoded → EncodeAnswerNumbers
encode_numbers (answered (result size)) = length_numbers 0 size
encode_numbers (answered (refusal number values)) = length_numbers number (get_or values 0 0)
encode_numbers (refused line fault item value) =
    record { refusal = bad_text; line = line; fault = fault_number fault; item = item_number item; value = value }
