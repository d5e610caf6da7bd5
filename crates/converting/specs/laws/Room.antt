-- What a conversion writes lies within the buffer that it leaves.
use Rattle.std.specs.Prelude.{ℕ, ◌≤◌, ◌≡◌, List, length}
use Rattle.std.proofs.Common.{arith}
use Rattle.answers.specs.Answer.{result}
use Rattle.cqf.specs.Form.{Form, older, newer}
use Rattle.plan_reading.specs.Reading.{PlanRead, accepted, rejected, loose, strict, read_form}
use Rattle.plan_reading.specs.Saved.{form_bytes}
use Rattle.writing.specs.laws.Answer.{written_fits}
use Rattle.writing.specs.laws.Laid.{laid-over, over_length}
use Rattle.converting.specs.Convert.{converted_answer, converted_leaves, within_older, upgrade_answer, upgrade_leaves, downgrade_answer, downgrade_leaves}

converted_room : (form : Form) (r : PlanRead) (buffer : List ℕ) (n : ℕ) → converted_answer form r buffer ≡ result n → n ≤ length (converted_leaves form r buffer)
converted_room form (accepted p ports flows) buffer n e =
    let bs = form_bytes form p in
    let f = written_fits bs buffer n e in
    let room : length bs ≤ length buffer = omega (arith, f.size, f.room) in
    rw (laid-over bs buffer room) (omega (arith, f.room, over_length bs buffer room))
converted_room form (rejected number offset) buffer n e = let z : ◌≡◌ {A = ℕ} 0 1 = cc in absurd (omega arith)

pub upgrade_room : (s buffer : List ℕ) (n : ℕ) → upgrade_answer s buffer ≡ result n → n ≤ length (upgrade_leaves s buffer)
unfolding upgrade_answer upgrade_leaves
upgrade_room s buffer n e = converted_room newer (read_form older loose s) buffer n e

pub downgrade_room : (s buffer : List ℕ) (n : ℕ) → downgrade_answer s buffer ≡ result n → n ≤ length (downgrade_leaves s buffer)
unfolding downgrade_answer downgrade_leaves
downgrade_room s buffer n e = converted_room older (within_older s (read_form newer strict s)) buffer n e
