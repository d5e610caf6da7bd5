-- The numbers of the answer that names the nearest durations mean what the answer means.
use Rattle.std.specs.Prelude.{◌≡◌, ℕ}
use Rattle.std.proofs.Common.{ap, ◌∙◌}
use Rattle.cqf.specs.Plan.{Plan}
use Rattle.answers.specs.Answer.{Answer}
use Rattle.questions.specs.Nearest.{Nearest}
use Rattle.sequences.specs.NearestMeaning.{NearestMeans}
use Rattle.capi.specs.declared.AnswerNumbers.{AnswerNumbers}
use Rattle.capi.specs.Numbers.{nearest_numbers}
use Rattle.capi.specs.Meaning.{NearestNumbersMean}

pub nearest_numbers_mean
    : (answer : Answer Nearest) (numbers : AnswerNumbers)
    → numbers ≡ nearest_numbers answer
    → (p : Plan) (T : ℕ)
    → NearestMeans p T answer
    → NearestNumbersMean p T numbers
nearest_numbers_mean answer numbers is p T means calls mode bytes q ports flows left held read low high =
    let m = means calls mode bytes q ports flows left held read low high in
    record {
      nearest = m.nearest;
      told = is ∙ ap nearest_numbers m.told;
      below = m.below;
      above = m.above;
      itself = m.itself;
    }
