-- The numbers of the plain question's answer mean what the answer means.
use Rattle.std.specs.Prelude.{◌≡◌, refl, ◌↔◌, List, [], ◌∷◌, ℕ, Result, Ok, Err}
use Rattle.std.proofs.Common.{sym, ap, ◌∙◌, arith}
use Rattle.cqf.specs.Plan.{Plan}
use Rattle.answers.specs.Answer.{Answer, result, refusal, refusal_number}
use Rattle.answers.specs.Refusals.{not_admissible}
use Rattle.questions.specs.Answer.{check_of}
use Rattle.sequences.specs.Meaning.{Refuses, Means, CheckMeans}
use Rattle.questions.specs.declared.check.CheckRefusal.{CheckRefusal}
use Rattle.capi.specs.declared.AnswerNumbers.{AnswerNumbers}
use Rattle.capi.specs.Numbers.{refused_with, check_numbers}
use Rattle.capi.specs.Meaning.{CheckNumbersMean}

-- the refusal's number comes first, whatever it carries
refused_number : (number : ℕ) (values : List ℕ) → (refused_with number values).refusal ≡ number
refused_number number [] = refl
refused_number number (a ∷ []) = refl
refused_number number (a ∷ b ∷ rest) = refl

check_number : (answer : Answer (Unit {0})) → (check_numbers answer).refusal ≡ refusal_number answer
check_number (result tt) = refl
check_number (refusal number values) = refused_number number values

-- of what the plain question answers, 21 is the refusal with the lowest failing port and their count, and 0 the result
refuses : (answer : Result (Unit {0}) CheckRefusal) → refusal_number (check_of answer) ≡ not_admissible → Refuses (check_of answer)
refuses (Ok u) e = absurd (omega arith)
refuses (Err CheckRefusal.NoPlan) e = absurd (omega arith)
refuses (Err CheckRefusal.BadDuration) e = absurd (omega arith)
refuses (Err (CheckRefusal.Failing port count)) e = record { lowest = port; count = count; is = refl }

accepts : (answer : Result (Unit {0}) CheckRefusal) → refusal_number (check_of answer) ≡ 0 → check_of answer ≡ result tt
accepts (Ok u) e = refl
accepts (Err CheckRefusal.NoPlan) e = absurd (omega arith)
accepts (Err CheckRefusal.BadDuration) e = absurd (omega arith)
accepts (Err (CheckRefusal.Failing port count)) e = absurd (omega arith)

-- two ways to say that T is refused, and two to say that it is accepted
means_iff
    : {p : Plan} {T : ℕ} {r a r' a' : Type 0}
    → r ↔ r'
    → a ↔ a'
    → Means p T r a
    → Means p T r' a'
means_iff refused accepted m =
    record {
      refused = (λ x. m.refused.0 (refused.1 x), λ x. refused.0 (m.refused.1 x));
      refused_in_order = λ x. m.refused_in_order (refused.1 x);
      accepted = (λ x. m.accepted.0 (accepted.1 x), λ x. accepted.0 (m.accepted.1 x));
      on_time = λ x. m.on_time (accepted.1 x);
    }

module _ (answer : Result (Unit {0}) CheckRefusal) (numbers : AnswerNumbers) (is : numbers ≡ check_numbers (check_of answer)) where
  number : numbers.refusal ≡ refusal_number (check_of answer)
  number = ap (λ (n : AnswerNumbers). n.refusal) is ∙ check_number (check_of answer)

  refusing : Refuses (check_of answer) ↔ (numbers.refusal ≡ not_admissible)
  refusing = (λ r. number ∙ ap refusal_number r.is, λ e. refuses answer (sym number ∙ e))

  accepting : (check_of answer ≡ result tt) ↔ (numbers.refusal ≡ 0)
  accepting = (λ e. number ∙ ap refusal_number e, λ e. accepts answer (sym number ∙ e))

  pub check_numbers_mean : (p : Plan) (T : ℕ) → CheckMeans p T (check_of answer) → CheckNumbersMean p T numbers
  check_numbers_mean p T means calls mode bytes q ports flows left held read low high =
      means_iff refusing accepting (means calls mode bytes q ports flows left held read low high)
