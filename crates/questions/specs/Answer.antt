-- Document 01's number and values for each case of the questions' answers.
use Rattle.std.specs.Prelude.{Result, Ok, Err, ℕ, [], ◌∷◌, ℤ}
use Rattle.answers.specs.Answer.{Answer, result, refusal}
use Rattle.answers.specs.Refusals.{bad_duration, short_scratch, bad_length, no_plan_held, not_admissible, no_least, no_margin_safe, not_crossed, not_finished, absent_flow}
use Rattle.questions.specs.FixedPoint.{FixedPoint}
use Rattle.questions.specs.declared.check.CheckRefusal.{CheckRefusal}
use Rattle.questions.specs.declared.port_slack.SlackRefusal.{SlackRefusal}
use Rattle.questions.specs.declared.search.SearchRefusal.{SearchRefusal}
use Rattle.questions.specs.declared.iteration.FixedPoint.{FixedPoint as Reached}
use Rattle.questions.specs.declared.iteration.FixedPointRefusal.{FixedPointRefusal}
use Rattle.questions.specs.declared.reprice.RepriceRefusal.{RepriceRefusal}

abbrev pub check_of : Result (Unit {0}) CheckRefusal → Answer (Unit {0})
check_of (Ok done) = result tt
check_of (Err CheckRefusal.NoPlan) = refusal no_plan_held (0 ∷ [])
check_of (Err CheckRefusal.BadDuration) = refusal bad_duration (0 ∷ [])
check_of (Err (CheckRefusal.Failing port count)) = refusal not_admissible (port ∷ count ∷ [])

abbrev pub slack_of : Result ℤ SlackRefusal → Answer ℤ
slack_of (Ok z) = result z
slack_of (Err SlackRefusal.NoPlan) = refusal no_plan_held (0 ∷ [])
slack_of (Err SlackRefusal.BadDuration) = refusal bad_duration (0 ∷ [])
slack_of (Err SlackRefusal.NotCrossed) = refusal not_crossed (0 ∷ [])

-- a search's answer, where the failing ports at top come with the refusal of this number
abbrev pub search_of : ℕ → Result ℕ SearchRefusal → Answer ℕ
search_of number (Ok T) = result T
search_of number (Err SearchRefusal.NoPlan) = refusal no_plan_held (0 ∷ [])
search_of number (Err SearchRefusal.ShortScratch) = refusal short_scratch (0 ∷ [])
search_of number (Err (SearchRefusal.Failing port count)) = refusal number (port ∷ count ∷ [])

-- the answer of the search for the least duration, and of the one for the margin-safe duration
abbrev pub least_of : Result ℕ SearchRefusal → Answer ℕ
least_of = search_of no_least

abbrev pub margin_safe_of : Result ℕ SearchRefusal → Answer ℕ
margin_safe_of = search_of no_margin_safe

-- the answer of the fixed-point iteration
abbrev pub fixed_point_refused : FixedPointRefusal → Answer FixedPoint
fixed_point_refused FixedPointRefusal.NoPlan = refusal no_plan_held (0 ∷ [])
fixed_point_refused FixedPointRefusal.BadStart = refusal bad_duration (0 ∷ [])
fixed_point_refused (FixedPointRefusal.Failing port count steps) = refusal no_least (port ∷ count ∷ steps ∷ [])
fixed_point_refused (FixedPointRefusal.Unfinished duration steps) = refusal not_finished (duration ∷ steps ∷ [])

abbrev pub fixed_point_of : Result Reached FixedPointRefusal → Answer FixedPoint
fixed_point_of (Ok f) = result (record { duration = f.duration; steps = f.steps })
fixed_point_of (Err e) = fixed_point_refused e

-- the answer to another frame length
abbrev pub reprice_of : Result (Unit {0}) RepriceRefusal → Answer (Unit {0})
reprice_of (Ok done) = result tt
reprice_of (Err RepriceRefusal.NoPlan) = refusal no_plan_held (0 ∷ [])
reprice_of (Err RepriceRefusal.BadDuration) = refusal bad_duration (0 ∷ [])
reprice_of (Err RepriceRefusal.ShortList) = refusal short_scratch (0 ∷ [])
reprice_of (Err RepriceRefusal.BadLength) = refusal bad_length (0 ∷ [])
reprice_of (Err RepriceRefusal.AbsentFlow) = refusal absent_flow (0 ∷ [])
