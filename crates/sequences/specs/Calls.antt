-- Sequences of calls from the empty planner, each given the planner as the call before left it.
use Rattle.std.specs.Prelude.{ℕ, List, [], ◌∷◌, ℤ}
use Rattle.std.proofs.Math.Option.{Option, none, some}
use Rattle.cqf.specs.Form.{older, form_number}
use Rattle.cqf.specs.Plan.{Plan, no_plan}
use Rattle.plan_reading.specs.Reading.{PlanRead, accepted, rejected, Mode, read_as_of}
use Rattle.loading.specs.Outcome.{load_leaves, load_form}
use Rattle.questions.specs.declared.one_span.SpanRecord.{SpanRecord}

-- a question, with what it is given; the searches are lent a scratch, the lean ones of one number at least, those that write fields
-- a buffer, the question of another frame length a list of signed numbers, and that for all spans a list of records
pub data Question : Type 0 where
  check : (duration : ℕ) → Question
  slack : (port duration : ℕ) → Question
  least : (scratch : List ℕ) → Question
  margin_safe : (scratch : List ℕ) → Question
  lean_least : (scratch : List ℕ) → Question
  lean_margin_safe : (scratch : List ℕ) → Question
  fixed_point : (start steps : ℕ) → Question
  save : (buffer : List ℕ) → Question
  gates : (duration even odd : ℕ) (buffer : List ℕ) → Question
  reprice : (duration flow bytes : ℕ) (out : List ℤ) → Question
  span : (duration : ℕ) → Question
  spans : (list : List SpanRecord) → Question
  nearest : (duration : ℕ) → Question

-- a load says in which reading
pub data Call : Type 0 where
  load : (mode : Mode) (bytes : List ℕ) → Call
  ask : Question → Call

-- the plan held after a call: a question leaves it
abbrev pub leaves : Plan → Call → Plan
leaves p (load mode s) = load_leaves mode p s
leaves p (ask x) = p

unfoldable pub after_from : Plan → List Call → Plan
unfolding load_leaves
after_from p [] = p
after_from p (c ∷ cs) = after_from (leaves p c) cs

-- the planner after a sequence of calls
unfoldable pub after : List Call → Plan
unfolding after_from no_plan
after calls = after_from no_plan calls

-- the number of the form beside it, that of the empty planner being the older one's
abbrev pub form_leaves : ℕ → Call → ℕ
form_leaves form (load mode s) = load_form mode form s
form_leaves form (ask x) = form

unfoldable pub form_after_from : ℕ → List Call → ℕ
unfolding load_form
form_after_from form [] = form
form_after_from form (c ∷ cs) = form_after_from (form_leaves form c) cs

unfoldable pub form_after : List Call → ℕ
unfolding form_after_from
form_after calls = form_after_from (form_number older) calls

-- the bytes of the last load in which the rules of its reading find no refusal
abbrev pub accepting : Option (List ℕ) → List ℕ → PlanRead → Option (List ℕ)
accepting held s (accepted p ports flows) = some s
accepting held s (rejected number offset) = held

abbrev pub keeping : Option (List ℕ) → Call → Option (List ℕ)
keeping held (load mode s) = accepting held s (read_as_of mode s)
keeping held (ask x) = held

unfoldable pub held_from : Option (List ℕ) → List Call → Option (List ℕ)
unfolding read_as_of
held_from held [] = held
held_from held (c ∷ cs) = held_from (keeping held c) cs

unfoldable pub held_bytes : List Call → Option (List ℕ)
unfolding held_from
held_bytes calls = held_from none calls
