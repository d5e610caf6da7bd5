-- Both forms give the same answers: two sequences of calls whose last accepted plans say the same, whatever their forms, leave planners
-- that answer every question alike but the one that saves.
use Rattle.std.specs.Prelude.{◌≡◌, refl, List, ℕ}
use Rattle.std.proofs.Common.{ap, ◌∙◌}
use Rattle.std.proofs.Math.Option.{some}
use Rattle.cqf.specs.Plan.{Plan}
use Rattle.plan_reading.specs.Reading.{loose, read_plan}
use Rattle.plan_reading.specs.SameParts.{SameParts}
use Rattle.plan_reading.specs.results.FormTheorem.{same_parts}
use Rattle.sequences.specs.Calls.{Call, Question, check, slack, least, margin_safe, lean_least, lean_margin_safe, fixed_point, save, gates, reprice, span, spans, nearest, after, form_after, held_bytes}
use Rattle.sequences.specs.Reply.{reply, Saves, SameButSaving}
use Rattle.sequences.specs.laws.Calls.{after-loaded}

-- only saving asks for the form
form_free : (form other : ℕ) (p : Plan) → SameButSaving form p other p
form_free form other p (check T) apart = refl
form_free form other p (slack n T) apart = refl
form_free form other p (least scratch) apart = refl
form_free form other p (margin_safe scratch) apart = refl
form_free form other p (lean_least scratch) apart = refl
form_free form other p (lean_margin_safe scratch) apart = refl
form_free form other p (fixed_point start steps) apart = refl
form_free form other p (save buffer) apart = absurd (apart (buffer, refl))
form_free form other p (gates T even odd buffer) apart = refl
form_free form other p (reprice T n bytes out) apart = refl
form_free form other p (span T) apart = refl
form_free form other p (spans list) apart = refl
form_free form other p (nearest T) apart = refl

pub same_but_saving
    : (calls others : List Call) (s t : List ℕ)
    → held_bytes calls ≡ some s
    → held_bytes others ≡ some t
    → SameParts s t
    → SameButSaving (form_after calls) (after calls) (form_after others) (after others)
unfolding read_plan
same_but_saving calls others s t held kept same x apart =
    let a = after-loaded calls s held in
    let b = after-loaded others t kept in
    let plans = same_parts loose loose s t (after calls) (after others) a.ports a.flows b.ports b.flows a.reads b.reads same in
    form_free (form_after calls) (form_after others) (after calls) x apart ∙ ap (λ (p : Plan). reply (form_after others) p x) plans
