-- Laws of what the reading of a text leaves, by what it reads.
use Rattle.std.specs.Prelude.{Ok, Err, ℕ, ◌≡◌, refl, Bool, true, false, List}
use Rattle.std.proofs.Common.{ap, ◌∙◌}
use Rattle.cqf.specs.Form.{form_number}
use Rattle.cqf.specs.Plan.{Plan, no_plan}
use Rattle.tables.specs.Tables.{plan_of}
use Rattle.plan_text.specs.Line.{form_by}
use Rattle.plan_text.specs.Text.{reads, rejected, read_text}
use Rattle.plan_text.specs.Outcome.{is_newer, text_answer, text_leaves, text_form, TextReads}
use Rattle.plan_text.specs.declared.refusal.TextRefusal.{TextRefusal}
use Rattle.plan_text.specs.declared.held.TextOutcome.{TextOutcome}

newer_by : (b : Bool) → b ≡ is_newer (form_by b)
newer_by true = refl
newer_by false = refl

module _ (text : List ℕ) (outcome : TextOutcome) where
  pub plan_reads
      : (asked : Bool) (p : Plan)
      → reads (form_by asked) p ≡ read_text text
      → outcome.answer ≡ Ok (record { newer = asked })
      → plan_of outcome.planner ≡ p
      → outcome.planner.form ≡ form_number (form_by asked)
      → TextReads text outcome
  plan_reads asked p e answer plan form =
      record {
        answers = answer ∙ ap (λ (b : Bool). Ok (record { newer = b })) (newer_by asked) ∙ ap text_answer e;
        leaves = plan ∙ ap text_leaves e;
        formed = form ∙ ap text_form e;
      }

  pub refused_reads
      : (r : TextRefusal)
      → rejected r.line r.fault r.item r.value ≡ read_text text
      → outcome.answer ≡ Err r
      → plan_of outcome.planner ≡ no_plan
      → outcome.planner.form ≡ 0
      → TextReads text outcome
  refused_reads r e answer plan form =
      record { answers = answer ∙ ap text_answer e; leaves = plan ∙ ap text_leaves e; formed = form ∙ ap text_form e }
