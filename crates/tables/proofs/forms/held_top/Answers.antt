-- `tables::forms::held_top` meets its contract: the form is known, and then each route is no longer than it allows.
use mathlib.Core.Path.{◌≡◌, sym, ap, ◌∙◌}
use Prim.Native.Nat.{ℕ, ◌<◌}
use borrow.Author.Tests.{le-ltb, lt-ltb}
use lib.Dec.{leb}
use lib.ListN.{get_or}
use mathlib.Core.Bool.{Bool}
use mathlib.Core.List.{List}
use Rattle.cqf.specs.Bounded.{all_to}
use Rattle.cqf.specs.Limits.{flow_slots}
use Rattle.cqf.specs.Form.{form_fits, form_from, most_hops_in}
use Rattle.tables.proofs.forms.held_top.Goals as goal
use Rattle.tables.proofs.forms.held_top.Goals.{then-form-ge-FORMS-via-then-form-ge-FORMS, then-form-ge-FORMS-via-else-form-ge-FORMS+then-not-hops_within}

-- what the routes were tested for, where the form is known
tested
    : {most : ℕ} {within : Bool} (form : ℕ) (hops : List ℕ)
    → form < 2
    → most ≡ most_hops_in (form_from form)
    → within ≡ all_to flow_slots (λ f. leb (get_or hops f 0) most)
    → form_fits form hops ≡ within
unfolding form_fits
tested form hops known most within =
    rw (lt-ltb _ _ known) (sym (within ∙ ap (λ (m : ℕ). all_to flow_slots (λ f. leb (get_or hops f 0) m)) most))

pub returns-then-form-ge-FORMS : goal.returns-then-form-ge-FORMS
unfolding form_fits
returns-then-form-ge-FORMS c =
    elim c.then-form-ge-FORMS.branch [
      | then-form-ge-FORMS-via-then-form-ge-FORMS w ↦ rw (le-ltb _ _ w.if-form-ge-FORMS.true)
      | then-form-ge-FORMS-via-else-form-ge-FORMS+then-not-hops_within w ↦
          sym (rw (tested c.args.form c.args.hops.now w.if-form-ge-FORMS.false w.most_hops.ensures w.hops_within.ensures ∙ w.if-not-hops_within.true))
    ]

pub returns : goal.returns
returns c =
    sym (rw (tested c.args.form c.args.hops.now c.if-form-ge-FORMS.false c.most_hops.ensures c.hops_within.ensures ∙ c.if-not-hops_within.false))
