-- `take_line` meets its contract: the last two tests of a line, and the line stored.
use Rattle.std.proofs.Common.{◌≡◌, ℕ, List, Bool, sym, ap, subst, ◌∙◌}
use Rattle.plan_text.specs.Line.{form_by}
use Rattle.plan_text.specs.Reading.{numbers_by, Fits}
use Rattle.plan_text.specs.Text.{stop, more}
use Rattle.plan_text.specs.Kinds.{item_of}
use Rattle.plan_text.specs.Drafting.{draft_of, Passed}
use Rattle.plan_text.specs.declared.grammar.Fault.{Fault}
use Rattle.plan_text.specs.declared.grammar.Item.{Item}
use Rattle.plan_text.specs.declared.grammar.Kind.{Kind}
use Rattle.plan_text.specs.laws.Fits.{port_fits, flow_fits}
use Rattle.plan_text.specs.laws.Taken.{again_own, taken_again, taken_twice, taken-added}
use Rattle.plan_text.proofs.draft.take_line.Goals as goal

-- a line of a known kind
known : {newer : Bool} {k : Kind} {numbers route : List ℕ} → Passed newer k numbers route → (kind : Kind) → k ≡ kind → Fits (form_by newer) kind (numbers_by kind numbers) route
known {newer} {k} {numbers} {route} p kind e = subst (λ (k : Kind). Fits (form_by newer) k (numbers_by k numbers) route) e p.fits

pub is_again-requires : goal.is_again-requires
is_again-requires c =
    let n = c.args.numbers.now in
    let r = c.args.route.now in
    let form = form_by c.args.draft.now.newer in
    record {
      room = c.requires.room;
      port = λ e. (port_fits form n r (known c.requires Kind.Port e)).number;
      flow = λ e. (flow_fits form n r (known c.requires Kind.Flow e)).number;
    }

pub returns-then-is_again : goal.returns-then-is_again
returns-then-is_again c =
    let a = c.args in
    let n = a.numbers.now in
    let held = draft_of a.draft.now in
    ap (λ (x : Item). stop Fault.Again x c.first_number.result) c.item_of.ensures
    ∙ ap (stop Fault.Again (item_of a.kind)) c.first_number.ensures
    ∙ sym (taken_again a.kind a.line (numbers_by a.kind n) a.route.now held (sym (again_own a.kind n held) ∙ sym c.is_again.ensures ∙ c.if-is_again.true))

pub returns-then-repeats : goal.returns-then-repeats
returns-then-repeats c =
    let a = c.args in
    let n = a.numbers.now in
    let held = draft_of a.draft.now in
    let new = sym (again_own a.kind n held) ∙ sym c.is_again.ensures ∙ c.if-is_again.false in
    rw c.refused.ensures (sym (taken_twice a.kind a.line (numbers_by a.kind n) a.route.now held new (sym c.repeats.ensures ∙ c.if-repeats.true)))

pub returns : goal.returns
returns c =
    let a = c.args in
    let n = a.numbers.now in
    let held = draft_of a.draft.now in
    let new = sym (again_own a.kind n held) ∙ sym c.is_again.ensures ∙ c.if-is_again.false in
    ap more c.store_line.ensures ∙ sym (taken-added a.kind a.line (numbers_by a.kind n) a.route.now held new (sym c.repeats.ensures ∙ c.if-repeats.false))
