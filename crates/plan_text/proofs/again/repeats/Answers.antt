-- `repeats` meets its contract, by whether the number at the place stands behind it too.
use Rattle.std.proofs.Common.{◌≡◌, ℕ, ◌+◌, ◌-◌, ◌<◌, Bool, not, ◌&&◌, List, eqb, length, get_or, take, drop, sym, ap, ◌∙◌, arith, length-drop}
use Rattle.std.specs.List.{list_any}
use Rattle.std.proofs.Math.Seq.{take_all}
use Rattle.cqf.specs.Bounded.{elem, distinct}
use Rattle.plan_text.specs.laws.Fits.{elem_any, distinct-next, distinct-past}
use Rattle.plan_text.proofs.again.repeats.Goals as goal

-- one number more
told
    : (l : List ℕ) (i : ℕ) {b : Bool}
    → i < length l
    → distinct l ≡ distinct (drop i l)
    → b ≡ list_any (λ n. eqb n (get_or l i 0)) (take (length l - (i + 1)) (drop (i + 1) l))
    → distinct l ≡ (not b && distinct (drop (i + 1) l))
told l i {b} inside so_far e =
    let rest : take (length l - (i + 1)) (drop (i + 1) l) ≡ drop (i + 1) l = take_all (length l - (i + 1)) (drop (i + 1) l) (omega (arith, length-drop (i + 1) l)) in
    so_far
    ∙ distinct-next l i inside
    ∙ ap (λ (b : Bool). not b && distinct (drop (i + 1) l)) (sym (e ∙ elem_any (get_or l i 0) _ ∙ ap (elem (get_or l i 0)) rest))

pub returns-then-contains : goal.returns-then-contains
returns-then-contains c =
    let e = told c.args.list.now c.loop-i.i c.loop-i-test.true c.loop-i.invariant c.contains.ensures.value in
    sym (ap not (rw c.if-contains.true at e))

pub loop-i-preserved : goal.loop-i-preserved
loop-i-preserved c = told c.args.list.now c.loop-i.i c.loop-i-test.true c.loop-i.invariant c.contains.ensures.value ∙ rw c.if-contains.false

pub returns : goal.returns
returns c = sym (ap not (c.loop-i.invariant ∙ distinct-past c.args.list.now c.loop-i.i c.loop-i-test.false))
