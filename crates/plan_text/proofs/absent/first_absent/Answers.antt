-- `first_absent` meets its contract, flow by flow.
use Rattle.std.proofs.Common.{ℕ, sym, ap, ap₂, ◌∙◌, arith, add-one, get_or, rules}
use Rattle.plan_text.specs.Text.{Absent, lower, absent_to}
use Rattle.plan_text.specs.laws.Absent.{absent_none, absent_more}
use Rattle.plan_text.proofs.absent.first_absent.Goals as goal
use Rattle.plan_text.proofs.absent.first_absent.Goals.{in-Some, in_default}

pub loop-f-init : goal.loop-f-init
loop-f-init c = let d = c.args.draft.now in record { named = search rules; same = sym (absent_none d.tables.rates d.tables.hops d.tables.routes d.lines) }

pub absent_port-requires : goal.absent_port-requires
absent_port-requires c = omega (arith, c.requires c.loop-f.f c.loop-f-test.true)

pub lower_of-requires : goal.lower_of-requires
lower_of-requires c = record { named = c.in-Some.ensures.some; found = c.loop-f.invariant.named }

pub loop-f-preserved : goal.loop-f-preserved
loop-f-preserved c =
    let d = c.args.draft.now in
    let f = c.loop-f.f in
    let more = ap (λ (n : ℕ). absent_to n d.tables.rates d.tables.hops d.tables.routes d.lines) (add-one f) ∙ absent_more d.tables.rates d.tables.hops d.tables.routes d.lines f in
    elim c.match-absent_port.branch [
      | in-Some w ↦
          rw w.found-is
          (record {
            named = w.lower_of.ensures.named;
            same =
                w.lower_of.ensures.lower
                ∙ ap₂ (λ (a : Absent) (n : ℕ). lower a (get_or d.lines f 0) n) c.loop-f.invariant.same w.in-Some.ensures.named
                ∙ sym more;
          })
      | in_default w ↦
          rw w.found-is
          (record {
            named = c.loop-f.invariant.named;
            same =
                c.loop-f.invariant.same
                ∙ ap (λ (n : ℕ). lower (absent_to f d.tables.rates d.tables.hops d.tables.routes d.lines) (get_or d.lines f 0) n) w.in_default.ensures.named
                ∙ sym more;
          })
    ]
