-- `first_absent` meets its contract. The invariant: the first f flows are looked at.
use Rattle.std.proofs.Common.{◌≡◌, ◌≤◌, IfSome}
use Rattle.plan_text.specs.Text.{absent_to}
use Rattle.plan_text.specs.Drafting.{absent_of}
use Rattle.plan_text.proofs.absent.first_absent.Given as goal

abbrev pub invariant-loop-f : goal.invariant-loop-f
invariant-loop-f l = record {
  named : IfSome l.found (λ a. 1 ≤ a.named);
  same : absent_of l.found ≡ absent_to l.f l.draft.tables.rates l.draft.tables.hops l.draft.tables.routes l.draft.lines;
}
