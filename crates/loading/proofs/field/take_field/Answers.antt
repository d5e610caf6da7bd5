-- `take_field` meets its contract: the tests 6, 12 and 7 of a field that was read, and the field stored.
use Prim.Native.Nat.{ℕ}
use mathlib.Core.Path.{◌≡◌, refl, sym, ap, ◌∙◌}
use native.Mathlib.Omega.{arith}
use borrow.Author.Tests.{lt-ltb, le-ltb}
use Rattle.plan_reading.specs.Draft.{field_repeats, added}
use Rattle.plan_reading.specs.Reading.{more, route_at}
use Rattle.plan.specs.Answer.{field_of}
use Rattle.plan_reading.specs.laws.fields.Found.{found-numbers, found_route}
use Rattle.plan_reading.specs.laws.fields.Kinds.{key_below}
use Rattle.plan_reading.specs.laws.reading.Steps.{step_taken, step_late, step_repeats, step_Added}
use Rattle.loading.specs.Answer.{mode_of}
use Rattle.loading.specs.laws.Marked.{routed, names_there}
use Rattle.loading.specs.Loading.{draft_of}
use Rattle.loading.proofs.field.take_field.Goals as goal

pub bounds-tally-key : goal.bounds-tally-key
bounds-tally-key c = omega (arith, c.key_of-key.ensures, key_below (field_of c.args.x) (found-numbers _ _ _ _ _ c.requires.found))

pub returns-then-tally-key-gt0-clause-steps : goal.returns-then-tally-key-gt0-clause-steps
returns-then-tally-key-gt0-clause-steps c =
    let a = c.args in
    sym (step_taken _ (mode_of a.strict) _ _ _ (draft_of a.tables.now a.tally.now) (field_of a.x) a.next c.requires.found
    (rw (← c.key_of-key.ensures) (lt-ltb _ _ c.if-tally-key-gt0.true)))

pub returns-then-is_late-clause-steps : goal.returns-then-is_late-clause-steps
returns-then-is_late-clause-steps c =
    let a = c.args in
    sym (step_late _ (mode_of a.strict) _ _ _ (draft_of a.tables.now a.tally.now) (field_of a.x) a.next c.requires.found
    (rw (← c.key_of-key.ensures) (le-ltb _ _ c.if-tally-key-gt0.false))
    (sym c.is_late.ensures ∙ c.if-is_late.true))

pub field_route-route-requires : goal.field_route-route-requires
field_route-route-requires c = (_, c.requires.found)

pub mark_named-requires : goal.mark_named-requires
mark_named-requires c = (rw c.field_route-route.ensures (found_route _ _ _ _ _ c.requires.found).ports, c.requires.named)

pub returns-then-mark_named-clause-steps : goal.returns-then-mark_named-clause-steps
returns-then-mark_named-clause-steps c =
    let a = c.args in
    let repeats : c.mark_named.result ≡ field_repeats (route_at (field_of a.x).kind a.plan.now a.place.at) =
    c.mark_named.ensures.0 ∙ rw c.field_route-route.ensures in
    sym (step_repeats _ (mode_of a.strict) _ _ _ (draft_of a.tables.now a.tally.now) (field_of a.x) a.next c.requires.found
    (rw (← c.key_of-key.ensures) (le-ltb _ _ c.if-tally-key-gt0.false))
    (sym c.is_late.ensures ∙ c.if-is_late.false)
    (sym repeats ∙ c.if-mark_named.true))

pub store_field-requires : goal.store_field-requires
store_field-requires c =
    let n = found-numbers _ _ _ _ _ c.requires.found in
    record {
      ports = c.requires.ports;
      flows = c.requires.flows;
      numbers = record { kind = refl; ranges = n.ranges; hops = n.hops };
      route = rw c.field_route-route.ensures (found_route _ _ _ _ _ c.requires.found);
    }

pub returns : goal.returns
returns c =
    let a = c.args in
    let s = a.plan.now in
    let at = a.place.at in
    let x = field_of a.x in
    let held = draft_of a.tables.now a.tally.now in
    let read = c.field_route-route.ensures in
    let repeats : c.mark_named.result ≡ field_repeats (route_at x.kind s at) = c.mark_named.ensures.0 ∙ rw read in
    record {
      steps =
          rw (c.store_field.ensures.draft, read)
          (ap (λ (key : ℕ). more a.next key (added held x (route_at x.kind s at))) c.key_of-key.ensures
          ∙ sym (step_Added _ (mode_of a.strict) _ _ _ held x a.next c.requires.found
          (rw (← c.key_of-key.ensures) (le-ltb _ _ c.if-tally-key-gt0.false))
          (sym c.is_late.ensures ∙ c.if-is_late.false)
          (sym repeats ∙ c.if-mark_named.false)));
      names = rw c.store_field.ensures.named (record {
        sized = c.mark_named.ensures.1;
        keeps = c.mark_named.ensures.2;
        routed = routed _ s at _ x a.next c.requires.found (rw read at (c.mark_named.ensures.3 c.if-mark_named.false));
        only = λ m before named. c.mark_named.ensures.4 m before (rw read (names_there m s at _ x a.next c.requires.found named));
      });
    }
