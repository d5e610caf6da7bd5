-- `value_of` meets its contract: test 4, then test 5 on the numbers that were read and on the route.
use mathlib.Core.Path.{◌≡◌, refl, sym, ap, ◌∙◌}
use mathlib.Core.List.{List}
use mathlib.Core.Bool.{Bool, true, false, cond, ◌&&◌}
use Prim.Native.Nat.{ℕ}
use lib.ListN.{drop}
use Rattle.std.proofs.Common.{Some, None}
use Rattle.cqf.specs.Bounded.{every}
use Rattle.cqf.specs.Limits.{port_ok}
use Rattle.plan.specs.Layout.{Kind, layout, numbers_size}
use Rattle.plan.specs.Field.{Field, numbers_at, in_ranges, route_ports, route_in, ranges_ok}
use Rattle.plan.specs.laws.Tested.{value_length, value_range, value_read}
use Rattle.plan.proofs.value.value_of.Goals as goal
use Rattle.plan.proofs.value.value_of.Goals.{else-in_range-via-then-in_range+else-route_in_range, else-in_range-via-else-in_range}

-- what the length's test says
short : (b : Bool) (n : ℕ) → None ≡ cond b (Some n) None → b ≡ false
short true n e = cc
short false n e = refl

long : (b : Bool) (n hops : ℕ) → Some hops ≡ cond b (Some n) None → (b ≡ true) × (hops ≡ n)
long true n hops e = (refl, cc)
long false n hops e = cc

module _ (k : Kind) (v : List ℕ) (f : Field) (hops : ℕ) (read : f ≡ record { kind = k; numbers = numbers_at (layout k).numbers v 0; hops = hops }) where
  -- the numbers that were tested are those in the value
  numbers_tested : (r : Bool) → r ≡ in_ranges (layout k).numbers f.numbers → r ≡ in_ranges (layout k).numbers (numbers_at (layout k).numbers v 0)
  numbers_tested r e = e ∙ ap (λ (x : Field). in_ranges (layout k).numbers x.numbers) read

  -- and the route that was tested is the one in the value
  both_tested
      : (in_numbers in_route : Bool) (start : ℕ) (route : List ℕ)
      → in_numbers ≡ in_ranges (layout k).numbers f.numbers
      → start ≡ numbers_size k
      → route ≡ drop start v
      → in_route ≡ every port_ok (route_ports route)
      → ranges_ok k v ≡ (in_numbers && in_route)
  unfolding route_in
  both_tested in_numbers in_route start route n s r e =
      rw (numbers_tested in_numbers n, e, r, s)

pub returns-in_default : goal.returns-in_default
returns-in_default g c = sym (value_length _ _ _ g.V.Value.kind (short _ _ c.in_default.ensures))

pub returns-then-route_in_range : goal.returns-then-route_in_range
returns-then-route_in_range g c =
    let k = g.V.Value.kind in
    let v = c.args.value.now in
    let sized = long _ _ _ c.in-Some.ensures in
    let tested = both_tested k v _ _ c.read-x.ensures _ _ _ _ c.in_range.ensures (c.SIZE.ensures ∙ g.met.V.Value.size_is) c.route_bytes.ensures c.route_in_range.ensures in
    rw (c.field.ensures, c.read-x.ensures, sized.1)
    (sym (value_read v _ _ k sized.0 (tested ∙ rw (c.if-in_range.true, c.if-route_in_range.true))))

pub returns-else-in_range : goal.returns-else-in_range
returns-else-in_range g c =
    let k = g.V.Value.kind in
    let v = c.args.value.now in
    let sized = long _ _ _ c.in-Some.ensures in
    let refuse = λ (e : ranges_ok k v ≡ false). sym (value_range v c.args.at c.args.next k sized.0 e) in
    elim c.else-in_range.branch [
      | else-in_range-via-then-in_range+else-route_in_range w ↦ refuse
          (both_tested k v _ _ c.read-x.ensures _ _ _ _ c.in_range.ensures (w.SIZE.ensures ∙ g.met.V.Value.size_is) w.route_bytes.ensures w.route_in_range.ensures
          ∙ rw (w.if-in_range.true, w.if-route_in_range.false))
      | else-in_range-via-else-in_range w ↦ refuse (ap (λ (b : Bool). b && every port_ok (route_in k v)) (sym (numbers_tested k v _ _ c.read-x.ensures _ c.in_range.ensures) ∙ w.if-in_range.false))
    ]
