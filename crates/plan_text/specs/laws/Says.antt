-- Laws of the tests of a line whose numbers and whose route stand in arrays.
use Rattle.std.specs.Prelude.{ℕ, ◌≤◌, ◌<◌, ◌≡◌, refl, true, false, ◌&&◌, List, [], ◌∷◌, map, leb, ltb, length, get_or, take}
use Rattle.std.proofs.Common.{sym, ap, ap₂, ◌∙◌, arith, lt-ltb, le-ltb, length-take-le, get_or-take}
use Rattle.std.proofs.Math.Option.{Option}
use Rattle.std.proofs.lemmas.List.{length-map}
use Rattle.cqf.specs.Form.{Form, older, newer, most_hops_in}
use Rattle.cqf.specs.Limits.{max_hops}
use Rattle.plan_text.specs.Kinds.{items, is_routed}
use Rattle.plan_text.specs.Line.{says, refused, coded, is_number, first_failing, item_at, number_test, range_test, port_test, lacks_ports, ranges_in, numbers_in}
use Rattle.plan_text.specs.Reading.{decoded, numbers_by, SaysAs}
use Rattle.plan_text.specs.laws.Line.{items_most, coded-decoded}
use Rattle.plan_text.specs.laws.Failing.{failing_map}
use Rattle.plan_text.specs.declared.grammar.Item.{Item}
use Rattle.plan_text.specs.declared.grammar.Kind.{Kind}
use Rattle.plan_text.specs.declared.grammar.Fault.{Fault}

pub most_hops : (form : Form) → most_hops_in form ≤ max_hops
most_hops older = omega arith
most_hops newer = omega arith

-- the numbers of a line
module _ (kind : Kind) (numbers : List ℕ) (room : max_hops ≤ length numbers) where
  pub numbers_size : length (numbers_by kind numbers) ≡ length (items kind)
  numbers_size = length-take-le (length (items kind)) numbers (omega (arith, items_most kind, room))

  -- as many as words were read
  pub decoded_size : length (map decoded (numbers_by kind numbers)) ≡ length (items kind)
  decoded_size = length-map (numbers_by kind numbers) decoded ∙ numbers_size

  all_coded : (ns : List ℕ) → map coded (map decoded ns) ≡ ns
  all_coded [] = refl
  all_coded (n ∷ ns) = ap₂ ◌∷◌ (coded-decoded n) (all_coded ns)

  -- the third test
  module _ (form : Form) (route : List ℕ) (hops : ℕ) (r : List ℕ) (many : length r ≡ hops) (there : hops ≤ max_hops → take hops route ≡ r) {out : ℕ} (is : out ≡ first_failing (range_test kind) (numbers_by kind numbers)) where
    pub range_out : {x : Item} → out < length (items kind) → x ≡ item_at kind out → ranges_in form kind (numbers_by kind numbers) r ≡ refused Fault.Range x (get_or numbers out 0)
    range_out {x} less item =
        let fails : ltb (first_failing (range_test kind) (numbers_by kind numbers)) (length (numbers_by kind numbers)) ≡ true = lt-ltb (first_failing (range_test kind) (numbers_by kind numbers)) (length (numbers_by kind numbers)) (omega (arith, is, numbers_size)) in
        rw fails
        (ap₂ (refused Fault.Range) (ap (item_at kind) (sym is) ∙ sym item)
        (ap (λ (k : ℕ). get_or (numbers_by kind numbers) k 0) (sym is) ∙ get_or-take (length (items kind)) numbers out 0 less))

    module _ (more : length (items kind) ≤ out) where
      passes : ltb (first_failing (range_test kind) (numbers_by kind numbers)) (length (numbers_by kind numbers)) ≡ false
      passes = le-ltb (first_failing (range_test kind) (numbers_by kind numbers)) (length (numbers_by kind numbers)) (omega (arith, is, numbers_size))

      pub hops_out : most_hops_in form < hops → ranges_in form kind (numbers_by kind numbers) r ≡ refused Fault.Range Item.Hops hops
      hops_out above =
          let over : ltb (most_hops_in form) (length r) ≡ true = lt-ltb (most_hops_in form) (length r) (omega (arith, many)) in
          rw (passes, over) (ap (refused Fault.Range Item.Hops) many)

      module _ (below : hops ≤ most_hops_in form) {port : ℕ} (at : port ≡ first_failing port_test (take hops route)) where
        ports : take hops route ≡ r
        ports = there (omega (arith, most_hops form))

        within : ltb (most_hops_in form) (length r) ≡ false
        within = le-ltb (most_hops_in form) (length r) (omega (arith, many))

        here : port ≡ first_failing port_test r
        here = at ∙ ap (first_failing port_test) ports

        pub port_out : port < hops → ranges_in form kind (numbers_by kind numbers) r ≡ refused Fault.Range Item.Route (get_or route port 0)
        port_out less =
            let fails : ltb (first_failing port_test r) (length r) ≡ true = lt-ltb (first_failing port_test r) (length r) (omega (arith, here, many)) in
            rw (passes, within, fails)
            (ap (refused Fault.Range Item.Route)
            (ap (λ (k : ℕ). get_or r k 0) (sym here) ∙ ap (λ (l : List ℕ). get_or l port 0) (sym ports) ∙ get_or-take hops route port 0 less))

        pub all_in
            : (is_routed kind && leb (length r) 0) ≡ false
            → hops ≤ port
            → SaysAs form (ranges_in form kind (numbers_by kind numbers) r) numbers route (record { kind = kind; hops = hops })
        all_in routed most =
            let fine : ltb (first_failing port_test r) (length r) ≡ false = le-ltb (first_failing port_test r) (length r) (omega (arith, here, many)) in
            record {
              says = ap (says kind (numbers_by kind numbers)) ports ∙ sym (rw (passes, within, fine) refl);
              few = omega (arith, most_hops form);
              fits =
                  rw ports
                  (record {
                    all = numbers_size;
                    ranges = omega (arith, is, numbers_size);
                    hops = omega (arith, many);
                    ports = omega (arith, here, many);
                    some = routed;
                  });
            }

  -- the second test
  module _ (form : Form) (ps : List (Option ℕ)) {out : ℕ} (is : out ≡ first_failing (λ i n. is_number (decoded n)) (numbers_by kind numbers)) where
    same : first_failing number_test (map decoded (numbers_by kind numbers)) ≡ out
    same = failing_map number_test decoded (numbers_by kind numbers) ∙ sym is

    pub number_out
        : {x : Item} → out < length (items kind) → x ≡ item_at kind out → numbers_in form kind (map decoded (numbers_by kind numbers)) ps ≡ refused Fault.Number x 0
    number_out {x} less item =
        let fails : ltb (first_failing number_test (map decoded (numbers_by kind numbers))) (length (map decoded (numbers_by kind numbers))) ≡ true = lt-ltb (first_failing number_test (map decoded (numbers_by kind numbers))) (length (map decoded (numbers_by kind numbers))) (omega (arith, same, decoded_size)) in
        rw fails (ap (λ (y : Item). refused Fault.Number y 0) (ap (item_at kind) same ∙ sym item))

    module _ (more : length (items kind) ≤ out) where
      read : ltb (first_failing number_test (map decoded (numbers_by kind numbers))) (length (map decoded (numbers_by kind numbers))) ≡ false
      read = le-ltb (first_failing number_test (map decoded (numbers_by kind numbers))) (length (map decoded (numbers_by kind numbers))) (omega (arith, same, decoded_size))

      pub route_out : lacks_ports kind ps ≡ true → numbers_in form kind (map decoded (numbers_by kind numbers)) ps ≡ refused Fault.Number Item.Route 0
      route_out lacks = rw (read, lacks)

      pub numbers_in_lem : lacks_ports kind ps ≡ false → numbers_in form kind (map decoded (numbers_by kind numbers)) ps ≡ ranges_in form kind (numbers_by kind numbers) (map coded ps)
      numbers_in_lem lacks = rw (read, lacks) (ap (λ (l : List ℕ). ranges_in form kind l (map coded ps)) (all_coded (numbers_by kind numbers)))
