-- A field whose bytes are read and name no port twice is good: its numbers are in range, and its route fits it.
use Rattle.std.specs.Prelude.{ℕ, zero, suc, ◌+◌, ◌/◌, ◌%◌, ◌≡◌, refl, List, [], ◌∷◌, ◌++◌, false}
use Rattle.std.proofs.Common.{sym, ap₂, ◌∙◌, subst, arith, drop_at}
use Rattle.std.proofs.Math.Path.{ap}
use Rattle.std.proofs.Math.ListN.{length}
use Rattle.cqf.specs.Bounded.{every}
use Rattle.cqf.specs.Limits.{port_ok}
use Rattle.plan.specs.Bytes.{number2, numbers2, tag_at, value_at}
use Rattle.plan.specs.Layout.{Kind, layout, numbers_size}
use Rattle.plan.specs.Field.{Field, field, field_at, field_by, hops_in, route_ports, route_in}
use Rattle.plan_reading.specs.Ranges.{NumbersOk}
use Rattle.plan_reading.specs.Draft.{field_repeats}
use Rattle.plan_reading.specs.Reading.{route_at}
use Rattle.plan_reading.specs.Strict.{entry_of}
use Rattle.plan_reading.specs.FieldBytes.{bytes2s, numbers_bytes, value_of, bytes_of}
use Rattle.plan_reading.specs.laws.fields.Passes.{Passes, field_passes}
use Rattle.plan_reading.specs.laws.fields.Decoded.{decoded2, ports_length}
use Rattle.plan_reading.specs.laws.rows.SavedRow.{EntryOk}
use Rattle.plan.specs.laws.Tested.{tag_kind}
use Rattle.writing.specs.Fields.{routed_bytes}
use Rattle.field_writing.specs.laws.Back.{behind2, numbers_long, length_back, value_back, value_numbers}

-- the ports of a route
ports_behind : (front v : List ℕ) (i j h : ℕ) → j ≡ length front + i → numbers2 (front ++ v) j h ≡ numbers2 v i h
unfolding numbers2
ports_behind front v i j zero e = refl
ports_behind front v i j (suc h) e = ap₂ ◌∷◌ (behind2 front v i j e) (ports_behind front v (i + 2) (j + 2) h (omega arith))

ports_back : (r : List ℕ) → numbers2 (bytes2s r) 0 (length r) ≡ r
unfolding numbers2 number2 bytes2s
ports_back [] = refl
ports_back (n ∷ r) = ap₂ ◌∷◌ (decoded2 n) (ports_behind (n / 256 ∷ n % 256 ∷ []) (bytes2s r) 0 2 (length r) refl ∙ ports_back r)

module _ (k : Kind) (ns r : List ℕ) (many : length ns ≡ length (layout k).numbers) where
  abbrev alone : Field
  alone = record { kind = k; numbers = ns; hops = length r }

  route_back : route_in k (value_of alone r) ≡ r
  unfolding value_of route_in route_ports
  route_back =
      let half : length (bytes2s r) / 2 ≡ length r = omega (arith, ports_length r) in
      ap route_ports (drop_at (numbers_bytes (layout k).numbers ns) (bytes2s r) (numbers_size k) (numbers_long (layout k).numbers ns many))
      ∙ ap (numbers2 (bytes2s r) 0) half
      ∙ ports_back r

  -- the field that is read is this one
  module _ (x : Field) (next : ℕ) (found : field_at (layout k).form (routed_bytes k ns r) 0 ≡ field x next) where
    abbrev passed : Passes (layout k).form (tag_at (routed_bytes k ns r) 0) (value_at (routed_bytes k ns r) 0) x
    passed = (field_passes (layout k).form (routed_bytes k ns r) 0 x next found).passes

    same_kind : x.kind ≡ k
    unfolding bytes_of
    same_kind = tag_kind x.kind k (sym passed.kind)

    same_field : x ≡ alone
    same_field =
        let v = value_of alone r in
        let ns-back = value_numbers k ns r many in
        let hops : hops_in k (length v) ≡ length r = omega (arith, length_back k ns r many) in
        sym passed.numbers
        ∙ ap₂ field_by same_kind (value_back k ns r many)
        ∙ (λ i. record { kind = k; numbers = ns-back i; hops = hops i })

    same_route : route_in x.kind (value_at (routed_bytes k ns r) 0) ≡ r
    same_route = ap₂ route_in same_kind (value_back k ns r many) ∙ route_back

    pub accepted_entry : field_repeats (route_at x.kind (routed_bytes k ns r) 0) ≡ false → EntryOk (layout k).form (entry_of alone r)
    accepted_entry f =
        record {
          numbers = subst (NumbersOk (layout k).form) same_field passed.ok;
          fits = record { hops = refl; ports = ap (every port_ok) (sym same_route) ∙ passed.route.ports };
          no_repeat = ap field_repeats (sym same_route) ∙ f;
        }
