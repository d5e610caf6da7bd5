-- Laws of a line that passed its tests: its numbers are in range.
use Rattle.std.specs.Prelude.{ℕ, ◌+◌, ◌≤◌, ◌<◌, ◌≡◌, true, not, ◌&&◌, ◌||◌, List, [], ◌∷◌, refl, eqb, length, get_or, drop}
use Rattle.std.proofs.Common.{sym, ap₂, subst, ◌∙◌, arith, add-one, eq-eqb, ne_eqb, le-leb, leb-false, drop_of_length-le, get_or-take, drop-cons}
use Rattle.std.proofs.Math.Path.{ap}
use Rattle.std.proofs.Math.Decide.{ℕ_discrete}
use Rattle.std.specs.List.{list_any}
use Rattle.cqf.specs.Bounded.{elem, distinct}
use Rattle.cqf.specs.Form.{Form}
use Rattle.cqf.specs.Limits.{max_hops, guard_ok, top_ok}
use Rattle.cqf.specs.Plan.{clock_ok}
use Rattle.plan_reading.specs.Ranges.{PortOk, FlowOk, ExtraOk, JitterOk}
use Rattle.plan_text.specs.Grammar.{range_of}
use Rattle.plan_text.specs.Kinds.{items}
use Rattle.plan_text.specs.Line.{item_at, range_test}
use Rattle.plan_text.specs.Reading.{numbers_by, Fits}
use Rattle.plan_text.specs.Text.{clock_in}
use Rattle.plan_text.specs.laws.Ranges.{none-failing}
use Rattle.plan_text.specs.laws.Says.{most_hops}
use Rattle.plan_text.specs.declared.grammar.Kind.{Kind}

-- a number of a line, in its place of the array
pub at_number : (kind : Kind) (numbers : List ℕ) (i : ℕ) → i < length (items kind) → get_or (numbers_by kind numbers) i 0 ≡ get_or numbers i 0
at_number kind numbers i less = get_or-take (length (items kind)) numbers i 0 less

module _ (form : Form) (numbers r : List ℕ) where
  in_range : (kind : Kind) → Fits form kind (numbers_by kind numbers) r → (i : ℕ) → i < length (items kind) → range_of (item_at kind i) (get_or numbers i 0) ≡ true
  in_range kind f i less =
      subst (λ (n : ℕ). range_of (item_at kind i) n ≡ true) (at_number kind numbers i less)
      (none-failing (range_test kind) (numbers_by kind numbers) 0 f.ranges i (omega (arith, f.all)))

  pub guard_fits : Fits form Kind.Guard (numbers_by Kind.Guard numbers) r → guard_ok (get_or numbers 0 0) ≡ true
  guard_fits f = in_range Kind.Guard f 0 (omega arith)

  pub top_fits : Fits form Kind.Top (numbers_by Kind.Top numbers) r → top_ok (get_or numbers 0 0) ≡ true
  top_fits f = in_range Kind.Top f 0 (omega arith)

  pub port_fits : Fits form Kind.Port (numbers_by Kind.Port numbers) r → PortOk (get_or numbers 0 0) (get_or numbers 1 0) (get_or numbers 2 0)
  port_fits f =
      record { number = in_range Kind.Port f 0 (omega arith); rate = in_range Kind.Port f 1 (omega arith); blocking = in_range Kind.Port f 2 (omega arith) }

  pub extra_fits : Fits form Kind.Port (numbers_by Kind.Port numbers) r → ExtraOk (get_or numbers 0 0) (get_or numbers 3 0)
  extra_fits f = record { number = in_range Kind.Port f 0 (omega arith); bytes = in_range Kind.Port f 3 (omega arith) }

  pub flow_fits : Fits form Kind.Flow (numbers_by Kind.Flow numbers) r → FlowOk (get_or numbers 0 0) (get_or numbers 1 0) (get_or numbers 2 0) (get_or numbers 3 0) (length r)
  flow_fits f =
      record {
        number = in_range Kind.Flow f 0 (omega arith);
        period = in_range Kind.Flow f 1 (omega arith);
        count = in_range Kind.Flow f 2 (omega arith);
        length = in_range Kind.Flow f 3 (omega arith);
        hops = rw (le-leb 1 (length r) (leb-false (length r) 0 f.some), le-leb (length r) max_hops (omega (arith, f.hops, most_hops form)));
      }

  pub jitter_fits : Fits form Kind.Flow (numbers_by Kind.Flow numbers) r → JitterOk (get_or numbers 0 0) (get_or numbers 4 0)
  jitter_fits f = record { number = in_range Kind.Flow f 0 (omega arith); ns = in_range Kind.Flow f 4 (omega arith) }

  pub clocks_fit : Fits form Kind.Clocks (numbers_by Kind.Clocks numbers) r → clock_ok (clock_in numbers) ≡ true
  clocks_fit f = rw (in_range Kind.Clocks f 0 (omega arith), in_range Kind.Clocks f 1 (omega arith), in_range Kind.Clocks f 2 (omega arith))

-- a list from its i-th number on
module _ (l : List ℕ) (i : ℕ) (inside : i < length l) where
  front : drop i l ≡ get_or l i 0 ∷ drop (i + 1) l
  front = drop-cons l i 0 inside ∙ ap (λ (k : ℕ). get_or l i 0 ∷ drop k l) (sym (add-one i))

  pub distinct-next : distinct (drop i l) ≡ not (elem (get_or l i 0) (drop (i + 1) l)) && distinct (drop (i + 1) l)
  unfolding distinct
  distinct-next = ap distinct front

pub distinct-past : (l : List ℕ) (i : ℕ) → length l ≤ i → distinct (drop i l) ≡ true
unfolding distinct
distinct-past l i past = ap distinct (drop_of_length-le l {i = i} past)

-- what the library's search tells
pub elem_any : (n : ℕ) (l : List ℕ) → list_any (λ m. eqb m n) l ≡ elem n l
unfolding elem
elem_any n [] = refl
elem_any n (m ∷ l) = ap₂ ◌||◌ (turned (ℕ_discrete m n)) (elem_any n l)
  where
    turned : Dec (m ≡ n) → eqb m n ≡ eqb n m
    turned (yes e) = eq-eqb m n e ∙ sym (eq-eqb n m (sym e))
    turned (no e) = ne_eqb m n e ∙ sym (ne_eqb n m (λ f. e (sym f)))
