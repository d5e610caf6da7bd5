-- Laws of the reading of a route's ports.
use Rattle.std.specs.Prelude.{Some, None, ℕ, ◌+◌, ◌≤◌, ◌≡◌, refl, false, not, ◌||◌, List, [], ◌∷◌, ◌++◌, map, length, take, set}
use Rattle.std.proofs.Common.{sym, ap, ◌∙◌, append-nil, arith, add-one, take-suc-set}
use Rattle.std.proofs.Math.Option.{Option, some, none}
use Rattle.std.proofs.Math.Seq.{append_snoc}
use Rattle.cqf.specs.Limits.{max_hops}
use Rattle.words.specs.Decimal.{decimal_value}
use Rattle.plan_text.specs.Line.{Word, coded, is_number, any_none}
use Rattle.plan_text.specs.Reading.{PortsAs}

none_bad : any_none [] ≡ false
unfolding any_none
none_bad = refl

next_bad : (o : Option ℕ) (os : List (Option ℕ)) → any_none (o ∷ os) ≡ not (is_number o) || any_none os
unfolding any_none
next_bad o os = refl

-- the words so far are read as numbers, and these are left
pub record PortsSoFar (ws : List Word) (route : List ℕ) (count : ℕ) (left : List Word) : Type 0 where
  pub many : count + length left ≡ length ws
  pub lacks : any_none (map decimal_value left) ≡ any_none (map decimal_value ws)
  pub stored : count ≤ max_hops → take count route ++ map coded (map decimal_value left) ≡ map coded (map decimal_value ws)

module _ (ws : List Word) where
  pub ports_none : (route : List ℕ) → PortsSoFar ws route 0 ws
  ports_none route = record { many = omega arith; lacks = refl; stored = λ few. refl }

  module _ (route : List ℕ) (count : ℕ) (left : List Word) (sf : PortsSoFar ws route count left) where
    pub ports_end : left ≡ [] → PortsAs ws route (Some count)
    ports_end e =
        record {
          many = omega (arith, sf.many, ap length e);
          all = sym sf.lacks ∙ ap (λ (l : List Word). any_none (map decimal_value l)) e ∙ none_bad;
          stored =
              λ few.
              sym (append-nil (take count route)) ∙ ap (λ (l : List Word). take count route ++ map coded (map decimal_value l)) (sym e) ∙ sf.stored few;
        }

    module _ (w : Word) (rest : List Word) (e : left ≡ w ∷ rest) where
      pub ports_bad : decimal_value w ≡ none → PortsAs ws route None
      ports_bad is =
          sym sf.lacks
          ∙ ap (λ (l : List Word). any_none (map decimal_value l)) e
          ∙ next_bad (decimal_value w) (map decimal_value rest)
          ∙ ap (λ (o : Option ℕ). not (is_number o) || any_none (map decimal_value rest)) is

      pub ports_more : {value : ℕ} → max_hops ≤ length route → decimal_value w ≡ some value → PortsSoFar ws (set route count value) (count + 1) rest
      ports_more {value} room is =
          record {
            many = omega (arith, sf.many, ap length e);
            lacks =
                sym (ap (λ (l : List Word). any_none (map decimal_value l)) e
                ∙ next_bad (decimal_value w) (map decimal_value rest)
                ∙ ap (λ (o : Option ℕ). not (is_number o) || any_none (map decimal_value rest)) is)
                ∙ sf.lacks;
            stored =
                λ few.
                ap (λ (l : List ℕ). l ++ map coded (map decimal_value rest)) (ap (λ (k : ℕ). take k (set route count value)) (add-one count) ∙ take-suc-set route count value (omega arith))
                ∙ append_snoc (take count route) value (map coded (map decimal_value rest))
                ∙ ap (λ (o : Option ℕ). take count route ++ coded o ∷ map coded (map decimal_value rest)) (sym is)
                ∙ ap (λ (l : List Word). take count route ++ map coded (map decimal_value l)) (sym e)
                ∙ sf.stored (omega arith);
          }
