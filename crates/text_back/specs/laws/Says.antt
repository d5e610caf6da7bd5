-- What each line of a text as it is written says.
use Rattle.std.specs.Prelude.{ℕ, suc, ◌≤◌, ◌≡◌, refl, Bool, true, false, ◌&&◌, List, [], ◌∷◌, map, leb, ltb, length}
use Rattle.std.proofs.Common.{ap, ap₂, ◌∙◌, arith, le-ltb}
use Rattle.std.proofs.Math.Bool.{and-eq-true_iff}
use Rattle.std.proofs.Math.Option.{Option, some, none}
use Rattle.cqf.specs.Bounded.{every}
use Rattle.cqf.specs.Form.{Form, most_hops_in}
use Rattle.cqf.specs.Limits.{port_slots, port_ok}
use Rattle.words.specs.Decimal.{decimal_value}
use Rattle.plan_reading.specs.laws.fields.Within.{within_high}
use Rattle.plan_text.specs.Kinds.{items, is_routed, is_other, kind_in}
use Rattle.plan_text.specs.Line.{Word, says, coded, matched, match, first_failing, any_none, number_test, range_test, port_test, port_words, numbers_in, ranges_in, words_by, kindly, line_of}
use Rattle.plan_text.specs.Print.{digits}
use Rattle.plan_text.specs.declared.grammar.Kind.{Kind}
use Rattle.text_back.specs.laws.Digits.{digits_value}

-- none fails
passes_none : {A : Type 0} (t : ℕ → A → Bool) → first_failing t [] ≡ 0
unfolding first_failing
passes_none t = refl

passes-next : {A : Type 0} (t : ℕ → A → Bool) (x : A) (xs : List A) → t 0 x ≡ true → first_failing (λ i. t (suc i)) xs ≡ length xs → first_failing t (x ∷ xs) ≡ suc (length xs)
unfolding first_failing
passes-next t x xs e f = rw e (ap suc f)

-- each passes its own test
abbrev pub Passing : (ℕ → ℕ → Bool) → List ℕ → Type 0
Passing t [] = Unit {0}
Passing t (n ∷ ns) = (t 0 n ≡ true) × Passing (λ i. t (suc i)) ns

pub passing : (t : ℕ → ℕ → Bool) (ns : List ℕ) → Passing t ns → first_failing t ns ≡ length ns
passing t [] a = passes_none t
passing t (n ∷ ns) a = passes-next t n ns a.0 (passing (λ i. t (suc i)) ns a.1)

numbers_pass : (ns : List ℕ) → first_failing number_test (map some ns) ≡ length (map some ns)
numbers_pass [] = passes_none number_test
numbers_pass (n ∷ ns) = passes-next number_test (some n) (map some ns) refl (numbers_pass ns)

ports_pass : (r : List ℕ) → every port_ok r ≡ true → first_failing port_test r ≡ length r
unfolding every
ports_pass [] e = passes_none port_test
ports_pass (n ∷ r) e =
    let t = (and-eq-true_iff (port_ok n) (every port_ok r)).0 e in
    passes-next port_test n r t.0 (ports_pass r t.1)

-- numbers as they are read
all_numbers : (r : List ℕ) → any_none (map some r) ≡ false
unfolding any_none
all_numbers [] = refl
all_numbers (n ∷ r) = all_numbers r

all_coded : (ns : List ℕ) → map coded (map some ns) ≡ ns
all_coded [] = refl
all_coded (n ∷ ns) = ap (λ (l : List ℕ). n ∷ l) (all_coded ns)

-- the words of a route
pub route_values : (r : List ℕ) → every port_ok r ≡ true → map decimal_value (map digits r) ≡ map some r
unfolding every
route_values [] e = refl
route_values (n ∷ r) e =
    let t = (and-eq-true_iff (port_ok n) (every port_ok r)).0 e in
    ap₂ ◌∷◌ (digits_value n (omega (arith, within_high 1 port_slots n t.0))) (route_values r t.1)

not_below : (a b : ℕ) → a ≡ b → ltb a b ≡ false
not_below a b e = le-ltb a b (omega arith)

-- a line whose numbers and whose route are in range
module _ (form : Form) (kind : Kind) (ns r : List ℕ) where
  ranges_say
      : Passing (range_test kind) ns
      → length r ≤ most_hops_in form
      → every port_ok r ≡ true
      → ranges_in form kind ns r ≡ says kind ns r
  ranges_say in_range few ports =
      let a : ltb (first_failing (range_test kind) ns) (length ns) ≡ false = not_below _ _ (passing (range_test kind) ns in_range) in
      let b : ltb (most_hops_in form) (length r) ≡ false = le-ltb _ _ few in
      let c : ltb (first_failing port_test r) (length r) ≡ false = not_below _ _ (ports_pass r ports) in
      rw (a, b, c)

  pub numbers_say
      : Passing (range_test kind) ns
      → length r ≤ most_hops_in form
      → every port_ok r ≡ true
      → (is_routed kind && leb (length (map some r)) 0) ≡ false
      → numbers_in form kind (map some ns) (map some r) ≡ says kind ns r
  numbers_say in_range few ports routed =
      let a : ltb (first_failing number_test (map some ns)) (length (map some ns)) ≡ false = not_below _ _ (numbers_pass ns) in
      rw (a, routed, all_numbers r) (ap₂ (ranges_in form kind) (all_coded ns) (all_coded r) ∙ ranges_say in_range few ports)

-- a line by its first word and its numbers
pub kind_line
    : (form : Form) (begun : Bool) (w : Word) (ws : List Word) (kind : Kind) (ns : List (Option ℕ)) (vs : List Word)
    → kind_in begun w ≡ kind
    → is_other kind ≡ false
    → match (items kind) ws ≡ matched ns vs
    → line_of form begun (w ∷ ws) ≡ words_by form kind ns (port_words kind vs)
unfolding line_of kindly
kind_line form begun w ws kind ns vs e other m = rw (e, other, m)

-- a line without a route
pub plain_line
    : (form : Form) (begun : Bool) (w : Word) (ws : List Word) (kind : Kind) (ns : List ℕ)
    → kind_in begun w ≡ kind
    → is_other kind ≡ false
    → is_routed kind ≡ false
    → match (items kind) ws ≡ matched (map some ns) []
    → Passing (range_test kind) ns
    → line_of form begun (w ∷ ws) ≡ says kind ns []
unfolding every
plain_line form begun w ws kind ns e other routed m in_range =
    kind_line form begun w ws kind (map some ns) [] e other m
    ∙ rw routed (numbers_say form kind ns [] in_range (omega arith) refl (rw routed))
