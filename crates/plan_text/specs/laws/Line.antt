-- Laws of the reading of one number of a line.
use Rattle.std.specs.Prelude.{Some, None, ℕ, ◌-◌, ◌≤◌, ◌<◌, ◌≡◌, refl, Bool, true, false, cond, List, [], ◌∷◌, eqb, length, take, drop}
use Rattle.std.proofs.Common.{sym, ap, ap₂, subst, ◌∙◌, arith, ne_eqb, eqb-true, length-take}
use Rattle.std.proofs.Math.Option.{Option, some, none}
use Rattle.std.proofs.Math.Decide.{dec_lt}
use Rattle.words.specs.Words.{words}
use Rattle.words.specs.Decimal.{largest, digits_value, capped, capped_option, decimal_value}
use Rattle.words.specs.Sizes.{WordAt}
use Rattle.words.specs.laws.Words.{word_there, word_missing, word_within, none-behind}
use Rattle.words.specs.laws.Decimal.{capped_most, value_empty, value-same}
use Rattle.words.specs.Words.{same_bytes}
use Rattle.plan_text.specs.Line.{Word, coded, no_number, number_in, rest, given, wrong, with, match}
use Rattle.plan_text.specs.Grammar.{is_own, word_of, absent_of}
use Rattle.plan_text.specs.Kinds.{items}
use Rattle.plan_text.specs.declared.grammar.Item.{Item}
use Rattle.plan_text.specs.declared.grammar.Kind.{Kind}
use Rattle.plan_text.specs.declared.line.Number.{Number}
use Rattle.plan_text.specs.Reading.{decoded, NumberAt, ItemAt, ItemRead, most_numbers}

-- a number as the code has it is the number: what is read from a word is never as large as what stands for none
decoded-none : decoded no_number ≡ none
decoded-none = refl

pub decoded_some : (n : ℕ) → (n ≡ no_number → ⊥) → decoded n ≡ some n
decoded_some n more = rw (ne_eqb n no_number more)

pub coded-decoded : (n : ℕ) → coded (decoded n) ≡ n
coded-decoded n = go (eqb n no_number) refl
  where
    go : (b : Bool) → eqb n no_number ≡ b → coded (cond b none (some n)) ≡ n
    go true e = sym (eqb-true n no_number e)
    go false e = refl

pub decoded_value : (w : Word) → decoded (coded (decimal_value w)) ≡ decimal_value w
unfolding decimal_value
decoded_value w = go (digits_value w)
  where
    go : (o : Option ℕ) → decoded (coded (capped_option o)) ≡ capped_option o
    go (some n) = decoded_some (capped n) (λ e. omega (arith, capped_most largest n))
    go none = decoded-none

-- the word that was found at a position, as a number: it may be empty, at the end of the line
pub number_there
    : (line : List ℕ) (at : ℕ) {start end value : ℕ}
    → at ≤ length line
    → WordAt line at start end
    → value ≡ coded (decimal_value (take (end - start) (drop start line)))
    → NumberAt line (words (drop at line)) (record { value = value; next = end })
number_there line at {start} {end} {value} inside w e = go (dec_lt start end)
  where
    word : Word
    word = take (end - start) (drop start line)

    go : Dec (start < end) → NumberAt line (words (drop at line)) (record { value = value; next = end })
    go (yes more) =
        rw (word_there line at w more)
        (record { within = word_within line at w inside; number = ap decoded e ∙ decoded_value word; left = refl })
    go (no none-there) =
        let none' : end ≤ start = omega arith in
        let empty : length word ≡ 0 = simp length-take (omega arith) in
        rw (word_missing line at w none')
        (record {
          within = word_within line at w inside;
          number = ap decoded (e ∙ ap coded (sym (value-same word) ∙ value_empty largest word empty)) ∙ decoded-none;
          left = none-behind line at w none';
        })

-- whether the word before a number stands at a position
module _ (x : Item) (ws : List Word) where
  given-own : is_own x ≡ true → given x ws ≡ some ws
  given-own e = rw e

  given-none : is_own x ≡ false → ws ≡ [] → given x ws ≡ none
  given-none e f = rw (e, f)

  given_word : {w : Word} {vs : List Word} → is_own x ≡ false → ws ≡ w ∷ vs → same_bytes w (word_of x) ≡ true → given x ws ≡ some vs
  given_word {w} {vs} e f s = rw (e, f) (rw s)

  given_other : {w : Word} {vs : List Word} → is_own x ≡ false → ws ≡ w ∷ vs → same_bytes w (word_of x) ≡ false → given x ws ≡ none
  given_other {w} {vs} e f s = rw (e, f) (rw s)

  module _ (line : List ℕ) where
    pub item_own : {n : Number} → is_own x ≡ true → NumberAt line ws n → ItemAt x line ws (Some n)
    item_own e n = (ws, given-own e, n)

    pub item_none : is_own x ≡ false → ws ≡ [] → ItemAt x line ws None
    item_none e f = given-none e f

    pub item_word : {w : Word} {vs : List Word} {n : Number} → is_own x ≡ false → ws ≡ w ∷ vs → same_bytes w (word_of x) ≡ true → NumberAt line vs n → ItemAt x line ws (Some n)
    item_word {vs = vs} e f s n = (vs, given_word e f s, n)

    pub item_other : {w : Word} {vs : List Word} → is_own x ≡ false → ws ≡ w ∷ vs → same_bytes w (word_of x) ≡ false → ItemAt x line ws None
    item_other e f s = given_other e f s

-- a number that is left out is 0 or 1
abbrev Small : Option ℕ → Type 0
Small (some n) = n ≤ 1
Small none = Unit {0}

absent_small : (x : Item) → Small (absent_of x)
absent_small Item.Guard = tt
absent_small Item.Top = tt
absent_small Item.Port = tt
absent_small Item.Rate = tt
absent_small Item.Blocker = omega arith
absent_small Item.Extra = omega arith
absent_small Item.Flow = tt
absent_small Item.Period = tt
absent_small Item.Count = omega arith
absent_small Item.Length = tt
absent_small Item.Jitter = omega arith
absent_small Item.Drift = tt
absent_small Item.Timing = tt
absent_small Item.Sync = tt
absent_small Item.Format = tt
absent_small Item.Route = tt
absent_small Item.Hops = tt
absent_small Item.First = tt
absent_small Item.End = tt

-- one number more
module _ (x : Item) (ws : List Word) (xs : List Item) where
  match-given : (vs : List Word) → given x ws ≡ some vs → match (x ∷ xs) ws ≡ with (number_in vs) (match xs (rest vs))
  unfolding match
  match-given vs e = rw e

  match_absent : (n : ℕ) → given x ws ≡ none → absent_of x ≡ some n → match (x ∷ xs) ws ≡ with (some n) (match xs ws)
  unfolding match
  match_absent n e f = rw (e, f)

  match_wrong : given x ws ≡ none → absent_of x ≡ none → match (x ∷ xs) ws ≡ wrong x
  unfolding match
  match_wrong e f = rw (e, f)

module _ (x : Item) (line : List ℕ) (ws : List Word) where
  pub read_there : {n : Number} → ItemAt x line ws (Some n) → ItemRead x line ws (Some n)
  read_there at =
      let (vs, e, n) = at in
      record {
        within = n.within;
        reads = λ xs. match-given x ws xs vs e ∙ ap₂ (λ (o : Option ℕ) (l : List Word). with o (match xs l)) (sym n.number) (sym n.left);
      }

  pub read_wrong : ItemAt x line ws None → absent_of x ≡ none → ItemRead x line ws None
  read_wrong at e xs = match_wrong x ws xs at e

pub read_absent : (x : Item) (line : List ℕ) (at : ℕ) {v : ℕ} → at ≤ length line → ItemAt x line (words (drop at line)) None → absent_of x ≡ some v → ItemRead x line (words (drop at line)) (Some (record { value = v; next = at }))
read_absent x line at {v} inside left e =
    let small : v ≤ 1 = subst Small e (absent_small x) in
    record {
      within = inside;
      reads =
          λ xs.
          match_absent x (words (drop at line)) xs v left e ∙ ap (λ (o : Option ℕ). with o (match xs (words (drop at line)))) (sym (decoded_some v (λ f. omega arith)));
    }

-- no line has more numbers
pub items_most : (k : Kind) → length (items k) ≤ most_numbers
items_most Kind.Guard = omega arith
items_most Kind.Top = omega arith
items_most Kind.Port = omega arith
items_most Kind.Flow = omega arith
items_most Kind.Clocks = omega arith
items_most Kind.Format = omega arith
items_most Kind.Other = omega arith
