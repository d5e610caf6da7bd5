-- Laws of the lines of a plan, part by part as they are written.
use Rattle.std.specs.Prelude.{ℕ, suc, ◌+◌, ◌*◌, ◌≡◌, refl, Bool, true, false, not, cond, eqb, ltb}
use Rattle.std.proofs.Common.{sym, ap, ap₂, ◌∙◌, arith, add-one, lt-ltb, le-ltb, ne_eqb}
use mathlib.Core.List.{List, [], ◌∷◌, ◌++◌, append_assoc, append-nil}
use Rattle.cqf.specs.Plan.{Plan, rate_of, blocking_of, extra_of}
use Rattle.words.specs.Words.{space}
use Rattle.plan_text.specs.Names.{port_word, rate_word, blocker_word, extra_word}
use Rattle.plan_text.specs.Line.{Word}
use Rattle.plan_text.specs.Print.{digits, line_bytes, lines_bytes, lines_to, word_when, line_when, port_line}
use Rattle.text_writing.specs.Puts.{Puts}
use Rattle.text_writing.specs.Bytes.{spaced, number_bytes, pair_bytes, unless_bytes, end_bytes, port_bytes}
use Rattle.text_writing.specs.laws.Bytes.{spaced_append, spaced-pair, line_words, lines_append}
use Rattle.text_writing.specs.laws.Puts.{puts_none, Puts-then, puts_as, puts_few}

-- a number, and a word with its number, before other words
pub spaced-next : (w : Word) (ws : List Word) → spaced (w ∷ ws) ≡ (space ∷ w) ++ spaced ws
unfolding spaced
spaced-next w ws = refl

pub spaced_pair_next : (w : Word) (n : ℕ) (ws : List Word) → spaced (w ∷ digits n ∷ ws) ≡ pair_bytes w n ++ spaced ws
spaced_pair_next w n ws =
    spaced_append (w ∷ digits n ∷ []) ws ∙ ap (λ (l : List ℕ). l ++ spaced ws) (spaced-pair w n)

-- one that is left out where its number stands for its absence
pub spaced-unless : (b : Bool) (w : Word) (n : ℕ) → spaced (word_when (not b) w n) ≡ cond b [] (pair_bytes w n)
unfolding spaced
spaced-unless true w n = refl
spaced-unless false w n = spaced-pair w n

some_not_none : (n : ℕ) → ltb 0 n ≡ not (eqb n 0)
some_not_none ℕ.zero = refl
some_not_none (suc n) = rw (lt-ltb 0 (suc n) (omega arith), ne_eqb (suc n) 0 (λ e. absurd (omega arith)))

pub spaced_some : (w : Word) (n : ℕ) → spaced (word_when (ltb 0 n) w n) ≡ unless_bytes w n 0
spaced_some w n = ap (λ (b : Bool). spaced (word_when b w n)) (some_not_none n) ∙ spaced-unless (eqb n 0) w n

-- the line of a port
glue5 : (w a b c d e : List ℕ) → (w ++ (a ++ (b ++ (c ++ d)))) ++ e ≡ ((((w ++ a) ++ b) ++ c) ++ d) ++ e
glue5 w a b c d e = simp append_assoc

pub port_bytes_lem : (p : Plan) (q : ℕ) → line_bytes (port_line p q) ≡ port_bytes (suc q) (rate_of p q) (blocking_of p q) (extra_of p q)
port_bytes_lem p q =
    let blocker = word_when (ltb 0 (blocking_of p q)) blocker_word (blocking_of p q) in
    let extra = word_when (ltb 0 (extra_of p q)) extra_word (extra_of p q) in
    let more : spaced (blocker ++ extra) ≡ unless_bytes blocker_word (blocking_of p q) 0 ++ unless_bytes extra_word (extra_of p q) 0 =
    spaced_append blocker extra ∙ ap₂ ◌++◌ (spaced_some blocker_word (blocking_of p q)) (spaced_some extra_word (extra_of p q)) in
    let all =
    spaced-next (digits (suc q)) (rate_word ∷ digits (rate_of p q) ∷ (blocker ++ extra))
    ∙ ap (λ (l : List ℕ). number_bytes (suc q) ++ l) (spaced_pair_next rate_word (rate_of p q) (blocker ++ extra) ∙ ap (λ (l : List ℕ). pair_bytes rate_word (rate_of p q) ++ l) more) in
    line_words port_word (digits (suc q) ∷ rate_word ∷ digits (rate_of p q) ∷ (blocker ++ extra))
    ∙ ap (λ (l : List ℕ). (port_word ++ l) ++ end_bytes) all
    ∙ glue5 port_word (number_bytes (suc q)) (pair_bytes rate_word (rate_of p q)) (unless_bytes blocker_word (blocking_of p q) 0) (unless_bytes extra_word (extra_of p q) 0) end_bytes

pub port_written
    : (p : Plan) (q : ℕ) {n blocking extra : ℕ}
    → n ≡ q + 1
    → blocking ≡ blocking_of p q
    → extra ≡ extra_of p q
    → line_bytes (port_line p q) ≡ port_bytes n (rate_of p q) blocking extra
port_written p q number blocks adds = rw (number, blocks, adds, add-one q) (port_bytes_lem p q)

-- a line where a test holds
module _ (l : List Word) {most : ℕ} {buffer : List ℕ} {at : ℕ} where
  pub puts_no_line : (b : Bool) → b ≡ false → Puts most (lines_bytes (line_when b l)) buffer at at buffer
  unfolding lines_bytes
  puts_no_line b fails = rw fails (puts_none buffer at most)

  pub puts_line : (b : Bool) {next : ℕ} {exit : List ℕ} → b ≡ true → Puts most (line_bytes l) buffer at next exit → Puts most (lines_bytes (line_when b l)) buffer at next exit
  unfolding lines_bytes
  puts_line b holds p = rw (holds, append-nil (line_bytes l)) p

-- where a number is not 0
module _ (l : List Word) (n : ℕ) {most : ℕ} {buffer : List ℕ} {at : ℕ} where
  pub puts_empty : n ≡ 0 → Puts most (lines_bytes (line_when (ltb 0 n) l)) buffer at at buffer
  puts_empty z = puts_no_line l (ltb 0 n) (le-ltb 0 n (omega arith))

  pub puts_held
      : {next : ℕ} {exit : List ℕ} {bs : List ℕ}
      → (n ≡ 0 → ⊥)
      → line_bytes l ≡ bs
      → Puts most bs buffer at next exit
      → Puts most (lines_bytes (line_when (ltb 0 n) l)) buffer at next exit
  puts_held some is p = puts_line l (ltb 0 n) (lt-ltb 0 n (omega arith)) (puts_as (sym is) p)

-- the lines of the first slots, and those of one slot more
module _ (of : ℕ → List (List Word)) {buffer : List ℕ} {at : ℕ} where
  pub slots_none : Puts 0 (lines_bytes (lines_to 0 of)) buffer at at buffer
  unfolding lines_to lines_bytes
  slots_none = puts_none buffer at 0

  pub slots_next
      : (most n : ℕ) {mid next : ℕ} {now exit : List ℕ}
      → Puts (n * most) (lines_bytes (lines_to n of)) buffer at mid now
      → Puts most (lines_bytes (of n)) now mid next exit
      → Puts ((n + 1) * most) (lines_bytes (lines_to (n + 1) of)) buffer at next exit
  unfolding lines_to
  slots_next most n p q =
      let both = Puts-then p q in
      let is : lines_bytes (lines_to (n + 1) of) ≡ lines_bytes (lines_to n of) ++ lines_bytes (of n) = rw (add-one n) (lines_append (lines_to n of) (of n)) in
      puts_as (sym is) (puts_few ((n + 1) * most) (omega (arith, both.few)) both)
