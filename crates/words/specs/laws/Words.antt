-- Laws of the words of a line.
use Rattle.std.specs.Prelude.{ℕ, suc, ◌-◌, ◌≤◌, ◌<◌, ◌≡◌, refl, Bool, true, false, not, cond, ◌&&◌, List, [], ◌∷◌, eqb, length, take, drop}
use Rattle.std.proofs.Common.{sym, ap, ap₂, ◌∙◌, arith, drop-drop}
use Rattle.std.specs.Cmp.Lexicographic.{pointwise}
use Rattle.words.specs.Run.{run, begins, on_first}
use Rattle.words.specs.Words.{is_blank, is_in_word, words, same_bytes}
use Rattle.words.specs.laws.Run.{run_yes, run_no, run_most, run-within}
use Rattle.words.specs.Sizes.{WordAt}

-- blanks in front say nothing
pub blanks_nothing : (s : List ℕ) → words s ≡ words (drop (run is_blank s) s)
unfolding words run
blanks_nothing [] = refl
blanks_nothing (c ∷ s) = go (blanks_nothing s) (is_blank c) refl
  where
    go : words s ≡ words (drop (run is_blank s) s) → (b : Bool) → is_blank c ≡ b → words (c ∷ s) ≡ words (drop (cond b (suc (run is_blank s)) 0) (c ∷ s))
    go ih true e = rw e ih
    go ih false e = refl

-- behind them is the end or a word
pub past_blanks : (s : List ℕ) → begins is_blank (drop (run is_blank s) s) ≡ false
unfolding run
past_blanks [] = refl
past_blanks (c ∷ s) = go (past_blanks s) (is_blank c) refl
  where
    go : begins is_blank (drop (run is_blank s) s) ≡ false → (b : Bool) → is_blank c ≡ b → begins is_blank (drop (cond b (suc (run is_blank s)) 0) (c ∷ s)) ≡ false
    go ih true e = ih
    go ih false e = e

-- one byte at the front
module _ (c : ℕ) (s : List ℕ) where
  words_alone : is_blank c ≡ false → begins is_blank s ≡ true → words (c ∷ s) ≡ (c ∷ []) ∷ words s
  unfolding words
  words_alone e f = rw (e, f)

  words_on : is_blank c ≡ false → begins is_blank s ≡ false → words (c ∷ s) ≡ on_first c (words s)
  unfolding words
  words_on e f = rw (e, f)

-- a word at the front
abbrev Front : List ℕ → Type 0
Front s = words s ≡ take (run is_in_word s) s ∷ words (drop (run is_in_word s) s)

pub first_word : (c : ℕ) (s : List ℕ) → is_blank c ≡ false → Front (c ∷ s)
unfolding words run
first_word c [] e = rw e
first_word c (d ∷ s) e = go (first_word d s) (is_blank d) refl
  where
    go : (is_blank d ≡ false → Front (d ∷ s)) → (b : Bool) → is_blank d ≡ b → Front (c ∷ (d ∷ s))
    go ih true f = rw (words_alone c (d ∷ s) e f, run_yes is_in_word c (d ∷ s) (ap not e), run_no is_in_word d s (ap not f)) refl
    go ih false f = rw (words_on c (d ∷ s) e f, run_yes is_in_word c (d ∷ s) (ap not e), ih f) refl

-- what the library's test of two texts says
pub same_pointwise : (s t : List ℕ) → pointwise eqb s t ≡ same_bytes s t
unfolding same_bytes
same_pointwise [] [] = refl
same_pointwise [] (d ∷ t) = refl
same_pointwise (c ∷ s) [] = refl
same_pointwise (c ∷ s) (d ∷ t) = ap (λ (b : Bool). eqb c d && b) (same_pointwise s t)

-- a text whose first byte, if it has one, begins a word
front_word : (s : List ℕ) → begins is_blank s ≡ false → 0 < length s → Front s × (0 < run is_in_word s)
front_word [] e more = absurd (omega arith)
front_word (c ∷ s) e more = (first_word c s e, omega (arith, run_yes is_in_word c s (ap not e)))

no_words : words [] ≡ []
unfolding words
no_words = refl

-- the words from a position on: the one there, and those behind it; none where there is none
module _ (line : List ℕ) (at : ℕ) {start end : ℕ} (w : WordAt line at start end) where
  from_start : words (drop at line) ≡ words (drop start line)
  from_start =
      blanks_nothing (drop at line)
      ∙ ap words (drop-drop (run is_blank (drop at line)) at line ∙ ap (λ (n : ℕ). drop n line) (sym w.begins))

  no_blank : begins is_blank (drop start line) ≡ false
  no_blank =
      ap (begins is_blank) (sym (drop-drop (run is_blank (drop at line)) at line ∙ ap (λ (n : ℕ). drop n line) (sym w.begins)))
      ∙ past_blanks (drop at line)

  pub word_there : start < end → words (drop at line) ≡ take (end - start) (drop start line) ∷ words (drop end line)
  word_there more =
      let some : 0 < length (drop start line) = omega (arith, w.ends, run_most is_in_word (drop start line)) in
      let size : run is_in_word (drop start line) ≡ end - start = omega (arith, w.ends) in
      let behind : drop (run is_in_word (drop start line)) (drop start line) ≡ drop end line = drop-drop (run is_in_word (drop start line)) start line ∙ ap (λ (n : ℕ). drop n line) (sym w.ends) in
      from_start
      ∙ (front_word (drop start line) no_blank some).0
      ∙ ap₂ ◌∷◌ (ap (λ (n : ℕ). take n (drop start line)) size) (ap words behind)

  pub word_missing : end ≤ start → words (drop at line) ≡ []
  word_missing none = from_start ∙ go (drop start line) refl no_blank
    where
      go : (s : List ℕ) → drop start line ≡ s → begins is_blank s ≡ false → words s ≡ []
      go [] e f = no_words
      go (c ∷ s) e f = absurd (omega (arith, w.ends, ap (run is_in_word) e, run_yes is_in_word c s (ap not f)))

  pub none-behind : end ≤ start → words (drop end line) ≡ []
  none-behind none = let e : end ≡ start = omega (arith, w.ends) in rw e (sym from_start ∙ word_missing none)

  -- it lies within the line
  pub word_within : at ≤ length line → end ≤ length line
  word_within inside =
      omega (arith, w.begins, w.ends, run-within is_blank line at inside, run-within is_in_word line start (omega (arith, w.begins, run-within is_blank line at inside)))

  pub word_order : (at ≤ start) × (start ≤ end)
  word_order = (omega (arith, w.begins), omega (arith, w.ends))
