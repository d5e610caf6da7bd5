-- Laws of bytes of a kind at the front of a text.
use Rattle.std.specs.Prelude.{ℕ, suc, ◌+◌, ◌≤◌, ◌<◌, ◌≡◌, Bool, true, false, cond, List, [], ◌∷◌, length, get_or, drop}
use Rattle.std.proofs.Common.{add-one, arith, drop_of_length-le, length-drop}
use Rattle.std.proofs.Math.Seq.{drop-cons}
use Rattle.words.specs.Run.{run}

-- a text from its i-th byte on
module _ (test : ℕ → Bool) (text : List ℕ) (i : ℕ) where
  pub run_past : length text ≤ i → run test (drop i text) ≡ 0
  unfolding run
  run_past past = rw (drop_of_length-le text {i = i} past)

  pub run-stops : i < length text → test (get_or text i 0) ≡ false → run test (drop i text) ≡ 0
  unfolding run
  run-stops inside e = rw (drop-cons text i 0 inside, e)

  pub run_goes : i < length text → test (get_or text i 0) ≡ true → i + run test (drop i text) ≡ i + 1 + run test (drop (i + 1) text)
  unfolding run
  run_goes inside e = rw (add-one, drop-cons text i 0 inside, e) (omega arith)

pub run_most : (test : ℕ → Bool) (s : List ℕ) → run test s ≤ length s
unfolding run
run_most test [] = omega arith
run_most test (c ∷ s) = go (run_most test s) (test c)
  where
    go : run test s ≤ length s → (b : Bool) → cond b (suc (run test s)) 0 ≤ suc (length s)
    go rest true = omega arith
    go rest false = omega arith

-- the end of the run is within the text, or where it began
pub run-within : (test : ℕ → Bool) (text : List ℕ) (i : ℕ) → i ≤ length text → i + run test (drop i text) ≤ length text
run-within test text i less = omega (arith, run_most test (drop i text), length-drop i text)

-- one byte at the front
pub run_yes : (test : ℕ → Bool) (c : ℕ) (s : List ℕ) → test c ≡ true → run test (c ∷ s) ≡ suc (run test s)
unfolding run
run_yes test c s e = rw e

pub run_no : (test : ℕ → Bool) (c : ℕ) (s : List ℕ) → test c ≡ false → run test (c ∷ s) ≡ 0
unfolding run
run_no test c s e = rw e
