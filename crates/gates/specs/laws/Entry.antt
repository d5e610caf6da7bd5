-- The law of a field's interval, read in two halves.
use Rattle.std.specs.Prelude.{ℕ, ◌+◌, ◌-◌, ◌*◌, ◌≡◌, List, length, get_or, take, drop}
use Rattle.std.proofs.Common.{ap, ap₂, ◌∙◌, arith, length-drop, get_or-drop, take_all}
use Rattle.plan.specs.Bytes.{number2, number4}
use Rattle.gate_lists.specs.Playing.{first_interval}

number2_drop : (s : List ℕ) (k : ℕ) → number2 (drop k s) 0 ≡ number2 s k
unfolding number2
number2_drop s k =
    let high : k + 0 ≡ k = omega arith in
    let low : k + (0 + 1) ≡ k + 1 = omega arith in
    ap₂ (λ (a b : ℕ). a * 256 + b) (get_or-drop k s 0 0 ∙ ap (λ (i : ℕ). get_or s i 0) high)
    (get_or-drop k s (0 + 1) 0 ∙ ap (λ (i : ℕ). get_or s i 0) low)

-- the part of the bytes from k on
abbrev part : List ℕ → ℕ → List ℕ
part s k = take (length s - k) (drop k s)

number2-part : (s : List ℕ) (k : ℕ) → number2 (part s k) 0 ≡ number2 s k
number2-part s k =
    let left : length (drop k s) ≡ length s - k = length-drop k s in
    ap (λ (l : List ℕ). number2 l 0) (take_all (length s - k) (drop k s) (omega arith)) ∙ number2_drop s k

pub halves : (s : List ℕ) → number2 (part s 4) 0 * 65536 + number2 (part s 6) 0 ≡ first_interval s
unfolding number4
halves s = ap₂ (λ (a b : ℕ). a * 65536 + b) (number2-part s 4) (number2-part s 6)
