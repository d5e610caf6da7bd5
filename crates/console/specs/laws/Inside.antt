-- What a converter wrote lies within so many bytes where its result does.
use Rattle.std.specs.Prelude.{ℕ, ◌≤◌, ◌≡◌, List, length, Result, Ok, Err}
use Rattle.std.proofs.Common.{sym, subst}
use Rattle.answers.specs.Answer.{Answer, result}
use Rattle.converting.specs.Answer.{convert_of}
use Rattle.converting.specs.declared.ConvertRefusal.{ConvertRefusal}
use Rattle.console.specs.{Inside}

pub inside
    : (x : Result ℕ ConvertRefusal) (exit : List ℕ) {answer : Answer ℕ} {leaves : List ℕ}
    → (convert_of x ≡ answer) × (exit ≡ leaves)
    → ((n : ℕ) → answer ≡ result n → n ≤ length leaves)
    → Inside (length exit) x
inside (Ok n) exit e room = subst (λ (l : List ℕ). n ≤ length l) (sym e.1) (room n (sym e.0))
inside (Err refusal) exit e room = tt
