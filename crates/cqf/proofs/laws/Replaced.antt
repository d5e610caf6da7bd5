-- Laws of a list with some of its numbers replaced.
use Rattle.std.specs.Prelude.{◌≡◌, refl, ◌≢◌, Bool, true, false, List, [], ◌∷◌, ℕ, zero, suc, ◌<◌, ℤ, pos, length, get_or, set}
use Rattle.std.proofs.Common.{sym, ap, not-suc-le-zero, le_of_suc-le-suc, arith}
use Rattle.std.proofs.Math.Path.{fun_ext}
use Rattle.cqf.specs.Reprice.{replaced}

-- it is as long
pub replaced_length : (test : ℕ → Bool) (v : ℕ → ℤ) (out : List ℤ) → length (replaced test v out) ≡ length out
unfolding replaced
replaced_length test v [] = refl
replaced_length test v (z ∷ zs) = ap suc (replaced_length (λ q. test (suc q)) (λ q. v (suc q)) zs)

-- number q of it, where the test holds and where it does not
pub replaced_here
    : (test : ℕ → Bool) (v : ℕ → ℤ) (out : List ℤ) (q : ℕ)
    → q < length out
    → test q ≡ true
    → get_or (replaced test v out) q (pos 0) ≡ v q
unfolding replaced
replaced_here test v [] q l e = absurd (not-suc-le-zero l)
replaced_here test v (z ∷ zs) zero l e = rw e
replaced_here test v (z ∷ zs) (suc q) l e = replaced_here (λ q. test (suc q)) (λ q. v (suc q)) zs q (le_of_suc-le-suc l) e

pub replaced_other
    : (test : ℕ → Bool) (v : ℕ → ℤ) (out : List ℤ) (q : ℕ)
    → test q ≡ false
    → get_or (replaced test v out) q (pos 0) ≡ get_or out q (pos 0)
unfolding replaced
replaced_other test v [] q e = refl
replaced_other test v (z ∷ zs) zero e = rw e
replaced_other test v (z ∷ zs) (suc q) e = replaced_other (λ q. test (suc q)) (λ q. v (suc q)) zs q e

-- where no test holds it is the list
pub replaced-none : (test : ℕ → Bool) (v : ℕ → ℤ) (out : List ℤ) → ((q : ℕ) → test q ≡ false) → replaced test v out ≡ out
unfolding replaced
replaced-none test v [] none = refl
replaced-none test v (z ∷ zs) none =
    rw (none 0, replaced-none (λ q. test (suc q)) (λ q. v (suc q)) zs (λ q. none (suc q)))

-- tests that agree give the same list
replaced_same : (test also : ℕ → Bool) (v : ℕ → ℤ) (out : List ℤ) → ((q : ℕ) → also q ≡ test q) → replaced test v out ≡ replaced also v out
replaced_same test also v out same = ap (λ (t : ℕ → Bool). replaced t v out) (sym (fun_ext same))

-- one number more
pub replaced_more
    : (test also : ℕ → Bool) (v : ℕ → ℤ) (out : List ℤ) (i : ℕ)
    → ((q : ℕ) → q ≢ i → also q ≡ test q)
    → also i ≡ true
    → set (replaced test v out) i (v i) ≡ replaced also v out
unfolding replaced
replaced_more test also v [] i same e = refl
replaced_more test also v (z ∷ zs) zero same e =
    rw (e, replaced_same (λ q. test (suc q)) (λ q. also (suc q)) (λ q. v (suc q)) zs (λ q. same (suc q) (λ z. omega arith)))
replaced_more test also v (z ∷ zs) (suc i) same e =
    rw (same 0 (λ z. omega arith), replaced_more (λ q. test (suc q)) (λ q. also (suc q)) (λ q. v (suc q)) zs i (λ q ne. same (suc q) (λ z. ne (omega arith))) e)
