-- Laws of what a call that writes answers.
use Rattle.std.specs.Prelude.{ℕ, ◌≤◌, ◌≡◌, refl, Bool, true, false, cond, List, [], ◌∷◌, leb, length, take, drop}
use Rattle.std.proofs.Common.{sym, ◌∙◌, arith, leb-true, take_at, drop_at}
use Rattle.answers.specs.Answer.{result, refusal}
use Rattle.answers.specs.Refusals.{short_buffer}
use Rattle.writing.specs.Laid.{laid}
use Rattle.writing.specs.Answer.{written_answer}
use Rattle.writing.specs.laws.Laid.{laid-over}

-- so many bytes, and a buffer that has room for them
pub record Fits (bs buffer : List ℕ) (n : ℕ) : Type 0 where
  pub size : n ≡ length bs
  pub room : n ≤ length buffer

pub written_fits : (bs buffer : List ℕ) (n : ℕ) → written_answer bs buffer ≡ result n → Fits bs buffer n
written_fits bs buffer n e = go (leb (length bs) (length buffer)) refl e
  where
    go
        : (b : Bool)
        → leb (length bs) (length buffer) ≡ b
        → cond b (result (length bs)) (refusal short_buffer (length bs ∷ [])) ≡ result n
        → Fits bs buffer n
    go true l h =
        let same : length bs ≡ n = cc in
        record { size = sym same; room = omega (arith, leb-true (length bs) (length buffer) l) }
    go false l h = let z : ◌≡◌ {A = ℕ} 0 1 = cc in absurd (omega arith)

-- the first bytes are those that are written, the others as they were
module _ (bs buffer : List ℕ) (n : ℕ) (e : written_answer bs buffer ≡ result n) where
  pub written_size : n ≡ length bs
  written_size = (written_fits bs buffer n e).size

  pub written_front : take n (laid bs buffer) ≡ bs
  written_front =
      let f = written_fits bs buffer n e in
      rw (laid-over bs buffer (omega (arith, f.size, f.room))) (take_at bs (drop (length bs) buffer) n (sym f.size))

  pub written_rest : drop n (laid bs buffer) ≡ drop n buffer
  written_rest =
      let f = written_fits bs buffer n e in
      rw (laid-over bs buffer (omega (arith, f.size, f.room))) (drop_at bs (drop (length bs) buffer) n (sym f.size) ∙ rw f.size)
