-- Laws of bytes that are written from a position on.
use Rattle.std.specs.Prelude.{ℕ, suc, ◌+◌, ◌≤◌, ◌<◌, ◌≡◌, refl, List, [], ◌∷◌, ◌++◌, length, take, drop, set, get_or}
use Rattle.std.proofs.Common.{sym, ap, ◌∙◌, arith, add-one, length-append, take-suc, take_all}
use Rattle.std.proofs.lemmas.List.Edits.{sets, sets-eq}
use Rattle.std.proofs.Math.Seq.{set_out}
use Rattle.writing.specs.Laid.{over}
use Rattle.text_writing.specs.Puts.{over_from, Puts}

-- some, and others behind them
sets_append : (fs bs l : List ℕ) (i : ℕ) → sets l i (fs ++ bs) ≡ sets (sets l i fs) (i + length fs) bs
sets_append [] bs l i = ap (λ (k : ℕ). sets l k bs) (omega arith)
sets_append (a ∷ fs) bs l i = sets_append fs bs (set l i a) (suc i) ∙ ap (λ (k : ℕ). sets (sets (set l i a) (suc i) fs) k bs) (omega arith)

-- none
pub puts_none : (buffer : List ℕ) (at most : ℕ) → Puts most [] buffer at at buffer
unfolding over_from
puts_none buffer at most = record { size = omega arith; few = omega arith; bytes = refl }

-- one byte, where there is room and where there is none
pub puts_one : (buffer : List ℕ) (at b : ℕ) → Puts 1 (b ∷ []) buffer at (at + 1) (set buffer at b)
unfolding over_from
puts_one buffer at b = record { size = refl; few = omega arith; bytes = refl }

pub puts_out : (buffer : List ℕ) (at b : ℕ) → length buffer ≤ at → Puts 1 (b ∷ []) buffer at (at + 1) buffer
unfolding over_from
puts_out buffer at b out = record { size = refl; few = omega arith; bytes = sym (set_out buffer at b out) }

-- bytes behind others
pub Puts-then
    : {m k : ℕ} {fs bs buffer now exit : List ℕ} {at mid next : ℕ}
    → Puts m fs buffer at mid now
    → Puts k bs now mid next exit
    → Puts (m + k) (fs ++ bs) buffer at next exit
unfolding over_from
Puts-then {m} {k} {fs} {bs} {buffer} {now} {exit} {at} {mid} {next} p q =
    let more = length-append fs bs in
    record {
      size = omega (arith, p.size, q.size, more);
      few = omega (arith, p.few, q.few, more);
      bytes = q.bytes ∙ rw (p.bytes, p.size) (sym (sets_append fs bs buffer at));
    }

-- the same bytes, and a bound for them
pub puts_as : {m : ℕ} {fs bs buffer exit : List ℕ} {at next : ℕ} → fs ≡ bs → Puts m fs buffer at next exit → Puts m bs buffer at next exit
puts_as e p = rw e at p

pub puts_few : {m : ℕ} (k : ℕ) {bs buffer exit : List ℕ} {at next : ℕ} → length bs ≤ k → Puts m bs buffer at next exit → Puts k bs buffer at next exit
puts_few k l p = record { size = p.size; few = l; bytes = p.bytes }

-- from the front: how many they are
pub puts_size : {m : ℕ} {bs buffer exit : List ℕ} {next : ℕ} → Puts m bs buffer 0 next exit → next ≡ length bs
puts_size p = omega (arith, p.size)

-- from the front of a buffer that has room for all
pub puts_over : {m : ℕ} {bs buffer exit : List ℕ} {next : ℕ} → Puts m bs buffer 0 next exit → length bs ≤ length buffer → exit ≡ over bs buffer
unfolding over_from
puts_over {m} {bs} {buffer} p room =
    let all : 0 + length bs ≡ length bs = omega arith in
    p.bytes ∙ sets-eq bs buffer 0 (omega arith) ∙ ap (λ (k : ℕ). bs ++ drop k buffer) all

-- the first bytes of a list, one more of them, and all of them
pub puts_front
    : (bs : List ℕ) (i : ℕ) {buffer now exit : List ℕ} {at mid next : ℕ}
    → i < length bs
    → Puts i (take i bs) buffer at mid now
    → Puts 1 (get_or bs i 0 ∷ []) now mid next exit
    → Puts (i + 1) (take (i + 1) bs) buffer at next exit
puts_front bs i l p q = puts_as (sym (take-suc bs i 0 l) ∙ ap (λ (k : ℕ). take k bs) (sym (add-one i))) (Puts-then p q)

pub puts_all
    : (bs : List ℕ) (i : ℕ) {buffer exit : List ℕ} {at next : ℕ}
    → i ≡ length bs
    → Puts i (take i bs) buffer at next exit
    → Puts (length bs) bs buffer at next exit
puts_all bs i all p = puts_few (length bs) (omega arith) (puts_as (take_all i bs (omega arith)) p)
