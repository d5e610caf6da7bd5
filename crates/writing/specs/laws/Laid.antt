-- Laws of bytes that are laid into a buffer.
use Rattle.std.specs.Prelude.{ℕ, ◌+◌, ◌-◌, ◌≤◌, ◌<◌, ◌≡◌, List, [], ◌++◌, length, take, drop}
use Rattle.std.proofs.Common.{sym, ap, ap₂, ◌∙◌, append_assoc, append-nil, arith, le-leb, length-append, length-drop, drop_of_length-le, take_at, drop_at, take_all, drop-drop}
use Rattle.std.proofs.lemmas.Bool.{lt-leb}
use borrow.Rule.Slice.PartMut.{mid_of, put_mid, mid_len}
use Rattle.writing.specs.Laid.{over, laid, Puts}

-- where there is room, and where there is none
pub laid-over : (bs buffer : List ℕ) → length bs ≤ length buffer → laid bs buffer ≡ over bs buffer
unfolding laid
laid-over bs buffer room = rw (le-leb (length bs) (length buffer) room)

pub laid_short : (bs buffer : List ℕ) → length buffer < length bs → laid bs buffer ≡ buffer
unfolding laid
laid_short bs buffer short = rw (lt-leb (length bs) (length buffer) short)

pub laid_none : (buffer : List ℕ) → laid [] buffer ≡ buffer
laid_none buffer = laid-over [] buffer (omega arith)

pub over_length : (bs buffer : List ℕ) → length bs ≤ length buffer → length (over bs buffer) ≡ length buffer
over_length bs buffer room = simp (length-append, length-drop) (omega arith)

-- bytes laid behind those that are there already, into the part of the buffer that is lent from there on
pub lay_next
    : (done bs entry : List ℕ) (n : ℕ) {now last : List ℕ}
    → length done ≡ n
    → now ≡ over done entry
    → n + length bs ≤ length entry
    → last ≡ laid bs (mid_of n (length now - n) now)
    → put_mid n (length now - n) now last ≡ over (done ++ bs) entry
lay_next done bs entry n {now} {last} at is room written =
    let rest = drop (length done) entry in
    let front : take n now ≡ done = ap (take n) is ∙ take_at done rest n at in
    let behind : drop n now ≡ drop n entry = ap (drop n) is ∙ drop_at done rest n at ∙ ap (λ (m : ℕ). drop m entry) at in
    let left : length (drop n now) ≡ length now - n = length-drop n now in
    let lent : mid_of n (length now - n) now ≡ drop n entry = take_all (length now - n) (drop n now) (omega arith) ∙ behind in
    let none : drop (length now - n) (drop n now) ≡ [] = drop_of_length-le (drop n now) {i = length now - n} (omega arith) in
    let both : n + length bs ≡ length (done ++ bs) = omega (arith, length-append done bs) in
    let laid-there : last ≡ bs ++ drop (length (done ++ bs)) entry =
    written
    ∙ ap (laid bs) lent
    ∙ laid-over bs (drop n entry) (omega (arith, length-drop n entry))
    ∙ ap (λ (l : List ℕ). bs ++ l) (drop-drop (length bs) n entry ∙ ap (λ (m : ℕ). drop m entry) both) in
    ap₂ ◌++◌ front (ap₂ ◌++◌ laid-there none ∙ append-nil (bs ++ drop (length (done ++ bs)) entry))
    ∙ sym (append_assoc done bs (drop (length (done ++ bs)) entry))

-- the same, with how many bytes are there
pub puts_next
    : (done bs entry : List ℕ) (n m : ℕ) {now last : List ℕ}
    → Puts done entry n now
    → n + length bs ≤ length entry
    → m ≡ length bs
    → last ≡ laid bs (mid_of n (length now - n) now)
    → Puts (done ++ bs) entry (n + m) (put_mid n (length now - n) now last)
puts_next done bs entry n m there room size written =
    record {
      size = omega (arith, there.size, length-append done bs);
      bytes = lay_next done bs entry n (sym there.size) there.bytes room written;
    }

-- the same of bytes that were put there
pub puts_more
    : (done bs entry : List ℕ) (n m : ℕ) {now last : List ℕ}
    → Puts done entry n now
    → n + length bs ≤ length entry
    → Puts bs (mid_of n (length now - n) now) m last
    → Puts (done ++ bs) entry (n + m) (put_mid n (length now - n) now last)
puts_more done bs entry n m {now} there room put =
    let size : length now ≡ length entry = ap length there.bytes ∙ over_length done entry (omega (arith, there.size)) in
    let lent : length (mid_of n (length now - n) now) ≡ length now - n = mid_len n (length now) now (omega arith) in
    puts_next done bs entry n m there room put.size
    (put.bytes ∙ sym (laid-over bs (mid_of n (length now - n) now) (omega arith)))
