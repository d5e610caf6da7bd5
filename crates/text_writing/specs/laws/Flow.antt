-- Laws of the line of a flow.
use Rattle.std.specs.Prelude.{ℕ, suc, ◌+◌, ◌*◌, ◌<◌, ◌≡◌, not, List, [], ◌∷◌, ◌++◌, map, eqb, ltb, length, get_or, take}
use Rattle.std.proofs.Common.{sym, ap, ap₂, ◌∙◌, append_assoc, arith, add-one, take-suc, take_all}
use Rattle.std.proofs.lemmas.List.{map-append}
use Rattle.cqf.specs.Plan.{Plan, period_of, count_of, length_of, jitter_of, route_of}
use Rattle.words.specs.Words.{space}
use Rattle.plan_text.specs.Names.{flow_word, period_word, count_word, length_word, jitter_word, route_word}
use Rattle.plan_text.specs.Print.{digits, line_bytes, word_when, flow_line}
use Rattle.text_writing.specs.Puts.{Puts}
use Rattle.text_writing.specs.Bytes.{spaced, number_bytes, pair_bytes, unless_bytes, end_bytes, flow_bytes, most_hop}
use Rattle.text_writing.specs.laws.Digits.{below_1000}
use Rattle.text_writing.specs.laws.Bytes.{spaced_append, spaced_number, line_words}
use Rattle.text_writing.specs.laws.Lines.{spaced-next, spaced_pair_next, spaced-unless, spaced_some}
use Rattle.text_writing.specs.laws.Puts.{puts_none, Puts-then, puts_as, puts_few}

-- the first ports of a route, and one more
module _ (r : List ℕ) {buffer : List ℕ} {at : ℕ} where
  pub hops_none : Puts 0 (spaced (map digits (take 0 r))) buffer at at buffer
  unfolding spaced
  hops_none = puts_none buffer at 0

  pub hops_next
      : (i : ℕ) {n mid next : ℕ} {now exit : List ℕ}
      → i < length r
      → n ≡ get_or r i 0
      → n < 1000
      → Puts (most_hop * i) (spaced (map digits (take i r))) buffer at mid now
      → Puts 10 (number_bytes n) now mid next exit
      → Puts (most_hop * (i + 1)) (spaced (map digits (take (i + 1) r))) buffer at next exit
  hops_next i {n} l is low p q =
      let one = puts_few most_hop (omega (arith, below_1000 9 n low)) q in
      let front = map digits (take i r) in
      let more : spaced (map digits (take (i + 1) r)) ≡ spaced front ++ number_bytes n =
      rw (add-one i, take-suc r i 0 l, ← is) (ap spaced (map-append digits (take i r) (n ∷ [])) ∙ spaced_append front (digits n ∷ []) ∙ ap (λ (l : List ℕ). spaced front ++ l) (spaced_number n)) in
      let both = Puts-then p one in
      puts_as (sym more) (puts_few (most_hop * (i + 1)) (omega (arith, both.few)) both)

  pub hops_all
      : (i : ℕ) {next : ℕ} {exit : List ℕ}
      → i ≡ length r
      → Puts (most_hop * i) (spaced (map digits (take i r))) buffer at next exit
      → Puts (most_hop * length r) (spaced (map digits r)) buffer at next exit
  hops_all i all p = rw all at (puts_as (ap (λ (l : List ℕ). spaced (map digits l)) (take_all i r (omega arith))) p)

-- the line of a flow
glue8
    : (w a b c d e f g h : List ℕ)
    → (w ++ (a ++ (b ++ (c ++ (d ++ (e ++ (f ++ g))))))) ++ h ≡ (((((((w ++ a) ++ b) ++ c) ++ d) ++ e) ++ f) ++ g) ++ h
glue8 w a b c d e f g h = simp append_assoc

pub flow_bytes_lem
    : (p : Plan) (f : ℕ)
    → line_bytes (flow_line p f) ≡ flow_bytes (suc f) (period_of p f) (count_of p f) (length_of p f) (jitter_of p f) (route_of p f)
flow_bytes_lem p f =
    let count = word_when (not (eqb (count_of p f) 1)) count_word (count_of p f) in
    let jitter = word_when (ltb 0 (jitter_of p f)) jitter_word (jitter_of p f) in
    let route = route_word ∷ map digits (route_of p f) in
    let late = length_word ∷ digits (length_of p f) ∷ (jitter ++ route) in
    let last = spaced_append jitter route ∙ ap₂ ◌++◌ (spaced_some jitter_word (jitter_of p f)) (spaced-next route_word (map digits (route_of p f))) in
    let behind = spaced_pair_next length_word (length_of p f) (jitter ++ route) ∙ ap (λ (l : List ℕ). pair_bytes length_word (length_of p f) ++ l) last in
    let middle = spaced_append count late ∙ ap₂ ◌++◌ (spaced-unless (eqb (count_of p f) 1) count_word (count_of p f)) behind in
    let all =
    spaced-next (digits (suc f)) (period_word ∷ digits (period_of p f) ∷ (count ++ late))
    ∙ ap (λ (l : List ℕ). number_bytes (suc f) ++ l) (spaced_pair_next period_word (period_of p f) (count ++ late) ∙ ap (λ (l : List ℕ). pair_bytes period_word (period_of p f) ++ l) middle) in
    line_words flow_word (digits (suc f) ∷ period_word ∷ digits (period_of p f) ∷ (count ++ late))
    ∙ ap (λ (l : List ℕ). (flow_word ++ l) ++ end_bytes) all
    ∙ glue8 flow_word (number_bytes (suc f)) (pair_bytes period_word (period_of p f)) (unless_bytes count_word (count_of p f) 1) (pair_bytes length_word (length_of p f)) (unless_bytes jitter_word (jitter_of p f) 0) (space ∷ route_word) (spaced (map digits (route_of p f))) end_bytes

pub flow_written
    : (p : Plan) (f : ℕ) {n count bytes : ℕ} {route : List ℕ}
    → n ≡ f + 1
    → count ≡ count_of p f
    → bytes ≡ length_of p f
    → route ≡ route_of p f
    → line_bytes (flow_line p f) ≡ flow_bytes n (period_of p f) count bytes (jitter_of p f) route
flow_written p f number counts sized routed = rw (number, counts, sized, routed, add-one f) (flow_bytes_lem p f)
