-- How long the text of a valid plan is: at most as long as a text may be.
use Rattle.std.specs.Prelude.{ℕ, zero, suc, ◌+◌, ◌*◌, ◌≤◌, ◌<◌, ◌≡◌, Bool, true, false, not, cond, List, [], ◌∷◌, ◌++◌, map, eqb, ltb, length}
use Rattle.std.proofs.Common.{⊎_elim, append-nil, arith, suc-mul, leb-true, length-append}
use Rattle.std.proofs.Math.Bool.{and-eq-true_iff}
use Rattle.cqf.specs.Bounded.{every, sublist}
use Rattle.cqf.specs.Form.{Form, older, newer}
use Rattle.cqf.specs.Limits.{port_slots, flow_slots, max_hops, route_stride}
use Rattle.cqf.specs.Plan.{Plan, rate_of, blocking_of, extra_of, period_of, count_of, length_of, jitter_of, hops_of, route_of, port_in, clocks_equal, valid_plan}
use Rattle.cqf.proofs.laws.Lists.{sublist_length}
use Rattle.cqf.proofs.laws.Valid.{Empty, Held, slot_cases}
use Rattle.words.specs.Words.{space}
use Rattle.plan_text.specs.Names.{guard_word, top_word, format_word, port_word, rate_word, blocker_word, extra_word, flow_word, period_word, count_word, length_word, jitter_word, route_word, clocks_word, drift_word, timing_word, sync_word}
use Rattle.plan_text.specs.Line.{Word}
use Rattle.plan_text.specs.Text.{max_text}
use Rattle.plan_text.specs.Print.{digits, line_bytes, lines_bytes, lines_to, line_when, form_line, port_line, flow_line, clocks_line, text_of}
use Rattle.text_writing.specs.Bytes.{spaced, number_bytes, pair_bytes, unless_bytes, end_bytes, most_hop, most_port, most_flow, most_form, most_clocks, port_at, flow_at}
use Rattle.text_writing.specs.laws.Digits.{digits_most, below_1000}
use Rattle.text_writing.specs.laws.Bytes.{line_pair, lines_append}
use Rattle.text_writing.specs.laws.Lines.{port_bytes_lem}
use Rattle.text_writing.specs.laws.Flow.{flow_bytes_lem}
use Rattle.text_writing.specs.laws.Whole.{clocks_bytes_lem, form_none, form_line_lem, text_lines}

-- bytes that are at most so many
record Most (bs : List ℕ) (m : ℕ) : Type 0 where
  few : length bs ≤ m

joined : {s t : List ℕ} {m k : ℕ} → Most s m → Most t k → Most (s ++ t) (m + k)
joined {s} {t} a b = record { few = omega (arith, length-append s t, a.few, b.few) }

same : {s t : List ℕ} {m : ℕ} → s ≡ t → Most t m → Most s m
same e a = rw e a

word : (w : List ℕ) → Most w (length w)
word w = record { few = omega arith }

none : (m : ℕ) → Most [] m
none m = record { few = omega arith }

-- parts of a line
number_most : (n : ℕ) → Most (number_bytes n) 10
number_most n = record { few = omega (arith, digits_most 9 n) }

pair_most : (w : Word) (n : ℕ) → Most (pair_bytes w n) (1 + (length w + 10))
pair_most w n = record { few = omega (arith, length-append w (number_bytes n), digits_most 9 n) }

unless_most : (w : Word) (n absent : ℕ) → Most (unless_bytes w n absent) (1 + (length w + 10))
unless_most w n absent = go (eqb n absent)
  where
    go : (b : Bool) → Most (cond b [] (pair_bytes w n)) (1 + (length w + 10))
    go true = none _
    go false = pair_most w n

-- the ports of a route
hops_most : (rates r : List ℕ) → every (port_in rates) r ≡ true → length (spaced (map digits r)) ≤ most_hop * length r
unfolding every spaced
hops_most rates [] all = omega arith
hops_most rates (n ∷ r) all =
    let both = simp and-eq-true_iff at all in
    let low : n ≤ port_slots = leb-true n port_slots both.0.0.1 in
    omega (arith, length-append (number_bytes n) (spaced (map digits r)), below_1000 9 n (omega arith), hops_most rates r both.1)

route_most : (p : Plan) → valid_plan p ≡ true → (f : ℕ) → f < flow_slots → Most (spaced (map digits (route_of p f))) (most_hop * max_hops)
unfolding sublist spaced
route_most p valid f l = ⊎_elim empty held (slot_cases p valid f l)
  where
    empty : Empty p f → Most (spaced (map digits (route_of p f))) (most_hop * max_hops)
    empty e = rw e.hops (none _)

    held : Held p f → Most (spaced (map digits (route_of p f))) (most_hop * max_hops)
    held h =
        record {
          few = omega (arith, hops_most p.rates (route_of p f) h.in_plan, sublist_length p.routes (f * route_stride) (hops_of p f), h.hops_most);
        }

-- a line
line_most : (w : Word) (n : ℕ) → Most (line_bytes (w ∷ digits n ∷ [])) (length w + 10 + 1)
line_most w n = same (line_pair w n) (joined (joined (word w) (number_most n)) (word end_bytes))

port_most : (p : Plan) (q : ℕ) → Most (line_bytes (port_line p q)) most_port
port_most p q =
    same (port_bytes_lem p q)
    (joined (joined (joined (joined (joined (word port_word) (number_most (suc q))) (pair_most rate_word (rate_of p q))) (unless_most blocker_word (blocking_of p q) 0)) (unless_most extra_word (extra_of p q) 0)) (word end_bytes))

flow_most : (p : Plan) → valid_plan p ≡ true → (f : ℕ) → f < flow_slots → Most (line_bytes (flow_line p f)) most_flow
flow_most p valid f l =
    let numbers = joined (joined (joined (joined (joined (word flow_word) (number_most (suc f))) (pair_most period_word (period_of p f))) (unless_most count_word (count_of p f) 1)) (pair_most length_word (length_of p f))) (unless_most jitter_word (jitter_of p f) 0) in
    same (flow_bytes_lem p f) (joined (joined (joined numbers (word (space ∷ route_word))) (route_most p valid f l)) (word end_bytes))

clocks_most : (p : Plan) → Most (line_bytes (clocks_line p)) most_clocks
clocks_most p =
    let k = p.clock in
    same (clocks_bytes_lem p) (joined (joined (joined (joined (word clocks_word) (pair_most drift_word k.drift)) (pair_most timing_word k.timing_jitter_of)) (pair_most sync_word k.sync_error_of)) (word end_bytes))

form_most : (form : Form) → Most (lines_bytes (form_line form)) most_form
form_most older = same form_none (none _)
form_most newer = same form_line_lem (line_most format_word 2)

-- a line where a test holds, and those of the first slots
when_most : (b : Bool) (l : List Word) {m : ℕ} → Most (line_bytes l) m → Most (lines_bytes (line_when b l)) m
unfolding lines_bytes
when_most true l a = same (append-nil (line_bytes l)) a
when_most false l a = none _

lines_most : (m n : ℕ) (of : ℕ → List (List Word)) → ((i : ℕ) → i < n → Most (lines_bytes (of i)) m) → Most (lines_bytes (lines_to n of)) (n * m)
unfolding lines_to lines_bytes
lines_most m zero of each = none _
lines_most m (suc n) of each =
    let all = joined (lines_most m n of (λ i l. each i (omega arith))) (each n (omega arith)) in
    same (lines_append (lines_to n of) (of n)) (record { few = omega (arith, all.few, suc-mul n m) })

-- the text of a valid plan is no longer than a text may be
pub text_fits : (form : Form) (p : Plan) → valid_plan p ≡ true → length (text_of form p) ≤ max_text
text_fits form p valid =
    let head = joined (joined (form_most form) (line_most guard_word p.guard)) (line_most top_word p.top) in
    let ports = lines_most most_port port_slots (port_at p) (λ q l. when_most (ltb 0 (rate_of p q)) (port_line p q) (port_most p q)) in
    let flows = lines_most most_flow flow_slots (flow_at p) (λ f l. when_most (ltb 0 (period_of p f)) (flow_line p f) (flow_most p valid f l)) in
    let clocks = when_most (not (clocks_equal p)) (clocks_line p) (clocks_most p) in
    let all = same (text_lines form p) (joined (joined (joined head ports) flows) clocks) in
    omega (arith, all.few)
