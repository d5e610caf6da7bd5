-- Plan K and its neighbours by the strict reading.
use Rattle.std.specs.Prelude.{◌≡◌, refl, List, [], ◌∷◌, ◌++◌, map, ℕ, length}
use Rattle.std.proofs.Common.{ap, arith}
use Rattle.std.proofs.Math.Option.{some}
use Rattle.cqf.specs.Bounded.{elem, distinct, every}
use Rattle.cqf.specs.Plan.{no_plan}
use Rattle.cqf.proofs.worked.K.{plan_k}
use Rattle.plan.specs.Bytes.{number2, number4, size_at, whole_at, value_at, numbers2}
use Rattle.plan.specs.Layout.{form_by}
use Rattle.plan.specs.Field.{route_ports, route_in, value_in, kind_by, field_in, field_at, repeats}
use Rattle.plan_reading.specs.Store.{store, store_all}
use Rattle.plan_reading.specs.Draft.{blank, added}
use Rattle.plan_reading.specs.Reading.{step_at, names_absent, jitter_absent, extra_absent, first_from, first_absent, closing, read_from, read_as_of, strict, accepted, absent_in, read_form}
use Rattle.answers.specs.Answer.{result, refusal}
use Rattle.loading.specs.Outcome.{load_answer}
use Rattle.sequences.specs.Calls.{load, after, held_from, held_bytes}
use Rattle.sequences.specs.laws.Calls.{after_held}
use Rattle.plan_k.specs.PlanK.{bytes_k}
use Rattle.plan_k.specs.Extra.{extra, flow3}
use Rattle.plan_k.specs.Jitter.{jitter}

-- K stands in strict order
strict_k : read_as_of strict bytes_k ≡ accepted plan_k 1 2
unfolding bytes_k plan_k no_plan read_as_of read_form form_by read_from blank step_at field_at field_in value_in kind_by number2 number4 size_at whole_at value_at numbers2 route_ports route_in repeats every distinct elem store_all store added closing first_from first_absent names_absent absent_in jitter_absent extra_absent
strict_k = refl

-- K with 0 ns of jitter for flow 1 at its end: other bytes, and in strict order too
unfoldable bytes_zero : List ℕ
unfolding bytes_k jitter
bytes_zero = bytes_k ++ jitter 1 0x00 0x00 0x00

other : bytes_zero ≡ bytes_k → ⊥
unfolding bytes_zero bytes_k jitter
other e = let z : ◌≡◌ {A = ℕ} 61 52 = ap length e in absurd (omega arith)

strict_zero : read_as_of strict bytes_zero ≡ accepted plan_k 1 2
unfolding bytes_zero bytes_k jitter plan_k no_plan read_as_of read_form form_by read_from blank step_at field_at field_in value_in kind_by number2 number4 size_at whole_at value_at numbers2 route_ports route_in repeats every distinct elem store_all store added closing first_from first_absent names_absent absent_in jitter_absent extra_absent
strict_zero = refl

-- the strict loads of the two leave the same plan held
held_k : held_bytes (load strict bytes_k ∷ []) ≡ some bytes_k
unfolding held_bytes held_from
held_k = rw strict_k

held_zero : held_bytes (load strict bytes_zero ∷ []) ≡ some bytes_zero
unfolding held_bytes held_from
held_zero = rw strict_zero

after_both : (after (load strict bytes_k ∷ []) ≡ plan_k) × (after (load strict bytes_zero ∷ []) ≡ plan_k)
after_both = (
  after_held (load strict bytes_k ∷ []) strict bytes_k held_k plan_k 1 2 strict_k,
  after_held (load strict bytes_zero ∷ []) strict bytes_zero held_zero plan_k 1 2 strict_zero,
)

-- port 1; flow n over port 1 twice
unfoldable port : List ℕ
port = 0x02 ∷ 0x00 ∷ 0x08 ∷ 0x00 ∷ 0x01 ∷ 0x00 ∷ 0x00 ∷ 0x00 ∷ 0x64 ∷ 0x00 ∷ 0x00 ∷ []

unfoldable twice : ℕ → List ℕ
twice n = 0x03 ∷ 0x00 ∷ 0x0e ∷ 0x00 ∷ n ∷ 0x00 ∷ 0x01 ∷ 0x86 ∷ 0xa0 ∷ 0x00 ∷ 0x01 ∷ 0x00 ∷ 0xe6 ∷ 0x00 ∷ 0x01 ∷ 0x00 ∷ 0x01 ∷ []

-- in order; the header after extra bytes; extra bytes after jitter; the jitter of flow 1 after that of flow 2; a second port 1,
-- which also stands too late, is 6; a port twice in a route is 7 in its place and 12 behind extra bytes; and 12 is found before 9,
-- though the route of an absent port stands in front
answers
    : map (load_answer strict)
    ((bytes_k ++ extra 1 0 ++ jitter 1 0x00 0x00 0x00)
    ∷ (extra 1 0 ++ bytes_k)
    ∷ (bytes_k ++ jitter 1 0x00 0x00 0x00 ++ extra 1 0)
    ∷ (bytes_k ++ jitter 2 0x00 0x00 0x00 ++ jitter 1 0x00 0x00 0x00)
    ∷ (bytes_k ++ port)
    ∷ (bytes_k ++ twice 3)
    ∷ (bytes_k ++ extra 1 0 ++ twice 3)
    ∷ (bytes_k ++ flow3)
    ∷ (flow3 ++ bytes_k)
    ∷ [])
    ≡ result (record { ports = 1; flows = 2 })
    ∷ refusal 12 (7 ∷ [])
    ∷ refusal 12 (61 ∷ [])
    ∷ refusal 12 (61 ∷ [])
    ∷ refusal 6 (52 ∷ [])
    ∷ refusal 7 (52 ∷ [])
    ∷ refusal 12 (59 ∷ [])
    ∷ refusal 9 (52 ∷ [])
    ∷ refusal 12 (15 ∷ [])
    ∷ []
unfolding extra jitter flow3 port twice bytes_k load_answer no_plan read_as_of read_form form_by read_from blank step_at field_at field_in value_in kind_by number2 number4 size_at whole_at value_at numbers2 route_ports route_in repeats every distinct elem store_all store added closing first_from first_absent names_absent absent_in jitter_absent extra_absent
answers = refl
