-- The theorem of the lighter plan applied to plan K loaded in every respect and to a plan that is lighter in every respect at once,
-- both from their bytes, one loaded strictly and one loosely, with what the two searches answer for each.
use Rattle.std.specs.Prelude.{◌≡◌, refl, true, List, [], ◌∷◌, ℕ, ◌≤◌, length}
use Rattle.std.proofs.Common.{ap, ◌∙◌, lit≤}
use Rattle.std.proofs.Math.Option.{some}
use Rattle.cqf.specs.Bounded.{elem, distinct, every}
use Rattle.cqf.specs.Limits.{port_slots}
use Rattle.cqf.specs.Plan.{Plan, no_plan, valid_plan}
use Rattle.cqf.specs.Condition.{least, margin_safe}
use Rattle.cqf.proofs.worked.K.{plan_k}
use Rattle.cqf.proofs.worked.Lighter.{plan_heavy, plan_light, valid_heavy, valid_light, lighter_K, least_heavy, least_light, margin_safe_heavy, margin_safe_light}
use Rattle.plan.specs.Bytes.{number2, number4, size_at, whole_at, value_at, numbers2}
use Rattle.plan.specs.Layout.{form_by}
use Rattle.plan.specs.Field.{route_ports, route_in, value_in, kind_by, field_in, field_at, repeats}
use Rattle.plan_reading.specs.Store.{store, store_all}
use Rattle.plan_reading.specs.Draft.{blank, added}
use Rattle.plan_reading.specs.Reading.{step_at, names_absent, jitter_absent, extra_absent, first_from, first_absent, closing, read_from, read_as_of, loose, strict, accepted, absent_in, read_form}
use Rattle.answers.specs.Answer.{result}
use Rattle.questions.specs.Outcome.{least_answer, margin_safe_answer}
use Rattle.sequences.specs.Calls.{load, after, held_from, held_bytes}
use Rattle.sequences.specs.NoWorse.{AnswersNoWorse}
use Rattle.sequences.specs.results.LighterTheorem.{lighter_answers}
use Rattle.sequences.specs.laws.Calls.{after_held}
use Rattle.questions.specs.laws.Searched.{least_gives, margin_safe_gives}

-- K with rate 200, a blocking frame of 100 bytes, two frames a period for flow 1, 32 extra bytes at port 1, jitter 30,000 for flow 1
-- and clock numbers 100, 2 and 1,000
unfoldable bytes_heavy : List ℕ
bytes_heavy =
    0x01 ∷ 0x00 ∷ 0x08 ∷ 0x00 ∷ 0x00 ∷ 0x03 ∷ 0xe8 ∷ 0x00 ∷ 0x0f ∷ 0x42 ∷ 0x40
    ∷ 0x02 ∷ 0x00 ∷ 0x08 ∷ 0x00 ∷ 0x01 ∷ 0x00 ∷ 0x00 ∷ 0x00 ∷ 0xc8 ∷ 0x00 ∷ 0x64
    ∷ 0x03 ∷ 0x00 ∷ 0x0c ∷ 0x00 ∷ 0x01 ∷ 0x00 ∷ 0x01 ∷ 0x86 ∷ 0xa0 ∷ 0x00 ∷ 0x02 ∷ 0x00 ∷ 0xe6 ∷ 0x00 ∷ 0x01
    ∷ 0x03 ∷ 0x00 ∷ 0x0c ∷ 0x00 ∷ 0x02 ∷ 0x00 ∷ 0x01 ∷ 0xad ∷ 0xb0 ∷ 0x00 ∷ 0x01 ∷ 0x02 ∷ 0x5d ∷ 0x00 ∷ 0x01
    ∷ 0x04 ∷ 0x00 ∷ 0x04 ∷ 0x00 ∷ 0x01 ∷ 0x00 ∷ 0x20
    ∷ 0x05 ∷ 0x00 ∷ 0x06 ∷ 0x00 ∷ 0x01 ∷ 0x00 ∷ 0x00 ∷ 0x75 ∷ 0x30
    ∷ 0x06 ∷ 0x00 ∷ 0x0c ∷ 0x00 ∷ 0x00 ∷ 0x00 ∷ 0x64 ∷ 0x00 ∷ 0x00 ∷ 0x00 ∷ 0x02 ∷ 0x00 ∷ 0x00 ∷ 0x03 ∷ 0xe8
    ∷ []

-- guard band 900, rate 220, a blocking frame of 64 bytes, flow 1 alone with period 110,000, count 1 and 200 bytes, 16 extra bytes,
-- jitter 20,000 and clock numbers 50, 1 and 500
unfoldable bytes_light : List ℕ
bytes_light =
    0x01 ∷ 0x00 ∷ 0x08 ∷ 0x00 ∷ 0x00 ∷ 0x03 ∷ 0x84 ∷ 0x00 ∷ 0x0f ∷ 0x42 ∷ 0x40
    ∷ 0x02 ∷ 0x00 ∷ 0x08 ∷ 0x00 ∷ 0x01 ∷ 0x00 ∷ 0x00 ∷ 0x00 ∷ 0xdc ∷ 0x00 ∷ 0x40
    ∷ 0x03 ∷ 0x00 ∷ 0x0c ∷ 0x00 ∷ 0x01 ∷ 0x00 ∷ 0x01 ∷ 0xad ∷ 0xb0 ∷ 0x00 ∷ 0x01 ∷ 0x00 ∷ 0xc8 ∷ 0x00 ∷ 0x01
    ∷ 0x04 ∷ 0x00 ∷ 0x04 ∷ 0x00 ∷ 0x01 ∷ 0x00 ∷ 0x10
    ∷ 0x05 ∷ 0x00 ∷ 0x06 ∷ 0x00 ∷ 0x01 ∷ 0x00 ∷ 0x00 ∷ 0x4e ∷ 0x20
    ∷ 0x06 ∷ 0x00 ∷ 0x0c ∷ 0x00 ∷ 0x00 ∷ 0x00 ∷ 0x32 ∷ 0x00 ∷ 0x00 ∷ 0x00 ∷ 0x01 ∷ 0x00 ∷ 0x00 ∷ 0x01 ∷ 0xf4
    ∷ []

-- both are accepted, the one by the strict reading, and held after their loads
read_heavy : read_as_of strict bytes_heavy ≡ accepted plan_heavy 1 2
unfolding bytes_heavy plan_heavy plan_k no_plan read_as_of read_form form_by read_from blank step_at field_at field_in value_in kind_by number2 number4 size_at whole_at value_at numbers2 route_ports route_in repeats every distinct elem store_all store added closing first_from first_absent names_absent absent_in jitter_absent extra_absent
read_heavy = refl

read_light : read_as_of loose bytes_light ≡ accepted plan_light 1 1
unfolding bytes_light plan_light no_plan read_as_of read_form form_by read_from blank step_at field_at field_in value_in kind_by number2 number4 size_at whole_at value_at numbers2 route_ports route_in repeats every distinct elem store_all store added closing first_from first_absent names_absent absent_in jitter_absent extra_absent
read_light = refl

held_heavy : held_bytes (load strict bytes_heavy ∷ []) ≡ some bytes_heavy
unfolding held_bytes held_from
held_heavy = rw read_heavy

held_light : held_bytes (load loose bytes_light ∷ []) ≡ some bytes_light
unfolding held_bytes held_from
held_light = rw read_light

after_heavy : after (load strict bytes_heavy ∷ []) ≡ plan_heavy
after_heavy = after_held (load strict bytes_heavy ∷ []) strict bytes_heavy held_heavy plan_heavy 1 2 read_heavy

after_light : after (load loose bytes_light ∷ []) ≡ plan_light
after_light = after_held (load loose bytes_light ∷ []) loose bytes_light held_light plan_light 1 1 read_light

no_worse : AnswersNoWorse (after (load loose bytes_light ∷ [])) (after (load strict bytes_heavy ∷ []))
no_worse =
    lighter_answers (load strict bytes_heavy ∷ []) (load loose bytes_light ∷ []) strict loose bytes_heavy bytes_light plan_heavy plan_light 1 2 1 1 held_heavy read_heavy held_light read_light
    lighter_K

-- what the searches answer where these are the durations that they look for
answers
    : {tables p : Plan} {T U : ℕ} (scratch : List ℕ)
    → tables ≡ p
    → valid_plan p ≡ true
    → least p ≡ T
    → margin_safe p ≡ U
    → T ≤ p.top
    → U ≤ p.top
    → port_slots ≤ length scratch
    → (least_answer tables scratch ≡ result T) × (margin_safe_answer tables scratch ≡ result U)
answers {tables} {p} scratch same valid l m most safe long = (
  ap (λ (q : Plan). least_answer q scratch) same ∙ least_gives p scratch valid long l most,
  ap (λ (q : Plan). margin_safe_answer q scratch) same ∙ margin_safe_gives p scratch valid long m safe,
)

-- the searches give the one 56,920 and 79,480, the other 14,019 twice
answers_heavy
    : (scratch : List ℕ)
    → port_slots ≤ length scratch
    → (least_answer (after (load strict bytes_heavy ∷ [])) scratch ≡ result 56920) × (margin_safe_answer (after (load strict bytes_heavy ∷ [])) scratch ≡ result 79480)
unfolding plan_heavy plan_k
answers_heavy scratch long = answers scratch after_heavy valid_heavy least_heavy margin_safe_heavy (lit≤ tt) (lit≤ tt) long

answers_light
    : (scratch : List ℕ)
    → port_slots ≤ length scratch
    → (least_answer (after (load loose bytes_light ∷ [])) scratch ≡ result 14019) × (margin_safe_answer (after (load loose bytes_light ∷ [])) scratch ≡ result 14019)
unfolding plan_light
answers_light scratch long = answers scratch after_light valid_light least_light margin_safe_light (lit≤ tt) (lit≤ tt) long
