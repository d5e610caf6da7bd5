-- Spans worked out: plan K, K with another top, with a blocking frame, with extra bytes, jitter and clocks, and a gap of 1 ns.
use Rattle.std.specs.Prelude.{◌≡◌, refl, true, List, [], ◌∷◌, ℕ, set}
use Rattle.cqf.specs.Bounded.{sum_to, max_to, any_to, all_to, elem, distinct, every, sublist}
use Rattle.cqf.specs.Plan.{Plan, no_plan, valid_plan, valid_port, valid_flow}
use Rattle.cqf.specs.Ceil.{ceil_div}
use Rattle.cqf.specs.Port.{wire_bits}
use Rattle.cqf.specs.Widened.{widened}
use Rattle.cqf.specs.Condition.{begun, frames, demand}
use Rattle.cqf.specs.Need.{need, largest_need}
use Rattle.cqf.proofs.worked.K.{plan_k}
use Rattle.cqf.proofs.worked.Clock.{plan_kc}
use Rattle.span_lists.specs.Span.{Span, spans}
use Rattle.span_lists.specs.laws.Certified.{Shown, runs, refuses, shows, shown}

abbrev pub span : (first last : ℕ) → Span
span first last = record { first = first; last = last }

-- a span behind a gap: the ends of the climbs over the gap, and the starts of the span's pieces, from its last downwards
abbrev behind : (gap : List ℕ) (first last : ℕ) (starts : List ℕ) → Shown
behind gap first last starts = record { gap = gap; first = first; last = last; starts = starts }

-- K with this top and this blocking frame
unfoldable pub plan_kt : (top blocking : ℕ) → Plan
unfolding plan_k
plan_kt top blocking =
    record {
      guard = plan_k.guard;
      top = top;
      clock = plan_k.clock;
      rates = plan_k.rates;
      blockings = set plan_k.blockings 0 blocking;
      extras = plan_k.extras;
      periods = plan_k.periods;
      counts = plan_k.counts;
      lengths = plan_k.lengths;
      jitters = plan_k.jitters;
      hops = plan_k.hops;
      routes = plan_k.routes;
    }

-- one port of 10,000 Mbit/s and one flow of 65 bytes every 1,000 ns
unfoldable plan_g : Plan
unfolding no_plan
plan_g =
    record {
      guard = 433;
      top = 10000;
      clock = no_plan.clock;
      rates = set no_plan.rates 0 10000;
      blockings = no_plan.blockings;
      extras = no_plan.extras;
      periods = set no_plan.periods 0 1000;
      counts = set no_plan.counts 0 1;
      lengths = set no_plan.lengths 0 65;
      jitters = no_plan.jitters;
      hops = set no_plan.hops 0 1;
      routes = set no_plan.routes 0 1;
    }

-- the rules accept each
valid : (valid_plan plan_k ≡ true) × (valid_plan (plan_kt 50000 0) ≡ true) × (valid_plan (plan_kt 1000000 1480) ≡ true) × (valid_plan (plan_kc 100 2 1000 32 30000) ≡ true) × (valid_plan plan_g ≡ true)
unfolding plan_kt plan_kc plan_g plan_k no_plan valid_plan valid_port valid_flow all_to any_to every distinct elem sublist
valid = (refl, refl, refl, refl, refl)

pub spans_k : spans plan_k ≡ span 72000 110000 ∷ span 142000 1000000 ∷ []
unfolding plan_k no_plan shows runs refuses largest_need max_to need demand sum_to elem sublist frames begun widened ceil_div wire_bits
spans_k =
    shown plan_k valid.0 []
    (behind (72000 ∷ []) 72000 110000 (92000 ∷ 72000 ∷ [])
    ∷ behind (142000 ∷ []) 142000 1000000 (702000 ∷ 512000 ∷ 372000 ∷ 282000 ∷ 212000 ∷ 162000 ∷ 142000 ∷ [])
    ∷ [])
    refl

-- with a top of 50,000 there is none
pub spans_k50 : spans (plan_kt 50000 0) ≡ []
unfolding plan_kt plan_k no_plan shows runs refuses largest_need max_to need demand sum_to elem sublist frames begun widened ceil_div wire_bits
spans_k50 = shown (plan_kt 50000 0) valid.1 (72000 ∷ []) [] refl

-- with a blocking frame of 1,480 bytes
spans_kb : spans (plan_kt 1000000 1480) ≡ span 422000 440000 ∷ span 472000 1000000 ∷ []
unfolding plan_kt plan_k no_plan shows runs refuses largest_need max_to need demand sum_to elem sublist frames begun widened ceil_div wire_bits
spans_kb =
    shown (plan_kt 1000000 1480) valid.2 []
    (behind (192000 ∷ 262000 ∷ 332000 ∷ 402000 ∷ 422000 ∷ []) 422000 440000 (422000 ∷ [])
    ∷ behind (472000 ∷ []) 472000 1000000 (822000 ∷ 702000 ∷ 632000 ∷ 562000 ∷ 542000 ∷ 492000 ∷ 472000 ∷ [])
    ∷ [])
    refl

-- with 32 extra bytes at port 1, 30,000 ns of jitter for flow 1, and clocks of 100 parts per million, 2 ns and 1,000 ns
spans_kc
    : spans (plan_kc 100 2 1000 32 30000)
    ≡ span 99680 109987
    ∷ span 152240 169981
    ∷ span 174800 219976
    ∷ span 227360 1000000
    ∷ []
unfolding plan_kc plan_k no_plan shows runs refuses largest_need max_to need demand sum_to elem sublist frames begun widened ceil_div wire_bits
spans_kc =
    shown (plan_kc 100 2 1000 32 30000) valid.3 []
    (behind (77120 ∷ 99680 ∷ []) 99680 109987 (99680 ∷ [])
    ∷ behind (152240 ∷ []) 152240 169981 (152240 ∷ [])
    ∷ behind (174800 ∷ []) 174800 219976 (174800 ∷ [])
    ∷ behind (227360 ∷ []) 227360 1000000 (775760 ∷ 625520 ∷ 475280 ∷ 400160 ∷ 325040 ∷ 249920 ∷ 227360 ∷ [])
    ∷ [])
    refl

-- 1,001 alone is refused between the two
spans_g : spans plan_g ≡ span 934 1000 ∷ span 1002 10000 ∷ []
unfolding plan_g no_plan shows runs refuses largest_need max_to need demand sum_to elem sublist frames begun widened ceil_div wire_bits
spans_g =
    shown plan_g valid.4 []
    (behind (934 ∷ []) 934 1000 (934 ∷ []) ∷ behind (1002 ∷ []) 1002 10000 (1546 ∷ 1002 ∷ []) ∷ [])
    refl
