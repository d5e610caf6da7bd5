-- What each line of a text as it is written says, by its kind.
use Rattle.std.specs.Prelude.{ℕ, ◌≤◌, ◌≡◌, not, ltb, eqb, length}
use Rattle.std.proofs.Math.Path.{refl, ap}
use Rattle.std.proofs.Common.{◌∙◌, arith}
use Rattle.std.proofs.Math.Bool.{true, false}
use mathlib.Core.List.{List, [], ◌∷◌, ◌++◌, map}
use Rattle.std.proofs.Math.Option.{some}
use Rattle.std.proofs.lemmas.Bool.{lt-leb}
use Rattle.std.proofs.Math.ListN.{length-map}
use Rattle.cqf.specs.Bounded.{every}
use Rattle.cqf.specs.Form.{Form, older, most_hops_in}
use Rattle.cqf.specs.Limits.{max_hops, max_top, max_period, max_count, max_length, max_jitter, max_drift, max_timing_jitter, max_sync_error, max_extra, port_slots, flow_slots, guard_ok, top_ok, port_ok, drift_ok, timing_jitter_ok, sync_error_ok}
use Rattle.cqf.specs.Plan.{Clock, clock_ok}
use Rattle.words.specs.Words.{same_bytes}
use Rattle.plan_reading.specs.Ranges.{PortOk, FlowOk, ExtraOk, JitterOk}
use Rattle.plan_reading.specs.laws.fields.Within.{within_low, within_high}
use Rattle.plan_reading.specs.laws.fields.Passes.{and_three}
use Rattle.plan_text.specs.Names.{guard_word, top_word, port_word, rate_word, blocker_word, extra_word, flow_word, period_word, count_word, length_word, jitter_word, route_word, clocks_word, drift_word, timing_word, sync_word, format_word}
use Rattle.plan_text.specs.Kinds.{kind_of, kind_in}
use Rattle.plan_text.specs.Line.{says, numbers_in, line_of}
use Rattle.plan_text.specs.Print.{digits, word_when}
use Rattle.plan_text.specs.laws.Ranges.{blocking_most}
use Rattle.plan_text.specs.declared.grammar.Item.{Item}
use Rattle.plan_text.specs.declared.grammar.Kind.{Kind}
use Rattle.text_back.specs.laws.Match.{match-one, port-match, flow_match, clocks_match}
use Rattle.text_back.specs.laws.Says.{route_values, numbers_say, kind_line, plain_line}

-- the form that is asked for, the guard band, the top
pub format_said : line_of older false (format_word ∷ digits 2 ∷ []) ≡ says Kind.Format (2 ∷ []) []
unfolding kind_in kind_of same_bytes
format_said =
    plain_line older false format_word (digits 2 ∷ []) Kind.Format (2 ∷ []) refl refl refl (match-one Item.Format 2 refl (omega arith)) (refl, tt)

module _ (form : Form) where
  pub guard_said : (g : ℕ) → guard_ok g ≡ true → line_of form false (guard_word ∷ digits g ∷ []) ≡ says Kind.Guard (g ∷ []) []
  unfolding kind_in kind_of same_bytes
  guard_said g ok =
      plain_line form false guard_word (digits g ∷ []) Kind.Guard (g ∷ []) refl refl refl
      (match-one Item.Guard g refl (omega (arith, within_high 0 1000000 g ok)))
      (ok, tt)

  pub top_said : (t : ℕ) → top_ok t ≡ true → line_of form true (top_word ∷ digits t ∷ []) ≡ says Kind.Top (t ∷ []) []
  unfolding kind_in kind_of same_bytes
  top_said t ok =
      plain_line form true top_word (digits t ∷ []) Kind.Top (t ∷ []) refl refl refl
      (match-one Item.Top t refl (omega (arith, within_high 1 max_top t ok)))
      (ok, tt)

  -- a port
  pub port_said
      : (n r b e : ℕ)
      → PortOk n r b
      → ExtraOk n e
      → line_of form true (port_word ∷ digits n ∷ rate_word ∷ digits r ∷ (word_when (ltb 0 b) blocker_word b ++ word_when (ltb 0 e) extra_word e))
      ≡ says Kind.Port (n ∷ r ∷ b ∷ e ∷ []) []
  unfolding kind_in kind_of same_bytes
  port_said n r b e ok extra =
      plain_line form true port_word (digits n ∷ rate_word ∷ digits r ∷ (word_when (ltb 0 b) blocker_word b ++ word_when (ltb 0 e) extra_word e))
      Kind.Port (n ∷ r ∷ b ∷ e ∷ []) refl refl refl
      (port-match n r b e (
        omega (arith, within_high 1 port_slots n ok.number),
        omega (arith, within_high 1 100000 r ok.rate),
        omega (arith, blocking_most b ok.blocking),
        omega (arith, within_high 0 max_extra e extra.bytes),
      ))
      (ok.number, (ok.rate, (ok.blocking, (extra.bytes, tt))))

  -- a flow
  pub flow_said
      : (n t c l j : ℕ) (r : List ℕ)
      → FlowOk n t c l (length r)
      → JitterOk n j
      → every port_ok r ≡ true
      → length r ≤ most_hops_in form
      → line_of form true (flow_word ∷ digits n ∷ period_word ∷ digits t ∷ (word_when (not (eqb c 1)) count_word c
      ++ (length_word ∷ digits l ∷ (word_when (ltb 0 j) jitter_word j ++ (route_word ∷ map digits r)))))
      ≡ says Kind.Flow (n ∷ t ∷ c ∷ l ∷ j ∷ []) r
  unfolding kind_in kind_of same_bytes
  flow_said n t c l j r ok jitter ports few =
      kind_line form true flow_word (digits n ∷ period_word ∷ digits t ∷ (word_when (not (eqb c 1)) count_word c
      ++ (length_word ∷ digits l ∷ (word_when (ltb 0 j) jitter_word j ++ (route_word ∷ map digits r)))))
      Kind.Flow (map some (n ∷ t ∷ c ∷ l ∷ j ∷ [])) (route_word ∷ map digits r) refl refl
      (flow_match n t c l j (map digits r) (
        omega (arith, within_high 1 flow_slots n ok.number),
        omega (arith, within_high 1000 max_period t ok.period),
        omega (arith, within_high 1 max_count c ok.count),
        omega (arith, within_high 64 max_length l ok.length),
        omega (arith, within_high 0 max_jitter j jitter.ns),
      ))
      ∙ ap (numbers_in form Kind.Flow (map some (n ∷ t ∷ c ∷ l ∷ j ∷ []))) (route_values r ports)
      ∙ numbers_say form Kind.Flow (n ∷ t ∷ c ∷ l ∷ j ∷ []) r (ok.number, (ok.period, (ok.count, (ok.length, (jitter.ns, tt))))) few ports
      (lt-leb (length (map some r)) 0 (omega (arith, length-map r some, within_low 1 max_hops (length r) ok.hops)))

  -- the clocks
  pub clocks_said
      : (k : Clock)
      → clock_ok k ≡ true
      → line_of form true (clocks_word ∷ drift_word ∷ digits k.drift ∷ timing_word ∷ digits k.timing_jitter_of ∷ sync_word ∷ digits k.sync_error_of ∷ [])
      ≡ says Kind.Clocks (k.drift ∷ k.timing_jitter_of ∷ k.sync_error_of ∷ []) []
  unfolding kind_in kind_of same_bytes
  clocks_said k ok =
      let o = and_three (drift_ok k.drift) (timing_jitter_ok k.timing_jitter_of) (sync_error_ok k.sync_error_of) ok in
      plain_line form true clocks_word (drift_word ∷ digits k.drift ∷ timing_word ∷ digits k.timing_jitter_of ∷ sync_word ∷ digits k.sync_error_of ∷ [])
      Kind.Clocks (k.drift ∷ k.timing_jitter_of ∷ k.sync_error_of ∷ []) refl refl refl
      (clocks_match k.drift k.timing_jitter_of k.sync_error_of (
        omega (arith, within_high 0 max_drift k.drift o.0),
        omega (arith, within_high 0 max_timing_jitter k.timing_jitter_of o.1),
        omega (arith, within_high 0 max_sync_error k.sync_error_of o.2),
      ))
      (o.0, (o.1, (o.2, tt)))
