-- The lines of a plan's text are lines of words.
use Rattle.std.specs.Prelude.{ℕ, suc, Bool, true, false, not, List, [], ◌∷◌, ◌++◌, map, eqb, ltb}
use Rattle.std.proofs.Math.Path.{refl}
use Rattle.cqf.specs.Form.{Form, older, newer}
use Rattle.cqf.specs.Limits.{port_slots, flow_slots}
use Rattle.cqf.specs.Plan.{Plan, clocks_equal, rate_of, blocking_of, extra_of, period_of, count_of, length_of, jitter_of, route_of}
use Rattle.plan_text.specs.Names.{guard_word, top_word, blocker_word, extra_word, count_word, length_word, jitter_word, route_word}
use Rattle.plan_text.specs.Line.{Word}
use Rattle.plan_text.specs.Print.{digits, word_when, port_line, flow_line, clocks_line, line_when, lines_to, form_line, plan_lines}
use Rattle.text_back.specs.laws.Bytes.{IsWord, AreWords, words_append, word_by}
use Rattle.text_back.specs.laws.Digits.{digits_word}
use Rattle.text_back.specs.laws.TextLines.{AreLines, lines_append, lines_to_lem}

-- a word and a number, or nothing
when-words : (test : Bool) (w : Word) (n : ℕ) → IsWord w → AreWords (word_when test w n)
when-words true w n a = (a, (digits_word n, tt))
when-words false w n a = tt

route_words : (r : List ℕ) → AreWords (map digits r)
route_words [] = tt
route_words (n ∷ r) = (digits_word n, route_words r)

module _ (p : Plan) where
  pub port-words : (q : ℕ) → AreWords (port_line p q)
  port-words q =
      let extras = word_when (ltb 0 (extra_of p q)) extra_word (extra_of p q) in
      let blockers = word_when (ltb 0 (blocking_of p q)) blocker_word (blocking_of p q) in (
        word_by 112 (111 ∷ 114 ∷ 116 ∷ []) refl,
        (
          digits_word (suc q),
          (
            word_by 114 (97 ∷ 116 ∷ 101 ∷ []) refl,
            (
              digits_word (rate_of p q),
              words_append blockers extras
                  (when-words (ltb 0 (blocking_of p q)) blocker_word (blocking_of p q) (word_by 98 (108 ∷ 111 ∷ 99 ∷ 107 ∷ 101 ∷ 114 ∷ []) refl))
                  (when-words (ltb 0 (extra_of p q)) extra_word (extra_of p q) (word_by 101 (120 ∷ 116 ∷ 114 ∷ 97 ∷ []) refl)),
            ),
          ),
        ),
      )

  pub flow_words : (f : ℕ) → AreWords (flow_line p f)
  flow_words f =
      let route = route_word ∷ map digits (route_of p f) in
      let jitters = word_when (ltb 0 (jitter_of p f)) jitter_word (jitter_of p f) in
      let counts = word_when (not (eqb (count_of p f) 1)) count_word (count_of p f) in (
        word_by 102 (108 ∷ 111 ∷ 119 ∷ []) refl,
        (
          digits_word (suc f),
          (
            word_by 112 (101 ∷ 114 ∷ 105 ∷ 111 ∷ 100 ∷ []) refl,
            (
              digits_word (period_of p f),
              words_append counts (length_word ∷ digits (length_of p f) ∷ (jitters ++ route))
                  (when-words (not (eqb (count_of p f) 1)) count_word (count_of p f) (word_by 99 (111 ∷ 117 ∷ 110 ∷ 116 ∷ []) refl)) (
                    word_by 108 (101 ∷ 110 ∷ 103 ∷ 116 ∷ 104 ∷ []) refl,
                    (
                      digits_word (length_of p f),
                      words_append jitters route
                          (when-words (ltb 0 (jitter_of p f)) jitter_word (jitter_of p f) (word_by 106 (105 ∷ 116 ∷ 116 ∷ 101 ∷ 114 ∷ []) refl))
                          (word_by 114 (111 ∷ 117 ∷ 116 ∷ 101 ∷ []) refl, route_words (route_of p f)),
                    ),
                  ),
            ),
          ),
        ),
      )

  pub clocks_words : AreWords (clocks_line p)
  clocks_words = (
    word_by 99 (108 ∷ 111 ∷ 99 ∷ 107 ∷ 115 ∷ []) refl,
    (
      word_by 100 (114 ∷ 105 ∷ 102 ∷ 116 ∷ []) refl,
      (
        digits_word p.clock.drift,
        (
          word_by 116 (105 ∷ 109 ∷ 105 ∷ 110 ∷ 103 ∷ []) refl,
          (
            digits_word p.clock.timing_jitter_of,
            (word_by 115 (121 ∷ 110 ∷ 99 ∷ []) refl, (digits_word p.clock.sync_error_of, tt)),
          ),
        ),
      ),
    ),
  )

  when_line : (test : Bool) (l : List Word) → AreWords l → AreLines (line_when test l)
  when_line true l a = (a, tt)
  when_line false l a = tt

  form_words : (form : Form) → AreLines (form_line form)
  form_words older = tt
  form_words newer = ((word_by 102 (111 ∷ 114 ∷ 109 ∷ 97 ∷ 116 ∷ []) refl, (digits_word 2, tt)), tt)

  pub plan_words : (form : Form) → AreLines (plan_lines form p)
  unfolding plan_lines
  plan_words form =
      let ports = lines_to port_slots (λ q. line_when (ltb 0 (rate_of p q)) (port_line p q)) in
      let flows = lines_to flow_slots (λ f. line_when (ltb 0 (period_of p f)) (flow_line p f)) in
      let clocks = line_when (not (clocks_equal p)) (clocks_line p) in
      lines_append (form_line form) ((guard_word ∷ digits p.guard ∷ []) ∷ (top_word ∷ digits p.top ∷ []) ∷ (ports ++ (flows ++ clocks))) (form_words form) (
        (word_by 103 (117 ∷ 97 ∷ 114 ∷ 100 ∷ []) refl, (digits_word p.guard, tt)),
        (
          (word_by 116 (111 ∷ 112 ∷ []) refl, (digits_word p.top, tt)),
          lines_append ports (flows ++ clocks)
              (lines_to_lem port_slots (λ q. line_when (ltb 0 (rate_of p q)) (port_line p q)) (λ q l. when_line (ltb 0 (rate_of p q)) (port_line p q) (port-words q)))
              (lines_append flows clocks
              (lines_to_lem flow_slots (λ f. line_when (ltb 0 (period_of p f)) (flow_line p f)) (λ f l. when_line (ltb 0 (period_of p f)) (flow_line p f) (flow_words f)))
              (when_line (not (clocks_equal p)) (clocks_line p) clocks_words)),
        ),
      )
