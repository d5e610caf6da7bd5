-- Laws of the other lines of a plan, and of all of them.
use Rattle.std.specs.Prelude.{ℕ, ◌≡◌, refl}
use Rattle.std.proofs.Math.Path.{ap}
use Rattle.std.proofs.Common.{◌∙◌}
use mathlib.Core.List.{List, [], ◌∷◌, ◌++◌, append_assoc, append-nil}
use Rattle.cqf.specs.Form.{Form, older, newer}
use Rattle.cqf.specs.Limits.{port_slots, flow_slots}
use Rattle.cqf.specs.Plan.{Plan}
use Rattle.plan_text.specs.Names.{clocks_word, drift_word, timing_word, sync_word, guard_word, top_word, format_word}
use Rattle.plan_text.specs.Print.{digits, line_bytes, lines_bytes, lines_to, form_line, clocks_line, plan_lines, text_of}
use Rattle.text_writing.specs.Bytes.{pair_bytes, end_bytes, clocks_bytes, clocks_at, port_at, flow_at}
use Rattle.text_writing.specs.laws.Bytes.{spaced-pair, line_words, lines_append}
use Rattle.text_writing.specs.laws.Lines.{spaced_pair_next}

-- the line of the clocks
glue4 : (w a b c d : List ℕ) → (w ++ (a ++ (b ++ c))) ++ d ≡ (((w ++ a) ++ b) ++ c) ++ d
glue4 w a b c d = simp append_assoc

pub clocks_bytes_lem : (p : Plan) → line_bytes (clocks_line p) ≡ clocks_bytes p.clock
clocks_bytes_lem p =
    let k = p.clock in
    let sync = sync_word ∷ digits k.sync_error_of ∷ [] in
    let timing = timing_word ∷ digits k.timing_jitter_of ∷ sync in
    let all =
    spaced_pair_next drift_word k.drift timing
    ∙ ap (λ (l : List ℕ). pair_bytes drift_word k.drift ++ l)
    (spaced_pair_next timing_word k.timing_jitter_of sync ∙ ap (λ (l : List ℕ). pair_bytes timing_word k.timing_jitter_of ++ l) (spaced-pair sync_word k.sync_error_of)) in
    line_words clocks_word (drift_word ∷ digits k.drift ∷ timing)
    ∙ ap (λ (l : List ℕ). (clocks_word ++ l) ++ end_bytes) all
    ∙ glue4 clocks_word (pair_bytes drift_word k.drift) (pair_bytes timing_word k.timing_jitter_of) (pair_bytes sync_word k.sync_error_of) end_bytes

-- the line of the form
pub form_none : lines_bytes (form_line older) ≡ []
unfolding lines_bytes
form_none = refl

pub form_line_lem : lines_bytes (form_line newer) ≡ line_bytes (format_word ∷ digits 2 ∷ [])
unfolding lines_bytes
form_line_lem = append-nil (line_bytes (format_word ∷ digits 2 ∷ []))

-- all lines
glue6 : (a b c d e f : List ℕ) → a ++ (b ++ (c ++ (d ++ (e ++ f)))) ≡ ((((a ++ b) ++ c) ++ d) ++ e) ++ f
glue6 a b c d e f = simp append_assoc

module _ (form : Form) (p : Plan) where
  abbrev guard : List ℕ
  guard = line_bytes (guard_word ∷ digits p.guard ∷ [])

  abbrev top : List ℕ
  top = line_bytes (top_word ∷ digits p.top ∷ [])

  pub text_lines
      : text_of form p
      ≡ ((((lines_bytes (form_line form) ++ guard) ++ top) ++ lines_bytes (lines_to port_slots (port_at p))) ++ lines_bytes (lines_to flow_slots (flow_at p))) ++ lines_bytes (clocks_at p)
  unfolding text_of plan_lines lines_bytes
  text_lines =
      let ports = lines_to port_slots (port_at p) in
      let flows = lines_to flow_slots (flow_at p) in
      let behind : lines_bytes (ports ++ (flows ++ clocks_at p)) ≡ lines_bytes ports ++ (lines_bytes flows ++ lines_bytes (clocks_at p)) =
      lines_append ports (flows ++ clocks_at p) ∙ ap (λ (l : List ℕ). lines_bytes ports ++ l) (lines_append flows (clocks_at p)) in
      lines_append (form_line form) ((guard_word ∷ digits p.guard ∷ []) ∷ (top_word ∷ digits p.top ∷ []) ∷ (ports ++ (flows ++ clocks_at p)))
      ∙ ap (λ (l : List ℕ). lines_bytes (form_line form) ++ (guard ++ (top ++ l))) behind
      ∙ glue6 (lines_bytes (form_line form)) guard top (lines_bytes ports) (lines_bytes flows) (lines_bytes (clocks_at p))
