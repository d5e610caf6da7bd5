-- Laws of the answer and of what is left, by the plain question's answer, the queues and the room, where the length needed is known.
use Rattle.std.specs.Prelude.{ℕ, ◌≤◌, ◌<◌, ◌≡◌, true, false, List, [], ◌∷◌, length}
use Rattle.std.proofs.Common.{sym, ap, ◌∙◌, arith}
use Rattle.std.proofs.lemmas.Bool.{lt-leb}
use Rattle.cqf.specs.Plan.{Plan}
use Rattle.cqf.proofs.laws.Ranges.{top_most}
use Rattle.plan_reading.specs.laws.fields.Within.{within_high}
use Rattle.gate_lists.specs.GateList.{gate_list_bytes}
use Rattle.answers.specs.Answer.{result, refusal}
use Rattle.answers.specs.Refusals.{short_buffer, bad_queue}
use Rattle.writing.specs.Laid.{laid}
use Rattle.writing.specs.laws.Laid.{laid-over}
use Rattle.questions.specs.Outcome.{check_answer}
use Rattle.gate_writing.specs.Gates.{queues_ok, gates_answer}
use Rattle.questions.specs.laws.Answers.{check_accepts}
use Rattle.gate_writing.specs.laws.Gates.{accepts_valid, gates_refused, gates_accepted, gates_queues, gates_written, gates_leave}
use Rattle.gate_writing.specs.List.{list_of, list_size_by, ListFits}
use Rattle.gate_writing.specs.Outcome.{Gated}
use Rattle.gate_writing.specs.laws.List.{list_is, list_length}

module _ (p : Plan) (T even odd : ℕ) (buffer : List ℕ) where
  -- a refusal writes nothing
  kept : {number : ℕ} {values : List ℕ} → gates_answer p T even odd buffer ≡ refusal number values → Gated p T even odd buffer (refusal number values) buffer
  kept {number} {values} e = (sym e, gates_leave p T even odd buffer (refusal number values) (sym e))

  pub gated_refused : {number : ℕ} {values : List ℕ} → check_answer p T ≡ refusal number values → Gated p T even odd buffer (refusal number values) buffer
  gated_refused e = kept (gates_refused p T even odd buffer e)

  module _ (accepts : check_answer p T ≡ result tt) where
    pub gated_queue : queues_ok even odd ≡ false → Gated p T even odd buffer (refusal bad_queue (0 ∷ [])) buffer
    gated_queue e = kept (gates_queues p T even odd buffer accepts e)

    module _ (ok : queues_ok even odd ≡ true) where
      -- a list that is to be written
      pub writable : ListFits p.guard T even odd
      writable =
          let valid = accepts_valid p T accepts in
          let ranged = (check_accepts p T valid accepts).0 in
          record { queues = ok; fits = omega (arith, within_high 1 p.top T ranged, top_most p valid) }

      module _ (needed : ℕ) (size : needed ≡ list_size_by p.guard T) where
        long : length (gate_list_bytes p T even odd) ≡ needed
        long = ap length (list_is p T even odd) ∙ list_length p.guard T even odd ∙ sym size

        pub gated_short : length buffer < needed → Gated p T even odd buffer (refusal short_buffer (needed ∷ [])) buffer
        gated_short less =
            let short = lt-leb (length (gate_list_bytes p T even odd)) (length buffer) (omega (arith, long)) in
            kept (gates_accepted p T even odd buffer accepts ∙ rw (ok, short, long))

        pub gated_written : needed ≤ length buffer → {exit : List ℕ} → exit ≡ laid (list_of p.guard T even odd) buffer → Gated p T even odd buffer (result needed) exit
        gated_written room e =
            let enough : length (gate_list_bytes p T even odd) ≤ length buffer = omega (arith, long) in
            let said : gates_answer p T even odd buffer ≡ result needed = gates_written p T even odd buffer accepts ok enough ∙ ap result long in (
              sym said,
              e
                  ∙ ap (λ (l : List ℕ). laid l buffer) (sym (list_is p T even odd))
                  ∙ laid-over (gate_list_bytes p T even odd) buffer enough
                  ∙ gates_leave p T even odd buffer (result needed) (sym said),
            )
