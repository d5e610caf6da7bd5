-- The lines of a plan's text, read from the first to the last.
use Prim.Native.Nat.{ℕ, suc, ◌-◌, ◌*◌, ◌≤◌, ◌<◌}
use Rattle.std.specs.Prelude.{◌≡◌, Bool, not, ltb, get_or}
use Rattle.std.proofs.Math.Path.{refl, sym, ap, subst}
use Rattle.std.proofs.Common.{◌∙◌, arith, le-ltb}
use Rattle.std.proofs.Math.Bool.{true, false, or-false}
use mathlib.Core.List.{List, [], ◌∷◌, ◌++◌, append_assoc, append-nil}
use Rattle.std.proofs.Math.Decide.{dec_lt}
use Rattle.cqf.specs.Bounded.{any_to, distinct}
use Rattle.cqf.specs.Form.{Form, most_hops_in}
use Rattle.cqf.specs.Limits.{port_slots, flow_slots, route_stride}
use Rattle.cqf.specs.Plan.{Plan, no_plan, clocks_equal, rate_of, blocking_of, extra_of, period_of, count_of, length_of, jitter_of, hops_of, route_of, valid_plan}
use Rattle.cqf.proofs.laws.Bounded.{any_to_some}
use Rattle.cqf.proofs.laws.Lists.{sublist_length}
use Rattle.plan_reading.specs.Part.{Part, clock}
use Rattle.plan_reading.specs.Put.{Put}
use Rattle.plan_reading.specs.Saved.{when, collect, header_part, port_part, flow_part, extra_part, jitter_part, clock_part, clock_parts}
use Rattle.plan_reading.specs.Store.{puts_rate, puts_period}
use Rattle.plan_reading.specs.laws.fields.Ranged.{All, all_at, all_append}
use Rattle.plan_reading.specs.laws.rows.RowParts.{store_append}
use Rattle.plan_reading.specs.laws.stores.Sources.{Column, Touches, tables_of, source}
use Rattle.plan_reading.specs.laws.stores.Columns.{rate_column, period_column}
use Rattle.plan_reading.specs.laws.validity.Held.{parts}
use Rattle.plan_reading.specs.laws.saved.SavedOk.{ports_numbered}
use Rattle.plan_text.specs.Names.{guard_word, top_word}
use Rattle.plan_text.specs.Line.{Word}
use Rattle.plan_text.specs.Print.{digits, port_line, flow_line, clocks_line, line_when, lines_to, form_line, plan_lines}
use Rattle.plan_text.specs.Text.{Draft, stored, added}
use Rattle.plan_text.specs.declared.grammar.Kind.{Kind}
use Rattle.text_back.specs.laws.LineSays.{port_said, flow_said, clocks_said}
use Rattle.text_back.specs.laws.Collect.{pair_all, collect_all}
use Rattle.text_back.specs.laws.Parts.{port_says_lem, flow_says_lem, text_parts}
use Rattle.text_back.specs.laws.Row.{port_ok_lem, extra_ok, held_flow, flow_ok_lem, jitter_ok}
use Rattle.text_back.specs.laws.Run.{asked, draft_at, Reached, header_reached}
use Rattle.text_back.specs.laws.Reached.{line_reached, After, slots_reached}
use Rattle.text_back.specs.laws.PlanWords.{port-words, flow_words, clocks_words}

-- a number that none of the parts puts is 0
untouched
    : {column : Plan → List ℕ} {puts : Part → Put}
    → Column column puts
    → (xs : List Part) (i : ℕ)
    → All (λ x. Touches i (puts x) → ⊥) xs
    → ltb 0 (get_or (column (tables_of xs)) i 0) ≡ false
untouched {column} {puts} c xs i never = go (dec_lt 0 (get_or (column (tables_of xs)) i 0))
  where
    go : Dec (0 < get_or (column (tables_of xs)) i 0) → ltb 0 (get_or (column (tables_of xs)) i 0) ≡ false
    go (no none) = le-ltb 0 (get_or (column (tables_of xs)) i 0) (omega arith)
    go (yes there) = let s = source c xs i there in absurd (all_at (λ x. Touches i (puts x) → ⊥) xs never s.1 s.2)

-- the draft with these tables
abbrev pub drafted : Form → (clocked flowing : Bool) → Plan → List ℕ → Draft
drafted form clocked flowing q lines =
    record {
      newer = asked form;
      begun = true;
      guarded = true;
      topped = true;
      clocked = clocked;
      flowing = flowing;
      tables = q;
      lines = lines;
    }

module _ (p : Plan) (valid : valid_plan p ≡ true) (form : Form) (few : (f : ℕ) → f < flow_slots → hops_of p f ≤ most_hops_in form) where
  abbrev heading : List (List Word)
  heading = form_line form ++ ((guard_word ∷ digits p.guard ∷ []) ∷ (top_word ∷ digits p.top ∷ []) ∷ [])

  abbrev is_port : ℕ → Bool
  is_port q = ltb 0 (rate_of p q)

  abbrev is_flow : ℕ → Bool
  is_flow f = ltb 0 (period_of p f)

  -- the ports
  abbrev port_after : ℕ → Type 0
  port_after = After form heading (header_part p ∷ []) false (λ q. false) is_port (port_line p) (λ q. port_part p q ∷ extra_part p q ∷ []) port_slots

  new_port : (n : ℕ) → All (λ x. Touches (suc n - 1) (puts_rate x) → ⊥) (header_part p ∷ collect n (port_says_lem p))
  new_port n = (
    λ e. e,
    collect_all (λ x. Touches (suc n - 1) (puts_rate x) → ⊥) n (port_says_lem p)
        (λ i l. pair_all (λ x. Touches (suc n - 1) (puts_rate x) → ⊥) (is_port i) (port_part p i) (extra_part p i) (λ h. (λ e. omega arith, λ e. e))),
  )

  one-port
      : (n : ℕ)
      → n < port_slots
      → is_port n ≡ true
      → port_after n
      → Reached form ((heading ++ lines_to n (λ q. line_when (is_port q) (port_line p q))) ++ (port_line p n ∷ [])) false false
      ((header_part p ∷ collect n (port_says_lem p)) ++ (port_part p n ∷ extra_part p n ∷ []))
  unfolding added stored distinct
  one-port n l there before =
      let xs = header_part p ∷ collect n (port_says_lem p) in
      line_reached before (port_line p n) Kind.Port (suc n ∷ rate_of p n ∷ blocking_of p n ∷ extra_of p n ∷ []) [] (port-words p n)
      (port_said form (suc n) (rate_of p n) (blocking_of p n) (extra_of p n) (port_ok_lem p valid n l there) (extra_ok p valid n l there))
      (λ lines. untouched rate_column xs (suc n - 1) (new_port n))
      refl
      (λ m lines. ap (λ (q : Plan). drafted form false false q lines) (sym (store_append no_plan xs (port_part p n ∷ extra_part p n ∷ []))))

  ports_read : port_after port_slots
  ports_read =
      slots_reached form heading (header_part p ∷ []) false (λ q. false) is_port (port_line p) (λ q. port_part p q ∷ extra_part p q ∷ []) port_slots one-port
      (λ n e. refl)
      (header_reached p.guard p.top (parts p valid).guard (parts p valid).top form)
      port_slots (omega arith)

  -- the flows
  abbrev port_lines : List (List Word)
  port_lines = heading ++ lines_to port_slots (λ q. line_when (is_port q) (port_line p q))

  abbrev ports_say : List Part
  ports_say = header_part p ∷ collect port_slots (port_says_lem p)

  abbrev flow_after : ℕ → Type 0
  flow_after = After form port_lines ports_say false (λ f. any_to f is_flow) is_flow (flow_line p) (λ f. flow_part p f ∷ jitter_part p f ∷ []) flow_slots

  new_flow : (n : ℕ) → All (λ x. Touches (suc n - 1) (puts_period x) → ⊥) (ports_say ++ collect n (flow_says_lem p))
  new_flow n =
      let P : Part → Type 0 = λ x. Touches (suc n - 1) (puts_period x) → ⊥ in
      all_append P ports_say (collect n (flow_says_lem p))
      (λ e. e, collect_all P port_slots (port_says_lem p) (λ i l. pair_all P (is_port i) (port_part p i) (extra_part p i) (λ h. (λ e. e, λ e. e))))
      (collect_all P n (flow_says_lem p) (λ i l. pair_all P (is_flow i) (flow_part p i) (jitter_part p i) (λ h. (λ e. omega arith, λ e. e))))

  one_flow
      : (n : ℕ)
      → n < flow_slots
      → is_flow n ≡ true
      → flow_after n
      → Reached form ((port_lines ++ lines_to n (λ f. line_when (is_flow f) (flow_line p f))) ++ (flow_line p n ∷ [])) false (any_to (suc n) is_flow)
      ((ports_say ++ collect n (flow_says_lem p)) ++ (flow_part p n ∷ jitter_part p n ∷ []))
  unfolding added stored
  one_flow n l there before =
      let xs = ports_say ++ collect n (flow_says_lem p) in
      let held = held_flow p valid n l there in
      let some : true ≡ any_to (suc n) is_flow = sym (any_to_some (suc n) is_flow n (omega arith) there) in
      let ns = suc n ∷ period_of p n ∷ count_of p n ∷ length_of p n ∷ jitter_of p n ∷ [] in
      line_reached before (flow_line p n) Kind.Flow ns (route_of p n) (flow_words p n)
      (flow_said form (suc n) (period_of p n) (count_of p n) (length_of p n) (jitter_of p n) (route_of p n) (flow_ok_lem p valid n l there) (jitter_ok p valid n l there)
      (ports_numbered p.rates (route_of p n) held.in_plan)
      (omega (arith, few n l, sublist_length p.routes (n * route_stride) (hops_of p n))))
      (λ lines. untouched period_column xs (suc n - 1) (new_flow n))
      held.once
      (λ m lines.
      let after = (added Kind.Flow m ns (route_of p n) (draft_at form false (any_to n is_flow) xs lines)).lines in
      ap (λ (q : Plan). drafted form false true q after) (sym (store_append no_plan xs (flow_part p n ∷ jitter_part p n ∷ [])))
      ∙ ap (λ (b : Bool). draft_at form false b (xs ++ (flow_part p n ∷ jitter_part p n ∷ [])) after) some)

  no_flow : (n : ℕ) → is_flow n ≡ false → any_to (suc n) is_flow ≡ any_to n is_flow
  unfolding any_to
  no_flow n e = rw e (or-false (any_to n is_flow))

  flows_read : flow_after flow_slots
  unfolding any_to
  flows_read =
      slots_reached form port_lines ports_say false (λ f. any_to f is_flow) is_flow (flow_line p) (λ f. flow_part p f ∷ jitter_part p f ∷ []) flow_slots one_flow
      no_flow
      ports_read
      flow_slots (omega arith)

  -- the clocks
  clocks_read
      : {ls : List (List Word)} {flowing : Bool} {xs : List Part} (test : Bool)
      → Reached form ls false flowing xs
      → Reached form (ls ++ line_when test (clocks_line p)) test flowing (xs ++ when test (clock_part p))
  unfolding added stored distinct
  clocks_read {ls} {flowing} {xs} true before =
      line_reached before (clocks_line p) Kind.Clocks (p.clock.drift ∷ p.clock.timing_jitter_of ∷ p.clock.sync_error_of ∷ []) [] (clocks_words p)
      (clocks_said form p.clock (parts p valid).clock)
      (λ lines. refl)
      refl
      (λ m lines. ap (λ (q : Plan). drafted form true flowing q lines) (sym (store_append no_plan xs (clock_part p ∷ []))))
  clocks_read {ls} {flowing} {xs} false before =
      subst (λ (l : List (List Word)). Reached form l false flowing (xs ++ [])) (sym (append-nil ls))
      (subst (Reached form ls false flowing) (sym (append-nil xs)) before)

  -- all lines
  pub plan_read : Reached form (plan_lines form p) (not (clocks_equal p)) (any_to flow_slots is_flow) (text_parts p)
  unfolding plan_lines
  plan_read =
      let ports = lines_to port_slots (λ q. line_when (is_port q) (port_line p q)) in
      let flows = lines_to flow_slots (λ f. line_when (is_flow f) (flow_line p f)) in
      let clocks = line_when (not (clocks_equal p)) (clocks_line p) in
      let header = (guard_word ∷ digits p.guard ∷ []) ∷ (top_word ∷ digits p.top ∷ []) ∷ [] in
      let lines : ((heading ++ ports) ++ flows) ++ clocks ≡ plan_lines form p =
      append_assoc (heading ++ ports) flows clocks ∙ append_assoc heading ports (flows ++ clocks) ∙ append_assoc (form_line form) header (ports ++ (flows ++ clocks)) in
      subst (λ (l : List (List Word)). Reached form l (not (clocks_equal p)) (any_to flow_slots is_flow) (text_parts p)) lines
      (subst (Reached form (((heading ++ ports) ++ flows) ++ clocks) (not (clocks_equal p)) (any_to flow_slots is_flow))
      (append_assoc ports_say (collect flow_slots (flow_says_lem p)) (clock_parts p))
      (clocks_read (not (clocks_equal p)) flows_read))
