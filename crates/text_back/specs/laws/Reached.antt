-- One line more, and the lines of all slots.
use Prim.Native.Nat.{ℕ, zero, suc, ◌≤◌, ◌<◌}
use Rattle.std.specs.Prelude.{◌≡◌, Bool}
use Rattle.std.proofs.Math.Path.{refl, subst}
use Rattle.std.proofs.Common.{sym, ap, ◌∙◌, arith}
use Rattle.std.proofs.Math.Bool.{true, false, cond}
use mathlib.Core.List.{List, [], ◌∷◌, ◌++◌, map, map-append, append_assoc, append-nil}
use Rattle.cqf.specs.Bounded.{distinct}
use Rattle.cqf.specs.Form.{Form}
use Rattle.plan_reading.specs.Part.{Part}
use Rattle.plan_reading.specs.Saved.{collect}
use Rattle.plan_text.specs.Line.{Word, says, line_of}
use Rattle.plan_text.specs.Print.{line_when, lines_to}
use Rattle.plan_text.specs.Text.{Draft, own, is_again, added, blank, read_lines}
use Rattle.plan_text.specs.declared.grammar.Kind.{Kind}
use Rattle.text_back.specs.laws.Bytes.{AreWords}
use Rattle.text_back.specs.laws.Lines.{joined}
use Rattle.text_back.specs.laws.Run.{form_asked, draft_at, Line-read, Reached}

-- one line more
module _ {form : Form} {ls : List (List Word)} {clocked flowing : Bool} {xs : List Part} (before : Reached form ls clocked flowing xs) where
  pub line_reached
      : (ws : List Word) (kind : Kind) (ns r : List ℕ) {after now : Bool} {ys : List Part}
      → AreWords ws
      → line_of form true ws ≡ says kind ns r
      → ((lines : List ℕ) → is_again kind (own ns) (draft_at form clocked flowing xs lines) ≡ false)
      → distinct r ≡ true
      → ((n : ℕ) (lines : List ℕ)
      → added kind n ns r (draft_at form clocked flowing xs lines)
      ≡ draft_at form after now ys (added kind n ns r (draft_at form clocked flowing xs lines)).lines)
      → Reached form (ls ++ (ws ∷ [])) after now ys
  line_reached ws kind ns r {after} {now} {ys} a said new once leaves =
      let d = draft_at form clocked flowing xs before.lines in
      record {
        next = suc before.next;
        lines = (added kind before.next ns r d).lines;
        reads =
            λ rest.
            ap (λ (l : List (List ℕ)). read_lines blank 1 (l ++ rest)) (map-append joined ls (ws ∷ []))
            ∙ ap (read_lines blank 1) (append_assoc (map joined ls) (joined ws ∷ []) rest)
            ∙ before.reads (joined ws ∷ rest)
            ∙ Line-read d before.next ws kind ns r a (ap (λ (f : Form). line_of f true ws) (form_asked form) ∙ said) (new before.lines) once rest
            ∙ ap (λ (e : Draft). read_lines e (suc before.next) rest) (leaves before.next before.lines);
      }

-- the lines of slots, one for each that passes a test
module _
    (form : Form) (head : List (List Word)) (first : List Part) (clocked : Bool) (flag : ℕ → Bool)
    (test : ℕ → Bool) (line : ℕ → List Word) (says : ℕ → List Part) (slots : ℕ)
  where
    abbrev pub lines_at : ℕ → List (List Word)
    lines_at i = line_when (test i) (line i)

    abbrev pub parts_at : ℕ → List Part
    parts_at i = cond (test i) (says i) []

    abbrev pub After : ℕ → Type 0
    After n = Reached form (head ++ lines_to n lines_at) clocked (flag n) (first ++ collect n parts_at)

    pub slots_reached
        : ((n : ℕ) → n < slots → test n ≡ true → After n → Reached form ((head ++ lines_to n lines_at) ++ (line n ∷ [])) clocked (flag (suc n)) ((first ++ collect n parts_at) ++ says n))
        → ((n : ℕ) → test n ≡ false → flag (suc n) ≡ flag n)
        → Reached form head clocked (flag 0) first
        → (n : ℕ)
        → n ≤ slots
        → After n
    unfolding lines_to collect
    slots_reached one none start zero l =
        subst (λ (ls : List (List Word)). Reached form ls clocked (flag 0) (first ++ [])) (sym (append-nil head))
        (subst (Reached form head clocked (flag 0)) (sym (append-nil first)) start)
    slots_reached one none start (suc n) l = go (slots_reached one none start n (omega arith)) (test n) refl
      where
        go : After n → (b : Bool) → test n ≡ b → Reached form (head ++ (lines_to n lines_at ++ line_when b (line n))) clocked (flag (suc n)) (first ++ (collect n parts_at ++ cond b (says n) []))
        go before true e =
            subst (λ (ls : List (List Word)). Reached form ls clocked (flag (suc n)) (first ++ (collect n parts_at ++ says n))) (append_assoc head (lines_to n lines_at) (line n ∷ []))
            (subst (Reached form ((head ++ lines_to n lines_at) ++ (line n ∷ [])) clocked (flag (suc n))) (append_assoc first (collect n parts_at) (says n))
            (one n (omega arith) e before))
        go before false e =
            subst (λ (ls : List (List Word)). Reached form (head ++ ls) clocked (flag (suc n)) (first ++ (collect n parts_at ++ []))) (sym (append-nil (lines_to n lines_at)))
            (subst (λ (xs : List Part). Reached form (head ++ lines_to n lines_at) clocked (flag (suc n)) (first ++ xs)) (sym (append-nil (collect n parts_at)))
            (subst (λ (b : Bool). Reached form (head ++ lines_to n lines_at) clocked b (first ++ collect n parts_at)) (sym (none n e)) before))
