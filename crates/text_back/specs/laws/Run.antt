-- The lines of a plan's text, read one after the other.
use Rattle.std.specs.Prelude.{ℕ, suc, ◌≡◌, Bool, true, false}
use Rattle.std.proofs.Math.Path.{refl, ap}
use Rattle.std.proofs.Common.{sym, ◌∙◌}
use Rattle.std.proofs.Math.Bool.{not}
use mathlib.Core.List.{List, [], ◌∷◌, ◌++◌, map}
use Rattle.std.proofs.Math.ListN.{replicate}
use Rattle.cqf.specs.Bounded.{distinct}
use Rattle.cqf.specs.Form.{Form, older, newer}
use Rattle.cqf.specs.Limits.{flow_slots, guard_ok, top_ok}
use Rattle.cqf.specs.Plan.{no_plan}
use Rattle.plan_reading.specs.Part.{Part, header}
use Rattle.plan_reading.specs.Store.{store, store_all}
use Rattle.plan_reading.specs.laws.stores.Sources.{tables_of}
use Rattle.plan_text.specs.Names.{guard_word, top_word, format_word}
use Rattle.plan_text.specs.Line.{Word, says, form_by, line_of}
use Rattle.plan_text.specs.Print.{digits, form_line}
use Rattle.plan_text.specs.Text.{Draft, more, blank, own, is_again, stored, added, step_by, step_at, read_lines}
use Rattle.plan_text.specs.laws.Taken.{taken-added}
use Rattle.plan_text.specs.laws.Steps.{read_more}
use Rattle.plan_text.specs.declared.grammar.Kind.{Kind}
use Rattle.text_back.specs.laws.Bytes.{AreWords, word_by}
use Rattle.text_back.specs.laws.Lines.{joined, joined_words}
use Rattle.text_back.specs.laws.Digits.{digits_word}
use Rattle.text_back.specs.laws.LineSays.{format_said, guard_said, top_said}

-- whether a form is asked for by a line of its own
abbrev pub asked : Form → Bool
asked older = false
asked newer = true

pub form_asked : (form : Form) → form_by (asked form) ≡ form
form_asked older = refl
form_asked newer = refl

-- one line that says something new
module _ (d : Draft) (n : ℕ) (ws : List Word) (kind : Kind) (ns r : List ℕ) where
  line_step
      : AreWords ws
      → line_of (form_by d.newer) d.begun ws ≡ says kind ns r
      → is_again kind (own ns) d ≡ false
      → distinct r ≡ true
      → step_at n d (joined ws) ≡ more (added kind n ns r d)
  unfolding step_at
  line_step a said new once =
      ap (λ (l : List Word). step_by n d (line_of (form_by d.newer) d.begun l)) (joined_words ws a)
      ∙ ap (step_by n d) said
      ∙ taken-added kind n ns r d new (ap not once)

  pub Line-read
      : AreWords ws
      → line_of (form_by d.newer) d.begun ws ≡ says kind ns r
      → is_again kind (own ns) d ≡ false
      → distinct r ≡ true
      → (rest : List (List ℕ))
      → read_lines d n (joined ws ∷ rest) ≡ read_lines (added kind n ns r d) (suc n) rest
  Line-read a said new once rest = read_more d n (joined ws) rest (sym (line_step a said new once))

-- the draft behind the header's lines, when these parts were said
abbrev pub draft_at : Form → (clocked flowing : Bool) → List Part → List ℕ → Draft
draft_at form clocked flowing xs lines =
    record {
      newer = asked form;
      begun = true;
      guarded = true;
      topped = true;
      clocked = clocked;
      flowing = flowing;
      tables = tables_of xs;
      lines = lines;
    }

-- these lines lead to it
pub record Reached (form : Form) (ls : List (List Word)) (clocked flowing : Bool) (xs : List Part) : Type 0 where
  pub next : ℕ
  pub lines : List ℕ
  pub reads : (rest : List (List ℕ)) → read_lines blank 1 (map joined ls ++ rest) ≡ read_lines (draft_at form clocked flowing xs lines) next rest

-- the lines of the header
module _ (g t : ℕ) (guard : guard_ok g ≡ true) (top : top_ok t ≡ true) where
  abbrev guard_line : List Word
  guard_line = guard_word ∷ digits g ∷ []

  abbrev top_line : List Word
  top_line = top_word ∷ digits t ∷ []

  guard_words : AreWords guard_line
  guard_words = (word_by 103 (117 ∷ 97 ∷ 114 ∷ 100 ∷ []) refl, (digits_word g, tt))

  top_words : AreWords top_line
  top_words = (word_by 116 (111 ∷ 112 ∷ []) refl, (digits_word t, tt))

  -- the guard band and the top, in either form
  header_read
      : (form : Form) (d : Draft) (n : ℕ)
      → d ≡ record { newer = asked form; begun = false; guarded = false; topped = false; clocked = false; flowing = false; tables = no_plan; lines = replicate flow_slots 0 }
      → (rest : List (List ℕ))
      → read_lines d n (joined guard_line ∷ joined top_line ∷ rest) ≡ read_lines (draft_at form false false (header g t ∷ []) (replicate flow_slots 0)) (suc (suc n)) rest
  unfolding added stored store store_all distinct
  header_read form d n is rest =
      ap (λ (e : Draft). read_lines e n (joined guard_line ∷ joined top_line ∷ rest)) is
      ∙ Line-read start n guard_line Kind.Guard (g ∷ []) [] guard_words (guard_said (form_by (asked form)) g guard) refl refl (joined top_line ∷ rest)
      ∙ Line-read (added Kind.Guard n (g ∷ []) [] start) (suc n) top_line Kind.Top (t ∷ []) [] top_words (top_said (form_by (asked form)) t top) refl refl rest
    where
      start : Draft
      start = record { newer = asked form; begun = false; guarded = false; topped = false; clocked = false; flowing = false; tables = no_plan; lines = replicate flow_slots 0 }

  pub header_reached : (form : Form) → Reached form (form_line form ++ (guard_line ∷ top_line ∷ [])) false false (header g t ∷ [])
  unfolding blank added stored distinct
  header_reached older = record { next = 3; lines = replicate flow_slots 0; reads = header_read older blank 1 refl }
  header_reached newer =
      record {
        next = 4;
        lines = replicate flow_slots 0;
        reads =
            λ rest.
            Line-read blank 1 (format_word ∷ digits 2 ∷ []) Kind.Format (2 ∷ []) [] (word_by 102 (111 ∷ 114 ∷ 109 ∷ 97 ∷ 116 ∷ []) refl, (digits_word 2, tt)) format_said refl refl
            (joined guard_line ∷ joined top_line ∷ rest)
            ∙ header_read newer (added Kind.Format 1 (2 ∷ []) [] blank) 2 refl rest;
      }
