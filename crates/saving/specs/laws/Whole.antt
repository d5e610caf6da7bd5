-- Laws of all fields of a plan: their bytes, and how many they are.
use Prim.Native.Nat.{ℕ, zero, suc, ◌+◌, ◌*◌, ◌≤◌, ◌<◌}
use Rattle.std.specs.Prelude.{◌≡◌, Bool, true, false, not, List, [], ◌∷◌, ◌++◌, ltb, length}
use Rattle.std.proofs.Math.Path.{refl, ap₂}
use Rattle.std.proofs.Common.{sym, ap, ◌∙◌, ⊎_elim, append_assoc, add-one, arith}
use Rattle.std.proofs.Math.ListN.{length-append}
use Rattle.cqf.specs.Bounded.{sum_to}
use Rattle.cqf.specs.Form.{Form, older, newer}
use Rattle.cqf.specs.Limits.{port_slots, flow_slots}
use Rattle.cqf.specs.Plan.{Plan, clocks_equal, rate_of, period_of, extra_of, jitter_of, valid_plan}
use Rattle.cqf.proofs.laws.Bounds.{sum_to_most}
use Rattle.cqf.proofs.laws.Ranges.{extra_most}
use Rattle.cqf.proofs.laws.Valid.{Empty, Held, slot_cases}
use Rattle.plan_reading.specs.Part.{Part}
use Rattle.plan_reading.specs.Strict.{Entry}
use Rattle.plan_reading.specs.FieldBytes.{bytes_of, row_bytes}
use Rattle.plan_reading.specs.Saved.{spell, spell_all, when, collect, header_part, port_part, port_parts, flow_part, flow_parts, extra_part, extra_parts, jitter_part, jitter_parts, clock_part, clock_parts, saved_parts, header2_field, field_when, collect_fields, newer_fields, form_bytes}
use Rattle.saving.specs.declared.kind.Kind.{Kind}
use Rattle.saving.specs.Slots.{slots_of, fields_in, kind_bytes, slot_size, kind_size, kinds_in, kind_at, kinds_bytes, saved_size, SlotsInRange}
use Rattle.saving.specs.laws.Sizes.{most_size, rows_append, collect_length, sum_next, sum_front, slots_few, slot_most}

-- the last kind of each form
pub older_last : (k : ℕ) → 5 ≤ k → kind_at older k ≡ Kind.Clock
older_last zero l = absurd (omega arith)
older_last (suc zero) l = absurd (omega arith)
older_last (suc (suc zero)) l = absurd (omega arith)
older_last (suc (suc (suc zero))) l = absurd (omega arith)
older_last (suc (suc (suc (suc zero)))) l = absurd (omega arith)
older_last (suc (suc (suc (suc (suc k))))) l = refl

pub newer_last : (k : ℕ) → 2 ≤ k → kind_at newer k ≡ Kind.Flow2
newer_last zero l = absurd (omega arith)
newer_last (suc zero) l = absurd (omega arith)
newer_last (suc (suc k)) l = refl

pub kinds-few : (form : Form) → kinds_in form ≤ 6
kinds-few older = omega arith
kinds-few newer = omega arith

-- one kind more
module _ (form : Form) (p : Plan) where
  pub kinds-next : (k : ℕ) → kinds_bytes form (k + 1) p ≡ kinds_bytes form k p ++ kind_bytes (kind_at form k) p
  unfolding kinds_bytes
  kinds-next k = rw (add-one k)

  kinds_length : (k : ℕ) → length (kinds_bytes form k p) ≡ sum_to k (λ i. kind_size (kind_at form i) p)
  unfolding kinds_bytes sum_to
  kinds_length zero = refl
  kinds_length (suc k) =
      length-append (kinds_bytes form k p) (kind_bytes (kind_at form k) p)
      ∙ ap₂ ◌+◌ (kinds_length k) (collect_length (kind_at form k) p (slots_of (kind_at form k)))

  pub kinds_room : (k : ℕ) → k < kinds_in form → length (kinds_bytes form k p) + length (kind_bytes (kind_at form k) p) ≤ length (kinds_bytes form (kinds_in form) p)
  kinds_room k l =
      let g : ℕ → ℕ = λ i. kind_size (kind_at form i) p in
      omega (arith, kinds_length k, collect_length (kind_at form k) p (slots_of (kind_at form k)), kinds_length (kinds_in form), sum_next k g, sum_front (kinds_in form) (k + 1) g (omega arith))

-- what is said of the slots, spelled as fields
spell_append : (xs ys : List Part) → spell_all (xs ++ ys) ≡ spell_all xs ++ spell_all ys
spell_append [] ys = refl
spell_append (x ∷ xs) ys = ap (λ (l : List Entry). spell x ∷ l) (spell_append xs ys)

spell-when : (b : Bool) (x : Part) → spell_all (when b x) ≡ field_when b (spell x)
spell-when true x = refl
spell-when false x = refl

spell-collect : (n : ℕ) (test : ℕ → Bool) (part : ℕ → Part) → spell_all (collect n (λ i. when (test i) (part i))) ≡ collect_fields n (λ i. field_when (test i) (spell (part i)))
unfolding collect collect_fields
spell-collect zero test part = refl
spell-collect (suc n) test part =
    spell_append (collect n (λ i. when (test i) (part i))) (when (test n) (part n))
    ∙ ap₂ ◌++◌ (spell-collect n test part) (spell-when (test n) (part n))

one_slot : (at : ℕ → List Entry) → row_bytes (collect_fields 1 at) ≡ row_bytes (at 0)
unfolding collect_fields
one_slot at = refl

-- all fields, kind by kind, the header and the clocks being one field each
rows3 : (ps fs : List Entry) (h : List ℕ) {h₁ : List ℕ} → h₁ ≡ h ++ [] → h ++ row_bytes (ps ++ fs) ≡ (h₁ ++ row_bytes ps) ++ row_bytes fs
rows3 ps fs h is = rw (is, rows_append ps fs) (simp append_assoc)

rows6
    : (ps fs es js cs : List Entry) (h : List ℕ) {h₁ c₁ : List ℕ}
    → h₁ ≡ h ++ []
    → c₁ ≡ row_bytes cs
    → h ++ row_bytes (ps ++ (fs ++ (es ++ (js ++ cs)))) ≡ ((((h₁ ++ row_bytes ps) ++ row_bytes fs) ++ row_bytes es) ++ row_bytes js) ++ c₁
rows6 ps fs es js cs h is one =
    rw (is, one, rows_append ps (fs ++ (es ++ (js ++ cs))), rows_append fs (es ++ (js ++ cs)), rows_append es (js ++ cs), rows_append js cs) (simp append_assoc)

older_fields
    : (p : Plan)
    → spell_all (collect port_slots (port_parts p) ++ (collect flow_slots (flow_parts p) ++ (collect port_slots (extra_parts p) ++ (collect flow_slots (jitter_parts p) ++ clock_parts p))))
    ≡ collect_fields port_slots (fields_in Kind.Port p) ++ (collect_fields flow_slots (fields_in Kind.Flow p) ++ (collect_fields port_slots (fields_in Kind.Extra p) ++ (collect_fields flow_slots (fields_in Kind.Jitter p) ++ fields_in Kind.Clock p 0)))
older_fields p =
    spell_append (collect port_slots (port_parts p)) _
    ∙ ap₂ ◌++◌ (spell-collect port_slots (λ q. ltb 0 (rate_of p q)) (port_part p))
    (spell_append (collect flow_slots (flow_parts p)) _
    ∙ ap₂ ◌++◌ (spell-collect flow_slots (λ f. ltb 0 (period_of p f)) (flow_part p))
    (spell_append (collect port_slots (extra_parts p)) _
    ∙ ap₂ ◌++◌ (spell-collect port_slots (λ q. ltb 0 (extra_of p q)) (extra_part p))
    (spell_append (collect flow_slots (jitter_parts p)) _
    ∙ ap₂ ◌++◌ (spell-collect flow_slots (λ f. ltb 0 (jitter_of p f)) (jitter_part p)) (spell-when (not (clocks_equal p)) (clock_part p)))))

pub saved_kinds : (form : Form) (p : Plan) → form_bytes form p ≡ kinds_bytes form (kinds_in form) p
unfolding form_bytes saved_parts newer_fields kinds_bytes row_bytes
saved_kinds older p =
    ap (λ (xs : List Entry). bytes_of (spell (header_part p)) ++ row_bytes xs) (older_fields p)
    ∙ rows6 (collect_fields port_slots (fields_in Kind.Port p)) (collect_fields flow_slots (fields_in Kind.Flow p)) (collect_fields port_slots (fields_in Kind.Extra p)) (collect_fields flow_slots (fields_in Kind.Jitter p)) (fields_in Kind.Clock p 0) (bytes_of (spell (header_part p)))
    (one_slot (fields_in Kind.Header p)) (one_slot (fields_in Kind.Clock p))
saved_kinds newer p =
    rows3 (collect_fields port_slots (fields_in Kind.Port2 p)) (collect_fields flow_slots (fields_in Kind.Flow2 p)) (bytes_of (header2_field p))
    (one_slot (fields_in Kind.Header2 p))

pub kinds_whole : (form : Form) (p : Plan) → length (kinds_bytes form (kinds_in form) p) ≡ length (form_bytes form p)
kinds_whole form p = ap length (sym (saved_kinds form p))

-- the length needed
pub size_needed : (form : Form) (p : Plan) → saved_size form p ≡ length (form_bytes form p)
size_needed form p = sym (kinds_length form p (kinds_in form)) ∙ kinds_whole form p

-- the fields of a kind are few bytes
pub kind_most : (kind : Kind) (p : Plan) → SlotsInRange p.extras p.hops → kind_size kind p ≤ flow_slots * most_size
kind_most kind p k =
    omega (arith, slots_few kind, sum_to_most (slots_of kind) (slot_size kind p) most_size (λ i l. slot_most kind p i k l))

-- the tables of a valid plan
pub valid_range : (p : Plan) → valid_plan p ≡ true → SlotsInRange p.extras p.hops
valid_range p valid =
    record {
      extra_most = extra_most p valid;
      hops_most = λ f l. ⊎_elim (λ (e : Empty p f). omega (arith, e.hops)) (λ (h : Held p f). h.hops_most) (slot_cases p valid f l);
    }
