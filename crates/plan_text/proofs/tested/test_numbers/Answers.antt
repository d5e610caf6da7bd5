-- `test_numbers` meets its contract, test by test.
use Rattle.std.proofs.Common.{ℕ, ◌≡◌, Bool, true, false, ◌&&◌, ◌||◌, Some, None, List, arith, length, map, leb, refl, sym, ap, ap₂, subst, ◌∙◌, le-leb}
use Rattle.std.proofs.lemmas.Bool.{lt-leb}
use Rattle.std.proofs.Math.Bool.{and-false, or-false}
use Rattle.std.proofs.lemmas.List.{length-map}
use Rattle.std.proofs.Math.Option.{Option}
use Rattle.std.specs.Prelude.{Option as Maybe}
use Rattle.plan_text.specs.Kinds.{is_routed}
use Rattle.plan_text.specs.Line.{Line, form_by, number_test, coded, any_none, lacks_ports}
use Rattle.plan_text.specs.Reading.{decoded, FailsAs, Told, KindReads}
use Rattle.plan_text.specs.declared.grammar.Kind.{Kind}
use Rattle.plan_text.specs.laws.Says.{numbers_size, number_out, route_out, numbers_in_lem}
use Rattle.plan_text.proofs.tested.test_numbers.Goals as goal
use Rattle.plan_text.proofs.tested.test_numbers.Goals.{else-hops-eq0-via-then-hops-eq0+else-is_routed, else-hops-eq0-via-else-hops-eq0}

-- of the words of the route
or_true : (b : Bool) → b || true ≡ true
or_true true = refl
or_true false = refl

lacks_none : (kind : Kind) (route : List ℕ) {ports : Maybe ℕ} (ps : List (Option ℕ)) → ports ≡ None → Told route ports ps → lacks_ports kind ps ≡ true
lacks_none kind route ps e told =
    let bad : any_none ps ≡ true = subst (λ (o : Maybe ℕ). Told route o ps) e told in
    rw bad (or_true (is_routed kind && leb (length ps) 0))

-- how many they are
lacks_some : (kind : Kind) (route : List ℕ) {ports : Maybe ℕ} {hops : ℕ} (ps : List (Option ℕ)) → ports ≡ Some hops → Told route ports ps → lacks_ports kind ps ≡ (is_routed kind && leb hops 0)
lacks_some kind route {ports} {hops} ps e told =
    let words_as : Told route (Some hops) ps = subst (λ (o : Maybe ℕ). Told route o ps) e told in
    rw (words_as.1, words_as.0) (or-false (is_routed kind && leb hops 0))

pub returns-in-Some : goal.returns-in-Some
returns-in-Some c ps told =
    let a = c.args in
    let out = subst (λ (l : List ℕ). FailsAs (λ i n. number_test i (decoded n)) l (Some c.in-Some.i)) c.numbers_by.ensures (c.in-Some.ensures (λ i n. number_test i (decoded n)) (λ i n b p. p)) in
    rw c.refused.ensures
    (sym (number_out a.kind a.numbers.now c.requires.0 (form_by a.newer) ps (sym out.1) (omega (arith, out.0, numbers_size a.kind a.numbers.now c.requires.0)) c.item_at.ensures))

pub returns-in_default-ports : goal.returns-in_default-ports
returns-in_default-ports c ps told =
    let a = c.args in
    let out = subst (λ (l : List ℕ). FailsAs (λ i n. number_test i (decoded n)) l None) c.numbers_by.ensures (c.in_default.ensures (λ i n. number_test i (decoded n)) (λ i n b p. p)) in
    rw c.refused-in_default-ports.ensures
    (sym (route_out a.kind a.numbers.now c.requires.0 (form_by a.newer) ps (sym out) (omega (arith, numbers_size a.kind a.numbers.now c.requires.0))
    (lacks_none a.kind a.route.now ps c.in_default-ports.is told)))

pub returns-then-is_routed : goal.returns-then-is_routed
returns-then-is_routed c ps told =
    let a = c.args in
    let out = subst (λ (l : List ℕ). FailsAs (λ i n. number_test i (decoded n)) l None) c.numbers_by.ensures (c.in_default.ensures (λ i n. number_test i (decoded n)) (λ i n b p. p)) in
    let hops = c.in-Some-ports.hops in
    let lacks : lacks_ports a.kind ps ≡ true =
    lacks_some a.kind a.route.now ps c.in-Some-ports.is told ∙ ap₂ ◌&&◌ (sym c.is_routed.ensures ∙ c.if-is_routed.true) (le-leb hops 0 (omega (arith, c.if-hops-eq0.true))) in
    rw c.refused-then-is_routed.ensures
    (sym (route_out a.kind a.numbers.now c.requires.0 (form_by a.newer) ps (sym out) (omega (arith, numbers_size a.kind a.numbers.now c.requires.0)) lacks))

pub returns : goal.returns
returns c ps told =
    let a = c.args in
    let out = subst (λ (l : List ℕ). FailsAs (λ i n. number_test i (decoded n)) l None) c.numbers_by.ensures (c.in_default.ensures (λ i n. number_test i (decoded n)) (λ i n b p. p)) in
    let hops = c.in-Some-ports.hops in
    let words_as : Told a.route.now (Some hops) ps = subst (λ (o : Maybe ℕ). Told a.route.now o ps) c.in-Some-ports.is told in
    let routed : (is_routed a.kind && leb hops 0) ≡ false =
    elim c.else-hops-eq0.branch [
      | else-hops-eq0-via-then-hops-eq0+else-is_routed w ↦ ap (λ (b : Bool). b && leb hops 0) (sym w.is_routed.ensures ∙ w.if-is_routed.false)
      | else-hops-eq0-via-else-hops-eq0 w ↦ ap (λ (b : Bool). is_routed a.kind && b) (lt-leb hops 0 (omega (arith, w.if-hops-eq0.false))) ∙ and-false (is_routed a.kind)
    ] in
    let size : length (map coded ps) ≡ length ps = length-map ps coded in
    subst (λ (l : Line). KindReads (form_by a.newer) l a.numbers.now a.route.now c.test_ranges.result)
    (sym (numbers_in_lem a.kind a.numbers.now c.requires.0 (form_by a.newer) ps (sym out) (omega (arith, numbers_size a.kind a.numbers.now c.requires.0))
    (lacks_some a.kind a.route.now ps c.in-Some-ports.is told ∙ routed)))
    (c.test_ranges.ensures (map coded ps) (size ∙ words_as.0) words_as.2 (ap (λ (k : ℕ). is_routed a.kind && leb k 0) (size ∙ words_as.0) ∙ routed))
