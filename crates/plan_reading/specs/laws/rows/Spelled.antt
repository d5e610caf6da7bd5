-- The field that says one part alone: it is in range where the part is, and its parts are the part. And a field in range is the one
-- that says its parts.
use Rattle.std.specs.Prelude.{ℕ, suc, ◌≤◌, ◌≡◌, refl, true, false, length, get_or}
use Rattle.std.proofs.Common.{sym, ap, ap₂, ◌∙◌, true≢false, arith, eqb-true, le-leb}
use mathlib.Core.List.Memᴰ
use mathlib.Core.List.{List, [], ◌∷◌, ◌++◌, Memᴰ}
use Rattle.std.proofs.Math.Bool.{and-eq-true_iff}
use Rattle.cqf.specs.Bounded.{every, distinct}
use Rattle.cqf.specs.Form.{older, newer, form_number, most_hops_in}
use Rattle.cqf.specs.Limits.{max_hops, port_ok, drift_ok, timing_jitter_ok, sync_error_ok}
use Rattle.plan.specs.Layout.{Number, Kind, layout, hops_allowed}
use Rattle.plan.specs.Field.{in_ranges}
use Rattle.plan_reading.specs.Part.{Part, header, port, flow, extra, jitter, clock, parts_by, parts_of}
use Rattle.plan_reading.specs.Draft.{field_repeats}
use Rattle.plan_reading.specs.Ranges.{RouteOk, PartOk}
use Rattle.plan_reading.specs.Strict.{Entry, entry_of, parts_row}
use Rattle.plan_reading.specs.Saved.{spell, spell_all}
use Rattle.plan_reading.specs.laws.fields.Within.{within_low}
use Rattle.plan_reading.specs.laws.fields.Passes.{and_three}
use Rattle.plan_reading.specs.laws.rows.SavedRow.{EntryOk, AllOk, none, more}

-- the two forms are different
pub newer_older : newer ≡ older → ⊥
newer_older e = let z : ◌≡◌ {A = ℕ} 1 0 = ap form_number e in omega arith

-- a field without a route
pub plain_ok
    : (k : Kind) (ns : List ℕ)
    → in_ranges (layout k).numbers ns ≡ true
    → (layout k).most_hops ≡ 0
    → EntryOk (layout k).form (entry_of (record { kind = k; numbers = ns; hops = 0 }) [])
unfolding every distinct
plain_ok k ns ranges plain =
    record { numbers = record { kind = refl; ranges = ranges; hops = rw plain }; fits = record { hops = refl; ports = refl }; no_repeat = refl }

-- the ports of a route have numbers in range, none stands there twice, and they are no more than a field of the older form names
abbrev pub RoutePart : Part → Type 0
RoutePart (header g t) = Unit {0}
RoutePart (port n v b) = Unit {0}
RoutePart (flow n t c l r) = (every port_ok r ≡ true) × (field_repeats r ≡ false) × (length r ≤ most_hops_in older)
RoutePart (extra n b) = Unit {0}
RoutePart (jitter n j) = Unit {0}
RoutePart (clock k) = Unit {0}

pub spell_ok : (x : Part) → PartOk x → RoutePart x → EntryOk older (spell x)
spell_ok (header g t) ok route = plain_ok Kind.header (g ∷ t ∷ []) (rw (ok.guard, ok.top)) refl
spell_ok (port n v b) ok route = plain_ok Kind.port (n ∷ v ∷ b ∷ []) (rw (ok.number, ok.rate, ok.blocking)) refl
spell_ok (flow n t c l r) ok route =
    record {
      numbers =
          record {
            kind = refl;
            ranges = rw (ok.number, ok.period, ok.count, ok.length);
            hops = rw (le-leb 1 (length r) (within_low 1 max_hops (length r) ok.hops), le-leb (length r) (most_hops_in older) route.2);
          };
      fits = record { hops = refl; ports = route.0 };
      no_repeat = route.1;
    }
spell_ok (extra n b) ok route = plain_ok Kind.extra (n ∷ b ∷ []) (rw (ok.number, ok.bytes)) refl
spell_ok (jitter n j) ok route = plain_ok Kind.jitter (n ∷ j ∷ []) (rw (ok.number, ok.ns)) refl
spell_ok (clock k) ok route =
    let t = and_three (drift_ok k.drift) (timing_jitter_ok k.timing_jitter_of) (sync_error_ok k.sync_error_of) ok in
    plain_ok Kind.clock (k.drift ∷ k.timing_jitter_of ∷ k.sync_error_of ∷ []) (rw (t.0, t.1, t.2)) refl

-- its parts
pub spelled_part : (x : Part) → parts_of (spell x).field (spell x).route ≡ x ∷ []
spelled_part (header g t) = refl
spelled_part (port n v b) = refl
spelled_part (flow n t c l r) = refl
spelled_part (extra n b) = refl
spelled_part (jitter n j) = refl
spelled_part (clock k) = refl

pub spelled_parts : (xs : List Part) → parts_row (spell_all xs) ≡ xs
spelled_parts [] = refl
spelled_parts (x ∷ xs) = ap₂ ◌++◌ (spelled_part x) (spelled_parts xs)

-- a part of the row, and the field that says it
pub spell_in : {x : Part} (xs : List Part) → Memᴰ x xs → Memᴰ (spell x) (spell_all xs)
spell_in [] m = absurd (Memᴰ.not-nil m)
spell_in (y ∷ xs) (Memᴰ.head same) = Memᴰ.head (ap spell same)
spell_in (y ∷ xs) (Memᴰ.tail m) = Memᴰ.tail (spell_in xs m)

pub spell_of : {e : Entry} (xs : List Part) → Memᴰ e (spell_all xs) → (x : Part) × Memᴰ x xs × (e ≡ spell x)
spell_of [] m = absurd (Memᴰ.not-nil m)
spell_of (y ∷ xs) (Memᴰ.head same) = (y, Memᴰ.head refl, same)
spell_of (y ∷ xs) (Memᴰ.tail m) = let t = spell_of xs m in (t.0, Memᴰ.tail t.1, t.2)

pub all_spelled : (xs : List Part) → ((x : Part) → Memᴰ x xs → EntryOk older (spell x)) → AllOk older (spell_all xs)
all_spelled [] all = none
all_spelled (x ∷ xs) all = more (all x (Memᴰ.head refl)) (all_spelled xs (λ y m. all y (Memᴰ.tail m)))

-- numbers in range are as many as their row of the table
abbrev pub listed : List Number → ℕ → List ℕ → List ℕ
listed [] i ns = []
listed (c ∷ cs) i ns = get_or ns i 0 ∷ listed cs (suc i) ns

shifted : (cs : List Number) (i n : ℕ) (ns : List ℕ) → listed cs (suc i) (n ∷ ns) ≡ listed cs i ns
shifted [] i n ns = refl
shifted (c ∷ cs) i n ns = ap (λ (l : List ℕ). get_or ns i 0 ∷ l) (shifted cs (suc i) n ns)

pub all_listed : (cs : List Number) (ns : List ℕ) → in_ranges cs ns ≡ true → listed cs 0 ns ≡ ns
all_listed [] [] e = refl
all_listed [] (n ∷ ns) e = absurd (true≢false (sym e))
all_listed (c ∷ cs) [] e = absurd (true≢false (sym e))
all_listed (c ∷ cs) (n ∷ ns) e =
    ap (λ (l : List ℕ). n ∷ l) (shifted cs 0 n ns ∙ all_listed cs ns ((and-eq-true_iff (c.ok n) (in_ranges cs ns)).0 e).1)

-- a field of the older form in range is the one that says its parts
module _ (ns : List ℕ) (h : ℕ) (r : List ℕ) (on : RouteOk h r) where
  pub no_hops : hops_allowed 0 h ≡ true → 0 ≡ h
  no_hops e = sym (eqb-true h 0 e)

  pub no_route : hops_allowed 0 h ≡ true → [] ≡ r
  no_route e = go r (on.hops ∙ sym (no_hops e))
    where
      go : (l : List ℕ) → length l ≡ 0 → [] ≡ l
      go [] e = refl
      go (n ∷ l) e = absurd (omega arith)

  spell_back
      : (k : Kind)
      → (layout k).form ≡ older
      → in_ranges (layout k).numbers ns ≡ true
      → hops_allowed (layout k).most_hops h ≡ true
      → spell_all (parts_by k ns r) ≡ entry_of (record { kind = k; numbers = ns; hops = h }) r ∷ []
  spell_back Kind.header is e m = λ i. entry_of (record { kind = Kind.header; numbers = all_listed (layout Kind.header).numbers ns e i; hops = no_hops m i }) (no_route m i) ∷ []
  spell_back Kind.port is e m = λ i. entry_of (record { kind = Kind.port; numbers = all_listed (layout Kind.port).numbers ns e i; hops = no_hops m i }) (no_route m i) ∷ []
  spell_back Kind.flow is e m = λ i. entry_of (record { kind = Kind.flow; numbers = all_listed (layout Kind.flow).numbers ns e i; hops = on.hops i }) r ∷ []
  spell_back Kind.extra is e m = λ i. entry_of (record { kind = Kind.extra; numbers = all_listed (layout Kind.extra).numbers ns e i; hops = no_hops m i }) (no_route m i) ∷ []
  spell_back Kind.jitter is e m = λ i. entry_of (record { kind = Kind.jitter; numbers = all_listed (layout Kind.jitter).numbers ns e i; hops = no_hops m i }) (no_route m i) ∷ []
  spell_back Kind.clock is e m = λ i. entry_of (record { kind = Kind.clock; numbers = all_listed (layout Kind.clock).numbers ns e i; hops = no_hops m i }) (no_route m i) ∷ []
  spell_back Kind.header2 is e m = absurd (newer_older is)
  spell_back Kind.port2 is e m = absurd (newer_older is)
  spell_back Kind.flow2 is e m = absurd (newer_older is)

spell_append : (xs ys : List Part) → spell_all (xs ++ ys) ≡ spell_all xs ++ spell_all ys
spell_append [] ys = refl
spell_append (x ∷ xs) ys = ap (λ (l : List Entry). spell x ∷ l) (spell_append xs ys)

pub row_spelled : {es : List Entry} → AllOk older es → spell_all (parts_row es) ≡ es
row_spelled none = refl
row_spelled (more {e = e} {es = es} ok rest) =
    spell_append (parts_of e.field e.route) (parts_row es)
    ∙ ap₂ ◌++◌
    (spell_back e.field.numbers e.field.hops e.route ok.fits e.field.kind ok.numbers.kind ok.numbers.ranges ok.numbers.hops)
    (row_spelled rest)
