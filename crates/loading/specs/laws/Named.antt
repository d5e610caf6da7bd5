-- What the fields read so far name, by what is marked for them.
use Rattle.std.specs.Prelude.{ℕ, ◌+◌, ◌<◌, ◌≡◌, refl, List, Bool, true, false, ◌||◌, get_or, set}
use Rattle.std.proofs.Common.{sym, ap, ◌∙◌, subst, true≢false, arith, get_or-set_same}
use Rattle.cqf.specs.Form.{Form}
use Rattle.cqf.specs.Limits.{port_slots, flow_slots}
use Rattle.plan.specs.Bytes.{value_at}
use Rattle.plan.specs.Layout.{layout}
use Rattle.plan.specs.Field.{Field, field, field_at, field_by}
use Rattle.plan_reading.specs.Key.{port_keys, flow_keys, extra_keys, jitter_keys, key_of}
use Rattle.plan_reading.specs.Draft.{Draft}
use Rattle.plan_reading.specs.laws.fields.Kinds.{key_below}
use Rattle.plan_reading.specs.laws.fields.Passes.{field_passes}
use Rattle.plan_reading.specs.laws.fields.Ranged.{InRange, in_range}
use Rattle.plan_reading.specs.laws.reading.Absent.{NamedThere}
use Rattle.plan_reading.specs.laws.stores.Stored.{Flagged}
use Rattle.loading.specs.Loading.{Covers, AtMost, Marks, marks_of, lacking, any_absent}
use Rattle.loading.specs.laws.Covers.{covers_set, covers_marks, covers_all, most_mark, lacking-none}
use Rattle.loading.specs.laws.Filled.{Filled}
use Rattle.loading.specs.laws.Marked.{covers_flow, marked_kind, Keyed, extra_there, jitter_there}

-- what was named is in a plan with these rates and periods
pub record NamedIn (named seen rates periods : List ℕ) : Type 0 where
  pub ports : Covers named rates
  pub extras : Covers (marks_of seen extra_keys port_slots) rates
  pub jitters : Covers (marks_of seen jitter_keys flow_slots) periods

-- so it is of the tables that were read, where nothing is absent
pub named_in : (named : List ℕ) (d : Draft) → Filled d → any_absent named d.seen ≡ false → NamedIn named d.seen d.tables.rates d.tables.periods
named_in named d f e =
    let ports = marks_of d.seen port_keys port_slots in
    let extras = marks_of d.seen extra_keys port_slots in
    let jitters = marks_of d.seen jitter_keys flow_slots in
    let a = none_of (lacking named ports) _ e in
    let b = none_of (lacking extras ports) _ a.1 in
    record {
      ports = λ q h. f.ports q (covers_all named ports a.0 q h);
      extras = λ q h. f.ports q (covers_all extras ports b.0 q h);
      jitters = λ q h. f.flows q (covers_all jitters (marks_of d.seen flow_keys flow_slots) b.1 q h);
    }
  where
    none_of : (a b : Bool) → a || b ≡ false → (a ≡ false) × (b ≡ false)
    none_of true b e = absurd (true≢false e)
    none_of false b e = (refl, e)

-- what is marked is at most what is in these lists
pub record MarkedIn (named seen ports flows : List ℕ) : Type 0 where
  pub named_most : AtMost named ports
  pub extras : AtMost (marks_of seen extra_keys port_slots) ports
  pub jitters : AtMost (marks_of seen jitter_keys flow_slots) flows

-- where that is so of the flags of the ports and flows that were read, nothing is absent
pub none_absent
    : (named seen : List ℕ)
    → MarkedIn named seen (marks_of seen port_keys port_slots) (marks_of seen flow_keys flow_slots)
    → any_absent named seen ≡ false
none_absent named seen c =
    rw (
      lacking-none named (marks_of seen port_keys port_slots) c.named_most,
      lacking-none (marks_of seen extra_keys port_slots) (marks_of seen port_keys port_slots) c.extras,
      lacking-none (marks_of seen jitter_keys flow_slots) (marks_of seen flow_keys flow_slots) c.jitters,
    )

-- one field more
module _
    (form : Form) (s : List ℕ) (at : ℕ) (d : Draft) (x : Field) (next : ℕ)
    (stands : field_at form s at ≡ field x next)
    (flagged : Flagged d)
    (named wider : List ℕ)
    (marks : Marks named wider s at)
    (rates periods : List ℕ) where
  abbrev said : List ℕ
  said = set d.seen (key_of x) 1

  -- what its kind says of it
  ranged : InRange (layout x.kind).numbers 0 (field_by x.kind (value_at s at)).numbers
  ranged =
      let f = (field_passes form s at x next stands).passes in
      subst (λ (y : Field). InRange (layout x.kind).numbers 0 y.numbers) (sym f.numbers)
      (in_range (layout x.kind).numbers x.numbers f.ok.ranges)

  -- what it names is there where all that is marked is
  pub named_here : NamedIn wider said rates periods → NamedThere rates periods s at
  named_here c =
      let f = (field_passes form s at x next stands).passes in
      let own : 0 < get_or said (key_of x) 0 = omega (arith, get_or-set_same d.seen (key_of x) 1 0 (omega (arith, flagged, key_below x f.ok))) in
      let t =
      marked_kind said rates periods s at x.kind f.kind ranged (subst (λ (y : Field). 0 < get_or said (key_of y) 0) (sym f.numbers) own) c.extras c.jitters in
      record { routes = covers_flow wider rates s at c.ports marks.routed; jitters = t.0; extras = t.1 }

  pub named-before : NamedIn wider said rates periods → NamedIn named d.seen rates periods
  named-before c =
      let back = covers_set d.seen (key_of x) 1 (omega arith) in
      record {
        ports = λ q h. c.ports q (marks.keeps q h);
        extras = λ q h. c.extras q (covers_marks d.seen said extra_keys port_slots back q h);
        jitters = λ q h. c.jitters q (covers_marks d.seen said jitter_keys flow_slots back q h);
      }

  -- all that is marked is there where what it names is
  pub marked-after
      : (ports flows : List ℕ)
      → Covers rates ports
      → Covers periods flows
      → NamedThere rates periods s at
      → MarkedIn named d.seen ports flows
      → MarkedIn wider said ports flows
  marked-after ports flows c g t m =
      let f = (field_passes form s at x next stands).passes in
      let keyed : (key q : ℕ) → key + q ≡ key_of x → Keyed rates periods s at key q x.kind = λ key q e. (f.kind, ranged, e ∙ sym (ap key_of f.numbers)) in
      record {
        named_most = marks.only ports m.named_most (covers_flow rates ports s at c t.routes);
        extras =
            most_mark d.seen (key_of x) extra_keys port_slots ports m.extras
            (λ q l e. c q (extra_there rates periods s at q x.kind l (keyed extra_keys q e) t.extras));
        jitters =
            most_mark d.seen (key_of x) jitter_keys flow_slots flows m.jitters
            (λ q l e. g q (jitter_there rates periods s at q x.kind l (keyed jitter_keys q e) t.jitters));
      }
