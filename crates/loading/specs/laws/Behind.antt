-- What the fields of a plan name was marked as they were read: test 9 finds a field exactly where something marked was not read.
use Rattle.std.specs.Prelude.{ℕ, ◌+◌, ◌≤◌, ◌<◌, ◌≡◌, refl, List, Bool, true, false, ltb, length, replicate}
use Rattle.std.proofs.Common.{sym, ◌∙◌, subst, true≢false, arith, le-ltb, ltb-false}
use Rattle.cqf.specs.Form.{Form}
use Rattle.cqf.specs.Limits.{port_slots, flow_slots}
use Rattle.plan.specs.Bytes.{head_size, size_at, whole_at}
use Rattle.plan.specs.Field.{Field, field, field_at}
use Rattle.plan_reading.specs.Key.{port_keys, flow_keys, extra_keys, jitter_keys}
use Rattle.plan_reading.specs.Draft.{Draft, added}
use Rattle.plan_reading.specs.Reading.{Mode, more, step_at, route_at, names_absent, jitter_absent, extra_absent, first_absent}
use Rattle.plan_reading.specs.laws.fields.Passes.{field_is_whole, field_passes}
use Rattle.plan_reading.specs.laws.fields.Found.{found_forward, found_within}
use Rattle.plan_reading.specs.laws.reading.Steps.{step_more}
use Rattle.plan_reading.specs.laws.reading.Absent.{AllThere, first_extra, all_there, there_front}
use Rattle.plan_reading.specs.laws.rows.RowAbsent.{none_at_end, none_more}
use Rattle.plan_reading.specs.laws.stores.Stored.{Flagged, added_flagged}
use Rattle.loading.specs.Loading.{Covers, Marks, marks_of, any_absent}
use Rattle.loading.specs.laws.Covers.{most_blank, marks_most_blank}
use Rattle.loading.specs.laws.Filled.{Filled}
use Rattle.loading.specs.laws.Named.{NamedIn, named_in, MarkedIn, none_absent, named_here, named-before, marked-after}

-- the fields before this offset: in a plan that has all that they name none of them names what is absent; and where no field does, only
-- what is in the plan is marked
pub record Behind (bytes named : List ℕ) (d : Draft) (at : ℕ) : Type 0 where
  pub found : (rates periods : List ℕ) → NamedIn named d.seen rates periods → AllThere rates periods bytes at → AllThere rates periods bytes 0
  pub marked
      : (rates periods ports flows : List ℕ)
      → Covers rates ports
      → Covers periods flows
      → AllThere rates periods bytes 0
      → MarkedIn named d.seen ports flows × AllThere rates periods bytes at

-- so the fields are passed one by one
pub flagged_next
    : (form : Form) (mode : Mode) (s : List ℕ) (at last : ℕ) (d : Draft) (next key : ℕ) (d' : Draft)
    → step_at form mode s at last d ≡ more next key d'
    → Flagged d
    → Flagged d'
flagged_next form mode s at last d next key d' e flagged =
    let t = step_more form mode s at last d next key d' e in
    subst Flagged t.adds (added_flagged d t.part (route_at t.part.kind s at) flagged)

behind-added
    : (form : Form) (s : List ℕ) (at : ℕ) (d : Draft) (x : Field) (next : ℕ) (r named wider : List ℕ)
    → field_at form s at ≡ field x next
    → Flagged d
    → Marks named wider s at
    → Behind s named d at
    → Behind s wider (added d x r) next
unfolding added
behind-added form s at d x next r named wider stands flagged marks behind =
    record {
      found = λ rates periods c rest.
          let here = named_here form s at d x next stands flagged named wider marks rates periods c in
          let all : AllThere rates periods s (at + head_size + size_at s at) = rw follows at rest in
          behind.found rates periods (named-before form s at d x next stands flagged named wider marks rates periods c)
          (record {
            routes = none_more (names_absent rates) s at w here.routes all.routes;
            jitters = none_more (jitter_absent periods) s at w here.jitters all.jitters;
            extras = none_more (extra_absent rates) s at w here.extras all.extras;
          });
      marked = λ rates periods ports flows c g all.
          let t = behind.marked rates periods ports flows c g all in
          let u = there_front rates periods s at less w t.1 in
          (marked-after form s at d x next stands flagged named wider marks rates periods ports flows c g u.0 t.0, rw follows u.1);
    }
  where
    w : whole_at s at ≡ true
    w = field_is_whole form s at x next stands

    follows : next ≡ at + head_size + size_at s at
    follows = (field_passes form s at x next stands).follows

    less : at < length s
    less = omega (arith, found_forward form s at x next stands, found_within form s at x next stands)

pub behind-next
    : (form : Form) (mode : Mode) (s : List ℕ) (at last : ℕ) (d : Draft) (next key : ℕ) (d' : Draft) (named wider : List ℕ)
    → step_at form mode s at last d ≡ more next key d'
    → Flagged d
    → Marks named wider s at
    → Behind s named d at
    → Behind s wider d' next
behind-next form mode s at last d next key d' named wider e flagged marks behind =
    let t = step_more form mode s at last d next key d' e in
    subst (λ (y : Draft). Behind s wider y next) t.adds
    (behind-added form s at d t.part next (route_at t.part.kind s at) named wider t.stands flagged marks behind)

-- at first nothing is marked
pub behind-none : (s : List ℕ) (d : Draft) (n m : ℕ) → d.seen ≡ replicate m 0 → Behind s (replicate n 0) d 0
behind-none s d n m e =
    record {
      found = λ rates periods c all. all;
      marked = λ rates periods ports flows c g all. (
        record {
          named_most = most_blank n ports;
          extras = rw e (marks_most_blank m extra_keys port_slots ports);
          jitters = rw e (marks_most_blank m jitter_keys flow_slots flows);
        },
        all,
      );
    }

-- after the last field test 9 finds a field exactly where something is absent
pub behind_end
    : (s named : List ℕ) (d : Draft) (at : ℕ)
    → length s ≤ at
    → Filled d
    → Behind s named d at
    → any_absent named d.seen ≡ ltb (first_absent d.tables.rates d.tables.periods s) (length s)
behind_end s named d at end filled behind = go (any_absent named d.seen) refl (ltb (first_absent rates periods s) (length s)) refl
  where
    rates : List ℕ
    rates = d.tables.rates

    periods : List ℕ
    periods = d.tables.periods

    none : any_absent named d.seen ≡ false → length s ≤ first_absent rates periods s
    none e =
        let all =
        behind.found rates periods (named_in named d filled e)
        (record {
          routes = none_at_end (names_absent rates) s at end;
          jitters = none_at_end (jitter_absent periods) s at end;
          extras = none_at_end (extra_absent rates) s at end;
        }) in
        rw (first_extra rates periods s all.routes all.jitters) all.extras

    go
        : (a : Bool)
        → any_absent named d.seen ≡ a
        → (b : Bool)
        → ltb (first_absent rates periods s) (length s) ≡ b
        → any_absent named d.seen ≡ ltb (first_absent rates periods s) (length s)
    go false p b q = p ∙ sym (le-ltb _ _ (none p))
    go true p true q = p ∙ sym q
    go true p false q =
        let t =
        behind.marked rates periods (marks_of d.seen port_keys port_slots) (marks_of d.seen flow_keys flow_slots) filled.ports_only filled.flows_only
        (all_there rates periods s (ltb-false _ _ q)) in
        absurd (true≢false (sym p ∙ none_absent named d.seen t.0))
