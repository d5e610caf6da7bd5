-- What goes by the kind of a field, kind by kind: what its parts are, its key among those of its tag, and what it names. A new kind
-- has a case in each.
use Rattle.std.specs.Prelude.{ℕ, zero, suc, ◌+◌, ◌-◌, ◌≤◌, ◌<◌, ◌≡◌, refl, List, [], true, false, cond, ◌||◌, eqb, ltb, length, get_or, set}
use Rattle.std.proofs.Common.{sym, ◌∙◌, subst, arith, le-leb}
use Rattle.std.proofs.lemmas.Bool.{not-false}
use Rattle.cqf.specs.Form.{Form, older, newer}
use Rattle.cqf.specs.Limits.{port_slots, flow_slots, max_hops, top_ok, hops_ok}
use Rattle.cqf.specs.Plan.{Plan}
use Rattle.plan.specs.Bytes.{tag_at, value_at}
use Rattle.plan.specs.Layout.{Kind, layout, hops_allowed}
use Rattle.plan.specs.Field.{Field, field_by}
use Rattle.plan_reading.specs.Part.{Part, parts_by, parts_of}
use Rattle.plan_reading.specs.Key.{header_key, key_slots, key_of}
use Rattle.plan_reading.specs.Rank.{tag_of, number_of}
use Rattle.plan_reading.specs.Store.{store, store_all}
use Rattle.plan_reading.specs.Draft.{field_repeats, ports_in, flows_in, sum_of}
use Rattle.plan_reading.specs.FieldOrder.{SaysNothing, AllNothing}
use Rattle.plan_reading.specs.Ranges.{NumbersOk, RouteOk, RouteFits, PartOk}
use Rattle.plan_reading.specs.Reading.{route_at, absent_in, names_absent, jitter_absent, extra_absent}
use Rattle.plan_reading.specs.laws.fields.Within.{within_low, within_high, slot_below}
use Rattle.plan_reading.specs.laws.fields.Ranged.{InRange, in_range, All}
use Rattle.plan_reading.specs.laws.fields.ByPart.{part_key, owner, own_first, own_second, Separate, Once}
use Rattle.plan_reading.specs.laws.fields.Counted.{Counted, counted_other, counted-own}
use Rattle.plan_reading.specs.laws.fields.Passes.{Passes}
use Rattle.plan_reading.specs.laws.reading.Absent.{NamedThere, NamesPresent, Present, there_route, there_route2, there_jitter, there_extra}

-- the key of a field of this kind with these numbers
abbrev key_by : Kind → List ℕ → ℕ
key_by k ns = (layout k).key + cond (layout k).numbered (get_or ns 0 0) 0

-- a route of at most sixteen ports is no longer than a route may be
few_hops : (h m : ℕ) → m ≡ h → hops_allowed (layout Kind.flow).most_hops h ≡ true → hops_ok m ≡ true
few_hops h m e ok =
    let low = within_low 1 (layout Kind.flow).most_hops h ok in
    let high = within_high 1 (layout Kind.flow).most_hops h ok in
    rw (le-leb 1 m (omega arith), le-leb m max_hops (omega arith))

-- the parts of a field: one differs from the others, one is a port at the most and one a flow, the only route is the field's, and they
-- are in range where the field is
record Said (k : Kind) (ns r : List ℕ) : Type 0 where
  separate : Separate (parts_by k ns r)
  ports : sum_of ports_in (parts_by k ns r) ≤ 1
  flows : sum_of flows_in (parts_by k ns r) ≤ 1
  once : field_repeats r ≡ false → All Once (parts_by k ns r)
  nothing : AllNothing (parts_by k ns []) → AllNothing (parts_by k ns r)

said : (k : Kind) (ns r : List ℕ) → Said k ns r
said Kind.header ns r = record { separate = (tt, tt); ports = omega arith; flows = omega arith; once = λ e. (tt, tt); nothing = λ h. h }
said Kind.port ns r = record { separate = (tt, tt); ports = omega arith; flows = omega arith; once = λ e. (tt, tt); nothing = λ h. h }
said Kind.flow ns r = record { separate = (tt, tt); ports = omega arith; flows = omega arith; once = λ e. (not-false _ e, tt); nothing = λ h. h }
said Kind.extra ns r = record { separate = (tt, tt); ports = omega arith; flows = omega arith; once = λ e. (tt, tt); nothing = λ h. h }
said Kind.jitter ns r = record { separate = (tt, tt); ports = omega arith; flows = omega arith; once = λ e. (tt, tt); nothing = λ h. h }
said Kind.clock ns r = record { separate = (tt, tt); ports = omega arith; flows = omega arith; once = λ e. (tt, tt); nothing = λ h. h }
said Kind.header2 ns r =
    record {
      separate = ((λ e. omega arith, tt), (tt, tt));
      ports = omega arith;
      flows = omega arith;
      once = λ e. (tt, (tt, tt));
      nothing = λ h. h;
    }
said Kind.port2 ns r =
    record {
      separate = ((λ e. omega arith, tt), (tt, tt));
      ports = omega arith;
      flows = omega arith;
      once = λ e. (tt, (tt, tt));
      nothing = λ h. h;
    }
said Kind.flow2 ns r =
    record {
      separate = ((λ e. omega arith, tt), (tt, tt));
      ports = omega arith;
      flows = omega arith;
      once = λ e. (not-false _ e, (tt, tt));
      nothing = λ h. h;
    }

-- each has a key of which the field's is the owner, in a plan of the field's form
owned : (k : Kind) (ns r : List ℕ) → InRange (layout k).numbers 0 ns → All (λ u. owner (layout k).form (part_key u) ≡ key_by k ns) (parts_by k ns r)
unfolding owner
owned Kind.header ns r t = (refl, tt)
owned Kind.port ns r t = (refl, tt)
owned Kind.flow ns r t = (refl, tt)
owned Kind.extra ns r t = (refl, tt)
owned Kind.jitter ns r t = (refl, tt)
owned Kind.clock ns r t = (refl, tt)
owned Kind.header2 ns r t = (refl, (refl, tt))
owned Kind.port2 ns r t =
    let low = within_low _ _ (get_or ns 0 0) t.0 in
    let high = within_high _ _ (get_or ns 0 0) t.0 in
    let n = get_or ns 0 0 in
    let key = key_by Kind.port2 ns in
    (own_first (header_key + n) key (omega arith) (omega arith), (own_second (port_slots + flow_slots + n) key (omega arith) (omega arith) (omega arith), tt))
owned Kind.flow2 ns r t =
    let low = within_low _ _ (get_or ns 0 0) t.0 in
    let high = within_high _ _ (get_or ns 0 0) t.0 in
    let n = get_or ns 0 0 in
    let key = key_by Kind.flow2 ns in
    (own_first (port_slots + n) key (omega arith) (omega arith), (own_second (port_slots + flow_slots + port_slots + n) key (omega arith) (omega arith) (omega arith), tt))

Parts-in
    : (k : Kind) (ns : List ℕ) (h : ℕ) (r : List ℕ)
    → InRange (layout k).numbers 0 ns
    → hops_allowed (layout k).most_hops h ≡ true
    → RouteOk h r
    → All PartOk (parts_by k ns r)
Parts-in Kind.header ns h r t m on = (record { guard = t.0; top = t.1.0 }, tt)
Parts-in Kind.port ns h r t m on = (record { number = t.0; rate = t.1.0; blocking = t.1.1.0 }, tt)
Parts-in Kind.flow ns h r t m on = (record { number = t.0; period = t.1.0; count = t.1.1.0; length = t.1.1.1.0; hops = few_hops h (length r) on.hops m }, tt)
Parts-in Kind.extra ns h r t m on = (record { number = t.0; bytes = t.1.0 }, tt)
Parts-in Kind.jitter ns h r t m on = (record { number = t.0; ns = t.1.0 }, tt)
Parts-in Kind.clock ns h r t m on = (rw (t.0, t.1.0, t.1.1.0), tt)
Parts-in Kind.header2 ns h r t m on = (record { guard = t.0; top = t.1.0 }, (rw (t.1.1.0, t.1.1.1.0, t.1.1.1.1.0), tt))
Parts-in Kind.port2 ns h r t m on = (
  record { number = t.0; rate = t.1.0; blocking = t.1.1.0 },
  (record { number = t.0; bytes = t.1.1.1.0 }, tt),
)
Parts-in Kind.flow2 ns h r t m on = (
  record { number = t.0; period = t.1.0; count = t.1.1.0; length = t.1.1.1.0; hops = rw on.hops m },
  (record { number = t.0; ns = t.1.1.1.1.0 }, tt),
)

-- a header brings a top in range
top_in : (k : Kind) (ns r : List ℕ) (p : Plan) → InRange (layout k).numbers 0 ns → key_by k ns ≡ header_key → top_ok (store_all p (parts_by k ns r)).top ≡ true
unfolding store_all store
top_in Kind.header ns r p t e = t.1.0
top_in Kind.port ns r p t e = absurd (omega (arith, within_low _ _ (get_or ns 0 0) t.0))
top_in Kind.flow ns r p t e = absurd (omega arith)
top_in Kind.extra ns r p t e = absurd (omega arith)
top_in Kind.jitter ns r p t e = absurd (omega arith)
top_in Kind.clock ns r p t e = absurd (omega arith)
top_in Kind.header2 ns r p t e = t.1.0
top_in Kind.port2 ns r p t e = absurd (omega (arith, within_low _ _ (get_or ns 0 0) t.0))
top_in Kind.flow2 ns r p t e = absurd (omega arith)

-- the bytes that begin with a header's tell the form
tells_in : (k : Kind) (ns : List ℕ) → InRange (layout k).numbers 0 ns → key_by k ns ≡ header_key → cond (eqb (layout k).tag (layout Kind.header2).tag) newer older ≡ (layout k).form
tells_in Kind.header ns t e = refl
tells_in Kind.port ns t e = refl
tells_in Kind.flow ns t e = refl
tells_in Kind.extra ns t e = refl
tells_in Kind.jitter ns t e = refl
tells_in Kind.clock ns t e = refl
tells_in Kind.header2 ns t e = refl
tells_in Kind.port2 ns t e = absurd (omega (arith, within_low _ _ (get_or ns 0 0) t.0))
tells_in Kind.flow2 ns t e = absurd (omega arith)

-- what it brings to the rates and to the periods: nothing, or one number above 0 at the place of its key
module _ (p : Plan) (seen r : List ℕ) (ports flows : ℕ) where
  abbrev Ports : Kind → List ℕ → Type 0
  Ports k ns = Counted (store_all p (parts_by k ns r)).rates (set seen (key_by k ns) 1) 1 port_slots (ports + sum_of ports_in (parts_by k ns r))

  abbrev Flows : Kind → List ℕ → Type 0
  Flows k ns = Counted (store_all p (parts_by k ns r)).periods (set seen (key_by k ns) 1) (port_slots + 1) flow_slots (flows + sum_of flows_in (parts_by k ns r))

  counted_in
      : (k : Kind) (ns : List ℕ)
      → InRange (layout k).numbers 0 ns
      → key_by k ns < length seen
      → ltb 0 (get_or seen (key_by k ns) 0) ≡ false
      → Counted p.rates seen 1 port_slots ports
      → Counted p.periods seen (port_slots + 1) flow_slots flows
      → Ports k ns × Flows k ns
  unfolding store_all store
  counted_in Kind.header ns t fits fresh rates periods = (counted_other rates fits, counted_other periods fits)
  counted_in Kind.port ns t fits fresh rates periods =
      let low = within_low 1 port_slots (get_or ns 0 0) t.0 in (
        counted-own rates fits (get_or ns 0 0 - 1) (get_or ns 1 0) (omega arith) (slot_below port_slots (get_or ns 0 0) t.0) (within_low 1 _ (get_or ns 1 0) t.1.0) fresh,
        counted_other periods fits,
      )
  counted_in Kind.flow ns t fits fresh rates periods =
      let low = within_low 1 flow_slots (get_or ns 0 0) t.0 in (
        counted_other rates fits,
        counted-own periods fits (get_or ns 0 0 - 1) (get_or ns 1 0) (omega arith) (slot_below flow_slots (get_or ns 0 0) t.0) (omega (arith, within_low _ _ (get_or ns 1 0) t.1.0)) fresh,
      )
  counted_in Kind.extra ns t fits fresh rates periods = (counted_other rates fits, counted_other periods fits)
  counted_in Kind.jitter ns t fits fresh rates periods = (counted_other rates fits, counted_other periods fits)
  counted_in Kind.clock ns t fits fresh rates periods = (counted_other rates fits, counted_other periods fits)
  counted_in Kind.header2 ns t fits fresh rates periods = (counted_other rates fits, counted_other periods fits)
  counted_in Kind.port2 ns t fits fresh rates periods =
      let low = within_low 1 port_slots (get_or ns 0 0) t.0 in (
        counted-own rates fits (get_or ns 0 0 - 1) (get_or ns 1 0) (omega arith) (slot_below port_slots (get_or ns 0 0) t.0) (within_low 1 _ (get_or ns 1 0) t.1.0) fresh,
        counted_other periods fits,
      )
  counted_in Kind.flow2 ns t fits fresh rates periods =
      let low = within_low 1 flow_slots (get_or ns 0 0) t.0 in (
        counted_other rates fits,
        counted-own periods fits (get_or ns 0 0 - 1) (get_or ns 1 0) (omega arith) (slot_below flow_slots (get_or ns 0 0) t.0) (omega (arith, within_low _ _ (get_or ns 1 0) t.1.0)) fresh,
      )

-- the keys of a form are given out tag after tag, to each as many as it has numbers: the first number that a tag has, and how many
unfoldable pub first_number : Form → ℕ → ℕ
first_number older tag = cond (eqb tag (layout Kind.header).tag || eqb tag (layout Kind.clock).tag) 0 1
first_number newer tag = cond (eqb tag (layout Kind.header2).tag) 0 1

unfoldable pub numbers : Form → ℕ → ℕ
numbers older tag =
    cond (eqb tag (layout Kind.header).tag) 1
    (cond (eqb tag (layout Kind.port).tag) port_slots
    (cond (eqb tag (layout Kind.flow).tag) flow_slots
    (cond (eqb tag (layout Kind.extra).tag) port_slots
    (cond (eqb tag (layout Kind.jitter).tag) flow_slots
    (cond (eqb tag (layout Kind.clock).tag) 1
    0)))))
numbers newer tag =
    cond (eqb tag (layout Kind.header2).tag) 1
    (cond (eqb tag (layout Kind.port2).tag) port_slots
    (cond (eqb tag (layout Kind.flow2).tag) flow_slots
    0))

-- the first key of a tag
unfoldable pub first_key : Form → ℕ → ℕ
unfolding numbers
first_key form zero = 0
first_key form (suc tag) = first_key form tag + numbers form tag

-- a field has the key of its number among those of its tag
pub record Keyed (form : Form) (tag number key : ℕ) : Type 0 where
  pub numbered : first_number form tag ≤ number
  pub placed : key + first_number form tag ≡ first_key form tag + number
  pub fits : key < first_key form (suc tag)
  pub below : key < key_slots

keyed_in
    : (k : Kind) (ns : List ℕ)
    → InRange (layout k).numbers 0 ns
    → Keyed (layout k).form (layout k).tag (cond (layout k).numbered (get_or ns 0 0) 0) (key_by k ns)
unfolding first_number numbers first_key
keyed_in Kind.header ns t = record { numbered = omega arith; placed = refl; fits = omega arith; below = omega arith }
keyed_in Kind.port ns t =
    let low = within_low _ _ (get_or ns 0 0) t.0 in
    let high = within_high _ _ (get_or ns 0 0) t.0 in
    record { numbered = low; placed = omega arith; fits = omega arith; below = omega arith }
keyed_in Kind.flow ns t =
    let low = within_low _ _ (get_or ns 0 0) t.0 in
    let high = within_high _ _ (get_or ns 0 0) t.0 in
    record { numbered = low; placed = omega arith; fits = omega arith; below = omega arith }
keyed_in Kind.extra ns t =
    let low = within_low _ _ (get_or ns 0 0) t.0 in
    let high = within_high _ _ (get_or ns 0 0) t.0 in
    record { numbered = low; placed = omega arith; fits = omega arith; below = omega arith }
keyed_in Kind.jitter ns t =
    let low = within_low _ _ (get_or ns 0 0) t.0 in
    let high = within_high _ _ (get_or ns 0 0) t.0 in
    record { numbered = low; placed = omega arith; fits = omega arith; below = omega arith }
keyed_in Kind.clock ns t = record { numbered = omega arith; placed = refl; fits = omega arith; below = omega arith }
keyed_in Kind.header2 ns t = record { numbered = omega arith; placed = refl; fits = omega arith; below = omega arith }
keyed_in Kind.port2 ns t =
    let low = within_low _ _ (get_or ns 0 0) t.0 in
    let high = within_high _ _ (get_or ns 0 0) t.0 in
    record { numbered = low; placed = omega arith; fits = omega arith; below = omega arith }
keyed_in Kind.flow2 ns t =
    let low = within_low _ _ (get_or ns 0 0) t.0 in
    let high = within_high _ _ (get_or ns 0 0) t.0 in
    record { numbered = low; placed = omega arith; fits = omega arith; below = omega arith }

-- of a field
module _ {form : Form} (x : Field) (k : NumbersOk form x) where
  in_rows : InRange (layout x.kind).numbers 0 x.numbers
  in_rows = in_range (layout x.kind).numbers x.numbers k.ranges

  pub keyed : Keyed form (tag_of x) (number_of x) (key_of x)
  keyed = subst (λ (f : Form). Keyed f (tag_of x) (number_of x) (key_of x)) k.kind (keyed_in x.kind x.numbers in_rows)

  pub parts_owned : (r : List ℕ) → All (λ u. owner form (part_key u) ≡ key_of x) (parts_of x r)
  parts_owned r =
      subst (λ (f : Form). All (λ u. owner f (part_key u) ≡ key_of x) (parts_of x r)) k.kind (owned x.kind x.numbers r in_rows)

  -- it has its flag
  pub key_below : key_of x < key_slots
  key_below = keyed.below

  pub header_tells : key_of x ≡ header_key → cond (eqb (tag_of x) (layout Kind.header2).tag) newer older ≡ form
  header_tells e = tells_in x.kind x.numbers in_rows e ∙ k.kind

  pub header_top : (r : List ℕ) (p : Plan) → key_of x ≡ header_key → top_ok (store_all p (parts_of x r)).top ≡ true
  header_top r p = top_in x.kind x.numbers r p in_rows

  pub counted
      : (r : List ℕ) (p : Plan) (seen : List ℕ) {ports flows : ℕ}
      → key_of x < length seen
      → ltb 0 (get_or seen (key_of x) 0) ≡ false
      → Counted p.rates seen 1 port_slots ports
      → Counted p.periods seen (port_slots + 1) flow_slots flows
      → Ports p seen r ports flows x.kind x.numbers × Flows p seen r ports flows x.kind x.numbers
  counted r p seen {ports} {flows} = counted_in p seen r ports flows x.kind x.numbers in_rows

  pub parts_ok : (r : List ℕ) → RouteFits x r → All PartOk (parts_of x r)
  parts_ok r on = Parts-in x.kind x.numbers x.hops r in_rows k.hops on

module _ (x : Field) (r : List ℕ) where
  pub own_separate : Separate (parts_of x r)
  own_separate = (said x.kind x.numbers r).separate

  pub ports_one : sum_of ports_in (parts_of x r) ≤ 1
  ports_one = (said x.kind x.numbers r).ports

  pub flows_one : sum_of flows_in (parts_of x r) ≤ 1
  flows_one = (said x.kind x.numbers r).flows

  pub parts_once : field_repeats r ≡ false → All Once (parts_of x r)
  parts_once = (said x.kind x.numbers r).once

  pub routeless : SaysNothing x → AllNothing (parts_of x r)
  routeless = (said x.kind x.numbers r).nothing

-- so test 9 finds the field at this offset just where its parts name what is absent, where the port or the flow that it is of is there
module _ (rates periods s : List ℕ) (at : ℕ) where
  abbrev AllParts : (Part → Type 0) → Kind → Type 0
  AllParts P k = All P (parts_of (field_by k (value_at s at)) (route_at k s at))

  abbrev Named : Kind → Type 0
  Named = AllParts (NamesPresent rates periods)

  there_present : (k : Kind) → tag_at s at ≡ (layout k).tag → NamedThere rates periods s at → AllParts (Present rates periods) k → Named k
  there_present Kind.header e h own = (tt, tt)
  there_present Kind.port e h own = (tt, tt)
  there_present Kind.flow e h own = (there_route rates periods s at e h, tt)
  there_present Kind.extra e h own = (there_extra rates periods s at e h, tt)
  there_present Kind.jitter e h own = (there_jitter rates periods s at e h, tt)
  there_present Kind.clock e h own = (tt, tt)
  there_present Kind.header2 e h own = (tt, (tt, tt))
  there_present Kind.port2 e h own = (tt, (own.0, tt))
  there_present Kind.flow2 e h own = (there_route2 rates periods s at e h, (own.0, tt))

  present_there : (k : Kind) → tag_at s at ≡ (layout k).tag → Named k → NamedThere rates periods s at
  unfolding names_absent absent_in jitter_absent extra_absent
  present_there Kind.header e h = record { routes = rw e; jitters = rw e; extras = rw e }
  present_there Kind.port e h = record { routes = rw e; jitters = rw e; extras = rw e }
  present_there Kind.flow e h = record { routes = rw (e, h.0); jitters = rw e; extras = rw e }
  present_there Kind.extra e h = record { routes = rw e; jitters = rw e; extras = rw (e, h.0) }
  present_there Kind.jitter e h = record { routes = rw e; jitters = rw (e, h.0); extras = rw e }
  present_there Kind.clock e h = record { routes = rw e; jitters = rw e; extras = rw e }
  present_there Kind.header2 e h = record { routes = rw e; jitters = rw e; extras = rw e }
  present_there Kind.port2 e h = record { routes = rw e; jitters = rw e; extras = rw e }
  present_there Kind.flow2 e h = record { routes = rw (e, h.0); jitters = rw e; extras = rw e }

  module _ {form : Form} (x : Field) (k : Passes form (tag_at s at) (value_at s at) x) where
    abbrev OfField : (Part → Type 0) → Field → Type 0
    OfField P y = All P (parts_of y (route_at x.kind s at))

    pub parts_present : NamedThere rates periods s at → OfField (Present rates periods) x → OfField (NamesPresent rates periods) x
    parts_present h own =
        subst (OfField (NamesPresent rates periods)) k.numbers
        (there_present x.kind k.kind h (subst (OfField (Present rates periods)) (sym k.numbers) own))

    pub names_there : OfField (NamesPresent rates periods) x → NamedThere rates periods s at
    names_there h = present_there x.kind k.kind (subst (OfField (NamesPresent rates periods)) (sym k.numbers) h)
