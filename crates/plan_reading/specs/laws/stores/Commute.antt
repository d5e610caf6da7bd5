-- Two parts of different keys are stored in either order: column by column, what each puts there stands where its key says. So are
-- two fields.
use Rattle.std.specs.Prelude.{◌≡◌, refl, ◌≢◌, List, [], ◌∷◌, true, false, ℕ, ◌+◌, ◌-◌, ◌*◌, ◌≤◌}
use Rattle.std.proofs.Common.{sym, ap, ◌∙◌, true≢false, arith, get_or-set_same, get_or-set_other}
use Rattle.std.proofs.Math.Option.{none}
use Rattle.std.proofs.Math.ListN.{length}
use Rattle.std.proofs.lemmas.List.{set_comm}
use Rattle.cqf.specs.Form.{Form}
use Rattle.cqf.specs.Limits.{port_slots, flow_slots, route_stride, port_ok, flow_ok}
use Rattle.cqf.specs.Plan.{Clock, Plan}
use Rattle.plan.specs.Field.{Field}
use Rattle.plan_reading.specs.Part.{Part, parts_of}
use Rattle.plan_reading.specs.Key.{header_key, port_keys, flow_keys, extra_keys, jitter_keys, clock_key, key_slots, key_of}
use Rattle.plan_reading.specs.Put.{keep, put, given}
use Rattle.plan_reading.specs.Store.{header_number, port_number, flow_number, puts_clock, puts_extra, puts_jitter, puts_route, store, store_all}
use Rattle.plan_reading.specs.Draft.{Draft, taken, added, ports_in, flows_in, sum_of}
use Rattle.plan_reading.specs.Ranges.{NumbersOk, RouteFits, PartOk}
use Rattle.plan_reading.specs.laws.fields.Within.{within_low, within_high}
use Rattle.plan_reading.specs.laws.fields.ByPart.{of_header, of_port, of_flow, of_extra, of_jitter, of_clock, part_key, owner, Apart}
use Rattle.plan_reading.specs.laws.fields.Kinds.{key_below, parts_ok, parts_owned}
use Rattle.plan_reading.specs.laws.fields.Ranged.{All, all_map}
use Rattle.plan_reading.specs.laws.stores.Puts.{Block, Placed, put_comm, Owned, given_comm}

-- test 6 of one does not see another of a different key
pub taken-apart : (d : Draft) (x y : Field) (r : List ℕ) → key_of x ≢ key_of y → taken (added d x r) y ≡ taken d y
unfolding added
taken-apart d x y r differ = rw (get_or-set_other d.seen (key_of x) (key_of y) 1 0 (λ e. differ (sym e)))

-- fields of which neither is refused for the other have different keys
pub fresh_apart
    : {form : Form} (d : Draft) (x y : Field) (r : List ℕ)
    → length d.seen ≡ key_slots
    → NumbersOk form x
    → taken (added d x r) y ≡ false
    → key_of x ≢ key_of y
unfolding added
fresh_apart d x y r sized k e same =
    let fits = key_below x k in
    let here = get_or-set_same d.seen (key_of x) 1 0 (omega arith) in
    true≢false (rw (← same, here) at e)

-- the blocks of a port's, of a flow's, of the extra bytes' and of the jitters' columns
port_block : (n : ℕ) → port_ok n ≡ true → Block port_keys 1 (header_key + n) (n - 1) 1
port_block n ok =
    let low = within_low 1 port_slots n ok in
    record { owned = omega arith; here = omega arith; fits = omega arith }

flow_block : (n i width m : ℕ) → flow_ok n ≡ true → i ≡ (n - 1) * width → m ≤ width → Block flow_keys width (port_slots + n) i m
flow_block n i width m ok here fits =
    let low = within_low 1 flow_slots n ok in
    let slot : port_slots + n - flow_keys ≡ n - 1 = omega arith in
    record { owned = omega arith; here = rw slot here; fits = fits }

extra_block : (n : ℕ) → port_ok n ≡ true → Block extra_keys 1 (port_slots + flow_slots + n) (n - 1) 1
extra_block n ok =
    let low = within_low 1 port_slots n ok in
    record { owned = omega arith; here = omega arith; fits = omega arith }

jitter_block : (n : ℕ) → flow_ok n ≡ true → Block jitter_keys 1 (port_slots + flow_slots + port_slots + n) (n - 1) 1
jitter_block n ok =
    let low = within_low 1 flow_slots n ok in
    record { owned = omega arith; here = omega arith; fits = omega arith }

-- where what a part puts stands: a number of the header, the clock, a number of a port, of a flow, the route, extra bytes, and
-- a jitter
header_owned : (which : (guard top : ℕ) → ℕ) (x : Part) → PartOk x → Owned header_key (part_key x) (header_number which x)
header_owned which = of_header (Owned header_key) none (λ key. tt) _ (λ g t ok. refl)

clock_owned : (x : Part) → PartOk x → Owned clock_key (part_key x) (puts_clock x)
clock_owned = of_clock (Owned clock_key) none (λ key. tt) _ (λ c ok. refl)

port-placed : (which : (number rate blocking : ℕ) → ℕ) (x : Part) → PartOk x → Placed port_keys 1 (part_key x) (port_number which x)
port-placed which = of_port (Placed port_keys 1) keep (λ key. tt) _ (λ n r b ok. port_block n ok.number)

flow_placed
    : (which : (number period count bytes : ℕ) (route : List ℕ) → ℕ) (x : Part)
    → PartOk x
    → Placed flow_keys 1 (part_key x) (flow_number which x)
flow_placed which =
    of_flow (Placed flow_keys 1) keep (λ key. tt) _
    (λ n p c l r ok. flow_block n (n - 1) 1 1 ok.number (omega arith) (omega arith))

route_placed : (x : Part) → PartOk x → Placed flow_keys route_stride (part_key x) (puts_route x)
route_placed =
    of_flow (Placed flow_keys route_stride) keep (λ key. tt) _
    (λ n p c l r ok.
    flow_block n ((n - 1) * route_stride) route_stride (length r) ok.number refl
    (omega (arith, within_high _ _ (length r) ok.hops)))

extra-placed : (x : Part) → PartOk x → Placed extra_keys 1 (part_key x) (puts_extra x)
extra-placed = of_extra (Placed extra_keys 1) keep (λ key. tt) _ (λ n b ok. extra_block n ok.number)

jitter-placed : (x : Part) → PartOk x → Placed jitter_keys 1 (part_key x) (puts_jitter x)
jitter-placed = of_jitter (Placed jitter_keys 1) keep (λ key. tt) _ (λ n j ok. jitter_block n ok.number)

-- the order of two parts of different keys is free, in each column and so in the tables
module _ (x y : Part) (k : PartOk x) (m : PartOk y) (differ : part_key x ≢ part_key y) where
  header_comm : (which : (guard top : ℕ) → ℕ) (n : ℕ) → let u = header_number which in given (given n (u x)) (u y) ≡ given (given n (u y)) (u x)
  header_comm which n =
      given_comm header_key (part_key x) (part_key y) differ n (header_number which x) (header_number which y)
      (header_owned which x k)
      (header_owned which y m)

  clock_comm : (c : Clock) → given (given c (puts_clock x)) (puts_clock y) ≡ given (given c (puts_clock y)) (puts_clock x)
  clock_comm c =
      given_comm clock_key (part_key x) (part_key y) differ c (puts_clock x) (puts_clock y)
      (clock_owned x k)
      (clock_owned y m)

  port_comm : (which : (number rate blocking : ℕ) → ℕ) (l : List ℕ) → let u = port_number which in put (put l (u x)) (u y) ≡ put (put l (u y)) (u x)
  port_comm which l =
      put_comm port_keys 1 (part_key x) (part_key y) differ l (port_number which x) (port_number which y)
      (port-placed which x k)
      (port-placed which y m)

  flow_comm
      : (which : (number period count bytes : ℕ) (route : List ℕ) → ℕ) (l : List ℕ)
      → let u = flow_number which in
      put (put l (u x)) (u y) ≡ put (put l (u y)) (u x)
  flow_comm which l =
      put_comm flow_keys 1 (part_key x) (part_key y) differ l (flow_number which x) (flow_number which y)
      (flow_placed which x k)
      (flow_placed which y m)

  route_comm : (l : List ℕ) → put (put l (puts_route x)) (puts_route y) ≡ put (put l (puts_route y)) (puts_route x)
  route_comm l =
      put_comm flow_keys route_stride (part_key x) (part_key y) differ l (puts_route x) (puts_route y)
      (route_placed x k)
      (route_placed y m)

  extra_comm : (l : List ℕ) → put (put l (puts_extra x)) (puts_extra y) ≡ put (put l (puts_extra y)) (puts_extra x)
  extra_comm l =
      put_comm extra_keys 1 (part_key x) (part_key y) differ l (puts_extra x) (puts_extra y)
      (extra-placed x k)
      (extra-placed y m)

  jitter_comm : (l : List ℕ) → put (put l (puts_jitter x)) (puts_jitter y) ≡ put (put l (puts_jitter y)) (puts_jitter x)
  jitter_comm l =
      put_comm jitter_keys 1 (part_key x) (part_key y) differ l (puts_jitter x) (puts_jitter y)
      (jitter-placed x k)
      (jitter-placed y m)

  pub store_comm : (p : Plan) → store (store p x) y ≡ store (store p y) x
  unfolding store
  store_comm p = λ i. record {
    guard = header_comm (λ guard top. guard) p.guard i;
    top = header_comm (λ guard top. top) p.top i;
    clock = clock_comm p.clock i;
    rates = port_comm (λ number rate blocking. rate) p.rates i;
    blockings = port_comm (λ number rate blocking. blocking) p.blockings i;
    extras = extra_comm p.extras i;
    periods = flow_comm (λ number period count bytes r. period) p.periods i;
    counts = flow_comm (λ number period count bytes r. count) p.counts i;
    lengths = flow_comm (λ number period count bytes r. bytes) p.lengths i;
    jitters = jitter_comm p.jitters i;
    hops = flow_comm (λ number period count bytes r. length r) p.hops i;
    routes = route_comm p.routes i;
  }

-- one part and several, and several and several
pub one_all
    : (x : Part) (ys : List Part) (p : Plan)
    → PartOk x
    → All PartOk ys
    → Apart x ys
    → store_all (store p x) ys ≡ store (store_all p ys) x
unfolding store_all
one_all x [] p k m differ = refl
one_all x (y ∷ ys) p k m differ =
    ap (λ (q : Plan). store_all q ys) (store_comm x y k m.0 differ.0 p) ∙ one_all x ys (store p y) k m.1 differ.1

pub stores_comm
    : (xs ys : List Part) (p : Plan)
    → All PartOk xs
    → All PartOk ys
    → All (λ x. Apart x ys) xs
    → store_all (store_all p xs) ys ≡ store_all (store_all p ys) xs
unfolding store_all
stores_comm [] ys p k m differ = refl
stores_comm (x ∷ xs) ys p k m differ =
    stores_comm xs ys (store p x) k.1 m differ.1 ∙ ap (λ (q : Plan). store_all q xs) (one_all x ys p k.0 m differ.0)

-- a part of a field of one key and parts of one of another, and so the parts of two fields of different keys
abbrev pub Of : Form → ℕ → Part → Type 0
Of form key u = owner form (part_key u) ≡ key

pub apart_parts : (form : Form) (x : Part) (k m : ℕ) → k ≢ m → Of form k x → (ys : List Part) → All (Of form m) ys → Apart x ys
apart_parts form x k m differ is ys h =
    all_map (Of form m) (λ y. part_key x ≢ part_key y) ys (λ y e same. differ (sym is ∙ ap (owner form) same ∙ e)) h

parts_apart
    : {form : Form} (x y : Field) (v w : List ℕ)
    → NumbersOk form x
    → NumbersOk form y
    → key_of x ≢ key_of y
    → All (λ u. Apart u (parts_of y w)) (parts_of x v)
parts_apart {form} x y v w k m differ =
    all_map (Of form (key_of x)) (λ u. Apart u (parts_of y w)) (parts_of x v)
    (λ u is. apart_parts form u (key_of x) (key_of y) differ is (parts_of y w) (parts_owned y m w))
    (parts_owned x k v)

-- so the order of two fields of different keys is free
pub added_comm
    : {form : Form} (x y : Field) (v w : List ℕ)
    → NumbersOk form x
    → NumbersOk form y
    → RouteFits x v
    → RouteFits y w
    → key_of x ≢ key_of y
    → (d : Draft)
    → added (added d x v) y w ≡ added (added d y w) x v
unfolding added
added_comm x y v w k m a b differ d =
    let tables = stores_comm (parts_of x v) (parts_of y w) d.tables (parts_ok x k v a) (parts_ok y m w b) (parts_apart x y v w k m differ) in
    let seen = set_comm d.seen (key_of x) (key_of y) 1 1 differ in
    let ports : d.ports + sum_of ports_in (parts_of x v) + sum_of ports_in (parts_of y w) ≡ d.ports + sum_of ports_in (parts_of y w) + sum_of ports_in (parts_of x v) = omega arith in
    let flows : d.flows + sum_of flows_in (parts_of x v) + sum_of flows_in (parts_of y w) ≡ d.flows + sum_of flows_in (parts_of y w) + sum_of flows_in (parts_of x v) = omega arith in
    λ i. record { tables = tables i; seen = seen i; ports = ports i; flows = flows i }
