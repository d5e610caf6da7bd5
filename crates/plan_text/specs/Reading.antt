-- What the code's reading of a line tells of the line's words.
use Rattle.std.specs.Prelude.{Option as Maybe, Some, None, Result, Ok, Err, ℕ, ◌≤◌, ◌<◌, ◌≡◌, Bool, true, false, cond, ◌&&◌, List, ◌∷◌, map, eqb, leb, length, take, drop}
use Rattle.std.proofs.Math.Option.{Option, some, none}
use Rattle.cqf.specs.Form.{Form, most_hops_in}
use Rattle.cqf.specs.Limits.{max_hops}
use Rattle.words.specs.Words.{words}
use Rattle.words.specs.Decimal.{decimal_value}
use Rattle.plan_text.specs.Kinds.{items, is_routed}
use Rattle.plan_text.specs.Line.{Word, Line, nothing, says, refused, no_number, coded, number_in, rest, given, Matched, wrong, matched, with, match, any_none, first_failing, range_test, port_test, ranges_in, numbers_in}
use Rattle.plan_text.specs.declared.grammar.Item.{Item}
use Rattle.plan_text.specs.declared.grammar.Kind.{Kind}
use Rattle.plan_text.specs.declared.line.Number.{Number}
use Rattle.plan_text.specs.declared.refusal.LineRefusal.{LineRefusal}
use Rattle.plan_text.specs.declared.says.Says.{Says}

-- a number as the code has it
abbrev pub decoded : ℕ → Option ℕ
decoded n = cond (eqb n no_number) none (some n)

-- the first of these words as a number, and those behind it
pub record NumberAt (line : List ℕ) (ws : List Word) (n : Number) : Type 0 where
  pub within : n.next ≤ length line
  pub number : decoded n.value ≡ number_in ws
  pub left : words (drop n.next line) ≡ rest ws

-- the same of a number that its word stands before, where it does
abbrev pub ItemAt : Item → (line : List ℕ) (ws : List Word) → Maybe Number → Type 0
ItemAt x line ws (Some n) = (vs : List Word) × (given x ws ≡ some vs) × NumberAt line vs n
ItemAt x line ws None = given x ws ≡ none

-- the same of a number that may be left out
pub record Read (x : Item) (line : List ℕ) (ws : List Word) (n : Number) : Type 0 where
  pub within : n.next ≤ length line
  pub reads : (xs : List Item) → match (x ∷ xs) ws ≡ with (decoded n.value) (match xs (words (drop n.next line)))

abbrev pub ItemRead : Item → (line : List ℕ) (ws : List Word) → Maybe Number → Type 0
ItemRead x line ws (Some n) = Read x line ws n
ItemRead x line ws None = (xs : List Item) → match (x ∷ xs) ws ≡ wrong x

-- the most numbers of a line
abbrev pub most_numbers : ℕ
most_numbers = 5

-- the numbers of a line of a kind as the code has them, in the first places of an array
abbrev pub numbers_by : Kind → (numbers : List ℕ) → List ℕ
numbers_by kind numbers = take (length (items kind)) numbers

pub record Behind (kind : Kind) (line : List ℕ) (m : Matched) (numbers : List ℕ) (next : ℕ) : Type 0 where
  pub within : next ≤ length line
  pub reads : m ≡ matched (map decoded (numbers_by kind numbers)) (words (drop next line))

abbrev pub MatchesAs : Kind → (line : List ℕ) → Matched → (numbers : List ℕ) → Result ℕ Item → Type 0
MatchesAs kind line m numbers (Err x) = m ≡ wrong x
MatchesAs kind line m numbers (Ok next) = Behind kind line m numbers next

-- the words of a route's ports: how many they are, unless one of them is no number; the first as numbers in an array
pub record Stored (ws : List Word) (route : List ℕ) (count : ℕ) : Type 0 where
  pub many : count ≡ length ws
  pub all : any_none (map decimal_value ws) ≡ false
  pub stored : count ≤ max_hops → take count route ≡ map coded (map decimal_value ws)

abbrev pub PortsAs : (ws : List Word) (route : List ℕ) → Maybe ℕ → Type 0
PortsAs ws route (Some count) = Stored ws route count
PortsAs ws route None = any_none (map decimal_value ws) ≡ true

-- the first number that fails a test
abbrev pub FailsAs : (ℕ → ℕ → Bool) → List ℕ → Maybe ℕ → Type 0
FailsAs test list (Some i) = (i < length list) × (first_failing test list ≡ i)
FailsAs test list None = first_failing test list ≡ length list

-- a line that says something has all its numbers, in range, and a route of as many ports as it may have, in range
pub record Fits (form : Form) (kind : Kind) (ns r : List ℕ) : Type 0 where
  pub all : length ns ≡ length (items kind)
  pub ranges : length ns ≤ first_failing (range_test kind) ns
  pub hops : length r ≤ most_hops_in form
  pub ports : length r ≤ first_failing port_test r
  pub some : (is_routed kind && leb (length r) 0) ≡ false

-- a line as it is read: what it says, with its numbers and its route in arrays, and that this fits; or why it is refused
pub record SaysAs (form : Form) (line : Line) (numbers route : List ℕ) (s : Says) : Type 0 where
  pub says : says s.kind (numbers_by s.kind numbers) (take s.hops route) ≡ line
  pub few : s.hops ≤ max_hops
  pub fits : Fits form s.kind (numbers_by s.kind numbers) (take s.hops route)

abbrev pub KindReads : Form → Line → (numbers route : List ℕ) → Result Says LineRefusal → Type 0
KindReads form line numbers route (Ok s) = SaysAs form line numbers route s
KindReads form line numbers route (Err r) = refused r.fault r.item r.value ≡ line

abbrev pub LineReads : Form → Line → (numbers route : List ℕ) → Result (Maybe Says) LineRefusal → Type 0
LineReads form line numbers route (Ok None) = nothing ≡ line
LineReads form line numbers route (Ok (Some s)) = SaysAs form line numbers route s
LineReads form line numbers route (Err r) = refused r.fault r.item r.value ≡ line

-- the tests of numbers in arrays, for any route of so many ports whose first numbers are there
abbrev pub RangesAs : Form → Kind → (numbers route : List ℕ) (hops : ℕ) → Result Says LineRefusal → Type 0
RangesAs form kind numbers route hops out =
    (r : List ℕ)
    → length r ≡ hops
    → (hops ≤ max_hops → take hops route ≡ r)
    → (is_routed kind && leb (length r) 0) ≡ false
    → KindReads form (ranges_in form kind (numbers_by kind numbers) r) numbers route out

-- the words of a route as they were read
abbrev pub Told : (route : List ℕ) → Maybe ℕ → List (Option ℕ) → Type 0
Told route (Some hops) ps = (length ps ≡ hops) × (any_none ps ≡ false) × (hops ≤ max_hops → take hops route ≡ map coded ps)
Told route None ps = any_none ps ≡ true

abbrev pub NumbersAs : Form → Kind → (numbers route : List ℕ) (ports : Maybe ℕ) → Result Says LineRefusal → Type 0
NumbersAs form kind numbers route ports out =
    (ps : List (Option ℕ))
    → Told route ports ps
    → KindReads form (numbers_in form kind (map decoded (numbers_by kind numbers)) ps) numbers route out
