-- What a line says: its numbers and its route, each tested for word, number and range, in this order.
use Rattle.std.specs.Prelude.{ℕ, suc, ◌-◌, ◌^◌, Bool, true, false, not, cond, ◌&&◌, ◌||◌, List, [], ◌∷◌, map, leb, ltb, length, get_or}
use Rattle.std.proofs.Math.Option.{Option, some, none}
use Rattle.cqf.specs.Form.{Form, older, newer, most_hops_in}
use Rattle.words.specs.Words.{same_bytes}
use Rattle.words.specs.Decimal.{decimal_value}
use Rattle.plan_text.specs.Names.{route_word}
use Rattle.plan_text.specs.Grammar.{word_of, is_own, range_of, absent_of}
use Rattle.plan_text.specs.Kinds.{items, is_routed, is_other, kind_in}
use Rattle.plan_text.specs.declared.grammar.Item.{Item}
use Rattle.plan_text.specs.declared.grammar.Kind.{Kind}
use Rattle.plan_text.specs.declared.grammar.Fault.{Fault}

abbrev pub Word : Type 0
Word = List ℕ

-- a number, and what stands for it where a word is none: no word is read as a number so large
abbrev pub no_number : ℕ
no_number = 2 ^ 64 - 1

abbrev pub coded : Option ℕ → ℕ
coded (some n) = n
coded none = no_number

abbrev pub is_number : Option ℕ → Bool
is_number (some n) = true
is_number none = false

-- the words behind this one, where it stands first
abbrev pub behind : Word → List Word → Option (List Word)
behind word [] = none
behind word (w ∷ ws) = cond (same_bytes w word) (some ws) none

-- the words from a number's own place on, where its word stands there
abbrev pub given : Item → List Word → Option (List Word)
given x ws = cond (is_own x) (some ws) (behind (word_of x) ws)

-- the first word as a number, and the words behind it
abbrev pub number_in : List Word → Option ℕ
number_in [] = none
number_in (w ∷ ws) = decimal_value w

abbrev pub rest : List Word → List Word
rest [] = []
rest (w ∷ ws) = ws

-- the numbers that stand under these names, none for what is no number, and the words behind them; or the one whose word is missing
pub data Matched : Type 0 where
  wrong : (item : Item) → Matched
  matched : (numbers : List (Option ℕ)) (behind : List Word) → Matched

abbrev pub with : Option ℕ → Matched → Matched
with n (wrong x) = wrong x
with n (matched ns ws) = matched (n ∷ ns) ws

-- a number's word stands there, or the number may be left out, or its word is missing
abbrev pub match_by : Option (List Word) → Option ℕ → Item → (List Word → Matched) → List Word → Matched
match_by (some vs) absent x others ws = with (number_in vs) (others (rest vs))
match_by none (some n) x others ws = with (some n) (others ws)
match_by none none x others ws = wrong x

unfoldable pub match : List Item → List Word → Matched
unfolding same_bytes decimal_value
match [] ws = matched [] ws
match (x ∷ xs) ws = match_by (given x ws) (absent_of x) x (λ vs. match xs vs) ws

-- the words of the route's ports; none where a word is wrong
abbrev pub nothing_more : List Word → Option (List Word)
nothing_more [] = some []
nothing_more (w ∷ ws) = none

abbrev pub port_words : Kind → List Word → Option (List Word)
port_words kind ws = cond (is_routed kind) (behind route_word ws) (nothing_more ws)

-- the word that is missing there, or the end of the line
abbrev pub last_item : Kind → Item
last_item kind = cond (is_routed kind) Item.Route Item.End

-- the place of the first of a list that fails a test, which may hang on the place; their number where none does
unfoldable pub first_failing : {A : Type 0} → (ℕ → A → Bool) → List A → ℕ
first_failing test [] = 0
first_failing test (x ∷ xs) = cond (test 0 x) (suc (first_failing (λ i. test (suc i)) xs)) 0

-- the number at a place of a line
abbrev pub item_at : Kind → ℕ → Item
item_at kind i = get_or (items kind) i Item.End

-- each word is to be a number, each number in its range, and each port of a route in that of a port
abbrev pub number_test : ℕ → Option ℕ → Bool
number_test i n = is_number n

abbrev pub range_test : Kind → ℕ → ℕ → Bool
range_test kind i n = range_of (item_at kind i) n

abbrev pub port_test : ℕ → ℕ → Bool
port_test i n = range_of Item.Route n

-- the form of a text, by whether it asks for the newer one
abbrev pub form_by : Bool → Form
form_by true = newer
form_by false = older

-- what a line says: nothing, or a kind with its numbers and its route; or why it is refused
pub data Line : Type 0 where
  nothing : Line
  says : (kind : Kind) (numbers route : List ℕ) → Line
  refused : (fault : Fault) (item : Item) (value : ℕ) → Line

-- the third test: numbers, then how many ports the route has, then each of them
abbrev pub ranges_in : Form → Kind → (numbers route : List ℕ) → Line
ranges_in form kind ns r =
    cond (ltb (first_failing (range_test kind) ns) (length ns))
    (refused Fault.Range (item_at kind (first_failing (range_test kind) ns)) (get_or ns (first_failing (range_test kind) ns) 0))
    (cond (ltb (most_hops_in form) (length r)) (refused Fault.Range Item.Hops (length r))
    (cond (ltb (first_failing port_test r) (length r)) (refused Fault.Range Item.Route (get_or r (first_failing port_test r) 0))
    (says kind ns r)))

-- whether some word is no number
unfoldable pub any_none : List (Option ℕ) → Bool
any_none [] = false
any_none (n ∷ ns) = not (is_number n) || any_none ns

-- a route has one port at least, and each of its words is a number
abbrev pub lacks_ports : Kind → List (Option ℕ) → Bool
lacks_ports kind ps = (is_routed kind && leb (length ps) 0) || any_none ps

-- the second test: numbers, then the route
abbrev pub numbers_in : Form → Kind → (numbers ports : List (Option ℕ)) → Line
numbers_in form kind ns ps =
    cond (ltb (first_failing number_test ns) (length ns)) (refused Fault.Number (item_at kind (first_failing number_test ns)) 0)
    (cond (lacks_ports kind ps) (refused Fault.Number Item.Route 0)
    (ranges_in form kind (map coded ns) (map coded ps)))

-- the first test: the words
abbrev pub words_by : Form → Kind → List (Option ℕ) → Option (List Word) → Line
words_by form kind ns (some ps) = numbers_in form kind ns (map decimal_value ps)
words_by form kind ns none = refused Fault.Word (last_item kind) 0

abbrev pub words_in : Form → Kind → Matched → Line
words_in form kind (wrong x) = refused Fault.Word x 0
words_in form kind (matched ns ws) = words_by form kind ns (port_words kind ws)

-- a line of this kind; its words behind the first
unfoldable pub kindly : Form → Kind → List Word → Line
unfolding match first_failing any_none decimal_value same_bytes
kindly form kind ws = cond (is_other kind) (refused Fault.Word Item.First 0) (words_in form kind (match (items kind) ws))

-- a line of a text of this form; begun tells whether another line stands before it
unfoldable pub line_of : Form → (begun : Bool) → List Word → Line
unfolding kindly kind_in
line_of form begun [] = nothing
line_of form begun (w ∷ ws) = kindly form (kind_in begun w) ws
