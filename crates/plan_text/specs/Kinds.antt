-- The kinds of lines: which numbers a line of a kind has, and how its first word tells the kind.
use Rattle.std.specs.Prelude.{ℕ, Bool, true, false, cond, List, [], ◌∷◌}
use Rattle.words.specs.Words.{same_bytes}
use Rattle.plan_text.specs.Names.{guard_word, top_word, port_word, flow_word, clocks_word, format_word}
use Rattle.plan_text.specs.declared.grammar.Item.{Item}
use Rattle.plan_text.specs.declared.grammar.Kind.{Kind}

-- the numbers of a line, in their order
abbrev pub items : Kind → List Item
items Kind.Guard = Item.Guard ∷ []
items Kind.Top = Item.Top ∷ []
items Kind.Port = Item.Port ∷ Item.Rate ∷ Item.Blocker ∷ Item.Extra ∷ []
items Kind.Flow = Item.Flow ∷ Item.Period ∷ Item.Count ∷ Item.Length ∷ Item.Jitter ∷ []
items Kind.Clocks = Item.Drift ∷ Item.Timing ∷ Item.Sync ∷ []
items Kind.Format = Item.Format ∷ []
items Kind.Other = []

-- whether a route follows them
abbrev pub is_routed : Kind → Bool
is_routed Kind.Flow = true
is_routed _ = false

-- a line of no kind, by its first word
abbrev pub is_other : Kind → Bool
is_other Kind.Other = true
is_other _ = false

-- the kind of a line, by its first word
unfoldable pub kind_of : List ℕ → Kind
unfolding same_bytes
kind_of w =
    cond (same_bytes w guard_word) Kind.Guard
    (cond (same_bytes w top_word) Kind.Top
    (cond (same_bytes w port_word) Kind.Port
    (cond (same_bytes w flow_word) Kind.Flow
    (cond (same_bytes w clocks_word) Kind.Clocks
    (cond (same_bytes w format_word) Kind.Format Kind.Other)))))

-- behind other lines a line no longer asks for a form
abbrev pub later_kind : Kind → Kind
later_kind Kind.Format = Kind.Other
later_kind kind = kind

unfoldable pub kind_in : (begun : Bool) → List ℕ → Kind
unfolding kind_of
kind_in begun w = cond begun (later_kind (kind_of w)) (kind_of w)

-- the name of a kind in a refusal
abbrev pub item_of : Kind → Item
item_of Kind.Guard = Item.Guard
item_of Kind.Top = Item.Top
item_of Kind.Port = Item.Port
item_of Kind.Flow = Item.Flow
item_of Kind.Clocks = Item.Drift
item_of Kind.Format = Item.Format
item_of Kind.Other = Item.First

-- which kind a line is of
abbrev pub is_guard : Kind → Bool
is_guard Kind.Guard = true
is_guard _ = false

abbrev pub is_top : Kind → Bool
is_top Kind.Top = true
is_top _ = false

abbrev pub is_flow : Kind → Bool
is_flow Kind.Flow = true
is_flow _ = false

abbrev pub is_clocks : Kind → Bool
is_clocks Kind.Clocks = true
is_clocks _ = false

abbrev pub is_format : Kind → Bool
is_format Kind.Format = true
is_format _ = false
