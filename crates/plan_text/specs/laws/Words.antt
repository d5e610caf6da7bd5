-- Laws of the words of a line: those behind its numbers, and its first.
use Rattle.std.specs.Prelude.{ℕ, ◌≡◌, refl, Bool, true, false, List, [], ◌∷◌, map}
use Rattle.std.proofs.Math.Option.{Option, some}
use Rattle.cqf.specs.Form.{Form}
use Rattle.words.specs.Words.{same_bytes}
use Rattle.words.specs.Decimal.{decimal_value}
use Rattle.plan_text.specs.Names.{route_word}
use Rattle.plan_text.specs.Kinds.{items, is_routed, is_other, kind_in}
use Rattle.plan_text.specs.Line.{Word, nothing, refused, wrong, matched, match, any_none, port_words, numbers_in, words_by, kindly, line_of}
use Rattle.plan_text.specs.declared.grammar.Item.{Item}
use Rattle.plan_text.specs.declared.grammar.Kind.{Kind}
use Rattle.plan_text.specs.declared.grammar.Fault.{Fault}

pub no_none : any_none [] ≡ false
unfolding any_none
no_none = refl

module _ (form : Form) (kind : Kind) (ns : List (Option ℕ)) (ws : List Word) where
  pub words_end : {w : Word} {vs : List Word} → is_routed kind ≡ false → ws ≡ w ∷ vs → words_by form kind ns (port_words kind ws) ≡ refused Fault.Word Item.End 0
  words_end r e = rw (r, e) (rw r)

  pub words-none : is_routed kind ≡ false → ws ≡ [] → words_by form kind ns (port_words kind ws) ≡ numbers_in form kind ns []
  words-none r e = let is : port_words kind ws ≡ some [] = rw (r, e) in rw is

  pub words_lack : is_routed kind ≡ true → ws ≡ [] → words_by form kind ns (port_words kind ws) ≡ refused Fault.Word Item.Route 0
  words_lack r e = rw (r, e) (rw r)

  pub words_other : {w : Word} {vs : List Word} → is_routed kind ≡ true → ws ≡ w ∷ vs → same_bytes w route_word ≡ false → words_by form kind ns (port_words kind ws) ≡ refused Fault.Word Item.Route 0
  words_other r e s = rw (r, e) (rw (s, r))

  pub words_route : {w : Word} {vs : List Word} → is_routed kind ≡ true → ws ≡ w ∷ vs → same_bytes w route_word ≡ true → words_by form kind ns (port_words kind ws) ≡ numbers_in form kind ns (map decimal_value vs)
  words_route {w} {vs} r e s = let is : port_words kind ws ≡ some vs = rw (r, e) (rw s) in rw is

module _ (form : Form) (kind : Kind) (ws : List Word) where
  pub kindly_other : is_other kind ≡ true → kindly form kind ws ≡ refused Fault.Word Item.First 0
  unfolding kindly
  kindly_other o = rw o

  pub kindly_wrong : {x : Item} → is_other kind ≡ false → match (items kind) ws ≡ wrong x → kindly form kind ws ≡ refused Fault.Word x 0
  unfolding kindly
  kindly_wrong o e = rw (o, e)

  pub kindly_matched : {ns : List (Option ℕ)} {vs : List Word} → is_other kind ≡ false → match (items kind) ws ≡ matched ns vs → kindly form kind ws ≡ words_by form kind ns (port_words kind vs)
  unfolding kindly
  kindly_matched o e = rw (o, e)

module _ (form : Form) (begun : Bool) (ws : List Word) where
  pub line_none : ws ≡ [] → line_of form begun ws ≡ nothing
  unfolding line_of
  line_none e = rw e

  pub line_some : {w : Word} {vs : List Word} → ws ≡ w ∷ vs → line_of form begun ws ≡ kindly form (kind_in begun w) vs
  unfolding line_of
  line_some e = rw e
