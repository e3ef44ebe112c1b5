-- Entries as an opened sheet has them, so that their amounts can be joined and their labels compared.
use Rattle.std.specs.Prelude.{◌≡◌, ℕ, ◌≤◌, Bool, true, List, map, length, nat_le}
use Rattle.std.specs.List.{AllByRecursion}
use Rattle.calculus.specs.Countings.{Operations}
use Rattle.calculus.specs.Equality.{decide}
use Rattle.calculus.specs.Joins.{amount_if}
use Rattle.calculus.specs.Labels.{Label, label_test}
use Rattle.calculus.specs.Types as calculus
use Rattle.fault.specs.Items.{list}
use Rattle.fault.specs.declared.label.Label as tables
use Rattle.tables.specs.Range.{all}
use Rattle.tables.specs.Shares.{Entry}
use Rattle.tables.specs.declared.tables.Item.{Item}
use Rattle.tables.specs.declared.tables.Item.TheVariants.{Name, Index}
use Rattle.meaning.specs.Types.{entry}

-- positions count from 1
abbrev pub placed : Item → Bool
placed (Name x) = true
placed (Index u p) = nat_le 1 p

-- each index of the label has a position
abbrev pub placed_label : tables.Label Item → Bool
placed_label l = all placed (list l.items)

-- each index of the entries' labels has a position
abbrev pub Placed : List Entry → Type 0
Placed es = AllByRecursion (λ e. placed_label e.label ≡ true) es

-- no amount is larger than an entry's may be
abbrev pub Small : Operations → List calculus.Entry → Type 0
Small K es = AllByRecursion (λ e. e.amount ≤ K.largest) es

-- the entries of a type: few, small, and with positions
pub record SoundEntries (K : Operations) (es : List Entry) : Type 0 where
  pub few : length es ≤ 8
  pub small : Small K (map entry es)
  pub placed : Placed es

-- what one entry gives a label
abbrev pub amount_for : Label calculus.Item → calculus.Entry → ℕ
amount_for L e = amount_if (decide (label_test calculus.item_test) e.label L) e.amount

-- the two effects have the same amount at the label of this entry
abbrev pub SameAmounts : Operations → (a b : List calculus.Entry) → calculus.Entry → Type 0
SameAmounts K a b e = calculus.entries_at K a e.label ≡ calculus.entries_at K b e.label

-- and at every label
abbrev pub SameEffects : Operations → (a b : List calculus.Entry) → Type 0
SameEffects K a b = (L : Label calculus.Item) → calculus.entries_at K a L ≡ calculus.entries_at K b L
