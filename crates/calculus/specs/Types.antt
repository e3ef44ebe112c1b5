-- Types of names: pure, public, or a channel with an effect; arguments put into a type; equality of types.
use Rattle.std.specs.Prelude.{◌≡◌, ℕ, suc, ◌<◌, Bool, true, false, cond, ◌&&◌, List, map, length, take, ◌==◌, nat_lt, slice_index, refl}
use Rattle.std.proofs.Common.{ap, ap₂}
use Rattle.std.proofs.lemmas.Bool.{and_parts, and_from, both_ways, eqb-true, eq-eqb}
use Rattle.calculus.specs.Countings.{Operations}
use Rattle.calculus.specs.Joins.{amount_if, join_over}
use Rattle.calculus.specs.Equality.{Test, decide, number_test}
use Rattle.calculus.specs.Labels.{Label, map_label, label_test}

-- names are numbers
abbrev pub Name : Type 0
Name = ℕ

-- the values that names have in a run are numbers
abbrev pub Value : Type 0
Value = ℕ

-- an item of an entry's label: a name, or `index u p`, argument p (from 0) of the channel that lies u levels out, which is written with u arrows
pub data Item : Type 0 where
  name : Name → Item
  index : ℕ → ℕ → Item

-- one entry of a channel's effect: so much for a label
pub record Entry : Type 0 where
  pub label : Label Item
  pub amount : ℕ

-- pure: the name is no channel. public: a channel that everybody may use, the outsider too.
-- channel: how many components there are, the component at each place below that count, and the entries of the effect that a message carries
pub data NameType : Type 0 where
  pure : NameType
  public : NameType
  channel : ℕ → (ℕ → NameType) → List Entry → NameType

-- the types written into a process: each name has one
abbrev pub Assignment : Type 0
Assignment = Name → NameType

-- putting arguments in: an index of the level that is filled becomes the argument at its place; any other stays
abbrev pub fill_index : List Name → (level u p : ℕ) → Dec (u ≡ level) → Item
fill_index ys level u p (yes e) = cond (nat_lt p (length ys)) (name (slice_index ys p)) (index u p)
fill_index ys level u p (no e) = index u p

-- arguments put into an item, for the indices of one level
abbrev pub fill_item : List Name → ℕ → Item → Item
fill_item ys level (name x) = name x
fill_item ys level (index u p) = fill_index ys level u p (decide number_test u level)

-- arguments put into an entry
abbrev pub fill_entry : List Name → ℕ → Entry → Entry
fill_entry ys level e = record { label = map_label (fill_item ys level) e.label; amount = e.amount }

-- arguments put in throughout a type: for the indices of one level, and one arrow more at each level further in
abbrev pub fill_type : List Name → ℕ → NameType → NameType
fill_type ys level pure = pure
fill_type ys level public = public
fill_type ys level (channel n components entries) =
    channel n (λ i. fill_type ys (suc level) (components i)) (map (fill_entry ys level) entries)

-- the type that argument i must have: the component there with the earlier arguments put in; on a public channel, public
abbrev pub required : NameType → List Name → ℕ → NameType
required pure ys i = pure
required public ys i = public
required (channel n components entries) ys i = fill_type (take i ys) 1 (components i)

-- the test of items
abbrev pub same_item : Item → Item → Bool
same_item (name x) (name y) = x == y
same_item (name x) (index v q) = false
same_item (index u p) (name y) = false
same_item (index u p) (index v q) = u == v && p == q

-- what it finds equal is equal, and an item it finds equal to itself
pub item_sound : (a b : Item) → same_item a b ≡ true → a ≡ b
item_sound (name x) (name y) h = ap name (eqb-true x y h)
item_sound (name x) (index v q) h = absurd (both_ways false refl h)
item_sound (index u p) (name y) h = absurd (both_ways false refl h)
item_sound (index u p) (index v q) h = let k = and_parts (u == v) (p == q) h in ap₂ index (eqb-true u v k.0) (eqb-true p q k.1)

pub item_reflexive : (a : Item) → same_item a a ≡ true
item_reflexive (name x) = eq-eqb x x refl
item_reflexive (index u p) = and_from (u == u) (p == p) (eq-eqb u u refl) (eq-eqb p p refl)

-- so it decides equality of items
abbrev pub item_test : Test Item
item_test = record { same = same_item; sound = item_sound; reflexive = item_reflexive }

-- the amount that entries give a label: amounts of equal labels are joined
abbrev pub entries_at : Operations → List Entry → Label Item → ℕ
entries_at K entries L = join_over K entries (λ e. amount_if (decide (label_test item_test) e.label L) e.amount)

-- types are equal when kind, count, components in turn and effects at every label are
pub data SameType (K : Operations) : NameType → NameType → Type 0 where
  same_pure : SameType K pure pure
  same_public : SameType K public public
  same_channel : {n m : ℕ} {c d : ℕ → NameType} {a b : List Entry} → n ≡ m → ((i : ℕ) → i < n → SameType K (c i) (d i)) →
      ((L : Label Item) → entries_at K a L ≡ entries_at K b L) → SameType K (channel n c a) (channel m d b)
