-- Labels: what permissions are given for. A label has one to four items; the items are names, values, or items of a type's entry.
use Rattle.std.specs.Prelude.{◌≡◌, true, false, List, [], ◌∷◌, refl}
use Rattle.std.proofs.Common.{sym, ◌∙◌, ap, ap₂}
use Rattle.std.proofs.lemmas.Bool.{and_parts, and_from, both_ways}
use Rattle.calculus.specs.Equality.{Test, same_members}

-- a label of items of any kind
pub data Label (A : Type 0) : Type 0 where
  one : A → Label A
  two : A → A → Label A
  three : A → A → A → Label A
  four : A → A → A → A → Label A

-- the items, from the left
abbrev pub items : {A : Type 0} → Label A → List A
items (one a) = a ∷ []
items (two a b) = a ∷ b ∷ []
items (three a b c) = a ∷ b ∷ c ∷ []
items (four a b c d) = a ∷ b ∷ c ∷ d ∷ []

-- the label with each item replaced
abbrev pub map_label : {A B : Type 0} → (A → B) → Label A → Label B
map_label f (one a) = one (f a)
map_label f (two a b) = two (f a) (f b)
map_label f (three a b c) = three (f a) (f b) (f c)
map_label f (four a b c d) = four (f a) (f b) (f c) (f d)

-- the label of these items; a list that is no label's gives the other label
abbrev of_items : {A : Type 0} → Label A → List A → Label A
of_items other [] = other
of_items other (a ∷ []) = one a
of_items other (a ∷ b ∷ []) = two a b
of_items other (a ∷ b ∷ c ∷ []) = three a b c
of_items other (a ∷ b ∷ c ∷ d ∷ []) = four a b c d
of_items other (a ∷ b ∷ c ∷ d ∷ e ∷ l) = other

-- a label is the label of its items
of_items_items : {A : Type 0} (other L : Label A) → of_items other (items L) ≡ L
of_items_items other (one a) = refl
of_items_items other (two a b) = refl
of_items_items other (three a b c) = refl
of_items_items other (four a b c d) = refl

-- labels are equal where their items are
pub items_determine : {A : Type 0} (L M : Label A) → items L ≡ items M → L ≡ M
items_determine L M e = sym (of_items_items L L) ∙ ap (of_items L) e ∙ of_items_items L M

-- equal items, by the test of items
members_sound : {A : Type 0} (t : Test A) (l m : List A) → same_members t.same l m ≡ true → l ≡ m
members_sound t [] [] h = refl
members_sound t [] (y ∷ m) h = absurd (both_ways false refl h)
members_sound t (x ∷ l) [] h = absurd (both_ways false refl h)
members_sound t (x ∷ l) (y ∷ m) h = let k = and_parts (t.same x y) (same_members t.same l m) h in ap₂ ◌∷◌ (t.sound x y k.0) (members_sound t l m k.1)

-- a list has the same members as itself
members_reflexive : {A : Type 0} (t : Test A) (l : List A) → same_members t.same l l ≡ true
members_reflexive t [] = refl
members_reflexive t (x ∷ l) = and_from (t.same x x) (same_members t.same l l) (t.reflexive x) (members_reflexive t l)

-- what the test of labels finds equal is equal, and a label it finds equal to itself
pub label_sound : {A : Type 0} (t : Test A) (L M : Label A) → same_members t.same (items L) (items M) ≡ true → L ≡ M
label_sound t L M h = items_determine L M (members_sound t (items L) (items M) h)

pub label_reflexive : {A : Type 0} (t : Test A) (L : Label A) → same_members t.same (items L) (items L) ≡ true
label_reflexive t L = members_reflexive t (items L)

-- the test of labels, item by item
abbrev pub label_test : {A : Type 0} → Test A → Test (Label A)
label_test t = record { same = λ L M. same_members t.same (items L) (items M); sound = label_sound t; reflexive = label_reflexive t }
