-- Effects: how much of the right to end each label; the effect that a channel carries, and the least amount that a process needs.
use Rattle.std.specs.Prelude.{◌≡◌, ℕ, ◌≤◌, max, false, List, slice_index}
use Rattle.calculus.specs.Countings.{Operations}
use Rattle.calculus.specs.Joins.{amount_if, join_over}
use Rattle.calculus.specs.Equality.{decide, number_test}
use Rattle.calculus.specs.Labels.{Label, map_label, label_test}
use Rattle.calculus.specs.Types.{Name, Item, name, index, NameType, pure, public, channel, Assignment}
use Rattle.calculus.specs.Scopes.{Scope, label_in_scope}
use Rattle.calculus.specs.Processes.{Process, stop, send, receive, both, copy, new, test, begin, end}

-- an effect gives each label an amount
abbrev pub Effect : Type 0
Effect = Label Name → ℕ

-- equality of labels of names, and of labels of values
infix 45 ◌≟◌
abbrev pub ◌≟◌ : (L M : Label ℕ) → Dec (L ≡ M)
L ≟ M = decide (label_test number_test) L M

-- nothing at any label
abbrev pub empty : Effect
empty L = 0

-- at most, at every label
infix 45 ◌⊑◌
abbrev pub ◌⊑◌ : Effect → Effect → Type 0
e ⊑ f = (L : Label Name) → e L ≤ f L

-- the effect names only names in scope
abbrev pub Within : Scope → Effect → Type 0
Within Γ e = (L : Label Name) → label_in_scope Γ L ≡ false → e L ≡ 0

-- joined, at each label
abbrev pub join_effects : Operations → Effect → Effect → Effect
join_effects K e f L = K.join (e L) (f L)

-- the larger, at each label
abbrev pub larger : Effect → Effect → Effect
larger e f L = max (e L) (f L)

-- one full right on one label
abbrev pub full_right : Operations → Label Name → Effect
full_right K L M = amount_if (L ≟ M) K.full

-- the name that an item of a channel's own entry stands for, once the arguments are put in (where the type is well formed, such an item has no arrow)
abbrev pub named : List Name → Item → Name
named ys (name x) = x
named ys (index u p) = slice_index ys p

-- the effect that a message on a channel carries (its latent effect), arguments put in: amounts of labels that become equal are joined
abbrev pub latent : Operations → NameType → List Name → Effect
latent K pure ys L = 0
latent K public ys L = 0
latent K (channel n components entries) ys L = join_over K entries (λ e. amount_if (map_label (named ys) e.label ≟ L) e.amount)

-- the least amount that a process needs at a label
abbrev pub amount : Operations → Assignment → Process → Effect
amount K types stop L = 0
amount K types (send x ys) L = latent K (types x) ys L
amount K types (receive x zs p) L = K.lack (amount K types p L) (latent K (types x) zs L)
amount K types (both p q) L = K.join (amount K types p L) (amount K types q L)
amount K types (copy p) L = amount K types p L
amount K types (new x p) L = amount K types p L
amount K types (test x y p q) L = max (amount K types p L) (amount K types q L)
amount K types (begin l p) L = K.lack (amount K types p L) (full_right K l L)
amount K types (end l p) L = K.join (amount K types p L) (full_right K l L)
