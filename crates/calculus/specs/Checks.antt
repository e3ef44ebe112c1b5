-- The checks: what is asked of a process node by node, with the least amount in place of a derivation.
use Rattle.std.specs.Prelude.{◌≡◌, true, [], ◌∷◌}
use Rattle.std.specs.List.{AllByRecursion}
use Rattle.calculus.specs.Countings.{Operations}
use Rattle.calculus.specs.Lists.{◌∈◌, extend}
use Rattle.calculus.specs.Labels.{Label, items}
use Rattle.calculus.specs.Types.{Name, public, Assignment}
use Rattle.calculus.specs.Scopes.{Scope, in_scope, label_in_scope, Fresh, WellFormed}
use Rattle.calculus.specs.Processes.{Process, stop, send, receive, both, copy, new, test, begin, end}
use Rattle.calculus.specs.Effects.{amount}
use Rattle.calculus.specs.Typing.{ChannelUse, WellFormedInTurn}

-- the process p passes the checks in the scope Γ
abbrev pub Checks : Operations → Assignment → Scope → Process → Type 0
Checks K types Γ stop = Unit {0}
Checks K types Γ (send x ys) = (in_scope Γ x ≡ true) × AllByRecursion (λ y. in_scope Γ y ≡ true) ys × ChannelUse K types x ys
Checks K types Γ (receive x zs p) =
    (in_scope Γ x ≡ true) × Fresh zs Γ × ChannelUse K types x zs × WellFormedInTurn types Γ zs
    -- no label that names a received name is left
    × ((L : Label Name) (z : Name) → z ∈ zs → z ∈ items L → amount K types (receive x zs p) L ≡ 0)
    × Checks K types (extend zs Γ) p
Checks K types Γ (both p q) = Checks K types Γ p × Checks K types Γ q
Checks K types Γ (copy p) = Checks K types Γ p × ((L : Label Name) → K.join (amount K types p L) (amount K types p L) ≡ amount K types p L)
Checks K types Γ (new x p) =
    Fresh (x ∷ []) Γ × WellFormed Γ (types x)
    -- no label that names the new name is left
    × ((L : Label Name) → x ∈ items L → amount K types p L ≡ 0)
    × Checks K types (extend (x ∷ []) Γ) p
Checks K types Γ (test x y p q) = (in_scope Γ x ≡ true) × (in_scope Γ y ≡ true) × Checks K types Γ p × Checks K types Γ q
Checks K types Γ (begin l p) = (label_in_scope Γ l ≡ true) × Checks K types Γ p
Checks K types Γ (end l p) = (label_in_scope Γ l ≡ true) × Checks K types Γ p

-- a whole process passes: its free names are public, it passes the checks, and it needs nothing at any label
pub record Passes (K : Operations) (types : Assignment) (free : Scope) (p : Process) : Type 0 where
  pub free_public : (x : Name) → in_scope free x ≡ true → types x ≡ public
  pub checked : Checks K types free p
  pub needs_nothing : (L : Label Name) → amount K types p L ≡ 0
