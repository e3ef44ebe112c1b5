-- What judging adds to scope: the checks of the calculus without those that opening has made.
use Rattle.std.specs.Prelude.{◌≡◌, [], ◌∷◌}
use Rattle.calculus.specs.Checks.{Checks}
use Rattle.calculus.specs.Countings.{Operations}
use Rattle.calculus.specs.Effects.{amount}
use Rattle.calculus.specs.Labels.{Label, items}
use Rattle.calculus.specs.Lists.{◌∈◌, extend}
use Rattle.calculus.specs.Processes.{Process, stop, send, receive, both, copy, new, test, begin, end}
use Rattle.calculus.specs.Scopes.{Scope, WellFormed}
use Rattle.calculus.specs.Types.{Assignment, Name}
use Rattle.calculus.specs.Typing.{ChannelUse, WellFormedInTurn}

-- channels are used with the right count and types, bound names have well-formed types, no effect names a name that
-- is bound there, and what is copied can be
abbrev pub Judged : Operations → Assignment → Scope → Process → Type 0
Judged K types Γ stop = Unit {0}
Judged K types Γ (send x ys) = ChannelUse K types x ys
Judged K types Γ (receive x zs p) =
    ChannelUse K types x zs × WellFormedInTurn types Γ zs
    × ((L : Label Name) (z : Name) → z ∈ zs → z ∈ items L → amount K types (receive x zs p) L ≡ 0)
    × Judged K types (extend zs Γ) p
Judged K types Γ (both p q) = Judged K types Γ p × Judged K types Γ q
Judged K types Γ (copy p) = Judged K types Γ p × ((L : Label Name) → K.join (amount K types p L) (amount K types p L) ≡ amount K types p L)
Judged K types Γ (new x p) =
    WellFormed Γ (types x) × ((L : Label Name) → x ∈ items L → amount K types p L ≡ 0) × Judged K types (extend (x ∷ []) Γ) p
Judged K types Γ (test x y p q) = Judged K types Γ p × Judged K types Γ q
Judged K types Γ (begin l p) = Judged K types Γ p
Judged K types Γ (end l p) = Judged K types Γ p

-- judging decides the checks: where names are in scope, the two are one
abbrev pub DecidesChecks : Operations → Assignment → Scope → Process → Type 0
DecidesChecks K types Γ p = (Judged K types Γ p → Checks K types Γ p) × (Checks K types Γ p → Judged K types Γ p)
