-- The theorems: that labels are ordered, that the rules and the checks agree, that runs are safe, that no join passes the ceiling, and that nothing of this is empty.
use Rattle.std.specs.Prelude.{ℕ, ◌*◌, ◌<◌, ◌≤◌, ◌≢◌}
use Rattle.calculus.specs.Countings.{Operations, Laws}
use Rattle.calculus.specs.Labels.{Label}
use Rattle.calculus.specs.Orders.{StrictOrder, LabelBefore}
use Rattle.calculus.specs.Types.{Name, Assignment}
use Rattle.calculus.specs.Scopes.{Scope, WellFormedEnvironment}
use Rattle.calculus.specs.Processes.{Process, size}
use Rattle.calculus.specs.Effects.{Effect, ◌⊑◌, amount}
use Rattle.calculus.specs.Typing.{Rule, Derives, Accepted}
use Rattle.calculus.specs.Checks.{Checks, Passes}
use Rattle.calculus.specs.Reduction.{Configuration, Reachable, Error}
use Rattle.calculus.specs.Safety.{Start, Safe}
use Rattle.calculus.specs.Ceiling.{EntriesSmall, Few}
use Rattle.calculus.specs.Built.{parts, once}
use Rattle.calculus.specs.Worked.{Works}

-- labels of names, and labels of values, stand in one strict order
abbrev pub LabelsOrdered : Type 0
LabelsOrdered = StrictOrder (LabelBefore ◌<◌)

-- what is said of a process in a scope
pub record Agreement (K : Operations) (types : Assignment) (Γ : Scope) (p : Process) : Type 0 where
  -- the judgement is closed under the rules, read with the judgement itself for the parts, and has nothing else
  pub by_rules : (e : Effect) → Rule K types (Derives K types) Γ p e → Derives K types Γ p e
  pub only_by_rules : (e : Effect) → Derives K types Γ p e → Rule K types (Derives K types) Γ p e
  -- an effect is derivable exactly when the checks accept
  pub derivable_accepted : (e : Effect) → Derives K types Γ p e → Checks K types Γ p
  pub accepted_derivable : Checks K types Γ p → Derives K types Γ p (amount K types p)
  -- the least amount is at most every derivable effect
  pub least : (e : Effect) → Derives K types Γ p e → amount K types p ⊑ e

-- the rules and the checks agree wherever the names in scope have well-formed types
abbrev pub TypingAgrees : Type 0
TypingAgrees = (K : Operations) → Laws K → (types : Assignment) (Γ : Scope) (p : Process) → WellFormedEnvironment types Γ → Agreement K types Γ p

-- the rules accept a whole process exactly when it passes
abbrev pub AcceptanceAgrees : Type 0
AcceptanceAgrees = (K : Operations) → Laws K → (types : Assignment) (free : Scope) (p : Process) →
    (Accepted K types free p → Passes K types free p) × (Passes K types free p → Accepted K types free p)

-- every configuration that a run of an accepted process reaches is safe, and none is an error
abbrev pub RunsSafe : Type 0
RunsSafe = (K : Operations) → Laws K → (types : Assignment) (free : Scope) (p : Process) (c d : Configuration) →
    Accepted K types free p → Start free p c → Reachable K c d → Safe K types d × (Error K d → ⊥)

-- what is said of the amount of a process at a label
pub record FitsCeiling (K : Operations) (types : Assignment) (p : Process) (L : Label Name) : Type 0 where
  -- it is at most a join of at most 8 amounts a node, each at most the largest entry
  pub few : Few K (8 * size p) (amount K types p L)
  -- so up to 1,024 nodes it fits the ceiling
  pub fits : size p ≤ 1024 → amount K types p L ≤ K.ceiling
  -- and where it joined with itself passes the ceiling, that is not the amount itself
  pub copy_decided : size p ≤ 1024 → K.ceiling < K.join (amount K types p L) (amount K types p L) → K.join (amount K types p L) (amount K types p L) ≢ amount K types p L

-- no join passes the ceiling, where no type has more than 8 entries and no entry is larger than an entry may be
abbrev pub AmountsFit : Type 0
AmountsFit = (K : Operations) → Laws K → (types : Assignment) → ((x : Name) → EntriesSmall K (types x)) → (p : Process) (L : Label Name) → FitsCeiling K types p L

-- nothing is empty: under parts with any full right that fits an entry, and under once, the worked process is accepted and runs to an end
abbrev pub NothingEmpty : Type 0
NothingEmpty = ((n : ℕ) → 1 ≤ n → n ≤ 100000 → Works (parts n)) × Works once
