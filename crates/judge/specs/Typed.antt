-- The faults of names and of the uses of channels, and what is asked so that there is none.
use Rattle.std.specs.Prelude.{◌≡◌, ℕ, ◌<◌, ◌≤◌, true, length}
use Rattle.calculus.specs.Countings.{Operations}
use Rattle.calculus.specs.Scopes.{in_scope, WellFormed}
use Rattle.calculus.specs.Types.{public}
use Rattle.fault.specs.declared.fault.Fault.{Fault}
use Rattle.tables.specs.Elements.{elements}
use Rattle.tables.specs.declared.tables.Tables.{Tables}
use Rattle.sheet.specs.Tree.{node_at}
use Rattle.meaning.specs.Faults.{stage}
use Rattle.meaning.specs.Scopes.{free, scope_for}
use Rattle.meaning.specs.Types.{types_of}
use Rattle.meaning.specs.Uses.{CountFits, TypesFit}

-- the faults of names and uses: 8 to 11
abbrev pub OfTypes : Fault → Type 0
OfTypes f = (8 ≤ stage f) × (stage f < 12)

-- what is asked of names and uses
pub record Typed (K : Operations) (t : Tables) : Type 0 where
  pub free_public : (x : ℕ) → in_scope (free t) x ≡ true → types_of t x ≡ public
  pub well_formed : (x : ℕ) → x < length (elements t.names) → WellFormed (scope_for t x) (types_of t x)
  pub counts : (n : ℕ) → CountFits (types_of t) (node_at (elements t.nodes) n)
  pub types : (n : ℕ) → TypesFit K (types_of t) (node_at (elements t.nodes) n)
