-- Which faults the effects can have, and the fault that is told of what was found.
use Rattle.std.specs.Prelude.{◌≡◌, ℕ, ◌≤◌, ◌⊎◌, List, Some, None, Option}
use Rattle.fault.specs.declared.fault.Fault.{Fault}
use Rattle.fault.specs.declared.fault.Fault.TheVariants.{Escapes, NotCopyable, RootOwes}
use Rattle.fault.specs.declared.label.Label.{Label}
use Rattle.tables.specs.declared.tables.Node.{Node}
use Rattle.tables.specs.declared.tables.Node.TheVariants.{Stop, Send, Receive, Both, Copy, New, Test, Begin, End}
use Rattle.sheet.specs.Tree.{node_at}
use Rattle.meaning.specs.Faults.{stage}

-- the faults that effects can have: too few rows, and those from 12 on
abbrev pub OfEffects : Fault → Type 0
OfEffects f = (stage f ≡ 7) ⊎ (12 ≤ stage f)

-- the fault of a node
abbrev pub node_fault : Node → ℕ → Label ℕ → ℕ → Fault
node_fault Stop n L a = Escapes n L a
node_fault (Send channel xs) n L a = Escapes n L a
node_fault (Receive channel xs next) n L a = Escapes n L a
node_fault (Both first second) n L a = Escapes n L a
node_fault (Copy next) n L a = NotCopyable n L a
node_fault (New name next) n L a = Escapes n L a
node_fault (Test left right same other) n L a = Escapes n L a
node_fault (Begin l next) n L a = Escapes n L a
node_fault (End l next) n L a = Escapes n L a

-- the fault at a place
abbrev pub fault_at : List Node → Option ℕ → Label ℕ → ℕ → Fault
fault_at all None L a = RootOwes L a
fault_at all (Some n) L a = node_fault (node_at all n) n L a
