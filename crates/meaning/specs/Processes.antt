-- The process that the nodes of a sheet mean.
use Rattle.std.specs.Prelude.{ℕ, zero, suc, List, length}
use Rattle.calculus.specs.Processes.{Process, stop, send, receive, both, copy, new, test, begin, end}
use Rattle.tables.specs.Encoding.{parts}
use Rattle.tables.specs.declared.tables.Node.{Node}
use Rattle.tables.specs.declared.tables.Node.TheVariants.{Stop, Send, Receive, Both, Copy, New, Test, Begin, End}
use Rattle.sheet.specs.Tree.{node_at}
use Rattle.meaning.specs.Labels.{label_of}

-- a node whose children mean these processes
abbrev pub shape : (ℕ → Process) → Node → Process
shape after Stop = stop
shape after (Send channel names) = send channel (parts names)
shape after (Receive channel names next) = receive channel (parts names) (after next)
shape after (Both first second) = both (after first) (after second)
shape after (Copy next) = copy (after next)
shape after (New name next) = new name (after next)
shape after (Test left right same other) = test left right (after same) (after other)
shape after (Begin label next) = begin (label_of (λ x. x) label.items) (after next)
shape after (End label next) = end (label_of (λ x. x) label.items) (after next)

-- what stands at node n and below it, so many levels down
abbrev pub unfolded : List Node → (levels n : ℕ) → Process
unfolded nodes zero n = stop
unfolded nodes (suc levels) n = shape (unfolded nodes levels) (node_at nodes n)

-- the process at node n: a child's number is above its parent's, so as many levels as there are nodes are all
abbrev pub process_at : List Node → ℕ → Process
process_at nodes n = unfolded nodes (length nodes) n
