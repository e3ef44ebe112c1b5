-- What is asked of a node that uses a channel: the count of the names that go with it, and their types.
use Rattle.std.specs.Prelude.{ℕ, ◌<◌, List, length, slice_index}
use Rattle.calculus.specs.Countings.{Operations}
use Rattle.calculus.specs.Types.{Assignment, Name, required, SameType}
use Rattle.calculus.specs.Typing.{Takes}
use Rattle.tables.specs.Encoding.{parts}
use Rattle.tables.specs.declared.tables.Node.{Node}
use Rattle.tables.specs.declared.tables.Node.TheVariants.{Stop, Send, Receive, Both, Copy, New, Test, Begin, End}

-- the channel is no pure name, and takes as many names as the node sends or receives
abbrev pub CountFits : Assignment → Node → Type 0
CountFits types Stop = Unit {0}
CountFits types (Send channel names) = Takes (types channel) (length (parts names))
CountFits types (Receive channel names next) = Takes (types channel) (length (parts names))
CountFits types (Both first second) = Unit {0}
CountFits types (Copy next) = Unit {0}
CountFits types (New name next) = Unit {0}
CountFits types (Test left right same other) = Unit {0}
CountFits types (Begin label next) = Unit {0}
CountFits types (End label next) = Unit {0}

-- each of the names has the type that the channel requires at its place
abbrev pub ArgumentsFit : Operations → Assignment → Name → List Name → Type 0
ArgumentsFit K types channel names = (i : ℕ) → i < length names → SameType K (types (slice_index names i)) (required (types channel) names i)

-- each name that the node sends or receives has the required type
abbrev pub TypesFit : Operations → Assignment → Node → Type 0
TypesFit K types Stop = Unit {0}
TypesFit K types (Send channel names) = ArgumentsFit K types channel (parts names)
TypesFit K types (Receive channel names next) = ArgumentsFit K types channel (parts names)
TypesFit K types (Both first second) = Unit {0}
TypesFit K types (Copy next) = Unit {0}
TypesFit K types (New name next) = Unit {0}
TypesFit K types (Test left right same other) = Unit {0}
TypesFit K types (Begin label next) = Unit {0}
TypesFit K types (End label next) = Unit {0}
