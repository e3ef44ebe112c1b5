use Rattle.std.proofs.Common.{map, take}
use Rattle.std.specs.List.{AllByRecursion}
use Rattle.meaning.specs.Types.{entry}
use Rattle.uses.specs.Entries.{SameAmounts}
use Rattle.uses.proofs.effects.Effect.agrees_on.Given as goal

-- the labels so far have the same amounts
abbrev pub invariant-loop-entry : goal.invariant-loop-entry
invariant-loop-entry g l =
    AllByRecursion (SameAmounts (g.C.Counting.operations l.self.counting.now) (map entry l.self.entries.now) (map entry l.other.entries.now)) (map entry (take l.entry-index l.some.entries.now))
