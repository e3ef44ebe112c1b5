use Rattle.std.proofs.Common.{◌≡◌, map, take}
use Rattle.calculus.specs.Types.{fill_entry}
use Rattle.tables.specs.Elements.{elements}
use Rattle.tables.specs.Encoding.{parts}
use Rattle.meaning.specs.Types.{entry}
use Rattle.uses.specs.Entries.{Placed}
use Rattle.uses.proofs.fill.fill_entries.Given as goal

-- the entries so far are filled
abbrev pub invariant-loop-entry : goal.invariant-loop-entry
invariant-loop-entry l =
    (map entry (elements l.filled) ≡ map (fill_entry (parts l.arguments) l.level) (map entry (take l.entry-index l.entries)))
    × Placed (elements l.filled)
