use Rattle.std.proofs.Common.{◌-◌, length}
use Rattle.std.specs.List.{AllByRecursion}
use Rattle.calculus.specs.Scopes.{push, WellFormedEntry}
use Rattle.tables.specs.Channels.{components, entries}
use Rattle.sheet.specs.Types.{type_at}
use Rattle.meaning.specs.Types as meant
use Rattle.names.specs.Marks.{marked, outer}
use Rattle.names.proofs.Forming.{PartsFit}
use Rattle.names.proofs.forms.Inside.+is_formed.Given as goal

abbrev pub decreases-is_formed : goal.decreases-is_formed
decreases-is_formed l = l.levels

-- the entries fit, and the components so far
abbrev pub invariant-loop-place : goal.invariant-loop-place
invariant-loop-place l =
    AllByRecursion (λ e. WellFormedEntry (marked l.self.scope.now) (push (length (components (type_at l.types l.at))) (outer l.self.counts)) (meant.entry e)) (entries (type_at l.types l.at))
    × PartsFit (marked l.self.scope.now) (outer l.self.counts) (meant.type_within l.types (l.levels - 1)) (length l.yielded) (components (type_at l.types l.at))
