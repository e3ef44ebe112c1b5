use Rattle.names.proofs.Climbing.{Climbs}
use Rattle.names.proofs.charted.Charted.scope_at.Given as goal

abbrev pub invariant-loop-parent : goal.invariant-loop-parent
invariant-loop-parent l = Climbs l.self.tables.now l.n l.from l.marks

abbrev pub decreases-loop-parent : goal.decreases-loop-parent
decreases-loop-parent l = l.from
