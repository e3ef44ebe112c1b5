-- The rules accept a sheet: what PASS means.
use Rattle.calculus.specs.Countings.{Operations}
use Rattle.calculus.specs.Typing.{Accepted}
use Rattle.tables.specs.Elements.{elements}
use Rattle.tables.specs.declared.tables.Tables.{Tables}
use Rattle.meaning.specs.Processes.{process_at}
use Rattle.meaning.specs.Scopes.{free}
use Rattle.meaning.specs.Types.{types_of}

-- the process of the tables is accepted: its free names are public, and the typing rules give it the empty effect
abbrev pub Accepts : Operations → Tables → Type 0
Accepts K t = Accepted K (types_of t) (free t) (process_at (elements t.nodes) 0)
