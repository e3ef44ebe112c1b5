-- The rules accept a sheet of one stop, so that a place for a passed sheet holds one from the start.
use Rattle.std.proofs.Common.{◌≡◌, ℕ, not, ltb, List, length, sym, ap, subst, arith}
use Rattle.std.proofs.lemmas.Bool.{and_parts, ltb-true}
use Rattle.calculus.specs.Countings.{Operations}
use Rattle.calculus.specs.Effects.{empty}
use Rattle.calculus.specs.Typing.{Derives, stop_rule}
use Rattle.tables.specs.Elements.{elements}
use Rattle.tables.specs.declared.tables.Node.{Node}
use Rattle.tables.specs.declared.tables.Tables.{Tables}
use Rattle.sheet.specs.Opening.{OneStop}
use Rattle.meaning.specs.Accepts.{Accepts}
use Rattle.meaning.specs.Processes.{process_at}
use Rattle.meaning.specs.Scopes.{bound, free}
use Rattle.meaning.specs.Types.{types_of}

-- a sheet of one stop has no free names, and a stop needs nothing
pub one_stop_accepted : (K : Operations) (t : Tables) → OneStop t → Accepts K t
one_stop_accepted K t s = record {
  free_public = λ x h.
      let p = and_parts (ltb x 64) (free t x) h in
      let q = and_parts (ltb x (length (elements t.names))) (not (bound (elements t.nodes) x)) p.1 in
      let l = ltb-true x (length (elements t.names)) q.0 in
      let z : length (elements t.names) ≡ 0 = ap (λ (xs : List ℕ). length xs) s.names in
      absurd (omega arith);
  derives_empty = subst (λ (ns : List Node). Derives K (types_of t) (free t) (process_at ns 0) empty) (sym s.nodes) stop_rule;
}
