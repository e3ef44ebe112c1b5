use Rattle.names.proofs.Charting.{charts}
use Rattle.names.proofs.charted.Charted.new.Goals as goal

pub invariant_of-result : goal.invariant_of-result
invariant_of-result c = record {
  charted = charts c.requires.0 c.args.tables.now c.requires.1 c.as_slice.result.now c.as_slice.ensures.value c.new.result
      c.new.ensures.binders c.new.ensures.parents c.new.ensures.sizes;
}
