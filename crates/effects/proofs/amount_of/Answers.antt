use Rattle.std.proofs.Common.{replicate, ap, ◌∙◌}
use Rattle.effects.specs.Rows.{blank}
use Rattle.effects.proofs.Sheets.{amounts_same}
use Rattle.effects.proofs.amount_of.Goals as goal

pub returns : goal.returns
returns g c =
    record {
      told = (
        c.if-rows-lt-ENOUGH.false,
        c.amount_at-amount.ensures _ (amounts_same _ _ _ _ _ _ _ _ _ (ap g.C.Counting.operations (c.new.ensures.counting ∙ c.counting.ensures))
            c.as_tables-tables.ensures.value c.new.ensures.nodes c.new.ensures.rows (c.prepare.ensures c.args.label)),
      );
      zero = c.clear_rows-2.ensures ∙ ap (λ k. replicate k blank) c.prepare.auto.rows;
    }
