use Rattle.std.proofs.Common.{false, rules, arith}
use Rattle.meaning.specs.Scopes.{free}
use Rattle.names.proofs.Made.{made}
use Rattle.names.proofs.charted.Charted.free_names.Goals as goal

pub returns : goal.returns
returns c =
    let items = c.from_fn.ensures.items in
    record {
      size = items.long;
      each = λ y l. made _ _ c.from_fn.result (free c.args.self.now.tables.now) false (λ j r q k. search rules) 64 0 y items.each (omega arith) (omega arith);
    }
