use Rattle.std.proofs.Common.{◌≤◌, length, sym, ap, subst, arith}
use Rattle.tables.specs.Channels.{entries}
use Rattle.std.proofs.lemmas.List.{length-map}
use Rattle.tables.specs.Elements.{elements}
use Rattle.tables.specs.Encoding.{type_records, entry_record}
use Rattle.tables.specs.declared.tables.SheetType.{SheetType}
use Rattle.sheet.proofs.check.records_of_type.Goals as goal

pub returns-in-Channel : goal.returns-in-Channel
returns-in-Channel c =
    let len = c.len.ensures in
    let is = ap (λ (x : SheetType). length (type_records x)) c.in-Channel.is in
    let es = c.in-Channel.channel.entries in
    let long = length-map (elements es) entry_record in
    record { value = omega (arith, is, long, len.value); few = omega (arith, len.within); entries = subst (λ x. length (entries x) ≤ 8) (sym c.in-Channel.is) (omega (arith, len.value, len.within)) }
