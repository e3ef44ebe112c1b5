use Rattle.std.proofs.Common.{length}
use Rattle.meaning.specs.Faults.{names_label}
use Rattle.judge.proofs.Telling.{told_least, told_past}
use Rattle.judge.proofs.verdict.tell.Goals as goal

pub returns : goal.returns
returns g c =
    let s = c.args.sheet.now.sheet in
    let K = g.C.Counting.operations s.counting in
    let t = s.tables in
    let rows = length c.args.rows.now in
    let L = names_label c.args.label in
    let r = c.amount_of.result in
    let told = rw c.as_opened.ensures at c.amount_of.ensures.told in
    let sound = s.sound in
    record {
      told = told;
      least = told_least K t sound (g.met.C.Counting.lawful s.counting) c.args.sheet.now.accepted rows c.args.node L r told;
      past = told_past K t sound rows c.args.node L r told;
      zero = c.amount_of.ensures.zero;
    }
