use Rattle.std.proofs.Common.{◌*◌, ◌≤◌, length, ap, ◌∙◌, arith}
use Rattle.tables.specs.Elements.{elements}
use Rattle.effects.proofs.Sheets.{opened_amounts}
use Rattle.effects.proofs.prepare.Goals as goal

pub returns : goal.returns
returns g c =
    let s = c.args.sheet.now in
    let v = s.counting in
    let few = s.sound.limited.nodes in
    let room : 8 * length (elements s.tables.nodes) ≤ length c.fill_rows.new.rows = omega (arith, few, c.requires, c.fill_rows.auto.rows) in
    let filled = rw (c.as_slice.ensures.value, c.as_slice-2.ensures.value, c.as_slice-3.ensures.value) at c.fill_rows.ensures in
    opened_amounts (g.C.Counting.operations v) (g.met.C.Counting.lawful v) s.tables s.sound
    c.full_right.result (c.full_right.ensures ∙ ap (λ x. (g.C.Counting.operations x).full) c.counting.ensures)
    c.as_tables-tables.result.now c.as_tables-tables.ensures.value c.fill_rows.new.rows room filled
