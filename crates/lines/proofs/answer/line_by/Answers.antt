use Rattle.std.proofs.Common.{length, Ok, Err, ap, refl, ◌∙◌, subst}
use Rattle.tables.specs.Elements.{elements}
use Rattle.sheet.specs.Opening.{Means, basis_of}
use Rattle.tables.specs.declared.tables.Tables.{Tables}
use Rattle.lines.specs.Lines.{opened}
use Rattle.lines.proofs.answer.line_by.Goals as goal

pub returns-in-Ok : goal.returns-in-Ok
returns-in-Ok g c =
    let C = g.C.Counting in
    let held = c.open.new.place.tables in
    let means = subst (λ k. Means (basis_of (C.tag k) (C.operations k)) c.args.bytes.now (Ok held)) c.new-place.ensures.counting c.in-Ok.ensures.meaning in
    let count = c.len.ensures.value ∙ ap (λ (t : Tables). length (elements t.nodes)) c.as_tables.ensures.value in
    (Ok held, means, ap opened count)

pub returns-in-Err : goal.returns-in-Err
returns-in-Err g c =
    let C = g.C.Counting in
    let fault = c.in-Err.fault in
    let means = subst (λ k. Means (basis_of (C.tag k) (C.operations k)) c.args.bytes.now (Err fault)) c.new-place.ensures.counting c.in-Err.ensures.meaning in
    (Err fault, means, refl)
