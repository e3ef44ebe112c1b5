use Rattle.std.proofs.Common.{ℕ, Bool, List, ◌≡◌, true, get_or, Decides, sym, ap, ◌∙◌, subst}
use Rattle.calculus.specs.Countings.{Operations}
use Rattle.calculus.specs.Types.{SameType, required}
use Rattle.tables.specs.Channels.{components, entries}
use Rattle.tables.specs.Elements.{elements}
use Rattle.tables.specs.Encoding.{parts}
use Rattle.tables.specs.declared.tables.SheetType.{SheetType}
use Rattle.tables.specs.declared.tables.SheetType.TheVariants.{Pure, Public}
use Rattle.sheet.specs.Types.{type_at, nests}
use Rattle.tables.specs.declared.tables.Tables.{Tables}
use Rattle.meaning.specs.Types.{types_of}
use Rattle.uses.specs.Entries.{SoundEntries}
use Rattle.uses.proofs.Opened.{sound_entries, component_nested}
use Rattle.uses.proofs.Required.{number, fits_pure, fits_public, fits_channel}
use Rattle.uses.proofs.arguments.argument_fits.Goals as goal

-- what holds by the tables that were lent holds by the sheet's
by_sheet : (K : Operations) (t u : Tables) (r : Bool) (channel : ℕ) (ys : List ℕ) (i : ℕ) → t ≡ u
    → Decides r (SameType K (types_of t (get_or ys i 0)) (required (types_of t channel) ys i))
    → Decides r (SameType K (types_of u (get_or ys i 0)) (required (types_of u channel) ys i))
by_sheet K t u r channel ys i e d = subst (λ v. Decides r (SameType K (types_of v (get_or ys i 0)) (required (types_of v channel) ys i))) e d

pub new-requires : goal.new-requires
new-requires g c i =
    let K = g.C.Counting.operations c.args.sheet.now.counting in
    let t = c.as_tables-tables.result.now in
    let sound = subst (λ xs. SoundEntries K (entries (type_at xs i))) (sym c.as_slice-types.ensures.value) (sound_entries K t c.as_tables-tables.ensures.sound i) in
    subst (λ k. SoundEntries (g.C.Counting.operations k) (entries (type_at c.as_slice-types.result.now i))) (sym c.as_counting.ensures) sound

pub is_same-requires : goal.is_same-requires
is_same-requires g c =
    let K = g.C.Counting.operations c.args.sheet.now.counting in
    let t = c.as_tables-tables.result.now in
    let types = elements t.types in
    let e = c.as_slice-types.ensures.value in
    let at = c.type_number.result in
    let is = c.in-Channel.ensures ∙ ap (λ xs. type_at xs at) e in
    let component = c.number_at-component.ensures ∙ ap (λ (x : SheetType). get_or (components x) c.args.place 0) is in
    let shallow = subst (λ k. nests types 3 k ≡ true) (sym component) (component_nested K t c.as_tables-tables.ensures.sound at c.args.place) in
    subst (λ xs. nests xs 3 c.number_at-component.result ≡ true) (sym (c.new.ensures.types ∙ e)) shallow

pub returns-in-Pure : goal.returns-in-Pure
returns-in-Pure g c =
    let K = g.C.Counting.operations c.args.sheet.now.counting in
    let t = c.as_tables-tables.result.now in
    let types = elements t.types in
    let e = c.as_slice-types.ensures.value in
    let own = c.type_number-own.result in
    let has = c.type_number-own.ensures ∙ ap (number t) c.number_at.ensures in
    let is = c.in-Pure.ensures ∙ ap (λ xs. type_at xs c.type_number.result) e ∙ ap (type_at types) (c.type_number.ensures ∙ ap (number t) c.from.ensures) in
    let read = c.type_at-in-Pure.ensures ∙ ap (λ xs. type_at xs own) e in
    by_sheet K t c.args.sheet.now.tables c.is_pure.result c.args.channel (parts c.args.names) c.args.place c.as_tables-tables.ensures.value
    (fits_pure K t c.is_pure.result own c.args.channel (parts c.args.names) c.args.place has is (subst (λ x. Decides c.is_pure.result (x ≡ Pure)) read c.is_pure.ensures))

pub returns-in-Public : goal.returns-in-Public
returns-in-Public g c =
    let K = g.C.Counting.operations c.args.sheet.now.counting in
    let t = c.as_tables-tables.result.now in
    let types = elements t.types in
    let e = c.as_slice-types.ensures.value in
    let own = c.type_number-own.result in
    let has = c.type_number-own.ensures ∙ ap (number t) c.number_at.ensures in
    let is = c.in-Public.ensures ∙ ap (λ xs. type_at xs c.type_number.result) e ∙ ap (type_at types) (c.type_number.ensures ∙ ap (number t) c.from.ensures) in
    let read = c.type_at-in-Public.ensures ∙ ap (λ xs. type_at xs own) e in
    by_sheet K t c.args.sheet.now.tables c.is_public.result c.args.channel (parts c.args.names) c.args.place c.as_tables-tables.ensures.value
    (fits_public K t c.is_public.result own c.args.channel (parts c.args.names) c.args.place has is (subst (λ x. Decides c.is_public.result (x ≡ Public)) read c.is_public.ensures))

pub returns-in-Channel : goal.returns-in-Channel
returns-in-Channel g c =
    let K = g.C.Counting.operations c.args.sheet.now.counting in
    let t = c.as_tables-tables.result.now in
    let types = elements t.types in
    let e = c.as_slice-types.ensures.value in
    let own = c.type_number-own.result in
    let has = c.type_number-own.ensures ∙ ap (number t) c.number_at.ensures in
    let is = c.in-Channel.ensures ∙ ap (λ xs. type_at xs c.type_number.result) e ∙ ap (type_at types) (c.type_number.ensures ∙ ap (number t) c.from.ensures) in
    let component = c.number_at-component.result in
    let earlier = parts c.first-earlier.result in
    let same = rw (c.new.ensures.counting, c.new.ensures.types, c.new.ensures.arguments, c.as_counting.ensures, e) at c.is_same.ensures in
    by_sheet K t c.args.sheet.now.tables c.is_same.result c.args.channel (parts c.args.names) c.args.place c.as_tables-tables.ensures.value
    (fits_channel K t c.is_same.result own c.args.channel (parts c.args.names) c.args.place has c.in-Channel.found earlier component is
    c.first-earlier.ensures c.number_at-component.ensures same)
