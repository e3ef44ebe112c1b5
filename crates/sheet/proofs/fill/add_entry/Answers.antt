use Rattle.std.proofs.Common.{◌≡◌, ℕ, [], ◌∷◌, ◌++◌, length, sym, refl, ap, ◌∙◌, arith}
use Rattle.tables.specs.Elements.{elements, with_last}
use Rattle.sheet.specs.Filling.{grown_entry}
use Rattle.tables.specs.declared.tables.ChannelType.{ChannelType}
use Rattle.tables.specs.declared.tables.SheetType.TheVariants.{Channel}
use Rattle.sheet.proofs.Growing.{last_channel_is, has_pushed, not_pushed}
use Rattle.tables.proofs.Tabled.{with_last_push}
use Rattle.sheet.proofs.fill.add_entry.Goals as goal

pub returns-in_err-channel : goal.returns-in_err-channel
returns-in_err-channel c =
    let room = c.requires in
    let none = c.in_err-channel.ensures in
    let some = last_channel_is _ _ _ room.2 in
    rw c.from_residual-in_err-channel.ensures (λ e h s. let z : ◌≡◌ {A = ℕ} 0 1 = cc in omega arith)

pub returns-in_err-ok : goal.returns-in_err-ok
returns-in_err-ok c =
    let room = c.requires in
    let one = c.in_ok-channel.ensures in
    let some = last_channel_is _ _ _ room.2 in
    let same : c.in_ok-channel.channel ≡ room.1 = cc in
    let full = not_pushed _ _ c.push.result c.in_err-ok.ensures.value c.push.ensures in
    rw c.from_residual-in_err-ok.ensures (λ e h s. omega (arith, ap (λ (x : ChannelType). length (elements x.entries)) same, full.1, room.3))

pub returns : goal.returns
returns c =
    let room = c.requires in
    let one = c.in_ok-channel.ensures in
    let some = last_channel_is _ _ _ room.2 in
    let channel = c.in_ok-channel.channel in
    let same : channel ≡ room.1 = cc in
    let made = c.in_ok-made.ensures in
    let longer : ChannelType = record { components = channel.components; entries = c.push.new.self } in
    grown_entry room.0 channel longer c.in_ok-made.made
    made.written made.fits
    (record { last = room.2.last ∙ ap (λ x. room.0 ++ Channel x ∷ []) (sym same) })
    (record { last = c.replace_last.ensures ∙ ap (λ xs. with_last xs (Channel longer)) room.2.last ∙ with_last_push room.0 (Channel room.1) (Channel longer) })
    refl (has_pushed _ _ c.push.result _ c.in_ok-ok.ensures.value c.push.ensures) refl refl
