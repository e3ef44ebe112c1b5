-- Shares of rights, and those at the labels of a sheet's types.
use Rattle.std.specs.Prelude.{◌≡◌, ℕ}
use Rattle.fault.specs.declared.label.Label.{Label}
use Rattle.tables.specs.declared.share.Share.{Share}
use Rattle.tables.specs.declared.tables.Item.{Item}

-- what a share gives a label: its amount where it has this label, else nothing
abbrev pub Gives : {A : Type 0} → Label A → Share A → ℕ → Type 0
Gives L s a = (s.label ≡ L → a ≡ s.amount) × ((s.label ≡ L → ⊥) → a ≡ 0)

-- what a message carries of one right: a share whose label has names and indices
abbrev pub Entry : Type 0
Entry = Share Item
