-- Types are the same where their heads are and their components.
use Rattle.std.proofs.Common.{◌≡◌, ℕ, suc, ◌<◌, List, length, get_or, refl, arith}
use Rattle.calculus.specs.Countings.{Operations}
use Rattle.calculus.specs.Types.{NameType, channel, Entry, SameType, same_pure, same_public, same_channel, fill_type}
use Rattle.tables.specs.Channels.{components}
use Rattle.tables.specs.declared.tables.SheetType.{SheetType}
use Rattle.tables.specs.declared.tables.SheetType.TheVariants.{Pure, Public, Channel}
use Rattle.meaning.specs.Types.{form}
use Rattle.uses.specs.Entries.{SameEffects}
use Rattle.uses.specs.Pairs.{SameHead}

-- the components of two types are the same in turn, f and h being what they mean
abbrev pub SameComponents : Operations → (ys : List ℕ) (level : ℕ) → (f h : ℕ → NameType) → (a b : SheetType) → Type 0
SameComponents K ys level f h a b =
    (i : ℕ) → i < length (components a) → SameType K (f (get_or (components a) i 0)) (fill_type ys (suc level) (h (get_or (components b) i 0)))

-- what makes two channels the same
channels : {K : Operations} {n m : ℕ} {c d : ℕ → NameType} {a b : List Entry} → SameType K (channel n c a) (channel m d b)
    → (n ≡ m) × ((i : ℕ) → i < n → SameType K (c i) (d i)) × SameEffects K a b
channels (same_channel count each effects) = (count, each, effects)

module _ (K : Operations) (ys : List ℕ) (level : ℕ) (f h : ℕ → NameType) where
  pub head_same : (a b : SheetType) → SameType K (form f a) (fill_type ys level (form h b)) → SameHead K ys level a b
  head_same Pure Pure s = tt
  head_same Pure Public s = elim s [ ]
  head_same Pure (Channel d) s = elim s [ ]
  head_same Public Pure s = elim s [ ]
  head_same Public Public s = tt
  head_same Public (Channel d) s = elim s [ ]
  head_same (Channel c) Pure s = elim s [ ]
  head_same (Channel c) Public s = elim s [ ]
  head_same (Channel c) (Channel d) s = let p = channels s in (p.0, p.2)

  pub components_same : (a b : SheetType) → SameType K (form f a) (fill_type ys level (form h b)) → SameComponents K ys level f h a b
  components_same Pure Pure s = λ i l. absurd (omega arith)
  components_same Pure Public s = elim s [ ]
  components_same Pure (Channel d) s = elim s [ ]
  components_same Public Pure s = elim s [ ]
  components_same Public Public s = λ i l. absurd (omega arith)
  components_same Public (Channel d) s = elim s [ ]
  components_same (Channel c) Pure s = elim s [ ]
  components_same (Channel c) Public s = elim s [ ]
  components_same (Channel c) (Channel d) s = (channels s).1

  pub whole_same : (a b : SheetType) → SameHead K ys level a b → SameComponents K ys level f h a b → SameType K (form f a) (fill_type ys level (form h b))
  whole_same Pure Pure p q = same_pure
  whole_same Pure Public p q = absurd p
  whole_same Pure (Channel d) p q = absurd p
  whole_same Public Pure p q = absurd p
  whole_same Public Public p q = same_public
  whole_same Public (Channel d) p q = absurd p
  whole_same (Channel c) Pure p q = absurd p
  whole_same (Channel c) Public p q = absurd p
  whole_same (Channel c) (Channel d) p q = same_channel p.0 q p.1

  -- same heads have equally many components
  pub head_count : (a b : SheetType) → SameHead K ys level a b → length (components a) ≡ length (components b)
  head_count Pure Pure p = refl
  head_count Pure Public p = absurd p
  head_count Pure (Channel d) p = absurd p
  head_count Public Pure p = absurd p
  head_count Public Public p = refl
  head_count Public (Channel d) p = absurd p
  head_count (Channel c) Pure p = absurd p
  head_count (Channel c) Public p = absurd p
  head_count (Channel c) (Channel d) p = p.0
