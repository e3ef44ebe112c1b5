-- The type that a channel requires at a place, by the kind of the channel.
use Rattle.std.proofs.Common.{◌≡◌, ℕ, Bool, List, length, get_or, take, Decides, sym, refl, subst}
use Rattle.std.proofs.lemmas.Bool.Decides.{Decides-like}
use Rattle.calculus.specs.Countings.{Operations}
use Rattle.calculus.specs.Types.{NameType, pure, public, SameType, same_pure, same_public, fill_type, required}
use Rattle.tables.specs.Elements.{elements}
use Rattle.tables.specs.Encoding.{parts}
use Rattle.tables.specs.declared.tables.ChannelType.{ChannelType}
use Rattle.tables.specs.declared.tables.SheetType.{SheetType}
use Rattle.tables.specs.declared.tables.SheetType.TheVariants.{Pure, Public, Channel}
use Rattle.tables.specs.declared.tables.Tables.{Tables}
use Rattle.sheet.specs.Types.{type_at}
use Rattle.meaning.specs.Types.{form, type_within, types_of}

module _ (K : Operations) (f : ℕ → NameType) where
  from_pure : (x : SheetType) → SameType K (form f x) pure → x ≡ Pure
  from_pure Pure s = refl
  from_pure Public s = elim s [ ]
  from_pure (Channel c) s = elim s [ ]

  to_pure : (x : SheetType) → x ≡ Pure → SameType K (form f x) pure
  to_pure x e = subst (λ y. SameType K (form f y) pure) (sym e) same_pure

  from_public : (x : SheetType) → SameType K (form f x) public → x ≡ Public
  from_public Pure s = elim s [ ]
  from_public Public s = refl
  from_public (Channel c) s = elim s [ ]

  to_public : (x : SheetType) → x ≡ Public → SameType K (form f x) public
  to_public x e = subst (λ y. SameType K (form f y) public) (sym e) same_public

-- the number of a name's type
abbrev pub number : Tables → ℕ → ℕ
number t x = get_or (elements t.names) x (length (elements t.types))

module _ (K : Operations) (t : Tables) (r : Bool) (own channel : ℕ) (ys : List ℕ) (i : ℕ) (has : own ≡ number t (get_or ys i 0)) where
  -- the answer about the type that is read is the answer about the name
  fits_by : (x : SheetType) → x ≡ type_at (elements t.types) (number t channel)
      → Decides r (SameType K (type_within (elements t.types) 4 own) (required (form (type_within (elements t.types) 3) x) ys i))
      → Decides r (SameType K (types_of t (get_or ys i 0)) (required (types_of t channel) ys i))
  fits_by x is d =
      subst (λ k. Decides r (SameType K (type_within (elements t.types) 4 k) (required (types_of t channel) ys i))) has
      (subst (λ y. Decides r (SameType K (type_within (elements t.types) 4 own) (required (form (type_within (elements t.types) 3) y) ys i))) is d)

  pub fits_pure : Pure ≡ type_at (elements t.types) (number t channel) → Decides r (type_at (elements t.types) own ≡ Pure)
      → Decides r (SameType K (types_of t (get_or ys i 0)) (required (types_of t channel) ys i))
  fits_pure is d =
      fits_by Pure is (Decides-like r (to_pure K (type_within (elements t.types) 3) (type_at (elements t.types) own)) (from_pure K (type_within (elements t.types) 3) (type_at (elements t.types) own)) d)

  pub fits_public : Public ≡ type_at (elements t.types) (number t channel) → Decides r (type_at (elements t.types) own ≡ Public)
      → Decides r (SameType K (types_of t (get_or ys i 0)) (required (types_of t channel) ys i))
  fits_public is d =
      fits_by Public is (Decides-like r (to_public K (type_within (elements t.types) 3) (type_at (elements t.types) own)) (from_public K (type_within (elements t.types) 3) (type_at (elements t.types) own)) d)

  pub fits_channel : (c : ChannelType) (earlier : List ℕ) (component : ℕ) → Channel c ≡ type_at (elements t.types) (number t channel) → earlier ≡ take i ys → component ≡ get_or (parts c.components) i 0
      → Decides r (SameType K (type_within (elements t.types) 4 own) (fill_type earlier 1 (type_within (elements t.types) 3 component)))
      → Decides r (SameType K (types_of t (get_or ys i 0)) (required (types_of t channel) ys i))
  fits_channel c earlier component is put at d =
      fits_by (Channel c) is
      (subst (λ k. Decides r (SameType K (type_within (elements t.types) 4 own) (fill_type (take i ys) 1 (type_within (elements t.types) 3 k)))) at
      (subst (λ zs. Decides r (SameType K (type_within (elements t.types) 4 own) (fill_type zs 1 (type_within (elements t.types) 3 component)))) put d))
