-- What opening established of the types that are compared.
use Rattle.std.proofs.Common.{◌≡◌, ℕ, ◌≤◌, true, ◌&&◌, ltb, leb, List, [], ◌∷◌, length, get_or, refl, ap, ◌∙◌, ⊎_elim, arith}
use Rattle.std.proofs.lemmas.List.{get_or_past}
use Rattle.std.proofs.lemmas.Bool.{and_parts, and_from, cases_Bool, cases_lt, ltb-true}
use Rattle.calculus.specs.Countings.{Operations}
use Rattle.fault.specs.Items.{list}
use Rattle.tables.specs.Channels.{components, entries}
use Rattle.tables.specs.Elements.{elements}
use Rattle.tables.specs.Encoding.{parts}
use Rattle.tables.specs.Range.{all, below, item_fits, entry_fits, type_fits}
use Rattle.tables.specs.Shares.{Entry}
use Rattle.tables.specs.declared.tables.Item.{Item}
use Rattle.tables.specs.declared.tables.Item.TheVariants.{Name, Index}
use Rattle.tables.specs.declared.tables.SheetType.{SheetType}
use Rattle.tables.specs.declared.tables.SheetType.TheVariants.{Pure, Public, Channel}
use Rattle.tables.specs.declared.tables.Tables.{Tables}
use Rattle.sheet.specs.Opening.{Sound, bad_type}
use Rattle.sheet.specs.Types.{type_at, nests, too_deep}
use Rattle.meaning.proofs.Opened.{fits_at, small_entries}
use Rattle.uses.specs.Entries.{placed, Placed, SoundEntries}
use Rattle.uses.proofs.Within.{inner_nests}

-- items in range have positions from 1
item_placed : (names : ℕ) (x : Item) → item_fits names x ≡ true → placed x ≡ true
item_placed names (Name x) h = refl
item_placed names (Index u p) h = (and_parts (leb 1 p) (leb p 4) (and_parts (leb u 3) (leb 1 p && leb p 4) h).1).0

items_placed : (names : ℕ) (xs : List Item) → all (item_fits names) xs ≡ true → all placed xs ≡ true
items_placed names [] h = refl
items_placed names (x ∷ xs) h =
    let p = and_parts (item_fits names x) (all (item_fits names) xs) h in
    and_from (placed x) (all placed xs) (item_placed names x p.0) (items_placed names xs p.1)

entries_placed : (largest names : ℕ) (es : List Entry) → all (entry_fits largest names) es ≡ true → Placed es
entries_placed largest names [] h = tt
entries_placed largest names (e ∷ es) h =
    let p = and_parts (entry_fits largest names e) (all (entry_fits largest names) es) h in
    let q = and_parts (leb 1 e.amount && leb e.amount largest) (all (item_fits names) (list e.label.items)) p.0 in
    (items_placed names (list e.label.items) q.1, entries_placed largest names es p.1)

sound_type : (K : Operations) (names i : ℕ) (x : SheetType) → type_fits K.largest names i x ≡ true → length (entries x) ≤ 8 → SoundEntries K (entries x)
sound_type K names i Pure h l = record { few = l; small = tt; placed = tt }
sound_type K names i Public h l = record { few = l; small = tt; placed = tt }
sound_type K names i (Channel c) h l =
    let p = and_parts (below i (parts c.components)) (all (entry_fits K.largest names) (elements c.entries)) h in
    record {
      few = l;
      small = small_entries K.largest names (elements c.entries) p.1;
      placed = entries_placed K.largest names (elements c.entries) p.1;
    }

none_below : (xs : List ℕ) → below 0 xs ≡ true → xs ≡ []
none_below [] h = refl
none_below (x ∷ xs) h = let l = ltb-true x 0 (and_parts (ltb x 0) (below 0 xs) h).0 in absurd (omega arith)

-- the components of type 0 would have lower numbers, so there are none
bare : (largest names : ℕ) (x : SheetType) → type_fits largest names 0 x ≡ true → components x ≡ []
bare largest names Pure h = refl
bare largest names Public h = refl
bare largest names (Channel c) h =
    none_below (parts c.components) (and_parts (below 0 (parts c.components)) (all (entry_fits largest names) (elements c.entries)) h).0

module _ (K : Operations) (t : Tables) (sound : Sound K.largest t) where
  -- the entries of each type can be compared
  pub sound_entries : (i : ℕ) → SoundEntries K (entries (type_at (elements t.types) i))
  sound_entries i = sound_type K (length (elements t.names)) i (type_at (elements t.types) i) (fits_at K t sound i) (sound.limited.entries i)

  -- no type nests more than four levels
  nested : (i : ℕ) → nests (elements t.types) 4 i ≡ true
  nested i =
      ⊎_elim
      (λ l. ⊎_elim (λ h. h) (λ h. absurd (sound.straight _ (bad_type i l (too_deep h)))) (cases_Bool (nests (elements t.types) 4 i)))
      (λ l. ap (λ x. all (nests (elements t.types) 3) (components x)) (get_or_past (elements t.types) i Pure l))
      (cases_lt i (length (elements t.types)))

  -- and its components nest three at most; past the last stands type 0, which has none
  pub component_nested : (i place : ℕ) → nests (elements t.types) 3 (get_or (components (type_at (elements t.types) i)) place 0) ≡ true
  component_nested i place =
      ⊎_elim
      (λ l. inner_nests (elements t.types) 3 i place l (nested i))
      (λ l. ap (nests (elements t.types) 3) (get_or_past (components (type_at (elements t.types) i)) place 0 l)
      ∙ ap (all (nests (elements t.types) 2)) (bare K.largest (length (elements t.names)) (type_at (elements t.types) 0) (fits_at K t sound 0)))
      (cases_lt place (length (components (type_at (elements t.types) i))))
