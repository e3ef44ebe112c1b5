-- The amounts of an opened sheet's nodes, by the work rows.
use Rattle.std.proofs.Common.{◌≡◌, ℕ, suc, ◌+◌, ◌*◌, ◌/◌, ◌%◌, ◌<◌, ◌≤◌, List, [], ◌∷◌, map, length, get_or, take, drop, sym, refl, ap, ◌∙◌, subst, ap₂, ⊎_elim, le_trans, arith}
use Rattle.std.specs.List.{AllByRecursion}
use Rattle.std.proofs.lemmas.List.{get_or_past, get_or-take, get_or-drop, length-take-le, length-drop, length-map}
use Rattle.std.proofs.lemmas.Bool.{cases_lt}
use Rattle.calculus.specs.Ceiling.{EntriesSmall}
use Rattle.calculus.specs.Countings.{Operations, Laws}
use Rattle.calculus.specs.Effects.{◌≟◌, latent, full_right, named}
use Rattle.calculus.specs.Joins.{amount_if, join_over}
use Rattle.calculus.specs.Labels as calculus
use Rattle.calculus.specs.Processes.{send, size}
use Rattle.calculus.specs.Types as types
use Rattle.calculus.proofs.Ceiling.{amounts_fit}
use Rattle.calculus.proofs.Joins.{if_zero, if_at_most, over_map, over_alike}
use Rattle.fault.specs.declared.items.Items.{Items}
use Rattle.fault.specs.declared.items.Items.TheVariants.{One, Two, Three, Four}
use Rattle.fault.specs.declared.label.Label.{Label}
use Rattle.tables.specs.Channels.{entries}
use Rattle.tables.specs.Elements.{elements}
use Rattle.tables.specs.Encoding.{parts}
use Rattle.tables.specs.Shares.{Entry}
use Rattle.tables.specs.declared.tables.Item.{Item}
use Rattle.tables.specs.declared.tables.Node.{Node}
use Rattle.tables.specs.declared.tables.Node.TheVariants.{Stop, Send, Receive, Both, Copy, New, Test, Begin, End}
use Rattle.tables.specs.declared.tables.SheetType.{SheetType}
use Rattle.tables.specs.declared.tables.SheetType.TheVariants.{Pure, Public, Channel}
use Rattle.tables.specs.declared.tables.Tables.{Tables}
use Rattle.sheet.specs.Opening.{Sound}
use Rattle.sheet.specs.Tree.{children, node_at}
use Rattle.sheet.specs.Types.{type_at}
use Rattle.meaning.specs.Amounts.{amount_at, step}
use Rattle.meaning.specs.Faults.{names_label}
use Rattle.meaning.specs.Labels.{label_of}
use Rattle.meaning.specs.Processes.{shape, process_at}
use Rattle.meaning.specs.Types.{item, entry, form, type_within, types_of}
use Rattle.meaning.proofs.Opened.{entries_small, inside_at, node_size}
use Rattle.meaning.proofs.Scopes.{tree_of}
use Rattle.meaning.proofs.Sizes.{Inside}
use Rattle.meaning.proofs.Steps.{by_steps}
use Rattle.meaning.proofs.Unfolding.{process_unfolds}
use Rattle.effects.specs.Rows.{Row, blank, map_items, entry_row, carried, rows_of, Filled, places}
use Rattle.effects.specs.Steps.{gives, own_at, step_by, Amounts}

-- names put into an entry's label
put_in : (ys : List ℕ) (xs : Items Item) → label_of (λ x. x) (map_items (λ i. named ys (item i)) xs) ≡ calculus.map_label (named ys) (label_of item xs)
put_in ys (One a) = refl
put_in ys (Two a b) = refl
put_in ys (Three a b c) = refl
put_in ys (Four a b c d) = refl

all_later : (n count : ℕ) (xs : List ℕ) → Inside (suc n) count xs → AllByRecursion (λ c. (n < c) × (c < count)) xs
all_later n count [] h = tt
all_later n count (x ∷ xs) h = ((h.0, h.1), all_later n count xs h.2)

module _ (K : Operations) (W : Laws K) (L : Label ℕ) where
  -- rows of nothing after a list of rows give nothing
  padded : (xs ys : List Row) → length ys ≤ length xs → ((j : ℕ) → j < length xs → get_or xs j blank ≡ get_or ys j blank) → join_over K xs (gives L) ≡ join_over K ys (gives L)
  padded [] [] l e = refl
  padded [] (y ∷ ys) l e = absurd (omega arith)
  padded (x ∷ xs) [] l e =
      ap₂ K.join
      (ap (gives L) (e 0 (omega arith)) ∙ if_zero (names_label blank.label ≟ names_label L))
      (padded xs [] (omega arith) (λ j h. e (suc j) (omega arith)))
      ∙ W.neutral 0
  padded (x ∷ xs) (y ∷ ys) l e = ap₂ K.join (ap (gives L) (e 0 (omega arith))) (padded xs ys (omega arith) (λ j h. e (suc j) (omega arith)))

  -- what a message carries
  entries_give : (ys : List ℕ) (es : List Entry) → join_over K (map (entry_row ys) es) (gives L)
      ≡ join_over K (map entry es) (λ e. amount_if (calculus.map_label (named ys) e.label ≟ names_label L) e.amount)
  entries_give ys es =
      over_map K W (entry_row ys) es (gives L)
      ∙ over_alike K W es (λ e. ap (λ M. amount_if (M ≟ names_label L) e.amount) (put_in ys e.label.items))
      ∙ sym (over_map K W entry es (λ e. amount_if (calculus.map_label (named ys) e.label ≟ names_label L) e.amount))

  carried_gives : (ys : List ℕ) (f : ℕ → types.NameType) (x : SheetType) → join_over K (map (entry_row ys) (entries x)) (gives L) ≡ latent K (form f x) ys (names_label L)
  carried_gives ys f Pure = refl
  carried_gives ys f Public = refl
  carried_gives ys f (Channel c) = entries_give ys (elements c.entries)

  -- a full right
  right_gives : (l : Label ℕ) → join_over K (record { label = l; amount = K.full } ∷ []) (gives L) ≡ full_right K (names_label l) (names_label L)
  right_gives l = W.neutral _

-- what a node gives a label of itself
abbrev own_of : Operations → types.Assignment → calculus.Label ℕ → Node → ℕ
own_of K ts M Stop = 0
own_of K ts M (Send channel xs) = latent K (ts channel) (parts xs) M
own_of K ts M (Receive channel xs next) = latent K (ts channel) (parts xs) M
own_of K ts M (Both a b) = 0
own_of K ts M (Copy next) = 0
own_of K ts M (New x next) = 0
own_of K ts M (Test x y a b) = 0
own_of K ts M (Begin l next) = full_right K (names_label l) M
own_of K ts M (End l next) = full_right K (names_label l) M

step_own : (K : Operations) (ts : types.Assignment) (M : calculus.Label ℕ) (f : ℕ → ℕ) (x : Node) → step K ts M f x ≡ step_by K (own_of K ts M x) f x
step_own K ts M f Stop = refl
step_own K ts M f (Send channel xs) = refl
step_own K ts M f (Receive channel xs next) = refl
step_own K ts M f (Both a b) = refl
step_own K ts M f (Copy next) = refl
step_own K ts M f (New x next) = refl
step_own K ts M f (Test x y a b) = refl
step_own K ts M f (Begin l next) = refl
step_own K ts M f (End l next) = refl

module _ (K : Operations) (W : Laws K) (ts : types.Assignment) (small : (x : types.Name) → EntriesSmall K (ts x)) (M : calculus.Label ℕ) where
  latent_fits : (x : ℕ) (ys : List ℕ) → latent K (ts x) ys M ≤ K.ceiling
  latent_fits x ys = (amounts_fit K W ts small (send x ys) M).fits (omega arith)

  right_fits : (l : Label ℕ) → full_right K (names_label l) M ≤ K.ceiling
  right_fits l = if_at_most (names_label l ≟ M) K.full K.ceiling (le_trans W.full_entry W.entry_ceiling)

  own_below : (x : Node) → own_of K ts M x ≤ K.ceiling
  own_below Stop = omega arith
  own_below (Send channel xs) = latent_fits channel (parts xs)
  own_below (Receive channel xs next) = latent_fits channel (parts xs)
  own_below (Both a b) = omega arith
  own_below (Copy next) = omega arith
  own_below (New x next) = omega arith
  own_below (Test x y a b) = omega arith
  own_below (Begin l next) = right_fits l
  own_below (End l next) = right_fits l

module _ (K : Operations) (W : Laws K) (t : Tables) (sound : Sound K.largest t) (table : List Row)
    (room : 8 * length (elements t.nodes) ≤ length table)
    (filled : Filled K.full (elements t.types) (elements t.names) (elements t.nodes) table (8 * length (elements t.nodes))) (L : Label ℕ) where
  abbrev made : Node → List Row
  made x = rows_of K.full (elements t.types) (elements t.names) x

  channel_gives : (ys : List ℕ) (x : ℕ) → join_over K (map (entry_row ys) (carried (elements t.types) (elements t.names) x)) (gives L) ≡ latent K (types_of t x) ys (names_label L)
  channel_gives ys x = carried_gives K W L ys (type_within (elements t.types) 3) (type_at (elements t.types) (get_or (elements t.names) x (length (elements t.types))))

  made_give : (x : Node) → join_over K (made x) (gives L) ≡ own_of K (types_of t) (names_label L) x
  made_give Stop = refl
  made_give (Send channel xs) = channel_gives (parts xs) channel
  made_give (Receive channel xs next) = channel_gives (parts xs) channel
  made_give (Both a b) = refl
  made_give (Copy next) = refl
  made_give (New x next) = refl
  made_give (Test x y a b) = refl
  made_give (Begin l next) = right_gives K W L l
  made_give (End l next) = right_gives K W L l

  carried_few : (ys : List ℕ) (x : ℕ) → length (map (entry_row ys) (carried (elements t.types) (elements t.names) x)) ≤ 8
  carried_few ys x =
      let h = sound.limited.entries (get_or (elements t.names) x (length (elements t.types))) in
      omega (arith, length-map (carried (elements t.types) (elements t.names) x) (entry_row ys))

  made_few : (x : Node) → length (made x) ≤ 8
  made_few Stop = omega arith
  made_few (Send channel xs) = carried_few (parts xs) channel
  made_few (Receive channel xs next) = carried_few (parts xs) channel
  made_few (Both a b) = omega arith
  made_few (Copy next) = omega arith
  made_few (New x next) = omega arith
  made_few (Test x y a b) = omega arith
  made_few (Begin l next) = omega arith
  made_few (End l next) = omega arith

  -- what stands in the table for a node
  placed : (n j : ℕ) → n < length (elements t.nodes) → j < 8 → get_or (places table n) j blank ≡ get_or (made (node_at (elements t.nodes) n)) j blank
  placed n j l h =
      let node : (8 * n + j) / 8 ≡ n = omega arith in
      let row : (8 * n + j) % 8 ≡ j = omega arith in
      get_or-take 8 (drop (8 * n) table) j blank h ∙ get_or-drop (8 * n) table j blank ∙ filled (8 * n + j) (omega arith)
      ∙ ap₂ (λ m k. get_or (made (node_at (elements t.nodes) m)) k blank) node row

  own_made : (n : ℕ) → n < length (elements t.nodes) → own_at K table L n ≡ own_of K (types_of t) (names_label L) (node_at (elements t.nodes) n)
  own_made n l =
      let x = node_at (elements t.nodes) n in
      let eight : length (places table n) ≡ 8 = length-take-le 8 (drop (8 * n) table) (omega (arith, length-drop (8 * n) table)) in
      padded K W L (places table n) (made x) (omega (arith, made_few x)) (λ j h. placed n j l (omega arith)) ∙ made_give x

  abbrev A : ℕ → ℕ
  A n = amount_at K t n (names_label L)

  steps_at : (n : ℕ) → A n ≡ step_by K (own_at K table L n) A (node_at (elements t.nodes) n)
  steps_at n =
      by_steps K t sound n (names_label L)
      ∙ ⊎_elim
      (λ l. step_own K (types_of t) (names_label L) A (node_at (elements t.nodes) n) ∙ ap (λ o. step_by K o A (node_at (elements t.nodes) n)) (sym (own_made n l)))
      (λ l. ap (step K (types_of t) (names_label L) A) (get_or_past (elements t.nodes) n Stop l) ∙ sym (ap (step_by K (own_at K table L n) A) (get_or_past (elements t.nodes) n Stop l)))
      (cases_lt n (length (elements t.nodes)))

  small_at : (n : ℕ) → size (process_at (elements t.nodes) n) ≤ 1024
  small_at n =
      ⊎_elim
      (λ l. le_trans (node_size K t sound n l) sound.limited.nodes)
      (λ l. omega (arith, ap size (process_unfolds (elements t.nodes) (tree_of K.largest t sound) n ∙ ap (shape (process_at (elements t.nodes))) (get_or_past (elements t.nodes) n Stop l))))
      (cases_lt n (length (elements t.nodes)))

  -- the amounts of the sheet's nodes are those that the rows give
  pub sheet_amounts : Amounts K (elements t.nodes) table L (λ n. amount_at K t n (names_label L))
  sheet_amounts = record {
    steps = steps_at;
    later = λ n l. all_later n (length (elements t.nodes)) (children (node_at (elements t.nodes) n)) (inside_at K t sound n l);
    own_fits = λ n l. subst (λ (o : ℕ). o ≤ K.ceiling) (sym (own_made n l)) (own_below K W (types_of t) (entries_small K t sound) (names_label L) (node_at (elements t.nodes) n));
    fits = λ n. (amounts_fit K W (types_of t) (entries_small K t sound) (process_at (elements t.nodes) n) (names_label L)).fits (small_at n);
  }

-- the same, where the rows of equal tables stand first in a table
pub opened_amounts : (K : Operations) (W : Laws K) (t : Tables) (sound : Sound K.largest t) (full : ℕ) → full ≡ K.full → (u : Tables) → u ≡ t → (table : List Row) →
    8 * length (elements t.nodes) ≤ length table → Filled full (elements u.types) (elements u.names) (elements u.nodes) table (8 * length (elements u.nodes)) → (L : Label ℕ) →
    Amounts K (elements t.nodes) (take (8 * length (elements t.nodes)) table) L (λ n. amount_at K t n (names_label L))
opened_amounts K W t sound full f u e table room filled L =
    let k = 8 * length (elements t.nodes) in
    let one = subst (λ (x : ℕ). Filled x (elements u.types) (elements u.names) (elements u.nodes) table (8 * length (elements u.nodes))) f filled in
    let all = subst (λ (x : Tables). Filled K.full (elements x.types) (elements x.names) (elements x.nodes) table (8 * length (elements x.nodes))) e one in
    sheet_amounts K W t sound (take k table) (omega (arith, length-take-le k table room)) (λ i l. get_or-take k table i blank l ∙ all i l) L

-- the same amounts, of an equal counting, equal tables, and the nodes and the rows of these
pub amounts_same : (K J : Operations) (t u : Tables) (all : List Node) (table rows : List Row) (L : Label ℕ) (A : ℕ → ℕ) → J ≡ K → u ≡ t → all ≡ elements u.nodes →
    rows ≡ take (8 * length (elements u.nodes)) table → Amounts K (elements t.nodes) (take (8 * length (elements t.nodes)) table) L A → Amounts J all rows L A
amounts_same K J t u all table rows L A k e n r a =
    subst (λ (X : Operations). Amounts X all rows L A) (sym k)
    (subst (λ (x : List Node). Amounts K x rows L A) (sym n)
    (subst (λ (x : List Row). Amounts K (elements u.nodes) x L A) (sym r)
    (subst (λ (x : Tables). Amounts K (elements x.nodes) (take (8 * length (elements x.nodes)) table) L A) (sym e) a)))
