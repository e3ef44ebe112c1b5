-- Well-formed types, item by item, entry by entry and component by component.
use Rattle.std.proofs.Common.{◌≡◌, ℕ, zero, suc, ◌-◌, ◌<◌, Bool, true, false, ◌&&◌, ltb, List, [], ◌∷◌, map, length, get_or, replicate, Decides, sym, refl, ap, ◌∙◌, subst, ⊎_elim, arith}
use Rattle.std.specs.List.{AllByRecursion}
use Rattle.std.proofs.ByRecursion.{All-map, All-weaker}
use Rattle.std.proofs.lemmas.List.{get_or_past, get_or-replicate}
use Rattle.std.proofs.lemmas.Bool.{false≢true, cases_lt, le-ltb}
use Rattle.std.proofs.lemmas.Bool.Decides.{Decides-like}
use Rattle.calculus.specs.Labels.{items}
use Rattle.calculus.specs.Scopes.{Scope, in_scope, push, WellFormedItem, WellFormedEntry, WellFormedInside, WellFormed, outermost}
use Rattle.calculus.specs.Types as calculus
use Rattle.tables.specs.Channels.{components, entries}
use Rattle.tables.specs.Elements.{elements}
use Rattle.tables.specs.Shares.{Entry}
use Rattle.tables.specs.declared.tables.SheetType.{SheetType}
use Rattle.tables.specs.declared.tables.SheetType.TheVariants.{Pure, Public, Channel}
use Rattle.tables.specs.declared.tables.Tables.{Tables}
use Rattle.sheet.specs.Types.{type_at}
use Rattle.tables.proofs.Iterated.{few}
use Rattle.meaning.specs.Scopes.{scope_for}
use Rattle.meaning.specs.Types.{entry, form, type_within, types_of}
use Rattle.names.specs.Marks.{marked, Marks, outer, Counts}

all_unmap : {X Y : Type 0} (P : X → Type 0) (f : Y → X) (ys : List Y) → AllByRecursion P (map f ys) → AllByRecursion (λ y. P (f y)) ys
all_unmap P f [] h = tt
all_unmap P f (y ∷ ys) h = (h.0, all_unmap P f ys h.1)

-- a type of the tables, by its entries and its components
abbrev pub PartsFit : Scope → (ℕ → ℕ) → (ℕ → calculus.NameType) → (ℕ → List ℕ → Type 0)
PartsFit Γ before f n cs = (i : ℕ) → i < n → WellFormedInside Γ (push i before) (f (get_or cs i 0))

pub form_fits : (Γ : Scope) (before : ℕ → ℕ) (f : ℕ → calculus.NameType) (x : SheetType)
    → AllByRecursion (λ e. WellFormedEntry Γ (push (length (components x)) before) (entry e)) (entries x)
    → PartsFit Γ before f (length (components x)) (components x)
    → WellFormedInside Γ before (form f x)
form_fits Γ before f Pure es cs = tt
form_fits Γ before f Public es cs = tt
form_fits Γ before f (Channel c) es cs =
    (few c.components.0, All-map (WellFormedEntry Γ (push (length (components (Channel c))) before)) entry (entries (Channel c)) es, cs)

pub form_entries : (Γ : Scope) (before : ℕ → ℕ) (f : ℕ → calculus.NameType) (x : SheetType) → WellFormedInside Γ before (form f x)
    → AllByRecursion (λ e. WellFormedEntry Γ (push (length (components x)) before) (entry e)) (entries x)
form_entries Γ before f Pure h = tt
form_entries Γ before f Public h = tt
form_entries Γ before f (Channel c) h = all_unmap (WellFormedEntry Γ (push (length (components (Channel c))) before)) entry (entries (Channel c)) h.1

pub form_components : (Γ : Scope) (before : ℕ → ℕ) (f : ℕ → calculus.NameType) (x : SheetType) → WellFormedInside Γ before (form f x)
    → PartsFit Γ before f (length (components x)) (components x)
form_components Γ before f Pure h i l = absurd (omega arith)
form_components Γ before f Public h i l = absurd (omega arith)
form_components Γ before f (Channel c) h i l = h.2 i l

-- only the names below 64 and the counts matter
module _ (Γ Δ : Scope) (names : (y : ℕ) → in_scope Γ y ≡ in_scope Δ y) where
  same_item : (b d : ℕ → ℕ) → ((u : ℕ) → b u ≡ d u) → (i : calculus.Item) → WellFormedItem Γ b i → WellFormedItem Δ d i
  same_item b d e (calculus.name x) h = sym (names x) ∙ h
  same_item b d e (calculus.index u p) h = subst (λ n. p < n) (e u) h

  same_entry : (b d : ℕ → ℕ) → ((u : ℕ) → b u ≡ d u) → (e : calculus.Entry) → WellFormedEntry Γ b e → WellFormedEntry Δ d e
  same_entry b d s e h = All-weaker (WellFormedItem Γ b) (WellFormedItem Δ d) (same_item b d s) (items e.label) h

  same_push : (b d : ℕ → ℕ) → ((u : ℕ) → b u ≡ d u) → (n u : ℕ) → push n b u ≡ push n d u
  same_push b d e n zero = refl
  same_push b d e n (suc u) = e u

  pub same_inside : (b d : ℕ → ℕ) → ((u : ℕ) → b u ≡ d u) → (t : calculus.NameType) → WellFormedInside Γ b t → WellFormedInside Δ d t
  same_inside b d e calculus.pure h = tt
  same_inside b d e calculus.public h = tt
  same_inside b d e (calculus.channel n cs es) h = (
    h.0,
    All-weaker (WellFormedEntry Γ (push n b)) (WellFormedEntry Δ (push n d)) (same_entry (push n b) (push n d) (same_push b d e n)) es h.1,
    λ i l. same_inside (push i b) (push i d) (same_push b d e i) (cs i) (h.2 i l),
  )

-- a fact that holds is decided by true, and one that fails by false
pub holds : {P : Type 0} → P → Decides true P
holds p = (λ _. p, λ _. refl)

pub fails : {P : Type 0} → (P → ⊥) → Decides false P
fails away = (λ e. absurd (false≢true e), λ p. absurd (away p))

-- counts one level further in
module _ (levels n : ℕ) (counts inner : List ℕ) (some : levels ≡ 0 → ⊥) (given : Counts levels counts) (size : length inner ≡ 4)
    (each : (u : ℕ) → u < 4 → outer inner u ≡ push n (outer counts) u) where
  pub pushed_outer : (u : ℕ) → outer inner u ≡ push n (outer counts) u
  pushed_outer zero = each 0 (omega arith)
  pushed_outer (suc u) =
      ⊎_elim
      (λ l. each (suc u) l)
      (λ l. get_or_past inner (suc u) 0 (omega arith) ∙ sym (given.none u (omega (arith, some))))
      (cases_lt (suc u) 4)

module _ (types : List SheetType) (levels at : ℕ) (some : levels ≡ 0 → ⊥) where
  -- a type with levels left, by those one level further in
  within_step : type_within types levels at ≡ form (type_within types (levels - 1)) (type_at types at)
  within_step = step levels some
    where
      step : (d : ℕ) → (d ≡ 0 → ⊥) → type_within types d at ≡ form (type_within types (d - 1)) (type_at types at)
      step zero s = absurd (s refl)
      step (suc d) s = let one : d ≡ suc d - 1 = omega arith in ap (λ k. form (type_within types k) (type_at types at)) one

  module _ (Γ : Scope) (before : ℕ → ℕ) where
    -- a type is well formed where its entries and its components are
    pub formed : AllByRecursion (λ e. WellFormedEntry Γ (push (length (components (type_at types at))) before) (entry e)) (entries (type_at types at))
        → PartsFit Γ before (type_within types (levels - 1)) (length (components (type_at types at))) (components (type_at types at))
        → WellFormedInside Γ before (type_within types levels at)
    formed es cs =
        subst (WellFormedInside Γ before) (sym within_step) (form_fits Γ before (type_within types (levels - 1)) (type_at types at) es cs)

    pub formed_entries : WellFormedInside Γ before (type_within types levels at) → AllByRecursion (λ e. WellFormedEntry Γ (push (length (components (type_at types at))) before) (entry e)) (entries (type_at types at))
    formed_entries h =
        form_entries Γ before (type_within types (levels - 1)) (type_at types at) (subst (WellFormedInside Γ before) within_step h)

    pub formed_components : WellFormedInside Γ before (type_within types levels at)
        → PartsFit Γ before (type_within types (levels - 1)) (length (components (type_at types at))) (components (type_at types at))
    formed_components h =
        form_components Γ before (type_within types (levels - 1)) (type_at types at) (subst (WellFormedInside Γ before) within_step h)

-- entries and components as they are tested: by equal marks, and with counts in an array
pub entries_tested : (next scope : List Bool) → next ≡ scope → (b d : ℕ → ℕ) (n m : ℕ) (es fs : List Entry) (r : Bool) → ((u : ℕ) → b u ≡ push n d u) → n ≡ m → es ≡ fs
    → Decides r (AllByRecursion (λ e. WellFormedEntry (marked next) b (entry e)) es) → Decides r (AllByRecursion (λ e. WellFormedEntry (marked scope) (push m d) (entry e)) fs)
entries_tested next scope e b d n m es fs r s en ee h =
    let Γ = marked scope in
    let same : (u : ℕ) → b u ≡ push m d u = λ u. s u ∙ ap (λ k. push k d u) en in
    subst (λ l. Decides r (AllByRecursion (λ e. WellFormedEntry Γ (push m d) (entry e)) l)) ee
    (Decides-like r
    (All-weaker _ _ (λ e. same_entry Γ Γ (λ y. refl) b (push m d) same (entry e)) es)
    (All-weaker _ _ (λ e. same_entry Γ Γ (λ y. refl) (push m d) b (λ u. sym (same u)) (entry e)) es)
    (subst (λ l. Decides r (AllByRecursion (λ e. WellFormedEntry (marked l) b (entry e)) es)) e h))

pub component_tested : (next scope : List Bool) → next ≡ scope → (b d : ℕ → ℕ) (i : ℕ) (t : calculus.NameType) (r : Bool) → ((u : ℕ) → b u ≡ push i d u)
    → Decides r (WellFormedInside (marked next) b t) → Decides r (WellFormedInside (marked scope) (push i d) t)
component_tested next scope e b d i t r s h =
    let Γ = marked scope in
    Decides-like r (same_inside Γ Γ (λ y. refl) b (push i d) s t) (same_inside Γ Γ (λ y. refl) (push i d) b (λ u. sym (s u)) t)
    (subst (λ l. Decides r (WellFormedInside (marked l) b t)) e h)

-- marks of a scope are as good as the scope
pub marks_in : (marks : List Bool) (Γ : Scope) → Marks marks Γ → (y : ℕ) → in_scope (marked marks) y ≡ in_scope Γ y
marks_in marks Γ m y =
    ⊎_elim
    (λ l. ap (λ b. ltb y 64 && b) (m.each y l))
    (λ l. ap (λ b. b && marked marks y) (le-ltb y 64 l) ∙ sym (ap (λ b. b && Γ y) (le-ltb y 64 l)))
    (cases_lt y 64)

-- no counts yet
pub no_counts : (u : ℕ) → outer (replicate 4 0) u ≡ 0
no_counts u = ⊎_elim (get_or-replicate 4 u 0 0) (λ l. get_or_past (replicate 4 0) u 0 l) (cases_lt u 4)

pub well_tested : (t : Tables) (x n : ℕ) (marks : List Bool) (counts : List ℕ) (types : List SheetType) (r : Bool) → Marks marks (scope_for t x) → ((u : ℕ) → outer counts u ≡ 0)
    → types ≡ elements t.types → n ≡ get_or (elements t.names) x (length (elements t.types))
    → Decides r (WellFormedInside (marked marks) (outer counts) (type_within types 4 n)) → Decides r (WellFormed (scope_for t x) (types_of t x))
well_tested t x n marks counts types r m none es en d =
    let Γ = scope_for t x in
    let same = marks_in marks Γ m in
    let here = subst (λ ts. Decides r (WellFormedInside (marked marks) (outer counts) (type_within ts 4 n))) es d in
    let there : Decides r (WellFormedInside (marked marks) (outer counts) (types_of t x)) =
    subst (λ k. Decides r (WellFormedInside (marked marks) (outer counts) (type_within (elements t.types) 4 k))) en here in
    Decides-like r
    (same_inside (marked marks) Γ same (outer counts) outermost none (types_of t x))
    (same_inside Γ (marked marks) (λ y. sym (same y)) outermost (outer counts) (λ u. sym (none u)) (types_of t x))
    there
