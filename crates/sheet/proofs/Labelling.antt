-- Searching the entries of a type for a label, and for one that stands twice.
use Rattle.std.proofs.Common.{◌≡◌, ℕ, ◌+◌, ◌-◌, ◌<◌, ◌≤◌, Bool, true, false, not, List, [], ◌∷◌, length, get_or, take, drop, Decides, MatchBool, sym, refl, ap, ◌∙◌, subst, arith, length-drop, below_more}
use Rattle.std.specs.List.{AllWithin, HoldsAt}
use Rattle.std.proofs.lemmas.List.{get_or_default, get_or-drop, take_all}
use Rattle.std.proofs.lemmas.Bool.{both_ways}
use Rattle.fault.specs.declared.label.Label.{Label}
use Rattle.sheet.specs.Labels.{Labelled, Repeated}
use Rattle.sheet.specs.Labels.Labelled.{labelled}
use Rattle.sheet.specs.Labels.Repeated.{repeated}
use Rattle.tables.specs.Channels.{entries}
use Rattle.sheet.specs.Types.{Misformed, nests, type_at}
use Rattle.sheet.specs.Types.Misformed.{same_label, too_deep}
use Rattle.tables.specs.Shares.{Entry}
use Rattle.tables.specs.declared.tables.Item.{Item}
use Rattle.tables.specs.declared.tables.SheetType.{SheetType}

-- a fact that holds, and one that does not, as decided
pub decided : {P : Type 0} → P → Decides true P
decided p = (λ _. p, λ _. refl)

pub undecided : {P : Type 0} → (P → ⊥) → Decides false P
undecided h = (λ e. let z : ◌≡◌ {A = ℕ} 0 1 = cc in absurd (omega arith), λ p. absurd (h p))

pub refuted : {P : Type 0} → Decides false P → P → ⊥
refuted d p = let e = d.1 p in let z : ◌≡◌ {A = ℕ} 0 1 = cc in omega arith

-- an entry, where there is one
some_entry : (es : List Entry) → 0 < length es → Entry
some_entry [] l = absurd (omega arith)
some_entry (e ∷ es) l = e

-- what a search for a label says
pub labelled_decides : (es : List Entry) (l : Label Item) (r : Bool)
    → MatchBool r ((k : ℕ) × (k < length es) × HoldsAt (λ (e : Entry). e.label ≡ l) es k) (AllWithin (λ (e : Entry). e.label ≡ l → ⊥) es 0 (length es))
    → Decides r (Labelled es l)
labelled_decides es l true h = let e = some_entry es (let k = h.1 in omega arith) in decided (labelled h.0 e h.1 (h.2 e))
labelled_decides es l false h = undecided none
  where
    none : Labelled es l → ⊥
    none (labelled j e lt same) = h j e (omega arith) lt same

-- no entry below number i has its label again behind it
abbrev pub Unrepeated : List Entry → ℕ → Type 0
Unrepeated es i =
    (k : ℕ) → k < i → (j : ℕ) (e : Entry) → k < j → j < length es → (get_or es k e).label ≡ (get_or es j e).label → ⊥

-- the slice behind entry number i
tail : (es : List Entry) (i : ℕ) → take (length es - (i + 1)) (drop (i + 1) es) ≡ drop (i + 1) es
tail es i =
    let h : length (drop (i + 1) es) ≤ length es - (i + 1) = simp length-drop (omega arith) in
    take_all (length es - (i + 1)) (drop (i + 1) es) h

behind : (es : List Entry) (i : ℕ) (d : Entry) → i < length es → Labelled (drop (i + 1) es) (get_or es i d).label → Repeated es
behind es i d within (labelled j e lt same) =
    let inside : i + 1 + j < length es = omega (arith, length-drop (i + 1) es) in
    let up : i < i + 1 + j = omega arith in
    repeated i (i + 1 + j) e up inside
    (ap (λ x. x.label) (get_or_default es i e d within) ∙ sym same ∙ ap (λ x. x.label) (get_or-drop (i + 1) es j e))

ahead : (es : List Entry) (i j : ℕ) (d e : Entry) → i < j → j < length es → (get_or es i e).label ≡ (get_or es j e).label → Labelled (drop (i + 1) es) (get_or es i d).label
ahead es i j d e up within same =
    let at : i + 1 + (j - (i + 1)) ≡ j = omega arith in
    let lt : j - (i + 1) < length (drop (i + 1) es) = simp length-drop (omega arith) in
    let first : i < length es = omega arith in
    labelled (j - (i + 1)) e lt
    (ap (λ x. x.label) (get_or-drop (i + 1) es (j - (i + 1)) e ∙ ap (λ k. get_or es k e) at)
    ∙ sym same
    ∙ ap (λ x. x.label) (get_or_default es i e d first))

pub repeated_here : (es : List Entry) (i : ℕ) (d : Entry) → i < length es → Labelled (take (length es - (i + 1)) (drop (i + 1) es)) (get_or es i d).label → Repeated es
repeated_here es i d within h = behind es i d within (subst (λ (xs : List Entry). Labelled xs (get_or es i d).label) (tail es i) h)

pub unrepeated_more : (es : List Entry) (i : ℕ) (d : Entry) → Unrepeated es i → (Labelled (take (length es - (i + 1)) (drop (i + 1) es)) (get_or es i d).label → ⊥) → Unrepeated es (i + 1)
unrepeated_more es i d none here =
    below_more (λ k. (j : ℕ) (e : Entry) → k < j → j < length es → (get_or es k e).label ≡ (get_or es j e).label → ⊥) i none
    (λ j e up within same.
    here (subst (λ (xs : List Entry). Labelled xs (get_or es i d).label) (sym (tail es i)) (ahead es i j d e up within same)))

pub unrepeated_all : (es : List Entry) (i : ℕ) → length es ≤ i → Unrepeated es i → Repeated es → ⊥
unrepeated_all es i past none (repeated k j e up within same) = none k (omega arith) j e up within same

-- a type's two faults, decided together
pub misformed_twice : (types : List SheetType) (t : ℕ) (es : List Entry) → es ≡ entries (type_at types t) → Repeated es → Misformed types t
misformed_twice types t es is h = twice (subst Repeated is h)
  where
    twice : Repeated (entries (type_at types t)) → Misformed types t
    twice (repeated i j e up within same) = same_label i j e up within same

pub misformed_by_depth : (types : List SheetType) (t : ℕ) (es : List Entry) (b : Bool) → es ≡ entries (type_at types t) → (Repeated es → ⊥) → b ≡ nests types 4 t → Decides (not b) (Misformed types t)
misformed_by_depth types t es true is none deep =
    undecided (λ (m : Misformed types t). elim m [ same_label i j e up within same ↦ none (subst Repeated (sym is) (repeated i j e up within same)) | too_deep h ↦ both_ways (nests types 4 t) h (sym deep) ])
misformed_by_depth types t es false is none deep = decided (too_deep (sym deep))
