-- The verdicts of the nine small sheets, by the definitions alone: each name and each node is looked at, and all amounts compute.
use Rattle.std.proofs.Common.{◌≡◌, ℕ, zero, suc, ◌+◌, ◌<◌, ◌≤◌, true, false, List, [], ◌∷◌, length, get_or, Some, None, sym, refl, ◌∙◌, subst, inl, ⊎_elim, arith}
use Rattle.std.proofs.lemmas.List.{get_or_past}
use Rattle.std.proofs.lemmas.Bool.{false≢true, cases_eq, cases_lt}
use Rattle.calculus.specs.Built as built
use Rattle.calculus.specs.Checks.{Checks}
use Rattle.calculus.specs.Countings.{Operations, Laws}
use Rattle.calculus.specs.Effects.{◌≟◌}
use Rattle.calculus.specs.Joins.{amount_if}
use Rattle.calculus.specs.Labels.{Label, one, items}
use Rattle.calculus.specs.Lists.{◌∈◌}
use Rattle.calculus.specs.Scopes.{in_scope, Fresh, push, outermost, WellFormedInside, WellFormed}
use Rattle.calculus.specs.Types.{Name, Entry, NameType, public, channel, required, SameType, same_public}
use Rattle.calculus.specs.Typing.{Takes, ChannelUse}
use Rattle.calculus.proofs.Built.{parts_laws, once_laws}
use Rattle.calculus.proofs.Joins.{if_no, join_zero}
use Rattle.calculus.proofs.Typing.{acceptance_agrees}
use Rattle.fault.specs.declared.fault.Fault.TheVariants.{WrongType, RootOwes}
use Rattle.tables.specs.Elements.{elements}
use Rattle.tables.specs.declared.tables.Node.{Node}
use Rattle.tables.specs.declared.tables.Node.TheVariants.{Stop}
use Rattle.tables.specs.declared.tables.Tables.{Tables}
use Rattle.sheet.specs.Tree.{node_at}
use Rattle.meaning.specs.Accepts.{Accepts}
use Rattle.meaning.specs.Amounts.{amount_at}
use Rattle.meaning.specs.Faults.{names_label, Faulty, escapes, not_copyable, wrong_type}
use Rattle.meaning.specs.Processes.{process_at}
use Rattle.meaning.specs.Scopes.{free, scope_for}
use Rattle.meaning.specs.Types.{type_within, types_of}
use Rattle.meaning.specs.Uses.{CountFits, TypesFit}
use Rattle.judge.specs.Examples.{a, stops, ends_twice, ends, ends_new, ends_copied, halves, one_half, same_twice, tells_secret, Right, AllRight}
use Rattle.judge.specs.Typed.{Typed}
use Rattle.judge.proofs.Loud.{loud, fault_at_node, quiet, owing, loudest}
use Rattle.judge.proofs.Single.{Brings, elsewhere}
use Rattle.judge.proofs.Stages.{Rule, free_names, formed_types, channel_counts, argument_types, number, Good, first_at}
use Rattle.judge.proofs.Verdicts.{free_there, types_first}

-- P at i and the k - 1 numbers after it
abbrev Each : (ℕ → Type 0) → (i k : ℕ) → Type 0
Each P i zero = Unit {0}
Each P i (suc k) = P i × Each P (suc i) k

each_place : (P : ℕ → Type 0) (k i : ℕ) → Each P i k → (n : ℕ) → i ≤ n → n < i + k → P n
each_place P zero i e n l h = absurd (omega arith)
each_place P (suc k) i e n l h = ⊎_elim (λ s. subst P s e.0) (λ d. each_place P k (suc i) e.1 n (omega arith) (omega arith)) (cases_eq i n)

-- of every name, and of every node and past the last one
module _ (t : Tables) where
  each_name : (P : ℕ → Type 0) → Each P 0 (length (elements t.names)) → (x : ℕ) → x < length (elements t.names) → P x
  each_name P e x l = each_place P (length (elements t.names)) 0 e x (omega arith) (omega arith)

  each_node : (P : ℕ → Node → Type 0) → ((n : ℕ) → P n Stop) → Each (λ n. P n (node_at (elements t.nodes) n)) 0 (length (elements t.nodes)) → (n : ℕ) → P n (node_at (elements t.nodes) n)
  each_node P past e n =
      ⊎_elim
      (λ l. each_place (λ n. P n (node_at (elements t.nodes) n)) (length (elements t.nodes)) 0 e n (omega arith) (omega arith))
      (λ l. subst (P n) (sym (get_or_past (elements t.nodes) n Stop l)) (past n))
      (cases_lt n (length (elements t.nodes)))

  -- what names and uses are asked, one by one
  all_typed : (K : Operations) → Each (λ x. in_scope (free t) x ≡ true → types_of t x ≡ public) 0 (length (elements t.names)) → Each (λ x. WellFormed (scope_for t x) (types_of t x)) 0 (length (elements t.names)) →
      Each (λ n. CountFits (types_of t) (node_at (elements t.nodes) n)) 0 (length (elements t.nodes)) → Each (λ n. TypesFit K (types_of t) (node_at (elements t.nodes) n)) 0 (length (elements t.nodes)) → Typed K t
  all_typed K f w c y = record {
    free_public = λ x h. each_name (λ x. in_scope (free t) x ≡ true → types_of t x ≡ public) f x (free_there K t x h) h;
    well_formed = each_name (λ x. WellFormed (scope_for t x) (types_of t x)) w;
    counts = each_node (λ n x. CountFits (types_of t) x) (λ n. tt) c;
    types = each_node (λ n x. TypesFit K (types_of t) x) (λ n. tt) y;
  }

-- parts with full right 2, and once, keep the laws
two_laws : Laws (built.parts 2)
two_laws = parts_laws 2 (omega arith) (omega arith)

-- a sheet whose nodes bring in the label a alone
module _ (K : Operations) (W : Laws K) (t : Tables) (typed : Typed K t) (brings : Each (λ n. Brings K W (types_of t) (names_label a) (node_at (elements t.nodes) n)) 0 (length (elements t.nodes))) where
  away : (n : ℕ) (L : Label Name) → (names_label a ≡ L → ⊥) → amount_at K t n L ≡ 0
  away = elsewhere K W (types_of t) (names_label a) (elements t.nodes) (each_node t (λ n x. Brings K W (types_of t) (names_label a) x) (λ n. tt) brings)

  -- no node is at fault
  abbrev Still : Type 0
  Still = Each (λ n. loud K (node_at (elements t.nodes) n) (0 ∷ []) (amount_at K t n (one 0)) ≡ false) 0 (length (elements t.nodes))

  still_all : Still → (n : ℕ) → loud K (node_at (elements t.nodes) n) (0 ∷ []) (amount_at K t n (one 0)) ≡ false
  still_all = each_node t (λ n x. loud K x (0 ∷ []) (amount_at K t n (one 0)) ≡ false) (λ n. refl)

  -- what the rules say of the root where they accept
  root_nothing : Accepts K t → amount_at K t 0 (one 0) ≡ 0
  root_nothing x = ((acceptance_agrees K W (types_of t) (free t) (process_at (elements t.nodes) 0)).0 x).needs_nothing (one 0)

  passing : Still → amount_at K t 0 (one 0) ≡ 0 → Checks K (types_of t) (free t) (process_at (elements t.nodes) 0) → Right K t None
  passing still e checks = record {
    told = quiet K t a away (W.neutral 0) 8192 (omega arith) typed (still_all still) e;
    accepted = (acceptance_agrees K W (types_of t) (free t) (process_at (elements t.nodes) 0)).1
        (record { free_public = typed.free_public; checked = checks; needs_nothing = λ L. by L (one 0 ≟ L) });
  }
    where
      by : (L : Label Name) → Dec (one 0 ≡ L) → amount_at K t 0 L ≡ 0
      by L (yes s) = subst (λ M. amount_at K t 0 M ≡ 0) s e
      by L (no n) = away 0 L n

  owes : (b : ℕ) → Still → amount_at K t 0 (one 0) ≡ b → (b ≡ 0 → ⊥) → Right K t (Some (RootOwes a b))
  owes b still e some = record {
    told = owing K t a away (W.neutral 0) 8192 (omega arith) typed b (still_all still) e some;
    accepted = λ x. some (sym e ∙ root_nothing x);
  }

  -- node 0 is at fault, and no other
  first_loud : Each (λ n. 0 < n → loud K (node_at (elements t.nodes) n) (0 ∷ []) (amount_at K t n (one 0)) ≡ false) 0 (length (elements t.nodes)) →
      Faulty K t 8192 (fault_at_node K t a away (W.neutral 0) 0) → (amount_at K t 0 (one 0) ≡ 0 → ⊥) → Right K t (Some (fault_at_node K t a away (W.neutral 0) 0))
  first_loud still f some = record {
    told = loudest K t a away (W.neutral 0) 8192 (omega arith) typed 0
        (each_node t (λ n x. 0 < n → loud K x (0 ∷ []) (amount_at K t n (one 0)) ≡ false) (λ n l. refl) still) f;
    accepted = λ x. some (root_nothing x);
  }

-- sheets of one public name, with no message
module _ (K : Operations) (W : Laws K) where
  typed_2 : Typed K ends_twice.sheet
  typed_2 = all_typed ends_twice.sheet K ((λ h. refl), tt) (tt, tt) (tt, (tt, (tt, (tt, tt)))) (tt, (tt, (tt, (tt, tt))))

  typed_3 : Typed K ends.sheet
  typed_3 = all_typed ends.sheet K ((λ h. refl), tt) (tt, tt) (tt, (tt, tt)) (tt, (tt, tt))

  typed_4 : Typed K ends_new.sheet
  typed_4 = all_typed ends_new.sheet K ((λ h. absurd (false≢true h)), tt) (tt, tt) (tt, (tt, (tt, tt))) (tt, (tt, (tt, tt)))

  typed_5 : Typed K ends_copied.sheet
  typed_5 = all_typed ends_copied.sheet K ((λ h. refl), tt) (tt, tt) (tt, (tt, (tt, tt))) (tt, (tt, (tt, tt)))

right_1 : (K : Operations) (W : Laws K) → Right K stops.sheet None
right_1 K W = passing K W stops.sheet (all_typed stops.sheet K tt tt (tt, tt) (tt, tt)) (tt, tt) (refl, tt) refl tt

right_2 : Right (built.parts 2) ends_twice.sheet ends_twice.by_parts
right_2 = owes (built.parts 2) two_laws ends_twice.sheet (typed_2 (built.parts 2) two_laws) (tt, (refl, (refl, (tt, tt)))) 2 (refl, (refl, (refl, (refl, tt)))) refl (λ e. omega arith)

right_2_once : Right built.once ends_twice.sheet ends_twice.by_once
right_2_once = passing built.once once_laws ends_twice.sheet (typed_2 built.once once_laws) (tt, (refl, (refl, (tt, tt)))) (refl, (refl, (refl, (refl, tt)))) refl (refl, (refl, (refl, tt)))

right_3 : Right (built.parts 2) ends.sheet ends.by_parts
right_3 = owes (built.parts 2) two_laws ends.sheet (typed_3 (built.parts 2) two_laws) (refl, (tt, tt)) 2 (refl, (refl, tt)) refl (λ e. omega arith)

right_3_once : Right built.once ends.sheet ends.by_once
right_3_once = owes built.once once_laws ends.sheet (typed_3 built.once once_laws) (refl, (tt, tt)) 1 (refl, (refl, tt)) refl (λ e. omega arith)

right_4 : Right (built.parts 2) ends_new.sheet ends_new.by_parts
right_4 = first_loud (built.parts 2) two_laws ends_new.sheet (typed_4 (built.parts 2) two_laws) (tt, (refl, (tt, tt)))
    ((λ l. absurd (omega arith)), ((λ l. refl), ((λ l. refl), tt))) (escapes 0 0 a (inl refl) (inl refl) (λ e. omega arith)) (λ e. omega arith)

right_4_once : Right built.once ends_new.sheet ends_new.by_once
right_4_once = first_loud built.once once_laws ends_new.sheet (typed_4 built.once once_laws) (tt, (refl, (tt, tt)))
    ((λ l. absurd (omega arith)), ((λ l. refl), ((λ l. refl), tt))) (escapes 0 0 a (inl refl) (inl refl) (λ e. omega arith)) (λ e. omega arith)

right_5 : Right (built.parts 2) ends_copied.sheet ends_copied.by_parts
right_5 = first_loud (built.parts 2) two_laws ends_copied.sheet (typed_5 (built.parts 2) two_laws) (tt, (refl, (tt, tt)))
    ((λ l. absurd (omega arith)), ((λ l. refl), ((λ l. refl), tt))) (not_copyable 0 1 a refl (λ e. omega arith)) (λ e. omega arith)

right_5_once : Right built.once ends_copied.sheet ends_copied.by_once
right_5_once = owes built.once once_laws ends_copied.sheet (typed_5 built.once once_laws) (tt, (refl, (tt, tt))) 1 (refl, (refl, (refl, tt))) refl (λ e. omega arith)

-- sheets with the channel c or d, which is name 1
module _ (K : Operations) (W : Laws K) where
  -- a message on c carries 1 on a, and one on d with a twice carries 1 on a twice
  c_only : (L : Label Name) → (one 0 ≡ L → ⊥) → K.join (amount_if (one 0 ≟ L) 1) 0 ≡ 0
  c_only L n = join_zero K W _ _ (if_no (one 0 ≟ L) 1 n) refl

  d_only : (L : Label Name) → (one 0 ≡ L → ⊥) → K.join (amount_if (one 0 ≟ L) 1) (K.join (amount_if (one 0 ≟ L) 1) 0) ≡ 0
  d_only L n = join_zero K W _ _ (if_no (one 0 ≟ L) 1 n) (c_only L n)

  typed_6 : Typed K halves.sheet
  typed_6 = all_typed halves.sheet K ((λ h. refl), ((λ h. absurd (false≢true h)), tt)) (tt, ((omega arith, ((refl, tt), tt), λ i l. absurd (omega arith)), tt))
      (tt, (tt, (tt, (tt, (refl, (refl, (refl, (refl, (tt, (tt, tt))))))))))
      (tt, (tt, (tt, (tt, ((λ i l. absurd (omega arith)), ((λ i l. absurd (omega arith)), ((λ i l. absurd (omega arith)), ((λ i l. absurd (omega arith)), (tt, (tt, tt))))))))))

  brings_6 : Each (λ n. Brings K W (types_of halves.sheet) (one 0) (node_at (elements halves.sheet.nodes) n)) 0 10
  brings_6 = (tt, (tt, (tt, (tt, (c_only, (c_only, (tt, (tt, (refl, (tt, tt))))))))))

  typed_7 : Typed K one_half.sheet
  typed_7 = all_typed one_half.sheet K ((λ h. refl), ((λ h. absurd (false≢true h)), tt)) (tt, ((omega arith, ((refl, tt), tt), λ i l. absurd (omega arith)), tt))
      (tt, (tt, (tt, (tt, (refl, (refl, (refl, (tt, (tt, tt)))))))))
      (tt, (tt, (tt, (tt, ((λ i l. absurd (omega arith)), ((λ i l. absurd (omega arith)), ((λ i l. absurd (omega arith)), (tt, (tt, tt)))))))))

  brings_7 : Each (λ n. Brings K W (types_of one_half.sheet) (one 0) (node_at (elements one_half.sheet.nodes) n)) 0 9
  brings_7 = (tt, (tt, (tt, (tt, (c_only, (c_only, (tt, (refl, (tt, tt)))))))))

  -- both names of a message on d are public
  d_arguments : (i : ℕ) → i < 2 → SameType K (types_of same_twice.sheet (get_or (0 ∷ 0 ∷ []) i 0)) (required (types_of same_twice.sheet 1) (0 ∷ 0 ∷ []) i)
  d_arguments zero l = same_public
  d_arguments (suc zero) l = same_public
  d_arguments (suc (suc i)) l = absurd (omega arith)

  d_formed : WellFormed (scope_for same_twice.sheet 1) (types_of same_twice.sheet 1)
  d_formed = (omega arith, ((omega arith, tt), ((omega arith, tt), tt)), λ i l. go i l)
    where
      go : (i : ℕ) → i < 2 → WellFormedInside (scope_for same_twice.sheet 1) (push i outermost) (type_within (elements same_twice.sheet.types) 3 (get_or (0 ∷ 0 ∷ []) i 0))
      go zero l = tt
      go (suc zero) l = tt
      go (suc (suc i)) l = absurd (omega arith)

  typed_8 : Typed K same_twice.sheet
  typed_8 = all_typed same_twice.sheet K ((λ h. refl), ((λ h. absurd (false≢true h)), tt)) (tt, (d_formed, tt)) (tt, (refl, tt)) (tt, (d_arguments, tt))

  brings_8 : Each (λ n. Brings K W (types_of same_twice.sheet) (one 0) (node_at (elements same_twice.sheet.nodes) n)) 0 2
  brings_8 = (tt, (d_only, tt))

  -- name 1 is not in the label a
  not_c : (L : Label Name) → 1 ∈ items L → one 0 ≡ L → ⊥
  not_c L m e = ⊎_elim (λ s. omega arith) (λ f. f) (subst (λ M. 1 ∈ items M) (sym e) m)

  c_use : (types : ℕ → NameType) → Takes (types 1) 0 → ChannelUse K types 1 []
  c_use types h = record { count = h; arguments = λ i l. absurd (omega arith) }

right_8 : Right (built.parts 2) same_twice.sheet same_twice.by_parts
right_8 = owes (built.parts 2) two_laws same_twice.sheet (typed_8 (built.parts 2) two_laws) (brings_8 (built.parts 2) two_laws) 2 (refl, (refl, tt)) refl (λ e. omega arith)

right_8_once : Right built.once same_twice.sheet same_twice.by_once
right_8_once = owes built.once once_laws same_twice.sheet (typed_8 built.once once_laws) (brings_8 built.once once_laws) 1 (refl, (refl, tt)) refl (λ e. omega arith)

right_7 : Right (built.parts 2) one_half.sheet one_half.by_parts
right_7 = owes (built.parts 2) two_laws one_half.sheet (typed_7 (built.parts 2) two_laws) (brings_7 (built.parts 2) two_laws) 1
    (refl, (refl, (refl, (refl, (refl, (refl, (refl, (refl, (refl, tt))))))))) refl (λ e. omega arith)

module _ (K : Operations) (W : Laws K) where
  -- the channel c is new, and its type well formed
  c_new : (t : Tables) → free t 1 ≡ false → Fresh (1 ∷ []) (free t)
  c_new t f = (omega arith, f, (λ m. m), tt)

  checks_6 : Checks K (types_of halves.sheet) (free halves.sheet) (process_at (elements halves.sheet.nodes) 0)
  checks_6 =
      let c = c_use K W (types_of halves.sheet) refl in (
        c_new halves.sheet refl,
        (omega arith, ((refl, tt), tt), λ i l. absurd (omega arith)),
        (λ L m. away K W halves.sheet (typed_6 K W) (brings_6 K W) 1 L (not_c K W L m)),
        (
          (refl, ((refl, tt, c), (refl, tt, c))),
          (refl, tt, c, (λ i l. absurd (omega arith)), (λ L z m. absurd m), (refl, tt, c, (λ i l. absurd (omega arith)), (λ L z m. absurd m), (refl, tt))),
        ),
      )

  checks_7 : Checks K (types_of one_half.sheet) (free one_half.sheet) (process_at (elements one_half.sheet.nodes) 0)
  checks_7 =
      let c = c_use K W (types_of one_half.sheet) refl in (
        c_new one_half.sheet refl,
        (omega arith, ((refl, tt), tt), λ i l. absurd (omega arith)),
        (λ L m. away K W one_half.sheet (typed_7 K W) (brings_7 K W) 1 L (not_c K W L m)),
        ((refl, ((refl, tt, c), (refl, tt, c))), (refl, tt, c, (λ i l. absurd (omega arith)), (λ L z m. absurd m), (refl, tt))),
      )

  -- a channel with an effect is not public
  not_public : {n : ℕ} {components : ℕ → NameType} {entries : List Entry} → SameType K (channel n components entries) public → ⊥
  not_public s = elim s [ ]

  lower_9 : (r : Rule) (p : ℕ) → number r < 11 → Good K tells_secret.sheet r p
  lower_9 free_names p l = λ h. each_name tells_secret.sheet (λ x. in_scope (free tells_secret.sheet) x ≡ true → types_of tells_secret.sheet x ≡ public)
      ((λ h. refl), ((λ h. absurd (false≢true h)), ((λ h. refl), tt))) p (free_there K tells_secret.sheet p h) h
  lower_9 formed_types p l = each_name tells_secret.sheet (λ x. WellFormed (scope_for tells_secret.sheet x) (types_of tells_secret.sheet x))
      (tt, ((omega arith, ((refl, tt), tt), λ i l. absurd (omega arith)), (tt, tt))) p
  lower_9 channel_counts p l = each_node tells_secret.sheet (λ n x. CountFits (types_of tells_secret.sheet) x) (λ n. tt) (tt, (tt, tt)) p
  lower_9 argument_types p l = absurd (omega arith)

  before_9 : (p : ℕ) → p < 1 → Good K tells_secret.sheet argument_types p
  before_9 zero l = tt
  before_9 (suc p) l = absurd (omega arith)

  right_9 : Right K tells_secret.sheet (Some (WrongType 1))
  right_9 = record {
    told = types_first K tells_secret.sheet 8192 (WrongType 1) (omega arith)
        (first_at K tells_secret.sheet 8192 argument_types 1 (wrong_type 1 (λ h. not_public (h 0 (omega arith)))) lower_9 before_9);
    accepted = λ x. not_public (((acceptance_agrees K W (types_of tells_secret.sheet) (free tells_secret.sheet) (process_at (elements tells_secret.sheet.nodes) 0)).0 x).checked.3.2.arguments 0 (omega arith));
  }

right_6 : Right (built.parts 2) halves.sheet halves.by_parts
right_6 = passing (built.parts 2) two_laws halves.sheet (typed_6 (built.parts 2) two_laws) (brings_6 (built.parts 2) two_laws)
    (refl, (refl, (refl, (refl, (refl, (refl, (refl, (refl, (refl, (refl, tt)))))))))) refl (checks_6 (built.parts 2) two_laws)

right_6_once : Right built.once halves.sheet halves.by_once
right_6_once = passing built.once once_laws halves.sheet (typed_6 built.once once_laws) (brings_6 built.once once_laws)
    (refl, (refl, (refl, (refl, (refl, (refl, (refl, (refl, (refl, (refl, tt)))))))))) refl (checks_6 built.once once_laws)

right_7_once : Right built.once one_half.sheet one_half.by_once
right_7_once = passing built.once once_laws one_half.sheet (typed_7 built.once once_laws) (brings_7 built.once once_laws)
    (refl, (refl, (refl, (refl, (refl, (refl, (refl, (refl, (refl, tt))))))))) refl (checks_7 built.once once_laws)

-- the joint table
pub all_right : AllRight
all_right = (
  (right_1 (built.parts 2) two_laws, right_1 built.once once_laws),
  (
    (right_2, right_2_once),
    (
      (right_3, right_3_once),
      (
        (right_4, right_4_once),
        (
          (right_5, right_5_once),
          (
            (right_6, right_6_once),
            (
              (right_7, right_7_once),
              ((right_8, right_8_once), ((right_9 (built.parts 2) two_laws, right_9 built.once once_laws), tt)),
            ),
          ),
        ),
      ),
    ),
  ),
)
