-- How a scan ends, from what it has seen.
use Rattle.std.proofs.Common.{◌≡◌, ℕ, ◌<◌, Bool, true, false, List, ◌++◌, length, Some, None, Ok, Err, sym, ap, ◌∙◌, subst, ⊎_elim, arith}
use Rattle.std.specs.List.{flat_map}
use Rattle.std.proofs.lemmas.List.{append-nil, nil_from_length}
use Rattle.std.proofs.lemmas.Bool.{cases_Bool}
use Rattle.fault.specs.First.{Lowest}
use Rattle.fault.specs.declared.fault.Fault.TheVariants as fault
use Rattle.records.specs.Records.{codes, Unreadable}
use Rattle.sheet.specs.Order.{misplaced_at, Ordered, Seen, Unfinished, cut, wrong, none, Scanned}
use Rattle.records.specs.declared.record.Record.{Record}
use Rattle.sheet.specs.declared.census.Scan.{Scan}
use Rattle.sheet.proofs.Reading.{no_record}

-- a test that is not true is false
pub is_false : (b : Bool) → (b ≡ true → ⊥) → b ≡ false
is_false b h = ⊎_elim (λ t. absurd (h t)) (λ f. f) (cases_Bool b)

module _ (rs : List Record) (left given : List ℕ) (s : Scan) (whole : flat_map codes rs ++ left ≡ given) (seen : Seen rs s) where
  pub ends_cut : Unreadable left → 0 < length left → Scanned given (Err (fault.Unreadable s.place))
  ends_cut stuck some = (rs, left, whole, stuck, subst (λ n. Unfinished rs left (fault.Unreadable n)) (sym seen.count) (cut some))

  module _ (empty : length left ≡ 0) where
    unread : Unreadable left
    unread = subst Unreadable (sym (nil_from_length left empty)) no_record

    pub all_read : flat_map codes rs ≡ given
    all_read = sym (append-nil (flat_map codes rs)) ∙ ap (λ l. flat_map codes rs ++ l) (sym (nil_from_length left empty)) ∙ whole

    lowest_at : (w : _) → s.wrong ≡ w → Lowest (λ p. misplaced_at rs p ≡ true) (length rs) w
    lowest_at w e = subst (λ v. Lowest (λ p. misplaced_at rs p ≡ true) (length rs) v) e seen.lowest

    in_order : s.wrong ≡ None → Ordered rs
    in_order e p l = is_false (misplaced_at rs p) (lowest_at None e p l)

    pub ends_wrong : (p : ℕ) → s.wrong ≡ Some p → Scanned given (Err (fault.WrongOrder p))
    ends_wrong p e = let h = lowest_at (Some p) e in (rs, left, whole, unread, wrong p empty h.0 h.1 h.2)

    pub ends_none : s.wrong ≡ None → s.census.nodes ≡ 0 → Scanned given (Err (fault.WrongOrder s.place))
    ends_none e z =
        (rs, left, whole, unread, subst (λ n. Unfinished rs left (fault.WrongOrder n)) (sym seen.count) (none empty (in_order e) (sym (ap (λ c. c.nodes) (seen.before e)) ∙ z)))

    pub ends_well : s.wrong ≡ None → (s.census.nodes ≡ 0 → ⊥) → Scanned given (Ok s.census)
    ends_well e z =
        let same = ap (λ c. c.nodes) (seen.before e) in
        let some : 0 < s.census.nodes = omega arith in
        (rs, all_read, in_order e, seen.before e, subst (λ n. 0 < n) same some)
