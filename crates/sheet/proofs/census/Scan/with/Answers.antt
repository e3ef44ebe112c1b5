use Rattle.std.proofs.Common.{◌+◌, [], ◌∷◌, ◌++◌, None, sym, refl, ap, ◌∙◌, subst}
use Rattle.sheet.specs.Order.{misplaced, class_of, Seen}
use Rattle.sheet.proofs.Ordering.{some_of, none_of, seen_stays, seen_found, seen_more}
use Rattle.sheet.proofs.census.Scan.with.Goals as goal

pub returns-then-is_some : goal.returns-then-is_some
returns-then-is_some c =
    let s = c.args.self.now in
    let w = some_of s.wrong c.if-is_some.ensures in
    record { place = refl; seen = λ rs h. seen_stays rs c.args.given s w.0 h w.1 }

pub returns-then-misplaces : goal.returns-then-misplaces
returns-then-misplaces c =
    let s = c.args.self.now in
    let w = none_of s.wrong c.if-is_some.ensures in
    let m = ap (misplaced s.census) (sym c.class-kind.ensures) ∙ sym c.if-misplaces.ensures in
    record { place = refl; seen = λ rs h. seen_found rs c.args.given s h w m }

pub returns : goal.returns
returns c =
    let s = c.args.self.now in
    let w = none_of s.wrong c.if-is_some.ensures in
    let k = c.class-kind.ensures in
    let m = ap (misplaced s.census) (sym k) ∙ sym c.if-misplaces.ensures in
    record {
      place = refl;
      seen = λ rs h. subst (λ x. Seen (rs ++ c.args.given ∷ []) (record { place = s.place + 1; wrong = None; census = x })) (sym (c.with.ensures ∙ ap (λ k. Rattle.sheet.specs.Order.after s.census k) k)) (seen_more rs c.args.given s h w m);
    }
