use Rattle.std.proofs.Common.{◌<◌, IfSome, length, sym, subst, arith}
use Rattle.std.specs.List.{repeat}
use Rattle.cases.proofs.Tokens.{token_is, long_is}
use Rattle.cases.proofs.spelling.token_of.Goals.{in_default-via-in-Some+else-more-room, in_default-via-in_default}
use Rattle.cases.proofs.spelling.token_of.Goals as goal

pub returns-in-Some-clause-ok : goal.returns-in-Some-clause-ok
returns-in-Some-clause-ok c =
    let parts = c.parts_of.ensures.some in
    let p = rw c.in_ok-digits.ensures.ok_part at parts in
    let xs = c.in_ok-piece.piece.items in
    let n = c.in_ok-digits.times in
    let long = long_is n c.len.result xs (omega (arith, c.len.ensures, c.in_ok-piece.piece.ok.0)) in
    let made = c.in-Some.ensures.1 in (
      token_is c.args.token.now c.in_ok-digits.digits.now xs n p.0 p.1 c.in_ok-piece.ensures.ok,
      omega (arith, long, made, c.if-more-room.true),
    )

pub returns-in_default-clause-too_long : goal.returns-in_default-clause-too_long
returns-in_default-clause-too_long c =
    let parts = c.parts_of.ensures.some in
    let p = rw c.in_ok-digits.ensures.ok_part at parts in
    let xs = c.in_ok-piece.piece.items in
    let n = c.in_ok-digits.times in
    let t = token_is c.args.token.now c.in_ok-digits.digits.now xs n p.0 p.1 c.in_ok-piece.ensures.ok in
    let long = long_is n c.len.result xs (omega (arith, c.len.ensures, c.in_ok-piece.piece.ok.0)) in
    let over : c.args.room < length (repeat n xs) =
    elim c.in_default.branch [
      | in_default-via-in-Some+else-more-room w ↦
          let made = w.in-Some.ensures.1 in
          omega (arith, long, made, w.if-more-room.false)
      | in_default-via-in_default w ↦
          let none = w.in_default.ensures in
          omega (arith, long, none, c.ranges.room.fits)
    ] in
    λ e. subst (λ o. IfSome o (λ more. c.args.room < length more)) (sym t) over
