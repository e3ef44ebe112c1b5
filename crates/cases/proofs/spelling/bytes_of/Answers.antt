use Rattle.std.proofs.Common.{◌++◌, ◌-◌, ◌*◌, Some, length, length-append, sym, ap, ◌∙◌, arith, rules}
use Rattle.std.proofs.lemmas.Iterator.Splits.{YieldsList-from_str_split}
use Rattle.std.proofs.lemmas.Str.Ascii.{encode_ascii}
use Rattle.std.proofs.lemmas.Str.Pattern.{strip_prefix_char}
use Rattle.std.specs.List.{repeat}
use Rattle.std.specs.Str.Iter.{split_text, split_has_more, split_pattern}
use Rattle.cases.proofs.Tokens.{unspaced, at_first, at_end, goes_on, none_spelled, long_spelled, length_repeat}
use Rattle.cases.proofs.spelling.bytes_of.Goals as goal

pub returns-in_default-clause-malformed : goal.returns-in_default-clause-malformed
returns-in_default-clause-malformed c = λ e. unspaced c.args.text.now (search rules) (λ rest s. c.in_default.ensures.cases rest (s ∙ ap (λ l. l ++ rest) (sym (encode_ascii 32 (omega arith)))))

pub loop-token-init : goal.loop-token-init
loop-token-init c =
    let rest = c.in-Some.tokens.now in
    let it = c.into_iter-token-iterator.ensures.into_iter_gives in
    let e = strip_prefix_char 32 c.args.text.now (Some c.in-Some.tokens) c.in-Some.ensures.cases (omega arith) in
    let y = YieldsList-from_str_split {s = c.into_iter-token-iterator.result} 32 rest (omega arith) (ap split_text it ∙ c.split-token-items.ensures.text) (ap split_has_more it ∙ c.split-token-items.ensures.has_more) (ap split_pattern it ∙ c.split-token-items.ensures.pattern) in
    (omega arith, at_first c.args.text.now rest _ c.into_iter-token-iterator.result e c.new-bytes.ensures.items y.runs)

pub returns-in_err-piece-clause-malformed : goal.returns-in_err-piece-clause-malformed
returns-in_err-piece-clause-malformed c = λ e. none_spelled c.loop-token.invariant.1 c.in-Some-token.token c.next.new.self c.in-Some-token.ensures.steps (search rules)

pub returns-in_err-piece-clause-too_long : goal.returns-in_err-piece-clause-too_long
returns-in_err-piece-clause-too_long c = λ e. long_spelled c.loop-token.invariant.1 c.in-Some-token.token c.next.new.self c.in-Some-token.ensures.steps (1200000 - c.len.result) (omega (arith, c.len.ensures)) (search rules)

pub add_times-requires : goal.add_times-requires
add_times-requires c =
    let room = c.in_ok-piece.ensures.ok.1 in
    let long = length_repeat c.in_ok-piece.times c.in_ok-piece.piece.items in
    let same = ap (λ xs. c.in_ok-piece.times * length xs) c.as_slice.ensures.value in
    omega (arith, c.loop-token.invariant.0, c.len.ensures, room, long, same)

pub loop-token-preserved : goal.loop-token-preserved
loop-token-preserved c =
    let more = repeat c.in_ok-piece.times c.in_ok-piece.piece.items in
    let room = c.in_ok-piece.ensures.ok.1 in
    let made = rw c.as_slice.ensures.value at c.in_ok-add_times.ensures in
    let long = ap length made in (
      omega (arith, c.loop-token.invariant.0, c.loop-token.bytes.ok.0, c.add_times.new.bytes.ok.0, c.len.ensures, room, long, length-append c.loop-token.bytes.items more),
      goes_on c.loop-token.invariant.1 c.in-Some-token.token c.next.new.self c.in-Some-token.ensures.steps more c.add_times.new.bytes.items c.in_ok-piece.ensures.ok.0 made,
    )

pub returns-clause-ok : goal.returns-clause-ok
returns-clause-ok c = (at_end c.loop-token.invariant.1 c.next.new.self c.in-None.ensures.steps, c.loop-token.invariant.0)
