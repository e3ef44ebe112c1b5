use Rattle.std.proofs.Common.{sym, ap, ◌∙◌}
use Rattle.std.specs.List.{list_all}
use Rattle.hex.specs.Hex.{is_hex_digit}
use Rattle.cases.proofs.Digits.{no_piece}
use Rattle.cases.proofs.spelling.piece_of.Goals as goal

pub returns-then-not-are_digits-clause-malformed : goal.returns-then-not-are_digits-clause-malformed
returns-then-not-are_digits-clause-malformed c = λ e. no_piece c.args.digits.now (ap (list_all is_hex_digit) (sym c.as_bytes.ensures.value) ∙ sym c.are_digits.ensures ∙ c.if-not-are_digits.true)
