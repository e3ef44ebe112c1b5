use Rattle.judge.proofs.Verdicts.{at_free, at_formed, at_counts, at_types, no_types, typed}
use Rattle.judge.proofs.verdict.judge_types.Goals as goal

pub returns-in-Some-clause-first : goal.returns-in-Some-clause-first
returns-in-Some-clause-first g c = at_free _ _ c.in-Some.name c.in-Some.ensures

pub returns-in-Some-first_ill_formed-clause-first : goal.returns-in-Some-first_ill_formed-clause-first
returns-in-Some-first_ill_formed-clause-first g c = at_formed _ _ c.in_default.ensures c.in-Some-first_ill_formed.bound c.in-Some-first_ill_formed.ensures

pub returns-in-Some-first_bad_channel-clause-first : goal.returns-in-Some-first_bad_channel-clause-first
returns-in-Some-first_bad_channel-clause-first g c =
    at_counts _ _ c.in_default.ensures c.in_default-first_ill_formed.ensures c.in-Some-first_bad_channel.user c.in-Some-first_bad_channel.ensures

pub returns-in-Some-first_wrong_type-clause-first : goal.returns-in-Some-first_wrong_type-clause-first
returns-in-Some-first_wrong_type-clause-first g c =
    at_types _ _ c.in_default.ensures c.in_default-first_ill_formed.ensures c.in_default-first_bad_channel.ensures c.in-Some-first_wrong_type.node c.in-Some-first_wrong_type.ensures

pub returns-clause-first : goal.returns-clause-first
returns-clause-first g c =
    no_types _ _ c.in_default.ensures c.in_default-first_ill_formed.ensures c.in_default-first_bad_channel.ensures c.in_default-first_wrong_type.ensures

pub returns-clause-typed : goal.returns-clause-typed
returns-clause-typed g c e =
    typed _ _ c.in_default.ensures c.in_default-first_ill_formed.ensures c.in_default-first_bad_channel.ensures c.in_default-first_wrong_type.ensures
