use Rattle.pon_text.specs.Lines.{is_blank}
use Rattle.pon_lists.proofs.Lists.{position-Some_or_len, position-Some_within, position-None_or_len}
use Rattle.pon_text.proofs.words.word_len.Goals as goal

pub returns-in-Some-clause-len : goal.returns-in-Some-clause-len
returns-in-Some-clause-len c =
    position-Some_or_len is_blank c.args.text.now c.first_blank.result c.in-Some.len c.first_blank.ensures c.in-Some.is

pub returns-in-None-clause-len : goal.returns-in-None-clause-len
returns-in-None-clause-len c =
    position-None_or_len is_blank c.args.text.now c.first_blank.result c.first_blank.ensures c.in-None.is

pub returns-in-Some-clause-within : goal.returns-in-Some-clause-within
returns-in-Some-clause-within c =
    position-Some_within is_blank c.args.text.now c.first_blank.result c.in-Some.len c.first_blank.ensures c.in-Some.is
