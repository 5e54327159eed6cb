use Rattle.std.proofs.Common.{rules}
use Rattle.pon_text.proofs.Splitting.{words_of-none, words_of-some}
use Rattle.pon_text.proofs.words.first_word.Goals as goal

pub returns-then-is_empty : goal.returns-then-is_empty
returns-then-is_empty c =
    words_of-none c.args.text.now c.split_at.result.1.now c.blanks_len.result c.blanks_len.ensures.len c.split_at.ensures.back (search rules)

pub returns : goal.returns
returns c =
    words_of-some c.args.text.now c.split_at.result.1.now c.split_at-2.result.0.now c.split_at-2.result.1.now c.blanks_len.result c.word_len.result
    c.blanks_len.ensures.len c.split_at.ensures.back (search rules) c.word_len.ensures.len c.split_at-2.ensures.front c.split_at-2.ensures.back
