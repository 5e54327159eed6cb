use Rattle.std.proofs.Common.{◌≡◌, ◌<◌, ◌^◌, ◌∷◌, ap, arith, length, rules}
use Rattle.pon_text.specs.Lines.{words_of}
use Rattle.pon_text.proofs.WordCounts.{few_words}
use Rattle.pon_text.proofs.words.count_words.Goals as goal

pub overflow_add-count : goal.overflow_add-count
overflow_add-count c =
    let words : words_of c.loop-word.rest.now ≡ c.in-Some.word.word.now ∷ words_of c.in-Some.word.rest.now = search rules in
    let bytes : length c.args.text.now < 2 ^ 64 = search rules in
    omega (arith, c.loop-word.invariant, few_words c.args.text.now, ap length words, bytes)
