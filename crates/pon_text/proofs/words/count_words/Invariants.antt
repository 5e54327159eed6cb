use Rattle.std.proofs.Common.{◌≡◌, ◌+◌, length}
use Rattle.pon_text.specs.Lines.{words_of}
use Rattle.pon_text.proofs.words.count_words.Given as goal

-- the words so far and those of the rest are all words
abbrev pub invariant-loop-word : goal.invariant-loop-word
invariant-loop-word l = l.count + length (words_of l.rest) ≡ length (words_of l.text)

abbrev pub decreases-loop-word : goal.decreases-loop-word
decreases-loop-word l = length (words_of l.rest)
