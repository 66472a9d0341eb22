-- The words passed so far stand at the front of the part that is lent, and what stands behind them is as it was.
use Rattle.std.proofs.Common.{◌≡◌}
use Rattle.terms.specs.Numbers.{written}
use Rattle.terms.specs.Words.{words_at}
use Rattle.words.proofs.read_words.Given as goal

abbrev pub invariant-loop-i : goal.invariant-loop-i
invariant-loop-i l = l.word-items ≡ written l.initial.word-items 0 (words_at l.bytes l.from l.i)
