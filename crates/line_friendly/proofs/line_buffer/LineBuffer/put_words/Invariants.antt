-- With the words that are left the line becomes what it has to.
use Rattle.std.proofs.Common.{◌≡◌, false, length}
use Rattle.line_friendly.specs.Words.{words_spaced}
use Rattle.line_friendly.specs.LineText.{added}
use Rattle.line_friendly.proofs.line_buffer.LineBuffer.put_words.Given as goal

abbrev pub invariant-loop-after : goal.invariant-loop-after
invariant-loop-after l = added l.initial.self (words_spaced false l.text) ≡ added l.self (words_spaced false l.rest)

abbrev pub decreases-loop-after : goal.decreases-loop-after
decreases-loop-after l = length l.rest
