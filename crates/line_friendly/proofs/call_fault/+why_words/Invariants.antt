-- Each step passes a word.
use Rattle.std.proofs.Common.{length}
use Rattle.line_friendly.proofs.call_fault.+why_words.Given as goal

abbrev pub decreases-why_words : goal.decreases-why_words
decreases-why_words l = length l.kinds.now
