-- Whether the word is a path hangs on what is left behind the names that are passed.
use Rattle.std.proofs.Common.{◌≡◌, ◌-◌}
use Rattle.own_model.specs.Text.{is_path}
use Rattle.text_codec.proofs.PathLemmas.{is_rest}
use Rattle.text_codec.proofs.words.is_path.Given as goal

abbrev pub invariant-loop-count : goal.invariant-loop-count
invariant-loop-count l = is_rest (l.count - 1) l.left ≡ is_path l.word
