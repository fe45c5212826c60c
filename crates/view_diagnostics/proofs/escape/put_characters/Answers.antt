-- One more character is output.
use Rattle.std.proofs.Common.{[], refl}
use Rattle.std.proofs.lemmas.Str.{IsUtf8-past_char}
use Rattle.run_devices.proofs.GatheredLemmas.{Tells-none, told_err}
use Rattle.view_diagnostics.proofs.FrontLemmas.{front_more, front_failed, front_all}
use Rattle.view_diagnostics.proofs.ShownLemmas.{characters_step, characters_none}
use Rattle.view_diagnostics.proofs.escape.put_characters.Goals as goal

pub loop-character-init : goal.loop-character-init
loop-character-init g c = record {
  utf8 = rw (c.into_iter-character-iterator.ensures.into_iter_gives, c.chars-character-items.ensures.rest) c.utf8.text;
  front = record {
    done = [];
    parts = rw (c.into_iter-character-iterator.ensures.into_iter_gives, c.chars-character-items.ensures.rest) refl;
    tells = Tells-none _ _;
  };
  works = c.requires;
}

pub loop-character-preserved : goal.loop-character-preserved
loop-character-preserved g c =
    let is = c.in-Some.ensures.steps.0 in
    record {
      utf8 = IsUtf8-past_char _ _ _ c.loop-character.invariant.utf8 is;
      front = front_more _ _ _ _ c.loop-character.invariant.front (characters_step _ _ _ _ c.loop-character.invariant.utf8 is) c.in_ok-put_character.ensures.output;
      works = c.in_ok-put_character.ensures.failing;
    }

pub returns-in_err-put_character-clause-output : goal.returns-in_err-put_character-clause-output
returns-in_err-put_character-clause-output g c =
    told_err _ _ _ c.from_residual.ensures.1
    (front_failed _ _ _ _ c.loop-character.invariant.front (characters_step _ _ _ _ c.loop-character.invariant.utf8 (c.in-Some.ensures.steps.0)) c.in_err-put_character.ensures.output)

pub returns-clause-output : goal.returns-clause-output
returns-clause-output g c = front_all _ _ c.loop-character.invariant.front (characters_none _ _ (c.in-None.ensures.steps.0.0))
