-- Both lists' rules have been asked, one after the other.
use Rattle.list_classes.proofs.AskedTextLemmas.{asked_them}
use Rattle.list_classes.proofs.asked_texts.asked_texts.Goals as goal

pub returns : goal.returns
returns c =
    asked_them c.args.range.now c.args.one c.args.other c.in_ok-texts.texts c.add_texts.new.texts c.add_texts-2.new.texts
    c.in_ok-texts.ensures.fronts c.in_ok-texts.ensures.ends c.in_ok-texts.ensures.known
    c.in_ok-add_texts.ensures.fronts c.in_ok-add_texts.ensures.ends c.in_ok-add_texts.ensures.known
    c.in_ok-add_texts-2.ensures.fronts c.in_ok-add_texts-2.ensures.ends c.in_ok-add_texts-2.ensures.known
