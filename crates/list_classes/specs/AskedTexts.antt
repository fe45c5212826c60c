-- The texts of which classes are made.
use Rattle.std.specs.Prelude.{◌≡◌, true, Option}
use Rattle.list_labels.specs.KnownLabels.{is_among}
use Rattle.list_labels.specs.LabelRanges.{AskedLabel}
use Rattle.list_labels.specs.declared.session_requests.SessionRequests.{SessionRequests}
use Rattle.list_classes.specs.Making.{AreGiven, HaveAsked}
use Rattle.list_classes.specs.declared.asked_texts.AskedTexts.{AskedTexts}

-- texts are those of a range and all that the rules for requests on two lists ask for and know
pub record AreAsked (range : AskedLabel) (first second : Option SessionRequests) (texts : AskedTexts) : Type 0 where
  pub one : HaveAsked first texts.fronts.items texts.ends.items texts.known.items
  pub other : HaveAsked second texts.fronts.items texts.ends.items texts.known.items
  pub given : AreGiven texts.known.items
  pub front : is_among texts.fronts.items range.front ≡ true
  pub end : is_among texts.ends.items range.end ≡ true
