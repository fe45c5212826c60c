-- By the shortest label of all.
use Rattle.std.proofs.Common.{◌≡◌, ◌∙◌, ◌++◌, [], ℕ, List, Option, Some, None, ap, sym}
use Rattle.std.specs.Prelude.{MatchOption}
use Rattle.std.proofs.lemmas.Bool.{and_from}
use Rattle.std.proofs.lemmas.List.{append-nil}
use Rattle.std.proofs.lemmas.Result.{IfOk-weaker}
use Rattle.own_model.specs.Listed.{Listed}
use Rattle.list_labels.specs.LabelRanges.{AskedLabel}
use Rattle.list_labels.proofs.TextLemmas.{begins_from, ends_from}
use Rattle.list_reach.specs.RangeReach.{IsShortestInRange, NoneRoutedInRange}
use Rattle.list_reach.specs.Reach.{NoneRouted}
use Rattle.list_policy.specs.Demand.{IsRoutedThere}
use Rattle.list_policy.proofs.breach.label_there.Goals as goal

-- a range without texts has all labels
of_all : (range : AskedLabel) (list : Listed) (client : ℕ) (service : List ℕ) (server : ℕ) (found : Option (List ℕ)) → range.front ≡ [] → range.end ≡ []
    → MatchOption found (NoneRoutedInRange range list client service server) (IsShortestInRange range list client service server)
    → MatchOption found (NoneRouted list client service server) (IsRoutedThere list client service server)
of_all range list client service server None front end none = λ label given.
    none label (record {
      given = given;
      inside = and_from _ _ (begins_from label range.front label (sym (ap (λ f. f ++ label) front)))
          (ends_from label label range.end (sym (append-nil label) ∙ ap (λ e. label ++ e) (sym end)));
    })
of_all range list client service server (Some label) front end is = record { given = is.asked.given; leads = is.leads }

pub returns : goal.returns
returns c =
    IfOk-weaker c.label_matching.result _ _
    (λ found is. of_all c.none.result c.args.list.now c.args.client _ c.args.server found
    (ap (λ (r : AskedLabel). r.front) c.none.ensures) (ap (λ (r : AskedLabel). r.end) c.none.ensures) is)
    c.label_matching.ensures
