-- The classes are made of all that rules ask for.
use Rattle.std.proofs.Common.{◌≡◌, ◌<◌, List, ℕ, subst, sym}
use Rattle.std.specs.List.{slice_get}
use Rattle.list_classes.specs.Trees.{has_place}
use Rattle.list_classes.specs.Classes.{is_between, places_at}
use Rattle.list_classes.specs.Making.{AreSingle}
use Rattle.list_classes.specs.declared.label_class.LabelClass.{LabelClass}
use Rattle.list_classes.proofs.ClassLemmas.{among_as, classes_alike, classes_are, classes_least, each_of, range_kept, witnesses_are}
use Rattle.list_classes.proofs.label_classes.LabelClasses.of_texts.Goals as goal

pub returns-clause-whole : goal.returns-clause-whole
returns-clause-whole c =
    let fronts = c.in_ok-fronts.fronts in
    let ends = c.in_ok-ends.ends in
    let known = c.as_slice-3.result.now in
    let classes = c.in_ok-classes.classes.items in
    let made = c.in_ok-classes.ensures.made in
    record {
      are = classes_are fronts ends known classes c.in_ok-at.at.items c.in_ok-fronts.ensures.side c.in_ok-ends.ensures.side made
          (λ front end place front_less end_less.
          subst (λ (cs : List LabelClass). has_place (places_at c.in_ok-at.at.items front end) place ≡ is_between (slice_get cs place) front end)
          c.as_slice-4.ensures.value
          (c.in_ok-at.ensures front end place (subst (λ n. front < n) (sym c.len.ensures) front_less)
          (subst (λ n. end < n) (sym c.len-2.ensures) end_less)));
      each = each_of fronts ends known classes made c.in_ok-classes.ensures.several c.in_ok-classes.ensures.single;
      own = witnesses_are fronts ends known classes made;
      least = classes_least fronts ends known classes made c.in_ok-classes.ensures.single;
    }

pub returns-clause-alike : goal.returns-clause-alike
returns-clause-alike c = λ wishes asked.
    classes_alike wishes c.in_ok-fronts.fronts c.in_ok-ends.ends c.args.texts.now.fronts.items c.args.texts.now.ends.items
    c.args.texts.now.known.items c.in_ok-classes.classes.items c.in_ok-fronts.ensures.side c.in_ok-ends.ensures.side
    (among_as c.as_slice.result.now c.args.texts.now.fronts.items c.in_ok-fronts.fronts.texts.items c.as_slice.ensures.value c.in_ok-fronts.ensures.has)
    (among_as c.as_slice-2.result.now c.args.texts.now.ends.items c.in_ok-ends.ends.texts.items c.as_slice-2.ensures.value c.in_ok-ends.ensures.has)
    asked
    (subst (λ (known : List (List ℕ)). AreSingle known c.in_ok-classes.classes.items) c.as_slice-3.ensures.value c.in_ok-classes.ensures.single)

pub returns-clause-range : goal.returns-clause-range
returns-clause-range c = λ range front end.
    range_kept c.in_ok-fronts.fronts c.in_ok-ends.ends c.in_ok-classes.classes.items range c.in_ok-fronts.ensures.side c.in_ok-ends.ensures.side
    (among_as c.as_slice.result.now c.args.texts.now.fronts.items c.in_ok-fronts.fronts.texts.items c.as_slice.ensures.value c.in_ok-fronts.ensures.has
    range.front front)
    (among_as c.as_slice-2.result.now c.args.texts.now.ends.items c.in_ok-ends.ends.texts.items c.as_slice-2.ensures.value c.in_ok-ends.ensures.has
    range.end end)
