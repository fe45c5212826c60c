-- A place stays the first of its kind until one before it comes.
use Rattle.std.proofs.Common.{◌≡◌, ◌+◌, ◌<◌, ◌≤◌, ◌⊎◌, inl, inr, get_or, length, slice_index_or, slice_set, ap, subst, refl, sym, ◌∙◌, arith, length-set}
use Rattle.std.proofs.lemmas.Bool.{cases_lt}
use Rattle.std.proofs.lemmas.List.{get_or_default}
use Rattle.std.proofs.lemmas.Option.{slice_get_read, slice_get_within}
use Rattle.list_parser.specs.PathIndex.{StandThere, kind_of}
use Rattle.list_parser.proofs.FinderLemmas.{AreFirstOf, first_next, none_there, there_next}
use Rattle.list_parser.proofs.path_index.PathIndex.of.Goals as goal

pub loop-place-init : goal.loop-place-init
loop-place-init c = record { kinds = refl; first = λ place entry less. absurd (omega (arith, less)); there = none_there c.args.entries.now }

pub loop-place-preserved : goal.loop-place-preserved
loop-place-preserved c =
    let entries = c.args.entries.now in
    let firsts = c.loop-place.firsts in
    let place = c.loop-place.place in
    let least = c.min.result in
    let entry = c.index-entries-place.result in
    let here = slice_get_read entries (length entries) place entry refl c.loop-place-test.true c.index-entries-place.is in
    let kind : c.kind_of-kind.result ≡ kind_of entry.path = c.kind_of-kind.ensures.value ∙ ap kind_of c.path.ensures.path in
    let within : kind_of entry.path < length firsts = omega (arith, kind, c.kind_of-kind.ensures.small, c.loop-place.invariant.kinds) in
    let kept : least ≤ slice_index_or firsts (kind_of entry.path) 0
    = subst (λ k. least ≤ slice_index_or firsts k 0) kind (omega (arith, c.min.ensures)) in
    let at_kind : get_or firsts c.kind_of-kind.result 32 ≡ get_or firsts (kind_of entry.path) 32 = ap (λ k. get_or firsts k 32) kind in
    let same : get_or firsts c.kind_of-kind.result 32 ≡ slice_index_or firsts c.kind_of-kind.result 0
    = get_or_default firsts c.kind_of-kind.result 32 0 (omega (arith, c.kind_of-kind.ensures.small, c.loop-place.invariant.kinds)) in
    let least_is : (least ≡ get_or firsts (kind_of entry.path) 32) ⊎ (least ≡ place) = elim (cases_lt place (slice_index_or firsts c.kind_of-kind.result 0)) [
      | inl sooner ↦ inr (omega (arith, c.min.ensures, sooner))
      | inr later ↦ inl (omega (arith, c.min.ensures, later, at_kind, same))
    ] in
    record {
      kinds = omega (arith, c.loop-place.invariant.kinds, length-set firsts c.kind_of-kind.result least);
      first = subst (λ k. AreFirstOf (slice_set firsts k least) entries (place + 1)) (sym kind)
          (first_next firsts entries place entry least here within kept (omega (arith, c.min.ensures)) c.loop-place.invariant.first);
      there = subst (λ k. StandThere (slice_set firsts k least) entries) (sym kind)
          (there_next firsts entries place entry least here within least_is c.loop-place.invariant.there);
    }

pub returns : goal.returns
returns c = record {
  sooner = λ place entry at. c.loop-place.invariant.first place entry (omega (arith, c.loop-place-test.false, slice_get_within _ place entry at)) at;
  there = c.loop-place.invariant.there;
}
