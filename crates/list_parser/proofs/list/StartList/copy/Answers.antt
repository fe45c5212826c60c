-- The same entries are as they were.
use Rattle.std.proofs.Common.{◌≡◌, List, length, sym, ap, subst, ◌∙◌, arith}
use Rattle.own_model.specs.Listed.{ListedEntry}
use Rattle.list_parser.specs.Depth.{HaveParentInits}
use Rattle.list_parser.specs.PathIndex.{AreFirst}
use Rattle.list_parser.specs.Services.{AreServices}
use Rattle.list_parser.proofs.list.StartList.copy.Goals as goal

pub invariant_of-result : goal.invariant_of-result
invariant_of-result c =
    let old : List ListedEntry = c.self.inside.entries.items in
    let new : List ListedEntry = c.in_ok-entries.entries.items in
    let same : old ≡ new = sym (c.in_ok-entries.ensures ∙ c.as_slice-2.ensures.value) in
    let range = c.self.invariant.0 in (
      record {
        least_pages = range.least_pages;
        most_pages = range.most_pages;
        least_caps = range.least_caps;
        most_caps = range.most_caps;
        most_entries = omega (arith, range.most_entries, c.self.inside.entries.ok, c.in_ok-entries.entries.ok, ap length same);
      },
      subst HaveParentInits same c.self.invariant.1,
      subst (λ firsts. AreFirst firsts new) (sym c.copy.ensures) (subst (AreFirst c.self.inside.finder.firsts) same c.self.invariant.2),
      subst (λ declared. AreServices declared new) (sym (c.in_ok-copy_names.ensures ∙ c.as_slice-3.ensures.value)) (subst (AreServices c.self.inside.declared.items) same c.self.invariant.3),
    )
