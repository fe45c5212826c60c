-- The one's limits are parted, and come to the other.
use Rattle.std.proofs.Common.{◌∙◌}
use Rattle.own_model.proofs.NatMapLemmas.{IsSome-insert}
use Rattle.quota_core.proofs.BooksLaws.{moved_in_two}
use Rattle.quota_core.proofs.books.Books.pass_on.Goals as goal

pub take_over-requires-clause-open : goal.take_over-requires-clause-open
take_over-requires-clause-open c =
    rw c.in_ok-limits.ensures.taken.ok (IsSome-insert c.args.self.now.accounts c.args.from.0 _ c.args.to.0 c.requires.to)

pub returns : goal.returns
returns c = let taken = c.in_ok-limits.ensures.taken in record {
  refusal = taken.refusal;
  ok = c.take_over.ensures.raised
      ∙ moved_in_two c.args.self.now c.part_with.new.self c.args.from.0 c.args.to.0 c.args.ram.0 c.args.caps.0 c.in_ok-limits.limits c.requires.apart taken.ok taken.part;
  err = tt;
  limits = record { ram = c.take_over.ensures.ram ∙ taken.less_ram; caps = c.take_over.ensures.caps ∙ taken.fewer_caps };
}
