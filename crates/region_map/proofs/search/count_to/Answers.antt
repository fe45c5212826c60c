-- What parts the places by the test is their count.
use Rattle.std.proofs.Common.{nat_le, rules}
use Rattle.std.proofs.lemmas.List.Sorted.{IsPartitionPoint-from_clause, IsPartitionedBy-leb}
use Rattle.region_map.specs.Places.{start_in}
use Rattle.region_map.proofs.PlaceLemmas.{count_is}
use Rattle.region_map.proofs.search.count_to.Goals as goal

pub returns-clause-count : goal.returns-clause-count
returns-clause-count c = λ kept.
    let parted = IsPartitionedBy-leb start_in c.args.places.now c.args.address c.requires in
    count_is kept c.args.address c.partition_point.result c.args.places.now c.partition_point.ensures.bound
    (IsPartitionPoint-from_clause (λ place. nat_le (start_in place) c.args.address) c.args.places.now c.partition_point.result c.partition_point.ensures.partitioned parted (λ a r q k. search rules))
