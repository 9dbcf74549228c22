use Rattle.std.proofs.Common.{rules, ltb}
use Rattle.std.proofs.lemmas.List.Sorted.{IsPartitionPoint-from_clause, IsPartitionedBy-ltb}
use Rattle.kms_track.proofs.TailPlaces.{IsPlaceOf, below_place, from_place_on, ids_rise}
use Rattle.kms_track.proofs.tails.place_from.Goals as goal

pub returns-clause-below : goal.returns-clause-below
returns-clause-below c =
    let point : IsPlaceOf c.args.slots.now c.args.id c.partition_point.result =
    IsPartitionPoint-from_clause (λ s. ltb s.id c.args.id) _ _ c.partition_point.ensures.partitioned
    (IsPartitionedBy-ltb (λ s. s.id) c.args.slots.now c.args.id (ids_rise c.args.slots.now c.requires)) (λ a r q k. search rules) in
    λ k low. below_place c.args.slots.now c.args.id c.partition_point.result k point c.partition_point.ensures.bound low

pub returns-clause-above : goal.returns-clause-above
returns-clause-above c =
    let point : IsPlaceOf c.args.slots.now c.args.id c.partition_point.result =
    IsPartitionPoint-from_clause (λ s. ltb s.id c.args.id) _ _ c.partition_point.ensures.partitioned
    (IsPartitionedBy-ltb (λ s. s.id) c.args.slots.now c.args.id (ids_rise c.args.slots.now c.requires)) (λ a r q k. search rules) in
    λ k high within. from_place_on c.args.slots.now c.args.id c.partition_point.result k point high within
