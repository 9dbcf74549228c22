use Rattle.std.proofs.Common.{◌≡◌, arith, rules}
use Rattle.kms_model.specs.Device.States.{natural}
use Rattle.kms_compose.proofs.Places.{few_pixels, natural_most, place_is, room}
use Rattle.kms_compose.proofs.sources.source_place.Goals as goal

pub middle_of-requires-clause-long : goal.middle_of-requires-clause-long
middle_of-requires-clause-long c =
    let long : c.natural-long.result ≡ natural c.args.reach.now.long = search rules in
    let most = natural_most c.args.reach.now.long 4294967295 c.requires.reach.long in
    omega (arith, long, most)

pub middle_of-requires-clause-wide : goal.middle_of-requires-clause-wide
middle_of-requires-clause-wide c =
    let wide : c.natural-wide.result ≡ natural c.args.reach.now.wide = search rules in
    let most = natural_most c.args.reach.now.wide 2147483647 c.requires.reach.wide in
    omega (arith, wide, most)

pub middle_of-requires-clause-pixel : goal.middle_of-requires-clause-pixel
middle_of-requires-clause-pixel c = few_pixels c.args.reach.now c.args.at c.natural-src.result c.natural-long.result c.natural-wide.result
    c.pixel_of-pixel.result (search rules) (search rules) (search rules) c.pixel_of-pixel.ensures c.requires

pub middle_of-requires-clause-room : goal.middle_of-requires-clause-room
middle_of-requires-clause-room c = room c.args.reach.now c.args.at c.natural-src.result c.natural-long.result c.natural-wide.result
    c.pixel_of-pixel.result (search rules) (search rules) (search rules) c.pixel_of-pixel.ensures c.requires

pub returns : goal.returns
returns c = place_is c.args.reach.now c.args.at c.natural-src.result c.natural-long.result c.natural-wide.result c.pixel_of-pixel.result
    (search rules) (search rules) (search rules) c.pixel_of-pixel.ensures c.middle_of.result c.middle_of.ensures
