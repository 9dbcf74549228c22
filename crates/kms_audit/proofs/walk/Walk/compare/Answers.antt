use Rattle.kms_audit.proofs.walk.Walk.compare.Goals as goal

pub compare-requires-clause-at : goal.compare-requires-clause-at
compare-requires-clause-at c = c.requires.walk.kept.at

pub returns : goal.returns
returns c =
    let k = c.requires.walk.kept in
    record {
      kept = record {
        within = k.within;
        right = k.right;
        at = k.at;
        small = k.small;
        counted = k.counted;
        size = k.size;
        highest = k.highest;
        owners = k.owners;
        tracks = k.tracks;
        lines = k.lines;
        kept = k.kept;
      };
      compared = c.compare.ensures;
    }
