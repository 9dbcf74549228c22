use Rattle.std.proofs.Common.{refl}
use Rattle.kms_kept_frames.proofs.FrontLemmas.{kept}
use Rattle.kms_kept_frames.proofs.fronts.Fronts.keep.Goals as goal

pub returns : goal.returns
returns c = λ before after fronts same. kept _ _ before after c.args.count fronts same refl c.truncate.ensures.items
