use Rattle.std.proofs.Common.{ap, ◌∙◌}
use Rattle.std.specs.Option.{option_map}
use Rattle.kms_model.specs.declared.objects.Kind.TheVariants.{Crtc}
use Rattle.kms_model.specs.Device.Objects.{object_id}
use Rattle.kms_track.proofs.Queries.{flush_is}
use Rattle.kms_track.proofs.tail.Tail.next_flush.Goals as goal

pub returns-clause-machine : goal.returns-clause-machine
returns-clause-machine c = λ t d latches k device is. ap (option_map (object_id Crtc)) c.first_left.ensures.first
    ∙ flush_is t d latches k c.args.self.now device is
