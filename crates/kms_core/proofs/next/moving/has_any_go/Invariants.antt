use Rattle.std.proofs.Common.{ℕ, ◌≡◌, ◌<◌, false}
use Rattle.std.specs.Prelude.{is_some}
use Rattle.kms_model.specs.declared.objects.Kind.TheVariants.{Crtc}
use Rattle.kms_model.specs.Device.Objects.{object_id}
use Rattle.kms_model.specs.Machine.State.{go_at}
use Rattle.kms_core.specs.Run.{machine}
use Rattle.kms_core.proofs.next.moving.has_any_go.Given as goal

abbrev pub invariant-loop-crtc : goal.invariant-loop-crtc
invariant-loop-crtc l = (n : ℕ) → n < l.crtc → is_some (go_at (machine l.core).device (object_id Crtc n)) ≡ false
