-- Requests that are refused late, by what the walk keeps.
use Rattle.std.proofs.Common.{◌≡◌, ℕ, ◌+◌, ◌*◌, Bool, true, false, length, take, refl, sym, ap, ◌∙◌, subst}
use Rattle.std.specs.Prelude.{◌%◌, ◌&&◌, ◌==◌, nat_le, nat_lt}
use Rattle.kms_audit.proofs.NamedCount.{count_named}
use Rattle.kms_audit.proofs.Spanned.{touched-in, untouched-out}
use Rattle.kms_audit.specs.declared.touches.Touches.{Touches}
use Rattle.kms_audit.specs.Judged.{IsAt, may_be_busy_by, may_lack_space_by}
use Rattle.kms_audit.specs.Touching.{is_touched_in, last_in}
use Rattle.kms_model.proofs.TouchedLemmas.{few_objects}
use Rattle.kms_model.specs.declared.objects.ObjId.{ObjId}
use Rattle.kms_model.specs.declared.replies.Reply.TheVariants as reply
use Rattle.kms_model.specs.declared.reports.Report.{Report}
use Rattle.kms_model.specs.declared.scripts.Request.{Request}
use Rattle.kms_model.specs.declared.scripts.Script.{Script}
use Rattle.kms_model.specs.Device.Sound.{IsDevice}
use Rattle.kms_model.specs.Machine.Commits.{has_number, lockable}
use Rattle.kms_model.specs.Machine.State.{has_value}
use Rattle.kms_model.specs.Report.RightAnswers.{entries_in, last_touch, may_be_refused_late}
use Rattle.kms_model.specs.Request.Apply.{after}
use Rattle.kms_model.specs.Request.Flags.{is_nonblock, wants_event}
use Rattle.kms_model.specs.Request.Named.{named, names}
use Rattle.kms_model.specs.Request.Touched.{named_by, touched_by, touches}
use Rattle.kms_serial.specs.Device.{Device}

module _ (s : Script) (r : Report) (place : ℕ) (d : Device) (t : Touches) (q : Request) (at : IsAt s r place d t) where
  device : IsDevice d.topology
  device = subst IsDevice (sym at.stands.topology) at.device

  -- for want of space
  pub late-space : (used : ℕ) → may_lack_space_by q.flags (named_by d.topology d.world q) used ≡ may_be_refused_late s
      (take place (entries_in r)) d.world q (reply.Space used)
  late-space used =
      ap (λ n. wants_event q.flags && ((used % 32 == 0) && (nat_le used 4096 && nat_lt 4096 (used + 32 * n))))
      (count_named d.topology (names d.world.values (after d.world q) q.assigns) (few_objects d.topology device).crtcs
      ∙ ap (λ x. length (named x d.world q)) at.stands.topology)

  -- as busy
  busy_by : (object commit : ℕ) (b : Bool) → has_number (lockable d.topology) object ≡ b
      → (is_touched_in (touched_by d.topology d.world q) object && has_value commit (last_in t object))
      ≡ (b && (touches d.topology d.world q object && has_value commit (last_touch s (take place (entries_in r)) object)))
  busy_by object commit false e = ap (λ b. b && has_value commit (last_in t object)) (untouched-out d.topology d.world q object e)
  busy_by object commit true e =
      ap (λ b. b && has_value commit (last_in t object)) (touched-in d.topology d.world q object device e)
      ∙ ap (λ o. touches d.topology d.world q object && has_value commit o)
      (at.touches object (ap (λ x. has_number (lockable x) object) (sym at.stands.topology) ∙ e))

  pub late-busy : (object : ObjId) (commit : ℕ) → may_be_busy_by q.flags (touched_by d.topology d.world q) t object.0 commit
      ≡ may_be_refused_late s (take place (entries_in r)) d.world q (reply.Busy object commit)
  late-busy object commit =
      ap (λ b. is_nonblock q.flags && b)
      (busy_by object.0 commit (has_number (lockable d.topology) object.0) refl
      ∙ ap (λ x. has_number (lockable x) object.0 &&
      (touches x d.world q object.0 && has_value commit (last_touch s (take place (entries_in r)) object.0))) at.stands.topology)
