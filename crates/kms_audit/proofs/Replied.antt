-- Replies, compared with those of the device of one thread at their places.
use Rattle.std.proofs.Common.{◌≡◌, ℕ, Bool, true, false, List, take, Some, None, refl, sym, ap, ◌∙◌}
use Rattle.std.proofs.lemmas.Bool.{and_left, and_right, not_from_false, not_from_true}
use Rattle.std.specs.Prelude.{◌&&◌, ◌||◌, is_none, not}
use Rattle.kms_audit.specs.declared.touches.Touches.{Touches}
use Rattle.kms_audit.specs.Judged.{IsAt, StandsAt}
use Rattle.kms_model.specs.declared.objects.ObjId.{ObjId}
use Rattle.kms_model.specs.declared.replies.Answered.{Answered}
use Rattle.kms_model.specs.declared.replies.Reply.{Reply}
use Rattle.kms_model.specs.declared.replies.Reply.TheVariants as reply
use Rattle.kms_model.specs.declared.reports.Report.{Report}
use Rattle.kms_model.specs.declared.scripts.Command.{Command}
use Rattle.kms_model.specs.declared.scripts.Command.TheVariants as command
use Rattle.kms_model.specs.declared.scripts.Request.{Request}
use Rattle.kms_model.specs.declared.scripts.Script.{Script}
use Rattle.kms_model.specs.declared.worlds.World.{World}
use Rattle.kms_model.specs.Device.Execution.{execute}
use Rattle.kms_model.specs.Device.Serial.{Entry, command_of, is_accepted}
use Rattle.kms_model.specs.Headline.{entry_answered}
use Rattle.kms_model.specs.Report.RightAnswers.{entries_in, is_devices_reply, is_refused_late_at, is_to_entry, is_told, may_be_refused_late}
use Rattle.kms_model.specs.Report.RightAnswers.{reply_is_right, reply_is_right_to, same_reply, world_at}
use Rattle.kms_model.specs.Request.Flags.{is_test}
use Rattle.kms_model.specs.Request.Verdict.{verdict}
use Rattle.kms_serial.specs.Device.{Device}

-- What the device tells

module _ (s : Script) (r : Report) (a : Answered) (d : Device) (stands : StandsAt s r a.place d) where
  replied : (c : Command) (told : Reply) → (execute d.topology d.world a.client c).reply ≡ told
      → told ≡ (execute s.topology (world_at s r a.place) a.client c).reply
  replied c told is =
      sym is
      ∙ (ap (λ t. (execute t d.world a.client c).reply) stands.topology ∙ ap (λ w. (execute s.topology w a.client c).reply) stands.world)

  module _ (c : Command) (told : Reply) (is : (execute d.topology d.world a.client c).reply ≡ told) where
    device_as : (same_reply a.reply told && (is_to_entry r a || not (is_accepted told))) ≡ is_devices_reply s r a c
    device_as = ap (λ x. same_reply a.reply x && (is_to_entry r a || not (is_accepted x))) (replied c told is)

    pub device-apart : (same : Bool) → same ≡ same_reply a.reply told → same ≡ false → false ≡ is_devices_reply s r a c
    device-apart same e off = ap (λ b. b && (is_to_entry r a || not (is_accepted told))) (sym off ∙ e) ∙ device_as

    module _ (same : Bool) (e : same ≡ same_reply a.reply told) (on : same ≡ true) (entry : Bool) (f : entry ≡ is_to_entry r a) where
      pub device-entry : entry ≡ true → true ≡ is_devices_reply s r a c
      device-entry to =
          ap (λ b. b || not (is_accepted told)) (sym to ∙ f)
          ∙ (ap (λ b. b && (is_to_entry r a || not (is_accepted told))) (sym on ∙ e) ∙ device_as)

      pub device-other : entry ≡ false → (accepted : Bool) → accepted ≡ is_accepted told → not accepted ≡ is_devices_reply s r a c
      device-other to accepted g =
          ap not g
          ∙ (ap (λ b. b || not (is_accepted told)) (sym to ∙ f)
          ∙ (ap (λ b. b && (is_to_entry r a || not (is_accepted told))) (sym on ∙ e) ∙ device_as))

    pub right-signal : (label : ℕ) → c ≡ command.Signal label → Some c ≡ command_of s (entry_answered a) → (same : Bool)
        → same ≡ same_reply a.reply told
        → same ≡ reply_is_right s r a
    unfolding reply_is_right
    right-signal label signals there same e =
        e
        ∙ (ap (same_reply a.reply) (replied c told is)
        ∙ (signalled c signals ∙ ap (reply_is_right_to s r a) there)) where
          signalled : (x : Command) → x ≡ command.Signal label
              → same_reply a.reply (execute s.topology (world_at s r a.place) a.client x).reply ≡ reply_is_right_to s r a (Some x)
          signalled (command.Signal other) g = refl
          signalled x g = absurd cc

-- Whether a reply is right

module _ (s : Script) (r : Report) (a : Answered) where
  pub right-none : None ≡ command_of s (entry_answered a) → false ≡ reply_is_right s r a
  unfolding reply_is_right
  right-none e = ap (reply_is_right_to s r a) e

  pub right-wait : Some command.Wait ≡ command_of s (entry_answered a) → (told : Bool) → told ≡ is_told a.reply
      → told ≡ reply_is_right s r a
  unfolding reply_is_right
  right-wait e told is = is ∙ ap (reply_is_right_to s r a) e

  module _ (q : Request) (e : Some (command.Atomic q) ≡ command_of s (entry_answered a)) (device : Bool)
      (is : device ≡ is_devices_reply s r a (command.Atomic q)) where
    right_request : (is_devices_reply s r a (command.Atomic q) ||
        (not (is_to_entry r a) && is_refused_late_at s (take a.place (entries_in r)) q a.reply))
        ≡ reply_is_right s r a
    unfolding reply_is_right
    right_request = ap (reply_is_right_to s r a) e

    pub request-device : device ≡ true → true ≡ reply_is_right s r a
    request-device on =
        ap (λ b. b || (not (is_to_entry r a) && is_refused_late_at s (take a.place (entries_in r)) q a.reply)) (sym on ∙ is) ∙ right_request

    module _ (off : device ≡ false) (entry : Bool) (f : entry ≡ is_to_entry r a) where
      not_device : (not (is_to_entry r a) && is_refused_late_at s (take a.place (entries_in r)) q a.reply) ≡ reply_is_right s r a
      not_device =
          ap (λ b. b || (not (is_to_entry r a) && is_refused_late_at s (take a.place (entries_in r)) q a.reply))
          (sym off ∙ is) ∙ right_request

      pub request-entry : entry ≡ true → false ≡ reply_is_right s r a
      request-entry to = ap (λ b. not b && is_refused_late_at s (take a.place (entries_in r)) q a.reply) (sym to ∙ f) ∙ not_device

      pub request-late : entry ≡ false → (late : Bool) → late ≡ is_refused_late_at s (take a.place (entries_in r)) q a.reply
          → late ≡ reply_is_right s r a
      request-late to late g =
          g ∙ (ap (λ b. not b && is_refused_late_at s (take a.place (entries_in r)) q a.reply) (sym to ∙ f) ∙ not_device)

  as_device : (c : Command) → ((q : Request) → c ≡ command.Atomic q → ⊥)
      → ((label : ℕ) → c ≡ command.Signal label → ⊥) → (c ≡ command.Wait → ⊥)
      → is_devices_reply s r a c ≡ reply_is_right_to s r a (Some c)
  as_device (command.Atomic q) asks signals waits = absurd (asks q refl)
  as_device (command.Signal label) asks signals waits = absurd (signals label refl)
  as_device command.Wait asks signals waits = absurd (waits refl)
  as_device c asks signals waits = refl

  pub right-other : (c : Command) → ((q : Request) → c ≡ command.Atomic q → ⊥)
      → ((label : ℕ) → c ≡ command.Signal label → ⊥) → (c ≡ command.Wait → ⊥)
      → Some c ≡ command_of s (entry_answered a) → (device : Bool) → device ≡ is_devices_reply s r a c → device ≡ reply_is_right s r a
  unfolding reply_is_right
  right-other c asks signals waits e device is = is ∙ (as_device c asks signals waits ∙ ap (reply_is_right_to s r a) e)

-- Late refusals

pub never-late : (s : Script) (journal : List Entry) (w : World) (q : Request) (b : Reply) → ((used : ℕ) → b ≡ reply.Space used → ⊥)
    → ((x : ObjId) (k : ℕ) → b ≡ reply.Busy x k → ⊥) → false ≡ may_be_refused_late s journal w q b
never-late s journal w q (reply.Space used) spaces busies = absurd (spaces used refl)
never-late s journal w q (reply.Busy x k) spaces busies = absurd (busies x k refl)
never-late s journal w q b spaces busies = refl

module _ (s : Script) (r : Report) (place : ℕ) (d : Device) (t : Touches) (q : Request) (b : Reply) (at : IsAt s r place d t) where
  abbrev journal : List Entry
  journal = take place (entries_in r)

  -- the verdict of the device is that at the place
  verdict_here : is_none (verdict d.topology d.world q) ≡ is_none (verdict s.topology (world_at s r place) q)
  verdict_here =
      ap (λ x. is_none (verdict x d.world q)) at.stands.topology ∙ ap (λ w. is_none (verdict s.topology w q)) at.stands.world

  pub late-test : (test : Bool) → test ≡ is_test q.flags → test ≡ true → false ≡ is_refused_late_at s journal q b
  late-test test e on =
      sym (and_right (is_none (verdict s.topology (world_at s r place) q))
      (not (is_test q.flags) && may_be_refused_late s journal (world_at s r place) q b)
      (and_left (not (is_test q.flags)) (may_be_refused_late s journal (world_at s r place) q b)
      (not_from_true (is_test q.flags) (sym e ∙ on))))

  pub late-refused : (accepts : Bool) → accepts ≡ is_none (verdict d.topology d.world q) → accepts ≡ false
      → false ≡ is_refused_late_at s journal q b
  late-refused accepts e off =
      sym (and_left (is_none (verdict s.topology (world_at s r place) q))
      (not (is_test q.flags) && may_be_refused_late s journal (world_at s r place) q b)
      (sym verdict_here ∙ (sym e ∙ off)))

  pub late-as : (accepts test late : Bool) → accepts ≡ is_none (verdict d.topology d.world q) → accepts ≡ true
      → test ≡ is_test q.flags → test ≡ false
      → late ≡ may_be_refused_late s journal d.world q b → late ≡ is_refused_late_at s journal q b
  late-as accepts test late e on f off g =
      g
      ∙ (ap (λ w. may_be_refused_late s journal w q b) at.stands.world
      ∙ (ap (λ x. x && may_be_refused_late s journal (world_at s r place) q b) (sym (not_from_false (is_test q.flags) (sym f ∙ off)))
      ∙ ap (λ x. x && (not (is_test q.flags) && may_be_refused_late s journal (world_at s r place) q b)) (sym on ∙ (e ∙ verdict_here))))
