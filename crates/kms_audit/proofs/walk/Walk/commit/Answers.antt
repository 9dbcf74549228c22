use Rattle.std.proofs.Common.{List, ap, arith, length, refl, subst, sym, ◌∙◌}
use Rattle.kms_audit.proofs.Committing.{commit-entered, kept-behind, named-out, not-entered, refused-request, told-named, untold-request}
use Rattle.kms_audit.specs.Latching.{AreWithin, LatchFields, ShowsAll}
use Rattle.kms_model.specs.declared.objects.Topology.{Topology}
use Rattle.kms_model.specs.declared.scripts.Command.TheVariants as command
use Rattle.kms_model.specs.Device.Masks.{has_bit}
use Rattle.kms_audit.proofs.walk.Walk.commit.Goals as goal

pub spans-requires : goal.spans-requires
spans-requires c = c.accepts.ensures.accepted c.if-not-accepts.false

pub commit-requires : goal.commit-requires
commit-requires c = c.requires.room

pub returns-then-not-accepts : goal.returns-then-not-accepts
returns-then-not-accepts c =
    let old = c.args.self.now in
    not-entered c.args.report.now c.args.client (command.Atomic c.args.request.now) old old
    (refused-request old.serial.topology old.serial.world c.args.client c.args.request.now
    (sym c.accepts.ensures.is ∙ c.if-not-accepts.true)) refl refl refl

pub returns-in_default : goal.returns-in_default
returns-in_default c =
    let old = c.args.self.now in
    not-entered c.args.report.now c.args.client (command.Atomic c.args.request.now) old _
    (untold-request old.serial.topology old.serial.world c.commit.new.self.world c.args.client c.args.request.now c.in_ok-reply.reply
    (c.accepts.ensures.accepted c.if-not-accepts.false) c.in_ok-reply.ensures.executed c.in_default.not-Commit)
    c.in_ok-reply.ensures.topology refl refl

pub show-requires-clause-few : goal.show-requires-clause-few
show-requires-clause-few c = omega (arith, c.requires.crtcs, ap (λ (t : Topology). t.crtcs) c.in_ok-reply.ensures.topology)

pub show-requires-clause-within : goal.show-requires-clause-within
show-requires-clause-within c =
    subst (λ (ls : List LatchFields). AreWithin (length ls) c.args.self.now.showing) (sym c.as_slice-lines.ensures.value) c.requires.lines

pub show-requires-clause-kept : goal.show-requires-clause-kept
show-requires-clause-kept c =
    let old = c.args.self.now in
    kept-behind old.serial.topology old.serial.world c.commit.new.self.world c.args.client
    (command.Atomic c.args.request.now) c.in_ok-reply.reply old.showing
    c.in_ok-reply.ensures.executed c.requires.kept

pub show-requires-clause-named : goal.show-requires-clause-named
show-requires-clause-named c = λ crtc past.
    let old = c.args.self.now.serial in
    let named =
    told-named old.topology old.world c.commit.new.self.world c.args.client c.args.request.now c.in_ok-reply.reply
    (c.accepts.ensures.accepted c.if-not-accepts.false) c.in_ok-reply.ensures.executed c.in-Commit.commit
    c.in-Commit.is c.in_ok-reply.named
    c.in_ok-reply.ensures.named in
    ap (λ m. has_bit m crtc) named
    ∙ named-out old.topology old.world c.args.request.now crtc
    (omega (arith, past, ap (λ (t : Topology). t.crtcs) c.in_ok-reply.ensures.topology))

pub returns : goal.returns
returns c =
    let old = c.args.self.now in
    let same = c.as_slice-lines.ensures.value in
    commit-entered c.args.report.now c.args.client c.args.request.now old _ c.in_ok-reply.reply c.in-Commit.commit
    c.in_ok-reply.named c.spans.result.1
    (c.accepts.ensures.accepted c.if-not-accepts.false) c.in_ok-reply.ensures.executed c.in-Commit.is c.in_ok-reply.ensures.named
    c.in_ok-reply.ensures.topology c.in_ok-reply.ensures.grows refl refl c.spans.ensures.touched c.note.ensures
    c.in_ok-push_owner.ensures.pushed
    (subst (λ (ls : List LatchFields). ShowsAll ls c.commit.new.self c.in_ok-reply.named c.in-Commit.commit old.showing.tracks
    c.show.new.self.tracks) same
    c.in_ok-show.ensures.tracks)
    (subst (λ (ls : List LatchFields). AreWithin (length ls) c.show.new.self) same c.in_ok-show.ensures.within) c.in_ok-show.ensures.kept
