use Rattle.std.proofs.Common.{List, [], ap, arith, get_or, length, subst, sym, ◌∙◌}
use Rattle.kms_audit.proofs.Eventful.{event-left, event-read, event-rest, events-first, events-none, left-first, no-event-here}
use Rattle.kms_audit.proofs.Eventful.{no-line-here}
use Rattle.kms_audit.proofs.Firsts.{at-0}
use Rattle.kms_audit.specs.Eventing.{EventFields, IsTaken, ReplyFields, next_reader}
use Rattle.kms_model.specs.Report.Right.{event_is_right}
use Rattle.kms_model.specs.Report.RightAnswers.{first_off}
use Rattle.kms_audit.proofs.events.events_off.Goals as goal

pub loop-place-init : goal.loop-place-init
loop-place-init c = record {
  rest = λ s right. at-0 (first_off (event_is_right s c.args.report.now) [] c.args.report.now.events);
  read = λ s right. events-first s c.args.report.now c.args.blocks.now c.args.owners.now right;
  own = omega arith;
  owed = left-first c.args.report.now c.args.owners.now c.as_slice.result.now c.in_ok-owed.owed
      c.as_slice.ensures.value c.in_ok-owed.ensures;
}

pub returns-in_default : goal.returns-in_default
returns-in_default c = λ s right.
    let i = c.loop-place.invariant in
    let line = c.as_slice-line-items.result.now in
    let place = c.loop-place.place in
    let d : EventFields = (0, record { user_data = 0; sequence = 0; crtc = 0 }) in
    let same = ap (λ (rs : List ReplyFields). next_reader c.loop-place.reader c.args.blocks.now rs (get_or line place d))
    (sym c.as_slice-replies.ensures.value) in
    no-event-here s c.args.report.now c.args.blocks.now c.args.owners.now right line c.as_slice-line-items.ensures.value
    c.loop-place.reader place d
    c.loop-place.owed (omega arith) (i.rest s right) (i.read s right) i.owed
    (same ∙ sym c.in_default.ensures.value)

pub returns-then-not-taken : goal.returns-then-not-taken
returns-then-not-taken c = λ s right.
    let i = c.loop-place.invariant in
    let line = c.as_slice-line-items.result.now in
    let place = c.loop-place.place in
    let d : EventFields = (0, record { user_data = 0; sequence = 0; crtc = 0 }) in
    let same = ap (λ (rs : List ReplyFields). next_reader c.loop-place.reader c.args.blocks.now rs (get_or line place d))
    (sym c.as_slice-replies.ensures.value) in
    no-line-here s c.args.report.now c.args.blocks.now c.args.owners.now right line c.as_slice-line-items.ensures.value
    c.loop-place.reader place d
    c.loop-place.owed (omega arith) (i.rest s right) (i.read s right) i.owed c.in-Some.next
    (same ∙ sym c.in-Some.ensures.value)
    (sym c.in_ok-taken.ensures.taken_where ∙ c.if-not-taken.true)

pub loop-place-preserved : goal.loop-place-preserved
loop-place-preserved c =
    let i = c.loop-place.invariant in
    let line = c.as_slice-line-items.result.now in
    let place = c.loop-place.place in
    let d : EventFields = (0, record { user_data = 0; sequence = 0; crtc = 0 }) in
    let same = ap (λ (rs : List ReplyFields). next_reader c.loop-place.reader c.args.blocks.now rs (get_or line place d))
    (sym c.as_slice-replies.ensures.value) in
    let some = sym c.in_ok-taken.ensures.taken_where ∙ c.if-not-taken.false in
    record {
      rest = λ s right.
          event-rest s c.args.report.now c.args.blocks.now c.args.owners.now right line c.as_slice-line-items.ensures.value
          c.loop-place.reader place d
          c.loop-place.owed (omega arith) (i.rest s right) (i.read s right) i.owed c.in-Some.next
          (same ∙ sym c.in-Some.ensures.value) some;
      read = λ s right.
          event-read s c.args.report.now c.args.blocks.now c.args.owners.now right line c.as_slice-line-items.ensures.value
          c.loop-place.reader place d
          c.loop-place.owed (omega arith) (i.rest s right) (i.read s right) i.owed c.in-Some.next
          (same ∙ sym c.in-Some.ensures.value) some;
      own = omega (arith, c.in-Some.ensures.within, ap length c.as_slice-replies.ensures.value);
      owed =
          event-left c.args.report.now c.args.owners.now line c.as_slice-line-items.ensures.value place d
          c.loop-place.owed c.take_line.new.owed
          (omega arith) i.owed
          (subst (IsTaken (get_or line place d) c.loop-place.owed c.take_line.new.owed) c.if-not-taken.false c.in_ok-taken.ensures);
    }

pub returns : goal.returns
returns c = λ s right.
    events-none s c.args.report.now c.as_slice-line-items.result.now c.as_slice-line-items.ensures.value c.loop-place.place (omega arith)
    (c.loop-place.invariant.rest s right)
