use Rattle.std.proofs.Common.{◌≡◌, ◌∙◌, ℕ, Option, None, sym, ap, subst}
use Rattle.std.specs.Prelude.{All}
use Rattle.kms_model.specs.declared.objects.Kind.TheVariants.{Plane}
use Rattle.kms_model.specs.declared.objects.Topology.{Topology}
use Rattle.kms_model.specs.declared.scripts.Request.{Request}
use Rattle.kms_model.specs.declared.sets.Resolved.{Resolved}
use Rattle.kms_model.specs.declared.states.Duplicates.{Duplicates}
use Rattle.kms_model.specs.declared.states.Mask.{Mask}
use Rattle.kms_model.specs.declared.worlds.World.{World}
use Rattle.kms_model.specs.Request.Lookups.{look_up}
use Rattle.kms_model.specs.Device.Objects.{count_of}
use Rattle.kms_model.specs.Request.Touched.{named_by, touched_by}
use Rattle.kms_request.specs.Answers.{refusal_number}
use Rattle.kms_model.specs.Request.Deciding.{AreOfSoundWorld, IsAskedFor, IsOfRequest}
use Rattle.kms_check.specs.Applying.{IsApplicable, SetsAll}
use Rattle.kms_model.specs.Request.Groups.{affected_group, named_group, set_group}
use Rattle.kms_request.specs.Groups.{objects_set}
use Rattle.kms_check.specs.Lacking.{lacking}
use Rattle.kms_check.proofs.Readiness.{HasRoom, covered, ready}
use Rattle.kms_check.proofs.Conclusions.{applied, asked-lacking, room-same, set-lacking, first-set, first-named, first-affected}
use Rattle.kms_check.proofs.Conclusions.{asked-first, HasSets, named-known, named-lacking, HasApplied, affected-lacking, affected-known}
use Rattle.kms_check.proofs.Conclusions.{refusal-known}
use Rattle.kms_check.proofs.PlaneRanges.{fresh-in_range, looked_at-in_range}
use Rattle.kms_request.proofs.AffectedLemmas.{touched-known}
use Rattle.kms_request.proofs.SetGroups.{objects_set-is}
use Rattle.kms_check.proofs.checking.check.Goals.{After-lacking, After-lacking-2, After-lacking-3, After-union-touched}
use Rattle.kms_check.proofs.checking.check.Goals as goal

-- What is found of each group, whatever comes of it

set_found : (c : After-lacking) {w : World} {r : Request} → IsOfRequest c.args.topology.now w r c.args.resolved.now c.args.states.now
    → lacking c.args.states.now (set_group c.args.topology.now r) ≡ c.lacking.result
set_found c {w} {r} is = set-lacking is c.as_slice-sets.ensures.value c.objects_set-set.ensures c.lacking.ensures

-- What the first group tells, and the second, where nothing of them is lacking

record NamedKnown (t : Topology) (w : World) (r : Request) (resolved : Resolved) (d : Duplicates) (named : ℕ) (found : Option Mask) : Type 0
  where
    has : HasSets t w r resolved d
    named_is : named ≡ named_by t w r
    named_found : lacking d (named_group t w r) ≡ found

named_known : (c : After-lacking-2) {w : World} {r : Request} → IsOfRequest c.args.topology.now w r c.args.resolved.now c.args.states.now
    → NamedKnown c.args.topology.now w r c.args.resolved.now c.args.states.now c.named-named.result c.lacking-2.result
named_known c {w} {r} is =
    let t = c.args.topology.now in
    let d = c.args.states.now in
    let room : HasRoom d = record {
      crtcs = c.have_places.ensures.crtcs;
      planes = c.have_places.ensures.planes;
      conns = c.have_places.ensures.conns;
    } in
    let lacks : lacking d (set_group t r) ≡ c.lacking.result = set-lacking is
    c.as_slice-sets.ensures.value c.objects_set-set.ensures c.lacking.ensures in
    let has : HasSets t w r c.args.resolved.now d = record { is = is; room = room; none = lacks ∙ c.in_default.is } in
    let named_is : c.named-named.result ≡ named_by t w r = named-known c.named-named.result has
    c.named-named.ensures in
    record { has = has; named_is = named_is; named_found = named-lacking t w r d named_is c.only_crtcs.ensures c.lacking-2.ensures }

record AllKnown (t : Topology) (w : World) (r : Request) (resolved : Resolved) (d d' : Duplicates) (named : ℕ) (found : Option Mask) : Type
    0 where
  applied_to : HasApplied t w r resolved d d' named
  affected_found : lacking d (affected_group t w r) ≡ found

all_known : (c : After-lacking-3) {w : World} {r : Request} → IsOfRequest c.args.topology.now w r c.args.resolved.now c.args.states.now
    → NamedKnown c.args.topology.now w r c.args.resolved.now c.args.states.now c.named-named.result c.lacking-2.result
    → AllKnown c.args.topology.now w r c.args.resolved.now c.args.states.now c.apply.new.states c.named-named.result c.lacking-3.result
all_known c {w} {r} is known =
    let t = c.args.topology.now in
    let d = c.args.states.now in
    let d' = c.apply.new.states in
    let set_all : SetsAll d c.args.resolved.now.sets d' = subst (λ ss. SetsAll d ss d') c.as_slice-sets.ensures.value c.apply.ensures.new in
    let applied_to : HasApplied t w r c.args.resolved.now d d' c.named-named.result = record {
      has = known.has;
      room = room-same d d' c.apply.ensures.old known.has.room;
      named_is = known.named_is;
      none = known.named_found ∙ c.in_default-lacking.is;
      stand = applied d' is c.requires.fresh set_all c.apply.ensures.old;
      same = c.apply.ensures.old;
    } in
    record {
      applied_to = applied_to;
      affected_found = affected-lacking applied_to
          c.affected-affected.ensures c.lacking-3.ensures;
    }

pub returns-in-Some-clause-locks : goal.returns-in-Some-clause-locks
returns-in-Some-clause-locks c = λ w r is.
    let found = set_found ((goal.at.returns-in-Some-clause-locks c).After-lacking) is in
    first-set c.args.topology.now w r _ (found ∙ c.in-Some.is)

pub returns-in-Some-clause-refusal : goal.returns-in-Some-clause-refusal
returns-in-Some-clause-refusal c = λ w r is none. asked-first _ _ (returns-in-Some-clause-locks c w r is) none

pub returns-in-Some-lacking-clause-locks : goal.returns-in-Some-lacking-clause-locks
returns-in-Some-lacking-clause-locks c = λ w r is.
    let known = named_known ((goal.at.returns-in-Some-lacking-clause-locks c).After-lacking-2) is in
    first-named c.args.topology.now w r _ known.has.none (known.named_found ∙ c.in-Some-lacking.is)

pub returns-in-Some-lacking-clause-refusal : goal.returns-in-Some-lacking-clause-refusal
returns-in-Some-lacking-clause-refusal c = λ w r is none. asked-first _ _ (returns-in-Some-lacking-clause-locks c w r is) none

pub apply-requires : goal.apply-requires
apply-requires c =
    let t = c.args.topology.now in
    let asked : IsAskedFor t c.args.resolved.now = c.requires.asked in
    let room : HasRoom c.args.states.now = record {
      crtcs = c.have_places.ensures.crtcs;
      planes = c.have_places.ensures.planes;
      conns = c.have_places.ensures.conns;
    } in
    let set_none : lacking c.args.states.now (set_group t asked.request) ≡ None =
    asked-lacking c.args.resolved.now c.args.states.now
    c.requires.device asked c.as_slice-sets.ensures.value c.objects_set-set.ensures (sym c.in_default.is ∙ c.lacking.ensures) in
    subst (All (IsApplicable c.args.states.now)) (sym c.as_slice-sets.ensures.value)
    (ready c.requires.device asked.asks room
    (covered c.args.states.now (set_group t asked.request) set_none))

pub returns-in-Some-lacking-2-clause-locks : goal.returns-in-Some-lacking-2-clause-locks
returns-in-Some-lacking-2-clause-locks c = λ w r is.
    let at = goal.at.returns-in-Some-lacking-2-clause-locks c in
    let all = all_known at.After-lacking-3 is (named_known at.After-lacking-2 is) in
    first-affected c.args.topology.now w r _ all.applied_to.has.none all.applied_to.none (all.affected_found ∙ c.in-Some-lacking-2.is)

pub returns-in-Some-lacking-2-clause-refusal : goal.returns-in-Some-lacking-2-clause-refusal
returns-in-Some-lacking-2-clause-refusal c = λ w r is none. asked-first _ _ (returns-in-Some-lacking-2-clause-locks c w r is) none

pub late_refusal-requires : goal.late_refusal-requires
late_refusal-requires c =
    let held : AreOfSoundWorld c.args.topology.now c.args.states.now = c.requires.held in
    looked_at-in_range c.args.topology.now c.apply.new.states c.union-touched.result.planes
    (c.apply.ensures.in_range (count_of c.args.topology.now Plane)
    (fresh-in_range held.sound held.old c.requires.fresh))

-- What is known once nothing is lacking

record Known (t : Topology) (w : World) (r : Request) (resolved : Resolved) (d d' : Duplicates) (named : ℕ) (touched : Mask) : Type 0 where
  applied_to : HasApplied t w r resolved d d' named
  none : lacking d (affected_group t w r) ≡ None
  touched_is : touched ≡ touched_by t w r

known : (c : After-union-touched) (w : World) (r : Request) → IsOfRequest c.args.topology.now w r c.args.resolved.now c.args.states.now
    → AllKnown c.args.topology.now w r c.args.resolved.now c.args.states.now c.apply.new.states c.named-named.result c.lacking-3.result
    → Known c.args.topology.now w r c.args.resolved.now c.args.states.now c.apply.new.states c.named-named.result c.union-touched.result
known c w r is all =
    let t = c.args.topology.now in
    let set_is : c.objects_set-set.result ≡ set_group t r =
    c.objects_set-set.ensures ∙ ap objects_set c.as_slice-sets.ensures.value
    ∙ objects_set-is t (look_up w) r c.args.resolved.now is.device is.asks in
    let affected_is : c.affected-affected.result ≡ affected_group t w r =
    affected-known all.applied_to
    c.affected-affected.ensures in
    record {
      applied_to = all.applied_to;
      none = all.affected_found ∙ c.in_default-lacking-2.is;
      touched_is = touched-known t w r _ _ _ _ _ _ set_is all.applied_to.named_is c.only_crtcs-2.ensures affected_is c.union.ensures
          c.union-touched.ensures;
    }

pub returns-in-Some-late_refusal-clause-locks : goal.returns-in-Some-late_refusal-clause-locks
returns-in-Some-late_refusal-clause-locks c = λ w r is.
    let at = goal.at.returns-in-Some-late_refusal-clause-locks c in
    let known = known at.After-union-touched w r is (all_known at.After-lacking-3 is (named_known at.After-lacking-2 is)) in
    first-affected c.args.topology.now w r _ known.applied_to.has.none known.applied_to.none known.none

pub returns-in-None-clause-locks : goal.returns-in-None-clause-locks
returns-in-None-clause-locks c = λ w r is.
    let at = goal.at.returns-in-None-clause-locks c in
    let known = known at.After-union-touched w r is (all_known at.After-lacking-3 is (named_known at.After-lacking-2 is)) in
    first-affected c.args.topology.now w r _ known.applied_to.has.none known.applied_to.none known.none

pub returns-in-Some-late_refusal-clause-refusal : goal.returns-in-Some-late_refusal-clause-refusal
returns-in-Some-late_refusal-clause-refusal c = λ w r is none.
    let at = goal.at.returns-in-Some-late_refusal-clause-refusal c in
    let known = known at.After-union-touched w r is (all_known at.After-lacking-3 is (named_known at.After-lacking-2 is)) in
    let found = rw c.of_request.ensures at c.late_refusal.ensures in
    refusal-known known.applied_to known.none known.touched_is c.as_slice.ensures.value c.crtcs_fenced.ensures
    (ap refusal_number (sym c.in-Some-late_refusal.is) ∙ found)

pub returns-in-None-clause-refusal : goal.returns-in-None-clause-refusal
returns-in-None-clause-refusal c = λ w r is none.
    let at = goal.at.returns-in-None-clause-refusal c in
    let known = known at.After-union-touched w r is (all_known at.After-lacking-3 is (named_known at.After-lacking-2 is)) in
    let found = rw c.of_request.ensures at c.late_refusal.ensures in
    refusal-known known.applied_to known.none known.touched_is c.as_slice.ensures.value c.crtcs_fenced.ensures
    (ap refusal_number (sym c.in-None.is) ∙ found)

pub returns-in-None-clause-checked : goal.returns-in-None-clause-checked
returns-in-None-clause-checked c = λ w r is.
    let at = goal.at.returns-in-None-clause-checked c in
    let known = known at.After-union-touched w r is (all_known at.After-lacking-3 is (named_known at.After-lacking-2 is)) in
    let stand = known.applied_to.stand in
    record { old = stand.old; new = stand.new; named = known.applied_to.named_is; touched = known.touched_is }
