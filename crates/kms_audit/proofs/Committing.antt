-- A command that is executed on the walk: whether it is entered, and what is noted of it.
use Rattle.std.proofs.Common.{◌≡◌, ℕ, ◌≤◌, Bool, true, false, [], ◌∷◌, ◌++◌, length, Some, None, refl, sym, ap, ◌∙◌, subst}
use Rattle.std.proofs.lemmas.Bool.{and_left, and_right, cond-true, le-ltb}
use Rattle.std.specs.Prelude.{is_none, nat_lt, not}
use Rattle.kms_audit.proofs.Accepted.{kept-executed}
use Rattle.kms_audit.proofs.Executions.{committed-executed, committed-world, entered-request}
use Rattle.kms_audit.specs.declared.latches.Showing.{Showing}
use Rattle.kms_audit.specs.declared.walk.Walk.{Walk}
use Rattle.kms_audit.specs.Framed.{AreAllKept}
use Rattle.kms_audit.specs.Latching.{AreWithin, ShowsAll}
use Rattle.kms_audit.specs.Owned.{owner}
use Rattle.kms_audit.specs.Touching.{is_touched_in, last_in, noted}
use Rattle.kms_audit.specs.Walked.{IsEntered, IsNoted, NotesNothing}
use Rattle.kms_model.proofs.MaskLemmas.{has_bit-mask_below}
use Rattle.kms_model.specs.declared.objects.Kind.TheVariants.{Crtc}
use Rattle.kms_model.specs.declared.objects.Topology.{Topology}
use Rattle.kms_model.specs.declared.replies.Reply.{Reply}
use Rattle.kms_model.specs.declared.replies.Reply.TheVariants as reply
use Rattle.kms_model.specs.declared.reports.Report.{Report}
use Rattle.kms_model.specs.declared.scripts.Command.{Command}
use Rattle.kms_model.specs.declared.scripts.Command.TheVariants as command
use Rattle.kms_model.specs.declared.scripts.Request.{Request}
use Rattle.kms_model.specs.declared.states.Mask.{Mask}
use Rattle.kms_model.specs.declared.worlds.World.{World}
use Rattle.kms_model.specs.Device.Execution.{Executed, answer, commit, committed, execute}
use Rattle.kms_model.specs.Device.Masks.{has_bit}
use Rattle.kms_model.specs.Device.Objects.{object_id}
use Rattle.kms_model.specs.Device.Serial.{is_accepted}
use Rattle.kms_model.specs.Machine.Steps.{is_making}
use Rattle.kms_model.specs.Report.RightAnswers.{is_entered_in}
use Rattle.kms_model.specs.Request.Apply.{after}
use Rattle.kms_model.specs.Request.Flags.{is_test}
use Rattle.kms_model.specs.Request.Named.{names}
use Rattle.kms_model.specs.Request.Touched.{named_by, named_set, touched_by}
use Rattle.kms_model.specs.Request.Verdict.{verdict}
use Rattle.kms_serial.specs.Commands.{Grows, NamesWhereCommitted}

-- a request that the verdict refuses is not entered
pub refused-request : (t : Topology) (w : World) (client : ℕ) (q : Request) → is_none (verdict t w q) ≡ false
    → false ≡ is_entered_in t w client (Some (command.Atomic q))
refused-request t w client q e = sym (entered-request t w client q ∙ and_left (is_none (verdict t w q)) (not (is_test q.flags)) e)

-- an accepted test tells that it was one
tested-executed : (t : Topology) (w : World) (client : ℕ) (q : Request) → verdict t w q ≡ None → is_test q.flags ≡ true
    → execute t w client (command.Atomic q) ≡ answer w reply.Tested
unfolding execute
tested-executed t w client q none test =
    ap (commit t w client q) none ∙ cond-true (is_test q.flags) (answer w reply.Tested) (committed t w client q) test

module _ (t : Topology) (w v : World) (client : ℕ) (q : Request) (told : Reply) (none : verdict t w q ≡ None)
    (executed : execute t w client (command.Atomic q) ≡ record { world = v; reply = told }) where
  -- what is told of it as no commit is not entered
  pub untold-request : ((k : ℕ) → told ≡ reply.Commit k → ⊥) → false ≡ is_entered_in t w client (Some (command.Atomic q))
  untold-request apart = by_test (is_test q.flags) refl where
    by_test : (b : Bool) → is_test q.flags ≡ b → false ≡ is_entered_in t w client (Some (command.Atomic q))
    by_test true e = sym (entered-request t w client q ∙ and_right (is_none (verdict t w q)) (not (is_test q.flags)) (ap not e))
    by_test false e =
        absurd (apart w.commits
        (sym (ap (λ (x : Executed). x.reply) executed) ∙ ap (λ (x : Executed). x.reply) (committed-executed t w client q none e)))

  module _ (k : ℕ) (is : told ≡ reply.Commit k) where
    no_test : is_test q.flags ≡ false
    no_test = by_test (is_test q.flags) refl where
      by_test : (b : Bool) → is_test q.flags ≡ b → b ≡ false
      by_test false e = refl
      by_test true e =
          let apart : reply.Tested ≡ reply.Commit k =
          sym (ap (λ (x : Executed). x.reply) (tested-executed t w client q none e)) ∙ (ap (λ (x : Executed). x.reply) executed ∙ is) in
          absurd cc

    pub told-entered : true ≡ is_entered_in t w client (Some (command.Atomic q))
    told-entered = sym (ap (λ (x : Executed). is_accepted x.reply) executed ∙ ap is_accepted is)

    -- its number is that of the next commit
    pub told-number : k ≡ w.commits
    told-number =
        let same : reply.Commit w.commits ≡ reply.Commit k =
        sym (ap (λ (x : Executed). x.reply) (committed-executed t w client q none no_test))
        ∙ (ap (λ (x : Executed). x.reply) executed ∙ is) in
        cc

    values : v.values ≡ after w q
    values = ap (λ (x : Executed). x.world.values) (sym executed) ∙ (committed-world t w client q none no_test).values

    -- and it names what it names in the world before
    pub told-named : (n : ℕ) → NamesWhereCommitted t w v q told n → n ≡ named_by t w q
    told-named n named =
        subst (λ a. NamesWhereCommitted t w v q a n) is named ∙ ap (λ vs. named_set t w.values vs q.assigns) values

-- no CRTC beyond the device is named
pub named-out : (t : Topology) (w : World) (q : Request) (crtc : ℕ) → t.crtcs ≤ crtc → has_bit (named_by t w q) crtc ≡ false
named-out t w q crtc past =
    has_bit-mask_below (λ n. names w.values (after w q) q.assigns (object_id Crtc n)) t.crtcs crtc
    ∙ and_left (nat_lt crtc t.crtcs) (names w.values (after w q) q.assigns (object_id Crtc crtc)) (le-ltb crtc t.crtcs past)

-- what is kept of frames stays over the things behind a command
pub kept-behind : (t : Topology) (w v : World) (client : ℕ) (c : Command) (told : Reply) (showing : Showing)
    → execute t w client c ≡ record { world = v; reply = told } → AreAllKept w.things showing → AreAllKept v.things showing
kept-behind t w v client c told showing executed kept =
    subst (λ (x : Executed). AreAllKept x.world.things showing) executed (kept-executed t w client c showing kept)

-- The walk behind a command

-- a command that is not entered
pub not-entered : (r : Report) (client : ℕ) (c : Command) (old new : Walk)
    → false ≡ is_entered_in old.serial.topology old.serial.world client (Some c)
    → new.serial.topology ≡ old.serial.topology → new.highest ≡ old.highest → new.compared ≡ old.compared
    → IsEntered r client c old new false
not-entered r client c old new out topology highest compared = record {
  is_entered = out;
  world = λ e. absurd cc;
  topology = topology;
  grows = λ e. absurd cc;
  highest = highest;
  compared = compared;
  entry = λ e. absurd cc;
}

-- a request that is committed, and noted
pub commit-entered : (r : Report) (client : ℕ) (q : Request) (old new : Walk) (told : Reply) (k n : ℕ) (touched : Mask)
    → verdict old.serial.topology old.serial.world q ≡ None
    → execute old.serial.topology old.serial.world client (command.Atomic q) ≡ record { world = new.serial.world; reply = told }
    → told ≡ reply.Commit k → NamesWhereCommitted old.serial.topology old.serial.world new.serial.world q told n
    → new.serial.topology ≡ old.serial.topology → Grows old.serial.world new.serial.world
    → new.highest ≡ old.highest → new.compared ≡ old.compared → touched ≡ touched_by old.serial.topology old.serial.world q
    → ((object : ℕ) → last_in new.touches object ≡ noted (last_in old.touches object) (is_touched_in touched object) k)
    → new.owners ≡ old.owners ++ owner client q ∷ []
    → ShowsAll r.latches new.serial n k old.showing.tracks new.showing.tracks
    → AreWithin (length r.latches) new.showing → AreAllKept new.serial.world.things new.showing
    → IsEntered r client (command.Atomic q) old new true
commit-entered r client q old new told k n touched none executed is names_it topology grows highest compared spans touches
    owners tracks lines kept =
    let t = old.serial.topology in
    let w = old.serial.world in
    let number : k ≡ w.commits = told-number t w new.serial.world client q told none executed k is in
    let named : n ≡ named_by t w q = told-named t w new.serial.world client q told none executed k is n names_it in
    record {
      is_entered = told-entered t w new.serial.world client q told none executed k is;
      world = λ e. ap (λ (x : Executed). x.world) (sym executed);
      topology = topology;
      grows = λ e. grows;
      highest = highest;
      compared = compared;
      entry = λ e. record {
        touches = λ object.
            touches object
            ∙ (ap (λ m. noted (last_in old.touches object) (is_touched_in m object) k) spans
            ∙ ap (noted (last_in old.touches object) (is_touched_in (touched_by t w q) object)) number);
        owners = owners;
        tracks =
            subst (λ m. ShowsAll r.latches new.serial m w.commits old.showing.tracks new.showing.tracks) named
            (subst (λ j. ShowsAll r.latches new.serial n j old.showing.tracks new.showing.tracks) number tracks);
        lines = lines;
        kept = kept;
      };
    }

-- a command that makes or closes a thing is entered where it is accepted
entered_made : (c : Command) → is_making c ≡ true → (t : Topology) (w : World) (client : ℕ)
    → is_entered_in t w client (Some c) ≡ is_accepted (execute t w client c).reply
entered_made command.Wait e t w client = absurd cc
entered_made (command.Signal label) e t w client = absurd cc
entered_made c e t w client = refl

noted_made : (r : Report) (client : ℕ) (c : Command) (old new : Walk) → is_making c ≡ true → NotesNothing old new
    → IsNoted r client c old new
noted_made r client (command.Atomic q) old new e notes = absurd cc
noted_made r client c old new e notes = notes

pub made-entered : (r : Report) (client : ℕ) (c : Command) (old new : Walk) (told : Reply) (entered : Bool) → is_making c ≡ true
    → execute old.serial.topology old.serial.world client c ≡ record { world = new.serial.world; reply = told } → entered ≡ is_accepted told
    → new.serial.topology ≡ old.serial.topology → Grows old.serial.world new.serial.world → new.highest ≡ old.highest
    → new.compared ≡ old.compared
    → NotesNothing old new → IsEntered r client c old new entered
made-entered r client c old new told entered making executed is topology grows highest compared notes = record {
  is_entered =
      is
      ∙ (ap (λ (x : Executed). is_accepted x.reply) (sym executed)
      ∙ sym (entered_made c making old.serial.topology old.serial.world client));
  world = λ e. ap (λ (x : Executed). x.world) (sym executed);
  topology = topology;
  grows = λ e. grows;
  highest = highest;
  compared = compared;
  entry = λ e. noted_made r client c old new making notes;
}

-- a command that makes or closes a thing is none of the other three kinds
pub making-of : (c : Command) → ((q : Request) → c ≡ command.Atomic q → ⊥)
    → ((label : ℕ) → c ≡ command.Signal label → ⊥) → (c ≡ command.Wait → ⊥)
    → is_making c ≡ true
making-of (command.Atomic q) asks signals waits = absurd (asks q refl)
making-of (command.Signal label) asks signals waits = absurd (signals label refl)
making-of command.Wait asks signals waits = absurd (waits refl)
making-of c asks signals waits = refl
