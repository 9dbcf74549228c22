-- The walk behind an entry that is right.
use Rattle.std.proofs.Common.{◌≡◌, ℕ, ◌+◌, ◌-◌, ◌<◌, ◌≤◌, Bool, true, false, List, [], ◌∷◌, ◌++◌, length, take, Option, Some, None, refl}
use Rattle.std.proofs.Common.{sym, ap, ◌∙◌, subst, arith, inl, inr, add-one}
use Rattle.std.proofs.lemmas.Bool.{and_parts, cases_eq, eq-eqb, ne_eqb, not-true}
use Rattle.std.proofs.lemmas.List.{append-nil, get_or-set_other, get_or-set_same, length-set}
use Rattle.std.specs.Prelude.{◌&&◌, ◌⊎◌, is_none, not, slice_get, slice_index_or, slice_set, if◌then◌else◌}
use Rattle.kms_model.proofs.Facts.{none-is}
use Rattle.kms_audit.proofs.Entering.{is_as_entered, last_number-push, small-step}
use Rattle.kms_audit.proofs.Executions.{committed-executed, committed-world, entered-request, other-commits}
use Rattle.kms_audit.proofs.Firsts.{off-push}
use Rattle.kms_audit.proofs.Journals.{commits-other, commits-request, last_touch-other, last_touch-request, owners-other, owners-request}
use Rattle.kms_audit.proofs.Journals.{show-last}
use Rattle.kms_audit.proofs.Leasts.{get-within}
use Rattle.kms_audit.proofs.Tracks.{track-last}
use Rattle.kms_audit.specs.declared.frames.KeptDigest.{KeptDigest}
use Rattle.kms_audit.specs.declared.latches.Showing.{Showing}
use Rattle.kms_audit.specs.declared.walk.Walk.{Walk}
use Rattle.kms_audit.specs.Framed.{AreAllKept, IsKept}
use Rattle.kms_audit.specs.Latching.{AreTracks, AreWithin, no_track, pictured_now, track_of, track_on, track_with}
use Rattle.kms_audit.specs.Owned.{AreOwners}
use Rattle.kms_audit.specs.Touching.{TellTouches, is_touched_in, last_in, noted}
use Rattle.kms_audit.specs.Compared.{AreCompared}
use Rattle.kms_audit.specs.Walked.{AreCounted, IsEntered, IsKeptAt, IsNextWalk, IsNoted, NotesCommit, NotesNothing, is_above_last}
use Rattle.kms_audit.specs.Walked.{last_number}
use Rattle.kms_laws.proofs.Composed.{can-stays}
use Rattle.kms_laws.proofs.FramesStay.{frame-stays}
use Rattle.kms_laws.proofs.Staying.{Stay, stay-execute}
use Rattle.kms_model.proofs.JournalLemmas.{serial_last}
use Rattle.kms_model.proofs.MaskLemmas.{has_bit-below}
use Rattle.kms_model.specs.declared.objects.Kind.TheVariants.{Crtc}
use Rattle.kms_model.specs.declared.objects.Topology.{Topology}
use Rattle.kms_model.specs.declared.reports.Report.{Report}
use Rattle.kms_model.specs.declared.scripts.Command.{Command}
use Rattle.kms_model.specs.declared.scripts.Command.TheVariants as command
use Rattle.kms_model.specs.declared.scripts.Request.{Request}
use Rattle.kms_model.specs.declared.scripts.Script.{Script}
use Rattle.kms_model.specs.declared.worlds.Thing.{Thing}
use Rattle.kms_model.specs.declared.worlds.World.{World}
use Rattle.kms_model.specs.Device.Execution.{Executed, committed, execute}
use Rattle.kms_model.specs.Device.Masks.{has_bit}
use Rattle.kms_model.specs.Device.Objects.{object_id}
use Rattle.kms_model.specs.Device.Serial.{Entry, Pictured, command_of, execute_in, pictured, serial, show, shown_by, shown_in}
use Rattle.kms_model.specs.Device.World.{start}
use Rattle.kms_model.specs.Firsts.{listed}
use Rattle.kms_model.specs.Machine.Commits.{has_number, lockable}
use Rattle.kms_model.specs.Machine.State.{request_in}
use Rattle.kms_model.specs.Report.RightAnswers.{commits_of, entries_in, entry_is_right, first_off, is_entered_in, last_touch}
use Rattle.kms_model.specs.Report.SeenReport.{digest_shown}
use Rattle.kms_model.specs.Request.Apply.{after}
use Rattle.kms_model.specs.Request.Flags.{is_test}
use Rattle.kms_model.specs.Request.Named.{names}
use Rattle.kms_model.specs.Request.Touched.{named_by, touched_by, touches}
use Rattle.kms_model.specs.Request.Verdict.{verdict}

-- What is noted of a command

-- a request, of which all is noted, or another command, of which nothing is
abbrev NotesKind : Report → ℕ → Command → Walk → Walk → Type 0
NotesKind r client c old new =
    ((q : Request) × ((c ≡ command.Atomic q) × NotesCommit r client q old new)) ⊎ ((request_in (Some c) ≡ None) × NotesNothing old new)

kind_of_entry : (r : Report) (client : ℕ) (c : Command) (old new : Walk) → IsNoted r client c old new → NotesKind r client c old new
kind_of_entry r client (command.Atomic q) old new n = inl (q, (refl, n))
kind_of_entry r client c old new n = inr (refl, n)

-- a command that is no request shows nothing
shows_nothing : (t : Topology) (crtc : ℕ) (w : World) (client : ℕ) (c : Command) → request_in (Some c) ≡ None
    → shown_in t crtc w client (Some c) ≡ []
shows_nothing t crtc w client (command.Atomic q) e = absurd cc
shows_nothing t crtc w client c e = refl

-- a commit shows its picture on each CRTC that it names
shows_named : (t : Topology) (crtc : ℕ) (w : World) (client : ℕ) (q : Request) → verdict t w q ≡ None → is_test q.flags ≡ false
    → shown_in t crtc w client (Some (command.Atomic q))
    ≡ (if names w.values (after w q) q.assigns crtc then pictured t
    (execute t w client (command.Atomic q)).world crtc w.commits ∷ [] else [])
shows_named t crtc w client q none no_test =
    let same = committed-executed t w client q none no_test in
    ap (λ (x : Executed). listed (shown_by t crtc w.values (command.Atomic q) x)) same
    ∙ (ap (λ vs. listed (if names w.values vs q.assigns crtc then Some
    (pictured t (committed t w client q).world crtc w.commits) else None)) values
    ∙ (picked (names w.values (after w q) q.assigns crtc)
    ∙ ap (λ (x : Executed). if names w.values (after w q) q.assigns crtc then pictured t x.world crtc w.commits ∷ [] else []) (sym same)))
  where
    values : (committed t w client q).world.values ≡ after w q
    values = subst (λ (x : Executed). x.world.values ≡ after w q) (committed-executed t w client q none no_test)
        (committed-world t w client q none no_test).values

    picked : (b : Bool) → listed (if b then Some (pictured t (committed t w client q).world crtc w.commits) else None)
        ≡ (if b then pictured t (committed t w client q).world crtc w.commits ∷ [] else [])
    picked true = refl
    picked false = refl

-- What is kept of frames

one_kept : (old new : List Thing) → Stay old new → (k : KeptDigest) → IsKept old k → IsKept new k
one_kept old new stay k kept = record {
  can = can-stays old new stay k.picture kept.can;
  digest = kept.digest ∙ ap (digest_shown k.picture) (sym (frame-stays old new stay k.picture kept.can));
}

pub kept-executed : (t : Topology) (w : World) (client : ℕ) (c : Command) (showing : Showing) → AreAllKept w.things showing
    → AreAllKept (execute t w client c).world.things showing
kept-executed t w client c showing kept crtc l few is =
    let two = kept crtc l few is in let stay = stay-execute t w client c in
    record {
      later = one_kept w.things (execute t w client c).world.things stay l.later two.later;
      earlier = one_kept w.things (execute t w client c).world.things stay l.earlier two.earlier;
    }

-- The walk behind a command that was accepted

module _ (s : Script) (r : Report) (place : ℕ) (old new : Walk) (e : Entry) (c : Command) (kept : IsKeptAt s r place old)
    (is : command_of s e ≡ Some c) (there : slice_get (entries_in r) place ≡ Some e)
    (more : take (place + 1) (entries_in r) ≡ take place (entries_in r) ++ e ∷ [])
    (above : is_above_last (last_number (take place (entries_in r)) e.client) e.command ≡ true)
    (entered : IsEntered r e.client c old new true) where
  abbrev front : List Entry
  front = take place (entries_in r)

  abbrev behind : List Entry
  behind = front ++ e ∷ []

  abbrev before : World
  before = serial s front

  -- in the words of the journal
  accepted : true ≡ is_entered_in s.topology before e.client (Some c)
  accepted =
      entered.is_entered
      ∙ (ap (λ t. is_entered_in t old.serial.world e.client (Some c)) kept.at.stands.topology
      ∙ ap (λ w. is_entered_in s.topology w e.client (Some c)) kept.at.stands.world)

  right : entry_is_right s front e ≡ true
  right = sym (is_as_entered s front e c true is kept.right above accepted)

  executed : new.serial.world ≡ (execute s.topology before e.client c).world
  executed =
      entered.world refl
      ∙ (ap (λ t. (execute t old.serial.world e.client c).world) kept.at.stands.topology
      ∙ ap (λ w. (execute s.topology w e.client c).world) kept.at.stands.world)

  world_next : new.serial.world ≡ serial s behind
  world_next = executed ∙ sym (serial_last s (start s.topology) front e ∙ ap (execute_in s.topology before e.client) is)

  noted_kind : NotesKind r e.client c old new
  noted_kind = kind_of_entry r e.client c old new (entered.entry refl)

  -- a request
  module _ (q : Request) (is_request : c ≡ command.Atomic q) (notes : NotesCommit r e.client q old new)
      (touched : (object : ℕ) → has_number (lockable s.topology) object ≡ true
      → is_touched_in (touched_by s.topology before q) object ≡ touches s.topology before q object) where
    of_request : command_of s e ≡ Some (command.Atomic q)
    of_request = is ∙ ap Some is_request

    passes : (is_none (verdict s.topology before q) && not (is_test q.flags)) ≡ true
    passes =
        sym (entered-request s.topology before e.client q)
        ∙ (ap (λ x. is_entered_in s.topology before e.client (Some x)) (sym is_request) ∙ sym accepted)

    no_refusal : verdict s.topology before q ≡ None
    no_refusal = none-is (verdict s.topology before q) (and_parts (is_none (verdict s.topology before q)) (not (is_test q.flags)) passes).0

    no_test : is_test q.flags ≡ false
    no_test = not-true (is_test q.flags) (and_parts (is_none (verdict s.topology before q)) (not (is_test q.flags)) passes).1

    executed_request : new.serial.world ≡ (execute s.topology before e.client (command.Atomic q)).world
    executed_request = executed ∙ ap (λ x. (execute s.topology before e.client x).world) is_request

    commits_before : old.serial.world.commits ≡ before.commits
    commits_before = ap (λ (w : World). w.commits) kept.at.stands.world

    counted_request : AreCounted s behind new.serial.world
    counted_request =
        ap (λ (w : World). w.commits) executed_request
        ∙ ((committed-world s.topology before e.client q no_refusal no_test).commits
        ∙ (ap (λ n. n + 1) (sym commits_before ∙ kept.counted)
        ∙ (add-one (length (commits_of s front)) ∙ ap length (sym (commits-request s front e q of_request)))))

    touches_request : TellTouches s behind new.touches
    touches_request object has =
        notes.touches object
        ∙ (ap (λ t. noted (last_in old.touches object) (is_touched_in (touched_by t old.serial.world q) object) old.serial.world.commits)
        kept.at.stands.topology
        ∙ (ap (λ w. noted (last_in old.touches object) (is_touched_in (touched_by s.topology w q) object) old.serial.world.commits)
        kept.at.stands.world
        ∙ (ap (λ b. noted (last_in old.touches object) b old.serial.world.commits) (touched object has)
        ∙ (ap (λ o. noted o (touches s.topology before q object) old.serial.world.commits) (kept.at.touches object has)
        ∙ (ap (noted (last_touch s front object) (touches s.topology before q object)) kept.counted
        ∙ sym (last_touch-request s front e q object of_request))))))

    owners_request : AreOwners s behind new.owners
    owners_request = notes.owners ∙ owners-request s front e q e.client old.owners of_request refl kept.owners

    -- what a CRTC shows
    abbrev named_on : ℕ → Bool
    named_on crtc = names before.values (after before q) q.assigns (object_id Crtc crtc)

    named_bit : (crtc : ℕ) → crtc < s.topology.crtcs → has_bit (named_by old.serial.topology old.serial.world q) crtc ≡ named_on crtc
    named_bit crtc few =
        ap (λ t. has_bit (named_by t old.serial.world q) crtc) kept.at.stands.topology
        ∙ (ap (λ w. has_bit (named_by s.topology w q) crtc) kept.at.stands.world
        ∙ has_bit-below (λ i. named_on i) s.topology.crtcs crtc few)

    pictured_next : (crtc : ℕ) → pictured_now new.serial crtc old.serial.world.commits
        ≡ pictured s.topology (execute s.topology before e.client (command.Atomic q)).world (object_id Crtc crtc) before.commits
    pictured_next crtc =
        ap (λ t. pictured t new.serial.world (object_id Crtc crtc) old.serial.world.commits) (entered.topology ∙ kept.at.stands.topology)
        ∙ (ap (λ w. pictured s.topology w (object_id Crtc crtc) old.serial.world.commits) executed_request
        ∙ ap (pictured s.topology (execute s.topology before e.client (command.Atomic q)).world (object_id Crtc crtc)) commits_before)

    shown_next : (crtc : ℕ) → show s behind (object_id Crtc crtc)
        ≡ show s front (object_id Crtc crtc)
        ++ (if named_on crtc then pictured s.topology (execute s.topology before e.client (command.Atomic q)).world
        (object_id Crtc crtc) before.commits ∷ [] else [])
    shown_next crtc =
        show-last s front e (object_id Crtc crtc)
        ∙ ap (λ ps. show s front (object_id Crtc crtc) ++ ps)
        (ap (shown_in s.topology (object_id Crtc crtc) before e.client) of_request
        ∙ shows_named s.topology (object_id Crtc crtc) before e.client q no_refusal no_test)

    tracks_request : s.topology.crtcs ≤ 4 → AreTracks s r behind new.showing
    tracks_request few crtc on =
        notes.tracks crtc (omega arith)
        ∙ (ap (λ b. if b then track_with r.latches crtc (pictured_now new.serial crtc old.serial.world.commits)
        (track_on old.showing.tracks crtc) else track_on old.showing.tracks crtc)
        (named_bit crtc on)
        ∙ (ap (λ p. if named_on crtc then track_with r.latches crtc p (track_on old.showing.tracks crtc) else track_on old.showing.tracks
        crtc) (pictured_next crtc)
        ∙ (ap (λ t. if named_on crtc then track_with r.latches crtc picture t else t) (kept.tracks crtc on)
        ∙ (by_named (named_on crtc)
        ∙ ap (track_of r.latches crtc (no_track r.latches crtc)) (sym (shown_next crtc)))))) where
          picture : Pictured
          picture = pictured s.topology (execute s.topology before e.client (command.Atomic q)).world (object_id Crtc crtc) before.commits

          by_named : (b : Bool)
              → (if b then track_with r.latches crtc picture
              (track_of r.latches crtc (no_track r.latches crtc) (show s front (object_id Crtc crtc)))
              else track_of r.latches crtc (no_track r.latches crtc) (show s front (object_id Crtc crtc)))
              ≡ track_of r.latches crtc (no_track r.latches crtc) (show s front (object_id Crtc crtc) ++ (if b then picture ∷ [] else []))
          by_named true = sym (track-last r.latches crtc (no_track r.latches crtc) (show s front (object_id Crtc crtc)) picture)
          by_named false = ap (track_of r.latches crtc (no_track r.latches crtc)) (sym (append-nil (show s front (object_id Crtc crtc))))

  -- another command
  module _ (none : request_in (Some c) ≡ None) (notes : NotesNothing old new) where
    no_request : request_in (command_of s e) ≡ None
    no_request = ap request_in is ∙ none

    counted_other : AreCounted s behind new.serial.world
    counted_other =
        ap (λ (w : World). w.commits) executed
        ∙ (other-commits s.topology before e.client c none
        ∙ (ap (λ (w : World). w.commits) (sym kept.at.stands.world)
        ∙ (kept.counted ∙ ap length (sym (commits-other s front e no_request)))))

    touches_other : TellTouches s behind new.touches
    touches_other object has =
        ap (λ t. last_in t object) notes.touches ∙ (kept.at.touches object has ∙ sym (last_touch-other s front e object no_request))

    owners_other : AreOwners s behind new.owners
    owners_other = notes.owners ∙ owners-other s front e old.owners no_request kept.owners

    tracks_other : AreTracks s r behind new.showing
    tracks_other crtc on =
        ap (λ (x : Showing). track_on x.tracks crtc) notes.showing
        ∙ (kept.tracks crtc on
        ∙ ap (track_of r.latches crtc (no_track r.latches crtc))
        (sym (show-last s front e (object_id Crtc crtc)
        ∙ (ap (λ ps. show s front (object_id Crtc crtc) ++ ps)
        (ap (shown_in s.topology (object_id Crtc crtc) before e.client) is
        ∙ shows_nothing s.topology (object_id Crtc crtc) before e.client c none)
        ∙ append-nil (show s front (object_id Crtc crtc))))))

    kept_other : AreAllKept new.serial.world.things new.showing
    kept_other =
        subst (λ (x : Showing). AreAllKept new.serial.world.things x) (sym notes.showing)
        (subst (λ (w : World). AreAllKept w.things old.showing) (sym (entered.world refl))
        (kept-executed old.serial.topology old.serial.world e.client c old.showing kept.kept))

  -- what is kept by the journal's list
  record IsMade (journal : List Entry) : Type 0 where
    touches : TellTouches s journal new.touches
    counted : AreCounted s journal new.serial.world
    owners : AreOwners s journal new.owners
    tracks : AreTracks s r journal new.showing

  made : s.topology.crtcs ≤ 4
      → ((q : Request) (object : ℕ) → has_number (lockable s.topology) object ≡ true
      → is_touched_in (touched_by s.topology before q) object ≡ touches s.topology before q object)
      → IsMade behind
  made few touched =
      elim noted_kind [
        | inl x ↦ record {
          touches = touches_request x.0 x.1.0 x.1.1 (touched x.0);
          counted = counted_request x.0 x.1.0 x.1.1 (touched x.0);
          owners = owners_request x.0 x.1.0 x.1.1 (touched x.0);
          tracks = tracks_request x.0 x.1.0 x.1.1 (touched x.0) few;
        }
        | inr x ↦ record {
          touches = touches_other x.0 x.1;
          counted = counted_other x.0 x.1;
          owners = owners_other x.0 x.1;
          tracks = tracks_other x.0 x.1;
        }
      ]

  lines_next : AreWithin (length r.latches) new.showing
  lines_next =
      elim noted_kind [
        | inl x ↦ x.1.1.lines
        | inr x ↦ subst (AreWithin (length r.latches)) (sym x.1.showing) kept.lines
      ]

  kept_next : AreAllKept new.serial.world.things new.showing
  kept_next = elim noted_kind [
    | inl x ↦ x.1.1.kept
    | inr x ↦ kept_other x.0 x.1
  ]

  -- the number of the last entry of each client
  module _ (some : 1 ≤ e.client) (most : e.client ≤ 16) where
    abbrev noted_highest : List (Option ℕ)
    noted_highest = slice_set new.highest (e.client - 1) (Some e.command)

    size_next : length noted_highest ≡ 16
    size_next = length-set new.highest (e.client - 1) (Some e.command) ∙ (ap length entered.highest ∙ kept.size)

    highest_next : (client : ℕ) → 1 ≤ client → client ≤ 16 → slice_index_or noted_highest (client - 1) None ≡ last_number behind client
    highest_next client least few =
        elim (cases_eq e.client client) [
          | inl own ↦ (
              let set : slice_index_or noted_highest (e.client - 1) None ≡ Some e.command =
              get_or-set_same new.highest (e.client - 1) (Some e.command) None (omega (arith, ap length entered.highest, kept.size)) in
              ap (λ n. slice_index_or noted_highest (n - 1) None) (sym own)
              ∙ (set ∙ sym (last_number-push front e client true (eq-eqb e.client client own))))
          | inr apart ↦ (
              let other : slice_index_or noted_highest (client - 1) None ≡ slice_index_or new.highest (client - 1) None =
              get_or-set_other new.highest (e.client - 1) (client - 1) (Some e.command) None (λ same. apart (omega arith)) in
              other
              ∙ (ap (λ h. slice_index_or h (client - 1) None) entered.highest
              ∙ (kept.highest client least few ∙ sym (last_number-push front e client false (ne_eqb e.client client apart)))))
        ]

    pub next-kept : s.topology.crtcs ≤ 4
        → ((q : Request) (object : ℕ) → has_number (lockable s.topology) object ≡ true
        → is_touched_in (touched_by s.topology before q) object ≡ touches s.topology before q object)
        → IsKeptAt s r (place + 1) (record new { highest = noted_highest })
    next-kept few touched =
        let all = subst IsMade (sym more) (made few touched) in
        record {
          within = omega (arith, get-within (entries_in r) place e there);
          right = subst (λ es. first_off (entry_is_right s) [] es ≡ None) (sym more)
              (off-push (entry_is_right s) [] front e kept.right right);
          at = record {
            device = kept.at.device;
            stands = record { topology = entered.topology ∙ kept.at.stands.topology; world = world_next ∙ ap (serial s) (sym more) };
            touches = all.touches;
          };
          small = small-step place old.serial.world new.serial.world kept.small (entered.grows refl);
          counted = all.counted;
          size = size_next;
          highest = λ client least most2. highest_next client least most2 ∙ ap (λ es. last_number es client) (sym more);
          owners = all.owners;
          tracks = all.tracks;
          lines = lines_next;
          kept = kept_next;
        }

    pub next-walk : AreCompared s r (place + 1) old.compared → s.topology.crtcs ≤ 4
        → ((q : Request) (object : ℕ) → has_number (lockable s.topology) object ≡ true
        → is_touched_in (touched_by s.topology before q) object ≡ touches s.topology before q object)
        → IsNextWalk s r place (record new { highest = noted_highest }) true
    next-walk compared few touched = record {
      entry = e;
      is_entry = there;
      is_right = sym right;
      walk = λ f. record { kept = next-kept few touched; compared = subst (AreCompared s r (place + 1)) (sym entered.compared) compared };
    }
