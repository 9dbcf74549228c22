-- A device sleeps and wakes: what both requests do, put together.
use Rattle.std.proofs.Common.{◌≡◌, ℕ, suc, ◌+◌, ◌<◌, Bool, true, false, cond, List, [], ◌∷◌, ◌++◌, length, map, reverse, Some, None}
use Rattle.std.proofs.Common.{append-nil, append_assoc, refl, sym, ap, ◌∙◌, subst, arith, inl}
use Rattle.std.specs.Prelude.{◌||◌, ◌==◌}
use Rattle.std.specs.List.{list_all}
use Rattle.std.proofs.lemmas.Bool.{ne_eqb}
use Rattle.std.proofs.lemmas.List.{length-reverse}
use Rattle.kms_model.specs.declared.objects.Kind.{Kind}
use Rattle.kms_model.specs.declared.objects.Kind.TheVariants as kind
use Rattle.kms_model.specs.declared.replies.Answered.{Answered}
use Rattle.kms_model.specs.declared.replies.Reply.TheVariants as reply
use Rattle.kms_model.specs.declared.replies.Step.{Step}
use Rattle.kms_model.specs.declared.scripts.Command.TheVariants as command
use Rattle.kms_model.specs.declared.scripts.Script.{Script}
use Rattle.kms_model.specs.declared.worlds.World.{World}
use Rattle.kms_model.specs.Device.Objects.{count_of, object_id}
use Rattle.kms_model.specs.Device.Execution.{execute}
use Rattle.kms_model.specs.Device.Serial.{Entry, Pictured, command_of, execute_in, pictured, serial, shown_in}
use Rattle.kms_model.specs.Device.States.{crtc_at}
use Rattle.kms_model.specs.Headline.{HeadlineHolds, entry_answered, history_journal, latched_pictures, shown_pictures}
use Rattle.kms_model.specs.Machine.Commits.{is_cleaned}
use Rattle.kms_model.specs.Machine.Histories.{at, commit_numbers, journal, latched, replies}
use Rattle.kms_model.specs.Machine.State.{Machine}
use Rattle.kms_model.specs.Order.SleepAndWake.{IsBack, SleepAndWake, SleepsAndWakes, off_and_back, off_answer, on_answer}
use Rattle.kms_model.specs.Order.Suspending.{has_mode_at, off_request, on_request}
use Rattle.kms_model.specs.Promises.{DeadNamesAFence, InEachHistory}
use Rattle.kms_model.specs.Request.Named.{is_routed, names}
use Rattle.kms_model.specs.Request.Verdict.{verdict}
use Rattle.kms_model.specs.Script.Longer.{IsSlept, commands_of_last, extended_after, last_client, world_after}
use Rattle.kms_model.specs.Script.WellFormed.{IsWellFormed}
use Rattle.kms_model.proofs.Items.{ids-has, list_all-from}
use Rattle.kms_laws.specs.Ends.{EndsOver, FinishedIsOver, OneIsOver}
use Rattle.kms_laws.specs.Laws.{AllShownOnceCleaned, HasSerialWorld}
use Rattle.kms_laws.specs.Longer.{AddedIsLonger, HistoriesStay, StaysHistory}
use Rattle.kms_laws.specs.Once.{EachHasItsLabel}
use Rattle.kms_laws.specs.TailsLeft.{CleanedTailsAreOver, TailsGetShorter}
use Rattle.kms_laws.proofs.Present.{reverse_more}
use Rattle.kms_suspend.specs.declared.parts.Way.TheVariants as Way
use Rattle.kms_suspend.specs.Laws.{LongerIsWellFormed}
use Rattle.kms_suspend.specs.Parts.{is_in_use}
use Rattle.kms_suspend.proofs.Asleep.{IsAsleep, assigns_are, asleep, off_pictures}
use Rattle.kms_suspend.proofs.Awake.{IsAwake, awake, back_are, same_crtc, same_picture}
use Rattle.kms_suspend.proofs.BothRequests.{asleep_after, awake_after, further_at, quiet_at, request_at, there_at, world_at}
use Rattle.kms_suspend.proofs.Drained.{known}
use Rattle.kms_suspend.proofs.LastValues.{in_range}
use Rattle.kms_suspend.proofs.NamedCrtcs.{StaysOn, named-first, named-last, named-none}
use Rattle.kms_suspend.proofs.Shown.{executed, plainly, shown-named, shown-two}
use Rattle.kms_suspend.proofs.Sleeps.{Known, accepted, both_done, drained}
use Rattle.kms_suspend.proofs.Stages.{Stage}
use Rattle.kms_suspend.proofs.StaysOn.{on_other}

-- two items more at the front of what is turned round
reversed_two : {A : Type 0} (x y : A) (xs : List A) → reverse (x ∷ y ∷ xs) ≡ reverse xs ++ y ∷ x ∷ []
reversed_two x y xs = reverse_more x (y ∷ xs) ∙ (ap (λ ys. ys ++ x ∷ []) (reverse_more y xs) ∙ append_assoc (reverse xs) (y ∷ []) (x ∷ []))

neither : (a b : Bool) → a ≡ false → b ≡ false → (a || b) ≡ false
neither true b x y = absurd cc
neither false b x y = y

module _ (s : Script) (h slept : List Step) (formed : IsWellFormed s) (is : IsSlept s h slept) (known : Known s h)
    (longer_formed : IsWellFormed (extended_after s h)) (stay : StaysHistory s (extended_after s h) h)
    (ends : EndsOver (extended_after s h) h slept)
    (shorter : TailsGetShorter) (over : CleanedTailsAreOver) (dies : DeadNamesAFence)
    (headline : HeadlineHolds) (shown : AllShownOnceCleaned) (serial_world : InEachHistory HasSerialWorld) where
  abbrev longer : Script
  longer = extended_after s h

  abbrev w : World
  w = world_after s h

  abbrev n : ℕ
  n = length (commands_of_last s.clients)

  abbrev k : ℕ
  k = length (at s h).device.commits

  done : Stage longer (last_client s) n k (request_at s.topology w) (world_at s.topology w) (at s h) 2 (at longer slept)
  done = both_done s h slept formed is known longer_formed stay ends shorter over dies

  -- Journal and answers

  -- the entries of both, with the numbers of `Stages`
  abbrev first : Entry
  first = record { client = last_client s; command = n + 1 + 0 }

  abbrev second : Entry
  second = record { client = last_client s; command = n + 1 + 1 }

  journal_then : history_journal longer slept ≡ history_journal s h ++ first ∷ second ∷ []
  journal_then = ap reverse done.journal ∙ reversed_two second first (at s h).records.journal

  first_is : first ≡ entry_answered (off_answer s h)
  first_is = let e : n + 1 + 0 ≡ n + 1 = omega arith in λ i. record { client = last_client s; command = e i }

  second_is : second ≡ entry_answered (on_answer s h)
  second_is = let e : n + 1 + 1 ≡ n + 2 = omega arith in λ i. record { client = last_client s; command = e i }

  pub journal_now : history_journal longer slept ≡ history_journal s h ++ entry_answered
      (off_answer s h) ∷ entry_answered (on_answer s h) ∷ []
  journal_now = journal_then ∙ (λ i. history_journal s h ++ first_is i ∷ second_is i ∷ [])

  abbrev first_answer : Answered
  first_answer = record { client = last_client s; command = n + 1 + 0; place = length (at s h).records.journal; reply = reply.Commit k }

  abbrev second_answer : Answered
  second_answer = record {
    client = last_client s;
    command = n + 1 + 1;
    place = suc (length (at s h).records.journal);
    reply = reply.Commit (suc k);
  }

  first_answered : first_answer ≡ off_answer s h
  first_answered =
      let e : n + 1 + 0 ≡ n + 1 = omega arith in
      let place = sym (length-reverse (at s h).records.journal) in
      λ i. record { client = last_client s; command = e i; place = place i; reply = reply.Commit k }

  second_answered : second_answer ≡ on_answer s h
  second_answered =
      let e : n + 1 + 1 ≡ n + 2 = omega arith in
      let same = length-reverse (at s h).records.journal in
      let place : suc (length (at s h).records.journal) ≡ length (history_journal s h) + 1 = omega (arith, same) in
      let next : suc k ≡ k + 1 = omega arith in
      λ i. record { client = last_client s; command = e i; place = place i; reply = reply.Commit (next i) }

  pub answers_now : replies (at longer slept) ≡ replies (at s h) ++ off_answer s h ∷ on_answer s h ∷ []
  answers_now =
      ap reverse done.replies
      ∙ reversed_two second_answer first_answer (at s h).records.replies
      ∙ (λ i. replies (at s h) ++ first_answered i ∷ second_answered i ∷ [])

  -- Values

  abbrev off_world : World
  off_world = asleep_after s.topology w

  abbrev on_world : World
  on_world = awake_after s.topology w

  sleeps : IsAsleep s.topology w.things off_world.values
  sleeps = asleep s.topology w formed.device known.lawful

  wakes : IsAwake s.topology w.things w.values on_world.values
  wakes = awake s.topology w formed.device known.lawful known.framed known.labelled is.none_closed

  pub back_now : IsBack s.topology w (world_after longer slept)
  back_now = subst (IsBack s.topology w) (sym done.world) (record {
    things = refl;
    values = wakes.values;
    modeless = wakes.modeless;
    modes = λ crtc low. wakes.modes (object_id kind.Crtc crtc) (ids-has s.topology kind.Crtc crtc low);
  })

  -- Pictures

  -- what is on a CRTC without a mode, before and after each request: nothing that is set
  away : (crtc : ℕ) → (x : ℕ) → (x ≡ object_id kind.Crtc crtc → ⊥) → (x == object_id kind.Crtc crtc) ≡ false
  away crtc x ne = ne_eqb x (object_id kind.Crtc crtc) ne

  was_apart : (crtc : ℕ) → crtc < s.topology.crtcs → has_mode_at w (object_id kind.Crtc crtc) ≡ false
      → (q : Kind) (i : ℕ) → is_routed q ≡ true → i < count_of s.topology q → is_in_use w q i ≡ true
      → (crtc_at w.values (object_id q i) == object_id kind.Crtc crtc) ≡ false
  was_apart crtc low none q i routed within used =
      away crtc (crtc_at w.values (object_id q i)) (on_other s.topology w known.lawful.sound q i crtc routed within low used none)

  off_apart : (crtc : ℕ) (q : Kind) (i : ℕ) → is_routed q ≡ true → i < count_of s.topology q
      → (crtc_at off_world.values (object_id q i) == object_id kind.Crtc crtc) ≡ false
  off_apart crtc kind.Plane i routed within =
      ap (λ x. x == object_id kind.Crtc crtc) (sleeps.planes (object_id kind.Plane i) (ids-has s.topology kind.Plane i within)).0
      ∙ away crtc 0 (λ (e : 0 ≡ object_id kind.Crtc crtc). absurd (omega (arith, e)))
  off_apart crtc kind.Conn i routed within =
      ap (λ x. x == object_id kind.Crtc crtc) (sleeps.conns (object_id kind.Conn i) (ids-has s.topology kind.Conn i within))
      ∙ away crtc 0 (λ (e : 0 ≡ object_id kind.Crtc crtc). absurd (omega (arith, e)))
  off_apart crtc kind.Crtc i routed within = absurd cc
  off_apart crtc kind.Enc i routed within = absurd cc

  off_stays : (crtc : ℕ) → crtc < s.topology.crtcs → has_mode_at w (object_id kind.Crtc crtc) ≡ false
      → StaysOn Way.Off s.topology w formed.device w.values off_world.values (object_id kind.Crtc crtc)
  off_stays crtc low none q i routed within used = neither _ _ (was_apart crtc low none q i routed within used)
      (off_apart crtc q i routed within)

  back_stays : (crtc : ℕ) → crtc < s.topology.crtcs → has_mode_at w (object_id kind.Crtc crtc) ≡ false
      → StaysOn Way.Back s.topology w formed.device off_world.values on_world.values (object_id kind.Crtc crtc)
  back_stays crtc low none q i routed within used =
      neither _ _ (off_apart crtc q i routed within)
      (ap (λ x. x == object_id kind.Crtc crtc) (same_crtc s.topology w.things w.values on_world.values wakes (object_id q i))
      ∙ was_apart crtc low none q i routed within used)

  off_names : (crtc : ℕ) → crtc < s.topology.crtcs → (b : Bool) → has_mode_at w (object_id kind.Crtc crtc) ≡ b
      → names w.values off_world.values (off_request s.topology w).assigns (object_id kind.Crtc crtc) ≡ b
  off_names crtc low true has =
      ap (λ assigns. names w.values off_world.values assigns (object_id kind.Crtc crtc))
      (assigns_are s.topology w formed.device known.lawful)
      ∙ named-last Way.Off s.topology w formed.device w.values off_world.values kind.Plane crtc _ low has (inl refl)
  off_names crtc low false has =
      ap (λ assigns. names w.values off_world.values assigns (object_id kind.Crtc crtc))
      (assigns_are s.topology w formed.device known.lawful)
      ∙ named-none Way.Off s.topology w formed.device w.values off_world.values kind.Plane kind.Crtc crtc low has (off_stays crtc low has)

  on_names : (crtc : ℕ) → crtc < s.topology.crtcs → (b : Bool) → has_mode_at w (object_id kind.Crtc crtc) ≡ b
      → names off_world.values on_world.values (on_request s.topology w).assigns (object_id kind.Crtc crtc) ≡ b
  on_names crtc low true has =
      ap (λ assigns. names off_world.values on_world.values assigns (object_id kind.Crtc crtc))
      (back_are s.topology w formed.device known.lawful known.framed known.labelled is.none_closed)
      ∙ named-first Way.Back s.topology w formed.device off_world.values on_world.values kind.Plane crtc _ low has (inl refl)
  on_names crtc low false has =
      ap (λ assigns. names off_world.values on_world.values assigns (object_id kind.Crtc crtc))
      (back_are s.topology w formed.device known.lawful known.framed known.labelled is.none_closed)
      ∙ named-none Way.Back s.topology w formed.device off_world.values on_world.values kind.Crtc kind.Plane crtc low has
      (back_stays crtc low has)

  accepts_both : (i : ℕ) → i < 2 → verdict s.topology (world_at s.topology w i) (request_at s.topology w i) ≡ None
  accepts_both = accepted s h slept formed is known longer_formed stay ends shorter over dies

  -- the device of one thread does both
  first_step : execute s.topology w (last_client s)
      (command.Atomic (off_request s.topology w)) ≡ record { world = off_world; reply = reply.Commit w.commits }
  first_step =
      let further = further_at s.topology w (last_client s) 0 (omega arith) in
      executed longer w (last_client s) (off_request s.topology w) (accepts_both 0 (omega arith)) (quiet_at s.topology w 0).test
      ∙ (λ i. record { world = further i; reply = reply.Commit w.commits })

  second_step : execute s.topology off_world (last_client s)
      (command.Atomic (on_request s.topology w)) ≡ record { world = on_world; reply = reply.Commit (w.commits + 1) }
  second_step =
      let further = further_at s.topology w (last_client s) 1 (omega arith) in
      executed longer off_world (last_client s) (on_request s.topology w) (accepts_both 1 (omega arith)) (quiet_at s.topology w 1).test
      ∙ (λ i. record { world = further i; reply = reply.Commit (w.commits + 1) })

  -- and shows what each makes a CRTC with a mode show
  abbrev shown_off : ℕ → Bool → List Pictured
  shown_off crtc b = cond b (pictured s.topology off_world (object_id kind.Crtc crtc) w.commits ∷ []) []

  abbrev shown_on : ℕ → Bool → List Pictured
  shown_on crtc b = cond b (pictured s.topology on_world (object_id kind.Crtc crtc) (w.commits + 1) ∷ []) []

  shown_both : (crtc : ℕ) → crtc < s.topology.crtcs → (b : Bool) → has_mode_at w (object_id kind.Crtc crtc) ≡ b
      → shown_in s.topology (object_id kind.Crtc crtc) w (last_client s) (command_of longer first)
      ++ shown_in s.topology (object_id kind.Crtc crtc) (execute_in s.topology w (last_client s) (command_of longer first)) (last_client s)
      (command_of longer second)
      ≡ shown_off crtc b ++ shown_on crtc b
  shown_both crtc low b has =
      let c = object_id kind.Crtc crtc in
      let one = there_at s w 0 (omega arith) in
      let two = there_at s w 1 (omega arith) in
      let off = shown-named longer c w off_world (last_client s) (off_request s.topology w) b first_step (off_names crtc low b has) in
      let on = shown-named longer c off_world on_world (last_client s) (on_request s.topology w) b second_step (on_names crtc low b has) in
      (λ i. shown_in s.topology c w (last_client s) (one i) ++ shown_in s.topology c
      (execute_in s.topology w (last_client s) (one i)) (last_client s) (two i))
      ∙ ((λ i. shown_in s.topology c w (last_client s) (Some (command.Atomic (off_request s.topology w)))
      ++ shown_in s.topology c (first_step i).world (last_client s) (Some (command.Atomic (on_request s.topology w))))
      ∙ (λ i. off i ++ on i))

  serial_before : serial longer (history_journal s h) ≡ w
  serial_before =
      subst (λ (m : Machine). serial longer (journal m) ≡ m.device.world) stay.machine
      (serial_world longer h longer_formed stay.history).is_serial

  -- what was shown before is all that was latched
  shown_before : (crtc : ℕ) → crtc < s.topology.crtcs → shown_pictures longer (history_journal s h) crtc ≡ latched_pictures s h crtc
  shown_before crtc low =
      let cleaned : list_all (is_cleaned (at s h).device) (commit_numbers (at s h)) ≡ true =
      list_all-from (is_cleaned (at s h).device) (commit_numbers (at s h))
      (λ j in_them. known.cleaned j (let within = in_range 0 k j in_them in omega (arith, within.1))) in
      let all = shown longer h longer_formed stay.history
      (subst (λ (m : Machine). list_all (is_cleaned m.device) (commit_numbers m) ≡ true) (sym stay.machine) cleaned) crtc low in
      sym (subst (λ (m : Machine). map (λ l. record { commit = l.commit; picture = l.picture }) (latched m crtc) ≡ shown_pictures longer
      (journal m) crtc) stay.machine all)

  pictures_then : (crtc : ℕ) → crtc < s.topology.crtcs → (b : Bool) → has_mode_at w (object_id kind.Crtc crtc) ≡ b
      → latched_pictures longer slept crtc ≡ latched_pictures s h crtc ++ map plainly (shown_off crtc b ++ shown_on crtc b)
  pictures_then crtc low b has =
      let before = shown_before crtc low in
      let both = shown_both crtc low b has in
      (headline longer slept longer_formed ends.is_history).all_of_them
      (drained s h slept formed is known longer_formed stay ends shorter over dies) crtc low
      ∙ ap (λ j. shown_pictures longer j crtc) journal_then
      ∙ shown-two longer (history_journal s h) first second crtc w serial_before
      ∙ (λ i. before i ++ map plainly (both i))

  pub pictures_now : (crtc : ℕ) → crtc < s.topology.crtcs → has_mode_at w (object_id kind.Crtc crtc) ≡ true
      → latched_pictures longer slept crtc ≡ latched_pictures s h crtc ++ off_and_back s.topology w k crtc
  pictures_now crtc low has =
      let c = object_id kind.Crtc crtc in
      let dark = off_pictures s.topology w formed.device known.lawful c (ids-has s.topology kind.Crtc crtc low) in
      let lit = same_picture s.topology w.things w.values on_world.values wakes c (ids-has s.topology kind.Crtc crtc low) in
      let count = known.count in
      pictures_then crtc low true has
      ∙ (λ i. latched_pictures s h crtc ++ record { commit = count i; picture = dark i } ∷ record
      { commit = count i + 1; picture = lit i } ∷ [])

  pub others_now : (crtc : ℕ) → crtc < s.topology.crtcs → has_mode_at w (object_id kind.Crtc crtc) ≡ false
      → latched_pictures longer slept crtc ≡ latched_pictures s h crtc
  others_now crtc low none = pictures_then crtc low false none ∙ append-nil (latched_pictures s h crtc)

  pub sleeps_and_wakes : SleepsAndWakes s longer h slept
  sleeps_and_wakes = record {
    well_formed = longer_formed;
    history = ends.is_history;
    drained = drained s h slept formed is known longer_formed stay ends shorter over dies;
    journal = journal_now;
    answers = answers_now;
    events = done.events;
    pictures = pictures_now;
    others = others_now;
    back = back_now;
  }

-- Behind the history of one thread

-- the laws of histories that it rests on
pub record AreLaws : Type 0 where
  pub forms : LongerIsWellFormed
  pub over : OneIsOver
  pub stays : HistoriesStay
  pub added : AddedIsLonger
  pub finished : FinishedIsOver
  pub own : EachHasItsLabel
  pub serial : InEachHistory HasSerialWorld
  pub shorter : TailsGetShorter
  pub cleaned : CleanedTailsAreOver
  pub dies : DeadNamesAFence
  pub headline : HeadlineHolds
  pub shown : AllShownOnceCleaned

pub sleep_and_wake : AreLaws → SleepAndWake
sleep_and_wake laws s h slept formed room is =
    let history = (laws.over s h formed is.one).0 in
    let facts = known s h formed history is.drained (laws.serial s h formed history) (laws.own s h formed history) in
    let longer_formed = laws.forms s h formed room history is.none_closed in
    let stay = laws.stays s (extended_after s h) h (laws.added.behind_last s _) history facts.going in
    sleeps_and_wakes s h slept formed is facts longer_formed stay
    (laws.finished (extended_after s h) h longer_formed stay.history slept is.continued)
    laws.shorter laws.cleaned laws.dies laws.headline laws.shown laws.serial
