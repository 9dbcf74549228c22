-- What is known of a history that is drained: where its clients stand, and what its world is.
use Rattle.std.proofs.Common.{◌≡◌, ℕ, zero, suc, ◌+◌, ◌<◌, ◌≤◌, true, false, List, [], ◌∷◌, length, Option, Some, None, inl, inr, refl}
use Rattle.std.proofs.Common.{ap, ◌∙◌, arith}
use Rattle.std.specs.Prelude.{max, slice_get}
use Rattle.std.specs.List.{All}
use Rattle.std.proofs.lemmas.Bool.{cases_lt}
use Rattle.kms_model.specs.declared.replies.Step.{Step}
use Rattle.kms_model.specs.declared.runs.Doing.{Doing}
use Rattle.kms_model.specs.declared.runs.Doing.TheVariants as doing
use Rattle.kms_model.specs.declared.scripts.Command.{Command}
use Rattle.kms_model.specs.declared.scripts.Script.{Script}
use Rattle.kms_model.specs.Device.Serial.{command_of, from_one}
use Rattle.kms_model.specs.Device.World.{thing_labelled}
use Rattle.kms_model.specs.Machine.Commits.{is_cleaned}
use Rattle.kms_model.specs.Machine.Histories.{at, is_dead, is_drained, is_history}
use Rattle.kms_model.specs.Machine.State.{Machine, command_at, doing_at, entry_at, first_machine, place_at}
use Rattle.kms_model.specs.Machine.Steps.{is_idle}
use Rattle.kms_model.specs.Script.Longer.{commands_of_last, last_client, world_after}
use Rattle.kms_model.specs.Script.WellFormed.{IsWellFormed}
use Rattle.kms_model.specs.Script.Words.{◌>>=◌}
use Rattle.kms_model.proofs.Guards.{IsAtEnd, IsDrained, drained_guards}
use Rattle.kms_model.proofs.Facts.{neither}
use Rattle.kms_laws.specs.Laws.{HasSerialWorld}
use Rattle.kms_laws.proofs.Fitting.{idle-busy}
use Rattle.kms_laws.proofs.Headlines.{range-in}
use Rattle.kms_laws.proofs.Modes.{plain-from}
use Rattle.kms_laws.proofs.Sizes.{busy, command-there, ended_at, has_commands, length_of}
use Rattle.kms_laws.proofs.SmallNumbers.{Counted, along_counted, first_counted, step_counted}
use Rattle.kms_laws.proofs.Steps.{history_kept}
use Rattle.kms_one_thread.proofs.Apart.{drained_alive}
use Rattle.kms_suspend.proofs.LastClient.{one_or_more}
use Rattle.kms_suspend.proofs.Sleeps.{Known}

-- Commands by number

no_item : {A : Type 0} (xs : List A) (i : ℕ) → length xs ≤ i → slice_get xs i ≡ None
no_item [] i past = refl
no_item (x ∷ xs) zero past = absurd (omega (arith, past))
no_item (x ∷ xs) (suc i) past = no_item xs i (omega (arith, past))

none_beyond : {A : Type 0} (xs : List A) (n : ℕ) → length xs < n → from_one xs n ≡ None
none_beyond xs zero past = refl
none_beyond xs (suc n) past = no_item xs n (omega (arith, past))

item_there : {A : Type 0} (xs : List A) (i : ℕ) → i < length xs → slice_get xs i ≡ None → ⊥
item_there [] i low none = omega (arith, low)
item_there (x ∷ xs) zero low none = absurd cc
item_there (x ∷ xs) (suc i) low none = item_there xs i (omega (arith, low)) none

one_there : {A : Type 0} (xs : List A) (n : ℕ) → 1 ≤ n → n ≤ length xs → from_one xs n ≡ None → ⊥
one_there xs zero low high none = omega (arith, low)
one_there xs (suc n) low high none = item_there xs n (omega (arith, high)) none

-- who has a command is told one at each number up to that of the commands
more_there : (s : Script) (client number : ℕ) → 1 ≤ number → number ≤ has_commands s client
    → command_of s (record { client = client; command = number }) ≡ None → ⊥
more_there s client number low high none = go (from_one s.clients client) high none
  where
    go : (o : Option (List Command)) → number ≤ length_of o → (o >>= (λ commands. from_one commands number)) ≡ None → ⊥
    go None high none = omega (arith, low, high)
    go (Some commands) high none = one_there commands number low high none

last_found : (commands : List Command) (clients : List (List Command))
    → slice_get (commands ∷ clients) (length clients) ≡ Some (commands_of_last (commands ∷ clients))
last_found commands [] = refl
last_found commands (next ∷ clients) = last_found next clients

-- how many commands the last client has
last_count : (clients : List (List Command)) → length_of (from_one clients (max 1 (length clients))) ≡ length (commands_of_last clients)
last_count [] = refl
last_count (commands ∷ clients) =
    ap (λ n. length_of (from_one (commands ∷ clients) n)) (one_or_more (length clients)) ∙ ap length_of (last_found commands clients)

busy-idle : (d : Doing) → busy d ≡ 0 → is_idle d ≡ true
busy-idle doing.Idle none = refl
busy-idle (doing.Taking ticket) none = absurd (omega (arith, none))
busy-idle (doing.MustBackOff ticket object) none = absurd (omega (arith, none))
busy-idle (doing.BackedOff ticket object) none = absurd (omega (arith, none))
busy-idle (doing.Returning k) none = absurd (omega (arith, none))

module _ (s : Script) (h : List Step) (formed : IsWellFormed s) (is : is_history s h ≡ true) (drained : is_drained s (at s h) ≡ true) where
  abbrev m : Machine
  m = at s h

  places : Counted s (length h) m
  places =
      let plain = plain-from s formed in
      along_counted s (Counted s) (step_counted s plain) h 0 (length h) (first_machine s.topology) (omega arith) (first_counted s plain) is

  guards : IsDrained s m
  guards = drained_guards s m drained

  at_end : (d : ℕ) → 1 ≤ d → d < 1 + length s.clients → IsAtEnd s m d
  at_end d low high = guards.at_end d (range-in 1 (length s.clients) d low high)

  all_cleaned : (j : ℕ) → j < length m.device.commits → is_cleaned m.device j ≡ true
  all_cleaned j low = guards.cleaned j (range-in 0 (length m.device.commits) j (omega arith) (omega (arith, low)))

  no_command : (d : ℕ) → command_at s m d ≡ None
  no_command d = go (command_at s m d) refl
    where
      go : (o : Option Command) → command_at s m d ≡ o → command_at s m d ≡ None
      go None e = e
      go (Some c) e = let there = command-there s (entry_at m d) c e in (at_end d there.low there.high).ended

  -- a number that is no client's
  beyond : (d : ℕ) → has_commands s d ≡ 0 → is_idle (doing_at m d) ≡ true
  beyond d none =
      let S = places.sizes.places_stand in
      let low = S.low d in
      let bound = S.bound d in
      busy-idle (doing_at m d) (omega (arith, low, bound, none))

  all_idle : (d : ℕ) → is_idle (doing_at m d) ≡ true
  all_idle zero = beyond 0 refl
  all_idle (suc d) = elim (cases_lt d (length s.clients)) [
    | inl there ↦ (at_end (suc d) (omega arith) (omega (arith, there))).idle
    | inr past ↦ beyond (suc d) (ap length_of (none_beyond s.clients (suc d) (omega (arith, past))))
  ]

  stands_behind : ended_at (place_at m (last_client s)) ≡ length (commands_of_last s.clients) + 1 + 0
  stands_behind =
      let c = last_client s in
      let S = places.sizes.places_stand in
      let none = idle-busy (doing_at m c) (all_idle c) in
      let count = last_count s.clients in
      let low = S.low c in
      let bound = S.bound c in
      elim (cases_lt (has_commands s c) (place_at m c).command) [
        | inl behind ↦ omega (arith, none.0, none.1, count, bound, behind)
        | inr before ↦ absurd (more_there s c (place_at m c).command low before (no_command c))
      ]

  pub not_stalled : m.stalled ≡ false
  unfolding is_dead
  not_stalled = (neither m.stalled _ (drained_alive s h formed is drained)).0

  pub known : HasSerialWorld s h → All (λ thing. thing_labelled (world_after s h).things thing.label ≡ Some thing)
      (world_after s h).things → Known s h
  known serial labelled =
      let kept = history_kept s h (plain-from s formed) is in
      record {
        history = is;
        going = not_stalled;
        lawful = serial.is_lawful;
        framed = kept.present.framed;
        count = kept.present.count;
        labelled = labelled;
        cleaned = all_cleaned;
        ended = no_command;
        idle = all_idle;
        stands = stands_behind;
      }
