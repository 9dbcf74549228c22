-- The D line of the report of a history is right.
use Rattle.std.proofs.Common.{◌≡◌, ℕ, zero, suc, ◌+◌, ◌<◌, Bool, true, false, cond, List, [], ◌∷◌, length, get_or, Some, refl, sym, ap, ◌∙◌}
use Rattle.std.proofs.Common.{subst, arith, inl, inr}
use Rattle.std.specs.Prelude.{◌==◌, option_map, if◌then◌else◌}
use Rattle.std.specs.List.{IsDistinct, position}
use Rattle.std.specs.Option.{option_map_or}
use Rattle.std.specs.Str.{bytes_eq}
use Rattle.std.proofs.lemmas.Bool.{and_from, and_parts, eq-eqb, false≢true}
use Rattle.std.proofs.lemmas.Slice.Eq.{bytes_eq-Decides}
use Rattle.kms_model.specs.declared.replies.Step.{Step}
use Rattle.kms_model.specs.declared.reports.End.TheVariants.{Drained, Stalled, Open}
use Rattle.kms_model.specs.declared.reports.Report.{Report}
use Rattle.kms_model.specs.declared.scripts.Script.{Script}
use Rattle.kms_model.specs.Device.Serial.{serial}
use Rattle.kms_model.specs.Device.World.{thing_labelled, thing_with_id}
use Rattle.kms_model.specs.Machine.Commits.{waited_fences}
use Rattle.kms_model.specs.Machine.Histories.{at, is_awaited, is_dead, is_drained, is_history, is_made_by_command, stalled_on}
use Rattle.kms_model.specs.Machine.State.{Machine}
use Rattle.kms_model.specs.Promises.{WaitsForFence}
use Rattle.kms_model.specs.Report.History.{stalled_name}
use Rattle.kms_model.specs.Report.Right.{all_is_answered, all_is_latched, commands_from, end_is_right, is_right_end, label_is_of_fence}
use Rattle.kms_model.specs.Report.RightAnswers.{answers_in, entries_in, has_answer, is_answer_to}
use Rattle.kms_model.specs.Script.Spelling.{name_word}
use Rattle.kms_model.specs.Script.WellFormed.{IsWellFormed, is_label_in}
use Rattle.kms_model.specs.Script.Words.{is_label}
use Rattle.kms_model.proofs.Items.{IsIn, list_all-at, list_all-from, list_any-has}
use Rattle.kms_model.proofs.Facts.{by_recursion-at}
use Rattle.kms_model.proofs.ThingLemmas.{find-holds, find-in}
use Rattle.kms_laws.proofs.Basics.{both_bools}
use Rattle.kms_laws.proofs.Modes.{plain-from}
use Rattle.kms_laws.proofs.NamedLabels.{named_labels}
use Rattle.kms_laws.proofs.NeverStuck.{dead_names_a_fence}
use Rattle.kms_laws.proofs.OwnLabels.{history_own}
use Rattle.kms_laws.proofs.Steps.{IsPlainScript}
use Rattle.kms_told.proofs.Built.{reached}
use Rattle.kms_told.proofs.DrainedAnswered.{all-answered}
use Rattle.kms_told.proofs.Items.{position-cons}
use Rattle.kms_told.proofs.RepliesTold.{has-line}
use Rattle.kms_told.proofs.Seen.{Sees}

-- Names that differ

-- a name that is there stands at its own place alone
named-within : (names : List (List ℕ)) (n : ℕ) → is_label_in names n ≡ true → n < length names
unfolding is_label
named-within [] n h = absurd (false≢true h)
named-within (x ∷ names) zero h = omega arith
named-within (x ∷ names) (suc n) h = let l = named-within names n h in omega (arith, l)

get-in : (names : List (List ℕ)) (n : ℕ) → n < length names → IsIn (get_or names n []) names
get-in [] n l = absurd (omega (arith, l))
get-in (x ∷ names) zero l = inl refl
get-in (x ∷ names) (suc n) l = inr (get-in names n (omega (arith, l)))

bytes-apart : (a b : List ℕ) → bytes_eq a b ≡ false → bytes_eq b a ≡ false
bytes-apart a b off = go (bytes_eq b a) refl where
  go : (v : Bool) → bytes_eq b a ≡ v → bytes_eq b a ≡ false
  go false e = e
  go true e = absurd (both_bools (bytes_eq a b) ((bytes_eq-Decides a b).1 (sym ((bytes_eq-Decides b a).0 e))) off)

pub named-place : (names : List (List ℕ)) (n : ℕ) → IsDistinct bytes_eq names → n < length names
    → position (bytes_eq (get_or names n [])) names ≡ Some n
unfolding IsDistinct
named-place [] n differ l = absurd (omega (arith, l))
named-place (x ∷ names) zero differ l =
    position-cons (bytes_eq x) x names
    ∙ ap (λ b. cond b (Some 0) (option_map (λ place. place + 1) (position (bytes_eq x) names))) ((bytes_eq-Decides x x).1 refl)
named-place (x ∷ names) (suc n) differ l =
    let word = get_or names n [] in
    let apart = bytes-apart x word (by_recursion-at (λ y. bytes_eq x y ≡ false) names word differ.0 (get-in names n (omega (arith, l)))) in
    position-cons (bytes_eq word) x names
    ∙ (λ i. cond (apart i) (Some 0) (option_map (λ place. place + 1) (named-place names n differ.1 (omega (arith, l)) i)))
    ∙ ap Some (omega arith)

module _ (s : Script) (h : List Step) (formed : IsWellFormed s) (is : is_history s h ≡ true) (r : Report) (S : Sees s h (at s h) r) where
  abbrev pub m : Machine
  m = at s h

  plain : IsPlainScript s
  plain = plain-from s formed

  drained-answered : is_drained s m ≡ true → all_is_answered s r ≡ true
  drained-answered drained =
      list_all-from (has_answer r) (commands_from 1 s.clients)
      (λ e i.
      let one = all-answered s h plain is drained e i in
      list_any-has (is_answer_to e) (answers_in r) one.answer (has-line s h plain is r S one.answer one.is_in)
      (and_from (one.answer.client == e.client) (one.answer.command == e.command) (eq-eqb one.answer.client e.client one.of_client)
      (eq-eqb one.answer.command e.command one.to_command)))

  -- the label that a dead history tells is that of a fence that a command made
  fence-label : (label : ℕ) → WaitsForFence s m label → label_is_of_fence s r (name_word s.names label) ≡ true
  fence-label label W =
      let found = find-in (λ t. t.id == W.fence) m.device.world.things W.thing W.is_thing in
      let named = subst (λ n. is_label_in s.names n ≡ true) W.has_label
      (list_all-at (λ t. is_label_in s.names t.label) m.device.world.things W.thing (named_labels s h formed is) found) in
      let place = named-place s.names label formed.differ (named-within s.names label named) in
      let awaited = find-holds (is_awaited m) (waited_fences s.topology m.device.commits W.commit) W.fence W.awaited in
      let made : is_made_by_command (Some W.thing) ≡ true = ap is_made_by_command (sym W.is_thing)
      ∙ (and_parts _ (is_made_by_command (thing_with_id m.device.world.things W.fence)) awaited).1 in
      let labelled : thing_labelled m.device.world.things label ≡ Some W.thing =
      ap (thing_labelled m.device.world.things) (sym W.has_label) ∙ history_own s formed h is W.thing found in
      let world : serial s (entries_in r) ≡ m.device.world = ap (serial s) S.entries
      ∙ (reached s h plain is).counted.facts.holds.present.is_serial in
      ap (λ o. option_map_or (λ n. is_made_by_command (thing_labelled (serial s (entries_in r)).things n)) o false) place
      ∙ ap (λ w. is_made_by_command (thing_labelled w.things label)) world
      ∙ ap is_made_by_command labelled
      ∙ made

  pub end-right : (is_drained s m ≡ true → all_is_latched s r ≡ true) → end_is_right s r ≡ true
  unfolding end_is_right
  end-right latched = ap (is_right_end s r) S.end ∙ by_drained (is_drained s m) refl
    where
      stalled : (label : ℕ) × (stalled_on s m ≡ Some label) × WaitsForFence s m label
          → label_is_of_fence s r (stalled_name s.names (stalled_on s m)) ≡ true
      stalled w = ap (λ o. label_is_of_fence s r (stalled_name s.names o)) w.1 ∙ fence-label w.0 w.2

      by_dead : (b : Bool) → is_dead s m ≡ b
          → is_right_end s r (if b then Stalled (stalled_name s.names (stalled_on s m)) else Open (length h)) ≡ true
      by_dead true dead = stalled (dead_names_a_fence s h plain is dead)
      by_dead false dead = refl

      by_drained : (b : Bool) → is_drained s m ≡ b
          → is_right_end s r (if b then Drained else (if is_dead s m then Stalled (stalled_name s.names (stalled_on s m)) else Open
          (length h))) ≡ true
      by_drained true drained = and_from (all_is_answered s r) (all_is_latched s r) (drained-answered drained) (latched drained)
      by_drained false drained = by_dead (is_dead s m) refl
