-- The walk behind an entry, which may be right, and behind the whole journal.
use Rattle.std.proofs.Common.{◌≡◌, ℕ, ◌+◌, ◌-◌, ◌<◌, ◌≤◌, Bool, true, false, List, [], length, get_or, take, Some, None, sym, ap, ◌∙◌}
use Rattle.std.proofs.Common.{subst, arith}
use Rattle.std.proofs.lemmas.List.{length-map, take_all}
use Rattle.std.proofs.lemmas.Option.{slice_get-get_or}
use Rattle.std.specs.Prelude.{slice_get, slice_index_or, slice_set}
use Rattle.kms_audit.proofs.Accepted.{next-walk}
use Rattle.kms_audit.proofs.Begun.{no-wrong-entry, wrong-entry}
use Rattle.kms_audit.proofs.Entering.{is_as_entered, is_below, lacks_command, more, there, wrong_walk}
use Rattle.kms_audit.proofs.Executions.{IsOfScript, of-script}
use Rattle.kms_audit.proofs.Spanned.{touched-in}
use Rattle.kms_audit.specs.declared.walk.Walk.{Walk}
use Rattle.kms_audit.specs.Compared.{AreCompared}
use Rattle.kms_audit.specs.Latching.{AreTracks}
use Rattle.kms_audit.specs.Walked.{IsComparedWalk, IsEntered, IsKeptAt, IsNextWalk, IsWalk, IsWalked, is_above_last, last_number}
use Rattle.kms_model.proofs.TouchedLemmas.{few_objects}
use Rattle.kms_model.specs.declared.reports.Report.{Report}
use Rattle.kms_model.specs.declared.scripts.Command.{Command}
use Rattle.kms_model.specs.declared.scripts.Script.{Script}
use Rattle.kms_model.specs.Device.Serial.{Entry, command_of, serial}
use Rattle.kms_model.specs.Report.RightAnswers.{entries_in, entry_from, entry_is_right, first_off, is_entered_in}
use Rattle.kms_model.specs.Script.WellFormed.{IsWellFormed}

module _ (s : Script) (r : Report) (place : ℕ) (old : Walk) (entry : ℕ × ℕ) (formed : IsWellFormed s) (walk : IsComparedWalk s r place old)
    (is_entry : slice_get r.journal place ≡ Some entry) where
  abbrev here : Entry
  here = entry_from entry

  abbrev behind : List Entry
  behind = take place (entries_in r)

  -- its command is not there
  pub no-command : (new : Walk) → command_of s here ≡ None → IsNextWalk s r place new false
  no-command new none = wrong_walk s r place old entry walk is_entry new (lacks_command s behind here none)

  module _ (c : Command) (is : command_of s here ≡ Some c) where
    pub of-client : IsOfScript entry.0 c
    of-client = of-script s here c formed is

    -- its number is not above those of its client, or it is
    number_is : (above : Bool) → above ≡ is_above_last (slice_index_or old.highest (entry.0 - 1) None) entry.1
        → is_above_last (last_number behind entry.0) entry.1 ≡ above
    number_is above told =
        ap (λ o. is_above_last o entry.1) (sym (walk.kept.highest entry.0 of-client.some of-client.few)) ∙ sym told

    pub not-above : (new : Walk) (above : Bool) → above ≡ is_above_last (slice_index_or old.highest (entry.0 - 1) None) entry.1
        → above ≡ false → IsNextWalk s r place new false
    not-above new above told off =
        wrong_walk s r place old entry walk is_entry new (is_below s behind here walk.kept.right (number_is above told ∙ off))

    module _ (above : Bool) (told : above ≡ is_above_last (slice_index_or old.highest (entry.0 - 1) None) entry.1) (on : above ≡ true) where
      -- it is not accepted
      pub not-accepted : (mid new : Walk) → IsEntered r entry.0 c old mid false → IsNextWalk s r place new false
      not-accepted mid new entered =
          wrong_walk s r place old entry walk is_entry new
          (sym (is_as_entered s behind here c false is walk.kept.right (number_is above told ∙ on)
          (entered.is_entered
          ∙ (ap (λ t. is_entered_in t old.serial.world entry.0 (Some c)) walk.kept.at.stands.topology
          ∙ ap (λ w. is_entered_in s.topology w entry.0 (Some c)) walk.kept.at.stands.world))))

      -- it is right
      pub is-next : (mid new : Walk) → IsEntered r entry.0 c old mid true
          → new ≡ record mid { highest = slice_set mid.highest (entry.0 - 1) (Some entry.1) } → IsNextWalk s r place new true
      is-next mid new entered same =
          subst (λ w. IsNextWalk s r place w true) (sym same)
          (next-walk s r place old mid here c walk.kept is (there s r place old entry walk is_entry)
          (more s r place old entry walk is_entry)
          (number_is above told ∙ on) entered of-client.some of-client.few walk.compared (few_objects s.topology formed.device).crtcs
          (λ q object has. touched-in s.topology (serial s behind) q object formed.device has))

-- The walk through the journal

-- the entry at a place of a slice of the journal
pub next-is : (journal items : List (ℕ × ℕ)) (place : ℕ) (d : ℕ × ℕ) → items ≡ journal → place < length items
    → slice_get journal place ≡ Some (get_or items place d)
next-is journal items place d same within =
    ap (λ es. slice_get es place) (sym same) ∙ slice_get-get_or items place d within

-- an entry that is not right is the first
pub off-at-entry : (s : Script) (r : Report) (place : ℕ) (old new : Walk) → IsKeptAt s r place old → IsNextWalk s r place new false
    → Some place ≡ first_off (entry_is_right s) [] (entries_in r)
off-at-entry s r place old new kept next = wrong-entry s r place old next.entry kept next.is_entry (sym next.is_right)

module _ (s : Script) (r : Report) (n : ℕ) (whole : n ≡ length r.journal) where
  whole_entries : n ≡ length (entries_in r)
  whole_entries = whole ∙ sym (length-map r.journal entry_from)

  -- at the end the walk stands behind all entries
  pub at-last : (place : ℕ) (w : Walk) → IsWalk s r place w → length r.journal ≤ place → IsWalk s r n w
  at-last place w walk past =
      let same : place ≡ n = omega (arith, walk.kept.within, whole_entries, whole, past) in
      subst (λ k. IsWalk s r k w) same walk

  pub none-off : (w : Walk) → IsComparedWalk s r n w → None ≡ first_off (entry_is_right s) [] (entries_in r)
  none-off w walk = no-wrong-entry s r n w walk.kept (omega (arith, whole_entries))

  pub all-walked : (w : Walk) → IsComparedWalk s r n w → IsWalked s r w
  all-walked w walk = record {
    kept = subst (λ k. IsKeptAt s r k w) whole_entries walk.kept;
    compared = subst (λ k. AreCompared s r (k + 1) w.compared) whole_entries walk.compared;
  }

-- behind all entries the tracks are those of all that is shown
pub tracks-whole : (s : Script) (r : Report) (w : Walk) → IsWalked s r w → AreTracks s r (entries_in r) w.showing
tracks-whole s r w walked =
    subst (λ es. AreTracks s r es w.showing) (take_all (length (entries_in r)) (entries_in r) (omega arith)) walked.kept.tracks
