-- How many events the replies tell that are told one client after the other.
use Rattle.std.proofs.Common.{◌≡◌, ℕ, ◌+◌, Bool, true, false, cond, ◌==◌, List, ◌∷◌, length, Option, Some, None, refl, sym, ap, ◌∙◌, arith}
use Rattle.std.specs.List.{count_by, flat_map, range_with_len}
use Rattle.std.proofs.lemmas.List.{length-append}
use Rattle.std.proofs.lemmas.List.Recursion.{is_count_by}
use Rattle.kms_model.specs.declared.replies.Answered.{Answered}
use Rattle.kms_model.specs.declared.replies.Event.{Event}
use Rattle.kms_model.specs.Machine.Histories.{read_by, replies}
use Rattle.kms_model.specs.Machine.State.{Machine}
use Rattle.kms_model.proofs.Spans.{flat_map-range_more}
use Rattle.kms_model.specs.Report.Right.{event_in, events_told}
use Rattle.kms_run.specs.Counting.{tells}

module _ (client : ℕ) where
  told_more : (a : Answered) (answers : List Answered)
      → length (events_told client (a ∷ answers)) ≡ cond (tells client a) (1 + length (events_told client answers))
      (length (events_told client answers))
  told_more a answers = by_case (event_in a.reply) (a.client == client) refl refl where
    by_case : (o : Option Event) (own : Bool) → event_in a.reply ≡ o → (a.client == client) ≡ own
        → length (events_told client (a ∷ answers)) ≡ cond (tells client a) (1 + length (events_told client answers))
        (length (events_told client answers))
    by_case o false e own = rw own refl
    by_case None true e own = rw (own, e) refl
    by_case (Some event) true e own = rw (own, e) (omega arith)

  -- as many events as replies tell one
  told_count : (answers : List Answered) → length (events_told client answers) ≡ count_by (tells client) answers
  told_count answers = is_count_by (λ answers. length (events_told client answers)) (tells client) refl told_more answers

-- one client more
pub counted_more : (m : Machine) (client count told : ℕ) → told ≡ count_by (tells (client + 1)) (replies m)
    → read_by m (client + 1) ≡ events_told (client + 1) (replies m)
    → count ≡ length (flat_map (read_by m) (range_with_len 1 client))
    → count + told ≡ length (flat_map (read_by m) (range_with_len 1 (client + 1)))
counted_more m client count told is read counted =
    let before = flat_map (read_by m) (range_with_len 1 client) in
    let own : length (read_by m (client + 1)) ≡ told = ap length read ∙ told_count (client + 1) (replies m) ∙ sym is in
    let more : length (flat_map (read_by m) (range_with_len 1 (client + 1))) ≡ length before + length (read_by m (client + 1)) =
    ap length (flat_map-range_more (read_by m) 1 client (client + 1) (omega arith)) ∙ length-append before (read_by m (client + 1)) in
    omega (arith, own, more, counted)
