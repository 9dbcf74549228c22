-- The E lines of the report of a history are right: each client's are those that its replies tell, and each has a latch.
use Rattle.std.proofs.Common.{◌≡◌, ℕ, ◌+◌, ◌<◌, ◌≤◌, true, false, List, [], ◌∷◌, ◌++◌, length, map, Some, None, refl, sym, ap, ◌∙◌, subst}
use Rattle.std.proofs.Common.{arith, inl, inr, ◌⊎◌}
use Rattle.std.specs.Prelude.{◌&&◌, ◌==◌, filter, reverse, slice_get}
use Rattle.std.specs.List.{filter_map, flat_map}
use Rattle.std.specs.Option.{option_map_or}
use Rattle.std.proofs.lemmas.Bool.{and_from, and_left, eq-eqb, eqb-true, lt-ltb, ne_eqb}
use Rattle.std.proofs.lemmas.List.{length-map}
use Rattle.std.proofs.lemmas.List.Elements.{filter-append}
use Rattle.kms_model.specs.declared.replies.Answered.{Answered}
use Rattle.kms_model.specs.declared.replies.Event.{Event}
use Rattle.kms_model.specs.declared.replies.Step.{Step}
use Rattle.kms_model.specs.declared.reports.Report.{Report}
use Rattle.kms_model.specs.declared.runs.Latch.{Latch}
use Rattle.kms_model.specs.declared.scripts.Script.{Script}
use Rattle.kms_model.specs.Machine.Histories.{at, client_numbers, is_history, read_by, replies}
use Rattle.kms_model.specs.Machine.State.{Commit, Machine}
use Rattle.kms_model.specs.Promises.{event_of_latch}
use Rattle.kms_model.specs.Report.History.{answers_to}
use Rattle.kms_model.specs.Report.Right.{event_in, event_is_right, events_are_whole, events_told, fits_line, has_a_line, is_not_below}
use Rattle.kms_model.specs.Report.Right.{latch_in, latches_in, lines_of_client, same_line}
use Rattle.kms_model.specs.Report.RightAnswers.{answers_in, commits_of, first_off, same_event}
use Rattle.kms_model.specs.Report.SeenReport.{seen_events}
use Rattle.kms_model.proofs.Items.{IsIn, list_all-from}
use Rattle.kms_laws.proofs.ReadEvents.{read-told}
use Rattle.kms_laws.proofs.Steps.{IsPlainScript}
use Rattle.kms_told.specs.Told.{tells_event}
use Rattle.kms_told.proofs.Blocks.{AreBelow, block-keys, blocks-count, filter-all, filter-none, map-in, mapped-count, not-below, own-block}
use Rattle.kms_told.proofs.Blocks.{pass-blocks, pass-mapped}
use Rattle.kms_told.proofs.Fits.{events-fit, same-event}
use Rattle.kms_told.proofs.Items.{filter-from, in-reverse, none-off}
use Rattle.kms_told.proofs.JournalCommits.{history_commits}
use Rattle.kms_told.proofs.Seen.{Sees, line_of}
use Rattle.kms_laws.proofs.Basics.{in_either}

abbrev pub of_client : ℕ → Event → ℕ × Event
of_client client e = (client, e)

pub slice-at : {A : Type 0} (front later : List A) (x : A) → slice_get (front ++ x ∷ later) (length front) ≡ Some x
slice-at [] later x = refl
slice-at (y ∷ front) later x = slice-at front later x

module _ (s : Script) (h : List Step) (plain : IsPlainScript s) (is : is_history s h ≡ true) (r : Report) (S : Sees s h (at s h) r)
    (few : (l : Latch) → IsIn l (at s h).records.latches → l.crtc < s.topology.crtcs) where
  abbrev pub m : Machine
  m = at s h

  abbrev clients : ℕ
  clients = length s.clients

  own-answers : (client : ℕ) (a : Answered) → IsIn a (answers_to m client) → a.client ≡ client
  own-answers client a i = eqb-true a.client client (filter-from (λ b. b.client == client) (replies m) a i).1

  own-events : (client : ℕ) (x : ℕ × Event) → IsIn x (seen_events m client) → x.0 ≡ client
  own-events client x i = map-in (of_client client) (λ (e : ℕ × Event). e.0) client (read_by m client) (λ e j. refl) x i

  -- what the R lines tell a client is what it read
  told-read : (client : ℕ) → 1 ≤ client → client < 1 + clients → events_told client (answers_in r) ≡ read_by m client
  told-read client low high =
      ap (λ answers. events_told client answers) S.answers
      ∙ ap (λ answers. filter_map (λ a. event_in a.reply) answers)
      (own-block (λ (a : Answered). a.client) (answers_to m) own-answers 1 clients client low high)
      ∙ sym (read-told s h is client)

  -- Counts

  fits-latch : (client : ℕ) (e : Event) (l : Latch) → fits_line s r (client, e) (line_of m l) ≡ tells_event s m client e l
  fits-latch client e l =
      ap (λ (cs : List Commit). option_map_or (same_event e) (event_of_latch s.topology cs client (latch_in (line_of m l))) false)
      (ap (commits_of s) S.entries ∙ history_commits s h plain is)

  fits-count : (client : ℕ) (e : Event)
      → length (filter (fits_line s r (client, e)) (latches_in r)) ≡ length (filter (tells_event s m client e) (reverse m.records.latches))
  fits-count client e =
      ap (λ lines. length (filter (fits_line s r (client, e)) lines)) S.latches
      ∙ blocks-count (line_of m) (fits_line s r (client, e)) (λ (l : Latch). l.crtc) (tells_event s m client e) (fits-latch client e)
      (reverse m.records.latches) s.topology.crtcs (λ l i. few l (in-reverse m.records.latches l i))

  module _ (client : ℕ) (before : List (ℕ × Event)) (below : AreBelow (λ (x : ℕ × Event). x.0) client before) where
    same-count : (front : List Event) (e : Event)
        → length (filter (same_line (client, e)) (before ++ map (of_client client) front)) ≡ length (filter (same_event e) front)
    same-count front e =
        let none = filter-none (same_line (client, e)) before
        (λ x i. and_left (client == x.0) (same_event e x.1)
        (ne_eqb client x.0 (λ k. absurd (let lt = below x i in omega (arith, lt, k))))) in
        ap length (filter-append (same_line (client, e)) before (map (of_client client) front)
        ∙ ap (λ z. z ++ filter (same_line (client, e)) (map (of_client client) front)) none)
        ∙ mapped-count (of_client client) (same_line (client, e)) (same_event e)
        (λ f. ap (λ b. b && same_event e f) (eq-eqb client client refl)) front

    own-lines : (front : List Event) → length (lines_of_client client (before ++ map (of_client client) front)) ≡ length front
    own-lines front =
        let mine = λ (x : ℕ × Event). x.0 == client in
        let none = filter-none mine before (λ x i. ne_eqb x.0 client (λ k. absurd (let lt = below x i in omega (arith, lt, k)))) in
        let all = filter-all mine (map (of_client client) front)
        (λ x i. eq-eqb x.0 client (map-in (of_client client) (λ (y : ℕ × Event). y.0) client front (λ e j. refl) x i)) in
        ap length (filter-append mine before (map (of_client client) front) ∙ (λ i. none i ++ all i))
        ∙ length-map front (of_client client)

    low-before : (front : List Event) (x : ℕ × Event) → IsIn x (before ++ map (of_client client) front) → x.0 ≤ client
    low-before front x i =
        inl_or (in_either before (map (of_client client) front) x i)
      where
        inl_or : IsIn x before ⊎ IsIn x (map (of_client client) front) → x.0 ≤ client
        inl_or (inl old) = let lt = below x old in omega (arith, lt)
        inl_or (inr new) = let e = map-in (of_client client) (λ (y : ℕ × Event). y.0) client front (λ e j. refl) x new in omega (arith, e)

    one-right : 1 ≤ client → client < 1 + clients → (front later : List Event) (e : Event) → read_by m client ≡ front ++ e ∷ later
        → event_is_right s r (before ++ map (of_client client) front) (client, e) ≡ true
    unfolding event_is_right has_a_line
    one-right low high front later e read =
        let lines = before ++ map (of_client client) front in
        let found : slice_get (events_told client (answers_in r)) (length (lines_of_client client lines)) ≡ Some e =
        (λ i. slice_get ((told-read client low high ∙ read) i) (own-lines front i)) ∙ slice-at front later e in
        and_from (is_not_below (λ (x : ℕ × Event). x.0) lines (client, e)) _
        (not-below (λ (x : ℕ × Event). x.0) lines (client, e) (low-before front))
        (and_from (option_map_or (same_event e) (slice_get (events_told client (answers_in r)) (length (lines_of_client client lines)))
        false) _
        (ap (λ o. option_map_or (same_event e) o false) found ∙ same-event e)
        (lt-ltb (length (filter (same_line (client, e)) lines)) (length (filter (fits_line s r (client, e)) (latches_in r)))
        (let a = same-count front e in let b = fits-count client e in let c = events-fit s h plain is client front later e read in
        omega (arith, a, b, c))))

  pub events-off : first_off (event_is_right s r) [] r.events ≡ None
  events-off =
      ap (first_off (event_is_right s r) []) S.events
      ∙ none-off (event_is_right s r) [] (flat_map (seen_events m) (client_numbers s))
      (pass-blocks (λ (x : ℕ × Event). x.0) (seen_events m) own-events (event_is_right s r) 1 (1 + clients)
      (λ client before low high below.
      pass-mapped (of_client client) (event_is_right s r) before (read_by m client)
      (λ front later e read. one-right client before below low high front later e read))
      1 clients (omega arith) refl [] (λ x never. absurd never))

  pub events-whole : events_are_whole r ≡ true
  unfolding events_are_whole
  events-whole =
      list_all-from (λ a. length (events_told a.client (answers_in r)) == length (lines_of_client a.client r.events)) (answers_in r)
      (λ a i.
      let k = block-keys (λ (b : Answered). b.client) (answers_to m) own-answers 1 clients a (subst (IsIn a) S.answers i) in
      let told = ap length (told-read a.client k.0 k.1) in
      let lines = ap (λ events. length (lines_of_client a.client events)) S.events
      ∙ ap length (own-block (λ (x : ℕ × Event). x.0) (seen_events m) own-events 1 clients a.client k.0 k.1)
      ∙ length-map (read_by m a.client) (of_client a.client) in
      eq-eqb (length (events_told a.client (answers_in r))) (length (lines_of_client a.client r.events)) (told ∙ sym lines))
