-- The report of a history has values that its lines can spell, so its text is read back as it.
use Rattle.std.proofs.Common.{◌≡◌, ℕ, Bool, true, false, List, [], ◌∷◌, length, map, take, Option, Some, None, Ok, refl, sym, ap, ◌∙◌}
use Rattle.std.proofs.Common.{subst, arith, inl, inr, ⊎_elim}
use Rattle.std.specs.Prelude.{◌==◌, filter, reverse, if◌then◌else◌, All}
use Rattle.std.specs.List.{flat_map}
use Rattle.std.proofs.lemmas.List.{length-reverse}
use Rattle.std.proofs.lemmas.List.Elements.{All-from_recursion}
use Rattle.sha2.proofs.Facts256.{length-sha256}
use Rattle.kms_model.specs.declared.objects.Kind.TheVariants.{Crtc}
use Rattle.kms_model.specs.declared.pictures.Picture.{Picture}
use Rattle.kms_model.specs.declared.pictures.Picture.TheVariants.{Off, On}
use Rattle.kms_model.specs.declared.replies.Answered.{Answered}
use Rattle.kms_model.specs.declared.replies.Event.{Event}
use Rattle.kms_model.specs.declared.replies.Reply.{Reply}
use Rattle.kms_model.specs.declared.replies.Reply.TheVariants as reply
use Rattle.kms_model.specs.declared.replies.Step.{Step}
use Rattle.kms_model.specs.declared.reports.End.TheVariants.{Drained, Stalled, Open}
use Rattle.kms_model.specs.declared.runs.Latch.{Latch}
use Rattle.kms_model.specs.declared.scripts.Command.{Command}
use Rattle.kms_model.specs.declared.scripts.Script.{Script}
use Rattle.kms_model.specs.declared.worlds.Thing.{Thing}
use Rattle.kms_model.specs.Device.Objects.{indices_of}
use Rattle.kms_model.specs.Device.Serial.{Entry, command_of}
use Rattle.kms_model.specs.Frames.FrameBytes.{frame_bytes}
use Rattle.kms_model.specs.Headline.{entry_answered}
use Rattle.kms_model.specs.Machine.Framebuffers.{freed}
use Rattle.kms_model.specs.Machine.Histories.{at, client_numbers, is_dead, is_drained, is_history, journal, latched, read_by, replies}
use Rattle.kms_model.specs.Machine.Histories.{stalled_on}
use Rattle.kms_model.specs.Machine.State.{Machine, first_machine}
use Rattle.kms_model.specs.Promises.{WaitsForFence}
use Rattle.kms_model.specs.Report.History.{answers_to, stalled_name, text}
use Rattle.kms_model.specs.Report.ReportLines.{report_read}
use Rattle.kms_model.specs.Report.Right.{event_in}
use Rattle.kms_model.specs.Report.SeenReport.{digest_shown, report_seen, seen_answer, seen_end, seen_entry, seen_events, seen_latch}
use Rattle.kms_model.specs.Report.SeenReport.{seen_thing}
use Rattle.kms_model.specs.Script.Schedules.{IsFitNumber, IsFitStep}
use Rattle.kms_model.specs.Script.Spelling.{name_word}
use Rattle.kms_model.specs.Script.WellFormed.{IsWellFormed, is_label_in}
use Rattle.kms_model.proofs.CrtcLemmas.{all_in}
use Rattle.kms_model.proofs.Items.{IsIn, list_all-at}
use Rattle.kms_model.proofs.ThingLemmas.{IsNumberedIn, find-in, ids-numbered}
use Rattle.kms_model.proofs.TouchedLemmas.{few_objects}
use Rattle.kms_laws.specs.Numbers.{LatchFits}
use Rattle.kms_laws.proofs.Basics.{in_either}
use Rattle.kms_laws.proofs.Framebuffers.{all_in-from, find-same, range-below}
use Rattle.kms_laws.proofs.Modes.{plain-from}
use Rattle.kms_laws.proofs.NamedLabels.{named_labels}
use Rattle.kms_laws.proofs.NeverStuck.{dead_names_a_fence}
use Rattle.kms_laws.proofs.ReadEvents.{read-told}
use Rattle.kms_laws.proofs.Sizes.{IsThere, command-there}
use Rattle.kms_laws.proofs.SmallNumbers.{few_commands, numbers_fit}
use Rattle.kms_laws.proofs.Steps.{IsPlainScript, first_kept, history_kept}
use Rattle.kms_script.proofs.FitSteps.{history_fits}
use Rattle.kms_told.specs.Told.{seen_with}
use Rattle.kms_told.proofs.Alone.{StandsAlone}
use Rattle.kms_told.proofs.AnswersRight.{StandsRight, ToEntry, ToNone, all-right}
use Rattle.kms_told.proofs.Built.{reached}
use Rattle.kms_told.proofs.EntriesRight.{entry-reply}
use Rattle.kms_told.proofs.FreedRight.{was-freed}
use Rattle.kms_told.proofs.Items.{filter-from, in-reverse}
use Rattle.kms_told.proofs.Texts.{text-seen}
use Rattle.kms_read_back.specs.ReadBack.{IsFitAnswer, IsFitDigest, IsFitEnd, IsFitEntry, IsFitEvent, IsFitFreed, IsFitLabel, IsFitLatch}
use Rattle.kms_read_back.specs.ReadBack.{IsFitReply, IsFitReport, IsFitTold, IsLong}
use Rattle.kms_read_back.proofs.DigestBytes.{digests-are-bytes}
use Rattle.kms_read_back.proofs.FitReplies.{from-map, replies-fit}
use Rattle.kms_read_back.proofs.Grouping.{read-back}

each-in-map : {A B : Type 0} (P : B → Type 0) (g : A → B) (xs : List A) → ((x : A) → IsIn x xs → P (g x)) → (y : B) → IsIn y (map g xs)
    → P y
each-in-map P g [] each y is = absurd is
each-in-map P g (x ∷ xs) each y is =
    ⊎_elim (λ (e : g x ≡ y). subst P e (each x (inl refl))) (λ later. each-in-map P g xs (λ z i. each z (inr i)) y later) is

each-in-blocks : {B : Type 0} (P : B → Type 0) (f : ℕ → List B) (ks : List ℕ) → ((k : ℕ) → IsIn k ks → (y : B) → IsIn y (f k) → P y)
    → (y : B) → IsIn y (flat_map f ks) → P y
each-in-blocks P f [] each y is = absurd is
each-in-blocks P f (k ∷ ks) each y is =
    ⊎_elim (λ (here : IsIn y (f k)). each k (inl refl) y here) (λ later. each-in-blocks P f ks (λ j i. each j (inr i)) y later)
    (in_either (f k) (flat_map f ks) y is)

event-of : (r : Reply) (e : Event) → event_in r ≡ Some e → IsFitReply r → IsFitEvent e
event-of (reply.Event f) e is fits = let same : f ≡ e = cc in subst IsFitEvent same fits
event-of r e is fits = absurd cc

module _ (s : Script) (h : List Step) (trace : Bool) (formed : IsWellFormed s) (is : is_history s h ≡ true)
    (short : IsLong (length h)) where
  abbrev m : Machine
  m = at s h

  plain : IsPlainScript s
  plain = plain-from s formed

  right-of : (a : Answered) → IsIn a m.records.replies → StandsRight s (journal m) a
  right-of a i = all-right s m.records.replies m.records.journal (reached s h plain is).built a i

  alone-there : (a : Answered) (o : Option Command) → command_of s (entry_answered a) ≡ o
      → StandsAlone s (take a.place (journal m)) a.client a.reply o → IsThere s a.client a.command
  alone-there a None e alone = absurd alone
  alone-there a (Some c) e alone = command-there s (entry_answered a) c e

  there : (a : Answered) → IsIn a m.records.replies → IsThere s a.client a.command
  there a i =
      ⊎_elim
      (λ (x : ToEntry s (journal m) a). command-there s (entry_answered a) x.enters.command x.enters.is_command)
      (λ (x : ToNone s (journal m) a). alone-there a (command_of s (entry_answered a)) refl x.alone)
      (right-of a i).to

  client-fits : (a : Answered) → IsIn a m.records.replies → IsFitNumber a.client
  client-fits a i = let high = (there a i).high in let few = formed.few in omega (arith, high, few)

  command-fits : (a : Answered) → IsIn a m.records.replies → IsFitNumber a.command
  command-fits a i = let within = (there a i).within in let few = few_commands s a.client formed.clients in omega (arith, within, few)

  entry-fits : (e : Entry) → IsIn e (journal m) → IsFitNumber e.client × IsFitNumber e.command
  entry-fits e i =
      let one = entry-reply s m.records.replies m.records.journal (reached s h plain is).built e (in-reverse m.records.journal e i) in
      let a = client-fits one.answer one.is_in in
      let b = command-fits one.answer one.is_in in
      let c = ap (λ (f : Entry). f.client) one.to_entry in
      let d = ap (λ (f : Entry). f.command) one.to_entry in
      (omega (arith, a, c), omega (arith, b, d))

  answer-fits : (a : Answered) → IsIn a m.records.replies
      → IsFitNumber a.client × IsFitNumber a.command × IsFitNumber a.place × IsFitReply a.reply
  answer-fits a i =
      let within = (right-of a i).within in
      let size = length-reverse m.records.journal in
      let few = (numbers_fit s h formed is).journal in
      (client-fits a i, command-fits a i, omega (arith, within, size, few), replies-fit s h formed is a i)

  digest-fits : (p : Picture) (frame : List ℕ) → IsFitDigest (digest_shown p frame)
  digest-fits Off frame = tt
  digest-fits (On shown) frame = (length-sha256 frame, digests-are-bytes frame)

  latch-fits : (l : Latch) → IsIn l m.records.latches
      → IsFitNumber l.crtc × IsFitNumber l.commit × IsLong l.count × IsFitDigest
      (digest_shown l.picture (frame_bytes m.device.world.things l.picture))
  latch-fits l i =
      let N = numbers_fit s h formed is in
      let f = all_in (LatchFits s h) m.records.latches l N.latches i in
      let crtc = f.crtc in let commit = f.commit in let count = f.count in let most = (few_objects s.topology formed.device).crtcs in
      let few = N.commits in (
        omega (arith, crtc, most),
        omega (arith, commit, few),
        omega (arith, count, short),
        digest-fits l.picture
            (frame_bytes m.device.world.things l.picture),
      )

  event-fits : (client : ℕ) (e : Event) → IsIn e (read_by m client) → IsFitEvent e
  event-fits client e i =
      let found = from-map (λ a. event_in a.reply) (filter (λ a. a.client == client) (replies m)) e
      (subst (IsIn e) (read-told s h is client) i) in
      let a = found.0 in
      let own = in-reverse m.records.replies a (filter-from (λ b. b.client == client) (replies m) a found.1).0 in
      event-of a.reply e found.2 (replies-fit s h formed is a own)

  label-fits : (t : Thing) → IsIn t m.device.world.things → IsFitLabel (name_word s.names t.label)
  label-fits t i = list_all-at (λ u. is_label_in s.names u.label) m.device.world.things t (named_labels s h formed is) i

  thing-fits : (y : Thing) → IsIn y (freed s h) → IsFitLabel (name_word s.names y.label) × IsFitNumber y.id
  thing-fits y i =
      let w = was-freed s plain h (first_machine s.topology) (first_kept s plain) is y i in
      let t = w.there.now in
      let here = find-in (λ u. u.id == y.id) m.device.world.things t w.there.found in
      let numbered : IsNumberedIn 1000 m.device.world.things t.id =
      ids-numbered 1000 m.device.world.things t (history_kept s h plain is).present.lawful.numbered.things here in
      let high = numbered.high in
      let same = find-same m.device.world.things y.id t w.there.found in
      let next = (history_kept s h plain is).present.lawful.numbered.next in
      let few = (numbers_fit s h formed is).ids in
      (subst (λ n. IsFitLabel (name_word s.names n)) w.there.label (label-fits t here), omega (arith, high, same, next, few))

  fence-fits : (label : ℕ) → WaitsForFence s m label → IsFitLabel (name_word s.names label)
  fence-fits label W = subst (λ n. IsFitLabel (name_word s.names n)) W.has_label
      (label-fits W.thing (find-in (λ t. t.id == W.fence) m.device.world.things W.thing W.is_thing))

  end-fits : IsFitEnd (seen_end s m (length h))
  end-fits = by_drained (is_drained s m) refl where
    stalled : (label : ℕ) × (stalled_on s m ≡ Some label) × WaitsForFence s m label → IsFitLabel (stalled_name s.names (stalled_on s m))
    stalled w = subst (λ o. IsFitLabel (stalled_name s.names o)) (sym w.1) (fence-fits w.0 w.2)

    by_dead : (b : Bool) → is_dead s m ≡ b → IsFitEnd (if b then Stalled (stalled_name s.names (stalled_on s m)) else Open (length h))
    by_dead true dead = stalled (dead_names_a_fence s h plain is dead)
    by_dead false dead = short

    by_drained : (b : Bool) → is_drained s m ≡ b
        → IsFitEnd (if b then Drained else (if is_dead s m then Stalled (stalled_name s.names (stalled_on s m)) else Open (length h)))
    by_drained true drained = tt
    by_drained false drained = by_dead (is_dead s m) refl

  steps-fit : (b : Bool) → All IsFitStep (if b then h else [])
  steps-fit true = All-from_recursion IsFitStep h (history_fits s h formed is)
  steps-fit false = λ k d l. absurd (omega (arith, l))

  pub seen-fits : IsFitReport (seen_with s h trace)
  unfolding report_seen
  seen-fits = record {
    journal = all_in-from IsFitEntry (map seen_entry (journal m))
        (each-in-map IsFitEntry seen_entry (journal m) entry-fits);
    replies = all_in-from IsFitAnswer (flat_map (λ client. map seen_answer (answers_to m client)) (client_numbers s))
        (each-in-blocks IsFitAnswer
        (λ client. map seen_answer (answers_to m client)) (client_numbers s)
        (λ client k.
        each-in-map IsFitAnswer seen_answer (answers_to m client)
        (λ a i. answer-fits a (in-reverse m.records.replies a (filter-from (λ b. b.client == client) (replies m) a i).0))));
    latches = all_in-from IsFitLatch (flat_map (λ crtc. map (seen_latch m) (latched m crtc)) (indices_of s.topology Crtc))
        (each-in-blocks IsFitLatch
        (λ crtc. map (seen_latch m) (latched m crtc)) (indices_of s.topology Crtc)
        (λ crtc k.
        each-in-map IsFitLatch (seen_latch m) (latched m crtc)
        (λ l i. latch-fits l (in-reverse m.records.latches l (filter-from (λ x. x.crtc == crtc) (reverse m.records.latches) l i).0))));
    events = all_in-from IsFitTold (flat_map (seen_events m) (client_numbers s))
        (each-in-blocks IsFitTold (seen_events m) (client_numbers s)
        (λ client k.
        each-in-map IsFitTold (λ e. (client, e)) (read_by m client)
        (λ e i. (
          let high = range-below 1 (length s.clients) client k in let few = formed.few in
              omega (arith, high, few),
          event-fits client e i,
        ))));
    freed = all_in-from IsFitFreed (map (seen_thing s.names) (freed s h))
        (each-in-map IsFitFreed (seen_thing s.names) (freed s h) thing-fits);
    end = end-fits;
    steps = steps-fit trace;
  }

  -- so the text of a history's report is read back
  pub text-read : report_read (text s h (record { trace = trace; ppm = false })) ≡ Ok (seen_with s h trace)
  text-read = ap report_read (text-seen s h trace) ∙ read-back (seen_with s h trace) seen-fits
