-- The text of a history's report is that of the report as a value.
use Rattle.std.proofs.Common.{◌≡◌, ℕ, Bool, true, false, List, [], ◌∷◌, ◌++◌, length, map, Option, refl, sym, ap, ◌∙◌, append-nil}
use Rattle.std.proofs.Common.{append_assoc}
use Rattle.std.specs.Prelude.{codes, if◌then◌else◌}
use Rattle.std.specs.Fmt.{decimal}
use Rattle.std.specs.List.{flat_map}
use Rattle.std.proofs.lemmas.List.{map-append}
use Rattle.kms_model.specs.declared.objects.Kind.TheVariants.{Crtc}
use Rattle.kms_model.specs.declared.pictures.Picture.{Picture}
use Rattle.kms_model.specs.declared.pictures.Picture.TheVariants.{Off, On}
use Rattle.kms_model.specs.declared.replies.Answered.{Answered}
use Rattle.kms_model.specs.declared.replies.Event.{Event}
use Rattle.kms_model.specs.declared.replies.Reply.{Reply}
use Rattle.kms_model.specs.declared.replies.Step.{Step}
use Rattle.kms_model.specs.declared.reports.End.TheVariants.{Drained, Stalled, Open}
use Rattle.kms_model.specs.declared.reports.ReportLine.{ReportLine}
use Rattle.kms_model.specs.declared.reports.ReportLine.TheVariants as says
use Rattle.kms_model.specs.declared.runs.Latch.{Latch}
use Rattle.kms_model.specs.declared.scripts.Script.{Script}
use Rattle.kms_model.specs.declared.worlds.Thing.{Thing}
use Rattle.kms_model.specs.Device.Objects.{indices_of}
use Rattle.kms_model.specs.Device.Serial.{Entry}
use Rattle.kms_model.specs.Frames.FrameBytes.{frame_bytes}
use Rattle.kms_model.specs.Machine.Framebuffers.{freed}
use Rattle.kms_model.specs.Machine.Histories.{at, client_numbers, is_dead, is_drained, journal, latched, read_by, stalled_on}
use Rattle.kms_model.specs.Machine.State.{Machine}
use Rattle.kms_model.specs.Report.History.{answer_line, answers_to, digest_of, end_words, entry_line, event_line, event_lines}
use Rattle.kms_model.specs.Report.History.{freed_thing_line, if_wanted, latch_line, report_of, shown_line, stalled_name, step_line, text}
use Rattle.kms_model.specs.Report.ReportLines.{digest_word, ending_words, line_text, report_text}
use Rattle.kms_model.specs.Report.SeenReport.{digest_shown, report_seen, seen_answer, seen_end, seen_entry, seen_events, seen_latch}
use Rattle.kms_model.specs.Report.SeenReport.{seen_thing}
use Rattle.kms_model.specs.Report.TextLines.{line}
use Rattle.kms_told.specs.Told.{seen_with}

-- Lists of lines

flat_map-append : {A B : Type 0} (f : A → List B) (xs ys : List A) → flat_map f (xs ++ ys) ≡ flat_map f xs ++ flat_map f ys
flat_map-append f [] ys = refl
flat_map-append f (x ∷ xs) ys = ap (λ z. f x ++ z) (flat_map-append f xs ys) ∙ sym (append_assoc (f x) (flat_map f xs) (flat_map f ys))

-- the text of some lines
abbrev texts : List ReportLine → List ℕ
texts ls = flat_map line_text ls

texts-append : (ls ms : List ReportLine) → texts (ls ++ ms) ≡ texts ls ++ texts ms
texts-append ls ms = flat_map-append line_text ls ms

one-more : (line : List ℕ) (rest : List ℕ) (other : List ℕ) → rest ≡ other → line ++ rest ≡ line ++ other
one-more line rest other e = ap (λ z. line ++ z) e

module _ {A : Type 0} (says_it : A → ReportLine) (f : ℕ → List A) (written : ℕ → List ℕ)
    (each : (k : ℕ) → texts (map says_it (f k)) ≡ written k) where
  blocks-texts : (ks : List ℕ) → texts (map says_it (flat_map f ks)) ≡ flat_map written ks
  blocks-texts [] = refl
  blocks-texts (k ∷ ks) =
      ap texts (map-append says_it (f k) (flat_map f ks))
      ∙ texts-append (map says_it (f k)) (map says_it (flat_map f ks))
      ∙ (λ i. each k i ++ blocks-texts ks i)

abbrev says_entry : ℕ × ℕ → ReportLine
says_entry e = says.Entry e.0 e.1

abbrev says_answer : ℕ × ℕ × ℕ × Reply → ReportLine
says_answer a = says.Answer a.0 a.1 a.2 a.3

abbrev says_latch : ℕ × ℕ × ℕ × Option (List ℕ) → ReportLine
says_latch l = says.Latch l.0 l.1 l.2 l.3

abbrev says_event : ℕ × Event → ReportLine
says_event e = says.Event e.0 e.1

abbrev says_freed : List ℕ × ℕ → ReportLine
says_freed x = says.Freed x.0 x.1

abbrev says_step : Step → ReportLine
says_step step = says.Stepped step

-- Sections

entries-texts : (es : List Entry) → texts (map says_entry (map seen_entry es)) ≡ flat_map entry_line es
entries-texts [] = refl
entries-texts (e ∷ es) = one-more (entry_line e) (texts (map says_entry (map seen_entry es))) (flat_map entry_line es) (entries-texts es)

answers-texts : (answers : List Answered) → texts (map says_answer (map seen_answer answers)) ≡ flat_map answer_line answers
answers-texts [] = refl
answers-texts (a ∷ answers) =
    one-more (answer_line a) (texts (map says_answer (map seen_answer answers))) (flat_map answer_line answers) (answers-texts answers)

picture-text : (m : Machine) (l : Latch) (p : Picture)
    → line (codes "L" ∷ decimal l.crtc ∷ decimal l.commit ∷ decimal l.count ∷ digest_word
    (digest_shown p (frame_bytes m.device.world.things p)) ∷ [])
    ≡ shown_line m false l p
picture-text m l Off = refl
picture-text m l (On shown) =
    sym (append-nil (line (codes "L" ∷ decimal l.crtc ∷ decimal l.commit ∷ decimal l.count ∷ digest_of
    (frame_bytes m.device.world.things (On shown)) ∷ [])))

latches-texts : (m : Machine) (ls : List Latch) → texts (map says_latch (map (seen_latch m) ls)) ≡ flat_map (latch_line m false) ls
latches-texts m [] = refl
latches-texts m (l ∷ ls) = λ i. picture-text m l l.picture i ++ latches-texts m ls i

events-texts : (client : ℕ) (events : List Event)
    → texts (map says_event (map (λ e. (client, e)) events)) ≡ flat_map (event_line client) events
events-texts client [] = refl
events-texts client (e ∷ events) =
    one-more (event_line client e) (texts (map says_event (map (λ e. (client, e)) events))) (flat_map (event_line client) events)
    (events-texts client events)

freed-texts : (names : List (List ℕ)) (things : List Thing)
    → texts (map says_freed (map (seen_thing names) things)) ≡ flat_map (freed_thing_line names) things
freed-texts names [] = refl
freed-texts names (t ∷ things) =
    one-more (freed_thing_line names t) (texts (map says_freed (map (seen_thing names) things))) (flat_map (freed_thing_line names) things)
    (freed-texts names things)

end-text : (s : Script) (m : Machine) (count : ℕ) → ending_words (seen_end s m count) ≡ end_words s m count
end-text s m count = by_drained (is_drained s m) (is_dead s m) where
  by_drained : (drained dead : Bool)
      → ending_words (if drained then Drained else (if dead then Stalled (stalled_name s.names (stalled_on s m)) else Open count))
      ≡ (if drained then codes "drained" ∷ []
      else (if dead then codes "stalled" ∷ stalled_name s.names (stalled_on s m) ∷ [] else codes "open" ∷ decimal count ∷ []))
  by_drained true dead = refl
  by_drained false true = refl
  by_drained false false = refl

steps-texts : (steps : List Step) → texts (map says_step steps) ≡ flat_map step_line steps
steps-texts [] = refl
steps-texts (step ∷ steps) = one-more (step_line step) (texts (map says_step steps)) (flat_map step_line steps) (steps-texts steps)

trace-texts : (trace : Bool) (h : List Step) → texts (map says_step (if trace then h else [])) ≡ if_wanted trace (flat_map step_line h)
trace-texts true h = steps-texts h
trace-texts false h = refl

-- All lines

module _ (s : Script) (h : List Step) (trace : Bool) where
  abbrev m : Machine
  m = at s h

  abbrev entries : List ReportLine
  entries = map says_entry (map seen_entry (journal m))

  abbrev answers : List ReportLine
  answers = map says_answer (flat_map (λ client. map seen_answer (answers_to m client)) (client_numbers s))

  abbrev latches : List ReportLine
  latches = map says_latch (flat_map (λ crtc. map (seen_latch m) (latched m crtc)) (indices_of s.topology Crtc))

  abbrev events : List ReportLine
  events = map says_event (flat_map (seen_events m) (client_numbers s))

  abbrev closed : List ReportLine
  closed = map says_freed (map (seen_thing s.names) (freed s h))

  abbrev ending : List ReportLine
  ending = says.Ended (seen_end s m (length h)) ∷ map says_step (if trace then h else [])

  sections : texts (entries ++ (answers ++ (latches ++ (events ++ (closed ++ ending)))))
      ≡ texts entries ++ (texts answers ++ (texts latches ++ (texts events ++ (texts closed ++ texts ending))))
  sections =
      texts-append entries (answers ++ (latches ++ (events ++ (closed ++ ending))))
      ∙ ap (λ z. texts entries ++ z) (texts-append answers (latches ++ (events ++ (closed ++ ending)))
      ∙ ap (λ z. texts answers ++ z) (texts-append latches (events ++ (closed ++ ending))
      ∙ ap (λ z. texts latches ++ z) (texts-append events (closed ++ ending)
      ∙ ap (λ z. texts events ++ z) (texts-append closed ending))))

  pub text-seen : text s h (record { trace = trace; ppm = false }) ≡ report_text (seen_with s h trace)
  unfolding report_of report_seen
  text-seen =
      sym (sections
      ∙ (λ i.
      entries-texts (journal m) i
      ++ (blocks-texts says_answer (λ client. map seen_answer (answers_to m client)) (λ client. flat_map answer_line (answers_to m client))
      (λ client. answers-texts (answers_to m client)) (client_numbers s) i
      ++ (blocks-texts says_latch (λ crtc. map (seen_latch m) (latched m crtc)) (λ crtc. flat_map (latch_line m false) (latched m crtc))
      (λ crtc. latches-texts m (latched m crtc)) (indices_of s.topology Crtc) i
      ++ (blocks-texts says_event (seen_events m) (event_lines m) (λ client. events-texts client (read_by m client)) (client_numbers s) i
      ++ (freed-texts s.names (freed s h) i
      ++ (line (codes "D" ∷ end-text s m (length h) i) ++ trace-texts trace h i)))))))
