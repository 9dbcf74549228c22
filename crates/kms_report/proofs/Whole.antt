-- The report from its sections.
use Rattle.std.proofs.Common.{◌≡◌, ℕ, List, [], ◌∷◌, ◌++◌, length, map, refl, sym, ap, ◌∙◌, append_assoc}
use Rattle.std.specs.Prelude.{codes, reverse}
use Rattle.std.specs.List.{flat_map, range_with_len}
use Rattle.kms_model.specs.declared.replies.Answered.{Answered}
use Rattle.kms_model.specs.declared.replies.Step.{Step}
use Rattle.kms_model.specs.declared.runs.Latch.{Latch}
use Rattle.kms_model.specs.declared.scripts.Script.{Script}
use Rattle.kms_model.specs.declared.worlds.Thing.{Thing}
use Rattle.kms_model.specs.Device.Serial.{Entry}
use Rattle.kms_model.specs.Machine.Framebuffers.{freed}
use Rattle.kms_model.specs.Machine.Histories.{at, client_numbers, journal, read_by, replies}
use Rattle.kms_model.specs.Report.History as history
use Rattle.kms_model.specs.Report.TextLines.{line}
use Rattle.kms_model.specs.Report.Right.{events_told}
use Rattle.kms_report.specs.declared.answers.Section.TheVariants.{Events, Replies}
use Rattle.kms_report.specs.Telling.{entry_text, events_text, freed_text, latches_text, all_replies, replies_text, section_text}

flat_map-map : {A B : Type 0} (f : B → List ℕ) (g : A → B) (xs : List A) → flat_map f (map g xs) ≡ flat_map (λ x. f (g x)) xs
flat_map-map f g [] = refl
flat_map-map f g (x ∷ xs) = ap (λ (rest : List ℕ). f (g x) ++ rest) (flat_map-map f g xs)

-- a text that grew by seven pieces
pub grown : (t0 t1 t2 t3 t4 t5 t6 t7 a b c d e f g : List ℕ) → t0 ≡ [] → t1 ≡ t0 ++ a → t2 ≡ t1 ++ b → t3 ≡ t2 ++ c → t4 ≡ t3 ++ d
    → t5 ≡ t4 ++ e → t6 ≡ t5 ++ f → t7 ≡ t6 ++ g
    → t7 ≡ a ++ (b ++ (c ++ (d ++ (e ++ (f ++ g)))))
grown t0 t1 t2 t3 t4 t5 t6 t7 a b c d e f g e0 e1 e2 e3 e4 e5 e6 e7 = rw (e7, e6, e5, e4, e3, e2, e1, e0) (simp append_assoc)

module _ (s : Script) (h : List Step) (o : history.Options) where
  pub journal_piece : flat_map entry_text (map (λ (e : Entry). (e.client, e.command)) (journal (at s h)))
      ≡ flat_map history.entry_line (journal (at s h))
  journal_piece = flat_map-map entry_text (λ (e : Entry). (e.client, e.command)) (journal (at s h))

  pub freed_piece : flat_map (freed_text s.names) (map (λ (thing : Thing). (thing.label, thing.id)) (freed s h))
      ≡ flat_map (history.freed_thing_line s.names) (freed s h)
  freed_piece = flat_map-map (freed_text s.names) (λ (thing : Thing). (thing.label, thing.id)) (freed s h)

  pub events_piece : ((client : ℕ) → read_by (at s h) client ≡ events_told client (replies (at s h)))
      → flat_map (events_text (replies (at s h))) (client_numbers s) ≡ flat_map (history.event_lines (at s h)) (client_numbers s)
  events_piece told = λ i. flat_map (λ client. flat_map (history.event_line client) (sym (told client) i)) (client_numbers s)

  -- the sections in their order are the report
  pub whole : ((client : ℕ) → read_by (at s h) client ≡ events_told client (replies (at s h)))
      → flat_map entry_text (map (λ (e : Entry). (e.client, e.command)) (journal (at s h)))
      ++ (flat_map (replies_text (replies (at s h))) (client_numbers s)
      ++ (flat_map (latches_text (at s h) o.ppm (reverse (at s h).records.latches)) (range_with_len 0 s.topology.crtcs)
      ++ (flat_map (events_text (replies (at s h))) (client_numbers s)
      ++ (flat_map (freed_text s.names) (map (λ (thing : Thing). (thing.label, thing.id)) (freed s h))
      ++ (line (codes "D" ∷ history.end_words s (at s h) (length h))
      ++ history.if_wanted o.trace (flat_map history.step_line h)))))) ≡ history.text s h o
  unfolding history.report_of
  whole told = λ i.
      journal_piece i
      ++ (flat_map (replies_text (replies (at s h))) (client_numbers s)
      ++ (flat_map (latches_text (at s h) o.ppm (reverse (at s h).records.latches)) (range_with_len 0 s.topology.crtcs)
      ++ (events_piece told i
      ++ (freed_piece i
      ++ (line (codes "D" ∷ history.end_words s (at s h) (length h))
      ++ history.if_wanted o.trace (flat_map history.step_line h))))))

  -- the same of what was told
  pub whole-told : (pairs framebuffers : List (ℕ × ℕ)) (answers again : List Answered) (latches : List Latch) (clients crtcs : ℕ)
      (names : List (List ℕ))
      → pairs ≡ map (λ (e : Entry). (e.client, e.command)) (journal (at s h)) → answers ≡ replies (at s h) → latches
      ≡ reverse (at s h).records.latches → again ≡ replies (at s h)
      → framebuffers ≡ map (λ (thing : Thing). (thing.label, thing.id)) (freed s h) → clients ≡ length s.clients → crtcs ≡ s.topology.crtcs
      → names ≡ s.names
      → ((client : ℕ) → read_by (at s h) client ≡ events_told client (replies (at s h)))
      → flat_map entry_text pairs
      ++ (flat_map (section_text Replies answers) (range_with_len 1 clients)
      ++ (flat_map (latches_text (at s h) o.ppm latches) (range_with_len 0 crtcs)
      ++ (flat_map (section_text Events again) (range_with_len 1 clients)
      ++ (flat_map (freed_text names) framebuffers
      ++ (line (codes "D" ∷ history.end_words s (at s h) (length h))
      ++ history.if_wanted o.trace (flat_map history.step_line h)))))) ≡ history.text s h o
  whole-told pairs framebuffers answers again latches clients crtcs names j r l a x c t n told =
      (λ i. flat_map entry_text (j i)
      ++ (flat_map (section_text Replies (r i)) (range_with_len 1 (c i))
      ++ (flat_map (latches_text (at s h) o.ppm (l i)) (range_with_len 0 (t i))
      ++ (flat_map (section_text Events (a i)) (range_with_len 1 (c i))
      ++ (flat_map (freed_text (n i)) (x i)
      ++ (line (codes "D" ∷ history.end_words s (at s h) (length h))
      ++ history.if_wanted o.trace (flat_map history.step_line h)))))))
      ∙ whole told

-- the part with the replies alone
pub only-replies : (s : Script) (h : List Step) (told t0 t1 : List ℕ) (answers : List Answered) (clients : ℕ) → told ≡ t1 → t0 ≡ []
    → t1 ≡ t0 ++ flat_map (section_text Replies answers) (range_with_len 1 clients)
    → answers ≡ replies (at s h) → clients ≡ length s.clients → told ≡ all_replies s (at s h)
only-replies s h told t0 t1 answers clients same empty grew are count =
    same ∙ grew ∙ (λ i. empty i ++ flat_map (section_text Replies (are i)) (range_with_len 1 (count i)))
