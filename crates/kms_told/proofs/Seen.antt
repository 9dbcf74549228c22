-- What the report of a history has, list by list.
use Rattle.std.proofs.Common.{◌≡◌, List, [], ◌∷◌, ◌++◌, length, map, refl, ap, ◌∙◌}
use Rattle.std.specs.List.{flat_map}
use Rattle.std.proofs.lemmas.List.{map-append}
use Rattle.kms_model.specs.declared.replies.Answered.{Answered}
use Rattle.kms_model.specs.declared.replies.Step.{Step}
use Rattle.kms_model.specs.declared.reports.Report.{Report}
use Rattle.kms_model.specs.declared.runs.Latch.{Latch}
use Rattle.kms_model.specs.declared.scripts.Script.{Script}
use Rattle.kms_model.specs.Device.Objects.{indices_of}
use Rattle.kms_model.specs.declared.objects.Kind.TheVariants.{Crtc}
use Rattle.kms_model.specs.Device.Serial.{Entry}
use Rattle.kms_model.specs.Frames.FrameBytes.{frame_bytes}
use Rattle.kms_model.specs.Machine.Framebuffers.{freed}
use Rattle.kms_model.specs.Machine.Histories.{client_numbers, journal, latched}
use Rattle.kms_model.specs.Machine.State.{Machine}
use Rattle.kms_model.specs.Report.History.{answers_to}
use Rattle.kms_model.specs.Report.Right.{LatchLine, latch_from, latches_in}
use Rattle.kms_model.specs.Report.RightAnswers.{answer_from, answers_in, entries_in, entry_from}
use Rattle.kms_model.specs.Report.SeenReport.{digest_shown, report_seen, seen_answer, seen_end, seen_entry, seen_events, seen_latch}
use Rattle.kms_model.specs.Report.SeenReport.{seen_thing}

pub map-flat_map : {A B C : Type 0} (g : B → C) (f : A → List B) (xs : List A) → map g (flat_map f xs) ≡ flat_map (λ x. map g (f x)) xs
map-flat_map g f [] = refl
map-flat_map g f (x ∷ xs) = map-append g (f x) (flat_map f xs) ∙ ap (λ z. map g (f x) ++ z) (map-flat_map g f xs)

pub flat_map-same : {A B : Type 0} (f g : A → List B) → ((x : A) → f x ≡ g x) → (xs : List A) → flat_map f xs ≡ flat_map g xs
flat_map-same f g same [] = refl
flat_map-same f g same (x ∷ xs) = λ i. same x i ++ flat_map-same f g same xs i

entries-back : (es : List Entry) → map entry_from (map seen_entry es) ≡ es
entries-back [] = refl
entries-back (e ∷ es) = ap (λ z. e ∷ z) (entries-back es)

answers-back : (answers : List Answered) → map answer_from (map seen_answer answers) ≡ answers
answers-back [] = refl
answers-back (a ∷ answers) = ap (λ z. a ∷ z) (answers-back answers)

-- the L line of a latch
abbrev pub line_of : Machine → Latch → LatchLine
line_of m l = record {
  crtc = l.crtc;
  commit = l.commit;
  count = l.count;
  digest =
      digest_shown l.picture (frame_bytes m.device.world.things l.picture);
}

latches-back : (m : Machine) (ls : List Latch) → map latch_from (map (seen_latch m) ls) ≡ map (line_of m) ls
latches-back m [] = refl
latches-back m (l ∷ ls) = ap (λ z. line_of m l ∷ z) (latches-back m ls)

-- a report tells a machine
pub record Sees (s : Script) (h : List Step) (m : Machine) (r : Report) : Type 0 where
  pub entries : entries_in r ≡ journal m
  pub answers : answers_in r ≡ flat_map (answers_to m) (client_numbers s)
  pub latches : latches_in r ≡ flat_map (λ crtc. map (line_of m) (latched m crtc)) (indices_of s.topology Crtc)
  pub events : r.events ≡ flat_map (seen_events m) (client_numbers s)
  pub freed : r.freed ≡ map (seen_thing s.names) (freed s h)
  pub end : r.end ≡ seen_end s m (length h)

-- so does the report of a history, with any steps
pub seen : (s : Script) (h : List Step) (m : Machine) (steps : List Step) → Sees s h m (record (report_seen s h m) { steps = steps })
unfolding report_seen
seen s h m steps = record {
  entries = entries-back (journal m);
  answers = map-flat_map answer_from (λ client. map seen_answer (answers_to m client)) (client_numbers s)
      ∙ flat_map-same (λ client. map answer_from (map seen_answer (answers_to m client))) (answers_to m)
      (λ client. answers-back (answers_to m client)) (client_numbers s);
  latches = map-flat_map latch_from (λ crtc. map (seen_latch m) (latched m crtc)) (indices_of s.topology Crtc)
      ∙ flat_map-same (λ crtc. map latch_from (map (seen_latch m) (latched m crtc))) (λ crtc. map (line_of m) (latched m crtc))
      (λ crtc. latches-back m (latched m crtc)) (indices_of s.topology Crtc);
  events = refl;
  freed = refl;
  end = refl;
}
