-- The D line: labels of fences, and what is drained.
use Rattle.std.proofs.Common.{◌≡◌, ℕ, zero, suc, ◌+◌, ◌-◌, ◌<◌, ◌≤◌, Bool, true, false, List, [], ◌∷◌, ◌++◌, length, get_or, take, drop}
use Rattle.std.proofs.Common.{Option, Some, None, refl, sym, ap, ◌∙◌, subst, arith, append_assoc}
use Rattle.std.proofs.lemmas.Bool.{and_left, cond-true, eqb-true, lt-ltb, not_from_false, or_left, or_right}
use Rattle.std.proofs.lemmas.List.{append-nil, take_all}
use Rattle.std.proofs.lemmas.List.Quantifiers.{position-Some}
use Rattle.std.proofs.lemmas.Option.{slice_get-get_or}
use Rattle.std.specs.List.{list_all, position, range_with_len}
use Rattle.std.specs.Option.{option_map_or}
use Rattle.std.specs.Prelude.{◌&&◌, ◌==◌, not, option_map, slice_get, slice_index_or, if◌then◌else◌}
use Rattle.std.specs.Str.{bytes_eq}
use Rattle.kms_audit.proofs.Apart.{latches-apart}
use Rattle.kms_audit.proofs.FewNames.{few-names}
use Rattle.kms_audit.proofs.Firsts.{off-each}
use Rattle.kms_audit.proofs.Numbers.{answered-none, answered-step}
use Rattle.kms_audit.proofs.Parted.{earliest_none}
use Rattle.kms_audit.proofs.Tracks.{agrees-all, is_met}
use Rattle.kms_audit.specs.declared.latches.Showing.{Showing}
use Rattle.kms_audit.specs.declared.latches.Track.{Track}
use Rattle.kms_audit.specs.declared.order.Block.{Block}
use Rattle.kms_audit.specs.Ended.{AllIsTold}
use Rattle.kms_audit.specs.Judged.{IsBehind}
use Rattle.kms_audit.specs.Latching.{track_on}
use Rattle.kms_audit.specs.Ordered.{IsWholeOrder, no_block}
use Rattle.kms_audit.specs.Sections.{is_pictured, is_placed, tells_picture}
use Rattle.kms_model.specs.declared.objects.Kind.TheVariants.{Crtc}
use Rattle.kms_model.specs.declared.objects.Topology.{Topology}
use Rattle.kms_model.specs.declared.replies.Reply.{Reply}
use Rattle.kms_model.specs.declared.replies.Reply.TheVariants as reply
use Rattle.kms_model.specs.declared.replies.TheConstants.Denied.{NOT_SIGNALLABLE}
use Rattle.kms_model.specs.declared.reports.End.{End}
use Rattle.kms_model.specs.declared.reports.End.TheVariants.{Drained}
use Rattle.kms_model.specs.declared.reports.Report.{Report}
use Rattle.kms_model.specs.declared.scripts.Command.{Command}
use Rattle.kms_model.specs.declared.scripts.Command.TheVariants as command
use Rattle.kms_model.specs.declared.scripts.Script.{Script}
use Rattle.kms_model.specs.declared.worlds.Thing.{Thing}
use Rattle.kms_model.specs.declared.worlds.World.{World}
use Rattle.kms_model.specs.Device.Execution.{execute, signal_refusal, signal_unless}
use Rattle.kms_model.specs.Device.Objects.{exists, object_id}
use Rattle.kms_model.specs.Device.Serial.{Pictured, serial, show}
use Rattle.kms_model.specs.Device.World.{thing_labelled}
use Rattle.kms_model.specs.Firsts.{denied_if}
use Rattle.kms_model.specs.Machine.Histories.{is_made_by_command}
use Rattle.kms_model.specs.Report.Right.{LatchLine, all_is_answered, all_is_latched, commands_from, end_is_right, is_right_end}
use Rattle.kms_model.specs.Report.Right.{label_is_of_fence, latch_is_right, latches_in, lines_of_crtc}
use Rattle.kms_model.specs.Report.RightAnswers.{entries_in, first_off, has_answer}
use Rattle.kms_model.specs.Script.WellFormed.{IsWellFormed}
use Rattle.kms_serial.specs.Device.{Device}

-- Fences

-- what a signal would be told
fence_is : (w : World) (o : Option Thing) (b : Bool) → is_made_by_command o ≡ b
    → (signal_unless w (signal_refusal o)).reply ≡ (if b then reply.Done else reply.Denied NOT_SIGNALLABLE.0)
fence_is w None true e = absurd cc
fence_is w None false e = refl
fence_is w (Some thing) b e = ap (λ x. (signal_unless w (denied_if NOT_SIGNALLABLE (not x))).reply) e ∙ told b where
  told : (x : Bool) → (signal_unless w (denied_if NOT_SIGNALLABLE (not x))).reply
      ≡ (if x then reply.Done else reply.Denied NOT_SIGNALLABLE.0)
  told true = refl
  told false = refl

module _ (t : Topology) (w : World) (client number : ℕ) (told : Reply)
    (is : (execute t w client (command.Signal number)).reply ≡ told) where
  told_by : (b : Bool) → is_made_by_command (thing_labelled w.things number) ≡ b
      → (if b then reply.Done else reply.Denied NOT_SIGNALLABLE.0) ≡ told
  unfolding execute
  told_by b e = sym (fence_is w (thing_labelled w.things number) b e) ∙ is

  pub fence-there : told ≡ reply.Done → true ≡ is_made_by_command (thing_labelled w.things number)
  fence-there done = by_made (is_made_by_command (thing_labelled w.things number)) refl where
    by_made : (b : Bool) → is_made_by_command (thing_labelled w.things number) ≡ b → true ≡ b
    by_made true e = refl
    by_made false e = absurd (let apart : reply.Denied NOT_SIGNALLABLE.0 ≡ reply.Done = told_by false e ∙ done in cc)

  pub fence-gone : (told ≡ reply.Done → ⊥) → false ≡ is_made_by_command (thing_labelled w.things number)
  fence-gone apart = by_made (is_made_by_command (thing_labelled w.things number)) refl where
    by_made : (b : Bool) → is_made_by_command (thing_labelled w.things number) ≡ b → false ≡ b
    by_made true e = absurd (apart (sym (told_by true e)))
    by_made false e = refl

-- Labels

-- a label's number is small
pub label-small : (s : Script) (label : List ℕ) (number : ℕ) → IsWellFormed s
    → Some number ≡ position (bytes_eq label) s.names → number < 33554432
label-small s label number formed is =
    let found = position-Some (bytes_eq label) s.names number [] (sym is) in
    omega (arith, found.0, few-names s formed)

module _ (s : Script) (r : Report) (d : Device) (behind : IsBehind s r d) (label : List ℕ) where
  world_whole : d.world ≡ serial s (entries_in r)
  world_whole = behind.world ∙ ap (serial s) (take_all (length (entries_in r)) (entries_in r) (omega arith))

  pub label-there : (number : ℕ) (b : Bool) → Some number ≡ position (bytes_eq label) s.names
      → b ≡ is_made_by_command (thing_labelled d.world.things number)
      → b ≡ label_is_of_fence s r label
  label-there number b is e =
      e
      ∙ (ap (λ w. is_made_by_command (thing_labelled w.things number)) world_whole
      ∙ ap (λ o. option_map_or (λ n. is_made_by_command (thing_labelled (serial s (entries_in r)).things n)) o false) is)

  pub label-none : None ≡ position (bytes_eq label) s.names → false ≡ label_is_of_fence s r label
  label-none is = ap (λ o. option_map_or (λ n. is_made_by_command (thing_labelled (serial s (entries_in r)).things n)) o false) is

-- All is answered

module _ (s : Script) (r : Report) (blocks : List Block) (whole : IsWholeOrder s r blocks) (formed : IsWellFormed s)
    (at : ℕ) (d : List Command)
    (within : at < length s.clients)
    (rest : list_all (has_answer r) (commands_from (at + 1) (drop at s.clients)) ≡ all_is_answered s r) where
  abbrev lines : ℕ
  lines = (slice_index_or blocks at no_block).end - (slice_index_or blocks at no_block).next

  answered_here : list_all (has_answer r) (commands_from (at + 1) (drop at s.clients))
      ≡ ((lines == length (get_or s.clients at d)) && list_all (has_answer r) (commands_from (at + 1 + 1) (drop (at + 1) s.clients)))
  answered_here = answered-step s r blocks whole at (get_or s.clients at d) (omega (arith, within, formed.few))
      (slice_get-get_or s.clients at d within)

  pub answered-wrong : (lines == length (get_or s.clients at d)) ≡ false → false ≡ all_is_answered s r
  answered-wrong off =
      sym (and_left (lines == length (get_or s.clients at d))
      (list_all (has_answer r) (commands_from (at + 1 + 1) (drop (at + 1) s.clients))) off)
      ∙ (sym answered_here ∙ rest)

  pub answered-rest : (lines == length (get_or s.clients at d)) ≡ true
      → list_all (has_answer r) (commands_from (at + 1 + 1) (drop (at + 1) s.clients)) ≡ all_is_answered s r
  answered-rest on =
      ap (λ b. b && list_all (has_answer r) (commands_from (at + 1 + 1) (drop (at + 1) s.clients))) (sym on)
      ∙ (sym answered_here ∙ rest)

pub answered-all : (s : Script) (r : Report) (blocks : List Block) (whole : IsWholeOrder s r blocks) (at : ℕ) → length s.clients ≤ at
    → list_all (has_answer r) (commands_from (at + 1) (drop at s.clients)) ≡ all_is_answered s r → true ≡ all_is_answered s r
answered-all s r blocks whole at past rest = sym (answered-none s r blocks whole at past) ∙ rest

-- All is latched

off_none : {A : Type 0} (test : List A → A → Bool) (before xs : List A)
    → ((k : ℕ) (x : A) → slice_get xs k ≡ Some x → test (before ++ take k xs) x ≡ true)
    → first_off test before xs ≡ None
unfolding first_off
off_none test before [] each = refl
off_none {A} test before (x ∷ xs) each =
    let here : test before x ≡ true = subst (λ (b : List A). test b x ≡ true) (append-nil before) (each 0 x refl) in
    ap (λ b. if b then option_map (λ place. place + 1) (first_off test (before ++ x ∷ []) xs) else Some 0) here
    ∙ ap (option_map (λ place. place + 1)) (off_none test (before ++ x ∷ []) xs (λ k y g.
    subst (λ (b : List A). test b y ≡ true) (sym (append_assoc before (x ∷ []) (take k xs))) (each (suc k) y g)))

all_same : (p q : ℕ → Bool) (a n : ℕ) → ((k : ℕ) → a ≤ k → k < a + n → p k ≡ q k)
    → list_all p (range_with_len a n) ≡ list_all q (range_with_len a n)
all_same p q a zero same = refl
all_same p q a (suc n) same =
    ap (λ b. b && list_all p (range_with_len (a + 1) n)) (same a (omega arith) (omega arith))
    ∙ ap (λ b. q a && b) (all_same p q (a + 1) n (λ k low high. same k (omega arith) (omega arith)))

module _ (s : Script) (r : Report) (right : first_off (latch_is_right s r) [] (latches_in r) ≡ None) where
  pictured_none : first_off (is_pictured s r) [] (latches_in r) ≡ None
  pictured_none =
      (earliest_none (first_off (is_placed s.topology) [] (latches_in r)) (first_off (is_pictured s r) [] (latches_in r))
      (sym (latches-apart s r) ∙ right)).1

  abbrev shown_on : ℕ → List Pictured
  shown_on crtc = show s (entries_in r) (object_id Crtc crtc)

  met_of : (crtc : ℕ) (before : List LatchLine) (l : LatchLine) → crtc < s.topology.crtcs → is_pictured s r before l ≡ true
      → is_met crtc (shown_on crtc) before l ≡ true
  met_of crtc before l on pictured = by_own (l.crtc == crtc) refl where
    by_own : (b : Bool) → (l.crtc == crtc) ≡ b → is_met crtc (shown_on crtc) before l ≡ true
    by_own false e =
        or_left (not (l.crtc == crtc)) (tells_picture l (slice_get (shown_on crtc) (length (lines_of_crtc crtc before))))
        (not_from_false (l.crtc == crtc) e)
    by_own true e =
        let same = eqb-true l.crtc crtc e in
        let there : exists s.topology Crtc l.crtc ≡ true = lt-ltb l.crtc s.topology.crtcs (omega (arith, same, on)) in
        let tells : tells_picture l (slice_get (shown_on l.crtc) (length (lines_of_crtc l.crtc before))) ≡ true =
        sym (cond-true (exists s.topology Crtc l.crtc)
        (tells_picture l (slice_get (shown_on l.crtc) (length (lines_of_crtc l.crtc before)))) true there) ∙ pictured in
        or_right (not (l.crtc == crtc)) (tells_picture l (slice_get (shown_on crtc) (length (lines_of_crtc crtc before))))
        (subst (λ n. tells_picture l (slice_get (shown_on n) (length (lines_of_crtc n before))) ≡ true) same tells)

  met_none : (crtc : ℕ) → crtc < s.topology.crtcs → first_off (is_met crtc (shown_on crtc)) [] (latches_in r) ≡ None
  met_none crtc on =
      off_none (is_met crtc (shown_on crtc)) [] (latches_in r)
      (λ k l g. met_of crtc (take k (latches_in r)) l on (off-each (is_pictured s r) [] (latches_in r) k l pictured_none g))

pub all-latched : (s : Script) (r : Report) (showing : Showing) → AllIsTold s r showing
    → list_all (λ crtc. (track_on showing.tracks crtc).agrees) (range_with_len 0 s.topology.crtcs) ≡ all_is_latched s r
all-latched s r showing told =
    all_same (λ crtc. (track_on showing.tracks crtc).agrees)
    (λ crtc. length (lines_of_crtc crtc (latches_in r)) == length (show s (entries_in r) (object_id Crtc crtc))) 0 s.topology.crtcs
    (λ crtc low high.
    let on : crtc < s.topology.crtcs = omega arith in
    ap (λ (x : Track). x.agrees) (told.tracks crtc on)
    ∙ agrees-all r.latches crtc (show s (entries_in r) (object_id Crtc crtc)) (met_none s r told.latches crtc on))

-- The end

pub end-as : (s : Script) (r : Report) (end : End) (b : Bool) → r.end ≡ end → b ≡ is_right_end s r end → b ≡ end_is_right s r
unfolding end_is_right
end-as s r end b is e = e ∙ ap (is_right_end s r) (sym is)

pub end-drained : (s : Script) (r : Report) (answered told : Bool) → r.end ≡ Drained → answered ≡ all_is_answered s r
    → told ≡ all_is_latched s r
    → (b : Bool) → b ≡ (answered && told) → b ≡ end_is_right s r
end-drained s r answered told end e f b is =
    end-as s r Drained b end (is ∙ (ap (λ x. x && told) e ∙ ap (λ x. all_is_answered s r && x) f))
