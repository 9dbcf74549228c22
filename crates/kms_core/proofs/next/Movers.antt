-- Whether a client, a tail or a CRTC that goes has a step.
use Rattle.std.proofs.Common.{◌≡◌, ℕ, ◌+◌, ◌<◌, ◌≤◌, Bool, true, false, [], ◌∷◌, ◌++◌, length, Some, None, refl, sym, ap, ◌∙◌, arith}
use Rattle.std.specs.Prelude.{◌||◌, is_some}
use Rattle.std.specs.List.{flat_map, list_any, range_with_len}
use Rattle.std.proofs.lemmas.Bool.{and_from, lt-ltb, or_left}
use Rattle.std.proofs.lemmas.List.Folds.{list_any-append}
use Rattle.kms_model.specs.declared.objects.Kind.TheVariants.{Conn, Crtc, Plane}
use Rattle.kms_model.specs.declared.replies.Step.{Step}
use Rattle.kms_model.specs.declared.replies.Step.TheVariants as step
use Rattle.kms_model.specs.Device.Objects.{count_of, object_id}
use Rattle.kms_model.specs.Machine.Commits.{has_number}
use Rattle.kms_model.specs.Machine.Histories.{client_numbers, commit_numbers, for_each, steps_of_client, steps_of_commit, steps_with_go}
use Rattle.kms_model.specs.Machine.Registers.{is_on_in}
use Rattle.kms_model.specs.Machine.State.{go_at}
use Rattle.kms_model.specs.Machine.Steps.{is_crtc_of, may}
use Rattle.kms_model.proofs.Items.{list_any-none}
use Rattle.kms_laws.proofs.Drained.{no_step}
use Rattle.kms_track.specs.MachineLaws.{FindsFirst}
use Rattle.kms_core.specs.Next.{client_moves, context_steps, decision_steps, locks_one, other_steps, tail_moves, writes_some}
use Rattle.kms_core.specs.Run.{Run, machine}
use Rattle.kms_core.specs.Stands.{Stores, Stands}
use Rattle.kms_core.proofs.stores.CommitStates.{facts}
use Rattle.kms_core.proofs.stores.FirstTails.{of_all, up_to_first}
use Rattle.kms_core.proofs.stores.Ranges.{any_filtered, any_flat, any_mapped, none_pass, one_passes}

or_false : (b : Bool) → (b || false) ≡ b
or_false true = refl
or_false false = refl

-- a step is legal while the history goes on
abbrev pub able : Run → Step → Bool
able r = may r.script (machine r)

-- Clients

pub some_client : (r : Run) (client : ℕ) → 1 ≤ client → client < 1 + length r.script.clients
    → list_any (able r) (steps_of_client r.script.topology client) ≡ true → true
    ≡ list_any (able r) (flat_map (steps_of_client r.script.topology) (client_numbers r.script))
some_client r client low high moves =
    sym (any_flat (able r) (steps_of_client r.script.topology) (client_numbers r.script) ∙ one_passes
    (λ k. list_any (able r) (steps_of_client r.script.topology k)) 1 (length r.script.clients) client low high moves)

pub no_client_step : (r : Run) → ((client : ℕ) → 1 ≤ client → client < 1 + length r.script.clients
    → list_any (able r) (steps_of_client r.script.topology client) ≡ false) → false
    ≡ list_any (able r) (flat_map (steps_of_client r.script.topology) (client_numbers r.script))
no_client_step r none = sym (any_flat (able r) (steps_of_client r.script.topology) (client_numbers r.script) ∙ none_pass
    (λ k. list_any (able r) (steps_of_client r.script.topology k)) 1 (length r.script.clients) none)

-- Tails

module _ {r : Run} {st : Stores} (stands : Stands r st) where
  pub some_tail : (from k : ℕ) → FindsFirst st.tracker from (Some k) → list_any (able r) (steps_of_commit r.script.topology k) ≡ true
      → true ≡ list_any (able r) (flat_map (steps_of_commit r.script.topology) (commit_numbers (machine r)))
  some_tail from k first moves =
      let within = (first r.script.topology (machine r).device.commits (machine r).device.marks (machine r).records.latches
      stands.stores.tracker).1 in
      sym (any_flat (able r) (steps_of_commit r.script.topology) (commit_numbers (machine r)) ∙ one_passes
      (λ j. list_any (able r) (steps_of_commit r.script.topology j)) 0 (length (machine r).device.commits) k (omega arith)
      (omega (arith, within)) moves)

  cleaned_rests : (j : ℕ) → has_number (machine r).device.marks.cleaned j ≡ true → list_any (able r) (steps_of_commit r.script.topology j)
      ≡ false
  cleaned_rests j clean = list_any-none (able r) (steps_of_commit r.script.topology j)
      (λ step is. no_step r.script (machine r) (facts stands).holds j clean step is)

  pub no_tail_step : (from : ℕ) → FindsFirst st.tracker from None
      → ((j : ℕ) → j < from → list_any (able r) (steps_of_commit r.script.topology j) ≡ false)
      → false ≡ list_any (able r) (flat_map (steps_of_commit r.script.topology) (commit_numbers (machine r)))
  no_tail_step from first before =
      sym (any_flat (able r) (steps_of_commit r.script.topology) (commit_numbers (machine r))
      ∙ none_pass (λ j. list_any (able r) (steps_of_commit r.script.topology j)) 0 (length (machine r).device.commits)
      (λ j low high.
      of_all r.script.topology (machine r).device.commits (machine r).device.marks
      (machine r).records.latches st.tracker stands.stores.tracker (λ i. list_any (able r) (steps_of_commit r.script.topology i) ≡ false)
      cleaned_rests from first before j
      (omega (arith, high))))

  pub rests_further : (from k : ℕ) → FindsFirst st.tracker from (Some k) → list_any (able r) (steps_of_commit r.script.topology k) ≡ false
      → ((j : ℕ) → j < from → list_any (able r) (steps_of_commit r.script.topology j) ≡ false)
      → (j : ℕ) → j < k + 1 → list_any (able r) (steps_of_commit r.script.topology j) ≡ false
  rests_further =
      up_to_first r.script.topology (machine r).device.commits (machine r).device.marks
      (machine r).records.latches st.tracker stands.stores.tracker
      (λ j. list_any (able r) (steps_of_commit r.script.topology j) ≡ false) cleaned_rests

module _ (r : Run) where
  -- Steps of a client, and of a commit, group by group

  locks_told : (client : ℕ) → locks_one r.script (machine r) client
      ≡ list_any (able r) (for_each r.script.topology Crtc (λ kind index. step.Lock client kind index)
      ++ (for_each r.script.topology Plane (λ kind index. step.Lock client kind index)
      ++ for_each r.script.topology Conn (λ kind index. step.Lock client kind index)))
  locks_told client =
      let crtcs = any_mapped (able r) (step.Lock client Crtc) (range_with_len 0 (count_of r.script.topology Crtc)) in
      let planes = any_mapped (able r) (step.Lock client Plane) (range_with_len 0 (count_of r.script.topology Plane)) in
      let conns = any_mapped (able r) (step.Lock client Conn) (range_with_len 0 (count_of r.script.topology Conn)) in
      sym
      (list_any-append (able r) (for_each r.script.topology Crtc (λ kind index. step.Lock client kind index))
      (for_each r.script.topology Plane (λ kind index. step.Lock client kind index)
      ++ for_each r.script.topology Conn (λ kind index. step.Lock client kind index))
      ∙ rw (
        list_any-append (able r) (for_each r.script.topology Plane (λ kind index. step.Lock client kind index))
            (for_each r.script.topology Conn (λ kind index. step.Lock client kind index)),
        crtcs,
        planes,
        conns,
      ) refl)

  pub client_moved : (client : ℕ) → client_moves r.script (machine r) client ≡ list_any (able r) (steps_of_client r.script.topology client)
  client_moved client =
      let locks = for_each r.script.topology Crtc (λ kind index. step.Lock client kind index)
      ++ (for_each r.script.topology Plane (λ kind index. step.Lock client kind index)
      ++ for_each r.script.topology Conn (λ kind index. step.Lock client kind index)) in
      ap (λ b. list_any (able r) (context_steps client)
      || (list_any (able r) (decision_steps client) || (list_any (able r) (other_steps client) || b))) (locks_told client)
      ∙ sym
      (list_any-append (able r) (context_steps client) (decision_steps client ++ (other_steps client ++ locks))
      ∙ ap (λ b. list_any (able r) (context_steps client) || b)
      (list_any-append (able r) (decision_steps client) (other_steps client ++ locks) ∙ ap
      (λ b. list_any (able r) (decision_steps client) || b) (list_any-append (able r) (other_steps client) locks)))

  pub tail_moved : (k : ℕ) → tail_moves r.script (machine r) k ≡ list_any (able r) (steps_of_commit r.script.topology k)
  tail_moved k =
      let crtcs = any_mapped (able r) (step.Write k Crtc) (range_with_len 0 (count_of r.script.topology Crtc)) in
      let planes = any_mapped (able r) (step.Write k Plane) (range_with_len 0 (count_of r.script.topology Plane)) in
      let flushes = any_mapped (able r) (step.Flush k Crtc) (range_with_len 0 (count_of r.script.topology Crtc)) in
      let a = for_each r.script.topology Crtc (λ kind index. step.Write k kind index) in
      let b = for_each r.script.topology Plane (λ kind index. step.Write k kind index) in
      let c = for_each r.script.topology Crtc (λ kind index. step.Flush k kind index) in
      let ends = step.HwDone k ∷ step.Cleanup k ∷ [] in
      let last : (able r (step.HwDone k) || able r (step.Cleanup k))
      ≡ list_any (able r) ends = ap (λ x. able r (step.HwDone k) || x) (sym (or_false (able r (step.Cleanup k)))) in
      ap (λ x. able r (step.Claim k) || x)
      (sym
      (list_any-append (able r) a (b ++ (c ++ ends)) ∙ (λ i. crtcs i || list_any-append (able r) b (c ++ ends) i)
      ∙ ap (λ x. writes_some r.script (machine r) k Crtc || x)
      ((λ i. planes i || list_any-append (able r) c ends i) ∙ ap (λ x. writes_some r.script (machine r) k Plane || x)
      (λ i. flushes i || sym last i))))

  -- CRTCs that go

  pub goes_able : (index : ℕ) → index < count_of r.script.topology Crtc → is_some (go_at (machine r).device (object_id Crtc index)) ≡ true
      → able r (step.Vblank Crtc index) ≡ true
  unfolding may
  goes_able index within goes = and_from (is_crtc_of r.script.topology Crtc index) _ (lt-ltb index (count_of r.script.topology Crtc) within)
      (or_left (is_some (go_at (machine r).device (object_id Crtc index))) (is_on_in (machine r).device.live (object_id Crtc index)) goes)

  abbrev has_go : ℕ → Bool
  has_go index = is_some (go_at (machine r).device (object_id Crtc index))

  go_told : list_any (able r) (steps_with_go r.script.topology (machine r))
      ≡ list_any has_go (range_with_len 0 (count_of r.script.topology Crtc))
  go_told = any_filtered (able r) (step.Vblank Crtc) has_go 0 (count_of r.script.topology Crtc)
      (λ j low high goes. goes_able j (omega (arith, high)) goes)

  pub some_go : (index : ℕ) → index < count_of r.script.topology Crtc → has_go index ≡ true → true
      ≡ list_any (able r) (steps_with_go r.script.topology (machine r))
  some_go index within goes = sym (go_told ∙ one_passes has_go 0 (count_of r.script.topology Crtc) index (omega arith)
      (omega (arith, within)) goes)

  pub no_go : ((index : ℕ) → index < count_of r.script.topology Crtc → has_go index ≡ false) → false
      ≡ list_any (able r) (steps_with_go r.script.topology (machine r))
  no_go rests = sym (go_told ∙ none_pass has_go 0 (count_of r.script.topology Crtc) (λ j low high. rests j (omega (arith, high))))

-- the end of a history is no such step
pub stall_never : (r : Run) {x : Step} → x ≡ step.Stall → false ≡ able r x
unfolding may
stall_never r is = ap (able r) (sym is)
