-- A client that waits for its commit, and goes on after it.
use Rattle.std.proofs.Common.{◌≡◌, ℕ, ◌<◌, true, [], ◌∷◌, refl, sym, ap, ◌∙◌, arith}
use Rattle.std.specs.Prelude.{not, ◌&&◌}
use Rattle.std.proofs.lemmas.Bool.{and_from, and_parts}
use Rattle.kms_model.specs.declared.runs.Doing.TheVariants as doing
use Rattle.kms_model.specs.declared.runs.Place.{Place}
use Rattle.kms_model.specs.declared.replies.Step.TheVariants as step
use Rattle.kms_model.specs.Machine.Effects.{next, goes_on as client_goes_on}
use Rattle.kms_model.specs.Machine.Histories.{legal}
use Rattle.kms_model.specs.Machine.State.{doing_at}
use Rattle.kms_model.specs.Machine.Steps.{may, returning_of}
use Rattle.kms_wwlock.specs.InStep.{AreClientsOf}
use Rattle.kms_wwlock.specs.Standing.{Standing, IsClient, place_of}
use Rattle.kms_laws.proofs.SmallNumbers.{numbers_fit}
use Rattle.kms_laws.proofs.ContextsAtAll.{returning-is}
use Rattle.kms_track.proofs.MachineAnswers.{cleaned_machine}
use Rattle.kms_track.specs.Tracking.{cleaned_of}
use Rattle.kms_core.specs.Calls.{MayReturn, is_some_cleaned, is_over_at}
use Rattle.kms_core.specs.Run.{Run, gains, machine}
use Rattle.kms_core.specs.Stands.{Stores, Stands}
use Rattle.kms_core.proofs.stores.Beside.{stands_beside}
use Rattle.kms_core.proofs.stores.Histories.{goes_on}
use Rattle.kms_core.proofs.Places.{is_client}

-- what the store has of the client
pub record WaitsFor (r : Run) (st : Stores) (client : ℕ) : Type 0 where
  pub commit : ℕ
  pub is_client : IsClient client
  pub doing_is : doing_at (machine r) client ≡ doing.Returning commit
  pub waits : (place_of st.clients client).doing ≡ doing.Returning commit
  pub command_fits : (place_of st.clients client).command < 4294967295

module _ {r : Run} {st : Stores} (stands : Stands r st) (client : ℕ) (asked : MayReturn r client) where
  pub waits_for : WaitsFor r st client
  waits_for =
      let is = is_client client stands.formed (asked.low, asked.high) in
      let place = stands.stores.clients.places client is in
      let fit = (numbers_fit r.script r.steps stands.formed stands.history).commands client in
      let does = returning-is (doing_at (machine r) client) asked.commit asked.returning in
      record {
        commit = asked.commit;
        is_client = is;
        doing_is = does;
        waits = ap (λ (p : Place). p.doing) place ∙ does;
        command_fits = omega (arith, fit, ap (λ (p : Place). p.command) place);
      }

  -- the tracker tells whether the commit is over, while the history goes on
  pub tells_over : {commit : ℕ} → (place_of st.clients client).doing ≡ doing.Returning commit
      → (not st.stalled && cleaned_of st.tracker commit) ≡ is_over_at r client
  tells_over {commit} place =
      let does : doing_at (machine r) client ≡ doing.Returning commit = waits_for.doing_is ∙ sym waits_for.waits ∙ place in
      ap (λ b. not b && cleaned_of st.tracker commit) (sym stands.stores.ended)
      ∙ ap (λ b. not (machine r).stalled && b)
      (cleaned_machine r.script.topology (machine r) st.tracker commit stands.stores.tracker ∙ ap
      (λ d. is_some_cleaned (machine r) (returning_of d)) (sym does))

  pub returns : {w : Run} {clients : Standing} → is_over_at r client ≡ true → w ≡ gains r (step.Return client ∷ [])
      → AreClientsOf (client_goes_on (machine r) client).contexts clients → Stands w (record st { clients = clients })
  unfolding next legal may
  returns {clients = clients} over more after =
      goes_on (step.Return client) refl refl refl stands more
      (let parts = and_parts (not (machine r).stalled) _ over in
      and_from (not (machine r).stalled) _ parts.0 (rw asked.returning (ap (is_some_cleaned (machine r)) (sym asked.returning) ∙ parts.1)))
      (stands_beside (client_goes_on (machine r) client) clients
      (record { device = refl; records = refl; events = refl; stalled = refl }) after stands.stores)
