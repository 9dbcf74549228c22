-- The report of a history has no line that is wrong.
use Rattle.std.proofs.Common.{◌≡◌, ℕ, List, [], Bool, true, Option, None, ap}
use Rattle.std.specs.Prelude.{not, if◌then◌else◌}
use Rattle.kms_model.specs.declared.replies.Step.{Step}
use Rattle.kms_model.specs.declared.scripts.Script.{Script}
use Rattle.kms_model.specs.Machine.Histories.{at, is_history}
use Rattle.kms_model.specs.Promises.{FreesEachOnce}
use Rattle.kms_model.specs.Report.Right.{first_wrong, number_at}
use Rattle.kms_model.specs.Script.WellFormed.{IsWellFormed}
use Rattle.kms_model.specs.declared.reports.Report.{Report}
use Rattle.kms_model.proofs.CrtcLemmas.{all_in}
use Rattle.kms_model.proofs.Items.{none-number_if, or_else-nones}
use Rattle.kms_laws.specs.Numbers.{LatchFits}
use Rattle.kms_laws.proofs.Headlines.{headline}
use Rattle.kms_laws.proofs.Modes.{plain-from}
use Rattle.kms_laws.proofs.SmallNumbers.{numbers_fit}
use Rattle.kms_told.specs.Told.{seen_with}
use Rattle.kms_told.proofs.CountsRise.{history_counts}
use Rattle.kms_told.proofs.EndRight.{end-right}
use Rattle.kms_told.proofs.EventsRight.{events-off, events-whole}
use Rattle.kms_told.proofs.FreedRight.{freed-off}
use Rattle.kms_told.proofs.LatchesRight.{drained-latched, latches-off}
use Rattle.kms_told.proofs.RepliesTold.{answers-off, answers-whole, entries-off}
use Rattle.kms_told.proofs.Seen.{Sees, seen}

at-none : (n : ℕ) (o : Option ℕ) → o ≡ None → number_at n o ≡ None
at-none n o e = ap (number_at n) e

module _ (s : Script) (h : List Step) (formed : IsWellFormed s) (is : is_history s h ≡ true) (F : FreesEachOnce s h) (r : Report)
    (S : Sees s h (at s h) r) where
  none-wrong : first_wrong s r ≡ None
  unfolding first_wrong
  none-wrong =
      let plain = plain-from s formed in
      let head = headline s h plain is in
      let counts = (history_counts s h plain is).counted in
      let few = all_in (LatchFits s h) (at s h).records.latches in
      let fit = (numbers_fit s h formed is).latches in
      or_else-nones _ _ (at-none _ _ (entries-off s h plain is r S))
      (or_else-nones _ _ (at-none _ _ (answers-off s h plain is r S))
      (or_else-nones _ _ (none-number_if _ _ (ap not (answers-whole s h plain is r S)))
      (or_else-nones _ _ (at-none _ _ (latches-off s h head r S counts))
      (or_else-nones _ _ (at-none _ _ (events-off s h plain is r S (λ l i. (few l fit i).crtc)))
      (or_else-nones _ _ (none-number_if _ _ (ap not (events-whole s h plain is r S (λ l i. (few l fit i).crtc))))
      (or_else-nones _ _ (at-none _ _ (freed-off s h plain is r S F))
      (none-number_if _ _ (ap not (end-right s h formed is r S (drained-latched s h head r S counts))))))))))

pub report-right : (s : Script) (h : List Step) → IsWellFormed s → is_history s h ≡ true → FreesEachOnce s h → (trace : Bool)
    → first_wrong s (seen_with s h trace) ≡ None
report-right s h formed is F trace = none-wrong s h formed is F (seen_with s h trace) (seen s h (at s h) (if trace then h else []))
