-- Drained histories, told by the tails that are left.
use Rattle.std.proofs.Common.{◌≡◌, ℕ, Bool, true, false, length, Option, Some, None, refl, sym, ap, ◌∙◌, arith}
use Rattle.std.specs.Prelude.{◌&&◌, is_none, is_some, not}
use Rattle.std.specs.List.{list_all}
use Rattle.std.proofs.lemmas.Bool.{false≢true}
use Rattle.kms_model.specs.Machine.Commits.{is_cleaned}
use Rattle.kms_model.specs.Machine.Histories.{client_numbers, commit_numbers, is_at_end, is_drained}
use Rattle.kms_track.specs.MachineLaws.{FindsFirst, IsFirstFrom}
use Rattle.kms_core.specs.Run.{Run, machine}
use Rattle.kms_core.specs.Stands.{Stores, Stands}
use Rattle.kms_core.proofs.stores.Ranges.{all_pass, one_fails}

pub none_is : {A : Type 0} (o : Option A) (b : Bool) → is_some o ≡ not b → b ≡ is_none o
none_is None true e = refl
none_is None false e = absurd (false≢true e)
none_is (Some a) true e = absurd (false≢true (sym e))
none_is (Some a) false e = refl

cleaned_from : (r : Run) (o : Option ℕ) → IsFirstFrom (machine r).device.marks (length (machine r).device.commits) 0 o
    → is_none o ≡ list_all (is_cleaned (machine r).device) (commit_numbers (machine r))
cleaned_from r None first = sym (all_pass (is_cleaned (machine r).device) 0 (length (machine r).device.commits)
    (λ j low high. first j low (omega (arith, high))))
cleaned_from r (Some k) first =
    let within = first.1 in
    sym (one_fails (is_cleaned (machine r).device) 0 (length (machine r).device.commits) k (omega arith) (omega (arith, within)) first.2)

pub cleaned_told : {r : Run} {st : Stores} (o : Option ℕ) (b : Bool) → Stands r st → FindsFirst st.tracker 0 o → is_some o ≡ not b
    → b ≡ list_all (is_cleaned (machine r).device) (commit_numbers (machine r))
cleaned_told {r} o b stands first none =
    none_is o b none ∙ cleaned_from r o
    (first r.script.topology (machine r).device.commits (machine r).device.marks (machine r).records.latches stands.stores.tracker)

module _ (v : Run) where
  pub drained_both : {b : Bool} → list_all (is_at_end v.script (machine v)) (client_numbers v.script) ≡ true → b
      ≡ list_all (is_cleaned (machine v).device) (commit_numbers (machine v)) → b ≡ is_drained v.script (machine v)
  unfolding is_drained
  drained_both ended is = is ∙ ap (λ x. x && list_all (is_cleaned (machine v).device) (commit_numbers (machine v))) (sym ended)

  pub drained_not : list_all (is_at_end v.script (machine v)) (client_numbers v.script) ≡ false → false ≡ is_drained v.script (machine v)
  unfolding is_drained
  drained_not going = ap (λ x. x && list_all (is_cleaned (machine v).device) (commit_numbers (machine v))) (sym going)
