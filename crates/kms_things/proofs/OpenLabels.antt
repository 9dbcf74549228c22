-- The first open thing with an id is the one with the id, where that is open: ids differ.
use Rattle.std.proofs.Common.{◌≡◌, ℕ, ◌+◌, ◌<◌, Bool, true, false, List, [], ◌∷◌, None, eqb, refl, ap, inl, inr, arith}
use Rattle.std.specs.Prelude.{find, ◌&&◌, ◌==◌}
use Rattle.std.proofs.lemmas.Bool.Decides.{eqb_tells, nat_tests}
use Rattle.kms_model.specs.declared.worlds.Thing.{Thing}
use Rattle.kms_model.specs.Device.Sound.{AreNumbered}
use Rattle.kms_model.specs.Device.World.{thing_with_id}
use Rattle.kms_model.specs.Machine.Histories.{label_of_thing}
use Rattle.kms_model.specs.Order.Suspending.{open_label}
use Rattle.kms_things.specs.Labels.{label_if_open}

abbrev is_open_with : ℕ → Thing → Bool
is_open_with id thing = (thing.id == id) && thing.is_open

not_same : (a b : ℕ) → a < b → eqb b a ≡ false
not_same a b lt = grind (arith, nat_tests)

-- no thing behind one with the id has it
none_behind : (n id : ℕ) (ts : List Thing) → AreNumbered n ts → id < n → find (is_open_with id) ts ≡ None
none_behind n id [] h lt = refl
none_behind n id (t ∷ ts) h lt = rw (h.0, not_same id n lt) (none_behind (n + 1) id ts h.1 (omega arith))

first_is : (n id : ℕ) (t : Thing) (ts : List Thing) → AreNumbered n (t ∷ ts) → eqb t.id id ≡ true → id < n + 1 → (b : Bool) → t.is_open ≡ b
    → open_label (t ∷ ts) id ≡ label_if_open (thing_with_id (t ∷ ts) id)
unfolding open_label
first_is n id t ts h here low true is = rw (here, is) refl
first_is n id t ts h here low false is = rw (here, is) (ap label_of_thing (none_behind (n + 1) id ts h.1 low))

pub open_one : (n id : ℕ) (ts : List Thing) → AreNumbered n ts → open_label ts id ≡ label_if_open (thing_with_id ts id)
unfolding open_label
open_one n id [] h = refl
open_one n id (t ∷ ts) h =
    elim (eqb_tells t.id id) [
      | inl here ↦ first_is n id t ts h here.0 (omega (arith, h.0, here.1)) t.is_open refl
      | inr away ↦ rw away.0 (open_one (n + 1) id ts h.1)
    ]
