-- What happens to the open values among things as one is closed.
use Rattle.std.proofs.Common.{◌≡◌, ℕ, ◌+◌, ◌<◌, List, [], ◌∷◌, Bool, true, false, eqb, inl, inr, arith, refl, ap, ◌∙◌}
use Rattle.std.proofs.lemmas.Bool.Decides.{nat_tests, eqb_tells}
use Rattle.std.specs.Prelude.{Option, Some, None, if◌then◌else◌}
use Rattle.std.specs.List.{cons_option}
use Rattle.std.specs.Option.{option_and_then, option_map}
use Rattle.kms_model.specs.declared.tables.Slot.{Slot}
use Rattle.kms_model.specs.declared.worlds.Content.{Content}
use Rattle.kms_model.specs.declared.worlds.Thing.{Thing}
use Rattle.kms_model.specs.Device.Closing.{closed_if, closed_in}
use Rattle.kms_model.specs.Device.Sound.{AreNumbered}
use Rattle.kms_model.specs.Device.World.{thing_with_id}
use Rattle.kms_model.specs.Things.OpenThings.{open_value, open_values, value_if_open}
use Rattle.kms_model.specs.Things.Tables.{slot, value_with_id, without_id}

module _ {V : Type 0} where
  -- the value that stands first where it is open
  abbrev if_open : Bool → ℕ → Option V → Option (Slot V)
  if_open is at value = if is then option_map (slot at) value else None

  pub without_id-same : (is : Bool) (id at : ℕ) (value : Option V) (rest : List (Slot V)) → eqb at id ≡ true → without_id rest id
      ≡ without_id (cons_option (if_open is at value) rest) id
  without_id-same false id at value rest e = refl
  without_id-same true id at None rest e = refl
  without_id-same true id at (Some v) rest e = rw e refl

  pub without_id-other : (is : Bool) (id at : ℕ) (value : Option V) (rest : List (Slot V)) → eqb at id ≡ false
      → cons_option (if_open is at value) (without_id rest id) ≡ without_id (cons_option (if_open is at value) rest) id
  without_id-other false id at value rest e = refl
  without_id-other true id at None rest e = refl
  without_id-other true id at (Some v) rest e = rw e refl

  module _ (value_of : ℕ → Content → Option V) where
    one_closed : (b : Bool) (id : ℕ) (t : Thing) (rest : List (Slot V)) → eqb t.id id ≡ b
        → cons_option (open_value value_of (closed_if id t)) (without_id rest id) ≡ without_id (cons_option (open_value value_of t) rest) id
    one_closed true id t rest e = rw e (without_id-same t.is_open id t.id (value_of t.owner t.content) rest e)
    one_closed false id t rest e = rw e (without_id-other t.is_open id t.id (value_of t.owner t.content) rest e)

    -- the open values after the thing with an id was closed
    pub closed_values : (id : ℕ) (things : List Thing) → open_values value_of (closed_in things id)
        ≡ without_id (open_values value_of things) id
    closed_values id [] = refl
    closed_values id (t ∷ things) =
        ap (cons_option (open_value value_of (closed_if id t))) (closed_values id things) ∙ one_closed (eqb t.id id) id t
        (open_values value_of things) refl

    apart_below : (n a b : ℕ) → a ≡ n → b < n → eqb a b ≡ false
    apart_below n a b e lt = grind (arith, nat_tests)

    -- a value under another id is passed over
    value-apart : (is : Bool) (id at : ℕ) (value : Option V) (rest : List (Slot V)) → eqb at id ≡ false
        → value_with_id (cons_option (if_open is at value) rest) id ≡ value_with_id rest id
    value-apart false id at value rest e = refl
    value-apart true id at None rest e = refl
    value-apart true id at (Some v) rest e = rw e refl

    value-here : (is : Bool) (id at : ℕ) (value : Option V) (rest : List (Slot V)) → eqb at id ≡ true → value_with_id rest id ≡ None
        → value_with_id (cons_option (if_open is at value) rest) id ≡ (if is then value else None)
    value-here false id at value rest e none = none
    value-here true id at None rest e none = none
    value-here true id at (Some v) rest e none = rw e refl

    -- no open value has a lower id
    none_below : (n id : ℕ) (things : List Thing) → AreNumbered n things → id < n → value_with_id (open_values value_of things) id ≡ None
    none_below n id [] numbered lt = refl
    none_below n id (t ∷ things) numbered lt =
        value-apart t.is_open id t.id (value_of t.owner t.content) (open_values value_of things) (apart_below n t.id id numbered.0 lt) ∙
        none_below (n + 1) id things numbered.1 (omega arith)

    -- the open value under an id is that of the thing with the id, where it is open
    pub found_open : (n id : ℕ) (things : List Thing) → AreNumbered n things → value_with_id (open_values value_of things) id
        ≡ option_and_then (value_if_open value_of) (thing_with_id things id)
    found_open n id [] numbered = refl
    found_open n id (t ∷ things) numbered =
        elim (eqb_tells t.id id) [
          | inl here ↦ (
              let none = none_below (n + 1) id things numbered.1 (let e = here.1 in omega (arith, numbered.0, e)) in
              rw here.0 (value-here t.is_open id t.id (value_of t.owner t.content) (open_values value_of things) here.0 none))
          | inr away ↦ rw away.0 (value-apart t.is_open id t.id (value_of t.owner t.content) (open_values value_of things) away.0 ∙
              found_open (n + 1) id things numbered.1)
        ]
