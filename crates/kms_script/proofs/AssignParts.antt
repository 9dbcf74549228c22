-- What the tests of an assignment and of a request say, by name.
use Rattle.std.proofs.Common.{◌≡◌, ℕ, ◌<◌, ◌≤◌, ◌^◌, true, List}
use Rattle.std.specs.List.{list_all}
use Rattle.std.proofs.lemmas.Bool.{and_parts, leb-true, ltb-true}
use Rattle.kms_model.specs.declared.scripts.Assign.{Assign}
use Rattle.kms_model.specs.declared.scripts.Command.TheVariants as command
use Rattle.kms_model.specs.declared.scripts.Request.{Request}
use Rattle.kms_model.specs.Script.WellFormed.{is_assign_in, is_command_in, is_property_in, is_value_in}

pub record IsAssign (profile : ℕ) (all : List (List ℕ)) (a : Assign) : Type 0 where
  pub index : a.index ≤ 255
  pub prop : is_property_in profile all a.prop ≡ true
  pub value : is_value_in all a.value ≡ true

pub assign_is : (profile : ℕ) (all : List (List ℕ)) (a : Assign) → is_assign_in profile all a ≡ true → IsAssign profile all a
assign_is profile all a is =
    let outer = and_parts _ _ is in
    let inner = and_parts (is_property_in profile all a.prop) (is_value_in all a.value) outer.1 in
    record { index = leb-true a.index 255 outer.0; prop = inner.0; value = inner.1 }

pub record IsAsked (profile : ℕ) (all : List (List ℕ)) (r : Request) : Type 0 where
  pub flags : r.flags < 2 ^ 32
  pub user : r.user_data < 2 ^ 64
  pub assigns : list_all (is_assign_in profile all) r.assigns ≡ true

pub is_asked : (profile : ℕ) (all : List (List ℕ)) (r : Request) → is_command_in profile all (command.Atomic r) ≡ true
    → IsAsked profile all r
is_asked profile all r is =
    let flags = and_parts _ _ is in
    let rest = and_parts _ (list_all (is_assign_in profile all) r.assigns) flags.1 in
    record { flags = ltb-true r.flags (2 ^ 32) flags.0; user = ltb-true r.user_data (2 ^ 64) rest.0; assigns = rest.1 }
