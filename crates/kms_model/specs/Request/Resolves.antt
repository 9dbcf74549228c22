-- What holds of a request that passes the early refusals, and what it asks for.
use Rattle.std.specs.Prelude.{◌≡◌, ℕ, ◌<◌, ◌≤◌, ◌^◌, false, ℤ, pos, negsuc, None, IsTrue, ⊤}
use Rattle.kms_model.specs.declared.objects.Kind.{Kind}
use Rattle.kms_model.specs.declared.objects.Kind.TheVariants as kind
use Rattle.kms_model.specs.declared.objects.Topology.{Topology}
use Rattle.kms_model.specs.declared.scripts.Assign.{Assign}
use Rattle.kms_model.specs.declared.scripts.Request.{Request}
use Rattle.kms_model.specs.declared.scripts.Value.{Value}
use Rattle.kms_model.specs.declared.scripts.Value.TheVariants.{Num, Named, New, Crtc}
use Rattle.kms_model.specs.declared.sets.Resolved.{Resolved}
use Rattle.kms_model.specs.declared.worlds.Look.{Look}
use Rattle.kms_model.specs.Request.Apply.{prop_of}
use Rattle.kms_model.specs.Device.Objects.{exists}
use Rattle.kms_model.specs.Request.Refusals.{early_refusal, has_property, is_immutable, is_value}
use Rattle.kms_model.specs.Request.Sets.{in_fences, last_sets, out_fences}

-- An assignment that is not refused by itself: its object exists and has the property, which may be set, and
-- the value is among the property's values.
pub record IsAllowed (t : Topology) (f : ℕ → Look) (a : Assign) : Type 0 where
  pub exists : IsTrue (exists t a.kind a.index)
  pub has : IsTrue (has_property t a.kind a.prop)
  pub mutable : is_immutable a.prop ≡ false
  pub value : IsTrue (is_value t f a.prop a.value)

-- the numbers that some property can have
abbrev pub IsSettableNumber : ℤ → Type 0
IsSettableNumber (pos n) = n < 2 ^ 32
IsSettableNumber (negsuc n) = n < 2 ^ 31

abbrev pub IsSettableValue : Value → Type 0
IsSettableValue (Num n) = IsSettableNumber n
IsSettableValue (Named label) = ⊤
IsSettableValue (New label) = ⊤
IsSettableValue (Crtc index) = index < 4

-- some device has an object of this kind, with properties, and this index
abbrev pub HasPlace : Kind → ℕ → Type 0
HasPlace kind.Crtc index = index < 4
HasPlace kind.Plane index = index < 16
HasPlace kind.Conn index = index < 8
HasPlace kind.Enc index = ⊥

-- an assignment whose object is within the limits of every device, whose property is in the table, and whose value some
-- property can have
pub record IsSettable (a : Assign) : Type 0 where
  pub place : HasPlace a.kind a.index
  pub index : a.index < 16
  pub prop : prop_of a.prop ≤ 19
  pub value : IsSettableValue a.value

-- What a request asks for, over a device and what labels name: no early refusal is due, and the parts are those of
-- its assignments.
pub record IsResolved (t : Topology) (f : ℕ → Look) (r : Request) (resolved : Resolved) : Type 0 where
  pub accepted : early_refusal t f r ≡ None
  pub flags : resolved.flags ≡ r.flags
  pub user_data : resolved.user_data ≡ r.user_data
  pub sets : resolved.sets ≡ last_sets f r.assigns
  pub in_fences : resolved.in_fences ≡ in_fences t f r.assigns
  pub out_fences : resolved.out_fences ≡ out_fences t r.assigns
