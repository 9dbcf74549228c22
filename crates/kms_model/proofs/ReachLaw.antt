-- What an accepted request reaches is what it touches.
use Rattle.std.proofs.Common.{◌≡◌, ℕ, Bool, true, false, List, [], ◌∷◌, Option, Some, None, inl, inr, refl, ap}
use Rattle.std.specs.Prelude.{filter, is_none, if◌then◌else◌}
use Rattle.kms_model.specs.declared.objects.Topology.{Topology}
use Rattle.kms_model.specs.declared.ranges.Range.{Range}
use Rattle.kms_model.specs.declared.ranges.Range.TheVariants.{CrtcName, Numbers, Thing}
use Rattle.kms_model.specs.declared.scripts.Assign.{Assign}
use Rattle.kms_model.specs.declared.scripts.Request.{Request}
use Rattle.kms_model.specs.declared.scripts.Value.{Value}
use Rattle.kms_model.specs.declared.scripts.Value.TheVariants.{Crtc, Named, New, Num}
use Rattle.kms_model.specs.declared.worlds.Look.TheVariants as look
use Rattle.kms_model.specs.declared.worlds.Thing as worlds
use Rattle.kms_model.specs.declared.worlds.World.{World}
use Rattle.kms_model.specs.Device.Properties.{Property, property}
use Rattle.kms_model.specs.Device.World.{thing_labelled}
use Rattle.kms_model.specs.Request.Apply.{prop_of}
use Rattle.kms_model.specs.Request.Lookups.{look_of, look_of_any, look_of_content, look_up, look_up_any}
use Rattle.kms_model.specs.Request.Reach.{reaches, reaching}
use Rattle.kms_model.specs.Request.Refusals.{is_in_range, is_in_range_of, own_refusal, takes}
use Rattle.kms_model.specs.Request.Resolves.{IsAllowed}
use Rattle.kms_model.specs.Request.Touched.{touches}
use Rattle.kms_model.specs.Request.Verdict.{early_in}
use Rattle.kms_model.proofs.CrtcLemmas.{all_in}
use Rattle.kms_model.proofs.Items.{IsIn}
use Rattle.kms_model.proofs.RequestLemmas.{accepted_allowed}

-- What a property takes is open, and is what it was while it was open.
takes-any : (prop : ℕ) (o : Option worlds.Thing) → takes prop (look_of o) ≡ true → takes prop (look_of_any o) ≡ true
takes-any prop None is = is
takes-any prop (Some t) is = by_open t.is_open is
  where
    by_open : (is_open : Bool) → takes prop (if is_open then look_of_content t.id t.content else look.Closed) ≡ true
        → takes prop (look_of_content t.id t.content) ≡ true
    by_open true is = is
    by_open false is = absurd cc

range-any : (t : Topology) (w : World) (prop : ℕ) (range : Range) (v : Value) → is_in_range t (look_up w) prop range v ≡ true
    → is_in_range t (look_up_any w) prop range v ≡ true
range-any t w prop (Numbers low high) (Num n) is = is
range-any t w prop (Numbers low high) (Named label) is = is
range-any t w prop (Numbers low high) (New label) is = is
range-any t w prop (Numbers low high) (Crtc index) is = is
range-any t w prop CrtcName (Num n) is = is
range-any t w prop CrtcName (Named label) is = is
range-any t w prop CrtcName (New label) is = is
range-any t w prop CrtcName (Crtc index) is = is
range-any t w prop (Thing none) (Num n) is = is
range-any t w prop (Thing none) (Named label) is = takes-any prop (thing_labelled w.things label) is
range-any t w prop (Thing none) (New label) is = is
range-any t w prop (Thing none) (Crtc index) is = is

value-any : (t : Topology) (w : World) (v : Value) (p : Option Property) → is_in_range_of t (look_up w) v p ≡ true
    → is_in_range_of t (look_up_any w) v p ≡ true
value-any t w v None is = is
value-any t w v (Some p) is = range-any t w p.id p.range v is

-- Nothing is wrong with an allowed assignment, whether closed things count or not.
allowed-any : (t : Topology) (w : World) (a : Assign) → IsAllowed t (look_up w) a → own_refusal t (look_up_any w) a ≡ None
unfolding own_refusal
allowed-any t w a allowed =
    rw (allowed.exists, allowed.has, allowed.mutable, value-any t w a.value (property (prop_of a.prop)) allowed.value) refl

pub filter-all : {A : Type 0} (p : A → Bool) (xs : List A) → ((x : A) → IsIn x xs → p x ≡ true) → filter p xs ≡ xs
filter-all p [] each = refl
filter-all p (x ∷ xs) each = rw (each x (inl refl)) (ap (λ ys. x ∷ ys) (filter-all p xs (λ y is. each y (inr is))))

all-reaching : (t : Topology) (w : World) (r : Request) → early_in t w r ≡ None → reaching t w r.assigns ≡ r.assigns
all-reaching t w r accepted =
    filter-all (λ a. is_none (own_refusal t (look_up_any w) a)) r.assigns
    (λ a is. ap is_none (allowed-any t w a (all_in (IsAllowed t (look_up w)) r.assigns a (accepted_allowed t (look_up w) r accepted) is)))

pub reach-is : (t : Topology) (w : World) (r : Request) (object : ℕ) → early_in t w r ≡ None
    → reaches t w r object ≡ touches t w r object
unfolding reaches
reach-is t w r object accepted =
    ap (λ assigns. touches t w (record r { assigns = assigns }) object) (all-reaching t w r accepted)
