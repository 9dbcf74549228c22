-- Requests that are applied to the states of the whole device.
use Rattle.std.proofs.Common.{◌≡◌, ◌∙◌, ℕ, ◌+◌, ◌-◌, ◌<◌, Bool, true, false, List, [], ◌∷◌, ◌++◌, length, take, get_or, Option, None, arith}
use Rattle.std.proofs.Common.{refl, sym, ap, subst}
use Rattle.std.specs.Prelude.{◌&&◌, is_none, pos}
use Rattle.kms_model.specs.declared.objects.Kind.TheVariants as kind
use Rattle.kms_model.specs.declared.objects.Topology.{Topology}
use Rattle.kms_model.specs.declared.scripts.Assign.{Assign}
use Rattle.kms_model.specs.declared.scripts.PropRef.TheVariants.{Known}
use Rattle.kms_model.specs.declared.scripts.Request.{Request}
use Rattle.kms_model.specs.declared.scripts.Value.TheVariants.{Num}
use Rattle.kms_model.specs.declared.sets.Set.{Set}
use Rattle.kms_model.specs.declared.states.Duplicates.{Duplicates}
use Rattle.kms_model.specs.declared.worlds.Look.{Look}
use Rattle.kms_model.specs.declared.worlds.Setting.{Setting}
use Rattle.kms_model.specs.declared.worlds.Thing as worlds
use Rattle.kms_model.specs.declared.worlds.World.{World}
use Rattle.kms_model.specs.Device.Objects.{kind_of, object_id}
use Rattle.kms_model.specs.Device.Sound.{AreNumbered, IsDevice}
use Rattle.kms_model.specs.Request.Agreement.{AgreesNew, AgreesOld}
use Rattle.kms_model.specs.Request.Apply.{apply, assign, number_of}
use Rattle.kms_model.specs.Request.Lookups.{look_up}
use Rattle.kms_model.specs.Request.Refusals.{assign_refusal, early_refusal, own_refusal}
use Rattle.kms_model.specs.Request.Resolves.{IsAllowed, IsSettable}
use Rattle.kms_model.specs.Request.SetRanges.{may_set}
use Rattle.kms_model.specs.Request.Sets.{set_of}
use Rattle.kms_model.specs.Request.Verdict.{early_in}
use Rattle.kms_laws.proofs.Steps.{none-is}
use Rattle.kms_model.proofs.CrtcLemmas.{all_in}
use Rattle.kms_model.proofs.Items.{none-number_if, or_else-nones}
use Rattle.kms_model.proofs.KindsOfIds.{kind_of-object}
use Rattle.kms_model.proofs.RequestLemmas.{accepted_allowed, allowed, allowed_settable}
use Rattle.kms_model.proofs.StandsLemmas.{stands-accepted}
use Rattle.kms_model.proofs.ReachLaw.{filter-all}
use Rattle.kms_props.specs.Setting.{AreAllDuplicated, AreSameDuplicated, IsOnDevice, IsSetIn}
use Rattle.kms_request.specs.Whole.{ArePresent, StandBetween, TellSame, allowed_by}
use Rattle.kms_request.proofs.Picked.{filter_less, filter_more}
use Rattle.kms_request.proofs.WholeLemmas.{limits_of}

-- Assignments with which nothing is wrong by themselves

second_none : (b : Bool) → (b && false) ≡ false
second_none true = refl
second_none false = refl

pub own-allowed : (t : Topology) (f : ℕ → Look) (a : Assign) → own_refusal t f a ≡ None → IsAllowed t f a
unfolding assign_refusal
own-allowed t f a none = allowed t f [] a (or_else-nones (own_refusal t f a) _ none (none-number_if 8 _ (second_none _)))

pub allowed-own : {t : Topology} {f : ℕ → Look} {a : Assign} → IsAllowed t f a → own_refusal t f a ≡ None
unfolding own_refusal
allowed-own allowed = rw (allowed.exists, allowed.has, allowed.mutable, allowed.value) refl

pub counted-allowed : (t : Topology) (f : ℕ → Look) (a : Assign) → is_none (own_refusal t f a) ≡ true → IsAllowed t f a
counted-allowed t f a counts = own-allowed t f a (none-is (own_refusal t f a) counts)

pub counted-settable : {t : Topology} (f : ℕ → Look) (a : Assign) → IsDevice t → is_none (own_refusal t f a) ≡ true → IsSettable a
counted-settable {t} f a device counts = allowed_settable t f a (limits_of t device) (counted-allowed t f a counts)

-- so is each of a request for which no early refusal is due
pub all-counted : (t : Topology) (f : ℕ → Look) (r : Request) → early_refusal t f r ≡ None → allowed_by t f r.assigns ≡ r.assigns
all-counted t f r early =
    filter-all (λ a. is_none (own_refusal t f a)) r.assigns
    (λ a is. ap (λ (o : Option ℕ). is_none o) (allowed-own (all_in (IsAllowed t f) r.assigns a (accepted_allowed t f r early) is)))

-- any assignment
abbrev pub nothing : Assign
nothing = record { kind = kind.Crtc; index = 0; prop = Known 0; value = Num (pos 0) }

-- whether the one at hand counts
pub at_hand : (t : Topology) (f : ℕ → Look) {assigns items : List Assign} (i : ℕ) {b c : Bool} → items ≡ assigns → b
    ≡ is_none (own_refusal t f (get_or items i nothing)) → b ≡ c
    → is_none (own_refusal t f (get_or assigns i nothing)) ≡ c
at_hand t f i same is told = ap (λ (xs : List Assign). is_none (own_refusal t f (get_or xs i nothing))) (sym same) ∙ sym
    is ∙ told

-- Which objects are duplicated

pub all_after : {t : Topology} {before after : Duplicates} → AreSameDuplicated before after → AreAllDuplicated t before
    → AreAllDuplicated t after
all_after same all = record {
  crtcs = λ index less. same.crtcs index ∙ all.crtcs index less;
  planes = λ index less. same.planes index ∙ all.planes index less;
  conns = λ index less. same.conns index ∙ all.conns index less;
}

pub same_then : {before between after : Duplicates} → AreSameDuplicated before between → AreSameDuplicated between after
    → AreSameDuplicated before after
same_then first second = record {
  crtcs = λ index. second.crtcs index ∙ first.crtcs index;
  planes = λ index. second.planes index ∙ first.planes index;
  conns = λ index. second.conns index ∙ first.conns index;
}

-- One assignment

kind_is : (a : Assign) → IsSettable a → kind_of (object_id a.kind a.index) ≡ a.kind
kind_is a fits = kind_of-object a.kind a.index (let i = fits.index in omega (arith, i))

module _ (t : Topology) (f : ℕ → Look) (a : Assign) (s : Set) (device : IsDevice t) (counts : is_none (own_refusal t f a) ≡ true)
    (is : s ≡ set_of f a) where
  fits : IsSettable a
  fits = counted-settable f a device counts

  may : IsAllowed t f a
  may = counted-allowed t f a counts

  -- its object is one of the device
  pub set-there : IsOnDevice t s.object.0
  set-there = record { kind = a.kind; index = a.index; is = ap (λ (x : Set). x.object.0) is; placed = fits.place; there = may.exists }

  -- its value may be set
  pub set-may : may_set a.kind s.prop s.value ≡ true → may_set (kind_of s.object.0) s.prop s.value ≡ true
  set-may takes = ap (λ k. may_set k s.prop s.value) (ap (λ (x : Set). kind_of x.object.0) is ∙ kind_is a fits) ∙ takes

  -- the new states agree with the values after it
  pub set-agrees : (w : World) {values : List Setting} {before after : Duplicates} → TellSame f (look_up w) → AreNumbered 1000 w.things
      → IsSetIn t before s after → AgreesNew t w.things values before → AgreesNew t w.things (assign w.things values a) after
  set-agrees w {values} {before} {after} tells numbered sets new =
      let same : f ≡ look_up w = λ i label. tells label i in
      let allowed : IsAllowed t (look_up w) a = subst (λ g. IsAllowed t g a) same may in
      let is_now : s ≡ set_of (look_up w) a = is ∙ ap (λ g. set_of g a) same in
      let P : Set → Type 0 = λ x. IsSetIn t before x after in
      (subst P is_now sets).new w.things values (number_of w.things a.value) new
      (stands-accepted t w a numbered (record {
        object_exists = allowed.exists;
        has = allowed.has;
        mutable = allowed.mutable;
        is_value =
            allowed.value;
      }))

-- All assignments

apply_more : (things : List worlds.Thing) (values : List Setting) (assigns : List Assign) (a : Assign)
    → apply things values (assigns ++ a ∷ []) ≡ assign things (apply things values assigns) a
apply_more things values [] a = refl
apply_more things values (b ∷ assigns) a = apply_more things (assign things values b) assigns a

module _ (t : Topology) (f : ℕ → Look) (things : List worlds.Thing) (values : List Setting) (assigns : List Assign) (i : ℕ) (d : Assign)
    (within : i < length assigns) where
  abbrev pub counts : Assign → Bool
  counts a = is_none (own_refusal t f a)

  pub apply_counted : counts (get_or assigns i d) ≡ true → apply things values (allowed_by t f (take (i + 1) assigns))
      ≡ assign things (apply things values (allowed_by t f (take i assigns))) (get_or assigns i d)
  apply_counted is = ap (apply things values) (filter_more counts assigns i d within is) ∙ apply_more things values
      (allowed_by t f (take i assigns)) (get_or assigns i d)

  pub apply_skipped : counts (get_or assigns i d) ≡ false → apply things values (allowed_by t f (take (i + 1) assigns))
      ≡ apply things values (allowed_by t f (take i assigns))
  apply_skipped out = ap (apply things values) (filter_less counts assigns i d within out)

pub stands-between : {t : Topology} {w : World} (f : ℕ → Look) (r : Request) {before after : Duplicates} → ArePresent t w before
    → TellSame f (look_up w) → early_in t w r ≡ None → (AgreesOld t w.things w.values before → AgreesOld t w.things w.values after)
    → AreSameDuplicated before after → AgreesNew t w.things (apply w.things w.values (allowed_by t f r.assigns)) after
    → StandBetween t w r after
stands-between {t} {w} f r {before} {after} present tells early old same new =
    let looks : f ≡ look_up w = λ i label. tells label i in
    let now : early_refusal t f r ≡ None = ap (λ g. early_refusal t g r) looks ∙ early in
    record {
      device = present.device;
      sound = present.sound;
      early = early;
      old = old present.old;
      new = subst (λ (assigns : List Assign). AgreesNew t w.things (apply w.things w.values assigns) after) (all-counted t f r now) new;
      all = all_after same present.all;
    }
