-- What each of the two requests sets a property of an object to.
use Rattle.std.proofs.Common.{◌≡◌, ℕ, ◌<◌, cond, List, ◌++◌, Option, None, refl, sym, ap, ◌∙◌, arith}
use Rattle.std.specs.Prelude.{filter}
use Rattle.std.specs.List.{range_with_len}
use Rattle.std.proofs.lemmas.Bool.{ne_eqb}
use Rattle.kms_model.specs.declared.objects.Kind.{Kind}
use Rattle.kms_model.specs.declared.objects.Kind.TheVariants as kind
use Rattle.kms_model.specs.declared.objects.Topology.{Topology}
use Rattle.kms_model.specs.declared.scripts.Assign.{Assign}
use Rattle.kms_model.specs.declared.scripts.Value.{Value}
use Rattle.kms_model.specs.declared.worlds.World.{World}
use Rattle.kms_model.specs.Device.Objects.{count_of, object_id}
use Rattle.kms_model.specs.Device.Sound.{IsDevice}
use Rattle.kms_model.specs.Firsts.{or_else}
use Rattle.kms_model.specs.Request.Touched.{last_value}
use Rattle.kms_model.proofs.Facts.{or_else-none}
use Rattle.kms_model.proofs.HeldValues.{filter-in}
use Rattle.kms_model.proofs.TouchedLemmas.{few_objects, few_of, first_id-apart}
use Rattle.kms_suspend.specs.declared.parts.Way.{Way}
use Rattle.kms_suspend.specs.declared.parts.Way.TheVariants.{Off, Back}
use Rattle.kms_suspend.specs.Parts.{assigns_at, is_in_use, part}
use Rattle.kms_suspend.proofs.LastValues.{in_range, last-of, last-other, last_value-append}

-- an object's part sets no other object
off_object : (way : Way) (w : World) (k : Kind) (i o p : ℕ) → (object_id k i ≡ o → ⊥) → last_value (assigns_at way w k i) o p ≡ None
off_object Off w kind.Crtc i o p ne = rw (ne_eqb (object_id kind.Crtc i) o ne) refl
off_object Off w kind.Plane i o p ne = rw (ne_eqb (object_id kind.Plane i) o ne) refl
off_object Off w kind.Conn i o p ne = rw (ne_eqb (object_id kind.Conn i) o ne) refl
off_object Off w kind.Enc i o p ne = refl
off_object Back w kind.Crtc i o p ne = rw (ne_eqb (object_id kind.Crtc i) o ne) refl
off_object Back w kind.Plane i o p ne = rw (ne_eqb (object_id kind.Plane i) o ne) refl
off_object Back w kind.Conn i o p ne = rw (ne_eqb (object_id kind.Conn i) o ne) refl
off_object Back w kind.Enc i o p ne = refl

module _ (way : Way) (t : Topology) (w : World) (device : IsDevice t) where
  -- the part of an object's own kind
  own_part : (k : Kind) (j p : ℕ) → j < count_of t k
      → last_value (part way t w k) (object_id k j) p ≡ cond (is_in_use w k j) (last_value (assigns_at way w k j) (object_id k j) p) None
  own_part k j p low =
      last-of (assigns_at way w k) (object_id k j) p (is_in_use w k) j 0 (count_of t k)
      (λ i apart high. off_object way w k i (object_id k j) p (λ same. apart (omega (arith, same)))) (omega arith) (omega (arith, low))

  -- the part of objects whose ids are others
  no_part : (k : Kind) (o p : ℕ) → ((i : ℕ) → i < count_of t k → object_id k i ≡ o → ⊥) → last_value (part way t w k) o p ≡ None
  no_part k o p apart =
      last-other (assigns_at way w k) o p (filter (is_in_use w k) (range_with_len 0 (count_of t k)))
      (λ i is. let within = in_range 0 (count_of t k) i (filter-in (is_in_use w k) (range_with_len 0 (count_of t k)) i is).0 in
      off_object way w k i o p (apart i (omega (arith, within.1))))

  -- the part of another kind
  other_part : (k own : Kind) (j p : ℕ) → (k ≡ own → ⊥) → j < count_of t own → last_value (part way t w k) (object_id own j) p ≡ None
  other_part k own j p apart low =
      no_part k (object_id own j) p (λ i within same.
      let few = few_of t k (few_objects t device) in
      let few_own = few_of t own (few_objects t device) in
      apart (first_id-apart k own i j (omega (arith, within, few)) (omega (arith, low, few_own)) same))

  -- (`first_id-apart` wants indices below 16: `few_of` says at most 16, so `i < 16`, `j < 16`)

  -- The whole: parts of a first kind, of the connectors, and of a last kind
  module _ (first last : Kind) (ends : first ≡ last → ⊥) (front : first ≡ kind.Conn → ⊥) (back : last ≡ kind.Conn → ⊥) where
    abbrev whole : List Assign
    whole = part way t w first ++ (part way t w kind.Conn ++ part way t w last)

    by_parts : (o p : ℕ) → last_value whole o p ≡ or_else
        (or_else (last_value (part way t w last) o p) (last_value (part way t w kind.Conn) o p)) (last_value (part way t w first) o p)
    by_parts o p =
        last_value-append (part way t w first) (part way t w kind.Conn ++ part way t w last) o p
        ∙ ap (λ v. or_else v (last_value (part way t w first) o p)) (last_value-append (part way t w kind.Conn) (part way t w last) o p)

    -- what an object of one of the three kinds is set to
    abbrev own_last : Kind → ℕ → ℕ → Option Value
    own_last k j p = cond (is_in_use w k j) (last_value (assigns_at way w k j) (object_id k j) p) None

    pub at_first : (j p : ℕ) → j < count_of t first → last_value whole (object_id first j) p ≡ own_last first j p
    at_first j p low =
        by_parts (object_id first j) p
        ∙ rw (other_part last first j p (λ e. ends (sym e)) low, other_part kind.Conn first j p (λ e. front (sym e)) low)
        (own_part first j p low)

    pub at_conn : (j p : ℕ) → j < count_of t kind.Conn → last_value whole (object_id kind.Conn j) p ≡ own_last kind.Conn j p
    at_conn j p low =
        by_parts (object_id kind.Conn j) p
        ∙ rw (other_part last kind.Conn j p back low, other_part first kind.Conn j p front low)
        (or_else-none _ ∙ own_part kind.Conn j p low)

    pub at_last : (j p : ℕ) → j < count_of t last → last_value whole (object_id last j) p ≡ own_last last j p
    at_last j p low =
        by_parts (object_id last j) p
        ∙ rw (other_part kind.Conn last j p (λ e. back (sym e)) low, other_part first last j p ends low)
        (or_else-none _ ∙ (or_else-none _ ∙ own_part last j p low))

    -- an object of none of them
    pub at_none : (o p : ℕ) → ((i : ℕ) → i < count_of t first → object_id first i ≡ o → ⊥)
        → ((i : ℕ) → i < count_of t kind.Conn → object_id kind.Conn i ≡ o → ⊥)
        → ((i : ℕ) → i < count_of t last → object_id last i ≡ o → ⊥) → last_value whole o p ≡ None
    at_none o p not_first not_conn not_last = by_parts o p
        ∙ rw (no_part last o p not_last, no_part kind.Conn o p not_conn, no_part first o p not_first) refl
