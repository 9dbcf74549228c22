-- What stays of an object's state when a property of another is set.
use Rattle.std.proofs.Common.{◌≡◌, ◌≢◌, ℕ, ◌<◌, ℤ, pos, List, sym, ap, ◌∙◌, inl, inr}
use mathlib.Core.Path.{fun_ext}
use Rattle.std.specs.Prelude.{◌==◌, not, Option, Bool}
use Rattle.std.specs.Ordering.{int_eq}
use Rattle.std.proofs.lemmas.Bool.{cases_eq}
use Rattle.kms_model.specs.declared.objects.Gamma.{Gamma}
use Rattle.kms_model.specs.declared.objects.Kind.{Kind}
use Rattle.kms_model.specs.declared.objects.Kind.TheVariants.{Plane, Conn}
use Rattle.kms_model.specs.declared.objects.Mode.{Mode}
use Rattle.kms_model.specs.declared.states.CrtcState.{CrtcState}
use Rattle.kms_model.specs.declared.objects.Topology.{Topology}
use Rattle.kms_model.specs.declared.properties.TheConstants.{CRTC_ID, MODE_ID, ACTIVE, GAMMA_LUT}
use Rattle.kms_model.specs.declared.worlds.Setting.{Setting}
use Rattle.kms_model.specs.declared.worlds.Thing.{Thing}
use Rattle.kms_model.specs.Device.Objects.{object_id, count_of}
use Rattle.kms_model.specs.Device.World.{thing_numbered}
use Rattle.kms_model.specs.Device.States.{natural, crtc_at, gamma_of, mode_of, plane_at, plane_from}
use Rattle.kms_model.specs.Request.Agreement.{conn_state_at, crtc_state_at, on_crtc}
use Rattle.kms_model.proofs.MaskLemmas.{same_masks}
use Rattle.kms_model.proofs.ValueLemmas.{Puts}

pub crtc_at-other : {before after : List Setting} {object prop : ℕ} (o : ℕ) {number : ℤ} → Puts before after object prop number → o ≢ object
    → crtc_at after o ≡ crtc_at before o
crtc_at-other o puts other = ap natural (puts.other_object o CRTC_ID other)

pub plane_at-other : (things : List Thing) {before after : List Setting} {object prop : ℕ} (o : ℕ) {number : ℤ}
    → Puts before after object prop number → o ≢ object → plane_at things after o ≡ plane_at things before o
plane_at-other things o puts other = ap (λ v. plane_from v things)
    (fun_ext (λ p. puts.other_object o p other))

pub conn_state_at-other : {before after : List Setting} {object prop : ℕ} (o : ℕ) {number : ℤ} → Puts before after object prop number → o ≢
    object
    → conn_state_at after o ≡ conn_state_at before o
conn_state_at-other {before} {after} {object} {prop} o {number} puts other = ap (λ crtc. record { crtc = crtc })
    (crtc_at-other o puts other)

-- the sets of a CRTC's planes and connectors stay where each stays where it is
pub on_crtc-same : (t : Topology) (before after : List Setting) (crtc : ℕ) (kind : Kind)
    → ((k : ℕ) → k < count_of t kind → crtc_at after (object_id kind k) ≡ crtc_at before (object_id kind k)) → on_crtc t after crtc kind
    ≡ on_crtc t before crtc kind
on_crtc-same t before after crtc kind same =
    same_masks (λ k. crtc_at after (object_id kind k) == crtc) (λ k. crtc_at before (object_id kind k) == crtc) (count_of t kind)
    (λ k within. ap (λ c. c == crtc) (same k within))

abbrev crtc_state : Bool → Option Mode → Option Gamma → ℕ → ℕ → CrtcState
crtc_state active mode gamma planes conns = record { active = active; mode = mode; gamma = gamma; planes = planes; conns = conns }

pub same_crtc_state : (a b : CrtcState) → a.active ≡ b.active → a.mode ≡ b.mode → a.gamma ≡ b.gamma → a.planes ≡ b.planes → a.conns
    ≡ b.conns → a ≡ b
same_crtc_state a b active mode gamma planes conns =
    ap (λ x. crtc_state x a.mode a.gamma a.planes a.conns) active ∙ ap (λ x. crtc_state b.active x a.gamma a.planes a.conns) mode
    ∙ ap (λ x. crtc_state b.active b.mode x a.planes a.conns) gamma
    ∙ ap (λ x. crtc_state b.active b.mode b.gamma x a.conns) planes ∙ ap (λ x. crtc_state b.active b.mode b.gamma b.planes x) conns

-- A set of another property than CRTC_ID moves no object.
pub crtc_at-kept : {before after : List Setting} {object prop : ℕ} (o : ℕ) {number : ℤ} → Puts before after object prop number → prop ≢
    CRTC_ID
    → crtc_at after o ≡ crtc_at before o
crtc_at-kept {before} {after} {object} {prop} o {number} puts other =
    elim (cases_eq o object) [
      | inl same ↦ ap (crtc_at after) same ∙ ap natural (puts.other_prop CRTC_ID (λ e. other (sym e))) ∙ ap (crtc_at before) (sym same)
      | inr apart ↦ crtc_at-other o puts apart
    ]

-- A CRTC of which no property is set and no object moves stays.
pub crtc_state_at-other : (t : Topology) (things : List Thing) {before after : List Setting} {object prop : ℕ} (crtc : ℕ) {number : ℤ}
    → Puts before after object prop number → crtc ≢ object → prop ≢ CRTC_ID
    → crtc_state_at t things after crtc ≡ crtc_state_at t things before crtc
crtc_state_at-other t things {before} {after} {object} {prop} crtc {number} puts apart other =
    same_crtc_state (crtc_state_at t things after crtc) (crtc_state_at t things before crtc)
    (ap (λ z. not (int_eq z (pos 0))) (puts.other_object crtc ACTIVE apart))
    (ap (λ z. mode_of (thing_numbered things z)) (puts.other_object crtc MODE_ID apart))
    (ap (λ z. gamma_of (thing_numbered things z)) (puts.other_object crtc GAMMA_LUT apart))
    (on_crtc-same t before after crtc Plane (λ k within. crtc_at-kept (object_id Plane k) puts other))
    (on_crtc-same t before after crtc Conn (λ k within. crtc_at-kept (object_id Conn k) puts other))
