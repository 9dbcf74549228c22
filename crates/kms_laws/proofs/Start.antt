-- The machine before the first step.
use Rattle.std.proofs.Common.{◌≡◌, ℕ, ◌+◌, ◌-◌, ◌<◌, List, [], ◌∷◌, true, ◌==◌, Option, Some, None, refl, sym, ap, ◌∙◌, subst, arith}
use Rattle.std.specs.Prelude.{slice_get}
use Rattle.std.proofs.lemmas.Bool.{cond-false, ne_eqb, false≢true}
use Rattle.std.proofs.lemmas.Option.{slice_get-get_or}
use Rattle.std.specs.Prelude.{get_or}
use Rattle.kms_model.specs.declared.objects.Kind.TheVariants.{Crtc, Plane, Conn}
use Rattle.kms_model.specs.declared.objects.PlaneInfo.{PlaneInfo}
use Rattle.kms_model.specs.declared.objects.Topology.{Topology}
use Rattle.kms_model.specs.declared.properties.TheConstants.{ACTIVE, CRTC_ID, CRTC_X, CRTC_Y, CRTC_W, CRTC_H, SRC_X, SRC_Y, SRC_W, SRC_H}
use Rattle.kms_model.specs.declared.properties.TheConstants.{ALPHA, BLEND, ZPOS}
use Rattle.kms_model.specs.declared.scripts.Script.{Script}
use Rattle.kms_model.specs.Device.Objects.{first_id, ids_of, index_of}
use Rattle.kms_model.specs.Device.Serial.{serial_from, show_from}
use Rattle.kms_model.specs.Device.Sound.{IsDevice}
use Rattle.kms_model.specs.Device.States.{connector_on, crtc_at, plane_at}
use Rattle.kms_model.specs.Device.World.{start}
use Rattle.kms_model.specs.Machine.Registers.{crtc_words, first_crtc_words, first_plane_words, first_registers, plane_words, read}
use Rattle.kms_model.specs.Machine.State.{no_marks}
use Rattle.kms_model.proofs.Items.{IsIn, IsObject, ids-in}
use Rattle.kms_model.proofs.SoundStart.{start-crtc, start-zero, start_is_lawful}
use Rattle.kms_model.proofs.StartValues.{has_number, plane_numbers, plane_value}
use Rattle.kms_model.proofs.TouchedLemmas.{few_objects}
use Rattle.kms_laws.proofs.Invariants.{IsPending, Tail, crtc_after, latched_at, plane_after, shown}
use Rattle.kms_laws.proofs.Objects.{plane_kind}
use Rattle.kms_laws.proofs.Present.{Present, StatesStand}
use Rattle.kms_laws.proofs.Requests.{words_at}
use Rattle.kms_model.specs.Machine.Commits.{has_latched}

start_plane_words : (t : Topology) (i : ℕ) (info : PlaneInfo) → IsDevice t → slice_get t.planes i ≡ Some info → index_of (200 + i) ≡ i
    → plane_words (plane_at [] (start t).values (200 + i)) ≡ first_plane_words (200 + i)
unfolding plane_words
start_plane_words t i info device at index =
    let v = λ (q : ℕ) (has : has_number (plane_numbers i info) q ≡ true). plane_value t i q info device at has in
    rw (
      v CRTC_ID refl,
      v CRTC_X refl,
      v CRTC_Y refl,
      v CRTC_W refl,
      v CRTC_H refl,
      v SRC_X refl,
      v SRC_Y refl,
      v SRC_W refl,
      v SRC_H refl,
      v ALPHA refl,
      v BLEND refl,
      v ZPOS refl,
      index,
    ) refl

-- what stands for a plane that is not there
pub no_info : PlaneInfo
no_info = record { kind = 0; crtcs = 0; formats = 0 }

start_plane : (t : Topology) (p : ℕ) → IsDevice t → IsIn p (ids_of t Plane) → plane_words (plane_at [] (start t).values p)
    ≡ first_plane_words p
start_plane t p device is =
    let o : IsObject t Plane p = ids-in t Plane p is in
    let index : index_of p ≡ o.index = ap (λ kind. p - first_id kind) (plane_kind t p (few_objects t device) is) ∙ omega (arith, o.same) in
    subst (λ z. index_of z ≡ o.index → plane_words (plane_at [] (start t).values z) ≡ first_plane_words z) (sym o.same)
    (λ e. start_plane_words t o.index (get_or t.planes o.index no_info) device (slice_get-get_or t.planes o.index no_info o.within) e) index

start_connector : (t : Topology) (c : ℕ) (conns : List ℕ) → IsDevice t → 0 < c → connector_on (start t).values c conns ≡ 0
start_connector t c [] device l = refl
start_connector t c (k ∷ ks) device l =
    cond-false (crtc_at (start t).values k == c) k (connector_on (start t).values c ks)
    (ne_eqb _ c (λ e. absurd (omega (arith, e, start-crtc t k device))))
    ∙ start_connector t c ks device l

start_crtc_words : (t : Topology) (c : ℕ) → IsDevice t → IsIn c (ids_of t Crtc) → words_at t [] (start t).values c ≡ first_crtc_words
unfolding crtc_words
start_crtc_words t c device is =
    let o : IsObject t Crtc c = ids-in t Crtc c is in
    rw (start-zero t c ACTIVE device refl, start_connector t c (ids_of t Conn) device (omega (arith, o.same))) refl

start_states : (t : Topology) → IsDevice t → StatesStand t (start t) []
unfolding plane_after crtc_after
start_states t device = record { plane = λ p is. start_plane t p device is; crtc = λ c is. start_crtc_words t c device is }

pub start_present : (s : Script) → IsDevice s.topology → Present s (start s.topology) [] []
unfolding serial_from show_from shown
start_present s device = record {
  lawful = start_is_lawful s.topology device;
  framed = tt;
  kept = tt;
  states = start_states s.topology device;
  count = refl;
  is_serial = refl;
  is_shown = λ c i. refl;
}

no_go : (k c : ℕ) → read {A = Option ℕ} None [] c ≡ Some k → IsPending [] [] k c
unfolding read
no_go k c h = absurd cc

none_latched : (k c : ℕ) → has_latched [] k c ≡ true → ⊥
unfolding has_latched
none_latched k c h = false≢true h

pub start_tail : (t : Topology) → IsDevice t → Tail t [] no_marks first_registers [] []
unfolding plane_after crtc_after read latched_at shown
start_tail t device = record {
  few = few_objects t device;
  commits = record {
    plane_frame = λ k p l. absurd (omega arith);
    crtc_frame = λ k c l. absurd (omega arith);
    moved = λ k p c l. absurd (omega arith);
  };
  marks = record {
    claimed = λ k h. absurd (false≢true h);
    written = λ k o h. absurd (false≢true h);
    flushed = λ k c h. absurd (false≢true h);
    done = λ k h. absurd (false≢true h);
    latched = λ k c h. absurd (none_latched k c h);
    go_is = λ k c h. no_go k c h;
    clean_done = λ k h. absurd (false≢true h);
    cleaned = λ k c h. absurd (false≢true h);
  };
  order = record { settled = λ k j o h. absurd (false≢true h) };
  shadow = record {
    plane = λ p i. record {
      at = 0;
      within = omega arith;
      below = λ j l. absurd (omega arith);
      above = λ j h. absurd (false≢true h);
      says =
          refl;
    };
    crtc = λ c i. record {
      at = 0;
      within = omega arith;
      below = λ j l. absurd (omega arith);
      above = λ j h. absurd (false≢true h);
      says =
          refl;
    };
  };
  shows = λ c. record {
    at = 0;
    within = omega arith;
    below = λ j l. absurd (omega arith);
    above = λ j h. absurd (none_latched j c h);
    says = refl;
  };
}
