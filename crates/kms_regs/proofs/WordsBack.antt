-- The states that words were made of are read back from them.
use Rattle.std.proofs.Common.{◌≡◌, ℕ, ◌<◌, ℤ, pos, negsuc, ◌≤ℤ◌, List, length, Option, Some, None, arith, refl, ap, ◌∙◌, if◌then◌else◌}
use Rattle.std.specs.Prelude.{◌==◌, not, Bool, true, false, is_some}
use Rattle.std.proofs.lemmas.Int.{ints}
use Rattle.kms_model.specs.Firsts.{one_if}
use Rattle.kms_model.specs.declared.objects.Format.{Format}
use Rattle.kms_model.specs.declared.objects.Format.TheVariants.{Xr24, Ar24, Rg16}
use Rattle.kms_model.specs.declared.objects.Kind.TheVariants.{Crtc, Plane}
use Rattle.kms_model.specs.declared.objects.Gamma.{Gamma}
use Rattle.kms_model.specs.declared.objects.Mode.{Mode}
use Rattle.kms_model.specs.declared.objects.Topology.{Topology}
use Rattle.kms_model.specs.declared.pictures.FbInfo.{FbInfo}
use Rattle.kms_model.specs.declared.pictures.Layer.{Layer}
use Rattle.kms_model.specs.declared.pictures.Picture.TheVariants.{Off, On}
use Rattle.kms_model.specs.declared.states.CrtcState.{CrtcState}
use Rattle.kms_model.specs.declared.states.PlaneState.{PlaneState}
use Rattle.kms_model.specs.Device.Objects.{ids_of, object_id}
use Rattle.kms_model.specs.Frames.Pictures.{layers_with, put_plane, seen_on, shown_with}
use Rattle.kms_model.specs.Device.ModeBytes.{mode_bytes, mode_held}
use Rattle.kms_model.specs.Device.States.{natural}
use Rattle.kms_model.specs.Machine.Registers.{CrtcWords, Registers, bytes_of_words, code_of, crtc_words, decoded_picture, fb_number}
use Rattle.kms_model.specs.Machine.Registers.{format_in, gamma_in_words, gamma_words, mode_words, plane_in, plane_register, plane_words}
use Rattle.kms_model.specs.Machine.Registers.{shown_in_words}
use Rattle.kms_model.proofs.GammaRoundTrip.{gamma_back}
use Rattle.kms_model.proofs.ModeRoundTrip.{mode_held-mode_bytes}
use Rattle.kms_model.proofs.WordBytes.{mode_long, mode_small, words_back}
use Rattle.kms_model.proofs.Facts.{signed_back}
use Rattle.kms_regs.specs.Written.{AreWritten, HasGamma, HasId, HasMode, IsWritable, IsWritableMode, picture_of_states}
use Rattle.kms_regs.proofs.Rows.{other_id}
use Rattle.kms_regs.proofs.SameWords.{same_layers}

-- Planes

format_back : (f : Format) → format_in (code_of f) ≡ f
format_back Xr24 = refl
format_back Ar24 = refl
format_back Rg16 = refl

-- a framebuffer
fb_back : (fb : Option FbInfo) → HasId fb
    → (if fb_number (λ x. x.id) fb == 0 then None
    else Some (record {
      id = fb_number (λ x. x.id) fb;
      width = fb_number (λ x. x.width) fb;
      height = fb_number (λ x. x.height) fb;
      format =
          format_in (fb_number (λ x. code_of x.format) fb);
    })) ≡ fb
fb_back None has = refl
fb_back (Some x) has = rw (other_id x.id 0 has, format_back x.format) refl

natural_back : (z : ℤ) → pos 0 ≤ℤ z → pos (natural z) ≡ z
natural_back (pos n) low = refl
natural_back (negsuc n) low = absurd (omega (arith, ints, low))

pub plane_back : {s : PlaneState} → IsWritable s → plane_in (plane_words s) ≡ s
unfolding plane_in plane_words
plane_back {s} h =
    rw (
      fb_back s.fb h.has_id,
      signed_back s.dst.x h.in_range.x,
      signed_back s.dst.y h.in_range.y,
      natural_back s.dst.w h.in_range.w.low,
      natural_back s.dst.h h.in_range.h.low,
      natural_back s.src.x h.in_range.src_x.low,
      natural_back s.src.y h.in_range.src_y.low,
      natural_back s.src.w h.in_range.src_w.low,
      natural_back s.src.h h.in_range.src_h.low,
    ) refl

-- Modes

-- the mode that the words of a mode hold is that mode
pub mode_back : (m : Mode) → IsWritableMode m → mode_held (bytes_of_words (mode_words (Some m))) ≡ m
mode_back m h =
    ap mode_held (words_back 17 (mode_bytes m) (mode_long m h.fits.back.name) (mode_small m h.name_bytes)) ∙ mode_held-mode_bytes m h.fits

-- Gamma tables

gamma_read : (c : CrtcWords) (gamma : Option Gamma) → c.gamma_on ≡ one_if (is_some gamma) → c.gamma ≡ gamma_words gamma → HasGamma gamma
    → gamma_in_words c ≡ gamma
gamma_read c None on words has = rw on refl
gamma_read c (Some g) on words has = rw (on, words) (ap Some (gamma_back g has))

-- What words show that were written for states

plane_read : {t : Topology} {rs : Registers} {crtc conn : ℕ} {s : CrtcState} {state : ℕ → PlaneState} → AreWritten t rs crtc conn s state
    → (i : ℕ) → i < length t.planes
    → plane_in (plane_register rs (object_id Plane i)) ≡ state (object_id Plane i)
plane_read {state} h i low = ap plane_in (h.planes_are i low) ∙ plane_back (h.states_are i low)

abbrev words_with : ℕ → Bool → Option Mode → Option Gamma → CrtcWords
words_with conn active mode gamma = record {
  active = one_if active;
  conn = conn;
  mode = mode_words mode;
  gamma_on = one_if (is_some gamma);
  gamma = gamma_words gamma;
}

by_state : (t : Topology) (rs : Registers) (crtc conn : ℕ) (state : ℕ → PlaneState)
    → ((i : ℕ) → i < length t.planes → plane_in (plane_register rs (object_id Plane i)) ≡ state (object_id Plane i))
    → (active : Bool) (mode : Option Mode) (gamma : Option Gamma) → HasMode active mode → HasGamma gamma
    → (if not (one_if active == 0) then shown_in_words t rs crtc (words_with conn active mode gamma) else Off)
    ≡ picture_of_states t crtc state conn gamma active mode
by_state t rs crtc conn state read true (Some m) gamma has table =
    let f : ℕ → PlaneState = λ plane. plane_in (plane_register rs plane) in
    ap (λ (k : Mode). On (shown_with k conn (gamma_in_words (words_with conn true (Some m) gamma)) (layers_with f k crtc (ids_of t Plane))))
    (mode_back m has)
    ∙ ap (λ (g : Option Gamma). On (shown_with m conn g (layers_with f m crtc (ids_of t Plane))))
    (gamma_read (words_with conn true (Some m) gamma) gamma refl refl table)
    ∙ ap (λ (ls : List (ℕ × Layer)). On (shown_with m conn gamma ls)) (same_layers f state m crtc 0 (length t.planes) (λ i ls low.
    ap (λ (x : PlaneState). put_plane m (object_id Plane i) x (seen_on crtc x) ls) (read i (omega (arith, low)))))
by_state t rs crtc conn state read true None gamma has table = absurd has
by_state t rs crtc conn state read false mode gamma has table = refl

pub decoded_written : {t : Topology} {rs : Registers} {crtc conn : ℕ} {s : CrtcState} {state : ℕ → PlaneState}
    → AreWritten t rs crtc conn s state
    → decoded_picture t rs (object_id Crtc crtc) ≡ picture_of_states t (object_id Crtc crtc) state conn s.gamma s.active s.mode
unfolding decoded_picture crtc_words
decoded_written {t} {rs} {crtc} {conn} {s} {state} h =
    ap (λ (c : CrtcWords). if not (c.active == 0) then shown_in_words t rs (object_id Crtc crtc) c else Off) h.crtc_is
    ∙ by_state t rs (object_id Crtc crtc) conn state (plane_read h) s.active s.mode s.gamma h.mode_is h.gamma_is
