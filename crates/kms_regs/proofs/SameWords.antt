-- Registers that have the same words are written, latched and decoded alike.
use Rattle.std.proofs.Common.{◌≡◌, ℕ, zero, suc, ◌+◌, ◌<◌, List, ◌∷◌, length, map, arith, refl, sym, ap, ◌∙◌, inl, inr, if◌then◌else◌}
use Rattle.std.specs.Prelude.{◌==◌, not}
use Rattle.std.specs.List.{range_with_len}
use Rattle.std.proofs.lemmas.Bool.{cases_Bool, cases_lt}
use Rattle.kms_model.specs.Device.Objects.{object_id}
use Rattle.kms_model.specs.declared.objects.Kind.TheVariants.{Crtc, Plane}
use Rattle.kms_model.specs.declared.objects.Mode.{Mode}
use Rattle.kms_model.specs.declared.objects.Topology.{Topology}
use Rattle.kms_model.specs.declared.pictures.Layer.{Layer}
use Rattle.kms_model.specs.declared.pictures.Picture.TheVariants.{Off, On}
use Rattle.kms_model.specs.declared.states.PlaneState.{PlaneState}
use Rattle.kms_model.specs.Frames.Pictures.{layers_with, put_plane, seen_on, shown_with}
use Rattle.kms_model.specs.Machine.Registers.{CrtcWords, PlaneWords, Registers, crtc_register, decoded_picture, first_crtc_words}
use Rattle.kms_model.specs.Machine.Registers.{first_plane_words, gamma_in_words, is_copied, latched_registers, mode_in_words, plane_in}
use Rattle.kms_model.specs.Machine.Registers.{plane_register, read, shown_in_words, write_crtc, write_plane}
use Rattle.kms_regs.specs.Words.{ReadSame}
use Rattle.kms_regs.proofs.BankLemmas.{copied-copied, kept-copied, later-copied}

pub same_after : {a b c : Registers} → ReadSame a b → ReadSame b c → ReadSame a c
same_after first second = record { planes = λ i. first.planes i ∙ second.planes i; crtcs = λ i. first.crtcs i ∙ second.crtcs i }

pub same_write_plane : {a b : Registers} (plane : ℕ) (words : PlaneWords) → ReadSame a b
    → ReadSame (write_plane a plane words) (write_plane b plane words)
unfolding read
same_write_plane plane words same = record {
  planes = λ i. ap (λ (x : PlaneWords). if plane == object_id Plane i then words else x) (same.planes i);
  crtcs = same.crtcs;
}

pub same_write_crtc : {a b : Registers} (crtc : ℕ) (words : CrtcWords) → ReadSame a b
    → ReadSame (write_crtc a crtc words) (write_crtc b crtc words)
unfolding read
same_write_crtc crtc words same = record {
  planes = same.planes;
  crtcs = λ i. ap (λ (x : CrtcWords). if crtc == object_id Crtc i then words else x) (same.crtcs i);
}

same_copied : {s s' l l' : Registers} (crtc i : ℕ) → ReadSame s s' → ReadSame l l'
    → is_copied s l crtc (object_id Plane i) ≡ is_copied s' l' crtc (object_id Plane i)
same_copied crtc i shadow live = rw (shadow.planes i, live.planes i) refl

same_latched_plane : (t : Topology) {s s' l l' : Registers} (crtc i : ℕ) → ReadSame s s' → ReadSame l l'
    → plane_register (latched_registers t s l crtc) (object_id Plane i)
    ≡ plane_register (latched_registers t s' l' crtc) (object_id Plane i)
same_latched_plane t {s} {s'} {l} {l'} crtc i shadow live =
    let d : PlaneWords = first_plane_words (object_id Plane i) in
    let n : ℕ = length t.planes in
    elim (cases_lt i n) [
      | inl low ↦ elim (cases_Bool (is_copied s l crtc (object_id Plane i))) [
        | inl on_it ↦
            copied-copied s l crtc 0 n i d (omega arith) (omega (arith, low)) on_it ∙ shadow.planes i
            ∙ sym (copied-copied s' l' crtc 0 n i d (omega arith) (omega (arith, low))
            (sym (same_copied crtc i shadow live) ∙ on_it))
        | inr off_it ↦
            kept-copied s l crtc 0 n i d off_it ∙ live.planes i ∙ sym
            (kept-copied s' l' crtc 0 n i d (sym (same_copied crtc i shadow live) ∙ off_it))
      ]
      | inr past ↦ later-copied s l crtc 0 n i d (omega (arith, past)) ∙ live.planes i ∙ sym
          (later-copied s' l' crtc 0 n i d (omega (arith, past)))
    ]

same_latched_crtc : (s s' l l' : Registers) (index i : ℕ) → ReadSame s s' → ReadSame l l'
    → read first_crtc_words ((object_id Crtc index, crtc_register s (object_id Crtc index)) ∷ l.crtcs) (object_id Crtc i)
    ≡ read first_crtc_words ((object_id Crtc index, crtc_register s' (object_id Crtc index)) ∷ l'.crtcs) (object_id Crtc i)
unfolding read
same_latched_crtc s s' l l' index i shadow live =
    ap (λ (x : CrtcWords). if object_id Crtc index == object_id Crtc i then x else crtc_register l (object_id Crtc i)) (shadow.crtcs index)
    ∙ ap (λ (x : CrtcWords). if object_id Crtc index == object_id Crtc i then crtc_register s' (object_id Crtc index) else x) (live.crtcs i)

pub same_latched : (t : Topology) (s s' l l' : Registers) (index : ℕ) → ReadSame s s' → ReadSame l l'
    → ReadSame (latched_registers t s l (object_id Crtc index)) (latched_registers t s' l' (object_id Crtc index))
same_latched t s s' l l' index shadow live = record {
  planes = λ i. same_latched_plane t (object_id Crtc index) i shadow live;
  crtcs = λ i. same_latched_crtc s s' l l' index i shadow live;
}

-- planes that are seen alike on a CRTC make the same layers there
pub same_layers : (f g : ℕ → PlaneState) (m : Mode) (crtc from n : ℕ)
    → ((i : ℕ) (ls : List (ℕ × Layer)) → i < from + n
    → put_plane m (object_id Plane i) (f (object_id Plane i)) (seen_on crtc (f (object_id Plane i))) ls
    ≡ put_plane m (object_id Plane i) (g (object_id Plane i)) (seen_on crtc (g (object_id Plane i))) ls)
    → layers_with f m crtc (map (object_id Plane) (range_with_len from n))
    ≡ layers_with g m crtc (map (object_id Plane) (range_with_len from n))
same_layers f g m crtc from zero same = refl
same_layers f g m crtc from (suc n) same =
    let plane : ℕ = object_id Plane from in
    ap (put_plane m plane (f plane) (seen_on crtc (f plane)))
    (same_layers f g m crtc (from + 1) n (λ i ls low. same i ls (omega (arith, low))))
    ∙ same from (layers_with g m crtc (map (object_id Plane) (range_with_len (from + 1) n))) (omega arith)

-- The picture depends on the words of the CRTC and on how planes are seen there.
pub decoded_alike : (t : Topology) (a b : Registers) (crtc : ℕ) → crtc_register a crtc ≡ crtc_register b crtc
    → ((m : Mode) (i : ℕ) (ls : List (ℕ × Layer)) → i < length t.planes
    → put_plane m (object_id Plane i) (plane_in (plane_register a (object_id Plane i)))
    (seen_on crtc (plane_in (plane_register a (object_id Plane i)))) ls
    ≡ put_plane m (object_id Plane i) (plane_in (plane_register b (object_id Plane i)))
    (seen_on crtc (plane_in (plane_register b (object_id Plane i)))) ls)
    → decoded_picture t a crtc ≡ decoded_picture t b crtc
unfolding decoded_picture
decoded_alike t a b crtc same seen =
    let shown : (c : CrtcWords) → shown_in_words t a crtc c ≡ shown_in_words t b crtc c = λ c.
    ap (λ (ls : List (ℕ × Layer)). On (shown_with (mode_in_words c) c.conn (gamma_in_words c) ls))
    (same_layers (λ plane. plane_in (plane_register a plane)) (λ plane. plane_in (plane_register b plane)) (mode_in_words c) crtc 0
    (length t.planes) (λ i ls low. seen (mode_in_words c) i ls (omega (arith, low)))) in
    ap (λ (c : CrtcWords). if not (c.active == 0) then shown_in_words t a crtc c else Off) same
    ∙ ap (λ p. if not ((crtc_register b crtc).active == 0) then p else Off) (shown (crtc_register b crtc))

pub same_decoded : (t : Topology) (a b : Registers) (index : ℕ) → ReadSame a b
    → decoded_picture t a (object_id Crtc index) ≡ decoded_picture t b (object_id Crtc index)
same_decoded t a b index same =
    decoded_alike t a b (object_id Crtc index) (same.crtcs index)
    (λ m i ls low. ap (λ (w : PlaneWords). put_plane m (object_id Plane i) (plane_in w) (seen_on (object_id Crtc index) (plane_in w)) ls)
    (same.planes i))
