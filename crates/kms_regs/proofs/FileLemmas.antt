-- A register file goes on standing for the device, call by call.
use Rattle.std.proofs.Common.{◌≡◌, ◌≢◌, ℕ, ◌+◌, ◌<◌, Bool, true, false, List, [], ◌∷◌, length, get_or, Some, None, is_some, arith, refl}
use Rattle.std.proofs.Common.{sym, ap, ◌∙◌, subst, inl, inr, if◌then◌else◌}
use Rattle.std.specs.Prelude.{not, slice_set}
use Rattle.std.proofs.lemmas.Bool.{cases_eq}
use Rattle.kms_model.specs.Device.Objects.{object_id}
use Rattle.kms_model.specs.declared.objects.Kind.TheVariants.{Crtc, Plane}
use Rattle.kms_model.specs.declared.objects.Topology.{Topology}
use Rattle.kms_model.specs.declared.pictures.Picture.{Picture}
use Rattle.kms_model.specs.declared.pictures.Picture.TheVariants.{Off}
use Rattle.kms_model.specs.declared.states.CrtcState.{CrtcState}
use Rattle.kms_model.specs.declared.states.PlaneState.{PlaneState}
use Rattle.kms_model.specs.Machine.Registers.{CrtcWords, PlaneWords, Registers, crtc_register, crtc_words, decoded_picture}
use Rattle.kms_model.specs.Machine.Registers.{first_crtc_words, is_on_in, latched_registers, plane_register, plane_words, read, write_crtc}
use Rattle.kms_model.specs.Machine.Registers.{write_plane}
use Rattle.kms_model.specs.Machine.State.{DeviceState, count_at, go_at}
use Rattle.kms_model.specs.Request.Checks.{with_ids}
use Rattle.kms_regs.specs.Words.{ReadSame}
use Rattle.kms_regs.specs.File.{Holds, RegisterFile, StandsForDevice, blanked, blanked_picture, blanking_count, counted, file_of, flushed}
use Rattle.kms_regs.specs.File.{has_go, latched_device, latched_picture, with_shadow}
use Rattle.kms_regs.specs.Rewritten.{rewrite_crtc, rewrite_plane, rewritten_crtc, rewritten_plane}
use Rattle.kms_regs.specs.StepLaws.{RewritesCrtc, RewritesPlane, WritesCrtc, WritesPlane}
use Rattle.kms_regs.proofs.Pictured.{decoded_off}
use Rattle.kms_regs.proofs.RewrittenWords.{crtc_old, plane_old}
use Rattle.kms_regs.proofs.Rows.{four_alike, other_id, read-set, read-with_ids, read_here, read_past, same_id}
use Rattle.kms_regs.proofs.SameWords.{same_after, same_decoded, same_latched, same_write_crtc, same_write_plane}

-- a register file that is opened
pub opened : (t : Topology) (d : DeviceState) {f g : RegisterFile} → f ≡ g → StandsForDevice t d g → StandsForDevice t d f
opened t d is stands = subst (λ (x : RegisterFile). StandsForDevice t d x) (sym is) stands

-- Rows of CRTCs

row_set : {A B : Type 0} (f : A → B) (d : A) (e : B) (rows : List (ℕ × A)) (xs : List B) (index : ℕ) (v : A) (x : B)
    → ((i : ℕ) → f (read d rows (object_id Crtc i)) ≡ read e (with_ids (object_id Crtc 0) xs) (object_id Crtc i)) → index < length xs
    → f v ≡ x
    → (i : ℕ)
    → f (read d ((object_id Crtc index, v) ∷ rows) (object_id Crtc i))
    ≡ read e (with_ids (object_id Crtc 0) (slice_set xs index x)) (object_id Crtc i)
row_set f d e rows xs index v x same low is i =
    elim (cases_eq index i) [
      | inl here ↦
          ap f (read_here d v rows (object_id Crtc index) (object_id Crtc i) (ap (object_id Crtc) here)) ∙ is
          ∙ sym (read_here e x (with_ids (object_id Crtc 0) xs) (object_id Crtc index) (object_id Crtc i) (ap (object_id Crtc) here)) ∙
          read-set e x xs (object_id Crtc 0) index i low
      | inr other ↦
          ap f (read_past d v rows (object_id Crtc index) (object_id Crtc i) (λ k. absurd (other (omega (arith, k))))) ∙ same i
          ∙ sym (read_past e x (with_ids (object_id Crtc 0) xs) (object_id Crtc index) (object_id Crtc i)
          (λ k. absurd (other (omega (arith, k))))) ∙ read-set e x xs (object_id Crtc 0) index i low
    ]

row_kept : {A B : Type 0} (f : A → B) (d : A) (e : B) (rows : List (ℕ × A)) (xs : List B) (index : ℕ) (v : A)
    → ((i : ℕ) → f (read d rows (object_id Crtc i)) ≡ read e (with_ids (object_id Crtc 0) xs) (object_id Crtc i)) → f v ≡ get_or xs index e
    → (i : ℕ)
    → f (read d ((object_id Crtc index, v) ∷ rows) (object_id Crtc i)) ≡ read e (with_ids (object_id Crtc 0) xs) (object_id Crtc i)
row_kept f d e rows xs index v same is i =
    elim (cases_eq index i) [
      | inl here ↦
          ap f (read_here d v rows (object_id Crtc index) (object_id Crtc i) (ap (object_id Crtc) here)) ∙ is
          ∙ sym (read-with_ids e xs (object_id Crtc 0) index (object_id Crtc index) refl) ∙ ap
          (λ (k : ℕ). read e (with_ids (object_id Crtc 0) xs) (object_id Crtc k)) here
      | inr other ↦ ap f (read_past d v rows (object_id Crtc index) (object_id Crtc i) (λ k. absurd (other (omega (arith, k))))) ∙ same i
    ]

-- what stands at an index
pub own_count : (planes : ℕ) (s l : Registers) (go : List Bool) (counts : List ℕ) {f : RegisterFile} (index : ℕ)
    → file_of planes s l go counts ≡ f → get_or counts index 0 ≡ blanking_count f (object_id Crtc index)
own_count planes s l go counts index is = sym (read-with_ids 0 counts (object_id Crtc 0) index (object_id Crtc index) refl) ∙ ap
    (λ (x : RegisterFile). blanking_count x (object_id Crtc index)) is

pub own_go : (planes : ℕ) (s l : Registers) (go : List Bool) (counts : List ℕ) {f : RegisterFile} (index : ℕ)
    → file_of planes s l go counts ≡ f → get_or go index false ≡ has_go f (object_id Crtc index)
own_go planes s l go counts index is = sym (read-with_ids false go (object_id Crtc 0) index (object_id Crtc index) refl) ∙ ap
    (λ (x : RegisterFile). has_go x (object_id Crtc index)) is

-- Calls

abbrev no_counts : List ℕ
no_counts = 0 ∷ 0 ∷ 0 ∷ 0 ∷ []

pub started : (t : Topology) {planes : ℕ} {s l : Registers} {first : Registers} → length t.planes ≡ planes → ReadSame first s
    → ReadSame first l
    → Holds t first first [] [] (file_of planes s l (false ∷ false ∷ false ∷ false ∷ []) no_counts)
unfolding read
started t {planes} of_device shadow live = record {
  planes = of_device;
  shadow_words = shadow;
  live_words = live;
  goes = λ i. sym (read-with_ids false (false ∷ false ∷ false ∷ false ∷ []) (object_id Crtc 0) i (object_id Crtc i) refl ∙ four_alike false
      i);
  counted = λ i. sym (read-with_ids 0 no_counts (object_id Crtc 0) i (object_id Crtc i) refl ∙ four_alike 0 i);
}

pub wrote : (t : Topology) (d : DeviceState) (planes : ℕ) (s l : Registers) (go : List Bool) (counts : List ℕ) {shadow s' : Registers}
    → StandsForDevice t d (file_of planes s l go counts) → ReadSame shadow s'
    → StandsForDevice t (with_shadow d shadow) (file_of planes s' l go counts)
wrote t d planes s l go counts h same =
    record { planes = h.planes; shadow_words = same; live_words = h.live_words; goes = h.goes; counted = h.counted }

-- what a write makes of the words is what it makes of the device's
same_rewrite_plane : (a b : Registers) (index : ℕ) (o n : PlaneWords) → ReadSame a b
    → ReadSame (rewrite_plane a (object_id Plane index) o n) (rewrite_plane b (object_id Plane index) o n)
same_rewrite_plane a b index o n same =
    subst (λ (w : PlaneWords). ReadSame (rewrite_plane a (object_id Plane index) o n)
    (write_plane b (object_id Plane index) (rewritten_plane w o n))) (same.planes index)
    (same_write_plane (object_id Plane index) (rewritten_plane (plane_register a (object_id Plane index)) o n) same)

same_rewrite_crtc : (a b : Registers) (index : ℕ) (o n : CrtcWords) → ReadSame a b
    → ReadSame (rewrite_crtc a (object_id Crtc index) o n) (rewrite_crtc b (object_id Crtc index) o n)
same_rewrite_crtc a b index o n same =
    subst (λ (w : CrtcWords). ReadSame (rewrite_crtc a (object_id Crtc index) o n)
    (write_crtc b (object_id Crtc index) (rewritten_crtc w o n))) (same.crtcs index)
    (same_write_crtc (object_id Crtc index) (rewritten_crtc (crtc_register a (object_id Crtc index)) o n) same)

pub rewrote_plane : (t : Topology) (d : DeviceState) (planes : ℕ) (s l : Registers) (go : List Bool) (counts : List ℕ) (index : ℕ)
    {o n old new : PlaneWords} {s' : Registers} → StandsForDevice t d (file_of planes s l go counts) → o ≡ old → n ≡ new
    → ReadSame (rewrite_plane s (object_id Plane index) o n) s'
    → StandsForDevice t (with_shadow d (rewrite_plane d.shadow (object_id Plane index) old new)) (file_of planes s' l go counts)
rewrote_plane t d planes s l go counts index {n} {old} {new} {s'} h before after same =
    wrote t d planes s l go counts h
    (same_after (same_rewrite_plane d.shadow s index old new h.shadow_words)
    (subst (λ (w : PlaneWords). ReadSame (rewrite_plane s (object_id Plane index) old w) s') after
    (subst (λ (w : PlaneWords). ReadSame (rewrite_plane s (object_id Plane index) w n) s') before same)))

pub rewrote_crtc : (t : Topology) (d : DeviceState) (planes : ℕ) (s l : Registers) (go : List Bool) (counts : List ℕ) (index : ℕ)
    {o n old new : CrtcWords} {s' : Registers} → StandsForDevice t d (file_of planes s l go counts) → o ≡ old → n ≡ new
    → ReadSame (rewrite_crtc s (object_id Crtc index) o n) s'
    → StandsForDevice t (with_shadow d (rewrite_crtc d.shadow (object_id Crtc index) old new)) (file_of planes s' l go counts)
rewrote_crtc t d planes s l go counts index {n} {old} {new} {s'} h before after same =
    wrote t d planes s l go counts h
    (same_after (same_rewrite_crtc d.shadow s index old new h.shadow_words)
    (subst (λ (w : CrtcWords). ReadSame (rewrite_crtc s (object_id Crtc index) old w) s') after
    (subst (λ (w : CrtcWords). ReadSame (rewrite_crtc s (object_id Crtc index) w n) s') before same)))

-- where the words are those of the old state, they are those of the new one then
pub writes_plane : (f g : RegisterFile) (index : ℕ) (before state : PlaneState) → RewritesPlane f g index before state
    → plane_register f.shadow (object_id Plane index) ≡ plane_words before → WritesPlane f g index state
writes_plane f g index before state rewrites is t d stands =
    subst (λ (w : PlaneWords). StandsForDevice t (with_shadow d (write_plane d.shadow (object_id Plane index) w)) g)
    (ap (λ (w : PlaneWords). rewritten_plane w (plane_words before) (plane_words state)) (stands.shadow_words.planes index ∙ is) ∙ plane_old
    (plane_words before) (plane_words state)) (rewrites t d stands)

pub writes_crtc : (f g : RegisterFile) (index conn_before conn : ℕ) (before state : CrtcState)
    → RewritesCrtc f g index conn_before conn before state → crtc_register f.shadow (object_id Crtc index) ≡ crtc_words conn_before before
    → WritesCrtc f g index conn state
writes_crtc f g index conn_before conn before state rewrites is t d stands =
    subst (λ (w : CrtcWords). StandsForDevice t (with_shadow d (write_crtc d.shadow (object_id Crtc index) w)) g)
    (ap (λ (w : CrtcWords). rewritten_crtc w (crtc_words conn_before before) (crtc_words conn state)) (stands.shadow_words.crtcs index ∙ is)
    ∙ crtc_old (crtc_words conn_before before) (crtc_words conn state)) (rewrites t d stands)

pub raised : (t : Topology) (d : DeviceState) (planes : ℕ) (s l : Registers) (go : List Bool) (counts : List ℕ) (index k : ℕ)
    → StandsForDevice t d (file_of planes s l go counts) → index < length go
    → StandsForDevice t (record d { go = (object_id Crtc index, Some k) ∷ d.go }) (file_of planes s l (slice_set go index true) counts)
raised t d planes s l go counts index k h low = record {
  planes = h.planes;
  shadow_words = h.shadow_words;
  live_words = h.live_words;
  goes = row_set is_some None false d.go go index (Some k) true h.goes low refl;
  counted = h.counted;
}

-- what a call of the bank's latch ensures
abbrev pub Latches : ℕ → Registers → Registers → ℕ → Registers → Type 0
Latches planes s l index l' = (t : Topology) → length t.planes ≡ planes → ReadSame (latched_registers t s l (object_id Crtc index)) l'

pub same_live : (t : Topology) (d : DeviceState) (planes : ℕ) (s l : Registers) (go : List Bool) (counts : List ℕ) (index : ℕ)
    (l' : Registers) → StandsForDevice t d (file_of planes s l go counts) → Latches planes s l index l'
    → ReadSame (latched_registers t d.shadow d.live (object_id Crtc index)) l'
same_live t d planes s l go counts index l' h latches =
    same_after (same_latched t d.shadow s d.live l index h.shadow_words h.live_words) (latches t h.planes)

pub latched_file : (t : Topology) (d : DeviceState) (planes : ℕ) (s l : Registers) (go : List Bool) (counts : List ℕ) (index : ℕ)
    (l' : Registers) → StandsForDevice t d (file_of planes s l go counts) → Latches planes s l index l'
    → StandsForDevice t (latched_device t d (object_id Crtc index)) (file_of planes s l' go counts)
latched_file t d planes s l go counts index l' h latches = record {
  planes = h.planes;
  shadow_words = h.shadow_words;
  live_words = same_live t d planes s l go counts index l' h latches;
  goes = h.goes;
  counted = h.counted;
}

-- whether a CRTC is on in the shadow
on_there : (d s : Registers) (index : ℕ) (w : CrtcWords) → ReadSame d s → w ≡ crtc_register s (object_id Crtc index) → w.active ≢ 0
    → is_on_in d (object_id Crtc index) ≡ true
on_there d s index w same is on = ap not (other_id (crtc_register d (object_id Crtc index)).active 0
    (λ e. on (ap (λ (x : CrtcWords). x.active) (is ∙ sym (same.crtcs index)) ∙ e)))

off_there : (d s : Registers) (index : ℕ) (w : CrtcWords) → ReadSame d s → w ≡ crtc_register s (object_id Crtc index) → w.active ≡ 0
    → is_on_in d (object_id Crtc index) ≡ false
off_there d s index w same is off = ap not (same_id
    (sym (ap (λ (x : CrtcWords). x.active) (is ∙ sym (same.crtcs index))) ∙ off))

pub flushed_on : (t : Topology) (d : DeviceState) (planes : ℕ) (s l : Registers) (go : List Bool) (counts : List ℕ) (index k : ℕ)
    (w : CrtcWords) → StandsForDevice t d (file_of planes s l go counts) → index < length go
    → w ≡ crtc_register s (object_id Crtc index) → w.active ≢ 0
    → StandsForDevice t (flushed t d k (object_id Crtc index)) (file_of planes s l (slice_set go index true) counts)
flushed_on t d planes s l go counts index k w h low is on =
    subst (λ (b : Bool). StandsForDevice t (if b then record d { go = (object_id Crtc index, Some k) ∷ d.go }
    else latched_device t d (object_id Crtc index)) (file_of planes s l (slice_set go index true) counts))
    (sym (on_there d.shadow s index w h.shadow_words is on)) (raised t d planes s l go counts index k h low)

pub flushed_off : (t : Topology) (d : DeviceState) (planes : ℕ) (s l : Registers) (go : List Bool) (counts : List ℕ) (index k : ℕ)
    (l' : Registers) (w : CrtcWords) → StandsForDevice t d (file_of planes s l go counts)
    → Latches planes s l index l' → w ≡ crtc_register s (object_id Crtc index) → w.active ≡ 0
    → StandsForDevice t (flushed t d k (object_id Crtc index)) (file_of planes s l' go counts)
flushed_off t d planes s l go counts index k l' w h latches is off =
    subst (λ (b : Bool). StandsForDevice t (if b then record d { go = (object_id Crtc index, Some k) ∷ d.go }
    else latched_device t d (object_id Crtc index)) (file_of planes s l' go counts))
    (sym (off_there d.shadow s index w h.shadow_words is off)) (latched_file t d planes s l go counts index l' h latches)

-- a CRTC that is off in the shadow shows nothing once it has latched
pub off_latched : (t : Topology) (d : DeviceState) (planes : ℕ) (s l : Registers) (go : List Bool) (counts : List ℕ) (index : ℕ)
    (w : CrtcWords) → StandsForDevice t d (file_of planes s l go counts)
    → w ≡ crtc_register s (object_id Crtc index) → w.active ≡ 0 → Off ≡ latched_picture t d (object_id Crtc index)
off_latched t d planes s l go counts index w h is off =
    let words : CrtcWords = crtc_register d.shadow (object_id Crtc index) in
    decoded_off t (latched_registers t d.shadow d.live (object_id Crtc index)) (object_id Crtc index)
    (is ∙ sym (h.shadow_words.crtcs index) ∙ sym (read_here first_crtc_words words d.live.crtcs (object_id Crtc index)
    (object_id Crtc index) refl)) off

-- a vblank is counted
counted_file : (t : Topology) (d : DeviceState) (planes : ℕ) (s l : Registers) (go go' : List Bool) (counts : List ℕ) (index : ℕ)
    → StandsForDevice t d (file_of planes s l go counts) → index < length counts
    → ((i : ℕ) → is_some (read None ((object_id Crtc index, None) ∷ d.go) (object_id Crtc i))
    ≡ read false (with_ids (object_id Crtc 0) go') (object_id Crtc i))
    → StandsForDevice t (counted d (object_id Crtc index)) (file_of planes s l go' (slice_set counts index (get_or counts index 0 + 1)))
counted_file t d planes s l go go' counts index h low goes = record {
  planes = h.planes;
  shadow_words = h.shadow_words;
  live_words = h.live_words;
  goes = goes;
  counted = row_set (λ (n : ℕ). n) 0 0 d.counts counts index (count_at d (object_id Crtc index) + 1) (get_or counts index 0 + 1) h.counted
      low
      (ap (λ (n : ℕ). n + 1) (h.counted index ∙ read-with_ids 0 counts (object_id Crtc 0) index (object_id Crtc index) refl));
}

-- whether a CRTC has GO
go_there : (t : Topology) (d : DeviceState) (planes : ℕ) (s l : Registers) (go : List Bool) (counts : List ℕ) (index : ℕ) (has : Bool)
    → StandsForDevice t d (file_of planes s l go counts) → get_or go index false ≡ has
    → is_some (go_at d (object_id Crtc index)) ≡ has
go_there t d planes s l go counts index has h is =
    h.goes index ∙ read-with_ids false go (object_id Crtc 0) index (object_id Crtc index) refl ∙ is

pub blanked_still : (t : Topology) (d : DeviceState) (planes : ℕ) (s l : Registers) (go : List Bool) (counts : List ℕ) (index : ℕ)
    → StandsForDevice t d (file_of planes s l go counts) → index < length counts → get_or go index false ≡ false
    → StandsForDevice t (blanked t d (object_id Crtc index)) (file_of planes s l go (slice_set counts index (get_or counts index 0 + 1)))
blanked_still t d planes s l go counts index h low off =
    subst (λ (b : Bool). StandsForDevice t (if b then latched_device t (counted d (object_id Crtc index)) (object_id Crtc index)
    else counted d (object_id Crtc index)) (file_of planes s l go (slice_set counts index (get_or counts index 0 + 1))))
    (sym (go_there t d planes s l go counts index false h off))
    (counted_file t d planes s l go go counts index h low (row_kept is_some None false d.go go index None h.goes (sym off)))

pub blanked_still_picture : (t : Topology) (d : DeviceState) (planes : ℕ) (s l : Registers) (go : List Bool) (counts : List ℕ) (index : ℕ)
    → StandsForDevice t d (file_of planes s l go counts) → get_or go index false ≡ false
    → None ≡ blanked_picture t d (object_id Crtc index)
blanked_still_picture t d planes s l go counts index h off =
    sym (ap (λ (b : Bool). if b then Some (latched_picture t d (object_id Crtc index)) else None)
    (go_there t d planes s l go counts index false h off))

pub blanked_latched : (t : Topology) (d : DeviceState) {planes : ℕ} {s l : Registers} (go : List Bool) (counts : List ℕ) {index : ℕ}
    {l' : Registers} → StandsForDevice t d (file_of planes s l go counts) → index < length counts → index < length go
    → get_or go index false ≡ true → Latches planes s l index l'
    → StandsForDevice t (blanked t d (object_id Crtc index))
    (file_of planes s l' (slice_set go index false) (slice_set counts index (get_or counts index 0 + 1)))
blanked_latched t d {planes} {s} {l} go counts {index} {l'} h low low_go on latches =
    let ticked : StandsForDevice t (counted d (object_id Crtc index))
    (file_of planes s l (slice_set go index false) (slice_set counts index (get_or counts index 0 + 1))) =
    counted_file t d planes s l go (slice_set go index false) counts index h low
    (row_set is_some None false d.go go index None false h.goes low_go refl) in
    subst (λ (b : Bool). StandsForDevice t (if b then latched_device t (counted d (object_id Crtc index)) (object_id Crtc index)
    else counted d (object_id Crtc index))
    (file_of planes s l' (slice_set go index false) (slice_set counts index (get_or counts index 0 + 1))))
    (sym (go_there t d planes s l go counts index true h on))
    (latched_file t (counted d (object_id Crtc index)) planes s l (slice_set go index false)
    (slice_set counts index (get_or counts index 0 + 1)) index l' ticked latches)

pub blanked_latched_picture : (t : Topology) (d : DeviceState) (planes : ℕ) (s l : Registers) (go : List Bool) (counts : List ℕ) (index : ℕ)
    (l' : Registers) (p : Picture) → StandsForDevice t d (file_of planes s l go counts)
    → get_or go index false ≡ true → Latches planes s l index l'
    → ((t : Topology) → length t.planes ≡ planes → p ≡ decoded_picture t l' (object_id Crtc index))
    → Some p ≡ blanked_picture t d (object_id Crtc index)
blanked_latched_picture t d planes s l go counts index l' p h on latches shown =
    let seen : p ≡ latched_picture t d (object_id Crtc index) =
    shown t h.planes ∙ sym (same_decoded t (latched_registers t d.shadow d.live (object_id Crtc index)) l' index
    (same_live t d planes s l go counts index l' h latches)) in
    ap (λ (x : Picture). Some x) seen ∙ sym (ap (λ (b : Bool). if b then Some (latched_picture t d (object_id Crtc index)) else None)
    (go_there t d planes s l go counts index true h on))
