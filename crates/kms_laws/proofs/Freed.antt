-- A framebuffer that is not needed stays so.
use Rattle.std.proofs.Common.{◌≡◌, ℕ, zero, suc, ◌<◌, ◌≤◌, List, [], ◌∷◌, length, map, Bool, true, false, not, ◌||◌, ◌==◌, Some, None, refl}
use Rattle.std.proofs.Common.{sym, ap, ◌∙◌, subst, arith, inl, inr, ◌⊎◌, ⊎_elim}
use Rattle.std.specs.Prelude.{if◌then◌else◌, nat_le}
use Rattle.std.specs.List.{list_any}
use Rattle.std.proofs.lemmas.Bool.{cases_Bool, cases_eq, cases_lt, eq-eqb, eqb-true, false_from_ne_true, false≢true, or_cases, or_left}
use Rattle.std.proofs.lemmas.Bool.{or_parts, or_right}
use Rattle.kms_model.specs.declared.objects.Kind.TheVariants.{Crtc, Plane}
use Rattle.kms_model.specs.declared.objects.Mode.{Mode}
use Rattle.kms_model.specs.declared.objects.Topology.{Topology}
use Rattle.kms_model.specs.declared.pictures.Layer.{Layer}
use Rattle.kms_model.specs.declared.runs.Latch.{Latch}
use Rattle.kms_model.specs.Device.Objects.{ids_of, index_of, object_id}
use Rattle.kms_model.specs.Device.States.{plane_at}
use Rattle.kms_model.specs.Frames.Pictures.{layers_with, put_layer, put_plane, shown_with}
use Rattle.kms_model.specs.Machine.Commits.{commit_touches, has_number}
use Rattle.kms_model.specs.Machine.Framebuffers.{picture_names}
use Rattle.kms_model.specs.Machine.Registers.{CrtcWords, PlaneWords, Registers, crtc_register, decoded_picture, format_in, gamma_in_words}
use Rattle.kms_model.specs.Machine.Registers.{is_copied, latched_registers, mode_in_words, plane_in, plane_register, plane_words}
use Rattle.kms_model.specs.Machine.State.{Commit, DeviceState}
use Rattle.kms_model.proofs.Items.{IsIn, IsObject, ids-in}
use Rattle.kms_laws.proofs.Basics.{both_bools}
use Rattle.kms_laws.proofs.Executed.{IsShut}
use Rattle.kms_laws.proofs.Invariants.{CommitsStand, picture_in_words, plane_after}
use Rattle.kms_laws.proofs.Latching.{copied_keep, copied_read}
use Rattle.kms_laws.proofs.Objects.{crtc_index, plane_registered}
use Rattle.kms_laws.proofs.Present.{StatesStand}
use Rattle.kms_laws.proofs.Traversal.{IsLatch, TailOf}
use Rattle.kms_laws.proofs.Whole.{Whole, copied_plane, unchanged}
use Rattle.kms_model.specs.declared.pictures.Picture.TheVariants as picture

-- A picture's layers are of planes

either-way : (a b c : Bool) → (a || (b || c)) ≡ true → (b ≡ true) ⊎ ((a || c) ≡ true)
either-way a true c h = inl refl
either-way true false c h = inr refl
either-way false false c h = inr h

put-names : (test : Layer → Bool) (l : ℕ × Layer) (ls : List (ℕ × Layer)) → list_any test (map (λ x. x.1) (put_layer l ls)) ≡ true
    → (test l.1 ≡ true) ⊎ (list_any test (map (λ x. x.1) ls) ≡ true)
put-names test l [] h = or_cases (test l.1) false h
put-names test l (m ∷ ms) h = by_test (nat_le l.0 m.0) (λ g. put-names test l ms g) h
  where
    by_test : (b : Bool) → (list_any test (map (λ x. x.1) (put_layer l ms)) ≡ true → (test l.1 ≡ true)
        ⊎ (list_any test (map (λ x. x.1) ms) ≡ true))
        → list_any test (map (λ x. x.1) (if b then l ∷ m ∷ ms else m ∷ put_layer l ms)) ≡ true → (test l.1 ≡ true)
        ⊎ ((test m.1 || list_any test (map (λ x. x.1) ms)) ≡ true)
    by_test true ih h = or_cases (test l.1) _ h
    by_test false ih h = ⊎_elim (λ e. inr (or_left (test m.1) _ e)) (λ e. ⊎_elim (λ f. inl f) (λ f. inr (or_right (test m.1) _ f)) (ih e))
        (or_cases (test m.1) _ h)

-- a plane whose words are on a CRTC with a framebuffer
pub record Names (ps : List ℕ) (f : ℕ → PlaneWords) (c fb : ℕ) : Type 0 where
  pub plane : ℕ
  pub is_in : IsIn plane ps
  pub on : (f plane).crtc ≡ c
  pub names : (f plane).fb ≡ fb

names_further : (p : ℕ) (ps : List ℕ) (f : ℕ → PlaneWords) (c fb : ℕ) → Names ps f c fb → Names (p ∷ ps) f c fb
names_further p ps f c fb found = record { plane = found.plane; is_in = inr found.is_in; on = found.on; names = found.names }

layer-names : (f : ℕ → PlaneWords) (m : Mode) (c fb : ℕ) (ps : List ℕ)
    → list_any (λ l. l.fb.id == fb) (map (λ x. x.1) (layers_with (λ p. plane_in (f p)) m c ps)) ≡ true → Names ps f c fb
unfolding plane_in
layer-names f m c fb [] h = absurd (false≢true h)
layer-names f m c fb (p ∷ ps) h = by_tests (λ g. names_further p ps f c fb (layer-names f m c fb ps g)) ((f p).crtc == c) refl
    ((f p).fb == 0) h
  where
    by_tests : (list_any (λ l. l.fb.id == fb) (map (λ x. x.1) (layers_with (λ p. plane_in (f p)) m c ps)) ≡ true → Names (p ∷ ps) f c fb)
        → (on : Bool) → ((f p).crtc == c) ≡ on → (off : Bool)
        → list_any (λ l. l.fb.id == fb) (map (λ x. x.1)
        (put_plane m p (plane_in (f p)) (if on then (if off then None
        else Some (record { id = (f p).fb; width = (f p).fb_width; height = (f p).fb_height; format = format_in (f p).fb_format }))
        else None) (layers_with (λ p. plane_in (f p)) m c ps))) ≡ true
        → Names (p ∷ ps) f c fb
    by_tests rest false e off h = rest h
    by_tests rest true e true h = rest h
    by_tests rest true e false h =
        ⊎_elim
        (λ here. record { plane = p; is_in = inl refl; on = eqb-true (f p).crtc c e; names = eqb-true (f p).fb fb here })
        (λ later. rest later)
        (put-names (λ l. l.fb.id == fb) _ (layers_with (λ p. plane_in (f p)) m c ps) h)

-- who is named by a picture in words is named by a plane's words
pub picture-names : (t : Topology) (w : CrtcWords) (f : ℕ → PlaneWords) (c fb : ℕ)
    → picture_names fb (picture_in_words t w (λ p. plane_in (f p)) c) ≡ true → Names (ids_of t Plane) f c fb
picture-names t w f c fb h = by_active (w.active == 0) h
  where
    by_active : (off : Bool) → picture_names fb (if not off
        then picture.On (shown_with (mode_in_words w) w.conn (gamma_in_words w)
        (layers_with (λ p. plane_in (f p)) (mode_in_words w) c (ids_of t Plane))) else picture.Off) ≡ true → Names (ids_of t Plane) f c fb
    by_active true h = absurd (false≢true h)
    by_active false h = layer-names f (mode_in_words w) c fb (ids_of t Plane) h

-- What the shadow names

-- the next commit from one on that touches a plane
record NextTouch (t : Topology) (cs : List Commit) (m n p : ℕ) : Type 0 where
  at : ℕ
  from : m ≤ at
  below : at < n
  touch : commit_touches t cs at p ≡ true
  same : plane_after t cs at p ≡ plane_after t cs m p

-- from a commit on, a plane is touched next at some commit, or never
next_touch : (t : Topology) (cs : List Commit) → CommitsStand t cs → (m n p : ℕ) → IsIn p (ids_of t Plane) → m ≤ n → n ≤ length cs
    → NextTouch t cs m n p ⊎ (plane_after t cs n p ≡ plane_after t cs m p)
next_touch t cs C m zero p i l b = inr (let e : zero ≡ m = omega arith in ap (λ z. plane_after t cs z p) e)
next_touch t cs C m (suc n) p i l b =
    ⊎_elim
    (λ (lt : m < suc n).
    ⊎_elim
    (λ r. let l2 = r.below in inl (record { at = r.at; from = r.from; below = omega arith; touch = r.touch; same = r.same }))
    (λ same.
    ⊎_elim
    (λ tn. inl (record { at = n; from = omega arith; below = omega arith; touch = tn; same = same }))
    (λ un. inr (C.plane_frame n p (omega arith) i un ∙ same))
    (cases_Bool (commit_touches t cs n p)))
    (next_touch t cs C m n p i (omega arith) (omega arith)))
    (λ ge. inr (let e : suc n ≡ m = omega arith in ap (λ z. plane_after t cs z p) e))
    (cases_lt m (suc n))

-- A framebuffer, by its id, that is not needed: it is closed, and no value, no live picture and no commit that is not
-- cleaned names it.
pub record Gone (t : Topology) (fb : ℕ) (d : DeviceState) : Type 0 where
  pub some : 1 ≤ fb
  pub below : fb < d.world.next_id
  pub shut : IsShut d.world.things fb
  pub unnamed : (p : ℕ) → IsIn p (ids_of t Plane) → (plane_words (plane_at d.world.things d.world.values p)).fb ≡ fb → ⊥
  pub unlive : (c : ℕ) → IsIn c (ids_of t Crtc) → picture_names fb (decoded_picture t d.live c) ≡ false
  pub unkept : (k p : ℕ) → k < length d.commits → has_number d.marks.cleaned k ≡ false → IsIn p (ids_of t Plane)
      → commit_touches t d.commits k p ≡ true
      → ((plane_after t d.commits k p).fb ≡ fb) ⊎ ((plane_after t d.commits (suc k) p).fb ≡ fb) → ⊥

-- no shadow word names it
shadow_unnamed : (t : Topology) (fb : ℕ) (d : DeviceState) (ls : List Latch) → TailOf t d ls → StatesStand t d.world d.commits → Gone t fb d
    → (p : ℕ) → IsIn p (ids_of t Plane) → (plane_register d.shadow p).fb ≡ fb → ⊥
shadow_unnamed t fb d ls T S G p i is =
    let e = T.shadow.plane p i in
    let names : (plane_after t d.commits e.at p).fb ≡ fb = sym (ap (λ (w : PlaneWords). w.fb) e.says) ∙ is in
    ⊎_elim
    (λ r.
    G.unkept r.at p r.below
    (false_from_ne_true _ (λ clean. absurd (let w = e.above r.at
    ((T.marks.done r.at (T.marks.clean_done r.at clean)).1 p (plane_registered t p i) r.touch) in let l = r.from in omega arith)))
    i r.touch (inl (ap (λ (w : PlaneWords). w.fb) r.same ∙ names)))
    (λ same. G.unnamed p i (ap (λ (w : PlaneWords). w.fb) (S.plane p i ∙ same) ∙ names))
    (next_touch t d.commits T.commits e.at (length d.commits) p i e.within (omega arith))

-- A latch

module _ (t : Topology) (fb : ℕ) (d : DeviceState) (ls : List Latch) (k c count : ℕ) (T : TailOf t d ls) (found : IsLatch t d ls k c)
    (L : Whole t d ls) (S : StatesStand t d.world d.commits) (G : Gone t fb d) where
  after : Registers
  after = latched_registers t d.shadow d.live c

  -- the CRTC that latched shows planes of the shadow
  unlive_here : picture_names fb (decoded_picture t after c) ≡ false
  unfolding decoded_picture after
  unlive_here = false_from_ne_true _ (λ y.
      let n = picture-names t (crtc_register (latched_registers t d.shadow d.live c) c) (λ p. copied_plane t d.shadow d.live c p) c fb y in
      ⊎_elim
      (λ mv. shadow_unnamed t fb d ls T S G n.plane n.is_in
      (ap (λ (w : PlaneWords). w.fb) (sym (copied_read d.shadow d.live c (ids_of t Plane) n.plane mv n.is_in)) ∙ n.names))
      (λ mv.
      let keep = copied_keep d.shadow d.live c (ids_of t Plane) n.plane mv in
      let away = or_parts ((plane_register d.live n.plane).crtc == c) _ mv in
      both_bools _ (eq-eqb (plane_register d.live n.plane).crtc c (ap (λ (w : PlaneWords). w.crtc) (sym keep) ∙ n.on)) away.0)
      (cases_Bool (is_copied d.shadow d.live c n.plane)))

  pub unlive_after : (e : ℕ) → IsIn e (ids_of t Crtc) → picture_names fb (decoded_picture t (latched_registers t d.shadow d.live c) e)
      ≡ false
  unfolding after
  unlive_after e i =
      let o : IsObject t Crtc e = ids-in t Crtc e i in
      ⊎_elim
      (λ (same : index_of c ≡ o.index).
      subst (λ z. picture_names fb (decoded_picture t (latched_registers t d.shadow d.live c) z) ≡ false)
      (sym (crtc_index t c T.few found.is_crtc) ∙ ap (object_id Crtc) same ∙ sym o.same) unlive_here)
      (λ ne.
      subst (λ z. picture_names fb (decoded_picture t (latched_registers t d.shadow d.live c) z) ≡ false) (sym o.same)
      (ap (picture_names fb) (unchanged t d ls k c count T found L o.index o.within ne)
      ∙ subst (λ z. picture_names fb (decoded_picture t d.live z) ≡ false) o.same (G.unlive e i)))
      (cases_eq (index_of c) o.index)
