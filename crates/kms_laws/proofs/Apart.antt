-- What else holds of commits: a plane is on a CRTC or on none, and never goes from one CRTC straight to another; what a
-- commit's words show is what its values show.
use Rattle.std.proofs.Common.{◌≡◌, ℕ, suc, ◌+◌, ◌<◌, ◌≤◌, List, [], ◌∷◌, length, Bool, true, false, ◌==◌, Option, Some, None, refl, sym, ap}
use Rattle.std.proofs.Common.{◌∙◌, subst, arith, inl, inr, ◌⊎◌, ⊎_elim}
use Rattle.std.specs.Prelude.{not, get_or}
use Rattle.std.proofs.lemmas.Bool.{and_from, cases_eq, eqb-true, ne_eqb}
use Rattle.std.proofs.lemmas.Option.{slice_get-get_or}
use Rattle.kms_model.specs.declared.objects.Kind.TheVariants.{Conn, Crtc, Plane}
use Rattle.kms_model.specs.declared.objects.PlaneInfo.{PlaneInfo}
use Rattle.kms_model.specs.declared.objects.Topology.{Topology}
use Rattle.kms_model.specs.declared.pictures.FbInfo.{FbInfo}
use Rattle.kms_model.specs.declared.scripts.Request.{Request}
use Rattle.kms_model.specs.declared.states.PlaneState.{PlaneState}
use Rattle.kms_model.specs.declared.worlds.Setting.{Setting}
use Rattle.kms_model.specs.declared.worlds.Thing.{Thing}
use Rattle.kms_model.specs.declared.worlds.World.{World}
use Rattle.kms_model.specs.Device.Masks.{has_bit}
use Rattle.kms_model.specs.Frames.Rectangles.{fits_source}
use Rattle.kms_model.specs.Script.Grammar.{format_bit}
use Rattle.kms_model.specs.Device.Objects.{kind_of, first_id, ids_of, object_id}
use Rattle.kms_model.specs.Device.Sound.{IsCrtcOrNone, IsNumbered}
use Rattle.kms_model.specs.Device.Sound.IsCrtcOrNone.{IsNone, IsCrtc}
use Rattle.kms_model.specs.Device.States.{crtc_at, plane_at}
use Rattle.kms_model.specs.Firsts.{first_some, number_if}
use Rattle.kms_model.specs.Frames.Pictures.{picture}
use Rattle.kms_model.specs.Frames.Shown.{AreFramed}
use Rattle.kms_model.specs.Machine.Commits.{commit_at, commit_concerns, commit_names, commit_touches, is_on_before_or_after, lockable}
use Rattle.kms_model.specs.Machine.Commits.{new_values, old_plane, old_values}
use Rattle.kms_model.specs.Machine.Registers.{PlaneWords, plane_in, plane_words}
use Rattle.kms_model.specs.Machine.State.{Commit}
use Rattle.kms_model.specs.Request.Apply.{after}
use Rattle.kms_model.specs.Request.Checks.{event_refusal, has_crtc, is_beyond, late_refusal, placed_refusal, plane_refusal}
use Rattle.kms_model.specs.Request.Checks.{plane_refusal_at, plane_refusal_with, switches_crtc, with_ids}
use Rattle.kms_model.specs.Request.Verdict.{verdict}
use Rattle.kms_model.proofs.Items.{IsIn, IsObject, first_some-at, ids-has, ids-in, number_if-none, or_else-none, with_ids-has}
use Rattle.kms_model.proofs.SeenLemmas.{plane_crtc-held}
use Rattle.kms_model.proofs.SoundKept.{accepted-parts, plain-apply, sound-apply}
use Rattle.kms_model.proofs.TouchedLemmas.{IsRequestAt, few_objects}
use Rattle.kms_model.proofs.CommitFacts.{commit_old, commit_new, touches_old, touches_new, concerns_old, concerns_new}
use Rattle.kms_laws.proofs.Basics.{both_bools, in_either}
use Rattle.kms_laws.proofs.Invariants.{picture_at, picture_in_words, plane_after}
use Rattle.kms_laws.proofs.Numbered.{crtc_new, names_new, names_old, picture_old, plane_new, plane_old}
use Rattle.kms_laws.proofs.Objects.{conn_kind, crtc_kind, plane_kind}
use Rattle.kms_laws.proofs.Present.{is_old, StatesStand}
use Rattle.kms_laws.proofs.Requests.{is_on_kind, kind_names, moves_on-from}
use Rattle.kms_laws.proofs.Start.{no_info}
use Rattle.kms_model.specs.Request.Touched.{touches, touches_of_kind}
use Rattle.kms_model.specs.declared.objects.Kind.{Kind}
use Rattle.kms_laws.proofs.Words.{AreKept, words_show}

abbrev pub IsOnCrtc : Topology → ℕ → Type 0
IsOnCrtc t crtc = (crtc ≡ 0) ⊎ IsIn crtc (ids_of t Crtc)

-- two CRTCs of a plane, of which one is none, or which are the same
abbrev pub IsApart : ℕ → ℕ → Type 0
IsApart old new = (old ≡ 0) ⊎ ((new ≡ 0) ⊎ (old ≡ new))

pub record CommitsApart (t : Topology) (cs : List Commit) : Type 0 where
  pub concerned : (k p c : ℕ) → k < length cs → IsIn p (ids_of t Plane) → ((plane_after t cs k p).crtc ≡ c)
      ⊎ ((plane_after t cs (suc k) p).crtc ≡ c) → commit_concerns t cs k p c ≡ true
  pub on_crtc : (m p : ℕ) → m ≤ length cs → IsIn p (ids_of t Plane) → IsOnCrtc t (plane_after t cs m p).crtc
  pub apart : (k p : ℕ) → k < length cs → IsIn p (ids_of t Plane) → IsApart (plane_after t cs k p).crtc (plane_after t cs (suc k) p).crtc
  pub named : (k o c : ℕ) → k < length cs → IsIn o (lockable t) → IsIn c (ids_of t Crtc) → commit_touches t cs k o ≡ true
      → commit_concerns t cs k o c ≡ true → commit_names t cs k c ≡ true
  pub old_words : (k p : ℕ) → k < length cs → IsIn p (ids_of t Plane) → plane_words (old_plane t cs k p) ≡ plane_after t cs k p
  pub pictured : (k c : ℕ) → k < length cs → IsIn c (ids_of t Crtc) → picture_at t cs (suc k) c
      ≡ picture t (commit_at t cs k).world.things (new_values (commit_at t cs k)) c

on_from : (t : Topology) (crtc : ℕ) → IsCrtcOrNone t crtc → IsOnCrtc t crtc
on_from t crtc (IsNone e) = inl e
on_from t crtc (IsCrtc index within same) = inr (subst (λ z. IsIn z (ids_of t Crtc)) (sym same) (ids-has t Crtc index within))

apart-from : (old new : ℕ) → switches_crtc old new ≡ false → IsApart old new
apart-from old new h =
    ⊎_elim (λ e. inl e) (λ some_old.
    ⊎_elim (λ e. inr (inl e)) (λ some_new.
    ⊎_elim (λ e. inr (inr e)) (λ differ.
    absurd (both_bools (switches_crtc old new) (and_from _ _ (ap not (ne_eqb old 0 some_old))
    (and_from _ _ (ap not (ne_eqb new 0 some_new)) (ap not (ne_eqb old new differ)))) h))
    (cases_eq old new)) (cases_eq new 0)) (cases_eq old 0)

placed-apart : (info : PlaneInfo) (fb : FbInfo) (old new : PlaneState) → placed_refusal info fb old new ≡ None
    → switches_crtc old.crtc new.crtc ≡ false
placed-apart info fb old new none =
    let one = or_else-none (number_if 11 (not (has_crtc info.crtcs new.crtc))) _ none in
    let two = or_else-none (number_if 12 (not (has_bit info.formats (format_bit fb.format)))) _ one.second_none in
    let three = or_else-none (number_if 13 (is_beyond new.dst)) _ two.second_none in
    let four = or_else-none (number_if 14 (not (fits_source new.src fb.width fb.height))) _ three.second_none in
    number_if-none 15 (switches_crtc old.crtc new.crtc) four.second_none

with-apart : (info : PlaneInfo) (old new : PlaneState) (fb : Option FbInfo) (off : Bool) → (new.crtc == 0) ≡ off
    → plane_refusal_with info old new fb off ≡ None → IsApart old.crtc new.crtc
with-apart info old new None true e none = inr (inl (eqb-true new.crtc 0 e))
with-apart info old new None false e none = absurd cc
with-apart info old new (Some fb) true e none = absurd cc
with-apart info old new (Some fb) false e none = apart-from old.crtc new.crtc (placed-apart info fb old new none)

plane-apart : (info : PlaneInfo) (old new : PlaneState) → plane_refusal info old new ≡ None → IsApart old.crtc new.crtc
unfolding plane_refusal
plane-apart info old new none = with-apart info old new new.fb (new.crtc == 0) refl none

planes-none : (t : Topology) (things : List Thing) (old new : List Setting) (r : Request) → late_refusal t things old new r ≡ None
    → first_some (plane_refusal_at things old new) (with_ids (first_id Plane) t.planes) ≡ None
unfolding late_refusal
planes-none t things old new r none = (or_else-none (first_some (plane_refusal_at things old new) (with_ids (first_id Plane) t.planes)) _
    (or_else-none (event_refusal t old new r) _ none).second_none).first_none

accepted-apart : (t : Topology) (w : World) (r : Request) (p : ℕ) → verdict t w r ≡ None → IsIn p (ids_of t Plane)
    → IsApart (crtc_at w.values p) (crtc_at (after w r) p)
accepted-apart t w r p none is =
    let o : IsObject t Plane p = ids-in t Plane p is in
    let info : PlaneInfo = get_or t.planes o.index no_info in
    let late = (accepted-parts t w r none).second_none in
    let row : IsIn (first_id Plane + o.index, info) (with_ids (first_id Plane) t.planes) = with_ids-has (first_id Plane) t.planes o.index
    info (slice_get-get_or t.planes o.index no_info o.within) in
    let passed = first_some-at (plane_refusal_at w.things w.values (after w r)) (with_ids (first_id Plane) t.planes)
    (first_id Plane + o.index, info) (planes-none t w.things w.values (after w r) r late) row in
    subst (λ z. IsApart (crtc_at w.values z) (crtc_at (after w r) z)) (sym o.same)
    (plane-apart info (plane_at w.things w.values (object_id Plane o.index)) (plane_at w.things (after w r) (object_id Plane o.index))
    passed)

module _ (t : Topology) (x : Commit) (cs : List Commit) (at : IsRequestAt t x.world x.request) (numbered : IsNumbered x.world)
    (none : verdict t x.world x.request ≡ None) (S : StatesStand t x.world cs)
    (framed : AreFramed x.world.things) (kept : AreKept x.world.things) (A : CommitsApart t cs) where
  words_crtc : (things : List Thing) (values : List Setting) (p : ℕ) → (plane_words (plane_at things values p)).crtc ≡ crtc_at values p
  unfolding plane_words
  words_crtc things values p = refl

  before_crtc : (p : ℕ) → IsIn p (ids_of t Plane) → (plane_after t (x ∷ cs) (length cs) p).crtc ≡ crtc_at x.world.values p
  before_crtc p is = ap (λ (w : PlaneWords). w.crtc) (plane_old t x cs (length cs) p (omega arith) ∙ sym (S.plane p is)) ∙ words_crtc
      x.world.things x.world.values p

  after_crtc : (p : ℕ) → (plane_after t (x ∷ cs) (suc (length cs)) p).crtc ≡ crtc_at (new_values x) p
  after_crtc p = ap (λ (w : PlaneWords). w.crtc) (plane_new t x cs p) ∙ words_crtc x.world.things (new_values x) p

  concerned_new : (p c : ℕ) → IsIn p (ids_of t Plane) → ((plane_after t (x ∷ cs) (length cs) p).crtc ≡ c)
      ⊎ ((plane_after t (x ∷ cs) (suc (length cs)) p).crtc ≡ c) → commit_concerns t (x ∷ cs) (length cs) p c ≡ true
  concerned_new p c is on =
      concerns_new t x cs p c
      ∙ ap (λ kind. is_on_before_or_after kind x p c) (plane_kind t p (few_objects t at.device) is)
      ∙ moves_on-from t x.world x.request at p c (⊎_elim (λ e. inl (sym (before_crtc p is) ∙ e)) (λ e. inr (sym (after_crtc p) ∙ e)) on)

  on_new : (p : ℕ) → IsIn p (ids_of t Plane) → IsOnCrtc t (plane_after t (x ∷ cs) (suc (length cs)) p).crtc
  on_new p is =
      subst (IsOnCrtc t) (sym (after_crtc p))
      (on_from t (crtc_at (new_values x) p)
      (plane_crtc-held t x.world.things (new_values x) p (plain-apply t x.world x.request at.sound at.early) is))

  apart_new : (p : ℕ) → IsIn p (ids_of t Plane) → IsApart (plane_after t (x ∷ cs) (length cs) p).crtc
      (plane_after t (x ∷ cs) (suc (length cs)) p).crtc
  apart_new p is = subst (λ z. IsApart z (plane_after t (x ∷ cs) (suc (length cs)) p).crtc) (sym (before_crtc p is))
      (subst (IsApart (crtc_at x.world.values p)) (sym (after_crtc p)) (accepted-apart t x.world x.request p none is))

  pictured_new : (c : ℕ) → IsIn c (ids_of t Crtc) → picture_at t (x ∷ cs) (suc (length cs)) c
      ≡ picture t (commit_at t (x ∷ cs) (length cs)).world.things (new_values (commit_at t (x ∷ cs) (length cs))) c
  pictured_new c is =
      let w1 : World = record x.world { values = new_values x; commits = x.world.commits + 1 } in
      (λ i. picture_in_words t (crtc_new t x cs c i) (λ p. plane_in (plane_new t x cs p i)) c)
      ∙ words_show t w1 c (sound-apply t x.world x.request (x.world.commits + 1) (record { sound = at.sound; numbered = numbered }) none)
      framed kept is
      ∙ ap (λ (z : Commit). picture t z.world.things (new_values z) c) (sym (commit_new t x cs))

  old_words_new : (p : ℕ) → IsIn p (ids_of t Plane) → plane_words (old_plane t (x ∷ cs) (length cs) p)
      ≡ plane_after t (x ∷ cs) (length cs) p
  unfolding old_plane
  old_words_new p is =
      ap (λ (z : Commit). plane_words (plane_at z.world.things (old_values z) p)) (commit_new t x cs) ∙ S.plane p is ∙ sym
      (plane_old t x cs (length cs) p (omega arith))

  old_words_old : (k p : ℕ) → k < length cs → IsIn p (ids_of t Plane) → plane_words (old_plane t (x ∷ cs) k p) ≡ plane_after t (x ∷ cs) k p
  unfolding old_plane
  old_words_old k p l is =
      ap (λ (z : Commit). plane_words (plane_at z.world.things (old_values z) p)) (commit_old t x cs k l) ∙ A.old_words k p l is ∙ sym
      (plane_old t x cs k p (omega arith))

  named_kind : (k : Kind) (o c : ℕ) → kind_of o ≡ k → IsIn o (ids_of t k) → commit_touches t (x ∷ cs) (length cs) o ≡ true
      → commit_concerns t (x ∷ cs) (length cs) o c ≡ true
      → is_on_before_or_after k x o c ≡ is_on_kind t x.world x.request at k o c → commit_names t (x ∷ cs) (length cs) c ≡ true
  unfolding touches
  named_kind k o c of_kind is touch on same =
      names_new t x cs c
      ∙ kind_names t x.world x.request at k o c is
      (sym (ap (λ z. touches_of_kind z t x.world x.request o) of_kind) ∙ sym (touches_new t x cs o) ∙ touch)
      (sym same ∙ sym (ap (λ z. is_on_before_or_after z x o c) of_kind) ∙ sym (concerns_new t x cs o c) ∙ on)

  named_last : (o c : ℕ) → IsIn o (lockable t) → commit_touches t (x ∷ cs) (length cs) o ≡ true → commit_concerns t (x ∷ cs) (length cs) o c
      ≡ true → commit_names t (x ∷ cs) (length cs) c ≡ true
  named_last o c is touch on =
      let few = few_objects t at.device in
      ⊎_elim
      (λ i. named_kind Crtc o c (crtc_kind t o few i) i touch on refl)
      (λ rest.
      ⊎_elim
      (λ i. named_kind Plane o c (plane_kind t o few i) i touch on refl)
      (λ i. named_kind Conn o c (conn_kind t o few i) i touch on refl)
      (in_either (ids_of t Plane) (ids_of t Conn) o rest))
      (in_either (ids_of t Crtc) _ o is)

  pub apart_more : CommitsApart t (x ∷ cs)
  apart_more = record {
    concerned = λ k p c l is on.
        ⊎_elim
        (λ old.
        concerns_old t x cs k p c old
        ∙ A.concerned k p c old is
        (⊎_elim
        (λ e. inl (ap (λ (w : PlaneWords). w.crtc) (sym (plane_old t x cs k p (omega arith))) ∙ e))
        (λ e. inr (ap (λ (w : PlaneWords). w.crtc) (sym (plane_old t x cs (suc k) p old)) ∙ e))
        on))
        (λ (same : length cs ≡ k).
        subst (λ z. ((plane_after t (x ∷ cs) z p).crtc ≡ c) ⊎ ((plane_after t (x ∷ cs) (suc z) p).crtc ≡ c)
        → commit_concerns t (x ∷ cs) z p c ≡ true) same (concerned_new p c is) on)
        (is_old k (length cs) l);
    on_crtc = λ m p l is.
        ⊎_elim
        (λ (old : m < suc (length cs)). subst (λ (w : PlaneWords). IsOnCrtc t w.crtc) (sym (plane_old t x cs m p (omega arith)))
        (A.on_crtc m p (omega arith) is))
        (λ (same : suc (length cs) ≡ m). subst (λ z. IsOnCrtc t (plane_after t (x ∷ cs) z p).crtc) same (on_new p is))
        (is_old m (suc (length cs)) (omega arith));
    apart = λ k p l is.
        ⊎_elim
        (λ old.
        subst (λ (w : PlaneWords). IsApart w.crtc (plane_after t (x ∷ cs) (suc k) p).crtc) (sym (plane_old t x cs k p (omega arith)))
        (subst (λ (w : PlaneWords). IsApart (plane_after t cs k p).crtc w.crtc) (sym (plane_old t x cs (suc k) p old))
        (A.apart k p old is)))
        (λ (same : length cs ≡ k). subst (λ z. IsApart (plane_after t (x ∷ cs) z p).crtc (plane_after t (x ∷ cs) (suc z) p).crtc) same
        (apart_new p is))
        (is_old k (length cs) l);
    named = λ k o c l io ic touch on.
        ⊎_elim
        (λ old. names_old t x cs k c old ∙ A.named k o c old io ic (sym (touches_old t x cs k o old) ∙ touch)
        (sym (concerns_old t x cs k o c old) ∙ on))
        (λ (same : length cs ≡ k).
        subst (λ z. commit_touches t (x ∷ cs) z o ≡ true → commit_concerns t (x ∷ cs) z o c ≡ true → commit_names t (x ∷ cs) z c ≡ true)
        same (named_last o c io) touch on)
        (is_old k (length cs) l);
    old_words = λ k p l is.
        ⊎_elim
        (λ old. old_words_old k p old is)
        (λ (same : length cs ≡ k). subst (λ z. plane_words (old_plane t (x ∷ cs) z p) ≡ plane_after t (x ∷ cs) z p) same
        (old_words_new p is))
        (is_old k (length cs) l);
    pictured = λ k c l is.
        ⊎_elim
        (λ old.
        picture_old t x cs (suc k) c old ∙ A.pictured k c old is
        ∙ ap (λ (z : Commit). picture t z.world.things (new_values z) c) (sym (commit_old t x cs k old)))
        (λ (same : length cs ≡ k).
        subst (λ z. picture_at t (x ∷ cs) (suc z) c ≡ picture t (commit_at t (x ∷ cs) z).world.things (new_values (commit_at t (x ∷ cs) z))
        c) same (pictured_new c is))
        (is_old k (length cs) l);
  }

pub none_apart : (t : Topology) → CommitsApart t []
unfolding plane_after
none_apart t = record {
  concerned = λ k p c l. absurd (omega arith);
  on_crtc = λ m p l is. let e : 0 ≡ m = omega arith in subst (λ z. IsOnCrtc t (plane_after t [] z p).crtc) e (inl refl);
  apart = λ k p l. absurd (omega arith);
  named = λ k o c l. absurd (omega arith);
  old_words = λ k p l. absurd (omega arith);
  pictured = λ k c l. absurd (omega arith);
}
