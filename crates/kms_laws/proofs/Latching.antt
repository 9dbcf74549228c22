-- What a latch finds.
use Rattle.std.proofs.Common.{◌≡◌, ℕ, zero, suc, ◌<◌, ◌≤◌, List, [], ◌∷◌, length, Bool, true, false, not, ◌==◌, Option, Some, None, refl}
use Rattle.std.proofs.Common.{sym, ap, ◌∙◌, arith, inl, inr, ◌⊎◌, ⊎_elim}
use Rattle.std.proofs.lemmas.Bool.{or_parts, ne_eqb, cases_Bool, cond-false, false≢true, cases_eq, cases_lt, false_from_ne_true}
use Rattle.std.specs.Prelude.{if◌then◌else◌}
use Rattle.kms_model.specs.declared.objects.Kind.TheVariants.{Crtc, Plane}
use Rattle.kms_model.specs.declared.objects.Mode.{Mode}
use Rattle.kms_model.specs.declared.objects.Topology.{Topology}
use Rattle.kms_model.specs.declared.pictures.Layer.{Layer}
use Rattle.kms_model.specs.declared.pictures.Picture.TheVariants.{Off, On}
use Rattle.kms_model.specs.declared.runs.Latch.{Latch}
use Rattle.kms_model.specs.Device.Objects.{ids_of}
use Rattle.kms_model.specs.Frames.Pictures.{layers_with, shown_with, seen_on, put_plane}
use Rattle.kms_model.specs.Machine.Commits.{commit_names, commit_touches, has_latched, has_number, has_pair}
use Rattle.kms_model.specs.Machine.Registers.{PlaneWords, CrtcWords, Registers, copied_planes, crtc_register, decoded_picture}
use Rattle.kms_model.specs.Machine.Registers.{first_crtc_words, first_plane_words, gamma_in_words, is_copied, latched_registers}
use Rattle.kms_model.specs.Machine.Registers.{mode_in_words, plane_in, plane_register, read}
use Rattle.kms_model.specs.Machine.State.{Commit, Marks}
use Rattle.kms_model.proofs.Items.{IsIn}
use Rattle.kms_laws.proofs.Basics.{both_bools, read_same, read_other}
use Rattle.kms_laws.proofs.Invariants.{CommitsStand, Edge, IsSettled, Tail, crtc_after, picture_at, picture_in_words, plane_after}
use Rattle.kms_laws.proofs.Objects.{concerns_self, crtc_lockable, crtc_registered, names-touches, plane_registered}

-- the words of a plane as far as a CRTC goes
abbrev pub seen : ℕ → PlaneWords → Option PlaneWords
seen c w = if w.crtc == c then Some w else None

pub seen_none : (c : ℕ) (w : PlaneWords) → (w.crtc ≡ c → ⊥) → seen c w ≡ None
seen_none c w ne = cond-false (w.crtc == c) (Some w) None (ne_eqb w.crtc c ne)

module _ (touches names : ℕ → Bool) (plane : ℕ → PlaneWords) (c n : ℕ)
    (frame : (k : ℕ) → k < n → touches k ≡ false → plane (suc k) ≡ plane k)
    (moved : (k : ℕ) → k < n → touches k ≡ true → ((plane k).crtc ≡ c) ⊎ ((plane (suc k)).crtc ≡ c) → names k ≡ true) where
  unseen_step : (k : ℕ) → k < n → (touches k ≡ true → names k ≡ false) → seen c (plane k) ≡ seen c (plane (suc k))
  unseen_step k l h =
      ⊎_elim
      (λ t. seen_none c (plane k) (λ e. both_bools (names k) (moved k l t (inl e)) (h t)) ∙ sym
      (seen_none c (plane (suc k)) (λ e. both_bools (names k) (moved k l t (inr e)) (h t))))
      (λ f. ap (seen c) (sym (frame k l f)))
      (cases_Bool (touches k))

  -- commits that touch a plane and do not name the CRTC leave the plane alone as far as the CRTC goes
  pub unseen : (a b : ℕ) → a ≤ b → b ≤ n → ((j : ℕ) → a ≤ j → j < b → touches j ≡ true → names j ≡ false) → seen c (plane a)
      ≡ seen c (plane b)
  unseen a zero l m h = ap (λ z. seen c (plane z)) (omega arith)
  unseen a (suc b) l m h =
      ⊎_elim
      (λ (lt : a < suc b). unseen a b (omega arith) (omega arith) (λ j l2 m2. h j l2 (omega arith)) ∙ unseen_step b (omega arith)
      (h b (omega arith) (omega arith)))
      (λ ge. ap (λ z. seen c (plane z)) (omega arith))
      (cases_lt a (suc b))

-- a CRTC that no commit names stays as it is
pub crtc_same : (t : Topology) (cs : List Commit) → CommitsStand t cs → (c : ℕ) → IsIn c (ids_of t Crtc) → (a b : ℕ) → a ≤ b → b ≤ length cs
    → ((j : ℕ) → a ≤ j → j < b → commit_names t cs j c ≡ false) → crtc_after t cs b c ≡ crtc_after t cs a c
crtc_same t cs C c i a zero l m h = ap (λ z. crtc_after t cs z c) (omega arith)
crtc_same t cs C c i a (suc b) l m h =
    ⊎_elim
    (λ (lt : a < suc b). C.crtc_frame b c (omega arith) i (h b (omega arith) (omega arith)) ∙ crtc_same t cs C c i a b (omega arith)
    (omega arith) (λ j l2 m2. h j l2 (omega arith)))
    (λ ge. ap (λ z. crtc_after t cs z c) (omega arith))
    (cases_lt a (suc b))

module _ {t : Topology} {cs : List Commit} {ms : Marks} {sh : Registers} {go : List (ℕ × Option ℕ)} {ls : List Latch}
    (T : Tail t cs ms sh go ls)
    (k c : ℕ) (is_crtc : IsIn c (ids_of t Crtc)) (F : has_pair ms.flushed k c ≡ true) (un : has_latched ls k c ≡ false) where
  c_written : has_pair ms.written k c ≡ true
  c_written = let f = T.marks.flushed k c F in f.written c (crtc_registered t c is_crtc) (names-touches t cs k c T.few is_crtc f.names)

  pub is_claimed_then : has_number ms.claimed k ≡ true
  is_claimed_then = (T.marks.written k c c_written).0

  pub within : k < length cs
  within = T.marks.claimed k is_claimed_then

  -- all earlier ones that name the CRTC have hw_done and have latched at it
  settled_before : (j : ℕ) → j < k → commit_names t cs j c ≡ true → IsSettled t cs ms.done ls j c
  settled_before j l h = T.order.settled k j c is_claimed_then l (crtc_lockable t c is_crtc) (T.marks.written k c c_written).1
      (names-touches t cs j c T.few is_crtc h)

  pub latched_before : (j : ℕ) → j < k → commit_names t cs j c ≡ true → has_latched ls j c ≡ true
  latched_before j l h = (settled_before j l h).flipped c is_crtc (concerns_self t cs j c T.few is_crtc)

  -- no later one is claimed
  pub none_after : (j : ℕ) → k < j → has_number ms.claimed j ≡ true → commit_touches t cs j c ≡ true → ⊥
  none_after j l h touch =
      both_bools (has_latched ls k c)
      ((T.order.settled j k c h l (crtc_lockable t c is_crtc) touch (T.marks.written k c c_written).1).flipped c is_crtc
      (concerns_self t cs k c T.few is_crtc)) un

  unnamed : (j : ℕ) → k < j → has_number ms.claimed j ≡ true → commit_names t cs j c ≡ false
  unnamed j l h = false_from_ne_true (commit_names t cs j c) (λ nm. none_after j l h (names-touches t cs j c T.few is_crtc nm))

  module _ (p : ℕ) (is_plane : IsIn p (ids_of t Plane)) where
    edge : Edge t cs ms.written p (λ m. plane_register sh p ≡ plane_after t cs m p)
    edge = T.shadow.plane p is_plane

    -- what is written of earlier ones
    early : (j : ℕ) → j ≤ k → commit_touches t cs j p ≡ true → commit_names t cs j c ≡ true → has_pair ms.written j p ≡ true
    early j l touch nm =
        ⊎_elim
        (λ (lt : j < k). (T.marks.done j (settled_before j lt nm).done).1 p (plane_registered t p is_plane) touch)
        (λ ge. let e : j ≡ k = omega arith in rw e ((T.marks.flushed k c F).written p (plane_registered t p is_plane) (rw e at touch)))
        (cases_lt j k)

    unseen_early : edge.at ≤ suc k → seen c (plane_after t cs edge.at p) ≡ seen c (plane_after t cs (suc k) p)
    unseen_early l =
        unseen (λ j. commit_touches t cs j p) (λ j. commit_names t cs j c) (λ m. plane_after t cs m p) c (length cs)
        (λ j m. T.commits.plane_frame j p m is_plane) (λ j m. T.commits.moved j p c m is_plane is_crtc)
        edge.at (suc k) l within
        (λ j l2 m2 touch. false_from_ne_true (commit_names t cs j c)
        (λ nm. absurd (omega (arith, edge.above j (early j (omega arith) touch nm)))))

    unseen_late : suc k ≤ edge.at → seen c (plane_after t cs (suc k) p) ≡ seen c (plane_after t cs edge.at p)
    unseen_late l =
        unseen (λ j. commit_touches t cs j p) (λ j. commit_names t cs j c) (λ m. plane_after t cs m p) c (length cs)
        (λ j m. T.commits.plane_frame j p m is_plane) (λ j m. T.commits.moved j p c m is_plane is_crtc)
        (suc k) edge.at l edge.within
        (λ j l2 m2 touch. unnamed j l2 (T.marks.written j p (edge.below j m2 touch)).0)

    pub plane_seen : seen c (plane_register sh p) ≡ seen c (plane_after t cs (suc k) p)
    plane_seen = ap (seen c) edge.says ∙ ⊎_elim (λ (lt : suc k < edge.at). sym (unseen_late (omega arith))) (λ ge. unseen_early ge)
        (cases_lt (suc k) edge.at)

  pub crtc_is : crtc_register sh c ≡ crtc_after t cs (suc k) c
  crtc_is =
      let e = T.shadow.crtc c is_crtc in
      let l : suc k ≤ e.at = e.above k c_written in
      e.says
      ∙ crtc_same t cs T.commits c is_crtc (suc k) e.at l e.within (λ j l2 m2. false_from_ne_true (commit_names t cs j c) (λ nm.
      none_after j l2 (T.marks.written j c (e.below j m2 (names-touches t cs j c T.few is_crtc nm))).0
      (names-touches t cs j c T.few is_crtc nm)))

-- Layers go by what is seen of each plane

put_seen : Mode → ℕ → Option PlaneWords → List (ℕ × Layer) → List (ℕ × Layer)
put_seen m p None layers = layers
put_seen m p (Some w) layers = put_plane m p (plane_in w) (plane_in w).fb layers

put_is : (m : Mode) (p c : ℕ) (w : PlaneWords) (layers : List (ℕ × Layer)) → put_plane m p (plane_in w) (seen_on c (plane_in w)) layers
    ≡ put_seen m p (seen c w) layers
unfolding plane_in put_seen
put_is m p c w layers = by_test (w.crtc == c)
  where
    by_test : (b : Bool) → put_plane m p (plane_in w) (if b then (plane_in w).fb else None) layers
        ≡ put_seen m p (if b then Some w else None) layers
    by_test true = refl
    by_test false = refl

pub layers_same : (f g : ℕ → PlaneWords) (m : Mode) (c : ℕ) (ps : List ℕ) → ((p : ℕ) → IsIn p ps → seen c (f p) ≡ seen c (g p))
    → layers_with (λ p. plane_in (f p)) m c ps ≡ layers_with (λ p. plane_in (g p)) m c ps
layers_same f g m c [] h = refl
layers_same f g m c (p ∷ ps) h =
    put_is m p c (f p) _
    ∙ (λ i. put_seen m p (h p (inl refl) i) (layers_same f g m c ps (λ q e. h q (inr e)) i))
    ∙ sym (put_is m p c (g p) _)

pub picture_layers : (t : Topology) (w : CrtcWords) (f g : ℕ → PlaneWords) (c : ℕ)
    → ((p : ℕ) → IsIn p (ids_of t Plane) → seen c (f p) ≡ seen c (g p))
    → picture_in_words t w (λ p. plane_in (f p)) c ≡ picture_in_words t w (λ p. plane_in (g p)) c
picture_layers t w f g c h =
    ap (λ layers. if not (w.active == 0) then On (shown_with (mode_in_words w) w.conn (gamma_in_words w) layers) else Off)
    (layers_same f g (mode_in_words w) c (ids_of t Plane) h)

-- A latch copies what is on the CRTC to the live words

read_skip : (b : Bool) (x p : ℕ) (d v : PlaneWords) (rest : List (ℕ × PlaneWords)) → (x ≡ p → b ≡ false)
    → read d (if b then (x, v) ∷ rest else rest) p ≡ read d rest p
read_skip true x p d v rest ne = read_other d rest x p v (λ e. false≢true (sym (ne e)))
read_skip false x p d v rest ne = refl

read_take : (b : Bool) (x p : ℕ) (d v : PlaneWords) (rest : List (ℕ × PlaneWords)) → b ≡ true → x ≡ p
    → read d (if b then (x, v) ∷ rest else rest) p ≡ v
read_take true x p d v rest t e = ap (λ z. read d ((z, v) ∷ rest) p) e ∙ read_same d rest p v
read_take false x p d v rest t e = absurd (false≢true t)

pub copied_read : (sh live : Registers) (c : ℕ) (ps : List ℕ) (p : ℕ) → is_copied sh live c p ≡ true → IsIn p ps
    → read (first_plane_words p) (copied_planes sh live c ps) p ≡ plane_register sh p
unfolding copied_planes
copied_read sh live c [] p mv is = absurd is
copied_read sh live c (x ∷ ps) p mv is =
    ⊎_elim
    (λ (same : x ≡ p). read_take (is_copied sh live c x) x p (first_plane_words p) (plane_register sh x) (copied_planes sh live c ps)
    (ap (is_copied sh live c) same ∙ mv) same ∙ ap (plane_register sh) same)
    (λ ne.
    read_skip (is_copied sh live c x) x p (first_plane_words p) (plane_register sh x) (copied_planes sh live c ps)
    (λ same. absurd (ne same))
    ∙ copied_read sh live c ps p mv (⊎_elim (λ same. absurd (ne same)) (λ rest. rest) is))
    (cases_eq x p)

pub copied_keep : (sh live : Registers) (c : ℕ) (ps : List ℕ) (p : ℕ) → is_copied sh live c p ≡ false
    → read (first_plane_words p) (copied_planes sh live c ps) p ≡ plane_register live p
unfolding copied_planes
copied_keep sh live c [] p mv = refl
copied_keep sh live c (x ∷ ps) p mv =
    read_skip (is_copied sh live c x) x p (first_plane_words p) (plane_register sh x) (copied_planes sh live c ps)
    (λ same. ap (is_copied sh live c) same ∙ mv)
    ∙ copied_keep sh live c ps p mv

-- after a latch at a CRTC its live planes are those of the shadow
latched_seen : (sh live : Registers) (c : ℕ) (ps : List ℕ) (p : ℕ) → IsIn p ps
    → seen c (read (first_plane_words p) (copied_planes sh live c ps) p) ≡ seen c (plane_register sh p)
latched_seen sh live c ps p i =
    ⊎_elim
    (λ mv. ap (seen c) (copied_read sh live c ps p mv i))
    (λ mv.
    let parts = or_parts ((plane_register live p).crtc == c) ((plane_register sh p).crtc == c) mv in
    ap (seen c) (copied_keep sh live c ps p mv)
    ∙ cond-false _ (Some (plane_register live p)) None parts.0
    ∙ sym (cond-false _ (Some (plane_register sh p)) None parts.1))
    (cases_Bool (is_copied sh live c p))

-- what is latched is the picture after the commit
pub latches_commit : {t : Topology} {cs : List Commit} {ms : Marks} {sh : Registers} {go : List (ℕ × Option ℕ)} {ls : List Latch}
    (T : Tail t cs ms sh go ls) (live : Registers) (k c : ℕ)
    → IsIn c (ids_of t Crtc) → has_pair ms.flushed k c ≡ true → has_latched ls k c ≡ false
    → decoded_picture t (latched_registers t sh live c) c ≡ picture_at t cs (suc k) c
unfolding decoded_picture
latches_commit {t} {cs} {ms} {sh} {go} {ls} T live k c is_crtc F un =
    let words = read_same first_crtc_words live.crtcs c (crtc_register sh c) ∙ crtc_is T k c is_crtc F un in
    (λ i. picture_in_words t (words i) (λ p. plane_in (read (first_plane_words p) (copied_planes sh live c (ids_of t Plane)) p)) c)
    ∙ picture_layers t (crtc_after t cs (suc k) c) (λ p. read (first_plane_words p) (copied_planes sh live c (ids_of t Plane)) p)
    (λ p. plane_after t cs (suc k) p) c
    (λ p i. latched_seen sh live c (ids_of t Plane) p i ∙ plane_seen T k c is_crtc F un p i)
