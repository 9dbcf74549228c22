-- What holds of each machine that a history reaches, as far as the tails of commits go.
use Rattle.std.proofs.Common.{◌≡◌, ℕ, zero, suc, ◌<◌, ◌≤◌, List, [], ◌∷◌, length, true, false, not, ◌==◌, Option, Some, None, ◌⊎◌}
use Rattle.std.specs.Prelude.{if◌then◌else◌}
use Rattle.kms_model.specs.declared.objects.Kind.TheVariants.{Crtc, Plane}
use Rattle.kms_model.specs.declared.objects.Topology.{Topology}
use Rattle.kms_model.specs.declared.pictures.Picture.{Picture}
use Rattle.kms_model.specs.declared.pictures.Picture.TheVariants.{Off, On}
use Rattle.kms_model.specs.declared.runs.Latch.{Latch}
use Rattle.kms_model.specs.declared.states.PlaneState.{PlaneState}
use Rattle.kms_model.specs.Device.Objects.{object_id, ids_of}
use Rattle.kms_model.specs.Frames.Pictures.{layers_with, shown_with}
use Rattle.kms_model.specs.Headline.{CommitPicture}
use Rattle.kms_model.specs.Machine.Commits.{commit_names, commit_touches, commit_concerns, has_latched, has_number, has_pair, lockable}
use Rattle.kms_model.specs.Machine.Commits.{registered, new_plane, new_crtc, new_connector}
use Rattle.kms_model.specs.Machine.Registers.{PlaneWords, CrtcWords, Registers, crtc_words, first_crtc_words, first_plane_words}
use Rattle.kms_model.specs.Machine.Registers.{gamma_in_words, mode_in_words, plane_in, plane_register, plane_words, crtc_register, read}
use Rattle.kms_model.specs.Machine.State.{Commit, Marks}
use Rattle.kms_model.proofs.Items.{IsIn}
use Rattle.kms_model.proofs.TouchedLemmas.{HasFewObjects}

-- Words and pictures after the first so many commits

unfoldable pub plane_after : Topology → List Commit → ℕ → ℕ → PlaneWords
plane_after t cs zero p = first_plane_words p
plane_after t cs (suc k) p = plane_words (new_plane t cs k p)

unfoldable pub crtc_after : Topology → List Commit → ℕ → ℕ → CrtcWords
crtc_after t cs zero c = first_crtc_words
crtc_after t cs (suc k) c = crtc_words (new_connector t cs k c) (new_crtc t cs k c)

-- the picture of a CRTC with words, and planes with states
abbrev pub picture_in_words : Topology → CrtcWords → (ℕ → PlaneState) → ℕ → Picture
picture_in_words t w state c =
    if not (w.active == 0) then On (shown_with (mode_in_words w) w.conn (gamma_in_words w)
    (layers_with state (mode_in_words w) c (ids_of t Plane))) else Off

abbrev pub picture_at : Topology → List Commit → ℕ → ℕ → Picture
picture_at t cs m c = picture_in_words t (crtc_after t cs m c) (λ p. plane_in (plane_after t cs m p)) c

abbrev pub commit_picture : ℕ → Picture → CommitPicture
commit_picture k picture = record { commit = k; picture = picture }

-- what the first m commits show at a CRTC, the newest first
unfoldable pub shown : Topology → List Commit → ℕ → ℕ → List CommitPicture
shown t cs c zero = []
shown t cs c (suc k) = if commit_names t cs k c then commit_picture k (picture_at t cs (suc k) c) ∷ shown t cs c k else shown t cs c k

-- what a CRTC latched, the newest first
unfoldable pub latched_at : List Latch → ℕ → List CommitPicture
latched_at [] c = []
latched_at (l ∷ ls) c = if object_id Crtc l.crtc == c then commit_picture l.commit l.picture ∷ latched_at ls c else latched_at ls c

-- Commits

-- a commit leaves the words of what it does not touch, and names each CRTC that a plane which it touches is on before or after
pub record CommitsStand (t : Topology) (cs : List Commit) : Type 0 where
  pub plane_frame : (k p : ℕ) → k < length cs → IsIn p (ids_of t Plane) → commit_touches t cs k p ≡ false → plane_after t cs (suc k) p
      ≡ plane_after t cs k p
  pub crtc_frame : (k c : ℕ) → k < length cs → IsIn c (ids_of t Crtc) → commit_names t cs k c ≡ false → crtc_after t cs (suc k) c
      ≡ crtc_after t cs k c
  pub moved : (k p c : ℕ) → k < length cs → IsIn p (ids_of t Plane) → IsIn c (ids_of t Crtc) → commit_touches t cs k p ≡ true
      → ((plane_after t cs k p).crtc ≡ c) ⊎ ((plane_after t cs (suc k) p).crtc ≡ c) → commit_names t cs k c ≡ true

-- all that a commit touches is written
abbrev pub IsWritten : Topology → List Commit → List (ℕ × ℕ) → ℕ → Type 0
IsWritten t cs written k = (q : ℕ) → IsIn q (registered t) → commit_touches t cs k q ≡ true → has_pair written k q ≡ true

pub record WasFlushed (t : Topology) (cs : List Commit) (writes : List (ℕ × ℕ)) (k c : ℕ) : Type 0 where
  pub is_crtc : IsIn c (ids_of t Crtc)
  pub names : commit_names t cs k c ≡ true
  pub written : IsWritten t cs writes k

pub record IsPending (flushes : List (ℕ × ℕ)) (ls : List Latch) (k c : ℕ) : Type 0 where
  pub flushed : has_pair flushes k c ≡ true
  pub unlatched : has_latched ls k c ≡ false

pub record MarksStand (t : Topology) (cs : List Commit) (ms : Marks) (go : List (ℕ × Option ℕ)) (ls : List Latch) : Type 0 where
  pub claimed : (k : ℕ) → has_number ms.claimed k ≡ true → k < length cs
  pub written : (k o : ℕ) → has_pair ms.written k o ≡ true → (has_number ms.claimed k ≡ true) × (commit_touches t cs k o ≡ true)
  pub flushed : (k c : ℕ) → has_pair ms.flushed k c ≡ true → WasFlushed t cs ms.written k c
  pub done : (k : ℕ) → has_number ms.done k ≡ true → (has_number ms.claimed k ≡ true) × IsWritten t cs ms.written k
  pub latched : (k c : ℕ) → has_latched ls k c ≡ true → has_pair ms.flushed k c ≡ true
  pub go_is : (k c : ℕ) → read None go c ≡ Some k → IsPending ms.flushed ls k c
  pub clean_done : (k : ℕ) → has_number ms.cleaned k ≡ true → has_number ms.done k ≡ true
  pub cleaned : (k c : ℕ) → has_number ms.cleaned k ≡ true → IsIn c (ids_of t Crtc) → commit_names t cs k c ≡ true → has_latched ls k c
      ≡ true

-- a commit has hw_done and has latched at each CRTC that concerns an object
pub record IsSettled (t : Topology) (cs : List Commit) (dones : List ℕ) (ls : List Latch) (j o : ℕ) : Type 0 where
  pub done : has_number dones j ≡ true
  pub flipped : (c : ℕ) → IsIn c (ids_of t Crtc) → commit_concerns t cs j o c ≡ true → has_latched ls j c ≡ true

-- a claimed commit comes after all earlier ones that touched one of its objects
pub record OrderStands (t : Topology) (cs : List Commit) (ms : Marks) (ls : List Latch) : Type 0 where
  pub settled : (k j o : ℕ) → has_number ms.claimed k ≡ true → j < k → IsIn o (lockable t) → commit_touches t cs k o ≡ true
      → commit_touches t cs j o ≡ true
      → IsSettled t cs ms.done ls j o

-- of those that touch an object, the first so many commits and no others have written it
pub record Edge (t : Topology) (cs : List Commit) (writes : List (ℕ × ℕ)) (o : ℕ) (Says : ℕ → Type 0) : Type 0 where
  pub at : ℕ
  pub within : at ≤ length cs
  pub below : (j : ℕ) → j < at → commit_touches t cs j o ≡ true → has_pair writes j o ≡ true
  pub above : (j : ℕ) → has_pair writes j o ≡ true → j < at
  pub says : Says at

pub record ShadowStands (t : Topology) (cs : List Commit) (writes : List (ℕ × ℕ)) (shadow : Registers) : Type 0 where
  pub plane : (p : ℕ) → IsIn p (ids_of t Plane) → Edge t cs writes p (λ m. plane_register shadow p ≡ plane_after t cs m p)
  pub crtc : (c : ℕ) → IsIn c (ids_of t Crtc) → Edge t cs writes c (λ m. crtc_register shadow c ≡ crtc_after t cs m c)

-- of those that name a CRTC, the first so many commits and no others have latched at it, in order
pub record Shows (t : Topology) (cs : List Commit) (ls : List Latch) (c : ℕ) : Type 0 where
  pub at : ℕ
  pub within : at ≤ length cs
  pub below : (j : ℕ) → j < at → commit_names t cs j c ≡ true → has_latched ls j c ≡ true
  pub above : (j : ℕ) → has_latched ls j c ≡ true → j < at
  pub says : latched_at ls c ≡ shown t cs c at

-- what holds of the parts that tails change
pub record Tail (t : Topology) (cs : List Commit) (ms : Marks) (sh : Registers) (go : List (ℕ × Option ℕ)) (ls : List Latch) : Type 0 where
  pub few : HasFewObjects t
  pub commits : CommitsStand t cs
  pub marks : MarksStand t cs ms go ls
  pub order : OrderStands t cs ms ls
  pub shadow : ShadowStands t cs ms.written sh
  pub shows : (c : ℕ) → Shows t cs ls c
