-- Commits by their numbers, when there is one more.
use Rattle.std.proofs.Common.{◌≡◌, ℕ, zero, suc, ◌<◌, ◌≤◌, List, ◌∷◌, length, Bool, refl, ap, arith}
use Rattle.std.specs.Prelude.{if◌then◌else◌}
use Rattle.kms_model.specs.declared.objects.Topology.{Topology}
use Rattle.kms_model.specs.Device.States.{plane_at}
use Rattle.kms_model.specs.Machine.Commits.{commit_names, new_connector, new_crtc, new_plane, new_values, old_values}
use Rattle.kms_model.specs.Machine.Registers.{plane_in, plane_words}
use Rattle.kms_model.specs.Machine.State.{Commit}
use Rattle.kms_model.specs.Request.Named.{names}
use Rattle.kms_model.specs.Request.Touched.{touches}
use Rattle.kms_model.proofs.CommitFacts.{commit_old, commit_new}
use Rattle.kms_laws.proofs.Invariants.{commit_picture, crtc_after, picture_at, picture_in_words, plane_after, shown}
use Rattle.kms_laws.proofs.Requests.{words_at}

-- what is computed of a commit

touches_of : Topology → ℕ → Commit → Bool
touches_of t o z = touches t z.world z.request o

names_of : ℕ → Commit → Bool
names_of c z = names (old_values z) (new_values z) z.request.assigns c

pub names_old : (t : Topology) (x : Commit) (cs : List Commit) (k c : ℕ) → k < length cs → commit_names t (x ∷ cs) k c
    ≡ commit_names t cs k c
unfolding commit_names names_of
names_old t x cs k c l = ap (names_of c) (commit_old t x cs k l)

pub names_new : (t : Topology) (x : Commit) (cs : List Commit) (c : ℕ) → commit_names t (x ∷ cs) (length cs) c
    ≡ names x.world.values (new_values x) x.request.assigns c
unfolding commit_names names_of
names_new t x cs c = ap (names_of c) (commit_new t x cs)

pub plane_old : (t : Topology) (x : Commit) (cs : List Commit) (m p : ℕ) → m ≤ length cs → plane_after t (x ∷ cs) m p ≡ plane_after t cs m p
unfolding plane_after new_plane
plane_old t x cs zero p l = refl
plane_old t x cs (suc k) p l = ap (λ (z : Commit). plane_words (plane_at z.world.things (new_values z) p)) (commit_old t x cs k l)

pub plane_new : (t : Topology) (x : Commit) (cs : List Commit) (p : ℕ) → plane_after t (x ∷ cs) (suc (length cs)) p
    ≡ plane_words (plane_at x.world.things (new_values x) p)
unfolding plane_after new_plane
plane_new t x cs p = ap (λ (z : Commit). plane_words (plane_at z.world.things (new_values z) p)) (commit_new t x cs)

pub crtc_old : (t : Topology) (x : Commit) (cs : List Commit) (m c : ℕ) → m ≤ length cs → crtc_after t (x ∷ cs) m c ≡ crtc_after t cs m c
unfolding crtc_after new_crtc new_connector
crtc_old t x cs zero c l = refl
crtc_old t x cs (suc k) c l = ap (λ (z : Commit). words_at t z.world.things (new_values z) c) (commit_old t x cs k l)

pub crtc_new : (t : Topology) (x : Commit) (cs : List Commit) (c : ℕ) → crtc_after t (x ∷ cs) (suc (length cs)) c
    ≡ words_at t x.world.things (new_values x) c
unfolding crtc_after new_crtc new_connector
crtc_new t x cs c = ap (λ (z : Commit). words_at t z.world.things (new_values z) c) (commit_new t x cs)

pub picture_old : (t : Topology) (x : Commit) (cs : List Commit) (m c : ℕ) → m ≤ length cs → picture_at t (x ∷ cs) m c ≡ picture_at t cs m c
picture_old t x cs m c l = (λ i. picture_in_words t (crtc_old t x cs m c l i) (λ p. plane_in (plane_old t x cs m p l i)) c)

pub shown_old : (t : Topology) (x : Commit) (cs : List Commit) (c m : ℕ) → m ≤ length cs → shown t (x ∷ cs) c m ≡ shown t cs c m
unfolding shown
shown_old t x cs c zero l = refl
shown_old t x cs c (suc k) l =
    let n = names_old t x cs k c l in
    let p = picture_old t x cs (suc k) c l in
    let r = shown_old t x cs c k (omega arith) in
    (λ i. if n i then commit_picture k (p i) ∷ r i else r i)
