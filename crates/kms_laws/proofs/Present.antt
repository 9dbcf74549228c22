-- The present world, the journal and the commits so far.
use Rattle.std.proofs.Common.{◌≡◌, ℕ, suc, ◌+◌, ◌<◌, List, [], ◌∷◌, ◌++◌, length, map, Bool, true, false, Some, None, refl, sym, ap, ◌∙◌}
use Rattle.std.proofs.Common.{subst, arith, add-one, inl, inr, ◌⊎◌, ⊎_elim, append_assoc, append-nil}
use Rattle.std.specs.Prelude.{if◌then◌else◌, reverse}
use Rattle.std.proofs.lemmas.Bool.{cond-false, cases_lt, false≢true}
use Rattle.std.proofs.lemmas.List.{map-append, reverse-append}
use Rattle.kms_model.specs.declared.objects.Kind.TheVariants.{Crtc, Plane}
use Rattle.kms_model.specs.declared.objects.Topology.{Topology}
use Rattle.kms_model.specs.declared.replies.Reply.TheVariants as reply
use Rattle.kms_model.specs.declared.scripts.Command.{Command}
use Rattle.kms_model.specs.declared.scripts.Command.TheVariants as command
use Rattle.kms_model.specs.declared.scripts.Request.{Request}
use Rattle.kms_model.specs.declared.scripts.Script.{Script}
use Rattle.kms_model.specs.declared.worlds.World.{World}
use Rattle.kms_model.specs.Device.Execution.{Executed, answer, commit, committed, execute}
use Rattle.kms_model.specs.Device.Objects.{ids_of}
use Rattle.kms_model.specs.Device.Serial.{Entry, Pictured, command_of, execute_in, is_accepted, pictured, serial, serial_from, show}
use Rattle.kms_model.specs.Device.Serial.{show_from, shown_by, shown_in}
use Rattle.kms_model.specs.Device.Sound.{IsLawful}
use Rattle.kms_model.specs.Device.States.{crtc_at, plane_at}
use Rattle.kms_model.specs.Device.World.{start}
use Rattle.kms_model.specs.Frames.Pictures.{picture}
use Rattle.kms_model.specs.Frames.Shown.{AreFramed}
use Rattle.kms_model.specs.Headline.{CommitPicture}
use Rattle.kms_model.specs.Machine.Commits.{commit_names, commit_touches, new_values}
use Rattle.kms_model.specs.Machine.Registers.{PlaneWords, plane_in, plane_words}
use Rattle.kms_model.specs.Machine.State.{Commit}
use Rattle.kms_model.specs.Machine.Steps.{is_atomic}
use Rattle.kms_model.specs.Request.Apply.{after}
use Rattle.kms_model.specs.Request.Flags.{is_test}
use Rattle.kms_model.specs.Request.Named.{names}
use Rattle.kms_model.specs.Request.Verdict.{verdict}
use Rattle.kms_model.proofs.FramedLemmas.{execution_keeps_framed}
use Rattle.kms_model.proofs.Items.{IsIn}
use Rattle.kms_model.proofs.JournalLemmas.{serial_last, unaccepted}
use Rattle.kms_model.proofs.SoundKept.{execution_keeps_lawful, sound-apply}
use Rattle.kms_model.proofs.TouchedLemmas.{IsRequestAt}
use Rattle.kms_model.proofs.CommitFacts.{touches_old, touches_new}
use Rattle.kms_laws.proofs.Executed.{Follows, IsLike, KeepsModes, execute_follows, follows-out_fences, plane_like, words_like}
use Rattle.kms_laws.proofs.Invariants.{CommitsStand, commit_picture, crtc_after, picture_at, picture_in_words, plane_after, shown}
use Rattle.kms_laws.proofs.Numbered.{crtc_new, crtc_old, names_new, names_old, plane_new, plane_old, shown_old}
use Rattle.kms_laws.proofs.Requests.{crtc_frame, moved_names, plane_frame, words_at}
use Rattle.kms_laws.proofs.Words.{AreKept, picture-alike, words_show}
use Rattle.kms_model.specs.declared.worlds.Thing.{Thing}
use Rattle.kms_model.specs.declared.worlds.Setting.{Setting}

abbrev pub pair_of : Pictured → CommitPicture
pair_of p = commit_picture p.commit p.picture

-- the words of a world's states are those after all commits
pub record StatesStand (t : Topology) (w : World) (cs : List Commit) : Type 0 where
  pub plane : (p : ℕ) → IsIn p (ids_of t Plane) → plane_words (plane_at w.things w.values p) ≡ plane_after t cs (length cs) p
  pub crtc : (c : ℕ) → IsIn c (ids_of t Crtc) → words_at t w.things w.values c ≡ crtc_after t cs (length cs) c

pub record Present (s : Script) (w : World) (journal : List Entry) (cs : List Commit) : Type 0 where
  pub lawful : IsLawful s.topology w
  pub framed : AreFramed w.things
  pub kept : AreKept w.things
  pub states : StatesStand s.topology w cs
  pub count : w.commits ≡ length cs
  pub is_serial : serial s (reverse journal) ≡ w
  pub is_shown : (c : ℕ) → IsIn c (ids_of s.topology Crtc) → map pair_of (show s (reverse journal) c)
      ≡ reverse (shown s.topology cs c (length cs))

-- One entry more

pub show_from-append : (s : Script) (c : ℕ) (w : World) (es fs : List Entry)
    → show_from s c w (es ++ fs) ≡ show_from s c w es ++ show_from s c (serial_from s w es) fs
unfolding show_from serial_from
show_from-append s c w [] fs = refl
show_from-append s c w (x ∷ es) fs =
    let v = execute_in s.topology w x.client (command_of s x) in
    ap (λ z. shown_in s.topology c w x.client (command_of s x) ++ z) (show_from-append s c v es fs)
    ∙ sym (append_assoc (shown_in s.topology c w x.client (command_of s x)) (show_from s c v es) (show_from s c (serial_from s v es) fs))

show_from-push : (s : Script) (c : ℕ) (w : World) (es : List Entry) (e : Entry)
    → show_from s c w (es ++ e ∷ []) ≡ show_from s c w es ++ shown_in s.topology c (serial_from s w es) e.client (command_of s e)
unfolding show_from
show_from-push s c w es e =
    show_from-append s c w es (e ∷ [])
    ∙ ap (λ z. show_from s c w es ++ z) (append-nil (shown_in s.topology c (serial_from s w es) e.client (command_of s e)))

pub reverse_more : {A : Type 0} (x : A) (xs : List A) → reverse (x ∷ xs) ≡ reverse xs ++ x ∷ []
reverse_more x xs = reverse-append (x ∷ []) xs

serial_more : (s : Script) (w : World) (journal : List Entry) (e : Entry) (c : Command) → serial s (reverse journal) ≡ w → command_of s e
    ≡ Some c → serial s (reverse (e ∷ journal)) ≡ (execute s.topology w e.client c).world
serial_more s w journal e c is_serial is =
    ap (serial s) (reverse_more e journal) ∙ serial_last s (start s.topology) (reverse journal) e ∙
    (λ i. execute_in s.topology (is_serial i) e.client (is i))

show_more : (s : Script) (w : World) (journal : List Entry) (e : Entry) (c : Command) (crtc : ℕ) (pairs : List CommitPicture)
    → serial s (reverse journal) ≡ w → command_of s e ≡ Some c → map pair_of (show s (reverse journal) crtc) ≡ pairs
    → map pair_of (show s (reverse (e ∷ journal)) crtc) ≡ pairs ++ map pair_of (shown_in s.topology crtc w e.client (Some c))
show_more s w journal e c crtc pairs is_serial is before =
    ap (λ z. map pair_of (show s z crtc)) (reverse_more e journal)
    ∙ ap (map pair_of) (show_from-push s crtc (start s.topology) (reverse journal) e)
    ∙ map-append pair_of (show s (reverse journal) crtc) (shown_in s.topology crtc (serial s (reverse journal)) e.client (command_of s e))
    ∙ (λ i. before i ++ map pair_of (shown_in s.topology crtc (is_serial i) e.client (is i)))

shown_in-none : (t : Topology) (crtc : ℕ) (w : World) (client : ℕ) (c : Command) → shown_by t crtc w.values c (execute t w client c) ≡ None
    → shown_in t crtc w client (Some c) ≡ []
shown_in-none t crtc w client c e = rw e refl

shown_in-some : (t : Topology) (crtc : ℕ) (w : World) (client : ℕ) (c : Command) (p : Pictured)
    → shown_by t crtc w.values c (execute t w client c) ≡ Some p → shown_in t crtc w client (Some c) ≡ p ∷ []
shown_in-some t crtc w client c p e = rw e refl

-- A command that is no request

other_shows : (t : Topology) (crtc : ℕ) (w : World) (client : ℕ) (c : Command) → is_atomic c ≡ false
    → shown_by t crtc w.values c (execute t w client c) ≡ None
other_shows t crtc w client (command.Buffer label width height format pattern) other = refl
other_shows t crtc w client (command.AddFb label buffer) other = refl
other_shows t crtc w client (command.Mode label m) other = refl
other_shows t crtc w client (command.Blob label bytes) other = refl
other_shows t crtc w client (command.Destroy label) other = refl
other_shows t crtc w client (command.CloseFb label) other = refl
other_shows t crtc w client (command.Fence label) other = refl
other_shows t crtc w client (command.Signal label) other = refl
other_shows t crtc w client (command.Atomic r) other = absurd (false≢true (sym other))
other_shows t crtc w client command.Wait other = refl

pub states_like : (t : Topology) (w v : World) (cs : List Commit) → IsLike t w v → StatesStand t w cs → StatesStand t v cs
states_like t w v cs like states = record {
  plane = λ p is. ap plane_words (plane_like t w v p like is) ∙ states.plane p is;
  crtc = λ c is. words_like t w v c like is ∙ states.crtc c is;
}

pub made_present : (s : Script) (w : World) (journal : List Entry) (cs : List Commit) (e : Entry) (c : Command) → Present s w journal cs
    → command_of s e ≡ Some c → KeepsModes c → is_atomic c ≡ false
    → Present s (execute s.topology w e.client c).world (e ∷ journal) cs
made_present s w journal cs e c P is keeps other =
    let t = s.topology in
    let v = (execute t w e.client c).world in
    let f = execute_follows t w e.client c P.lawful P.kept keeps other in
    record {
      lawful = execution_keeps_lawful t w e.client c P.lawful;
      framed = execution_keeps_framed t w e.client c P.lawful.numbered.things P.framed;
      kept = f.kept;
      states = states_like t w v cs f.like P.states;
      count = f.like.count ∙ P.count;
      is_serial = serial_more s w journal e c P.is_serial is;
      is_shown = λ crtc i.
          show_more s w journal e c crtc (reverse (shown t cs crtc (length cs))) P.is_serial is (P.is_shown crtc i)
          ∙ ap (λ z. reverse (shown t cs crtc (length cs)) ++ map pair_of z)
          (shown_in-none t crtc w e.client c (other_shows t crtc w e.client c other))
          ∙ append-nil (reverse (shown t cs crtc (length cs)));
    }

pub denied_present : (s : Script) (w : World) (journal : List Entry) (cs : List Commit) (client : ℕ) (c : Command) → Present s w journal cs
    → is_atomic c ≡ false → is_accepted (execute s.topology w client c).reply ≡ false
    → Present s (execute s.topology w client c).world journal cs
denied_present s w journal cs client c P other denied = subst (λ v. Present s v journal cs)
    (sym (unaccepted s.topology 0 w client c denied).0) P

-- A commit more

pub is_old : (k n : ℕ) → k < suc n → (k < n) ⊎ (n ≡ k)
is_old k n l = ⊎_elim (λ (lt : k < n). inl lt) (λ ge. inr (omega arith)) (cases_lt k n)

module _ (t : Topology) (x : Commit) (cs : List Commit) (at : IsRequestAt t x.world x.request) (S : StatesStand t x.world cs)
    (C : CommitsStand t cs) where
  words_crtc : (things : List Thing) (values : List Setting) (p : ℕ) → (plane_words (plane_at things values p)).crtc ≡ crtc_at values p
  unfolding plane_words
  words_crtc things values p = refl

  now_plane : (p : ℕ) → IsIn p (ids_of t Plane) → plane_words (plane_at x.world.things x.world.values p)
      ≡ plane_after t (x ∷ cs) (length cs) p
  now_plane p is = S.plane p is ∙ sym (plane_old t x cs (length cs) p (omega arith))

  now_crtc : (c : ℕ) → IsIn c (ids_of t Crtc) → words_at t x.world.things x.world.values c ≡ crtc_after t (x ∷ cs) (length cs) c
  now_crtc c is = S.crtc c is ∙ sym (crtc_old t x cs (length cs) c (omega arith))

  plane_frame_new : (p : ℕ) → IsIn p (ids_of t Plane) → commit_touches t (x ∷ cs) (length cs) p ≡ false
      → plane_after t (x ∷ cs) (suc (length cs)) p ≡ plane_after t (x ∷ cs) (length cs) p
  plane_frame_new p is un = plane_new t x cs p ∙ ap plane_words (plane_frame t x.world x.request at p is (sym (touches_new t x cs p) ∙ un))
      ∙ now_plane p is

  crtc_frame_new : (c : ℕ) → IsIn c (ids_of t Crtc) → commit_names t (x ∷ cs) (length cs) c ≡ false
      → crtc_after t (x ∷ cs) (suc (length cs)) c ≡ crtc_after t (x ∷ cs) (length cs) c
  crtc_frame_new c is un = crtc_new t x cs c ∙ crtc_frame t x.world x.request at c (sym (names_new t x cs c) ∙ un) ∙ now_crtc c is

  pub moved_new_crtc : (p c : ℕ) → IsIn p (ids_of t Plane) → ((plane_after t (x ∷ cs) (length cs) p).crtc ≡ c)
      ⊎ ((plane_after t (x ∷ cs) (suc (length cs)) p).crtc ≡ c)
      → (crtc_at x.world.values p ≡ c) ⊎ (crtc_at (new_values x) p ≡ c)
  moved_new_crtc p c is on =
      ⊎_elim
      (λ e. inl (sym (words_crtc x.world.things x.world.values p) ∙ ap (λ (w : PlaneWords). w.crtc) (now_plane p is) ∙ e))
      (λ e. inr (sym (words_crtc x.world.things (new_values x) p) ∙ ap (λ (w : PlaneWords). w.crtc) (sym (plane_new t x cs p)) ∙ e))
      on

  pub commits_more : CommitsStand t (x ∷ cs)
  commits_more = record {
    plane_frame = λ k p l is un.
        ⊎_elim
        (λ old. plane_old t x cs (suc k) p old ∙ C.plane_frame k p old is (sym (touches_old t x cs k p old) ∙ un) ∙ sym
        (plane_old t x cs k p (omega arith)))
        (λ (same : length cs ≡ k). subst (λ z. commit_touches t (x ∷ cs) z p ≡ false → plane_after t (x ∷ cs) (suc z) p
        ≡ plane_after t (x ∷ cs) z p) same (plane_frame_new p is) un)
        (is_old k (length cs) l);
    crtc_frame = λ k c l is un.
        ⊎_elim
        (λ old. crtc_old t x cs (suc k) c old ∙ C.crtc_frame k c old is (sym (names_old t x cs k c old) ∙ un) ∙ sym
        (crtc_old t x cs k c (omega arith)))
        (λ (same : length cs ≡ k). subst (λ z. commit_names t (x ∷ cs) z c ≡ false → crtc_after t (x ∷ cs) (suc z) c
        ≡ crtc_after t (x ∷ cs) z c) same (crtc_frame_new c is) un)
        (is_old k (length cs) l);
    moved = λ k p c l ip ic touch on.
        ⊎_elim
        (λ old.
        names_old t x cs k c old
        ∙ C.moved k p c old ip ic (sym (touches_old t x cs k p old) ∙ touch)
        (⊎_elim
        (λ e. inl (ap (λ (w : PlaneWords). w.crtc) (sym (plane_old t x cs k p (omega arith))) ∙ e))
        (λ e. inr (ap (λ (w : PlaneWords). w.crtc) (sym (plane_old t x cs (suc k) p old)) ∙ e))
        on))
        (λ (same : length cs ≡ k).
        subst (λ z. commit_touches t (x ∷ cs) z p ≡ true → ((plane_after t (x ∷ cs) z p).crtc ≡ c)
        ⊎ ((plane_after t (x ∷ cs) (suc z) p).crtc ≡ c) → commit_names t (x ∷ cs) z c ≡ true) same
        (λ touch2 on2. names_new t x cs c ∙ moved_names t x.world x.request at p c ip (sym (touches_new t x cs p) ∙ touch2)
        (moved_new_crtc p c ip on2))
        touch on)
        (is_old k (length cs) l);
  }

pub reverse_or : {A : Type 0} (b : Bool) (y : A) (xs : List A) → reverse xs ++ (if b then y ∷ [] else [])
    ≡ reverse (if b then y ∷ xs else xs)
reverse_or true y xs = sym (reverse_more y xs)
reverse_or false y xs = append-nil (reverse xs)

-- what the device of one thread does with an accepted request that is no test
committed-executed : (t : Topology) (w : World) (client : ℕ) (r : Request) → verdict t w r ≡ None → is_test r.flags ≡ false
    → execute t w client (command.Atomic r) ≡ committed t w client r
unfolding execute
committed-executed t w client r none no_test =
    ap (commit t w client r) none ∙ cond-false (is_test r.flags) (answer w reply.Tested) (committed t w client r) no_test

module _ (s : Script) (x : Commit) (journal : List Entry) (cs : List Commit) (e : Entry) (P : Present s x.world journal cs)
    (is : command_of s e ≡ Some (command.Atomic x.request)) (none : verdict s.topology x.world x.request ≡ None)
    (no_test : is_test x.request.flags ≡ false) where
  abbrev pub v : World
  v = (committed s.topology x.world e.client x.request).world

  abbrev pub w1 : World
  w1 = record x.world { values = after x.world x.request; commits = x.world.commits + 1 }

  pub follows : Follows s.topology w1 v
  follows =
      follows-out_fences s.topology e.client x.request.assigns w1 (ids_of s.topology Crtc)
      (sound-apply s.topology x.world x.request (x.world.commits + 1) P.lawful none) P.kept

  pub executed-is : execute s.topology x.world e.client (command.Atomic x.request) ≡ committed s.topology x.world e.client x.request
  executed-is = committed-executed s.topology x.world e.client x.request none no_test

  new_lawful : IsLawful s.topology v
  new_lawful = subst (λ (z : Executed). IsLawful s.topology z.world) executed-is
      (execution_keeps_lawful s.topology x.world e.client (command.Atomic x.request) P.lawful)

  new_framed : AreFramed v.things
  new_framed = subst (λ (z : Executed). AreFramed z.world.things) executed-is
      (execution_keeps_framed s.topology x.world e.client (command.Atomic x.request) P.lawful.numbered.things P.framed)

  pub new_states : StatesStand s.topology v (x ∷ cs)
  new_states = record {
    plane = λ p i. ap plane_words (plane_like s.topology w1 v p follows.like i) ∙ sym (plane_new s.topology x cs p);
    crtc = λ c i. words_like s.topology w1 v c follows.like i ∙ sym (crtc_new s.topology x cs c);
  }

  -- what the commit shows is what its words show
  new_picture : (c : ℕ) → IsIn c (ids_of s.topology Crtc) → picture s.topology v.things v.values c
      ≡ picture_at s.topology (x ∷ cs) (suc (length cs)) c
  new_picture c i =
      sym (words_show s.topology v c new_lawful new_framed follows.kept i)
      ∙ picture-alike s.topology (words_at s.topology v.things v.values c) _ _ c (λ p ip. ap plane_in (new_states.plane p ip))
      ∙ ap (λ z. picture_in_words s.topology z (λ p. plane_in (plane_after s.topology (x ∷ cs) (suc (length cs)) p)) c)
      (new_states.crtc c i)

  abbrev named_now : ℕ → Bool
  named_now c = names x.world.values (new_values x) x.request.assigns c

  shown_if : (b : Bool) (c : ℕ) → shown_by s.topology c x.world.values (command.Atomic x.request)
      (execute s.topology x.world e.client (command.Atomic x.request))
      ≡ (if b then Some (pictured s.topology v c x.world.commits) else None)
      → map pair_of (shown_in s.topology c x.world e.client (Some (command.Atomic x.request)))
      ≡ (if b then commit_picture x.world.commits (picture s.topology v.things v.values c) ∷ [] else [])
  shown_if true c e1 = ap (map pair_of) (shown_in-some s.topology c x.world e.client (command.Atomic x.request) _ e1)
  shown_if false c e1 = ap (map pair_of) (shown_in-none s.topology c x.world e.client (command.Atomic x.request) e1)

  shown_now : (c : ℕ) → map pair_of (shown_in s.topology c x.world e.client (Some (command.Atomic x.request)))
      ≡ (if named_now c then commit_picture x.world.commits (picture s.topology v.things v.values c) ∷ [] else [])
  shown_now c =
      shown_if (named_now c) c
      (ap (shown_by s.topology c x.world.values (command.Atomic x.request)) executed-is
      ∙ ap (λ values. if names x.world.values values x.request.assigns c then Some (pictured s.topology v c x.world.commits) else None)
      follows.like.values)

  shown_next : (c : ℕ) → IsIn c (ids_of s.topology Crtc)
      → shown s.topology (x ∷ cs) c (suc (length cs))
      ≡ (if named_now c then commit_picture x.world.commits (picture s.topology v.things v.values c) ∷ shown s.topology cs c (length cs)
      else shown s.topology cs c (length cs))
  unfolding shown
  shown_next c i =
      let n = names_new s.topology x cs c in
      let p = sym (new_picture c i) in
      let old = shown_old s.topology x cs c (length cs) (omega arith) in
      (λ z. if n z then commit_picture (sym P.count z) (p z) ∷ old z else old z)

  pub swap_present : Present s v (e ∷ journal) (x ∷ cs)
  swap_present = record {
    lawful = new_lawful;
    framed = new_framed;
    kept = follows.kept;
    states = new_states;
    count = follows.like.count ∙ add-one x.world.commits ∙ ap suc P.count;
    is_serial = serial_more s x.world journal e (command.Atomic x.request) P.is_serial is ∙ ap (λ (z : Executed). z.world) executed-is;
    is_shown = λ c i.
        show_more s x.world journal e (command.Atomic x.request) c (reverse (shown s.topology cs c (length cs))) P.is_serial is
        (P.is_shown c i)
        ∙ ap (λ z. reverse (shown s.topology cs c (length cs)) ++ z) (shown_now c)
        ∙ reverse_or (named_now c) (commit_picture x.world.commits (picture s.topology v.things v.values c))
        (shown s.topology cs c (length cs))
        ∙ ap reverse (sym (shown_next c i));
  }
