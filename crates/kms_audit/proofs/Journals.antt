-- A journal with one entry more: its commits, whose they are, what each touched last, and what CRTCs show.
use Rattle.std.proofs.Common.{◌≡◌, ℕ, zero, suc, ◌<◌, Bool, List, [], ◌∷◌, ◌++◌, length, Option, Some, None, refl, sym, ap, ◌∙◌, arith}
use Rattle.std.proofs.Common.{append_assoc}
use Rattle.std.proofs.lemmas.List.{append-nil, map-append, reverse-append}
use Rattle.std.specs.Prelude.{map, reverse, if◌then◌else◌}
use Rattle.kms_audit.specs.declared.owners.Owner.{Owner}
use Rattle.kms_audit.specs.Owned.{AreOwners, owner, owner_of}
use Rattle.kms_audit.specs.Touching.{noted}
use Rattle.kms_model.proofs.CommitFacts.{touches_new, touches_old}
use Rattle.kms_model.specs.declared.objects.Topology.{Topology}
use Rattle.kms_model.specs.declared.scripts.Command.TheVariants as command
use Rattle.kms_model.specs.declared.scripts.Request.{Request}
use Rattle.kms_model.specs.declared.scripts.Script.{Script}
use Rattle.kms_model.specs.declared.worlds.World.{World}
use Rattle.kms_model.specs.Device.Serial.{Entry, command_of, execute_in, serial, serial_from, show, show_from, shown_in}
use Rattle.kms_model.specs.Device.World.{start}
use Rattle.kms_model.specs.Machine.Commits.{commit_touches, last_below, previous}
use Rattle.kms_model.specs.Machine.State.{Commit, request_in}
use Rattle.kms_model.specs.Report.RightAnswers.{commit_of_request, commits_from, commits_of, last_touch}
use Rattle.kms_model.specs.Request.Touched.{touches}

-- Commits

commits-last : (s : Script) (w : World) (journal : List Entry) (e : Entry)
    → commits_from s w (journal ++ e ∷ []) ≡ commits_from s w journal ++ commit_of_request (serial_from s w journal) e
    (request_in (command_of s e))
unfolding commits_from serial_from
commits-last s w [] e = append-nil (commit_of_request w e (request_in (command_of s e)))
commits-last s w (f ∷ fs) e =
    ap (λ cs. commit_of_request w f (request_in (command_of s f)) ++ cs)
    (commits-last s (execute_in s.topology w f.client (command_of s f)) fs e)
    ∙ sym (append_assoc (commit_of_request w f (request_in (command_of s f)))
    (commits_from s (execute_in s.topology w f.client (command_of s f)) fs) _)

-- the commit of a request behind a journal
abbrev pub commit_behind : Script → List Entry → Entry → Request → Commit
commit_behind s journal e q = record { client = e.client; command = e.command; request = q; world = serial s journal }

module _ (s : Script) (journal : List Entry) (e : Entry) where
  pub commits-request : (q : Request) → command_of s e ≡ Some (command.Atomic q)
      → commits_of s (journal ++ e ∷ []) ≡ commit_behind s journal e q ∷ commits_of s journal
  commits-request q is =
      ap reverse (commits-last s (start s.topology) journal e
      ∙ ap (λ o. commits_from s (start s.topology) journal ++ commit_of_request (serial s journal) e (request_in o)) is)
      ∙ reverse-append (commits_from s (start s.topology) journal) (commit_behind s journal e q ∷ [])

  pub commits-other : request_in (command_of s e) ≡ None → commits_of s (journal ++ e ∷ []) ≡ commits_of s journal
  commits-other none =
      ap reverse (commits-last s (start s.topology) journal e
      ∙ (ap (λ o. commits_from s (start s.topology) journal ++ commit_of_request (serial s journal) e o) none
      ∙ append-nil (commits_from s (start s.topology) journal)))

  -- Whose they are

  pub owners-request : (q : Request) (client : ℕ) (owners : List Owner) → command_of s e ≡ Some (command.Atomic q) → e.client ≡ client
      → AreOwners s journal owners → AreOwners s (journal ++ e ∷ []) (owners ++ owner client q ∷ [])
  owners-request q client owners is own are =
      let new = commit_behind s journal e q in let old = commits_of s journal in
      ap (λ os. os ++ owner client q ∷ []) are
      ∙ (ap (λ c. map owner_of (reverse old) ++ owner c q ∷ []) (sym own)
      ∙ sym (ap (λ cs. map owner_of (reverse cs)) (commits-request q is)
      ∙ (ap (map owner_of) (reverse-append (new ∷ []) old) ∙ map-append owner_of (reverse old) (new ∷ []))))

  pub owners-other : (owners : List Owner) → request_in (command_of s e) ≡ None → AreOwners s journal owners
      → AreOwners s (journal ++ e ∷ []) owners
  owners-other owners none are = are ∙ ap (λ cs. map owner_of (reverse cs)) (sym (commits-other none))

-- What touched an object last

below-same : (f g : ℕ → Bool) (n : ℕ) → ((k : ℕ) → k < n → f k ≡ g k) → last_below f n ≡ last_below g n
unfolding last_below
below-same f g zero same = refl
below-same f g (suc n) same = picked (f n) (g n) (last_below f n) (last_below g n) (same n (omega arith))
    (below-same f g n (λ k l. same k (omega arith))) where
      picked : (b c : Bool) (x y : Option ℕ) → b ≡ c → x ≡ y → (if b then Some n else x) ≡ (if c then Some n else y)
      picked b c x y p q = rw (p, q) refl

previous-push : (t : Topology) (c : Commit) (cs : List Commit) (object : ℕ)
    → previous t (c ∷ cs) (length (c ∷ cs)) object ≡ noted (previous t cs (length cs) object)
    (touches t c.world c.request object) (length cs)
unfolding previous last_below
previous-push t c cs object =
    picked (commit_touches t (c ∷ cs) (length cs) object) (touches t c.world c.request object) _ _ (touches_new t c cs object)
    (below-same (λ k. commit_touches t (c ∷ cs) k object) (λ k. commit_touches t cs k object) (length cs)
    (λ k l. touches_old t c cs k object l)) where
      picked : (a b : Bool) (x y : Option ℕ) → a ≡ b → x ≡ y → (if a then Some (length cs) else x) ≡ (if b then Some (length cs) else y)
      picked a b x y p q = rw (p, q) refl

module _ (s : Script) (journal : List Entry) (e : Entry) where
  pub last_touch-request : (q : Request) (object : ℕ) → command_of s e ≡ Some (command.Atomic q)
      → last_touch s (journal ++ e ∷ []) object
      ≡ noted (last_touch s journal object) (touches s.topology (serial s journal) q object) (length (commits_of s journal))
  unfolding last_touch
  last_touch-request q object is =
      ap (λ cs. previous s.topology cs (length cs) object) (commits-request s journal e q is)
      ∙ previous-push s.topology (commit_behind s journal e q) (commits_of s journal) object

  pub last_touch-other : (object : ℕ) → request_in (command_of s e) ≡ None
      → last_touch s (journal ++ e ∷ []) object ≡ last_touch s journal object
  unfolding last_touch
  last_touch-other object none = ap (λ cs. previous s.topology cs (length cs) object) (commits-other s journal e none)

-- What CRTCs show

show_from-last : (s : Script) (crtc : ℕ) (w : World) (journal : List Entry) (e : Entry)
    → show_from s crtc w (journal ++ e ∷ []) ≡ show_from s crtc w journal ++ shown_in s.topology crtc
    (serial_from s w journal) e.client (command_of s e)
unfolding show_from serial_from
show_from-last s crtc w [] e = append-nil (shown_in s.topology crtc w e.client (command_of s e))
show_from-last s crtc w (f ∷ fs) e =
    ap (λ ps. shown_in s.topology crtc w f.client (command_of s f) ++ ps)
    (show_from-last s crtc (execute_in s.topology w f.client (command_of s f)) fs e)
    ∙ sym (append_assoc (shown_in s.topology crtc w f.client (command_of s f))
    (show_from s crtc (execute_in s.topology w f.client (command_of s f)) fs) _)

pub show-last : (s : Script) (journal : List Entry) (e : Entry) (crtc : ℕ)
    → show s (journal ++ e ∷ []) crtc ≡ show s journal crtc ++ shown_in s.topology crtc (serial s journal) e.client (command_of s e)
show-last s journal e crtc = show_from-last s crtc (start s.topology) journal e
