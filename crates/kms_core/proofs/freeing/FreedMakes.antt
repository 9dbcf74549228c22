-- What commands free that make and close things.
use Rattle.std.proofs.Common.{◌≡◌, ℕ, ◌+◌, ◌≤◌, List, [], ◌∷◌, ◌++◌, length, Bool, true, false, not, ◌==◌, Option, Some, None, refl, sym}
use Rattle.std.proofs.Common.{ap, ◌∙◌, subst, arith, inl, inr}
use Rattle.std.specs.Prelude.{if◌then◌else◌, filter}
use Rattle.std.specs.Option.{option_map}
use Rattle.std.proofs.lemmas.Bool.{and_parts, cases_eq, cond-false, false≢true, ne_eqb}
use Rattle.kms_model.specs.declared.objects.Topology.{Topology}
use Rattle.kms_model.specs.declared.replies.Reply.{Reply}
use Rattle.kms_model.specs.declared.replies.Reply.TheVariants as reply
use Rattle.kms_model.specs.declared.scripts.Command.{Command}
use Rattle.kms_model.specs.declared.scripts.Command.TheVariants as command
use Rattle.kms_model.specs.declared.worlds.Content.{Content}
use Rattle.kms_model.specs.declared.worlds.Content.TheVariants as content
use Rattle.kms_model.specs.declared.worlds.Thing.{Thing}
use Rattle.kms_model.specs.declared.worlds.World.{World}
use Rattle.kms_model.specs.Device.Closing.{closed_if, closed_in}
use Rattle.kms_model.specs.Device.Execution.{BufferInfo, add_fb, buffer_of, close_refusal, close_unless, destroy_refusal, execute}
use Rattle.kms_model.specs.Device.Execution.{is_framebuffer, make_unless, new_buffer_refusal}
use Rattle.kms_model.specs.Device.Sound.{AreNumbered}
use Rattle.kms_model.specs.Device.States.{plane_at}
use Rattle.kms_model.specs.Device.World.{thing_labelled, thing_with_id}
use Rattle.kms_model.specs.Machine.Framebuffers.{is_needed}
use Rattle.kms_model.specs.Machine.State.{Machine}
use Rattle.kms_model.specs.Machine.Steps.{is_making}
use Rattle.kms_model.proofs.FramedLemmas.{closed_same}
use Rattle.kms_model.proofs.Items.{IsIn}
use Rattle.kms_model.proofs.ThingLemmas.{find-in, numbered-closed}
use Rattle.kms_model.proofs.ShownLemmas.{with-id}
use Rattle.kms_laws.proofs.Closed.{closed_labelled, closed_with_id}
use Rattle.kms_laws.proofs.Executed.{IsLike, plane_like}
use Rattle.kms_core.specs.Freeing.{AreRising}
use Rattle.kms_core.specs.Stored.{held_as, held_where}
use Rattle.kms_core.proofs.freeing.FreedLists.{filter-none, passes}
use Rattle.kms_core.proofs.freeing.FreedBetween.{IsGrown, IsSameOrNone, fewer_needed, freed_told, grown_stay, lost, needed_framebuffer}
use Rattle.kms_core.proofs.freeing.FreedBetween.{places_suffice}
use Rattle.kms_core.proofs.freeing.FreedSteps.{IsLonger, IsQuiet, IsTold, kept_same, live_same, longer_count, longer_grown, longer_none}
use Rattle.kms_core.proofs.freeing.FreedSteps.{needed_by, needed_same, needs_of, quiet_longer, values_same}

-- A command that is no request leaves what is needed of each thing as it is, and the things in one of three ways.
pub record IsExecuted (t : Topology) (m n : Machine) (w : World) : Type 0 where
  pub numbered : AreNumbered 1000 m.device.world.things
  pub like : IsLike t m.device.world w
  pub world : n.device.world ≡ w
  pub commits : n.device.commits ≡ m.device.commits
  pub cleaned : n.device.marks.cleaned ≡ m.device.marks.cleaned
  pub live : n.device.live ≡ m.device.live

pub same_test : {t : Topology} {m n : Machine} {w : World} → IsExecuted t m n w → (x : Thing) → is_needed t n x ≡ is_needed t m x
same_test {t} {m} {n} {w} X x =
    needed_same t m n x
    (values_same t m n x.id (λ p is. ap (λ (v : World). plane_at v.things v.values p) X.world ∙ plane_like t m.device.world w p X.like is))
    (live_same t m n x.id X.live) (kept_same t m n x.id X.commits X.cleaned)

-- as it was
left_quiet : {t : Topology} {m n : Machine} {w : World} → IsExecuted t m n w → w.things ≡ m.device.world.things → IsQuiet t m n
left_quiet {t} {m} {n} {w} X same =
    quiet_longer t m n [] X.numbered (record {
      things = ap (λ (v : World). v.things) X.world ∙ same ∙ ends m.device.world.things;
      same =
          λ x is. same_test X x;
    }) (λ x is. absurd is)
  where
    ends : (xs : List Thing) → xs ≡ xs ++ []
    ends [] = refl
    ends (x ∷ xs) = ap (λ rest. x ∷ rest) (ends xs)

-- one thing more
pushed : {t : Topology} {m n : Machine} {w : World} (u : Thing) → IsExecuted t m n w → w.things ≡ m.device.world.things ++ u ∷ []
    → IsLonger t m n (u ∷ [])
pushed {t} {m} {n} {w} u X more = record { things = ap (λ (v : World). v.things) X.world ∙ more; same = λ x is. same_test X x }

pushed_quiet : {t : Topology} {m n : Machine} {w : World} (u : Thing) → IsExecuted t m n w → w.things ≡ m.device.world.things ++ u ∷ []
    → is_framebuffer u.content ≡ false → IsQuiet t m n
pushed_quiet {t} {m} {n} {w} u X more none = quiet_longer t m n (u ∷ []) X.numbered (pushed u X more) is_none where
  is_none : (x : Thing) → IsIn x (u ∷ []) → is_framebuffer x.content ≡ false
  is_none x (inl same) = ap (λ (z : Thing). is_framebuffer z.content) (sym same) ∙ none
  is_none x (inr rest) = absurd rest

-- the framebuffer that is added, of a buffer
abbrev pub added_thing : ℕ → ℕ → ℕ → BufferInfo → Thing
added_thing id client label b = record {
  label = label;
  id = id;
  owner = client;
  content = content.Framebuffer (record { id = id; width = b.width; height = b.height; format = b.format }) b.id;
  is_open = true;
}

-- a framebuffer is added: nothing is freed, and one more is needed
pub record IsAdded (t : Topology) (m n : Machine) (client label buffer id : ℕ) : Type 0 where
  pub source : BufferInfo
  pub found : buffer_of m.device.world.things client buffer ≡ Some source
  pub own : id ≡ m.device.world.next_id
  pub longer : IsLonger t m n (added_thing m.device.world.next_id client label source ∷ [])
  pub needed : is_needed t n (added_thing m.device.world.next_id client label source) ≡ true
  pub grown : IsGrown t m n
  pub none : filter (lost (is_needed t m) (is_needed t n) n.device.world.things) m.device.world.things ≡ []
  pub one_more : length (filter (is_needed t n) n.device.world.things) ≤ length (filter (is_needed t m) m.device.world.things) + 1

pushed_added : {t : Topology} {m n : Machine} {w : World} (client label buffer : ℕ) {b : BufferInfo} → IsExecuted t m n w
    → w.things ≡ m.device.world.things ++ added_thing m.device.world.next_id client label b ∷ []
    → buffer_of m.device.world.things client buffer ≡ Some b → IsAdded t m n client label buffer m.device.world.next_id
pushed_added {t} {m} {n} {w} client label buffer {b} X more found =
    let u : Thing = added_thing m.device.world.next_id client label b in
    let L = pushed u X more in
    let count = longer_count L in
    let one = most u (is_needed t n u) in
    let needed = needed_by t n u (record { framebuffer = refl; why = inl refl }) in
    record {
      source = b;
      found = found;
      own = refl;
      longer = L;
      needed = needed;
      grown = longer_grown t m n (u ∷ []) L (is_one u (sym needed));
      none = longer_none X.numbered L;
      one_more = omega (arith, count, one);
    }
  where
    is_one : (u : Thing) → is_framebuffer u.content ≡ is_needed t n u → (y : Thing) → IsIn y (u ∷ [])
        → is_framebuffer y.content ≡ is_needed t n y
    is_one u both y (inl same) = subst (λ z. is_framebuffer z.content ≡ is_needed t n z) same both
    is_one u both y (inr rest) = absurd rest

    most : (u : Thing) (b : Bool) → length (if b then u ∷ [] else []) ≤ 1
    most u true = omega arith
    most u false = omega arith

-- A thing is closed

closed_or_none : (id : ℕ) (o : Option Thing) → IsSameOrNone o (option_map (closed_if id) o)
closed_or_none id None = refl
closed_or_none id (Some x) = let same = closed_same id x
    in record { thing = closed_if id x; found = refl; label = same.label; id = same.id; content = same.content }

module _ (t : Topology) (m n : Machine) (w : World) (u : Thing) (X : IsExecuted t m n w)
    (is : w.things ≡ closed_in m.device.world.things u.id) (u_in : IsIn u m.device.world.things) where
  now : n.device.world.things ≡ closed_in m.device.world.things u.id
  now = ap (λ (v : World). v.things) X.world ∙ is

  numbered_now : AreNumbered 1000 n.device.world.things
  numbered_now = subst (AreNumbered 1000) (sym now) (numbered-closed 1000 m.device.world.things u.id X.numbered)

  stay : (id : ℕ) → IsSameOrNone (thing_with_id m.device.world.things id) (thing_with_id n.device.world.things id)
  stay id = subst (λ o. IsSameOrNone (thing_with_id m.device.world.things id) o)
      (sym (ap (λ things. thing_with_id things id) now ∙ closed_with_id m.device.world.things u.id id))
      (closed_or_none u.id (thing_with_id m.device.world.things id))

  -- another thing is as it was
  other_same : (x : Thing) → IsIn x m.device.world.things → (x.id ≡ u.id → ⊥) → thing_with_id n.device.world.things x.id ≡ Some x
  other_same x x_in apart =
      ap (λ things. thing_with_id things x.id) now ∙ closed_with_id m.device.world.things u.id x.id ∙ ap (option_map (closed_if u.id))
      (with-id 1000 m.device.world.things x X.numbered x_in)
      ∙ ap Some (cond-false (x.id == u.id) (record x { is_open = false }) x (ne_eqb x.id u.id apart))

  only_this : (x : Thing) → IsIn x m.device.world.things → is_needed t m x ≡ true
      → passes (is_needed t n) (thing_with_id n.device.world.things x.id) ≡ false → x.id ≡ u.id
  only_this x x_in needed off =
      elim (cases_eq x.id u.id) [
        | inl same ↦ same
        | inr apart ↦ absurd (false≢true (sym off ∙ ap (passes (is_needed t n)) (other_same x x_in apart) ∙ same_test X x ∙ needed))
      ]

  unclosed : (x : Thing) (b : Bool) → is_needed t m (if b then record x { is_open = false } else x) ≡ true → is_needed t m x ≡ true
  unclosed x false needed = needed
  unclosed x true needed =
      let needs = needs_of t m (record x { is_open = false }) needed in
      needed_by t m x (record {
        framebuffer = needs.framebuffer;
        why = elim needs.why
            [ inl opened ↦ absurd (false≢true opened) | inr rest ↦ inr rest ];
      })

  back : (y : Thing) → IsIn y n.device.world.things → is_needed t n y ≡ true
      → passes (is_needed t m) (thing_with_id m.device.world.things y.id) ≡ true
  back y y_in needed =
      let found = sym (closed_with_id m.device.world.things u.id y.id) ∙ ap (λ things. thing_with_id things y.id) (sym now) ∙ with-id 1000
      n.device.world.things y numbered_now y_in in
      at (thing_with_id m.device.world.things y.id) found
    where
      at : (o : Option Thing) → option_map (closed_if u.id) o ≡ Some y → passes (is_needed t m) o ≡ true
      at None e = absurd cc
      at (Some x) e = (let same : closed_if u.id x ≡ y = cc
          in unclosed x (x.id == u.id) (ap (is_needed t m) same ∙ sym (same_test X y) ∙ needed))

  fewer : length (filter (is_needed t n) n.device.world.things)
      + length (filter (lost (is_needed t m) (is_needed t n) n.device.world.things) m.device.world.things)
      ≤ length (filter (is_needed t m) m.device.world.things)
  fewer = fewer_needed (is_needed t m) (is_needed t n) m.device.world.things n.device.world.things X.numbered numbered_now back

  pub closed_grown : IsGrown t m n
  closed_grown = grown_stay t m n stay

  pub closed_told : u.is_open ≡ true → IsTold t m n (u.id ∷ [])
  closed_told opened = record {
    told = freed_told t m n X.numbered numbered_now stay (u.id ∷ []) rising needed (λ x x_in was off. inl (sym (only_this x x_in was off)));
    room = places_suffice t m n X.numbered numbered_now stay (u.id ∷ []) rising needed;
    fewer = fewer;
    back = back;
  } where
    rising : AreRising 0 (u.id ∷ [])
    rising = (omega arith, tt)

    needed : (id : ℕ) → IsIn id (u.id ∷ []) → (x : Thing) → thing_with_id m.device.world.things id ≡ Some x → is_framebuffer x.content
        ≡ true → is_needed t m x ≡ true
    needed id (inr rest) x found framebuffer = absurd rest
    needed id (inl same) x found framebuffer =
        let one : Some x ≡ Some u = sym found ∙ ap (thing_with_id m.device.world.things) (sym same) ∙ with-id 1000 m.device.world.things u
        X.numbered u_in in
        let is_u : x ≡ u = cc in
        needed_by t m x (record { framebuffer = framebuffer; why = inl (ap (λ (z : Thing). z.is_open) is_u ∙ opened) })

  -- one that is no framebuffer frees nothing
  pub closed_quiet : is_framebuffer u.content ≡ false → IsQuiet t m n
  closed_quiet none =
      let nothing = filter-none (lost (is_needed t m) (is_needed t n) n.device.world.things) m.device.world.things never in
      let size = fewer in
      record { none = nothing; fewer = omega (arith, size); grown = closed_grown; steady = steady }
    where
      never : (x : Thing) → IsIn x m.device.world.things → lost (is_needed t m) (is_needed t n) n.device.world.things x ≡ false
      never x x_in = by_lost (lost (is_needed t m) (is_needed t n) n.device.world.things x) refl where
        off : (b : Bool) → not b ≡ true → b ≡ false
        off false e = refl
        off true e = absurd cc

        by_lost : (b : Bool) → lost (is_needed t m) (is_needed t n) n.device.world.things x ≡ b → b ≡ false
        by_lost false e = refl
        by_lost true e =
            let both = and_parts (is_needed t m x) _ e in
            let same = only_this x x_in both.0 (off _ both.1) in
            let one : Some x ≡ Some u = sym (with-id 1000 m.device.world.things x X.numbered x_in) ∙ ap
            (thing_with_id m.device.world.things) same ∙ with-id 1000 m.device.world.things u X.numbered u_in in
            let is_u : x ≡ u = cc in
            absurd (false≢true (sym none ∙ ap (λ (z : Thing). is_framebuffer z.content) (sym is_u) ∙ (needs_of t m x both.0).framebuffer))

      -- the thing itself is not stored, and the others are as they were
      steady : (id : ℕ) → held_where (is_needed t n) (thing_with_id n.device.world.things id) ≡ held_where (is_needed t m)
          (thing_with_id m.device.world.things id)
      steady id = ap (held_where (is_needed t n))
          (ap (λ things. thing_with_id things id) now ∙ closed_with_id m.device.world.things u.id id)
          ∙ at (thing_with_id m.device.world.things id) refl where
            unstored : (v : Machine) (x : Thing) → is_framebuffer x.content ≡ false → held_where (is_needed t v) (Some x) ≡ None
            unstored v x off = ap (λ b. if b then held_as x x.content else None) (needed_framebuffer t v x off)

            at : (o : Option Thing) → thing_with_id m.device.world.things id ≡ o
                → held_where (is_needed t n) (option_map (closed_if u.id) o) ≡ held_where (is_needed t m) o
            at None found = refl
            at (Some x) found = elim (cases_eq x.id u.id) [
              | inr apart ↦ ap (λ z. held_where (is_needed t n) (Some z))
                  (cond-false (x.id == u.id) (record x { is_open = false }) x (ne_eqb x.id u.id apart))
                  ∙ ap (λ b. if b then held_as x x.content else None) (same_test X x)
              | inl same ↦ (
                  let x_in = find-in (λ (z : Thing). z.id == id) m.device.world.things x found in
                  let one : Some x ≡ Some u = sym (with-id 1000 m.device.world.things x X.numbered x_in)
                  ∙ ap (thing_with_id m.device.world.things) same ∙ with-id 1000 m.device.world.things u X.numbered u_in in
                  let is_u : x ≡ u = cc in
                  let off : is_framebuffer x.content ≡ false = ap (λ (z : Thing). is_framebuffer z.content) is_u ∙ none in
                  unstored n (closed_if u.id x) (ap is_framebuffer (closed_same u.id x).content ∙ off) ∙ sym (unstored m x off))
            ]

-- Commands

-- a framebuffer is closed
pub record IsClosed (t : Topology) (m n : Machine) (client label : ℕ) : Type 0 where
  pub thing : Thing
  pub was : thing_labelled m.device.world.things label ≡ Some thing
  pub may : close_refusal client (Some thing) ≡ None
  pub shut : n.device.world.things ≡ closed_in m.device.world.things thing.id
  pub now : Thing
  pub found : thing_labelled n.device.world.things label ≡ Some now
  pub same_id : now.id ≡ thing.id
  pub told : IsTold t m n (thing.id ∷ [])
  pub grown : IsGrown t m n

-- what a command frees, by what it is and how it is answered
abbrev pub MadeFrees : Topology → Machine → Machine → ℕ → Command → Reply → Type 0
MadeFrees t m n client (command.AddFb label buffer) (reply.Made id) = IsAdded t m n client label buffer id
MadeFrees t m n client (command.CloseFb label) reply.Done = IsClosed t m n client label
MadeFrees t m n client _ _ = IsQuiet t m n

module _ (t : Topology) (m n : Machine) where
  unless : (owner label : ℕ) (c : Content) (o : Option ℕ) → is_framebuffer c ≡ false
      → IsExecuted t m n (make_unless m.device.world owner label c o).world → IsQuiet t m n
  unless owner label c None none X = pushed_quiet
      (record { label = label; id = m.device.world.next_id; owner = owner; content = c; is_open = true }) X refl none
  unless owner label c (Some k) none X = left_quiet X refl

  adds : (client label buffer : ℕ) (o : Option BufferInfo) → buffer_of m.device.world.things client buffer ≡ o
      → IsExecuted t m n (add_fb m.device.world client label o).world
      → MadeFrees t m n client (command.AddFb label buffer) (add_fb m.device.world client label o).reply
  adds client label buffer None found X = left_quiet X refl
  adds client label buffer (Some b) found X = pushed_added client label buffer X refl found

  blob_only : (client : ℕ) (u : Thing) → destroy_refusal client (Some u) ≡ None → is_framebuffer u.content ≡ false
  blob_only client u e = by_content u.content e where
    by_content : (c : Content) → destroy_refusal client (Some (record u { content = c })) ≡ None → is_framebuffer c ≡ false
    by_content (content.Framebuffer info buffer) e = absurd cc
    by_content (content.Buffer width height format pattern) e = refl
    by_content (content.Mode mode) e = refl
    by_content (content.Blob bytes) e = refl
    by_content content.Fence e = refl
    by_content content.OutFence e = refl

  destroys : (client label : ℕ) (o : Option Thing) → thing_labelled m.device.world.things label ≡ o → (r : Option ℕ)
      → destroy_refusal client o ≡ r → IsExecuted t m n (close_unless m.device.world o r).world → IsQuiet t m n
  destroys client label o found (Some k) refusal X = left_quiet X refl
  destroys client label None found None refusal X = left_quiet X refl
  destroys client label (Some u) found None refusal X =
      closed_quiet t m n _ u X refl (find-in (λ x. x.label == label) m.device.world.things u found) (blob_only client u refusal)

  open_only : (client : ℕ) (u : Thing) → close_refusal client (Some u) ≡ None → u.is_open ≡ true
  open_only client u e = by_content u.content u.is_open e where
    by_content : (c : Content) (b : Bool) → close_refusal client (Some (record u { content = c; is_open = b })) ≡ None → b ≡ true
    by_content (content.Framebuffer info buffer) true e = refl
    by_content (content.Framebuffer info buffer) false e = absurd cc
    by_content (content.Buffer width height format pattern) b e = absurd cc
    by_content (content.Mode mode) b e = absurd cc
    by_content (content.Blob bytes) b e = absurd cc
    by_content content.Fence b e = absurd cc
    by_content content.OutFence b e = absurd cc

  closes : (client label : ℕ) (o : Option Thing) → thing_labelled m.device.world.things label ≡ o → (r : Option ℕ) → close_refusal client o
      ≡ r → IsExecuted t m n (close_unless m.device.world o r).world
      → MadeFrees t m n client (command.CloseFb label) (close_unless m.device.world o r).reply
  closes client label o found (Some k) refusal X = left_quiet X refl
  closes client label None found None refusal X = absurd cc
  closes client label (Some u) found None refusal X =
      record {
        thing = u;
        was = found;
        may = refusal;
        shut = ap (λ (w : World). w.things) X.world;
        now = closed_if u.id u;
        found = ap (λ (w : World). thing_labelled w.things label) X.world ∙ closed_labelled m.device.world.things u.id label ∙ ap
            (option_map (closed_if u.id)) found;
        same_id = same_id (u.id == u.id);
        told = closed_told t m n _ u X refl (find-in (λ x. x.label == label) m.device.world.things u found) (open_only client u refusal);
        grown = closed_grown t m n _ u X refl (find-in (λ x. x.label == label) m.device.world.things u found);
      }
    where
      same_id : (b : Bool) → (if b then record u { is_open = false } else u).id ≡ u.id
      same_id true = refl
      same_id false = refl

  pub made_frees : (client : ℕ) (c : Command) → is_making c ≡ true → IsExecuted t m n (execute t m.device.world client c).world
      → MadeFrees t m n client c (execute t m.device.world client c).reply
  unfolding execute
  made_frees client (command.Buffer label width height format pattern) making X = unless client label
      (content.Buffer width height format pattern) (new_buffer_refusal m.device.world.things width height format) refl X
  made_frees client (command.AddFb label buffer) making X = adds client label buffer (buffer_of m.device.world.things client buffer) refl X
  made_frees client (command.Mode label mode) making X = unless client label (content.Mode mode) None refl X
  made_frees client (command.Blob label bytes) making X = unless client label (content.Blob bytes) None refl X
  made_frees client (command.Destroy label) making X = destroys client label (thing_labelled m.device.world.things label) refl
      (destroy_refusal client (thing_labelled m.device.world.things label)) refl X
  made_frees client (command.CloseFb label) making X = closes client label (thing_labelled m.device.world.things label) refl
      (close_refusal client (thing_labelled m.device.world.things label)) refl X
  made_frees client (command.Fence label) making X = unless client label content.Fence None refl X
  made_frees client (command.Signal label) making X = absurd cc
  made_frees client (command.Atomic r) making X = absurd cc
  made_frees client command.Wait making X = absurd cc
