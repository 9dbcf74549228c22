-- A call that was read may stand in a script over the device, and its line says its labels and makes none.
use Rattle.std.proofs.Common.{◌≡◌, ℕ, ◌^◌, Bool, true, inl, inr, List, Option, Some, None, ℤ, refl, sym, ap, subst, ◌∙◌}
use Rattle.std.specs.Prelude.{◌&&◌, codes, nat_le, nat_lt, option_map}
use Rattle.std.specs.Str.{bytes_eq}
use Rattle.std.proofs.lemmas.Bool.{and_from, le-leb}
use Rattle.kms_model.specs.declared.legacy.LegacyCall.{LegacyCall}
use Rattle.kms_model.specs.declared.legacy.LegacyCall.TheVariants as call
use Rattle.kms_model.specs.declared.objects.Kind.{Kind}
use Rattle.kms_model.specs.declared.objects.Kind.TheVariants.{Crtc, Plane, Conn}
use Rattle.kms_model.specs.declared.objects.Topology.{Topology}
use Rattle.kms_model.specs.declared.pictures.Rect.{Rect}
use Rattle.kms_model.specs.declared.properties.TheConstants.{CRTC_X, CRTC_Y, CRTC_W, CRTC_H, SRC_X, SRC_Y, SRC_W, SRC_H}
use Rattle.kms_model.specs.Device.Objects.{exists}
use Rattle.kms_model.specs.Legacy.LegacyCalls.{call_may_stand, call_read, corner_at, cursor_fields, cursor_read, destination_at, event_word}
use Rattle.kms_model.specs.Legacy.LegacyCalls.{index_at, is_number, is_off, is_rect, named_at, pageflip_read, part_at, ranged_at, rect_at}
use Rattle.kms_model.specs.Legacy.LegacyCalls.{setcrtc_fields, setcrtc_read, setplane_fields, setplane_read}
use Rattle.kms_model.specs.Script.CommandLines.{Names, place, saying}
use Rattle.kms_model.specs.Script.Grammar.{int}
use Rattle.kms_model.specs.Script.WellFormed.{is_label_in}
use Rattle.kms_model.specs.Script.Words.{dec_at, end_at, field_at, from, is_label, read_at, strip, until}
use Rattle.kms_script.proofs.FitWords.{dec_at_fit, long_fit}
use Rattle.kms_script.proofs.Inverted.{choice_some, from_bind, if_some, map_some, or_some, some_same}
use Rattle.kms_script.proofs.LabelsMade.{said_keeps}
use Rattle.kms_script.proofs.NamesBegin.{Begins, before_saying, said_word}
use Rattle.kms_legacy.specs.Translating.{is_call_in}
use Rattle.kms_legacy.proofs.SameLabels.{SameMade}

-- Words

index_there : (t : Topology) (kind : Kind) (bytes : List ℕ) (i : ℕ × List ℕ) → index_at t kind bytes ≡ Some i → exists t kind i.0 ≡ true
unfolding index_at
index_there t kind bytes i e =
    from_bind (dec_at 255 bytes) _ i e (λ index given more.
    let read = if_some (exists t kind index.0) (Some index) i more in
    subst (λ (x : ℕ × List ℕ). exists t kind x.0 ≡ true) (some_same index i read.1) read.0)

label_there : (bytes : List ℕ) (l : List ℕ × List ℕ) → named_at bytes ≡ Some l → is_label l.0 ≡ true
unfolding named_at
label_there bytes l e =
    from_bind (field_at bytes) _ l e (λ f a more.
    from_bind (strip (codes "@") f.0) _ l more (λ label b more.
    let read = if_some (is_label label) (Some (label, f.1)) l more in
    subst (λ (x : List ℕ × List ℕ). is_label x.0 ≡ true) (some_same (label, f.1) l read.1) read.0))

number_there : (prop : ℕ) (bytes : List ℕ) (z : ℤ × List ℕ) → ranged_at prop bytes ≡ Some z → is_number prop z.0 ≡ true
unfolding ranged_at
number_there prop bytes z e =
    from_bind (read_at int bytes) _ z e (λ x given more.
    let read = if_some (is_number prop x.0) (Some x) z more in
    subst (λ (y : ℤ × List ℕ). is_number prop y.0 ≡ true) (some_same x z read.1) read.0)

four : (a b c d : Bool) → a ≡ true → b ≡ true → c ≡ true → d ≡ true → (a && (b && (c && d))) ≡ true
four a b c d one two three last = rw (one, two, three) last

rect_there : (left top width height : ℕ) (bytes : List ℕ) (r : Rect × List ℕ) → rect_at left top width height bytes ≡ Some r
    → is_rect left top width height r.0 ≡ true
unfolding rect_at
rect_there left top width height bytes r e =
    from_bind (ranged_at left bytes) _ r e (λ x a more.
    from_bind (ranged_at top x.1) _ r more (λ y b more.
    from_bind (ranged_at width y.1) _ r more (λ w c more.
    from_bind (ranged_at height w.1) _ r more (λ h d more.
    subst (λ (v : Rect × List ℕ). is_rect left top width height v.0 ≡ true)
    (some_same (record { x = x.0; y = y.0; w = w.0; h = h.0 }, h.1) r more)
    (four (is_number left x.0) (is_number top y.0) (is_number width w.0) (is_number height h.0)
    (number_there left bytes x a) (number_there top x.1 y b) (number_there width y.1 w c) (number_there height w.1 h d))))))

corner_there : (bytes : List ℕ) (r : ℤ × ℤ) → corner_at bytes ≡ Some r → (is_number CRTC_X r.0 && is_number CRTC_Y r.1) ≡ true
unfolding corner_at
corner_there bytes r e =
    from_bind (ranged_at CRTC_X bytes) _ r e (λ x a more.
    from_bind (ranged_at CRTC_Y x.1) _ r more (λ y b more.
    from_bind (end_at y.1) _ r more (λ u c more.
    subst (λ (v : ℤ × ℤ). (is_number CRTC_X v.0 && is_number CRTC_Y v.1) ≡ true) (some_same (x.0, y.0) r more)
    (and_from (is_number CRTC_X x.0) (is_number CRTC_Y y.0) (number_there CRTC_X bytes x a) (number_there CRTC_Y x.1 y b)))))

-- Calls

pub record IsReadCall (t : Topology) (names : Names) (c : LegacyCall) (after : Names) : Type 0 where
  pub stands : call_may_stand t c ≡ true
  pub named : (all : List (List ℕ)) → Begins after all → is_call_in all c ≡ true
  pub begins : (all : List (List ℕ)) → Begins after all → Begins names all
  pub same : SameMade names after
  pub profile : after.profile ≡ names.profile

abbrev IsRead : Topology → Names → LegacyCall × Names → Type 0
IsRead t names r = IsReadCall t names r.0 r.1

abbrev reads : LegacyCall → Names → Option (LegacyCall × Names)
reads c after = Some (c, after)

is_read : (t : Topology) (names after : Names) (c : LegacyCall) (r : LegacyCall × Names) → IsReadCall t names c after
    → reads c after ≡ Some r → IsRead t names r
is_read t names after c r is e = subst (IsRead t names) (some_same (c, after) r e) is

same_after : (w : List ℕ) (names : Names) → SameMade names (saying w names)
unfolding saying
same_after w names = record { made = refl; twice = refl; labels = λ v. sym (said_keeps v w names.all) }

profile_after : (w : List ℕ) (names : Names) → (saying w names).profile ≡ names.profile
unfolding saying
profile_after w names = refl

same_twice : (a b c : Names) → SameMade a b → SameMade b c → SameMade a c
same_twice a b c one two = record { made = one.made ∙ two.made; twice = one.twice ∙ two.twice; labels = λ w. one.labels w ∙ two.labels w }

label_in : (all : List (List ℕ)) (w : List ℕ) (names : Names) → Begins (saying w names) all → is_label w ≡ true
    → is_label_in all (place w names) ≡ true
label_in all w names b is = ap is_label (said_word all w names b) ∙ is

-- a call that says nothing
quiet : (t : Topology) (names : Names) (c : LegacyCall) → call_may_stand t c ≡ true → ((all : List (List ℕ)) → is_call_in all c ≡ true)
    → IsReadCall t names c names
quiet t names c stands named = record {
  stands = stands;
  named = λ all b. named all;
  begins = λ all b. b;
  same = record { made = refl; twice = refl; labels = λ w. refl };
  profile = refl;
}

-- a call that says one label
says_one : (t : Topology) (names : Names) (c : LegacyCall) (w : List ℕ) → call_may_stand t c ≡ true
    → ((all : List (List ℕ)) → is_label_in all (place w names) ≡ true → is_call_in all c ≡ true) → is_label w ≡ true
    → IsReadCall t names c (saying w names)
says_one t names c w stands named is = record {
  stands = stands;
  named = λ all b. named all (label_in all w names b is);
  begins = λ all b. before_saying all w names b;
  same = same_after w names;
  profile = profile_after w names;
}

setcrtc_fields_read : (t : Topology) (names : Names) (crtc : ℕ) (bytes : List ℕ) (r : LegacyCall × Names) → exists t Crtc crtc ≡ true
    → setcrtc_fields t names crtc bytes ≡ Some r → IsRead t names r
unfolding setcrtc_fields
setcrtc_fields_read t names crtc bytes r there e =
    from_bind (named_at bytes) _ r e (λ fb a more.
    from_bind (dec_at 65535 fb.1) _ r more (λ x b more.
    from_bind (dec_at 65535 x.1) _ r more (λ y c more.
    from_bind (named_at y.1) _ r more (λ mode d more.
    from_bind (index_at t Conn mode.1) _ r more (λ conn f more.
    from_bind (end_at conn.1) _ r more (λ u g more.
    is_read t names (saying mode.0 (saying fb.0 names)) _ r (record {
      stands =
          four (exists t Crtc crtc) (exists t Conn conn.0) (nat_le x.0 65535) (nat_le y.0 65535) there (index_there t Conn mode.1 conn f)
          (le-leb x.0 65535 (dec_at_fit 65535 fb.1 x b)) (le-leb y.0 65535 (dec_at_fit 65535 x.1 y c));
      named = λ all begins. and_from (is_label_in all (place fb.0 names)) (is_label_in all (place mode.0 (saying fb.0 names)))
          (label_in all fb.0 names (before_saying all mode.0 (saying fb.0 names) begins) (label_there bytes fb a))
          (label_in all mode.0 (saying fb.0 names) begins (label_there y.1 mode d));
      begins = λ all begins. before_saying all fb.0 names (before_saying all mode.0 (saying fb.0 names) begins);
      same =
          same_twice names (saying fb.0 names) (saying mode.0 (saying fb.0 names)) (same_after fb.0 names)
          (same_after mode.0 (saying fb.0 names));
      profile = profile_after mode.0 (saying fb.0 names) ∙ profile_after fb.0 names;
    }) more))))))

setcrtc_is : (t : Topology) (names : Names) (bytes : List ℕ) (r : LegacyCall × Names) → setcrtc_read t names bytes ≡ Some r
    → IsRead t names r
unfolding setcrtc_read
setcrtc_is t names bytes r e =
    from_bind (index_at t Crtc bytes) _ r e (λ crtc a more.
    elim (choice_some (is_off crtc.1) (reads (call.CrtcOff crtc.0) names) (setcrtc_fields t names crtc.0 crtc.1) r more) [
      | inl off ↦
          is_read t names names (call.CrtcOff crtc.0) r
          (quiet t names (call.CrtcOff crtc.0) (index_there t Crtc bytes crtc a) (λ all. refl)) off.1
      | inr on ↦ setcrtc_fields_read t names crtc.0 crtc.1 r (index_there t Crtc bytes crtc a) on
    ])

setplane_fields_read : (t : Topology) (names : Names) (plane : ℕ) (bytes : List ℕ) (r : LegacyCall × Names) → exists t Plane plane ≡ true
    → setplane_fields t names plane bytes ≡ Some r → IsRead t names r
unfolding setplane_fields
setplane_fields_read t names plane bytes r there e =
    from_bind (index_at t Crtc bytes) _ r e (λ crtc a more.
    from_bind (named_at crtc.1) _ r more (λ fb b more.
    from_bind (destination_at fb.1) _ r more (λ dst c more.
    from_bind (part_at dst.1) _ r more (λ src d more.
    from_bind (end_at src.1) _ r more (λ u f more.
    let c0 : LegacyCall = call.SetPlane plane crtc.0 (place fb.0 names) dst.0 src.0 in
    is_read t names (saying fb.0 names) c0 r (says_one t names c0 fb.0
    (four (exists t Plane plane) (exists t Crtc crtc.0) (is_rect CRTC_X CRTC_Y CRTC_W CRTC_H dst.0)
    (is_rect SRC_X SRC_Y SRC_W SRC_H src.0) there (index_there t Crtc bytes crtc a)
    (rect_there CRTC_X CRTC_Y CRTC_W CRTC_H fb.1 dst c) (rect_there SRC_X SRC_Y SRC_W SRC_H dst.1 src d)) (λ all is. is)
    (label_there crtc.1 fb b)) more)))))

setplane_is : (t : Topology) (names : Names) (bytes : List ℕ) (r : LegacyCall × Names) → setplane_read t names bytes ≡ Some r
    → IsRead t names r
unfolding setplane_read
setplane_is t names bytes r e =
    from_bind (index_at t Plane bytes) _ r e (λ plane a more.
    elim (choice_some (is_off plane.1) (reads (call.PlaneOff plane.0) names) (setplane_fields t names plane.0 plane.1) r more) [
      | inl off ↦
          is_read t names names (call.PlaneOff plane.0) r
          (quiet t names (call.PlaneOff plane.0) (index_there t Plane bytes plane a) (λ all. refl)) off.1
      | inr on ↦ setplane_fields_read t names plane.0 plane.1 r (index_there t Plane bytes plane a) on
    ])

pageflip_is : (t : Topology) (names : Names) (bytes : List ℕ) (r : LegacyCall × Names) → pageflip_read t names bytes ≡ Some r
    → IsRead t names r
unfolding pageflip_read
pageflip_is t names bytes r e =
    from_bind (index_at t Crtc bytes) _ r e (λ crtc a more.
    from_bind (named_at crtc.1) _ r more (λ fb b more.
    from_bind (read_at event_word fb.1) _ r more (λ event c more.
    from_bind (dec_at 18446744073709551615 event.1) _ r more (λ user d more.
    from_bind (end_at user.1) _ r more (λ u f more.
    let c0 : LegacyCall = call.PageFlip crtc.0 (place fb.0 names) event.0 user.0 in
    is_read t names (saying fb.0 names) c0 r (says_one t names c0 fb.0 (index_there t Crtc bytes crtc a)
    (λ all is. and_from (is_label_in all (place fb.0 names)) (nat_lt user.0 (2 ^ 64)) is
    (long_fit user.0 (dec_at_fit 18446744073709551615 event.1 user d))) (label_there crtc.1 fb b)) more)))))

cursor_fields_read : (t : Topology) (names : Names) (crtc : ℕ) (bytes : List ℕ) (r : LegacyCall × Names) → exists t Crtc crtc ≡ true
    → cursor_fields names crtc bytes ≡ Some r → IsRead t names r
unfolding cursor_fields
cursor_fields_read t names crtc bytes r there e =
    from_bind (named_at bytes) _ r e (λ fb a more.
    from_bind (corner_at fb.1) _ r more (λ corner b more.
    let c0 : LegacyCall = call.Cursor crtc (place fb.0 names) corner.0 corner.1 in
    is_read t names (saying fb.0 names) c0 r
    (says_one t names c0 fb.0 (and_from (exists t Crtc crtc) _ there (corner_there fb.1 corner b)) (λ all is. is) (label_there bytes fb a))
    more))

abbrev cursor_move : ℕ → ℤ × ℤ → LegacyCall
cursor_move crtc corner = call.CursorMove crtc corner.0 corner.1

cursor_is : (t : Topology) (names : Names) (bytes : List ℕ) (r : LegacyCall × Names) → cursor_read t names bytes ≡ Some r → IsRead t names r
unfolding cursor_read
cursor_is t names bytes r e =
    from_bind (index_at t Crtc bytes) _ r e (λ crtc a more.
    let there = index_there t Crtc bytes crtc a in
    elim (choice_some (is_off crtc.1) (reads (call.CursorOff crtc.0) names) _ r more) [
      | inl off ↦ is_read t names names (call.CursorOff crtc.0) r (quiet t names (call.CursorOff crtc.0) there (λ all. refl)) off.1
      | inr on ↦
          elim (or_some (λ rest. option_map (λ (corner : ℤ × ℤ). (call.CursorMove crtc.0 corner.0 corner.1, names)) (corner_at rest))
          (strip (codes " move") crtc.1) (cursor_fields names crtc.0 crtc.1) r on) [
            | inl moved ↦ (let m = map_some (λ (corner : ℤ × ℤ). (cursor_move crtc.0 corner, names)) (corner_at moved.value) r moved.then in
                is_read t names names (cursor_move crtc.0 m.value) r
                (quiet t names (cursor_move crtc.0 m.value)
                (and_from (exists t Crtc crtc.0) _ there (corner_there moved.value m.value m.given))
                (λ all. refl)) (ap Some m.makes))
            | inr shown ↦ cursor_fields_read t names crtc.0 crtc.1 r there shown
          ]
    ])

nothing : {A : Type 0} (x : A) → None ≡ Some x → ⊥
nothing x e = cc

pub call_is : (t : Topology) (names : Names) (text : List ℕ) (c : LegacyCall) (after : Names) → call_read t names text ≡ Some (c, after)
    → IsReadCall t names c after
unfolding call_read
call_is t names text c after e =
    let word : List ℕ = until 32 text in
    let fields : List ℕ = from 32 text in
    let r : LegacyCall × Names = (c, after) in
    elim (choice_some (bytes_eq word (codes "setcrtc")) (setcrtc_read t names fields) _ r e) [
      | inl lit ↦ setcrtc_is t names fields r lit.1
      | inr more ↦ elim (choice_some (bytes_eq word (codes "setplane")) (setplane_read t names fields) _ r more) [
        | inl put ↦ setplane_is t names fields r put.1
        | inr more ↦ elim (choice_some (bytes_eq word (codes "pageflip")) (pageflip_read t names fields) _ r more) [
          | inl flipped ↦ pageflip_is t names fields r flipped.1
          | inr more ↦ elim (choice_some (bytes_eq word (codes "cursor")) (cursor_read t names fields) None r more) [
            | inl pointed ↦ cursor_is t names fields r pointed.1
            | inr none ↦ absurd (nothing r none)
          ]
        ]
      ]
    ]
