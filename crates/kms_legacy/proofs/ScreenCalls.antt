-- Each accepted call keeps the screen that it changes in its own words.
use Rattle.std.proofs.Common.{◌≡◌, ℕ, ◌+◌, Bool, true, false, not, List, [], ◌∷◌, ◌++◌, cond, map, Option, Some, None, Ok, Err, pos, refl}
use Rattle.std.proofs.Common.{sym, ap, subst, ◌∙◌, arith}
use Rattle.std.specs.Prelude.{◌==◌, Result}
use Rattle.std.proofs.lemmas.Bool.{and_parts, ltb-true}
use Rattle.kms_model.specs.declared.flags.TheConstants.{ALLOW_MODESET, NONBLOCK, PAGE_FLIP_EVENT}
use Rattle.kms_model.specs.declared.legacy.LegacyCall.{LegacyCall}
use Rattle.kms_model.specs.declared.legacy.LegacyCall.TheVariants as call
use Rattle.kms_model.specs.declared.objects.Kind.TheVariants.{Crtc, Plane, Conn}
use Rattle.kms_model.specs.declared.objects.Mode.{Mode}
use Rattle.kms_model.specs.declared.objects.Topology.{Topology}
use Rattle.kms_model.specs.declared.pictures.FbInfo.{FbInfo}
use Rattle.kms_model.specs.declared.pictures.Rect.{Rect}
use Rattle.kms_model.specs.declared.properties.TheConstants.{ACTIVE, CRTC_ID, CRTC_X, CRTC_Y, FB_ID, MODE_ID}
use Rattle.kms_model.specs.declared.scripts.Assign.{Assign}
use Rattle.kms_model.specs.declared.scripts.Request.{Request}
use Rattle.kms_model.specs.declared.scripts.Value.TheVariants as value
use Rattle.kms_model.specs.declared.worlds.Look.{Look}
use Rattle.kms_model.specs.declared.worlds.World.{World}
use Rattle.kms_model.specs.Device.Objects.{count_of, exists, object_id}
use Rattle.kms_model.specs.Device.Sound.{IsDevice, IsLawful}
use Rattle.kms_model.specs.Legacy.LegacyCalls.{call_may_stand}
use Rattle.kms_model.specs.Legacy.Screen.{Screen, at_plane, flipped_to, lit_in, moved_to, placed_in_mode, placed_whole, screen_after}
use Rattle.kms_model.specs.Legacy.Screen.{with_changed, with_lit, with_placed}
use Rattle.kms_model.specs.Legacy.Translated.{fb_of_call, mode_of_call}
use Rattle.kms_model.specs.Legacy.Translation.{Present, asks, call_request, changes_format, conns_now, crtc_on, cursor, fb_size}
use Rattle.kms_model.specs.Legacy.Translation.{flip_request, in_fixed, mode_size, others, plane_on, present_in, primary, sized_at}
use Rattle.kms_model.specs.Legacy.Translation.{special_plane, with_plane}
use Rattle.kms_model.specs.Request.Flags.{is_test}
use Rattle.kms_model.specs.Request.Lookups.{look_up}
use Rattle.kms_model.specs.Request.Verdict.{verdict}
use Rattle.kms_model.specs.Script.Assigning.{conn_off, crtc_off, plane_off, unset}
use Rattle.kms_model.specs.Script.Generated.{assigns_to}
use Rattle.kms_model.proofs.TouchedLemmas.{few_objects}
use Rattle.kms_script.specs.ReadAnew.{renamed, renamed_assign}
use Rattle.kms_legacy.proofs.CrtcCalls.{crtc_off_kept, setcrtc_kept}
use Rattle.kms_legacy.proofs.OneCall.{IsKeptBy, flip_kept, move_kept, off_kept, put_kept}
use Rattle.kms_legacy.proofs.RequestsSaid.{given, request_same}
use Rattle.kms_legacy.proofs.SamePresent.{special_within}
use Rattle.kms_legacy.proofs.ScreenShown.{IsScreenOf}

abbrev asked : ℕ → ℕ → List Assign → Request
asked flags user assigns = record { flags = flags; user_data = user; assigns = assigns }

-- The request of a call tests nothing.

untested : (flags user : ℕ) (assigns : List Assign) (r : Request) → is_test flags ≡ false → asks flags user assigns ≡ Ok r
    → is_test r.flags ≡ false
untested flags user assigns r none e = subst (λ (q : Request). is_test q.flags ≡ false) (request_same (asked flags user assigns) r e) none

untested_with : (o : Option ℕ) (f : ℕ → Result Request ℕ) (r : Request) → ((plane : ℕ) → f plane ≡ Ok r → is_test r.flags ≡ false)
    → with_plane o f ≡ Ok r → is_test r.flags ≡ false
untested_with None f r more e = absurd cc
untested_with (Some plane) f r more e = more plane e

untested_flags : (event : Bool) → is_test (cond event (NONBLOCK + PAGE_FLIP_EVENT) NONBLOCK) ≡ false
untested_flags true = refl
untested_flags false = refl

-- a flip that is asked for
record IsFlip (plane label user : ℕ) (event : Bool) (r : Request) : Type 0 where
  is : asks (cond event (NONBLOCK + PAGE_FLIP_EVENT) NONBLOCK) user (assigns_to Plane plane FB_ID (value.Named label) ∷ []) ≡ Ok r

flip_is : (now : Present) (plane crtc label user : ℕ) (fb : Option FbInfo) (event : Bool) (r : Request)
    → flip_request now plane crtc fb label event user ≡ Ok r → IsFlip plane label user event r
flip_is now plane crtc label user fb event r e =
    shown (not (now.plane_crtc plane == object_id Crtc crtc)) (changes_format fb (now.plane_fb plane)) e
  where
    shown : (a b : Bool) → cond a (Err 41)
        (cond b (Err 42) (asks (cond event (NONBLOCK + PAGE_FLIP_EVENT) NONBLOCK) user
        (assigns_to Plane plane FB_ID (value.Named label) ∷ []))) ≡ Ok r → IsFlip plane label user event r
    shown true b e = absurd cc
    shown false true e = absurd cc
    shown false false e = record { is = e }

pub not_tested : (t : Topology) (p : Present) (mode : Option Mode) (fb : Option FbInfo) (c : LegacyCall) (r : Request)
    → call_request t p mode fb c ≡ Ok r → is_test r.flags ≡ false
unfolding call_request
not_tested t p mode fb (call.SetCrtc crtc label x y mode_label conn) r e =
    untested_with (special_plane t primary crtc) _ r (λ plane g. untested ALLOW_MODESET 0 _ r refl g) e
not_tested t p mode fb (call.CrtcOff crtc) r e =
    untested_with (special_plane t primary crtc) _ r (λ plane g. untested ALLOW_MODESET 0 _ r refl g) e
not_tested t p mode fb (call.SetPlane plane crtc label dst src) r e = untested 0 0 _ r refl e
not_tested t p mode fb (call.PlaneOff plane) r e = untested 0 0 _ r refl e
not_tested t p mode fb (call.PageFlip crtc label event user) r e =
    untested_with (special_plane t primary crtc) _ r
    (λ plane g. untested (cond event (NONBLOCK + PAGE_FLIP_EVENT) NONBLOCK) user _ r (untested_flags event)
    (flip_is p plane crtc label user fb event r g).is) e
not_tested t p mode fb (call.Cursor crtc label x y) r e =
    untested_with (special_plane t cursor crtc) _ r (λ plane g. untested 0 0 _ r refl g) e
not_tested t p mode fb (call.CursorMove crtc x y) r e =
    untested_with (special_plane t cursor crtc) _ r (λ plane g. untested 0 0 _ r refl g) e
not_tested t p mode fb (call.CursorOff crtc) r e = untested_with (special_plane t cursor crtc) _ r (λ plane g. untested 0 0 _ r refl g) e

-- A call with other numbers of its labels asks for the request with these numbers.

abbrev pub call_with : (ℕ → ℕ) → LegacyCall → LegacyCall
call_with f (call.SetCrtc crtc fb x y mode conn) = call.SetCrtc crtc (f fb) x y (f mode) conn
call_with f (call.CrtcOff crtc) = call.CrtcOff crtc
call_with f (call.SetPlane plane crtc fb dst src) = call.SetPlane plane crtc (f fb) dst src
call_with f (call.PlaneOff plane) = call.PlaneOff plane
call_with f (call.PageFlip crtc fb event user) = call.PageFlip crtc (f fb) event user
call_with f (call.Cursor crtc fb x y) = call.Cursor crtc (f fb) x y
call_with f (call.CursorMove crtc x y) = call.CursorMove crtc x y
call_with f (call.CursorOff crtc) = call.CursorOff crtc

-- it looks up what stands behind these numbers, and may stand where the call may
pub record IsRenumbered (f : ℕ → ℕ) (t : Topology) (look : ℕ → Look) (c : LegacyCall) : Type 0 where
  pub mode : mode_of_call (λ label. look (f label)) c ≡ mode_of_call look (call_with f c)
  pub fb : fb_of_call (λ label. look (f label)) c ≡ fb_of_call look (call_with f c)
  pub stands : call_may_stand t (call_with f c) ≡ call_may_stand t c

pub is_renumbered : (f : ℕ → ℕ) (t : Topology) (look : ℕ → Look) (c : LegacyCall) → IsRenumbered f t look c
is_renumbered f t look (call.SetCrtc crtc fb x y mode conn) = record { mode = refl; fb = refl; stands = refl }
is_renumbered f t look (call.CrtcOff crtc) = record { mode = refl; fb = refl; stands = refl }
is_renumbered f t look (call.SetPlane plane crtc fb dst src) = record { mode = refl; fb = refl; stands = refl }
is_renumbered f t look (call.PlaneOff plane) = record { mode = refl; fb = refl; stands = refl }
is_renumbered f t look (call.PageFlip crtc fb event user) = record { mode = refl; fb = refl; stands = refl }
is_renumbered f t look (call.Cursor crtc fb x y) = record { mode = refl; fb = refl; stands = refl }
is_renumbered f t look (call.CursorMove crtc x y) = record { mode = refl; fb = refl; stands = refl }
is_renumbered f t look (call.CursorOff crtc) = record { mode = refl; fb = refl; stands = refl }

-- no number of a label changes the screen
pub screen_with : (f : ℕ → ℕ) (t : Topology) (mode : Option Mode) (fb : Option FbInfo) (c : LegacyCall) (screen : Screen)
    → screen_after t mode fb (call_with f c) screen ≡ screen_after t mode fb c screen
unfolding screen_after
screen_with f t mode fb (call.SetCrtc crtc label x y mode_label conn) screen = refl
screen_with f t mode fb (call.CrtcOff crtc) screen = refl
screen_with f t mode fb (call.SetPlane plane crtc label dst src) screen = refl
screen_with f t mode fb (call.PlaneOff plane) screen = refl
screen_with f t mode fb (call.PageFlip crtc label event user) screen = refl
screen_with f t mode fb (call.Cursor crtc label x y) screen = refl
screen_with f t mode fb (call.CursorMove crtc x y) screen = refl
screen_with f t mode fb (call.CursorOff crtc) screen = refl

renamed_append : (f : ℕ → ℕ) (xs ys : List Assign)
    → map (renamed_assign f) (xs ++ ys) ≡ map (renamed_assign f) xs ++ map (renamed_assign f) ys
renamed_append f [] ys = refl
renamed_append f (x ∷ xs) ys = ap (λ (zs : List Assign). renamed_assign f x ∷ zs) (renamed_append f xs ys)

-- connectors that go off name no label
off_renamed : (f : ℕ → ℕ) (conns : List ℕ) → map (renamed_assign f) (map conn_off conns) ≡ map conn_off conns
off_renamed f [] = refl
off_renamed f (conn ∷ conns) = ap (λ (zs : List Assign). conn_off conn ∷ zs) (off_renamed f conns)

offs_renamed : (f : ℕ → ℕ) (conns : List ℕ) (rest after : List Assign) → map (renamed_assign f) rest ≡ after
    → map (renamed_assign f) (map conn_off conns ++ rest) ≡ map conn_off conns ++ after
offs_renamed f conns rest after is =
    renamed_append f (map conn_off conns) rest
    ∙ (ap (λ (zs : List Assign). zs ++ map (renamed_assign f) rest) (off_renamed f conns)
    ∙ ap (λ (zs : List Assign). map conn_off conns ++ zs) is)

lit_renamed : (f : ℕ → ℕ) (crtc mode conn plane label : ℕ) (on_it : List ℕ) (dst src : Rect)
    → map (renamed_assign f) (crtc_on crtc mode conn on_it ++ plane_on plane crtc label dst src) ≡ crtc_on crtc
    (f mode) conn on_it ++ plane_on plane crtc (f label) dst src
lit_renamed f crtc mode conn plane label on_it dst src =
    renamed_append f (crtc_on crtc mode conn on_it) (plane_on plane crtc label dst src)
    ∙ ap (λ (zs : List Assign). (assigns_to Crtc crtc ACTIVE (value.Num (pos 1)) ∷ assigns_to Crtc crtc MODE_ID
    (value.Named (f mode)) ∷ zs) ++ plane_on plane crtc (f label) dst src)
    (offs_renamed f (others conn on_it) (assigns_to Conn conn CRTC_ID (value.Crtc crtc) ∷ [])
    (assigns_to Conn conn CRTC_ID (value.Crtc crtc) ∷ []) refl)

dark_renamed : (f : ℕ → ℕ) (crtc plane : ℕ) (on_it : List ℕ)
    → map (renamed_assign f) (crtc_off crtc ++ (map conn_off on_it ++ plane_off plane)) ≡ crtc_off
    crtc ++ (map conn_off on_it ++ plane_off plane)
dark_renamed f crtc plane on_it =
    ap (λ (zs : List Assign). assigns_to Crtc crtc ACTIVE unset ∷ assigns_to Crtc crtc MODE_ID unset ∷ zs)
    (offs_renamed f on_it (plane_off plane) (plane_off plane) refl)

asked_renamed : (f : ℕ → ℕ) (flags user : ℕ) (assigns after : List Assign) (r : Request) → map (renamed_assign f) assigns ≡ after
    → asks flags user assigns ≡ Ok r → asks flags user after ≡ Ok (renamed f r)
asked_renamed f flags user assigns after r is e =
    ap (λ (xs : List Assign). asks flags user xs) (sym is)
    ∙ ap (λ (q : Request). given (renamed f q)) (request_same (asked flags user assigns) r e)

with_renamed : (f : ℕ → ℕ) (o : Option ℕ) (g h : ℕ → Result Request ℕ) (r : Request)
    → ((plane : ℕ) → g plane ≡ Ok r → h plane ≡ Ok (renamed f r)) → with_plane o g ≡ Ok r → with_plane o h ≡ Ok (renamed f r)
with_renamed f None g h r more e = absurd cc
with_renamed f (Some plane) g h r more e = more plane e

flip_renamed : (f : ℕ → ℕ) (now : Present) (plane crtc label user : ℕ) (fb : Option FbInfo) (event : Bool) (r : Request)
    → flip_request now plane crtc fb label event user ≡ Ok r → flip_request now plane crtc fb (f label) event user ≡ Ok (renamed f r)
flip_renamed f now plane crtc label user fb event r e =
    shown (not (now.plane_crtc plane == object_id Crtc crtc)) (changes_format fb (now.plane_fb plane)) e
  where
    shown : (a b : Bool) → cond a (Err 41)
        (cond b (Err 42) (asks (cond event (NONBLOCK + PAGE_FLIP_EVENT) NONBLOCK) user
        (assigns_to Plane plane FB_ID (value.Named label) ∷ []))) ≡ Ok r
        → cond a (Err 41) (cond b (Err 42)
        (asks (cond event (NONBLOCK + PAGE_FLIP_EVENT) NONBLOCK) user (assigns_to Plane plane FB_ID (value.Named (f label)) ∷ []))) ≡ Ok
        (renamed f r)
    shown true b e = absurd cc
    shown false true e = absurd cc
    shown false false e =
        asked_renamed f (cond event (NONBLOCK + PAGE_FLIP_EVENT) NONBLOCK) user (assigns_to Plane plane FB_ID (value.Named label) ∷ [])
        (assigns_to Plane plane FB_ID (value.Named (f label)) ∷ []) r refl e

pub request_with : (f : ℕ → ℕ) (t : Topology) (p : Present) (mode : Option Mode) (fb : Option FbInfo) (c : LegacyCall) (r : Request)
    → call_request t p mode fb c ≡ Ok r → call_request t p mode fb (call_with f c) ≡ Ok (renamed f r)
unfolding call_request
request_with f t p mode fb (call.SetCrtc crtc label x y mode_label conn) r e =
    with_renamed f (special_plane t primary crtc) _ _ r (λ plane g.
    asked_renamed f ALLOW_MODESET 0
    (crtc_on crtc mode_label conn (conns_now t p crtc) ++ plane_on plane crtc label (sized_at (pos 0) (pos 0) (mode_size mode))
    (in_fixed x y (mode_size mode)))
    (crtc_on crtc (f mode_label) conn (conns_now t p crtc) ++ plane_on plane crtc (f label) (sized_at (pos 0) (pos 0) (mode_size mode))
    (in_fixed x y (mode_size mode))) r
    (lit_renamed f crtc mode_label conn plane label (conns_now t p crtc) (sized_at (pos 0) (pos 0) (mode_size mode))
    (in_fixed x y (mode_size mode))) g) e
request_with f t p mode fb (call.CrtcOff crtc) r e = with_renamed f (special_plane t primary crtc) _ _ r (λ plane g.
    asked_renamed f ALLOW_MODESET 0 (crtc_off crtc ++ (map conn_off (conns_now t p crtc) ++ plane_off plane))
    (crtc_off crtc ++ (map conn_off (conns_now t p crtc) ++ plane_off plane)) r (dark_renamed f crtc plane (conns_now t p crtc)) g) e
request_with f t p mode fb (call.SetPlane plane crtc label dst src) r e =
    asked_renamed f 0 0 (plane_on plane crtc label dst src) (plane_on plane crtc (f label) dst src) r refl e
request_with f t p mode fb (call.PlaneOff plane) r e = asked_renamed f 0 0 (plane_off plane) (plane_off plane) r refl e
request_with f t p mode fb (call.PageFlip crtc label event user) r e =
    with_renamed f (special_plane t primary crtc) _ _ r (λ plane g. flip_renamed f p plane crtc label user fb event r g) e
request_with f t p mode fb (call.Cursor crtc label x y) r e =
    with_renamed f (special_plane t cursor crtc) _ _ r
    (λ plane g. asked_renamed f 0 0 (plane_on plane crtc label (sized_at x y (fb_size fb)) (in_fixed 0 0 (fb_size fb)))
    (plane_on plane crtc (f label) (sized_at x y (fb_size fb)) (in_fixed 0 0 (fb_size fb))) r refl g) e
request_with f t p mode fb (call.CursorMove crtc x y) r e =
    with_renamed f (special_plane t cursor crtc) _ _ r
    (λ plane g. asked_renamed f 0 0 (assigns_to Plane plane CRTC_X (value.Num x) ∷ assigns_to Plane plane CRTC_Y (value.Num y) ∷ [])
    (assigns_to Plane plane CRTC_X (value.Num x) ∷ assigns_to Plane plane CRTC_Y (value.Num y) ∷ []) r refl g) e
request_with f t p mode fb (call.CursorOff crtc) r e =
    with_renamed f (special_plane t cursor crtc) _ _ r (λ plane g. asked_renamed f 0 0 (plane_off plane) (plane_off plane) r refl g) e

-- The screen

assigns_of : (flags user : ℕ) (assigns : List Assign) (q : Request) → asks flags user assigns ≡ Ok q → assigns ≡ q.assigns
assigns_of flags user assigns q e = ap (λ (r : Request). r.assigns) (request_same (asked flags user assigns) q e)

kept_with : (t : Topology) (w : World) (screen : Screen) (commits : ℕ) (q : Request) (o : Option ℕ) (f : ℕ → Result Request ℕ)
    (g : ℕ → Screen → Screen)
    → ((plane : ℕ) → o ≡ Some plane → f plane ≡ Ok q → IsKeptBy t w (g plane screen) commits q.assigns) → with_plane o f ≡ Ok q
    → IsKeptBy t w (at_plane o g screen) commits q.assigns
kept_with t w screen commits q None f g more e = absurd cc
kept_with t w screen commits q (Some plane) f g more e = more plane refl e

-- an accepted request of a call keeps the screen after the call
pub call_kept : (t : Topology) (w : World) (screen : Screen) (commits : ℕ) (mode : Option Mode) (fb : Option FbInfo) (c : LegacyCall)
    (q : Request) → IsDevice t → IsLawful t w → IsScreenOf t screen w → call_may_stand t c ≡ true
    → mode ≡ mode_of_call (look_up w) c → fb ≡ fb_of_call (look_up w) c → verdict t w q ≡ None
    → call_request t (present_in w) mode fb c ≡ Ok q → IsKeptBy t w (screen_after t mode fb c screen) commits q.assigns
unfolding call_request screen_after
call_kept t w screen commits mode fb (call.SetCrtc crtc label x y mode_label conn) q device lawful is stands of_mode of_fb none e =
    let few = few_objects t device in
    let of_crtc = and_parts (exists t Crtc crtc) _ stands in
    let of_conn = and_parts (exists t Conn conn) _ of_crtc.1 in
    kept_with t w (with_lit crtc (lit_in mode conn) screen) commits q (special_plane t primary crtc) _
    (λ plane. with_placed plane (placed_in_mode crtc x y mode fb)) (λ plane at g.
    setcrtc_kept t w screen commits crtc label x y mode_label conn plane mode fb q few.crtcs few.planes
    (omega (arith, special_within t primary crtc plane at, few.planes)) (ltb-true crtc (count_of t Crtc) of_crtc.0)
    (ltb-true conn (count_of t Conn) of_conn.0) lawful is of_mode of_fb none (assigns_of ALLOW_MODESET 0 _ q g)) e
call_kept t w screen commits mode fb (call.CrtcOff crtc) q device lawful is stands of_mode of_fb none e =
    let few = few_objects t device in
    kept_with t w (with_lit crtc None screen) commits q (special_plane t primary crtc) _ (λ plane. with_placed plane None) (λ plane at g.
    crtc_off_kept t w screen commits crtc plane q few.crtcs few.planes (omega (arith, special_within t primary crtc plane at, few.planes))
    (ltb-true crtc (count_of t Crtc) stands) is (assigns_of ALLOW_MODESET 0 _ q g)) e
call_kept t w screen commits mode fb (call.SetPlane plane crtc label dst src) q device lawful is stands of_mode of_fb none e =
    let few = few_objects t device in
    let of_plane = and_parts (exists t Plane plane) _ stands in
    put_kept t w screen commits plane crtc label dst src fb q few.crtcs
    (omega (arith, ltb-true plane (count_of t Plane) of_plane.0, few.planes)) lawful is of_fb none (assigns_of 0 0 _ q e)
call_kept t w screen commits mode fb (call.PlaneOff plane) q device lawful is stands of_mode of_fb none e =
    let few = few_objects t device in
    off_kept t w screen commits plane q few.crtcs (omega (arith, ltb-true plane (count_of t Plane) stands, few.planes)) is
    (assigns_of 0 0 _ q e)
call_kept t w screen commits mode fb (call.PageFlip crtc label event user) q device lawful is stands of_mode of_fb none e =
    let few = few_objects t device in
    kept_with t w screen commits q (special_plane t primary crtc) _ (with_changed (flipped_to fb)) (λ plane at g.
    flip_kept t w screen commits plane label fb q few.crtcs (special_within t primary crtc plane at)
    (omega (arith, special_within t primary crtc plane at, few.planes)) lawful is of_fb none
    (assigns_of (cond event (NONBLOCK + PAGE_FLIP_EVENT) NONBLOCK) user _ q (flip_is (present_in w) plane crtc label user fb event q g).is))
    e
call_kept t w screen commits mode fb (call.Cursor crtc label x y) q device lawful is stands of_mode of_fb none e =
    let few = few_objects t device in
    kept_with t w screen commits q (special_plane t cursor crtc) _ (λ plane. with_placed plane (placed_whole crtc x y fb)) (λ plane at g.
    put_kept t w screen commits plane crtc label (sized_at x y (fb_size fb)) (in_fixed 0 0 (fb_size fb)) fb q few.crtcs
    (omega (arith, special_within t cursor crtc plane at, few.planes)) lawful is of_fb none (assigns_of 0 0 _ q g)) e
call_kept t w screen commits mode fb (call.CursorMove crtc x y) q device lawful is stands of_mode of_fb none e =
    let few = few_objects t device in
    kept_with t w screen commits q (special_plane t cursor crtc) _ (with_changed (moved_to x y)) (λ plane at g.
    move_kept t w screen commits plane x y q few.crtcs (special_within t cursor crtc plane at)
    (omega (arith, special_within t cursor crtc plane at, few.planes)) is (assigns_of 0 0 _ q g)) e
call_kept t w screen commits mode fb (call.CursorOff crtc) q device lawful is stands of_mode of_fb none e =
    let few = few_objects t device in
    kept_with t w screen commits q (special_plane t cursor crtc) _ (λ plane. with_placed plane None) (λ plane at g.
    off_kept t w screen commits plane q few.crtcs (omega (arith, special_within t cursor crtc plane at, few.planes)) is
    (assigns_of 0 0 _ q g)) e
