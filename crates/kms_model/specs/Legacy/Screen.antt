-- What the user of older calls sees: a screen, which each accepted call changes in its own words, and that translated requests
-- show it. From: `drm_crtc.h`, struct drm_mode_set; that there is such a screen is this project's own.
use Rattle.std.specs.Prelude.{◌≡◌, ◌<◌, ℕ, ◌==◌, Bool, true, false, ℤ, List, [], ◌∷◌, option_map, Option, Some, None, if◌then◌else◌}
use Rattle.std.specs.List.{filter_map}
use Rattle.kms_model.specs.declared.legacy.LegacyCall.{LegacyCall}
use Rattle.kms_model.specs.declared.legacy.LegacyCall.TheVariants as call
use Rattle.kms_model.specs.declared.legacy.LegacyCommand.{LegacyCommand}
use Rattle.kms_model.specs.declared.legacy.LegacyCommand.TheVariants.{Plain, Call}
use Rattle.kms_model.specs.declared.legacy.LegacyScript.{LegacyScript}
use Rattle.kms_model.specs.declared.objects.Kind.TheVariants.{Crtc, Plane, Conn}
use Rattle.kms_model.specs.declared.objects.Mode.{Mode}
use Rattle.kms_model.specs.declared.objects.Topology.{Topology}
use Rattle.kms_model.specs.declared.pictures.FbInfo.{FbInfo}
use Rattle.kms_model.specs.declared.pictures.Layer.{Layer}
use Rattle.kms_model.specs.declared.pictures.Picture.{Picture}
use Rattle.kms_model.specs.declared.pictures.Picture.TheVariants.{Off, On}
use Rattle.kms_model.specs.declared.pictures.Rect.{Rect}
use Rattle.kms_model.specs.declared.scripts.Command.{Command}
use Rattle.kms_model.specs.declared.scripts.Script.{Script}
use Rattle.kms_model.specs.declared.worlds.World.{World}
use Rattle.kms_model.specs.Device.Objects.{indices_of, object_id}
use Rattle.kms_model.specs.Device.World.{start}
use Rattle.kms_model.specs.Frames.Pictures.{clip, mode_area, picture}
use Rattle.kms_model.specs.Legacy.LegacyLines.{SpellsLegacy}
use Rattle.kms_model.specs.Legacy.Translated.{IsTranslated, after_line, fb_of_call, lone_commands, look_anew, meant, mode_of_call}
use Rattle.kms_model.specs.Legacy.Translation.{cursor, fb_size, in_fixed, primary, sized_at, special_plane}
use Rattle.kms_model.specs.Machine.Registers.{read}
use Rattle.kms_model.specs.Script.Words.{◌>>=◌}

-- what a CRTC has that is on
pub record Lit : Type 0 where
  pub mode : Mode
  -- the connector's index
  pub conn : ℕ

-- what a plane has that is on a CRTC
pub record Placed : Type 0 where
  -- the CRTC's index
  pub crtc : ℕ
  pub fb : FbInfo
  pub dst : Rect
  pub src : Rect

-- each CRTC and each plane by index, with nothing or with what it has; the newest row of an index counts
pub record Screen : Type 0 where
  pub lit : List (ℕ × Option Lit)
  pub placed : List (ℕ × Option Placed)

-- nothing anywhere
abbrev pub blank_screen : Screen
blank_screen = record { lit = []; placed = [] }

abbrev pub lit_at : Screen → ℕ → Option Lit
lit_at screen crtc = read None screen.lit crtc

abbrev pub placed_at : Screen → ℕ → Option Placed
placed_at screen plane = read None screen.placed plane

-- Changes

abbrev pub with_lit : ℕ → Option Lit → Screen → Screen
with_lit crtc lit screen = record screen { lit = (crtc, lit) ∷ screen.lit }

abbrev pub with_placed : ℕ → Option Placed → Screen → Screen
with_placed plane placed screen = record screen { placed = (plane, placed) ∷ screen.placed }

-- of a plane, where there is one
abbrev pub at_plane : Option ℕ → (ℕ → Screen → Screen) → Screen → Screen
at_plane None f screen = screen
at_plane (Some plane) f screen = f plane screen

-- what a plane has, changed where it has something
abbrev pub with_changed : (Placed → Placed) → ℕ → Screen → Screen
with_changed change plane screen = with_placed plane (option_map change (placed_at screen plane)) screen

abbrev pub lit_in : Option Mode → ℕ → Option Lit
lit_in mode conn = option_map (λ m. record { mode = m; conn = conn }) mode

-- a framebuffer over the whole of a mode, from a pixel of it on
abbrev pub placed_in_mode : ℕ → ℕ → ℕ → Option Mode → Option FbInfo → Option Placed
placed_in_mode crtc x y mode fb = do
  m ← mode
  info ← fb
  Some (record { crtc = crtc; fb = info; dst = mode_area m; src = in_fixed x y (m.hdisplay, m.vdisplay) })

-- a part of a framebuffer
abbrev pub placed_part : ℕ → Rect → Rect → Option FbInfo → Option Placed
placed_part crtc dst src fb = option_map (λ info. record { crtc = crtc; fb = info; dst = dst; src = src }) fb

-- a whole framebuffer at a place
abbrev pub placed_whole : ℕ → ℤ → ℤ → Option FbInfo → Option Placed
placed_whole crtc x y fb = placed_part crtc (sized_at x y (fb_size fb)) (in_fixed 0 0 (fb_size fb)) fb

-- another framebuffer, and nothing else
abbrev pub flipped_to : Option FbInfo → Placed → Placed
flipped_to None p = p
flipped_to (Some info) p = record p { fb = info }

-- another place, and nothing else
abbrev pub moved_to : ℤ → ℤ → Placed → Placed
moved_to x y p = record p { dst = record p.dst { x = x; y = y } }

-- The screen after an accepted call, by the call's words and what its labels named before it. What is taken away from a plane
-- is taken wherever the plane is: `setcrtc` with `off` takes the CRTC's mode and connector, and what its primary plane has, also
-- where another CRTC shows that plane. A plane that is not there is not moved.
unfoldable pub screen_after : Topology → Option Mode → Option FbInfo → LegacyCall → Screen → Screen
screen_after t mode fb (call.SetCrtc crtc label x y mode_label conn) screen =
    at_plane (special_plane t primary crtc) (λ plane. with_placed plane (placed_in_mode crtc x y mode fb))
    (with_lit crtc (lit_in mode conn) screen)
screen_after t mode fb (call.CrtcOff crtc) screen =
    at_plane (special_plane t primary crtc) (λ plane. with_placed plane None) (with_lit crtc None screen)
screen_after t mode fb (call.SetPlane plane crtc label dst src) screen = with_placed plane (placed_part crtc dst src fb) screen
screen_after t mode fb (call.PlaneOff plane) screen = with_placed plane None screen
screen_after t mode fb (call.PageFlip crtc label event user) screen =
    at_plane (special_plane t primary crtc) (with_changed (flipped_to fb)) screen
screen_after t mode fb (call.Cursor crtc label x y) screen =
    at_plane (special_plane t cursor crtc) (λ plane. with_placed plane (placed_whole crtc x y fb)) screen
screen_after t mode fb (call.CursorMove crtc x y) screen =
    at_plane (special_plane t cursor crtc) (with_changed (moved_to x y)) screen
screen_after t mode fb (call.CursorOff crtc) screen =
    at_plane (special_plane t cursor crtc) (λ plane. with_placed plane None) screen

-- Pictures

-- the layer of what a plane has: clipped to the mode, opaque and Pre-multiplied
abbrev pub placed_layer : Mode → ℕ → Placed → Layer
placed_layer m plane p = record {
  plane = object_id Plane plane;
  fb = p.fb;
  dst = p.dst;
  src = p.src;
  visible = clip p.dst (mode_area m);
  alpha = 65535;
  blend = 0;
}

-- that of a plane that is on a CRTC
abbrev pub screen_layer : Screen → Mode → ℕ → ℕ → Option Layer
screen_layer screen m crtc plane = do
  p ← placed_at screen plane
  if p.crtc == crtc then Some (placed_layer m plane p) else None

abbrev pub lit_picture : Topology → Screen → ℕ → Option Lit → Picture
lit_picture t screen crtc None = Off
lit_picture t screen crtc (Some l) =
    On (record {
      mode = l.mode;
      conn = object_id Conn l.conn;
      gamma = None;
      layers = filter_map (screen_layer screen l.mode crtc) (indices_of t Plane);
    })

-- What the screen shows on a CRTC: nothing without a mode, else its planes from the lowest index to the highest.
unfoldable pub screen_picture : Topology → Screen → ℕ → Picture
screen_picture t screen crtc = lit_picture t screen crtc (lit_at screen crtc)

-- What a translation keeps

-- each CRTC of the device shows what the screen shows there
unfoldable pub ShowsScreen : Topology → World → Screen → Type 0
ShowsScreen t w screen = (crtc : ℕ) → crtc < t.crtcs → picture t w.things w.values (object_id Crtc crtc) ≡ screen_picture t screen crtc

-- the screen after a line, in the world before it: an accepted call changes it, and nothing else does
unfoldable pub screen_next : List (List ℕ) → List (List ℕ) → Topology → World → Bool → LegacyCommand → Screen → Screen
screen_next old new t w accepted (Plain c) screen = screen
screen_next old new t w false (Call c) screen = screen
screen_next old new t w true (Call c) screen =
    screen_after t (mode_of_call (look_anew old new w) c) (fb_of_call (look_anew old new w) c) c screen

-- before and after each line of the old script the device shows the screen, from a world and a screen on
abbrev pub ShowsAlong : List (List ℕ) → List (List ℕ) → Topology → World → Screen → List LegacyCommand → List Command → Type 0
ShowsAlong old new t w screen [] lines = ShowsScreen t w screen
ShowsAlong old new t w screen (c ∷ cs) lines =
    let next = after_line t w (meant old new t w c) lines in
    ShowsScreen t w screen × ShowsAlong old new t next.world (screen_next old new t w next.accepted c screen) cs next.lines

-- The translated script shows the screen of the script with older calls: after each command of the one, the device of one
-- thread shows on each CRTC, after what these commands left of the other, what the screen shows.
abbrev pub KeepsScreen : LegacyScript → Script → Type 0
KeepsScreen s out =
    ShowsAlong s.base.names out.names s.base.topology (start s.base.topology) blank_screen s.commands (lone_commands out.clients)

-- It does so for every script with older calls that bytes spell, and every script that says the same by requests.
abbrev pub ScreenIsKept : Type 0
ScreenIsKept = (s : LegacyScript) (out : Script) (bytes : List ℕ) → SpellsLegacy bytes s → IsTranslated s out → KeepsScreen s out
