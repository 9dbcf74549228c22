-- The script that is translated command by command shows the screen of the older calls, after each of them.
use Rattle.std.proofs.Common.{◌≡◌, ℕ, zero, suc, ◌+◌, ◌<◌, ◌≤◌, Bool, true, false, inl, inr, List, [], ◌∷◌, ◌++◌, codes, append-nil}
use Rattle.std.proofs.Common.{append_assoc, length, length-append, map, Option, Some, None, Ok, Err, refl, sym, ap, subst, ◌∙◌, arith}
use Rattle.std.specs.Prelude.{IfOk, Result, slice_get}
use Rattle.std.specs.List.{AllByRecursion, list_all}
use Rattle.std.specs.Str.{bytes_eq}
use Rattle.std.proofs.lemmas.Bool.{and_from, and_parts}
use Rattle.std.proofs.lemmas.List.{length-map}
use Rattle.kms_model.specs.declared.legacy.LegacyCall.{LegacyCall}
use Rattle.kms_model.specs.declared.legacy.LegacyCommand.{LegacyCommand}
use Rattle.kms_model.specs.declared.legacy.LegacyCommand.TheVariants.{Plain, Call}
use Rattle.kms_model.specs.declared.legacy.LegacyScript.{LegacyScript}
use Rattle.kms_model.specs.declared.objects.Kind.TheVariants.{Crtc, Plane, Conn}
use Rattle.kms_model.specs.declared.objects.PlaneInfo.{PlaneInfo}
use Rattle.kms_model.specs.declared.objects.Topology.{Topology}
use Rattle.kms_model.specs.declared.properties.TheConstants.{ACTIVE, ALPHA, BLEND, OUT_FENCE_PTR, ZPOS}
use Rattle.kms_model.specs.declared.replies.Reply.{Reply}
use Rattle.kms_model.specs.declared.replies.Reply.TheVariants as reply
use Rattle.kms_model.specs.declared.scripts.Assign.{Assign}
use Rattle.kms_model.specs.declared.scripts.Command.{Command}
use Rattle.kms_model.specs.declared.scripts.Command.TheVariants as command
use Rattle.kms_model.specs.declared.scripts.Request.{Request}
use Rattle.kms_model.specs.declared.scripts.Script.{Script}
use Rattle.kms_model.specs.declared.scripts.Value.{Value}
use Rattle.kms_model.specs.declared.scripts.Value.TheVariants as value
use Rattle.kms_model.specs.declared.worlds.Setting.{Setting}
use Rattle.kms_model.specs.declared.worlds.World.{World}
use Rattle.kms_model.specs.Device.Execution.{Executed, commit, execute, make_out_fence, make_out_fences}
use Rattle.kms_model.specs.Device.Objects.{ids_of, object_id}
use Rattle.kms_model.specs.Device.Serial.{is_accepted}
use Rattle.kms_model.specs.Device.Sound.{IsDevice, IsLawful}
use Rattle.kms_model.specs.Device.States.{crtc_at, gamma_at, mode_at, natural, plane_at}
use Rattle.kms_model.specs.Device.World.{start, value}
use Rattle.kms_model.specs.Legacy.LegacyCalls.{call_may_stand}
use Rattle.kms_model.specs.Legacy.Screen.{KeepsScreen, Lit, Screen, ShowsAlong, ShowsScreen, blank_screen, lit_at, screen_after}
use Rattle.kms_model.specs.Legacy.Screen.{screen_next}
use Rattle.kms_model.specs.Legacy.Translated.{after_line, fb_of_call, look_anew, lone_commands, meant, mode_of_call, renumbered, translated}
use Rattle.kms_model.specs.Legacy.Translation.{present_in}
use Rattle.kms_model.specs.Machine.Registers.{read}
use Rattle.kms_model.specs.Request.Flags.{is_test}
use Rattle.kms_model.specs.Request.Lookups.{look_up}
use Rattle.kms_model.specs.Request.Touched.{last_value, new_label, out_fence_label, value_if}
use Rattle.kms_model.specs.Request.Verdict.{verdict}
use Rattle.kms_model.specs.Script.CommandLines.{Name, Names, command_read, unmade, words_in}
use Rattle.kms_model.specs.Script.WellFormed.{is_command_in}
use Rattle.kms_model.specs.Script.WholeInput.{clients_of}
use Rattle.kms_model.specs.Script.Words.{until}
use Rattle.kms_model.proofs.Facts.{or_else-some}
use Rattle.kms_model.proofs.Items.{ids-has}
use Rattle.kms_model.proofs.SeenLemmas.{gamma-seen, mode-seen, plane-seen}
use Rattle.kms_model.proofs.SoundKept.{execution_keeps_lawful}
use Rattle.kms_model.proofs.SoundStart.{start-crtc, start-zero, start_is_lawful}
use Rattle.kms_model.proofs.StartValues.{plane_value}
use Rattle.kms_words.specs.Named.{HeldNames}
use Rattle.kms_script.specs.ReadAnew.{IsLineOf, RequestsAreReadBack, makes_nothing, renamed, renamed_assign, renamed_value}
use Rattle.kms_script.proofs.NamesBegin.{Begins}
use Rattle.kms_script.proofs.ProfileStays.{command_stays}
use Rattle.kms_script.proofs.SpeltCommands.{command_spelt, names_begin}
use Rattle.kms_serial.proofs.Executing.{IsSeenAfter, seen_executed}
use Rattle.kms_serial.specs.Device.{Device}
use Rattle.kms_things.specs.Commands.{IsNoRequest}
use Rattle.kms_legacy.specs.declared.script.Going.{Going}
use Rattle.kms_legacy.specs.Translating.{ArePassed, IsAtStart, IsLeft, IsSaidAnew, IsWellFormedLegacy, said_names, script_of}
use Rattle.kms_legacy.proofs.CallsRead.{call_is}
use Rattle.kms_legacy.proofs.LabelsBelow.{AreBelow, below_wider}
use Rattle.kms_legacy.proofs.LegacyWalk.{AreRead, IsReadLine, begins_of, legacy_walk, line_kind}
use Rattle.kms_legacy.proofs.LinesAnew.{command_of_both, no_atomic, own_names, text_same}
use Rattle.kms_legacy.proofs.LinesLed.{SaysAll, before_said, fb_same, leads, look_same, meant_same, mode_same, says_all}
use Rattle.kms_legacy.proofs.NewText.{after_of_both, call_quiet, plain_meant}
use Rattle.kms_legacy.proofs.PlaneCalls.{IsThere, changed}
use Rattle.kms_legacy.proofs.ScreenCalls.{call_kept, call_with, is_renumbered, not_tested, request_with, screen_with}
use Rattle.kms_legacy.proofs.ScreenShown.{IsLit, IsScreenOf, shows}
use Rattle.kms_legacy.proofs.WholeScripts.{starts_said}

-- Before the first command

info_at : (infos : List PlaneInfo) (i : ℕ) → i < length infos → IsThere (slice_get infos i)
info_at [] i lt = absurd (omega (arith, lt))
info_at (x ∷ xs) zero lt = record { value = x; is = refl }
info_at (x ∷ xs) (suc i) lt = let r = info_at xs i (omega (arith, lt)) in record { value = r.value; is = r.is }

start_screen : (t : Topology) → IsDevice t → IsScreenOf t blank_screen (start t)
unfolding read
start_screen t device = record {
  plain = λ plane lt.
      let info = info_at t.planes plane lt in
      record {
        alpha = ap natural (plane_value t plane ALPHA info.value device info.is refl);
        blend = ap natural (plane_value t plane BLEND info.value device info.is refl);
        zpos = ap natural (plane_value t plane ZPOS info.value device info.is refl);
      };
  placed = λ plane lt. start-crtc t (object_id Plane plane) device;
  lit = λ crtc lt. start-zero t (object_id Crtc crtc) ACTIVE device refl;
  gamma = λ crtc lt. refl;
}

-- Commands that change nothing that is shown

lit_seen : (t : Topology) (w after : World) (crtc : ℕ) (o : Option Lit) → crtc < t.crtcs → IsSeenAfter t w after → IsLit t w crtc o
    → IsLit t after crtc o
lit_seen t w after crtc None lt seen dark = ap (λ (v : List Setting). value v (object_id Crtc crtc) ACTIVE) seen.values ∙ dark
lit_seen t w after crtc (Some l) lt seen has = record {
  active = ap (λ (v : List Setting). value v (object_id Crtc crtc) ACTIVE) seen.values ∙ has.active;
  mode = ap (λ (v : List Setting). mode_at after.things v (object_id Crtc crtc)) seen.values
      ∙ (sym (mode-seen t w.things after.things w.values (object_id Crtc crtc) seen.alike (ids-has t Crtc crtc lt)) ∙ has.mode);
  there = has.there;
  on = ap (λ (v : List Setting). crtc_at v (object_id Conn l.conn)) seen.values ∙ has.on;
}

screen_seen : (t : Topology) (screen : Screen) (w after : World) → IsScreenOf t screen w → IsSeenAfter t w after → IsScreenOf t screen after
screen_seen t screen w after is seen =
    let plane = λ (p : ℕ) (lt : p < length t.planes). ap (λ (v : List Setting). plane_at after.things v (object_id Plane p)) seen.values
    ∙ sym (plane-seen t w.things after.things w.values (object_id Plane p) seen.alike (ids-has t Plane p lt)) in
    record {
      plain = λ p lt. rw (plane p lt) (is.plain p lt);
      placed = λ p lt. rw (plane p lt) (is.placed p lt);
      lit = λ crtc lt. lit_seen t w after crtc (lit_at screen crtc) lt seen (is.lit crtc lt);
      gamma = λ crtc lt. ap (λ (v : List Setting). gamma_at after.things v (object_id Crtc crtc)) seen.values
          ∙ (sym (gamma-seen t w.things after.things w.values (object_id Crtc crtc) seen.alike (ids-has t Crtc crtc lt))
          ∙ is.gamma crtc lt);
    }

-- Requests that make no fence

set_nothing : (t : Bool) (v found : Value) → value_if t v ≡ Some found → makes_nothing v ≡ true → makes_nothing found ≡ true
set_nothing true v found is holds = let same : v ≡ found = cc in subst (λ x. makes_nothing x ≡ true) same holds
set_nothing false v found is holds = absurd cc

last_nothing : (assigns : List Assign) (object prop : ℕ) (v : Value) → list_all (λ a. makes_nothing a.value) assigns ≡ true
    → last_value assigns object prop ≡ Some v → makes_nothing v ≡ true
last_nothing [] object prop v none e = absurd cc
last_nothing (a ∷ more) object prop v none e =
    let both = and_parts (makes_nothing a.value) (list_all (λ b. makes_nothing b.value) more) none in
    elim (or_else-some (last_value more object prop) _ v e) [
      | inl later ↦ last_nothing more object prop v both.1 later
      | inr here ↦ set_nothing _ a.value v here both.0
    ]

no_label : (o : Option Value) → ((v : Value) → o ≡ Some v → makes_nothing v ≡ true) → new_label o ≡ None
no_label (Some (value.New label)) none = absurd (let clash : false ≡ true = none (value.New label) refl in cc)
no_label (Some (value.Num z)) none = refl
no_label (Some (value.Named label)) none = refl
no_label (Some (value.Crtc index)) none = refl
no_label None none = refl

no_fences : (client : ℕ) (assigns : List Assign) (w : World) (crtcs : List ℕ) → list_all (λ a. makes_nothing a.value) assigns ≡ true
    → make_out_fences client assigns w crtcs ≡ w
no_fences client assigns w [] none = refl
no_fences client assigns w (crtc ∷ crtcs) none =
    let label : out_fence_label assigns crtc ≡ None =
    no_label (last_value assigns crtc OUT_FENCE_PTR) (λ v e. last_nothing assigns crtc OUT_FENCE_PTR v none e) in
    ap (λ (o : Option ℕ). make_out_fences client assigns (make_out_fence client w o) crtcs) label ∙ no_fences client assigns w crtcs none

nothing_same : (f : ℕ → ℕ) (v : Value) → makes_nothing (renamed_value f v) ≡ makes_nothing v
nothing_same f (value.Num z) = refl
nothing_same f (value.Named label) = refl
nothing_same f (value.New label) = refl
nothing_same f (value.Crtc index) = refl

renamed_nothing : (f : ℕ → ℕ) (assigns : List Assign) → list_all (λ a. makes_nothing a.value) assigns ≡ true
    → list_all (λ a. makes_nothing a.value) (map (renamed_assign f) assigns) ≡ true
renamed_nothing f [] none = refl
renamed_nothing f (a ∷ more) none =
    let both = and_parts (makes_nothing a.value) (list_all (λ b. makes_nothing b.value) more) none in
    and_from (makes_nothing (renamed_value f a.value)) (list_all (λ b. makes_nothing b.value) (map (renamed_assign f) more))
    (nothing_same f a.value ∙ both.0) (renamed_nothing f more both.1)

-- The request of a call

abbrev executed : World → Reply → Executed
executed w r = record { world = w; reply = r }

-- an accepted one is committed
accepted_as : (t : Topology) (w : World) (q : Request) → is_test q.flags ≡ false → list_all (λ a. makes_nothing a.value) q.assigns ≡ true
    → commit t w 1 q None ≡ executed (changed w q.assigns (w.commits + 1)) (reply.Commit w.commits)
accepted_as t w q tests none =
    rw tests (ap (λ (v : World). executed v (reply.Commit w.commits))
    (no_fences 1 q.assigns (changed w q.assigns (w.commits + 1)) (ids_of t Crtc) none))

-- the screen that stands after an answer
abbrev IsAfter : List (List ℕ) → List (List ℕ) → Topology → World → LegacyCall → Screen → Executed → Type 0
IsAfter old all t w k screen e = IsScreenOf t (screen_next old all t w (is_accepted e.reply) (Call k) screen) e.world

request_after : (old all : List (List ℕ)) (t : Topology) (w : World) (k : LegacyCall) (screen : Screen) (q : Request) (o : Option ℕ)
    → is_test q.flags ≡ false → list_all (λ a. makes_nothing a.value) q.assigns ≡ true → IsScreenOf t screen w
    → (o ≡ None → IsScreenOf t (screen_after t (mode_of_call (look_anew old all w) k) (fb_of_call (look_anew old all w) k) k screen)
    (changed w q.assigns (w.commits + 1))) → IsAfter old all t w k screen (commit t w 1 q o)
unfolding screen_next
request_after old all t w k screen q None tests none is kept =
    subst (IsAfter old all t w k screen) (sym (accepted_as t w q tests none)) (kept refl)
request_after old all t w k screen q (Some n) tests none is kept = is

-- One line

-- a line of the old script that changes nothing that is shown, or a call that may stand
abbrev IsShownLine : List (List ℕ) → Topology → LegacyCommand → Type 0
IsShownLine old t (Plain c) = (text : List ℕ) → IsLineOf old c text → bytes_eq (until 32 text) (codes "atomic") ≡ false
IsShownLine old t (Call k) = call_may_stand t k ≡ true

-- a line that is no request
no_request : (names after : Names) (text : List ℕ) (c : Command) → bytes_eq (until 32 text) (codes "atomic") ≡ false
    → command_read names text ≡ Some (c, after) → IsNoRequest c
no_request names after text (command.Buffer label width height format pattern) other read = tt
no_request names after text (command.AddFb label buffer) other read = tt
no_request names after text (command.Mode label m) other read = tt
no_request names after text (command.Blob label bytes) other read = tt
no_request names after text (command.Destroy label) other read = tt
no_request names after text (command.CloseFb label) other read = tt
no_request names after text (command.Fence label) other read = tt
no_request names after text (command.Signal label) other read = tt
no_request names after text (command.Atomic r) other read = absurd (no_atomic names after text r other read)
no_request names after text command.Wait other read = tt

-- the names of a line are a front of those after it
names_grow : (before after : Names) (text : List ℕ) (c : Command) → command_read before text ≡ Some (c, after)
    → length before.all ≤ length after.all
names_grow before after text c read =
    let front = names_begin (words_in after) before after text c read (own_names after) in
    omega (
      arith,
      ap length front.whole,
      length-append (words_in before) front.more,
      length-map before.all
          (λ (n : Name). n.word),
      length-map after.all (λ (n : Name). n.word),
    )

-- the command that is read of a call's request
called_as : (back : RequestsAreReadBack) (old : List (List ℕ)) (profile : ℕ) (r : Request) (before after : Names) (text : List ℕ)
    (c : Command) → before.profile ≡ profile → is_command_in profile old (command.Atomic r) ≡ true
    → IsLineOf old (command.Atomic r) text → command_read before text ≡ Some (c, after)
    → list_all (λ a. makes_nothing a.value) r.assigns ≡ true → c ≡ command.Atomic (renamed (renumbered old (words_in after)) r)
called_as back old profile r before after text c of spelt line read none =
    let own : is_command_in before.profile old (command.Atomic r) ≡ true =
    subst (λ p. is_command_in p old (command.Atomic r) ≡ true) (sym of) spelt in
    let rb = back before old r text (record { spelt = own; nothing = none }) line in
    let names : rb.after ≡ after =
    after_of_both (command.Atomic (renamed (renumbered old (words_in rb.after)) r)) c rb.after after (sym rb.read ∙ read) in
    command_of_both c (command.Atomic (renamed (renumbered old (words_in rb.after)) r)) after rb.after (sym read ∙ rb.read)
    ∙ ap (λ (n : Names). command.Atomic (renamed (renumbered old (words_in n)) r)) names

plain_step : (old all : List (List ℕ)) (t : Topology) (k d : Command) (a m : Going) (screen : Screen) (said : IsSaidAnew old t d a m)
    → IsShownLine old t (Plain k) → meant old all t a.serial.world (Plain k) ≡ Some d → IsLawful t a.serial.world
    → IsScreenOf t screen a.serial.world → IsScreenOf t screen (execute t a.serial.world 1 said.command).world
plain_step old all t k d a m screen said shown left lawful is =
    let same : k ≡ d = plain_meant old all t a.serial.world k d left in
    let line : IsLineOf old k said.text = subst (λ (x : Command). IsLineOf old x said.text) (sym same) said.is_line in
    let other : IsNoRequest said.command =
    no_request (said_names a) (said_names m) said.text said.command (shown said.text line) said.read in
    screen_seen t screen a.serial.world (execute t a.serial.world 1 said.command).world is
    (seen_executed t a.serial.world 1 said.command lawful other)

call_step : (back : RequestsAreReadBack) (old all : List (List ℕ)) (t : Topology) (k : LegacyCall) (d : Command) (a m : Going)
    (screen : Screen) (said : IsSaidAnew old t d a m) → IsDevice t → call_may_stand t k ≡ true
    → meant old all t a.serial.world (Call k) ≡ Some d → SaysAll a → (said_names a).profile ≡ t.profile → Begins (said_names m) all
    → IsLawful t a.serial.world → IsScreenOf t screen a.serial.world
    → IsAfter old all t a.serial.world k screen (execute t a.serial.world 1 said.command)
unfolding execute translated
call_step back old all t k d a m screen said device stands left says of begins lawful is =
    let w : World = a.serial.world in
    let asked = call_quiet old all t a.serial.world k d left in
    let f : ℕ → ℕ = renumbered old (words_in (said_names m)) in
    let q : Request = renamed (renumbered old (words_in (said_names m))) asked.request in
    let spelt : is_command_in t.profile old (command.Atomic asked.request) ≡ true =
    subst (λ (x : Command). is_command_in t.profile old x ≡ true) asked.is said.spelt in
    let line : IsLineOf old (command.Atomic asked.request) said.text =
    subst (λ (x : Command). IsLineOf old x said.text) asked.is said.is_line in
    let c : said.command ≡ command.Atomic (renamed (renumbered old (words_in (said_names m))) asked.request) =
    called_as back old t.profile asked.request (said_names a) (said_names m) said.text said.command of spelt line said.read asked.quiet in
    let below : AreBelow (length (said_names m).all) a.serial.world.things =
    below_wider (length (said_names a).all) (length (said_names m).all) a.serial.world.things
    (names_grow (said_names a) (said_names m) said.text said.command said.read) says in
    let looks = λ (label : ℕ). sym (look_same old all (said_names m) a.serial.world below begins label) in
    let renumbering = is_renumbered (renumbered old (words_in (said_names m))) t (look_up a.serial.world) k in
    let of_mode = mode_same (look_anew old all a.serial.world) (look_anew old (words_in (said_names m)) a.serial.world) k looks
    ∙ renumbering.mode in
    let of_fb = fb_same (look_anew old all a.serial.world) (look_anew old (words_in (said_names m)) a.serial.world) k looks
    ∙ renumbering.fb in
    let tests : is_test asked.request.flags ≡ false =
    not_tested t (present_in w) (mode_of_call (look_anew old all w) k) (fb_of_call (look_anew old all w) k) k asked.request asked.asked in
    subst (λ (x : Command). IsAfter old all t a.serial.world k screen (execute t a.serial.world 1 x)) (sym c)
    (request_after old all t a.serial.world k screen (renamed (renumbered old (words_in (said_names m))) asked.request)
    (verdict t a.serial.world (renamed (renumbered old (words_in (said_names m))) asked.request)) tests
    (renamed_nothing (renumbered old (words_in (said_names m))) asked.request.assigns asked.quiet) is (λ none.
    subst (λ (s : Screen). IsScreenOf t s (changed w q.assigns (w.commits + 1)))
    (screen_with f t (mode_of_call (look_anew old all w) k) (fb_of_call (look_anew old all w) k) k screen)
    (call_kept t w screen (w.commits + 1) (mode_of_call (look_anew old all w) k) (fb_of_call (look_anew old all w) k)
    (call_with f k) q device lawful is (renumbering.stands ∙ stands) of_mode of_fb none
    (request_with f t (present_in w) (mode_of_call (look_anew old all w) k)
    (fb_of_call (look_anew old all w) k) k asked.request asked.asked))))

step_screen : (back : RequestsAreReadBack) (old all : List (List ℕ)) (t : Topology) (c : LegacyCommand) (d : Command) (a m : Going)
    (screen : Screen) (said : IsSaidAnew old t d a m) → IsDevice t → IsShownLine old t c
    → meant old all t a.serial.world c ≡ Some d → SaysAll a → (said_names a).profile ≡ t.profile → Begins (said_names m) all
    → IsLawful t a.serial.world → IsScreenOf t screen a.serial.world
    → IsScreenOf t (screen_next old all t a.serial.world (is_accepted (execute t a.serial.world 1 said.command).reply) c screen)
    (execute t a.serial.world 1 said.command).world
unfolding screen_next
step_screen back old all t (Plain k) d a m screen said device shown left says of begins lawful is =
    plain_step old all t k d a m screen said shown left lawful is
step_screen back old all t (Call k) d a m screen said device shown left says of begins lawful is =
    call_step back old all t k d a m screen said device shown left says of begins lawful is

-- a line that leaves nothing changes no screen
screen_none : (old all : List (List ℕ)) (t : Topology) (w : World) (c : LegacyCommand) (screen : Screen)
    → screen_next old all t w false c screen ≡ screen
unfolding screen_next
screen_none old all t w (Plain c) screen = refl
screen_none old all t w (Call k) screen = refl

-- All lines

-- The lines that were added show the screen along these commands.
pub record ShownOn (old all : List (List ℕ)) (t : Topology) (cs : List LegacyCommand) (a b : Going) (screen : Screen) : Type 0 where
  pub extra : List Command
  pub lines : b.lines ≡ a.lines ++ extra
  pub shown : ShowsAlong old all t a.serial.world screen cs extra

-- what follows on a line of the old script, by what it left
abbrev FollowsOn : List (List ℕ) → List (List ℕ) → Topology → World → Screen → LegacyCommand → List LegacyCommand → List Command
    → Option Command → Type 0
FollowsOn old all t w screen c cs lines left =
    ShowsScreen t w screen × ShowsAlong old all t (after_line t w left lines).world
    (screen_next old all t w (after_line t w left lines).accepted c screen) cs (after_line t w left lines).lines

-- commands show the screen from anywhere on
abbrev GoOn : List (List ℕ) → List (List ℕ) → Topology → List LegacyCommand → Going → Type 0
GoOn old all t cs b =
    (g : Going) (s : Screen) → ArePassed old t cs g b → SaysAll g → (said_names g).profile ≡ t.profile → IsLawful t g.serial.world
    → IsScreenOf t s g.serial.world → ShownOn old all t cs g b s

one_on : (back : RequestsAreReadBack) (old all : List (List ℕ)) (t : Topology) (c : LegacyCommand) (cs : List LegacyCommand) (a m b : Going)
    (screen : Screen) (o : Option Command) → IsDevice t → IsShownLine old t c
    → meant old (words_in (said_names a)) t a.serial.world c ≡ o → IsLeft old t o a m → ArePassed old t cs m b → SaysAll a
    → (said_names a).profile ≡ t.profile → Begins (said_names b) all → IsLawful t a.serial.world
    → IsScreenOf t screen a.serial.world → GoOn old all t cs b → ShownOn old all t (c ∷ cs) a b screen
one_on back old all t c cs a m b screen None device shown none same rest says of begins lawful is later =
    let own : ArePassed old t cs a b = subst (λ (g : Going). ArePassed old t cs g b) same rest in
    let before = (leads old all t cs a b own says begins).begins in
    let left : meant old all t a.serial.world c ≡ None = sym (meant_same old all t (said_names a) a.serial.world c says before) ∙ none in
    let l = later a screen own says of lawful is in
    record {
      extra = l.extra;
      lines = l.lines;
      shown = subst (FollowsOn old all t a.serial.world screen c cs l.extra) (sym left) (
        shows t screen a.serial.world lawful.sound is,
        subst (λ (s : Screen). ShowsAlong old all t a.serial.world s cs l.extra)
            (sym (screen_none old all t a.serial.world c screen)) l.shown,
      );
    }
one_on back old all t c cs a m b screen (Some d) device shown some said rest says of begins lawful is later =
    let says_m = says_all old t d a m said says in
    let begins_m = (leads old all t cs m b rest says_m begins).begins in
    let before = before_said old all t d a m said begins_m in
    let left : meant old all t a.serial.world c ≡ Some d = sym (meant_same old all t (said_names a) a.serial.world c says before) ∙ some in
    let next : Screen = screen_next old all t a.serial.world (is_accepted (execute t a.serial.world 1 said.command).reply) c screen in
    let stays = step_screen back old all t c d a m screen said device shown left says of begins_m lawful is in
    let l = later m (screen_next old all t a.serial.world (is_accepted (execute t a.serial.world 1 said.command).reply) c screen) rest
    says_m
    (command_stays (said_names a) said.text (said.command, said_names m) said.read ∙ of)
    (subst (IsLawful t) (sym said.world) (execution_keeps_lawful t a.serial.world 1 said.command lawful))
    (subst (IsScreenOf t next) (sym said.world) stays) in
    record {
      extra = said.command ∷ l.extra;
      lines = l.lines ∙ (ap (λ (ds : List Command). ds ++ l.extra) said.lines ∙ append_assoc a.lines (said.command ∷ []) l.extra);
      shown = subst (FollowsOn old all t a.serial.world screen c cs (said.command ∷ l.extra)) (sym left)
          (shows t screen a.serial.world lawful.sound is, subst (λ (v : World). ShowsAlong old all t v next cs l.extra) said.world l.shown);
    }

shows_lines : (back : RequestsAreReadBack) (old all : List (List ℕ)) (t : Topology) (cs : List LegacyCommand) (a b : Going)
    (screen : Screen) → IsDevice t → AllByRecursion (IsShownLine old t) cs → ArePassed old t cs a b → SaysAll a
    → (said_names a).profile ≡ t.profile → Begins (said_names b) all → IsLawful t a.serial.world → IsScreenOf t screen a.serial.world
    → ShownOn old all t cs a b screen
shows_lines back old all t [] a b screen device stand same says of begins lawful is = record {
  extra = [];
  lines = ap (λ (g : Going). g.lines) same ∙ sym (append-nil a.lines);
  shown = shows t screen a.serial.world lawful.sound is;
}
shows_lines back old all t (c ∷ cs) a b screen device stand passed says of begins lawful is =
    one_on back old all t c cs a passed.0 b screen
    (meant old (words_in (said_names a)) t a.serial.world c) device stand.0 refl passed.1.0 passed.1.1 says of begins lawful is
    (λ g s rest all_said profile sound shown. shows_lines back old all t cs g b s device stand.1 rest all_said profile begins sound shown)

-- The script

line_shown : (t : Topology) (old : List (List ℕ)) (c : LegacyCommand) (names after : Names) (l : IsReadLine t names c after)
    → Begins after old → IsShownLine old t c
line_shown t old c names after l begun = elim (line_kind t names l.text c after l.read) [
  | inl called ↦ subst (IsShownLine old t) (sym called.is) (call_is t names l.text called.call after called.read).stands
  | inr other ↦ subst (IsShownLine old t) (sym other.is) (λ text is.
      ap (λ (xs : List ℕ). bytes_eq (until 32 xs) (codes "atomic"))
      (text_same old other.command text l.text is (sym (command_spelt old names after l.text other.command other.read begun)))
      ∙ other.other)
]

lines_shown : (t : Topology) (old : List (List ℕ)) (cs : List LegacyCommand) (names last : Names) → AreRead t names cs last
    → Begins last old → AllByRecursion (IsShownLine old t) cs
lines_shown t old [] names last are begun = tt
lines_shown t old (c ∷ cs) names last are begun =
    (line_shown t old c names are.0 are.1.0 (begins_of t old cs are.0 last are.1.1 begun), lines_shown t old cs are.0 last are.1.1 begun)

lone_shown : (has : Bool) (old all : List (List ℕ)) (t : Topology) (w : World) (screen : Screen) (cs : List LegacyCommand)
    (lines : List Command) → (has ≡ false → cs ≡ []) → ShowsAlong old all t w screen cs lines
    → ShowsAlong old all t w screen cs (lone_commands (clients_of has lines))
lone_shown true old all t w screen cs lines none shown = shown
lone_shown false old all t w screen cs lines none shown =
    subst (λ (xs : List LegacyCommand). ShowsAlong old all t w screen xs []) (sym (none refl))
    (subst (λ (xs : List LegacyCommand). ShowsAlong old all t w screen xs lines) (none refl) shown)

pub keeps_screen : (back : RequestsAreReadBack) (s : LegacyScript) (first last : Going) → IsWellFormedLegacy s
    → IsAtStart s.base.topology first → ArePassed s.base.names s.base.topology s.commands first last → KeepsScreen s (script_of s last)
keeps_screen back s first last spelt at passed =
    let t : Topology = s.base.topology in
    let walk = legacy_walk spelt.bytes s spelt.spells in
    let begun : Begins walk.last s.base.names = record { more = []; whole = walk.words ∙ sym (append-nil (words_in walk.last)) } in
    let all : List (List ℕ) = words_in (said_names last) in
    let world : first.serial.world ≡ start s.base.topology = ap (λ (d : Device). d.world) at.device in
    let l = shows_lines back s.base.names (words_in (said_names last)) s.base.topology s.commands first last blank_screen spelt.device
    (lines_shown s.base.topology s.base.names s.commands (unmade s.base.topology.profile []) walk.last walk.are begun) passed
    (starts_said s.base.topology first at) (ap (λ (h : HeldNames). h.names.profile) at.blank) (own_names (said_names last))
    (subst (IsLawful t) (sym world) (start_is_lawful t spelt.device))
    (subst (IsScreenOf t blank_screen) (sym world) (start_screen t spelt.device)) in
    let lines : last.lines ≡ l.extra = l.lines ∙ ap (λ (ds : List Command). ds ++ l.extra) at.lines in
    let shown : ShowsAlong s.base.names all t (start t) blank_screen s.commands last.lines =
    subst (λ (v : World). ShowsAlong s.base.names all t v blank_screen s.commands last.lines) world
    (subst (λ (ds : List Command). ShowsAlong s.base.names all t first.serial.world blank_screen s.commands ds) (sym lines) l.shown) in
    lone_shown s.client s.base.names all t (start t) blank_screen s.commands last.lines walk.none shown

pub whole_shown : {E : Type 0} (s : LegacyScript) (g : Going) (r : Result Script E) → KeepsScreen s (script_of s g)
    → IfOk r (λ out. out ≡ script_of s g) → IfOk r (KeepsScreen s)
whole_shown s g (Ok out) keeps same = subst (KeepsScreen s) (sym same) keeps
whole_shown s g (Err e) keeps same = tt
