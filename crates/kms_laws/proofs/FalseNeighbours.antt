-- Why the rules are as they are: neighbours of the laws that are false, each shown by a history, computed.
use Rattle.std.proofs.Common.{◌≡◌, ℕ, List, [], ◌∷◌, ◌++◌, map, length, Bool, true, false, ◌&&◌, ◌||◌, not, ◌==◌, Option, Some, None, refl}
use Rattle.std.proofs.Common.{codes}
use Rattle.std.specs.Prelude.{if◌then◌else◌, nat_lt, Ok, Err, Result}
use Rattle.std.specs.List.{list_all}
use Rattle.std.specs.Option.{option_map}
use Rattle.kms_model.specs.declared.objects.Kind.TheVariants.{Crtc, Plane, Conn}
use Rattle.kms_model.specs.declared.objects.Topology.{Topology}
use Rattle.kms_model.specs.declared.pictures.Picture.{Picture}
use Rattle.kms_model.specs.declared.pictures.Picture.TheVariants.{Off, On}
use Rattle.kms_model.specs.declared.replies.Step.{Step}
use Rattle.kms_model.specs.declared.replies.Step.TheVariants.{BackOff, Claim, Lock, Make, Swap}
use Rattle.kms_model.specs.declared.scripts.Command.TheVariants as command
use Rattle.kms_model.specs.declared.scripts.Part.TheVariants as part
use Rattle.kms_model.specs.declared.scripts.Request.{Request}
use Rattle.kms_model.specs.declared.scripts.Script.{Script}
use Rattle.kms_model.specs.declared.worlds.Thing.{Thing}
use Rattle.kms_model.specs.declared.replies.TheConstants.Refusal.{SWITCHES_CRTC}
use Rattle.kms_model.specs.Device.Objects.{ids_of, object_id}
use Rattle.kms_model.specs.Device.Serial.{show}
use Rattle.kms_model.specs.Device.World.{thing_labelled}
use Rattle.kms_model.specs.Machine.Commits.{commit_touches, has_number, is_claimed, waited_fences}
use Rattle.kms_model.specs.Machine.Effects.{backed_off, next, now_doing}
use Rattle.kms_model.specs.Machine.Histories.{at, is_history, journal, last_latched, latched}
use Rattle.kms_model.specs.Machine.Registers.{decoded_picture}
use Rattle.kms_model.specs.Machine.State.{Machine, doing_at, first_machine, holder_at, holds}
use Rattle.kms_model.specs.Machine.Steps.{holds_touched, is_lockable, is_ready, is_refused_late, is_settled_for, may, may_lock, taking_at}
use Rattle.kms_model.specs.Machine.Steps.{ticket_of}
use Rattle.kms_model.specs.Machine.Waits.{waits_at_lock, waits_at_relock}
use Rattle.kms_model.specs.Request.Flags.{is_test}
use Rattle.kms_model.specs.Request.Reach.{reaches}
use Rattle.kms_model.specs.Request.Verdict.{verdict}
use Rattle.kms_model.specs.Script.InputLines.{Fault}
use Rattle.kms_model.specs.Script.Schedules.{Parts, input_of}
use Rattle.kms_model.proofs.OnMachines.{on_machines}
use Rattle.kms_model.proofs.Rows.{device, head, head_of_two, made}

-- what is told of a script and the steps that a text spells
abbrev told_of : {A : Type 0} → (Script → List Step → A) → A → Result Parts Fault → A
told_of f none (Err fault) = none
told_of f none (Ok parts) = f parts.script parts.steps

abbrev told : {A : Type 0} → (Script → List Step → A) → A → List ℕ → A
told f none bytes = told_of f none (input_of part.Schedule bytes)

-- each step passes another rule
pub keep : (Script → Machine → Step → Bool) → Script → Machine → List Step → Bool
keep rule s m [] = true
keep rule s m (step ∷ steps) = rule s m step && keep rule s (next s m step) steps

abbrev layers : Picture → ℕ
layers Off = 0
layers (On shown) = length shown.layers

-- two CRTCs and a plane that may go on both: both are lit, with the plane on the first
abbrev two_crtcs : List ℕ
two_crtcs = head_of_two ++ made ++ codes "atomic 0x400 0 crtc0.ACTIVE=1 crtc0.MODE_ID=@m conn0.CRTC_ID=crtc0 plane0.FB_ID=@f plane0.CRTC_ID=crtc0 plane0.CRTC_W=1 plane0.CRTC_H=1 plane0.SRC_W=65536 plane0.SRC_H=65536 crtc1.ACTIVE=1 crtc1.MODE_ID=@m conn1.CRTC_ID=crtc1\n"

abbrev both_lit : List ℕ
both_lit = codes "schedule\nT make 1\nT make 1\nT make 1\nT begin 1\nT lock 1 crtc0\nT lock 1 crtc1\nT lock 1 plane0\nT lock 1 conn0\nT lock 1 conn1\nT swap 1\nT claim 0\nT write 0 crtc0\nT write 0 crtc1\nT write 0 plane0\nT flush 0 crtc0\nT flush 0 crtc1\nT hwdone 0\nT vblank crtc0\nT vblank crtc1\nT cleanup 0\nT return 1\n"

-- A claim that looks at CRTCs alone

-- it is legal as soon as the commits before have settled for the CRTCs that it touches, whatever they do with its planes
pub may_claim_by_crtcs : Topology → Machine → ℕ → Bool
may_claim_by_crtcs t m k =
    nat_lt k (length m.device.commits)
    && (not (is_claimed m.device k)
    && (list_all (has_number m.device.signalled) (waited_fences t m.device.commits k)
    && list_all (λ object. not (commit_touches t m.device.commits k object) || is_settled_for t m k object) (ids_of t Crtc)))

pub by_crtcs : Script → Machine → Step → Bool
by_crtcs s m (Claim k) = may_claim_by_crtcs s.topology m k
by_crtcs s m step = may s m step

-- One commit takes the plane off the first CRTC, and another puts it on the second. The second is claimed and written before the
-- first is: the first commit's words for the plane come last.
abbrev overtaken : List ℕ
overtaken = two_crtcs ++ codes "atomic 0x200 0 plane0.FB_ID=0 plane0.CRTC_ID=0\nclient\natomic 0x0 0 plane0.FB_ID=@f plane0.CRTC_ID=crtc1\n" ++ both_lit ++ codes "T begin 1\nT lock 1 plane0\nT lock 1 crtc0\nT swap 1\nT begin 2\nT lock 2 plane0\nT lock 2 crtc1\nT swap 2\nT claim 2\nT write 2 crtc1\nT write 2 plane0\nT claim 1\nT write 1 crtc0\nT write 1 plane0\nT flush 2 crtc1\nT vblank crtc1\n"

-- the steps are legal by that rule
pub claims_by_crtcs_are_legal : told (λ s h. keep by_crtcs s (first_machine s.topology) h) false overtaken ≡ true
unfolding on_machines keep by_crtcs may_claim_by_crtcs
claims_by_crtcs_are_legal = refl

-- The second CRTC latches no layer for the commit that puts the plane on it, where the device of one thread shows one.
pub claims_by_crtcs_latch_another_picture : told (λ s h. map (λ l. layers l.picture) (latched (at s h) 1)) [] overtaken ≡ 0 ∷ 0 ∷ []
unfolding on_machines
claims_by_crtcs_latch_another_picture = refl

pub one_thread_shows_the_plane : told (λ s h. map (λ p. layers p.picture) (show s (journal (at s h)) (object_id Crtc 1))) [] overtaken ≡ 0
    ∷ 1 ∷ []
unfolding on_machines
one_thread_shows_the_plane = refl

-- A plane that moves from one CRTC straight to another

pub straight : Option ℕ → Bool
straight None = true
straight (Some n) = n == SWITCHES_CRTC.0

-- a swap is legal also where the first refusal is that
pub may_swap_straight : Topology → Machine → ℕ → Request → Bool
may_swap_straight t m client r = not (is_test r.flags)
    && (holds_touched t m client r && (straight (verdict t m.device.world r) && (not (is_refused_late t m client r) && is_ready t m r)))

pub straight_moves : Script → Machine → Step → Bool
straight_moves s m (Swap client) = taking_at s m client (may_swap_straight s.topology m client)
straight_moves s m step = may s m step

-- one commit moves the plane, and the second CRTC has its vblank first
abbrev moved_straight : List ℕ
moved_straight = two_crtcs ++ codes "atomic 0x200 0 plane0.CRTC_ID=crtc1\n" ++ both_lit ++ codes "T begin 1\nT lock 1 plane0\nT lock 1 crtc0\nT lock 1 crtc1\nT swap 1\nT claim 1\nT write 1 crtc0\nT write 1 crtc1\nT write 1 plane0\nT flush 1 crtc0\nT flush 1 crtc1\nT vblank crtc1\n"

pub straight_moves_are_legal : told (λ s h. keep straight_moves s (first_machine s.topology) h) false moved_straight ≡ true
unfolding on_machines keep straight_moves may_swap_straight straight
straight_moves_are_legal = refl

-- The first CRTC shows no layer any more, while the last picture that it latched has one.
pub straight_move_mixes_pictures : told (λ s h. layers (decoded_picture s.topology (at s h).device.live (object_id Crtc 0))
    ∷ layers (last_latched (at s h).records.latches 0) ∷ []) [] moved_straight ≡ 0 ∷ 1 ∷ []
unfolding on_machines
straight_move_mixes_pictures = refl

-- An older context that backs off at one object, while the younger one waits there

pub is_free_or_younger : Machine → ℕ → Option ℕ → Bool
is_free_or_younger m ticket None = true
is_free_or_younger m ticket (Some holder) = nat_lt ticket (ticket_of (doing_at m holder))

-- The rule is turned round at the plane alone: turned round everywhere, it would have no cycle either, since tickets would fall
-- along each chain.
pub may_lock_turned : Script → Machine → ℕ → ℕ → Bool
may_lock_turned s m client object =
    if object == object_id Plane 0
    then taking_at s m client (λ r. reaches s.topology m.device.world r object)
    && is_free_or_younger m (ticket_of (doing_at m client)) (holder_at m object)
    else may_lock s m client object

pub waits_by : (Script → Machine → ℕ → ℕ → Bool) → Script → Machine → ℕ → ℕ → ℕ → Bool
waits_by rule s m x y object = taking_at s m x (λ r. reaches s.topology m.device.world r object)
    && (holds m y object && not (rule s m x object))

-- three clients, of which each holds one object and needs that of the next
abbrev three_clients : List ℕ
three_clients = head ++ codes "client\natomic 0x100 0 plane0.alpha=1 crtc0.ACTIVE=0\nclient\natomic 0x100 0 crtc0.ACTIVE=0 conn0.CRTC_ID=0\nclient\natomic 0x100 0 conn0.CRTC_ID=0 plane0.alpha=1\nschedule\nT begin 1\nT begin 2\nT begin 3\nT lock 1 plane0\nT lock 2 crtc0\nT lock 3 conn0\n"

-- each step is legal by that rule
pub locks_turned : Script → Machine → Step → Bool
locks_turned s m (Lock client kind index) = is_lockable s.topology kind index && may_lock_turned s m client (object_id kind index)
locks_turned s m step = may s m step

pub turned_locks_are_legal : told (λ s h. keep locks_turned s (first_machine s.topology) h) false three_clients ≡ true
unfolding on_machines keep locks_turned may_lock_turned is_free_or_younger
turned_locks_are_legal = refl

pub three_clients_hold_one_object_each : told (λ s h. is_history s h) false three_clients ≡ true
unfolding on_machines
three_clients_hold_one_object_each = refl

abbrev waits_in_turn : (Script → Machine → ℕ → ℕ → Bool) → Script → List Step → List Bool
waits_in_turn rule s h = waits_by rule s (at s h) 1 2 (object_id Crtc 0) ∷ waits_by rule s (at s h) 2 3 (object_id Conn 0)
    ∷ waits_by rule s (at s h) 3 1 (object_id Plane 0) ∷ []

-- by that rule each of them waits for the next, and the last for the first
pub turned_rule_has_a_cycle : told (waits_in_turn may_lock_turned) [] three_clients ≡ true ∷ true ∷ true ∷ []
unfolding on_machines may_lock_turned is_free_or_younger waits_by
turned_rule_has_a_cycle = refl

-- by the device's rule the youngest backs off instead
pub device_rule_has_none : told (waits_in_turn may_lock) [] three_clients ≡ true ∷ true ∷ false ∷ []
unfolding on_machines waits_by
device_rule_has_none = refl

-- A context that backs off and keeps a lock

-- two clients of which each holds one object and needs that of the other: the younger one must back off
abbrev two_clients : List ℕ
two_clients = head ++ codes "client\natomic 0x100 0 plane0.alpha=1 crtc0.ACTIVE=0\nclient\natomic 0x100 0 crtc0.ACTIVE=0 plane0.alpha=1\nschedule\nT begin 1\nT begin 2\nT lock 1 plane0\nT lock 2 crtc0\nT lock 2 plane0\n"

pub the_younger_must_back_off : told (λ s h. is_history s h && may s (at s h) (BackOff 2)) false two_clients ≡ true
unfolding on_machines
the_younger_must_back_off = refl

-- it backs off, with its locks or without
abbrev kept_locks : Script → List Step → Machine
kept_locks s h = now_doing (at s h) 2 (backed_off (doing_at (at s h) 2))

abbrev waits_both : (Script → List Step → Machine) → Script → List Step → List Bool
waits_both after s h = waits_at_lock s (after s h) 1 2 (object_id Crtc 0) ∷ waits_at_relock (after s h) 2 1 (object_id Plane 0) ∷ []

-- each waits for the other where it keeps its lock
pub kept_lock_has_a_cycle : told (waits_both kept_locks) [] two_clients ≡ true ∷ true ∷ []
unfolding on_machines
kept_lock_has_a_cycle = refl

-- and not where it drops it
pub dropped_locks_have_none : told (waits_both (λ s h. next s (at s h) (BackOff 2))) [] two_clients ≡ false ∷ true ∷ []
unfolding on_machines
dropped_locks_have_none = refl

-- A history that was ended, of a longer script

-- a commit waits for a fence that nobody signals, and the history is ended
abbrev ended_there : List ℕ
ended_there = head ++ made ++ codes "fence n\natomic 0x400 0 crtc0.ACTIVE=1 crtc0.MODE_ID=@m conn0.CRTC_ID=crtc0 plane0.FB_ID=@f plane0.CRTC_ID=crtc0 plane0.CRTC_W=1 plane0.CRTC_H=1 plane0.SRC_W=65536 plane0.SRC_H=65536 plane0.IN_FENCE_FD=@n\nschedule\nT make 1\nT make 1\nT make 1\nT make 1\nT begin 1\nT lock 1 crtc0\nT lock 1 plane0\nT lock 1 conn0\nT swap 1\nT stall\n"

-- the script with a client more, which signals it
abbrev with_signal : Script → Script
with_signal s = record s { clients = s.clients ++ (command.Signal 3 ∷ []) ∷ [] }

pub a_history_that_was_ended_is_one : told (λ s h. is_history s h) false ended_there ≡ true
unfolding on_machines
a_history_that_was_ended_is_one = refl

-- The client can go on, so the history is not dead there, and the last step is not legal.
pub it_is_none_of_a_longer_script : told (λ s h. is_history (with_signal s) h) true ended_there ≡ false
unfolding on_machines
it_is_none_of_a_longer_script = refl

-- A label that is made twice

-- two fences under one label, which no text spells
abbrev made_twice : Script
made_twice = record { version = 1; topology = device; names = codes "n" ∷ []; clients = (command.Fence 0 ∷ command.Fence 0 ∷ []) ∷ [] }

abbrev ids_of_labels : List Thing → List (Option ℕ)
ids_of_labels things = map (λ u. option_map (λ (v : Thing). v.id) (thing_labelled things u.label)) things

-- the label of the second one names the first
pub a_label_that_is_made_twice_names_the_first : ids_of_labels (at made_twice (Make 1 ∷ Make 1 ∷ [])).device.world.things ≡ Some 1000
    ∷ Some 1000 ∷ []
unfolding on_machines
a_label_that_is_made_twice_names_the_first = refl

pub both_are_made : is_history made_twice (Make 1 ∷ Make 1 ∷ []) ≡ true
unfolding on_machines
both_are_made = refl
