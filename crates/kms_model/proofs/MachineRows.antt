-- Worked histories, computed: what the machine does with scripts, in the order of one thread and in others.
use Rattle.std.proofs.Common.{◌≡◌, ℕ, List, ◌++◌, Some, refl}
use Rattle.std.specs.Prelude.{codes, Ok}
use Rattle.kms_model.specs.Script.Generated.{generated}
use Rattle.kms_model.specs.Script.WholeInput.{input}
use Rattle.kms_model.proofs.MachineInputs.{one, report_of_script, replayed, not_legal_at, plain, traced}
use Rattle.kms_model.proofs.OnMachines.{on_machines}
use Rattle.kms_model.proofs.Rows.{head, head_of_two, made, mode_made, pixel_made, script}

-- what lights the CRTC: nine assignments
abbrev sets : List ℕ
sets = codes "crtc0.ACTIVE=1 crtc0.MODE_ID=@m conn0.CRTC_ID=crtc0 plane0.FB_ID=@f plane0.CRTC_ID=crtc0 plane0.CRTC_W=1 plane0.CRTC_H=1 plane0.SRC_W=65536 plane0.SRC_H=65536"

abbrev lights : List ℕ → List ℕ
lights flags = codes "atomic " ++ flags ++ codes " 0 " ++ sets ++ codes "\n"

-- the first script: one client makes a framebuffer and a mode, and lights the CRTC
abbrev first_script : List ℕ
first_script = head ++ made ++ lights (codes "0x400")

-- the same with a commit that does not block
abbrev quick_script : List ℕ
quick_script = head ++ made ++ lights (codes "0x600")

-- the first steps of these scripts: up to the swap, and the tail up to the vblank
abbrev up_to_swap : List ℕ
up_to_swap = codes "schedule\nT make 1\nT make 1\nT make 1\nT begin 1\nT lock 1 crtc0\nT lock 1 plane0\nT lock 1 conn0\nT swap 1\n"

abbrev tail_up_to_hwdone : List ℕ
tail_up_to_hwdone = codes "T claim 0\nT write 0 crtc0\nT write 0 plane0\nT flush 0 crtc0\nT hwdone 0\n"

abbrev second_tail : List ℕ
second_tail = codes "T claim 1\nT write 1 crtc0\nT write 1 plane0\nT flush 1 crtc0\nT hwdone 1\nT vblank crtc0\nT cleanup 0\nT cleanup 1\n"

abbrev second_locks : List ℕ
second_locks = codes "T begin 1\nT lock 1 plane0\nT lock 1 crtc0\n"

-- the first script in the order of one thread, with its steps
pub first_commit_lights_the_crtc : one traced first_script ≡ codes "J 1 1\nJ 1 2\nJ 1 3\nJ 1 4\nR 1 1 0 made 1000\nR 1 2 1 made 1001\nR 1 3 2 made 1002\nR 1 4 3 commit 0\nL 0 0 1 ba7816bf8f01cfea414140de5dae2223b00361a396177a9cb410ff61f20015ad\nD drained\nT make 1\nT make 1\nT make 1\nT begin 1\nT lock 1 crtc0\nT lock 1 plane0\nT lock 1 conn0\nT swap 1\nT claim 0\nT write 0 crtc0\nT write 0 plane0\nT flush 0 crtc0\nT hwdone 0\nT vblank crtc0\nT cleanup 0\nT return 1\n"
unfolding on_machines
first_commit_lights_the_crtc = refl

-- its steps as a schedule
pub schedule_of_the_first_script_gives_its_report : replayed traced (first_script ++ codes "schedule\nT make 1\nT make 1\nT make 1\nT begin 1\nT lock 1 crtc0\nT lock 1 plane0\nT lock 1 conn0\nT swap 1\nT claim 0\nT write 0 crtc0\nT write 0 plane0\nT flush 0 crtc0\nT hwdone 0\nT vblank crtc0\nT cleanup 0\nT return 1\n") ≡ codes "J 1 1\nJ 1 2\nJ 1 3\nJ 1 4\nR 1 1 0 made 1000\nR 1 2 1 made 1001\nR 1 3 2 made 1002\nR 1 4 3 commit 0\nL 0 0 1 ba7816bf8f01cfea414140de5dae2223b00361a396177a9cb410ff61f20015ad\nD drained\nT make 1\nT make 1\nT make 1\nT begin 1\nT lock 1 crtc0\nT lock 1 plane0\nT lock 1 conn0\nT swap 1\nT claim 0\nT write 0 crtc0\nT write 0 plane0\nT flush 0 crtc0\nT hwdone 0\nT vblank crtc0\nT cleanup 0\nT return 1\n"
unfolding on_machines
schedule_of_the_first_script_gives_its_report = refl

-- no client
pub empty_device_is_drained : one plain head ≡ codes "D drained\n"
unfolding on_machines
empty_device_is_drained = refl

-- a modeset needs leave
pub modeset_needs_leave : one plain (head ++ made ++ lights (codes "0x0"))
    ≡ codes "J 1 1\nJ 1 2\nJ 1 3\nR 1 1 0 made 1000\nR 1 2 1 made 1001\nR 1 3 2 made 1002\nR 1 4 3 EINVAL 24\nD drained\n"
unfolding on_machines
modeset_needs_leave = refl

-- a plane that is not there
pub missing_plane_is_refused : report_of_script plain (script 0x400 1)
    ≡ codes "J 1 1\nJ 1 2\nJ 1 3\nR 1 1 0 made 1000\nR 1 2 1 made 1001\nR 1 3 2 made 1002\nR 1 4 3 ENOENT 4\nD drained\n"
unfolding on_machines
missing_plane_is_refused = refl

-- A commit that does not wait is refused while the commit before has not flipped, and accepted after its vblank.
pub commit_is_busy_until_the_flip : replayed plain (quick_script ++ codes "atomic 0x200 0 plane0.alpha=65535\natomic 0x200 0 plane0.alpha=65535\n" ++ up_to_swap ++ second_locks ++ codes "T refuse 1\n" ++ tail_up_to_hwdone ++ codes "T vblank crtc0\n" ++ second_locks ++ codes "T swap 1\n" ++ second_tail) ≡ codes "J 1 1\nJ 1 2\nJ 1 3\nJ 1 4\nJ 1 6\nR 1 1 0 made 1000\nR 1 2 1 made 1001\nR 1 3 2 made 1002\nR 1 4 3 commit 0\nR 1 5 4 EBUSY 26 crtc0 0\nR 1 6 4 commit 1\nL 0 0 1 ba7816bf8f01cfea414140de5dae2223b00361a396177a9cb410ff61f20015ad\nL 0 1 2 ba7816bf8f01cfea414140de5dae2223b00361a396177a9cb410ff61f20015ad\nD drained\n"
unfolding on_machines
commit_is_busy_until_the_flip = refl

-- it is not swapped then
pub busy_commit_is_not_swapped : not_legal_at (quick_script
    ++ codes "atomic 0x200 0 plane0.alpha=65535\natomic 0x200 0 plane0.alpha=65535\n" ++ up_to_swap ++ second_locks ++ codes "T swap 1\n")
    ≡ Some 12
unfolding on_machines
busy_commit_is_not_swapped = refl

-- A commit that blocks is swapped before the flip, and its tail waits for it.
pub blocking_commit_waits_in_its_tail : replayed plain (quick_script ++ codes "atomic 0x0 0 plane0.alpha=65535\n" ++ up_to_swap ++ tail_up_to_hwdone ++ second_locks ++ codes "T swap 1\nT vblank crtc0\n" ++ second_tail ++ codes "T return 1\n") ≡ codes "J 1 1\nJ 1 2\nJ 1 3\nJ 1 4\nJ 1 5\nR 1 1 0 made 1000\nR 1 2 1 made 1001\nR 1 3 2 made 1002\nR 1 4 3 commit 0\nR 1 5 4 commit 1\nL 0 0 1 ba7816bf8f01cfea414140de5dae2223b00361a396177a9cb410ff61f20015ad\nL 0 1 2 ba7816bf8f01cfea414140de5dae2223b00361a396177a9cb410ff61f20015ad\nD drained\n"
unfolding on_machines
blocking_commit_waits_in_its_tail = refl

-- it is not claimed before the flip
pub commit_is_not_claimed_before_the_flip : not_legal_at
    (quick_script ++ codes "atomic 0x0 0 plane0.alpha=65535\n" ++ up_to_swap ++ tail_up_to_hwdone ++ second_locks
    ++ codes "T swap 1\nT claim 1\n") ≡ Some 18
unfolding on_machines
commit_is_not_claimed_before_the_flip = refl

-- two CRTCs and a plane that may go on both: one client lights both, and takes the plane off the first; another puts it on the second
abbrev moving_script : List ℕ
moving_script = head_of_two ++ made ++ codes "atomic 0x400 0 " ++ sets ++ codes " crtc1.ACTIVE=1 crtc1.MODE_ID=@m conn1.CRTC_ID=crtc1\natomic 0x200 0 plane0.FB_ID=0 plane0.CRTC_ID=0\nclient\natomic 0x0 0 plane0.FB_ID=@f plane0.CRTC_ID=crtc1\n"

abbrev moving_steps : List ℕ
moving_steps = codes "schedule\nT make 1\nT make 1\nT make 1\nT begin 1\nT lock 1 crtc0\nT lock 1 crtc1\nT lock 1 plane0\nT lock 1 conn0\nT lock 1 conn1\nT swap 1\nT claim 0\nT write 0 crtc0\nT write 0 crtc1\nT write 0 plane0\nT flush 0 crtc0\nT flush 0 crtc1\nT hwdone 0\nT vblank crtc0\nT vblank crtc1\nT cleanup 0\nT return 1\nT begin 1\nT lock 1 plane0\nT lock 1 crtc0\nT swap 1\nT begin 2\nT lock 2 plane0\nT lock 2 crtc1\nT swap 2\n"

-- The commit that puts the plane on the second CRTC waits for the one that takes it off the first, though they share no CRTC: a claim that
-- looks at CRTCs alone is not legal.
pub plane_waits_for_its_flip_on_the_other_crtc : not_legal_at (moving_script ++ moving_steps ++ codes "T claim 2\n") ≡ Some 30
unfolding on_machines
plane_waits_for_its_flip_on_the_other_crtc = refl

-- the plane moves between the CRTCs over two commits
pub plane_moves_between_crtcs_over_two_commits : replayed plain (moving_script ++ moving_steps ++ codes "T claim 1\nT write 1 crtc0\nT write 1 plane0\nT flush 1 crtc0\nT hwdone 1\nT vblank crtc0\nT cleanup 1\nT claim 2\nT write 2 crtc1\nT write 2 plane0\nT flush 2 crtc1\nT hwdone 2\nT vblank crtc1\nT cleanup 2\nT return 2\n") ≡ codes "J 1 1\nJ 1 2\nJ 1 3\nJ 1 4\nJ 1 5\nJ 2 1\nR 1 1 0 made 1000\nR 1 2 1 made 1001\nR 1 3 2 made 1002\nR 1 4 3 commit 0\nR 1 5 4 commit 1\nR 2 1 5 commit 2\nL 0 0 1 ba7816bf8f01cfea414140de5dae2223b00361a396177a9cb410ff61f20015ad\nL 0 1 2 709e80c88487a2411e1ee4dfb9f22a861492d20c4765150c0c794abd70f8147c\nL 1 0 1 709e80c88487a2411e1ee4dfb9f22a861492d20c4765150c0c794abd70f8147c\nL 1 2 2 ba7816bf8f01cfea414140de5dae2223b00361a396177a9cb410ff61f20015ad\nD drained\n"
unfolding on_machines
plane_moves_between_crtcs_over_two_commits = refl

-- The event of a commit that turns the CRTC off is delivered at its flush, with the count as it is.
pub commit_that_turns_off_delivers_its_event : one plain (first_script ++ codes "atomic 0x401 9 crtc0.ACTIVE=0 crtc0.MODE_ID=0 conn0.CRTC_ID=0 plane0.FB_ID=0 plane0.CRTC_ID=0\nwait\n") ≡ codes "J 1 1\nJ 1 2\nJ 1 3\nJ 1 4\nJ 1 5\nR 1 1 0 made 1000\nR 1 2 1 made 1001\nR 1 3 2 made 1002\nR 1 4 3 commit 0\nR 1 5 4 commit 1\nR 1 6 5 event 9 1 100\nL 0 0 1 ba7816bf8f01cfea414140de5dae2223b00361a396177a9cb410ff61f20015ad\nL 0 1 1 off\nE 1 9 1 100\nD drained\n"
unfolding on_machines
commit_that_turns_off_delivers_its_event = refl

-- refusals of flags, of events and of assignments
pub each_refusal_has_its_place : one plain (head ++ codes "client\natomic 0x1 0 crtc0.ACTIVE=0\natomic 0x101 0 crtc0.ACTIVE=0\natomic 0x2 0\natomic 0x4 0\natomic 0x1 0\natomic 0x0 0\natomic 0x0 0 crtc1.ACTIVE=0\natomic 0x0 0 crtc0.alpha=1\natomic 0x0 0 plane0.type=1\natomic 0x0 0 plane0.alpha=65536\n") ≡ codes "J 1 6\nR 1 1 0 EINVAL 17\nR 1 2 0 EINVAL 3\nR 1 3 0 EINVAL 2\nR 1 4 0 EINVAL 1\nR 1 5 0 EINVAL 9\nR 1 6 0 commit 0\nR 1 7 1 ENOENT 4\nR 1 8 1 ENOENT 5\nR 1 9 1 EINVAL 6\nR 1 10 1 EINVAL 7\nD drained\n"
unfolding on_machines
each_refusal_has_its_place = refl

-- one client lights the CRTC with a framebuffer that another closes while the first takes its locks
abbrev closing_script : List ℕ
closing_script = head ++ codes "client\n" ++ mode_made ++ lights (codes "0x400") ++ codes "client\n" ++ pixel_made ++ codes "closefb f\n"

abbrev closing_steps : List ℕ
closing_steps = codes "schedule\nT make 2\nT make 2\nT make 1\nT begin 1\nT lock 1 crtc0\nT lock 1 plane0\nT lock 1 conn0\nT make 2\n"

-- the request is refused, and the framebuffer is freed at once
pub framebuffer_is_closed_in_the_middle_of_a_request : replayed plain (closing_script ++ closing_steps ++ codes "T refuse 1\n") ≡ codes "J 2 1\nJ 2 2\nJ 1 1\nJ 2 3\nR 1 1 2 made 1002\nR 1 2 4 EINVAL 7\nR 2 1 0 made 1000\nR 2 2 1 made 1001\nR 2 3 3 done\nX f 1001\nD drained\n"
unfolding on_machines
framebuffer_is_closed_in_the_middle_of_a_request = refl

-- it is not swapped
pub request_of_a_closed_framebuffer_is_not_swapped : not_legal_at (closing_script ++ closing_steps ++ codes "T swap 1\n") ≡ Some 9
unfolding on_machines
request_of_a_closed_framebuffer_is_not_swapped = refl

-- two clients that test the same request
abbrev meeting_script : List ℕ
meeting_script = head
    ++ codes "client\natomic 0x100 0 plane0.alpha=1 crtc0.ACTIVE=0\nclient\natomic 0x100 0 plane0.alpha=1 crtc0.ACTIVE=0\n"

-- the younger context backs off
pub younger_context_backs_off : replayed plain (meeting_script ++ codes "schedule\nT begin 1\nT begin 2\nT lock 1 plane0\nT lock 2 crtc0\nT lock 2 plane0\nT backoff 2\nT lock 1 crtc0\nT test 1\nT relock 2\nT lock 2 crtc0\nT test 2\n") ≡ codes "R 1 1 0 tested\nR 2 1 0 tested\nD drained\n"
unfolding on_machines
younger_context_backs_off = refl

-- the older one waits for what a younger one holds
pub older_context_waits : not_legal_at (meeting_script
    ++ codes "schedule\nT begin 1\nT begin 2\nT lock 1 plane0\nT lock 2 crtc0\nT lock 1 crtc0\n") ≡ Some 5
unfolding on_machines
older_context_waits = refl

-- A commit waits for a fence that nobody signals: only vblanks without GO are left, and the history is dead.
pub history_is_dead_where_a_fence_is_not_signalled : one plain (first_script ++ codes "atomic 0x200 0 plane0.alpha=65535 crtc0.OUT_FENCE_PTR=+o\natomic 0x0 0 plane0.alpha=65535 plane0.IN_FENCE_FD=@o\nfence n\natomic 0x0 0 plane0.alpha=65535 plane0.IN_FENCE_FD=@n\n") ≡ codes "J 1 1\nJ 1 2\nJ 1 3\nJ 1 4\nJ 1 5\nJ 1 6\nJ 1 7\nJ 1 8\nR 1 1 0 made 1000\nR 1 2 1 made 1001\nR 1 3 2 made 1002\nR 1 4 3 commit 0\nR 1 5 4 commit 1\nR 1 6 5 commit 2\nR 1 7 6 made 1004\nR 1 8 7 commit 3\nL 0 0 1 ba7816bf8f01cfea414140de5dae2223b00361a396177a9cb410ff61f20015ad\nL 0 1 2 ba7816bf8f01cfea414140de5dae2223b00361a396177a9cb410ff61f20015ad\nL 0 2 3 ba7816bf8f01cfea414140de5dae2223b00361a396177a9cb410ff61f20015ad\nD stalled n\n"
unfolding on_machines
history_is_dead_where_a_fence_is_not_signalled = refl

-- An event is read with the count after its vblank, and a framebuffer that was closed is freed once nothing shows it.
pub event_is_read_and_framebuffer_is_freed : one plain (first_script ++ codes "buffer b2 1 1 XR24 solid 00666f6f\naddfb f2 b2\natomic 0x1 7 plane0.FB_ID=@f2\nwait\nclosefb f\nwait\n") ≡ codes "J 1 1\nJ 1 2\nJ 1 3\nJ 1 4\nJ 1 5\nJ 1 6\nJ 1 7\nJ 1 9\nR 1 1 0 made 1000\nR 1 2 1 made 1001\nR 1 3 2 made 1002\nR 1 4 3 commit 0\nR 1 5 4 made 1003\nR 1 6 5 made 1004\nR 1 7 6 commit 1\nR 1 8 7 event 7 2 100\nR 1 9 7 done\nR 1 10 8 none\nL 0 0 1 ba7816bf8f01cfea414140de5dae2223b00361a396177a9cb410ff61f20015ad\nL 0 1 2 2c26b46b68ffc68ff99b453c1d30413413422d706483bfa0f98a5e886266e7ae\nE 1 7 2 100\nX f 1001\nD drained\n"
unfolding on_machines
event_is_read_and_framebuffer_is_freed = refl

-- one commit over two CRTCs that asks for events
abbrev event_script : List ℕ
event_script = head_of_two ++ made ++ codes "atomic 0x601 5 " ++ sets
    ++ codes " crtc1.ACTIVE=1 crtc1.MODE_ID=@m conn1.CRTC_ID=crtc1\nwait\nwait\n"

abbrev event_steps : List ℕ
event_steps = codes "schedule\nT make 1\nT make 1\nT make 1\nT begin 1\nT lock 1 crtc0\nT lock 1 crtc1\nT lock 1 plane0\nT lock 1 conn0\nT lock 1 conn1\nT swap 1\nT claim 0\nT write 0 crtc0\nT write 0 crtc1\nT write 0 plane0\nT flush 0 crtc0\nT flush 0 crtc1\nT hwdone 0\n"

-- two CRTCs latch in the other order, each with an event of its own
pub events_come_in_the_order_of_latches : replayed plain (event_script ++ event_steps ++ codes "T vblank crtc1\nT vblank crtc0\nT read 1\nT read 1\nT cleanup 0\n") ≡ codes "J 1 1\nJ 1 2\nJ 1 3\nJ 1 4\nR 1 1 0 made 1000\nR 1 2 1 made 1001\nR 1 3 2 made 1002\nR 1 4 3 commit 0\nR 1 5 4 event 5 1 101\nR 1 6 4 event 5 1 100\nL 0 0 1 ba7816bf8f01cfea414140de5dae2223b00361a396177a9cb410ff61f20015ad\nL 1 0 1 709e80c88487a2411e1ee4dfb9f22a861492d20c4765150c0c794abd70f8147c\nE 1 5 1 101\nE 1 5 1 100\nD drained\n"
unfolding on_machines
events_come_in_the_order_of_latches = refl

-- before the first latch the client waits for its events
pub read_waits_for_a_reserved_event : not_legal_at (event_script ++ event_steps ++ codes "T read 1\n") ≡ Some 18
unfolding on_machines
read_waits_for_a_reserved_event = refl

-- a commit that is not there
pub claim_of_no_commit_is_not_legal : not_legal_at (first_script ++ codes "schedule\nT claim 0\n") ≡ Some 1
unfolding on_machines
claim_of_no_commit_is_not_legal = refl

-- no schedule
pub script_without_a_schedule_is_open : replayed plain first_script ≡ codes "D open 0\n"
unfolding on_machines
script_without_a_schedule_is_open = refl

-- a schedule that ends behind a swap
pub schedule_that_ends_early_is_open : replayed plain (first_script ++ up_to_swap)
    ≡ codes "J 1 1\nJ 1 2\nJ 1 3\nJ 1 4\nR 1 1 0 made 1000\nR 1 2 1 made 1001\nR 1 3 2 made 1002\nR 1 4 3 commit 0\nD open 8\n"
unfolding on_machines
schedule_that_ends_early_is_open = refl

-- A vblank without GO latches nothing, and counts.
pub vblank_without_go_latches_nothing : replayed plain (first_script ++ up_to_swap ++ tail_up_to_hwdone ++ codes "T vblank crtc0\nT vblank crtc0\n") ≡ codes "J 1 1\nJ 1 2\nJ 1 3\nJ 1 4\nR 1 1 0 made 1000\nR 1 2 1 made 1001\nR 1 3 2 made 1002\nR 1 4 3 commit 0\nL 0 0 1 ba7816bf8f01cfea414140de5dae2223b00361a396177a9cb410ff61f20015ad\nD open 15\n"
unfolding on_machines
vblank_without_go_latches_nothing = refl

-- no vblank of a CRTC that is off and has no GO
pub vblank_of_an_off_crtc_is_not_legal : not_legal_at (first_script ++ codes "schedule\nT vblank crtc0\n") ≡ Some 1
unfolding on_machines
vblank_of_an_off_crtc_is_not_legal = refl

-- no cleanup before the flip
pub cleanup_before_the_flip_is_not_legal : not_legal_at (first_script ++ up_to_swap ++ tail_up_to_hwdone ++ codes "T cleanup 0\n") ≡ Some 14
unfolding on_machines
cleanup_before_the_flip_is_not_legal = refl

-- The number of a CRTC beyond the device is the id of a plane: its lock is not legal, and locks nothing.
pub lock_of_a_crtc_beyond_the_device_is_not_legal : not_legal_at
    (first_script ++ codes "schedule\nT make 1\nT make 1\nT make 1\nT begin 1\nT lock 1 crtc100\n") ≡ Some 5
unfolding on_machines
lock_of_a_crtc_beyond_the_device_is_not_legal = refl

-- nothing is legal behind `stall`, and it is not legal where something else is
pub stall_is_not_legal_in_a_live_history : not_legal_at (first_script ++ codes "schedule\nT stall\n") ≡ Some 1
unfolding on_machines
stall_is_not_legal_in_a_live_history = refl

-- the text of the script that seed 0 gives with one commit
pub generated_script_is_spelt : input (codes "kms 1\ncrtcs 2\nplane primary 0 XR24\nplane primary 1 XR24\nconn 0\nconn 1\nclient\nbuffer b1 64 64 XR24 ramp\naddfb f1 b1\nbuffer g1 64 64 XR24 solid 00204060\naddfb h1 g1\nmode m1 1000 64 64 64 64 0 64 64 64 64 0 60 0 0 gen\natomic 0x400 0 crtc0.ACTIVE=1 crtc0.MODE_ID=@m1 conn0.CRTC_ID=crtc0 plane0.FB_ID=@f1 plane0.CRTC_ID=crtc0 plane0.CRTC_W=64 plane0.CRTC_H=64 plane0.SRC_W=4194304 plane0.SRC_H=4194304\natomic 0x1 1 plane0.FB_ID=@h1 plane0.alpha=24287 plane0.CRTC_X=1\nwait\nclient\nbuffer b2 64 64 XR24 ramp\naddfb f2 b2\nbuffer g2 64 64 XR24 solid 00204060\naddfb h2 g2\nmode m2 1000 64 64 64 64 0 64 64 64 64 0 60 0 0 gen\natomic 0x400 0 crtc1.ACTIVE=1 crtc1.MODE_ID=@m2 conn1.CRTC_ID=crtc1 plane1.FB_ID=@f2 plane1.CRTC_ID=crtc1 plane1.CRTC_W=64 plane1.CRTC_H=64 plane1.SRC_W=4194304 plane1.SRC_H=4194304\n") ≡ Ok (generated 0 1)
unfolding on_machines
generated_script_is_spelt = refl

-- Walks at random, with the answers of another implementation of the rules

pub random_walk_008 : replayed plain (codes "kms 1\ncrtcs 2\nplane cursor 0,1 AR24,RG16\nplane overlay 1 AR24,RG16\nconn 0,1\nconn 0,1\nconn 0,1\nconn 0,1\nconn 0,1\nconn 0\nconn 0,1\nconn 0,1\nclient\nmode m1 1 6 6 6 8 0 8 8 8 9 0 60 0 0 xxxxxxxxxxxxxxxxxxxxxxxxxxxxxxx\nbuffer b4 1 2 RG16 solid e02e\nbuffer b5 4 5 RG16 solid 224a\ndestroy m1\naddfb f6 b4\nbuffer b7 1 7 AR24 ramp\nclient\nmode m2 4294967295 2 2 3 4 7 3 3 4 4 0 60 0 64 tiny\nmode m3 4294967295 2 2 3 4 7 3 3 4 4 0 60 0 64 tiny\ndestroy m2\natomic 0x500 5 crtc0.ACTIVE=1 crtc0.MODE_ID=@m1 conn1.CRTC_ID=crtc0\nschedule\nT make 2\nT make 1\nT make 1\nT make 2\nT make 2\nT begin 2\nT lock 2 crtc0\nT make 1\nT make 1\nT refuse 2\nT make 1\nT make 1\n") ≡ codes "J 2 1\nJ 1 1\nJ 1 2\nJ 2 2\nJ 2 3\nJ 1 3\nJ 1 4\nJ 1 5\nJ 1 6\nR 1 1 1 made 1001\nR 1 2 2 made 1002\nR 1 3 5 made 1004\nR 1 4 6 done\nR 1 5 7 made 1005\nR 1 6 8 made 1006\nR 2 1 0 made 1000\nR 2 2 3 made 1003\nR 2 3 4 done\nR 2 4 7 EINVAL 7\nD drained\n"
unfolding on_machines
random_walk_008 = refl

pub random_walk_025 : replayed plain (codes "kms 1\ncrtcs 2\nplane overlay 0,1 XR24,AR24,RG16\nconn 0\nconn 0,1\nclient\nmode m1 25200 2 2 2 4 0 1 1 2 2 0 4294967295 0 0 8x8\nclosefb nosuch\nbuffer b2 3 4 AR24 solid 9ee81211\nbuffer b3 1 0 AR24 solid d739d7f7\naddfb f4 b2\natomic 0x401 6 crtc1.ACTIVE=1 crtc1.MODE_ID=@m1 conn1.CRTC_ID=crtc1\natomic 0x1 8072062190554839220 plane0.pixel_blend_mode=1 plane0.CRTC_Y=8 plane0.zpos=0\nbuffer b5 4 5 XR24 ramp\nwait\natomic 0x400 2568585539867853765 crtc1.ACTIVE=0\nschedule\nT make 1\nT make 1\nT make 1\nT make 1\nT make 1\nT begin 1\nT lock 1 crtc1\nT lock 1 conn1\nT swap 1\nT claim 0\nT write 0 crtc1\nT flush 0 crtc1\nT hwdone 0\nT vblank crtc1\nT cleanup 0\nT return 1\n") ≡ codes "J 1 1\nJ 1 3\nJ 1 5\nJ 1 6\nR 1 1 0 made 1000\nR 1 2 1 ENOENT 33\nR 1 3 1 made 1001\nR 1 4 2 EINVAL 31\nR 1 5 2 made 1002\nR 1 6 3 commit 0\nL 1 0 1 b0f66adc83641586656866813fd9dd0b8ebb63796075661ba45d1aa8089e1d44\nD open 16\n"
unfolding on_machines
random_walk_025 = refl

pub random_walk_084 : replayed plain (codes "kms 1\ncrtcs 2\nplane primary 0 XR24,AR24,RG16\nplane primary 0,1 XR24,AR24,RG16\nplane overlay 0,1 XR24,AR24,RG16\nplane primary 0,1 XR24,RG16\nplane cursor 0,1 XR24,AR24,RG16\nconn 0,1\nconn 0,1\nconn 0,1\nclient\nmode m4 4294967295 7 7 9 9 0 1 1 1 2 0 0 0 0 tiny\nclient\nmode m3 1 8 8 9 10 0 4 4 4 5 1 60 0 0 tiny\nbuffer b6 1 4 RG16 ramp\nclient\nmode m2 1 3 3 4 5 7 6 6 7 7 1 60 5 64 xxxxxxxxxxxxxxxxxxxxxxxxxxxxxxx\nbuffer b7 2 3 XR24 solid 128d6861\nclient\nbuffer b9 4096 1 AR24 solid b1f8a55d\ndestroy m2\nclient\nmode m5 25200 2 2 2 4 7 8 8 9 9 1 4294967295 5 64 tiny\nclient\nmode m1 1 8 8 8 10 7 8 8 9 9 1 4294967295 5 64 xxxxxxxxxxxxxxxxxxxxxxxxxxxxxxx\nbuffer b8 8 1 XR24 checker 204057a9 843744d7 1\nschedule\nT make 2\nT make 3\nT make 6\nT make 6\n") ≡ codes "J 2 1\nJ 3 1\nJ 6 1\nJ 6 2\nR 2 1 0 made 1000\nR 3 1 1 made 1001\nR 6 1 2 made 1002\nR 6 2 3 made 1003\nD open 4\n"
unfolding on_machines
random_walk_084 = refl

pub random_walk_089 : replayed traced (codes "kms 1\ncrtcs 4\nplane primary 0,1,2,3 XR24,AR24,RG16\nconn 0,1,2,3\nconn 0,1,2,3\nconn 0,1,2,3\nconn 2\nclient\nmode m2 4294967295 7 7 9 9 7 2 2 2 3 1 4294967295 5 0 8x8\nbuffer b3 3 5 RG16 checker 9de3 5459 4\nmode m6 25200 6 6 7 8 7 7 7 7 8 0 0 0 64 xxxxxxxxxxxxxxxxxxxxxxxxxxxxxxx\nclosefb nosuch\nclient\nbuffer b5 8 3 XR24 pixels 9dd8a0e7 09556e7a 80d6fc4c 99f254e3 7c532ea0 ebf21f08 3536af6c c983dfd3 c3be49ec ec69fd39 e6b96d17 23a69484 a25d1e2e d08a68ae 609d1447 21aa156c 11625c57 5dfa55e1 0a262ba7 cafb65cf eae7615f 7d075e19 291cbc98 9a4fac96\nbuffer b8 2 3 XR24 pixels d0bae0d7 543e7e6d 835de0c1 529ae099 fe7c8cfb afa9d682\nclient\nmode m1 4294967295 1 1 3 3 0 8 8 9 9 0 0 0 0 tiny\naddfb f4 m2\nbuffer b7 7 6 XR24 solid 2e7d6885\nmode m9 4294967295 7 7 7 9 7 6 6 6 7 1 0 0 64 8x8\nschedule\nT make 1\nT make 3\nT make 3\nT make 1\nT make 2\nT make 3\nT make 1\nT make 3\nT make 2\nT make 1\n") ≡ codes "J 1 1\nJ 3 1\nJ 1 2\nJ 2 1\nJ 3 3\nJ 1 3\nJ 3 4\nJ 2 2\nR 1 1 0 made 1000\nR 1 2 2 made 1002\nR 1 3 5 made 1005\nR 1 4 8 ENOENT 33\nR 2 1 3 made 1003\nR 2 2 7 made 1007\nR 3 1 1 made 1001\nR 3 2 2 ENOENT 33\nR 3 3 4 made 1004\nR 3 4 6 made 1006\nD drained\nT make 1\nT make 3\nT make 3\nT make 1\nT make 2\nT make 3\nT make 1\nT make 3\nT make 2\nT make 1\n"
unfolding on_machines
random_walk_089 = refl

pub random_walk_096 : replayed traced (codes "kms 1\ncrtcs 2\nplane cursor 0,1 XR24,AR24,RG16\nplane overlay 0,1 XR24,AR24,RG16\nconn 0,1\nconn 0\nclient\nmode m2 25200 4 4 5 6 0 5 5 5 6 1 4294967295 0 0 xxxxxxxxxxxxxxxxxxxxxxxxxxxxxxx\natomic 0x400 18446744073709551615 crtc0.ACTIVE=1 crtc0.MODE_ID=@m2 conn0.CRTC_ID=crtc0\nclient\nmode m1 1 8 8 8 10 7 2 2 2 3 0 60 5 64 xxxxxxxxxxxxxxxxxxxxxxxxxxxxxxx\nbuffer b4 1 1 RG16 ramp\naddfb f6 b4\natomic 0x1 7 crtc0.OUT_FENCE_PTR=0\nclient\nmode m3 25200 6 6 8 8 7 4 4 5 5 1 60 5 0 xxxxxxxxxxxxxxxxxxxxxxxxxxxxxxx\ndestroy m2\ndestroy m3\nmode m5 4294967295 6 6 7 8 0 6 6 7 7 0 60 5 64 8x8\nbuffer b7 6 6 AR24 ramp\natomic 0x1 7 crtc0.OUT_FENCE_PTR=0\nschedule\nT make 1\nT begin 1\nT make 3\nT lock 1 crtc0\nT make 2\nT lock 1 conn0\nT make 3\nT make 3\nT make 2\nT swap 1\nT claim 0\nT make 3\nT make 2\nT write 0 crtc0\nT flush 0 crtc0\n") ≡ codes "J 1 1\nJ 3 1\nJ 2 1\nJ 3 3\nJ 2 2\nJ 1 2\nJ 3 4\nJ 2 3\nR 1 1 0 made 1000\nR 1 2 5 commit 0\nR 2 1 2 made 1002\nR 2 2 4 made 1003\nR 2 3 7 made 1005\nR 3 1 1 made 1001\nR 3 2 3 EPERM 34\nR 3 3 3 done\nR 3 4 6 made 1004\nD open 15\nT make 1\nT begin 1\nT make 3\nT lock 1 crtc0\nT make 2\nT lock 1 conn0\nT make 3\nT make 3\nT make 2\nT swap 1\nT claim 0\nT make 3\nT make 2\nT write 0 crtc0\nT flush 0 crtc0\n"
unfolding on_machines
random_walk_096 = refl

pub random_walk_014 : replayed traced (codes "kms 1\ncrtcs 1\nplane primary 0 AR24\nplane overlay 0 XR24,AR24,RG16\nconn 0\nconn 0\nconn 0\nconn 0\nconn 0\nconn 0\nconn 0\nconn 0\nclient\nmode m1 4294967295 6 6 6 8 7 6 6 7 7 1 0 0 0 xxxxxxxxxxxxxxxxxxxxxxxxxxxxxxx\nbuffer b2 5 3 AR24 checker e96aedf9 55d7c888 3\naddfb f3 b2\nbuffer b4 2 7 AR24 solid bdaca777\natomic 0x601 18446744073709551615 plane1.FB_ID=@f3 crtc0.MODE_ID=@m1 plane1.SRC_Y=0 plane1.SRC_X=0 plane1.CRTC_W=5 plane1.CRTC_H=3 plane1.CRTC_Y=0 plane1.SRC_W=327680 plane1.CRTC_ID=crtc0 crtc0.ACTIVE=1 plane1.SRC_H=196608 plane1.CRTC_X=5 conn1.CRTC_ID=crtc0\nfence n5\nfence n6\nfence n7\nsignal n6\nfence n8\nschedule\nT make 1\nT make 1\nT make 1\nT make 1\nT begin 1\nT lock 1 plane1\nT lock 1 crtc0\nT lock 1 conn1\nT swap 1\nT make 1\nT claim 0\nT make 1\nT make 1\nT write 0 crtc0\nT write 0 plane1\nT signal 1\nT make 1\n") ≡ codes "J 1 1\nJ 1 2\nJ 1 3\nJ 1 4\nJ 1 5\nJ 1 6\nJ 1 7\nJ 1 8\nJ 1 10\nR 1 1 0 made 1000\nR 1 2 1 made 1001\nR 1 3 2 made 1002\nR 1 4 3 made 1003\nR 1 5 4 commit 0\nR 1 6 5 made 1004\nR 1 7 6 made 1005\nR 1 8 7 made 1006\nR 1 9 8 done\nR 1 10 8 made 1007\nD open 17\nT make 1\nT make 1\nT make 1\nT make 1\nT begin 1\nT lock 1 plane1\nT lock 1 crtc0\nT lock 1 conn1\nT swap 1\nT make 1\nT claim 0\nT make 1\nT make 1\nT write 0 crtc0\nT write 0 plane1\nT signal 1\nT make 1\n"
unfolding on_machines
random_walk_014 = refl

pub random_walk_000 : replayed traced (codes "kms 1\ncrtcs 1\nplane cursor 0 RG16\nplane overlay 0 RG16\nplane primary 0 XR24,AR24,RG16\nconn 0\nconn 0\nconn 0\nconn 0\nconn 0\nconn 0\nconn 0\nconn 0\nclient\nmode m1 4294967295 7 7 9 9 7 4 4 4 5 0 60 5 64 tiny\nbuffer b3 5 7 RG16 checker 561c 345d 4\nmode m4 4294967295 8 8 10 10 0 6 6 7 7 1 4294967295 0 0 8x8\natomic 0x200 18446744073709551615 crtc0.ACTIVE=1 crtc0.MODE_ID=@m4 conn0.CRTC_ID=crtc0\nclient\nmode m2 25200 8 8 10 10 7 1 1 1 2 0 0 5 64 a.b-c_D\ndestroy m2\nmode m5 25200 4 4 5 6 7 5 5 5 6 1 0 0 64 xxxxxxxxxxxxxxxxxxxxxxxxxxxxxxx\nbuffer b6 7 2 AR24 checker 2832dfff f32b54ec 3\nmode m7 1 7 7 7 9 0 3 3 3 4 1 0 0 0 a.b-c_D\nblob w9 ffffffff04000400050006000000080008000800090001003c00000005000000000000007878787878787878787878787878787878787878787878787878787878787800\nschedule\nT make 1\nT make 2\nT make 1\nT make 1\nT make 2\nT make 2\nT make 2\nT begin 1\nT lock 1 conn0\nT make 2\nT lock 1 crtc0\nT refuse 1\nT make 2\n") ≡ codes "J 1 1\nJ 2 1\nJ 1 2\nJ 1 3\nJ 2 2\nJ 2 3\nJ 2 4\nJ 2 5\nJ 2 6\nR 1 1 0 made 1000\nR 1 2 2 made 1002\nR 1 3 3 made 1003\nR 1 4 8 EINVAL 24\nR 2 1 1 made 1001\nR 2 2 4 done\nR 2 3 5 made 1004\nR 2 4 6 made 1005\nR 2 5 7 made 1006\nR 2 6 8 made 1007\nD drained\nT make 1\nT make 2\nT make 1\nT make 1\nT make 2\nT make 2\nT make 2\nT begin 1\nT lock 1 conn0\nT make 2\nT lock 1 crtc0\nT refuse 1\nT make 2\n"
unfolding on_machines
random_walk_000 = refl

pub random_walk_058 : replayed traced (codes "kms 1\ncrtcs 4\nplane overlay 0,1,2,3 XR24,AR24,RG16\nplane cursor 0,1,2,3 XR24,AR24,RG16\nconn 0,1,2,3\nconn 0,2\nconn 0,1,2,3\nconn 0,1,2,3\nclient\nmode m1 25200 4 4 6 6 0 7 7 7 8 0 4294967295 5 0 a.b-c_D\nbuffer b3 5 5 RG16 checker da4d 0f73 1\natomic 0x401 18446744073709551615 crtc1.ACTIVE=1 crtc1.MODE_ID=@m1 conn3.CRTC_ID=crtc1 crtc3.ACTIVE=1 crtc3.MODE_ID=@m1 conn2.CRTC_ID=crtc3\nclient\nmode m4 25200 4 4 6 6 0 7 7 7 8 0 4294967295 5 0 a.b-c_D\nmode m5 4294967295 5 5 7 7 0 6 6 7 7 1 4294967295 0 0 tiny\nbuffer b6 3 5 AR24 ramp\nclient\nblob w2 c263defe14ca0bc0a0474d3b4a483f7c72b32807fce1b6d8bd26b9c295731a4b8d1d162b7e99f50c61cc4c9437af5c78066d67919ef950dae3d2ead23e719ac55aafa73a\nclosefb nosuch\naddfb f7 b3\nbuffer b8 1 4294967295 RG16 ramp\nschedule\nT make 1\nT make 1\nT begin 1\nT lock 1 conn2\nT lock 1 crtc3\nT lock 1 conn3\nT make 2\nT lock 1 crtc1\nT swap 1\nT make 3\nT make 2\nT make 3\nT make 3\nT make 2\nT claim 0\nT make 3\nT write 0 crtc1\nT write 0 crtc3\nT flush 0 crtc1\nT vblank crtc1\nT flush 0 crtc3\nT vblank crtc3\nT hwdone 0\nT cleanup 0\nT return 1\n") ≡ codes "J 1 1\nJ 1 2\nJ 2 1\nJ 1 3\nJ 3 1\nJ 2 2\nJ 2 3\nR 1 1 0 made 1000\nR 1 2 1 made 1001\nR 1 3 3 commit 0\nR 2 1 2 made 1002\nR 2 2 5 made 1004\nR 2 3 6 made 1005\nR 3 1 4 made 1003\nR 3 2 6 ENOENT 33\nR 3 3 6 ENOENT 33\nR 3 4 7 EINVAL 31\nL 1 0 1 4fea5e6a3ec5f5474a26d858bc77b6d7bd3ab864ea02d988683fdc648602b248\nL 3 0 1 4fea5e6a3ec5f5474a26d858bc77b6d7bd3ab864ea02d988683fdc648602b248\nD drained\nT make 1\nT make 1\nT begin 1\nT lock 1 conn2\nT lock 1 crtc3\nT lock 1 conn3\nT make 2\nT lock 1 crtc1\nT swap 1\nT make 3\nT make 2\nT make 3\nT make 3\nT make 2\nT claim 0\nT make 3\nT write 0 crtc1\nT write 0 crtc3\nT flush 0 crtc1\nT vblank crtc1\nT flush 0 crtc3\nT vblank crtc3\nT hwdone 0\nT cleanup 0\nT return 1\n"
unfolding on_machines
random_walk_058 = refl

pub random_walk_081 : replayed traced (codes "kms 1\ncrtcs 1\nplane primary 0 AR24\nplane primary 0 XR24,AR24,RG16\nplane primary 0 XR24,AR24,RG16\nconn 0\nconn 0\nconn 0\nconn 0\nconn 0\nconn 0\nconn 0\nconn 0\nclient\nmode m1 1 2 2 3 4 7 5 5 5 6 0 4294967295 5 64 8x8\nbuffer b2 3 2 AR24 solid 86588a28\nmode m3 1 2 2 3 4 7 5 5 5 6 0 4294967295 5 64 8x8\nmode m4 1 1 1 3 3 0 3 3 4 4 0 60 5 0 8x8\nbuffer b5 3 2 XR24 checker a56e9fd5 f6054632 4\nmode m6 1 3 3 5 5 7 8 8 8 9 1 0 5 0 8x8\naddfb f7 b5\natomic 0x600 0 crtc0.ACTIVE=0 crtc0.MODE_ID=@m3 conn4.CRTC_ID=crtc0 plane1.FB_ID=@f7 plane1.CRTC_ID=crtc0 plane1.CRTC_X=5 plane1.CRTC_Y=0 plane1.CRTC_W=1 plane1.CRTC_H=1 plane1.SRC_X=0 plane1.SRC_Y=65536 plane1.SRC_W=65536 plane1.SRC_H=65536 plane2.FB_ID=@f7 plane2.CRTC_ID=crtc0 plane2.CRTC_X=0 plane2.CRTC_Y=0 plane2.CRTC_W=3 plane2.CRTC_H=2 plane2.SRC_X=0 plane2.SRC_Y=0 plane2.SRC_W=196608 plane2.SRC_H=131072\nclosefb f7\nfence n8\nschedule\nT make 1\nT make 1\nT make 1\nT make 1\nT make 1\nT make 1\nT make 1\nT begin 1\nT lock 1 crtc0\nT lock 1 plane1\nT lock 1 plane2\nT lock 1 conn4\nT swap 1\nT claim 0\nT make 1\nT write 0 crtc0\nT write 0 plane1\nT write 0 plane2\nT make 1\nT flush 0 crtc0\nT hwdone 0\nT cleanup 0\n") ≡ codes "J 1 1\nJ 1 2\nJ 1 3\nJ 1 4\nJ 1 5\nJ 1 6\nJ 1 7\nJ 1 8\nJ 1 9\nJ 1 10\nR 1 1 0 made 1000\nR 1 2 1 made 1001\nR 1 3 2 made 1002\nR 1 4 3 made 1003\nR 1 5 4 made 1004\nR 1 6 5 made 1005\nR 1 7 6 made 1006\nR 1 8 7 commit 0\nR 1 9 8 done\nR 1 10 9 made 1007\nL 0 0 0 off\nD drained\nT make 1\nT make 1\nT make 1\nT make 1\nT make 1\nT make 1\nT make 1\nT begin 1\nT lock 1 crtc0\nT lock 1 plane1\nT lock 1 plane2\nT lock 1 conn4\nT swap 1\nT claim 0\nT make 1\nT write 0 crtc0\nT write 0 plane1\nT write 0 plane2\nT make 1\nT flush 0 crtc0\nT hwdone 0\nT cleanup 0\n"
unfolding on_machines
random_walk_081 = refl

pub random_walk_101 : not_legal_at (codes "kms 1\ncrtcs 2\nplane overlay 0,1 AR24,RG16\nconn 0,1\nconn 0,1\nclient\nmode m1 25200 3 3 5 5 0 2 2 3 3 1 0 0 0 a.b-c_D\nmode m2 25200 4 4 4 6 0 5 5 5 6 0 60 5 64 tiny\nbuffer b3 4096 1 XR24 checker ca7c28f5 00981d74 3\nbuffer b4 4 2 RG16 pixels 252b 8f2d 2bf9 0246 4cb0 e52b 880b 463b\nbuffer b5 3 5 RG16 pixels 5eb3 d076 722a 9b6f be9f 5ab4 4dd2 77f4 1372 8899 36c7 a8e1 9dd7 20f6 a3fd\nmode m6 25200 3 3 5 5 0 2 2 3 3 1 0 0 0 a.b-c_D\nbuffer b7 4097 1 AR24 solid 48fc3cac\nbuffer b8 3 8 AR24 checker cb826bde 48552288 1\nclosefb nosuch\ndestroy m2\nschedule\nT make 1\nT make 1\nT make 1\nT make 1\nT make 1\nT make 1\nT make 1\nT make 1\nT write 0 enc0\nT make 1\n") ≡ Some 9
unfolding on_machines
random_walk_101 = refl

pub random_walk_060 : not_legal_at (codes "kms 1\ncrtcs 2\nplane overlay 0,1 XR24,AR24,RG16\nconn 1\nconn 0,1\nclient\nmode m1 4294967295 7 7 7 9 7 5 5 6 6 0 60 0 64 tiny\natomic 0x401 0 crtc0.MODE_ID=@m1 crtc0.ACTIVE=1 conn1.CRTC_ID=crtc0\nbuffer b4 1 3 AR24 solid bd2f14d4\nmode m5 1 3 3 4 5 7 4 4 5 5 1 0 5 64 tiny\nwait\nmode m7 25200 4 4 6 6 7 2 2 2 3 0 0 5 0 8x8\nclient\nmode m2 4294967295 6 6 6 8 0 8 8 8 9 0 0 5 0 8x8\nmode m3 1 4 4 5 6 7 2 2 3 3 0 0 0 0 8x8\nmode m6 4294967295 5 5 6 7 0 6 6 7 7 0 60 0 0 8x8\nclosefb nosuch\nschedule\nT make 1\nT make 2\nT begin 1\nT lock 1 crtc0\nT lock 1 conn1\nT swap 1\nT claim 0\nT write 0 crtc0\nT flush 0 crtc0\nT vblank crtc0\nT hwdone 0\nT cleanup 0\nT return 1\nT make 1\nT make 2\nT make 2\nT make 1\nT make 2\nT make 1\nT read 1\n") ≡ Some 19
unfolding on_machines
random_walk_060 = refl
