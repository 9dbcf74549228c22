-- When the J and R lines of a report are right, by the device of one thread: each entry of the journal is accepted after those
-- before it, and each reply is that device's at its place. This device's own.
use Rattle.std.specs.Prelude.{ℕ, ◌+◌, ◌*◌, ◌%◌, Bool, true, false, not, ◌&&◌, ◌||◌, ◌==◌, nat_lt, nat_le, List, [], ◌∷◌, ◌++◌, length, map}
use Rattle.std.specs.Prelude.{reverse, take, is_none, is_some, Option, Some, None, option_map, if◌then◌else◌}
use Rattle.std.specs.List.{last_or, list_all, list_any, position}
use Rattle.std.specs.Option.{option_map_or}
use Rattle.kms_model.specs.declared.objects.Topology.{Topology}
use Rattle.kms_model.specs.declared.replies.Answered.{Answered}
use Rattle.kms_model.specs.declared.replies.Event.{Event}
use Rattle.kms_model.specs.declared.replies.Reply.{Reply}
use Rattle.kms_model.specs.declared.replies.Reply.TheVariants as reply
use Rattle.kms_model.specs.declared.reports.Report.{Report}
use Rattle.kms_model.specs.declared.scripts.Command.{Command}
use Rattle.kms_model.specs.declared.scripts.Command.TheVariants as command
use Rattle.kms_model.specs.declared.scripts.Request.{Request}
use Rattle.kms_model.specs.declared.scripts.Script.{Script}
use Rattle.kms_model.specs.declared.worlds.World.{World}
use Rattle.kms_model.specs.Headline.{entry_answered}
use Rattle.kms_model.specs.Device.Execution.{execute}
use Rattle.kms_model.specs.Device.Serial.{Entry, command_of, execute_in, is_accepted, serial}
use Rattle.kms_model.specs.Device.World.{start}
use Rattle.kms_model.specs.Machine.Commits.{has_number, lockable, previous}
use Rattle.kms_model.specs.Machine.State.{Commit, has_value, request_in}
use Rattle.kms_model.specs.Machine.Steps.{is_signal, is_wait}
use Rattle.kms_model.specs.Request.Flags.{is_nonblock, is_test, wants_event}
use Rattle.kms_model.specs.Request.Named.{named}
use Rattle.kms_model.specs.Request.Touched.{touches}
use Rattle.kms_model.specs.Request.Verdict.{verdict}

-- The place, from 0, of the first of some items that fails a test of the items before it and of itself. The first of them
-- stands behind others.
unfoldable pub first_off : {A : Type 0} → (List A → A → Bool) → List A → List A → Option ℕ
first_off test before [] = None
first_off test before (x ∷ xs) =
    if test before x then option_map (λ place. place + 1) (first_off test (before ++ x ∷ []) xs) else Some 0

-- Entries: the J lines

abbrev pub entry_from : ℕ × ℕ → Entry
entry_from e = record { client = e.0; command = e.1 }

abbrev pub entries_in : Report → List Entry
entries_in r = map entry_from r.journal

-- the world of the device of one thread after the first p entries
abbrev pub world_at : Script → Report → ℕ → World
world_at s r p = serial s (take p (entries_in r))

-- a command's number is above each of its client among the entries before it
abbrev pub is_above : List Entry → Entry → Bool
is_above before e = list_all (λ other. not (other.client == e.client) || nat_lt other.command e.command) before

-- a command is there, may be an entry, and is accepted in a world
abbrev pub is_entered_in : Topology → World → ℕ → Option Command → Bool
is_entered_in t w client None = false
is_entered_in t w client (Some c) = not (is_wait c) && (not (is_signal c) && is_accepted (execute t w client c).reply)

-- a J line, by the entries before it
unfoldable pub entry_is_right : Script → List Entry → Entry → Bool
entry_is_right s before e = is_above before e && is_entered_in s.topology (serial s before) e.client (command_of s e)

-- Commits: the entries that are requests

abbrev pub commit_of_request : World → Entry → Option Request → List Commit
commit_of_request w e None = []
commit_of_request w e (Some q) = record { client = e.client; command = e.command; request = q; world = w } ∷ []

unfoldable pub commits_from : Script → World → List Entry → List Commit
commits_from s w [] = []
commits_from s w (e ∷ es) =
    commit_of_request w e (request_in (command_of s e))
    ++ commits_from s (execute_in s.topology w e.client (command_of s e)) es

-- the commits of a journal, the newest first, as a machine keeps them
abbrev pub commits_of : Script → List Entry → List Commit
commits_of s journal = reverse (commits_from s (start s.topology) journal)

-- the last commit of a journal that touched an object
unfoldable pub last_touch : Script → List Entry → ℕ → Option ℕ
last_touch s journal object = let cs = commits_of s journal in previous s.topology cs (length cs) object

-- Replies: the R lines

abbrev pub answer_from : ℕ × ℕ × ℕ × Reply → Answered
answer_from a = record { client = a.0; command = a.1; place = a.2; reply = a.3 }

abbrev pub answers_in : Report → List Answered
answers_in r = map answer_from r.replies

abbrev pub is_answer_to : Entry → Answered → Bool
is_answer_to e a = (a.client == e.client) && (a.command == e.command)

-- the number of entries before the one that a reply answers; none where it answers no entry
abbrev pub entry_place : Report → Answered → Option ℕ
entry_place r a = position (λ e. is_answer_to e a) (entries_in r)

abbrev pub is_to_entry : Report → Answered → Bool
is_to_entry r a = is_some (entry_place r a)

-- An R line stands in the order of clients and commands. Behind a line of the same client it is of the next command, at no
-- lower place, and at a higher one where that line is of an entry; else its client is higher, and it is of the first command.
abbrev pub is_in_turn : Report → Option Answered → Answered → Bool
is_in_turn r None a = a.command == 1
is_in_turn r (Some b) a =
    if b.client == a.client
    then (a.command == b.command + 1) && (if is_to_entry r b then nat_lt b.place a.place else nat_le b.place a.place)
    else nat_lt b.client a.client && (a.command == 1)

-- its place is one in the journal, and that of an entry is the entry's
abbrev pub has_place : Report → Answered → Bool
has_place r a = nat_le a.place (length (entries_in r)) && option_map_or (λ place. a.place == place) (entry_place r a) true

-- an entry has an R line, here or further on
abbrev pub has_answer : Report → Entry → Bool
has_answer r e = list_any (is_answer_to e) (answers_in r)

-- each entry of a client has one
abbrev pub client_is_whole : Report → ℕ → Bool
client_is_whole r client = list_all (λ e. not (e.client == client) || has_answer r e) (entries_in r)

-- each client with an entry has an R line
abbrev pub no_client_is_silent : Report → Bool
no_client_is_silent r = list_all (λ e. list_any (λ a. a.client == e.client) (answers_in r)) (entries_in r)

-- The first line behind those of a client may stand there: that client is whole, and none is silent.
abbrev pub may_come_behind : Report → Option Answered → Answered → Bool
may_come_behind r None a = true
may_come_behind r (Some b) a = (b.client == a.client) || (client_is_whole r b.client && no_client_is_silent r)

abbrev pub same_event : Event → Event → Bool
same_event e f = (e.user_data == f.user_data) && ((e.sequence == f.sequence) && (e.crtc == f.crtc))

abbrev pub same_reply : Reply → Reply → Bool
same_reply (reply.Made m) (reply.Made n) = m == n
same_reply reply.Done reply.Done = true
same_reply (reply.Commit m) (reply.Commit n) = m == n
same_reply reply.Tested reply.Tested = true
same_reply (reply.Refused m) (reply.Refused n) = m.0 == n.0
same_reply (reply.Space m) (reply.Space n) = m == n
same_reply (reply.Busy a m) (reply.Busy b n) = (a.0 == b.0) && (m == n)
same_reply (reply.Denied m) (reply.Denied n) = m == n
same_reply (reply.Event e) (reply.Event f) = same_event e f
same_reply reply.NoEvent reply.NoEvent = true
same_reply _ _ = false

-- A request that the verdict lets through, and that is no test, may yet be refused after the first entries of a journal: for
-- want of space, where its events come on top of others of 32 bytes each, at most 4096, and pass 4096; or as busy, for an
-- object of the device that it touches, and with the last commit that touched it.
abbrev pub may_be_refused_late : Script → List Entry → World → Request → Reply → Bool
may_be_refused_late s journal w q (reply.Space used) =
    wants_event q.flags && ((used % 32 == 0) && (nat_le used 4096 && nat_lt 4096 (used + 32 * length (named s.topology w q))))
may_be_refused_late s journal w q (reply.Busy object k) =
    is_nonblock q.flags
    && (has_number (lockable s.topology) object.0 && (touches s.topology w q object.0 && has_value k (last_touch s journal object.0)))
may_be_refused_late s journal w q _ = false

abbrev pub is_refused_late_at : Script → List Entry → Request → Reply → Bool
is_refused_late_at s journal q answer =
    let w = serial s journal in
    is_none (verdict s.topology w q) && (not (is_test q.flags) && may_be_refused_late s journal w q answer)

-- The reply is the device's, which accepts nothing but entries.
abbrev pub is_devices_reply : Script → Report → Answered → Command → Bool
is_devices_reply s r a c =
    let executed = (execute s.topology (world_at s r a.place) a.client c).reply in
    same_reply a.reply executed && (is_to_entry r a || not (is_accepted executed))

-- `wait` reads an event, or is told that there is none.
abbrev pub is_told : Reply → Bool
is_told (reply.Event e) = true
is_told reply.NoEvent = true
is_told _ = false

-- The reply to a command is that of the device of one thread at its place. A request that is no entry may also be refused
-- late. A `signal` is done and is no entry. What `wait` reads is told elsewhere (see the E lines).
abbrev pub reply_is_right_to : Script → Report → Answered → Option Command → Bool
reply_is_right_to s r a None = false
reply_is_right_to s r a (Some command.Wait) = is_told a.reply
reply_is_right_to s r a (Some (command.Signal label)) =
    same_reply a.reply (execute s.topology (world_at s r a.place) a.client (command.Signal label)).reply
reply_is_right_to s r a (Some (command.Atomic q)) =
    is_devices_reply s r a (command.Atomic q)
    || (not (is_to_entry r a) && is_refused_late_at s (take a.place (entries_in r)) q a.reply)
reply_is_right_to s r a (Some c) = is_devices_reply s r a c

unfoldable pub reply_is_right : Script → Report → Answered → Bool
reply_is_right s r a = reply_is_right_to s r a (command_of s (entry_answered a))

-- an R line, by the lines before it
unfoldable pub answer_is_right : Script → Report → List Answered → Answered → Bool
answer_is_right s r before a =
    is_in_turn r (last_or None before) a && (has_place r a && (may_come_behind r (last_or None before) a && reply_is_right s r a))

-- each entry has an R line: so the first line that is no J line and no R line may stand there
unfoldable pub answers_are_whole : Report → Bool
answers_are_whole r = list_all (has_answer r) (entries_in r)
