-- Where a script is read of clients with fewer commands, each client has as few, and so there is room for more; with 4096 it is the
-- grammar itself.
use Rattle.std.proofs.Common.{◌≡◌, ℕ, ◌+◌, ◌≤◌, Bool, true, false, cond, List, [], ◌∷◌, ◌++◌, length, Option, Some, None, Result, Ok, Err}
use Rattle.std.proofs.Common.{◌⊎◌, inl, inr, ◌<◌, ◌||◌, refl, sym, ap, subst, arith, ltb-false, leb-false, length-append, ⊎_elim}
use Rattle.std.specs.Prelude.{nat_le, nat_lt, ◌==◌, codes, if◌then◌else◌}
use Rattle.std.specs.List.{AllByRecursion}
use Rattle.std.specs.Str.{bytes_eq}
use Rattle.std.proofs.lemmas.Bool.{le-ltb, or_parts}
use Rattle.kms_model.specs.declared.scripts.Command.{Command}
use Rattle.kms_model.specs.declared.scripts.Script.{Script}
use Rattle.kms_model.specs.declared.scripts.Why.{Why}
use Rattle.kms_model.specs.declared.scripts.Why.TheVariants.{Bytes, Cut, Form, Label, Limit}
use Rattle.kms_model.specs.Script.CommandLines.{command_read, is_over, or_form, unless}
use Rattle.kms_model.specs.Script.FewerCommands.{input_within, lines_within, within}
use Rattle.kms_model.specs.Script.InputLines.{Fault, Row, input_limit, rows_of}
use Rattle.kms_model.specs.Script.Longer.{HasRoomForTwo, commands_of_last, most_before_two}
use Rattle.kms_model.specs.Script.WholeInput.{input, Draft, Lined, blank_draft, client_line, clients_in, clients_of, command_line, conn_at}
use Rattle.kms_model.specs.Script.WholeInput.{conn_line, crtcs_at, crtcs_line, drafted, first_line, is_nil, later_line, line_after}
use Rattle.kms_model.specs.Script.WholeInput.{lines_after, missing_line, or_fault, plane_fields, plane_line, script_in, script_limit}
use Rattle.kms_model.specs.Script.WholeInput.{script_line, sized, version_read}
use Rattle.kms_model.specs.Script.Words.{end_at, from, until}

-- After a line the clients before the present one are those that there were, or with them the one that was the present one; and
-- the present one has no more commands than it had, or at most 4096.
pub record Follows (d next : Draft) : Type 0 where
  pub clients : (next.clients ≡ d.clients) ⊎ (next.clients ≡ clients_in d)
  pub commands : (length next.commands ≤ length d.commands) ⊎ (length next.commands ≤ 4096)

abbrev pub KeepsClients : Draft → Lined → Type 0
KeepsClients d r = (next : Draft) → r ≡ Ok next → Follows d next

ok_kept : (d e : Draft) → Follows d e → KeepsClients d (Ok e)
ok_kept d e follows next is = let same : e ≡ next = cc in subst (Follows d) same follows

none_kept : (d : Draft) (why : Why) → KeepsClients d (Err why)
none_kept d why next is = absurd cc

same_kept : (d e : Draft) → e.clients ≡ d.clients → e.commands ≡ d.commands → KeepsClients d (Ok e)
same_kept d e same commands = ok_kept d e (record { clients = inl same; commands = inl (let n = ap length commands in omega (arith, n)) })

in_form : {A : Type 0} (d : Draft) (o : Option A) (f : A → Lined) → ((x : A) → KeepsClients d (f x)) → KeepsClients d (or_form o f)
in_form d None f all = none_kept d Form
in_form d (Some x) f all = all x

in_unless : (d : Draft) (t : Bool) (why : Why) (r : Lined) → KeepsClients d r → KeepsClients d (unless t why r)
in_unless d true why r keeps = none_kept d why
in_unless d false why r keeps = keeps

where_off : (d : Draft) (t : Bool) (why : Why) (r : Lined) → (t ≡ false → KeepsClients d r) → KeepsClients d (unless t why r)
where_off d true why r keeps = none_kept d why
where_off d false why r keeps = keeps refl

in_choice : (d : Draft) (t : Bool) (r s : Lined) → KeepsClients d r → KeepsClients d s → KeepsClients d (cond t r s)
in_choice d true r s first second = first
in_choice d false r s first second = second

plane_kept : (d : Draft) (fields : List ℕ) → KeepsClients d (plane_line d fields)
unfolding plane_line
plane_kept d fields = in_form d (plane_fields d.crtcs fields) _ (λ p.
    in_unless d _ Form _ (in_unless d _ Limit _ (same_kept d _ refl refl)))

conn_kept : (d : Draft) (fields : List ℕ) → KeepsClients d (conn_line d fields)
unfolding conn_line
conn_kept d fields = in_form d (conn_at d.crtcs fields) _ (λ mask. in_unless d _ Form _ (in_unless d _ Limit _ (same_kept d _ refl refl)))

client_kept : (d : Draft) (fields : List ℕ) → KeepsClients d (client_line d fields)
unfolding client_line
client_kept d fields = in_form d (end_at fields) _ (λ u. in_unless d _ Form _ (in_unless d _ Limit _
    (ok_kept d (record d { clients = clients_in d; has_client = true; commands = [] })
    (record { clients = inr refl; commands = inl (omega arith) }))))

one_more : (commands : List Command) (c : Command) (over made : Bool) → (over || (nat_le 4096 (length commands) || made)) ≡ false
    → length (commands ++ c ∷ []) ≤ 4096
one_more commands c over made none =
    let full = nat_le 4096 (length commands) in
    let few : length commands < 4096 = leb-false 4096 (length commands) (or_parts full made (or_parts over _ none).1).0 in
    let more = length-append commands (c ∷ []) in
    omega (arith, few, more)

command_kept : (d : Draft) (text : List ℕ) → KeepsClients d (command_line d text)
unfolding command_line
command_kept d text = in_form d (command_read d.names text) _ (λ c. in_unless d _ Form _ (in_unless d _ Label _
    (where_off d (is_over c.0 || (nat_le 4096 (length d.commands) || nat_lt 4096 c.1.made)) Limit
    (Ok (record d { names = c.1; commands = d.commands ++ c.0 ∷ [] })) (λ room.
    ok_kept d (record d { names = c.1; commands = d.commands ++ c.0 ∷ [] })
    (record { clients = inl refl; commands = inr (one_more d.commands c.0 (is_over c.0) (nat_lt 4096 c.1.made) room) })))))

script_kept : (d : Draft) (text : List ℕ) → KeepsClients d (script_line d text)
unfolding script_line first_line crtcs_line later_line
script_kept d text =
    in_choice d (d.head == 0) _ _ (in_form d (version_read text) _ (λ version. same_kept d _ refl refl))
    (in_choice d (d.head == 1) _ _
    (in_choice d (bytes_eq (until 32 text) (codes "crtcs")) _ _
    (in_form d (crtcs_at (from 32 text)) _ (λ n. same_kept d _ refl refl)) (none_kept d Form))
    (in_choice d (bytes_eq (until 32 text) (codes "plane")) _ _ (plane_kept d (from 32 text))
    (in_choice d (bytes_eq (until 32 text) (codes "conn")) _ _ (conn_kept d (from 32 text))
    (in_choice d (bytes_eq (until 32 text) (codes "client")) _ _ (client_kept d (from 32 text)) (command_kept d text)))))

sized_kept : (d : Draft) (n : ℕ) (r : Lined) → KeepsClients d r → KeepsClients d (sized n r)
sized_kept d n (Err why) keeps = none_kept d why
sized_kept d n (Ok e) keeps =
    let follows = keeps e refl in
    in_unless d (nat_lt script_limit (e.size + n)) Limit (Ok (record e { size = e.size + n }))
    (ok_kept d (record e { size = e.size + n }) (record { clients = follows.clients; commands = follows.commands }))

pub line_kept : (d : Draft) (row : Row) → KeepsClients d (line_after d row)
unfolding line_after
line_kept d row = in_unless d _ Bytes _ (in_unless d _ Cut _
    (sized_kept d (length row.text + 1) (script_line d row.text) (script_kept d row.text)))

-- Clients with few commands

abbrev pub AreFew : ℕ → List (List Command) → Type 0
AreFew most clients = AllByRecursion (λ commands. length commands ≤ most) clients

few_joined : (most : ℕ) (xs ys : List (List Command)) → AreFew most xs → AreFew most ys → AreFew most (xs ++ ys)
few_joined most [] ys first second = second
few_joined most (x ∷ xs) ys first second = (first.0, few_joined most xs ys first.1 second)

few_present : (most : ℕ) (has : Bool) (commands : List Command) → length commands ≤ most → AreFew most (clients_of has commands)
few_present most true commands few = (few, tt)
few_present most false commands few = tt

few_in : (most : ℕ) (d : Draft) → AreFew most d.clients → length d.commands ≤ most → AreFew most (clients_in d)
few_in most d few present =
    few_joined most d.clients (clients_of d.has_client d.commands) few (few_present most d.has_client d.commands present)

few_next : (most : ℕ) (d next : Draft) → AreFew most d.clients → length d.commands ≤ most
    → (next.clients ≡ d.clients) ⊎ (next.clients ≡ clients_in d) → AreFew most next.clients
few_next most d next few present (inl same) = subst (AreFew most) (sym same) few
few_next most d next few present (inr ended) = subst (AreFew most) (sym ended) (few_in most d few present)

few_further : (most line : ℕ) (r : Lined) (limited : Draft → Result Draft Fault) (d e : Draft)
    → AreFew most d.clients → length d.commands ≤ most → KeepsClients d r
    → ((next : Draft) → AreFew most next.clients → length next.commands ≤ most → limited next ≡ Ok e
    → AreFew most (clients_in e))
    → or_fault line (within most r) limited ≡ Ok e → AreFew most (clients_in e)
few_further most line (Err why) limited d e few present keeps go is = absurd cc
few_further most line (Ok next) limited d e few present keeps go is = by_count (nat_lt most (length next.commands)) refl is
  where
    by_count : (over : Bool) → nat_lt most (length next.commands) ≡ over
        → or_fault line (unless over Limit (Ok next)) limited ≡ Ok e → AreFew most (clients_in e)
    by_count true over is = absurd cc
    by_count false few_now is =
        go next (few_next most d next few present (keeps next refl).clients) (ltb-false most (length next.commands) few_now) is

lines-few : (most : ℕ) (rows : List Row) (d e : Draft) (line : ℕ) → AreFew most d.clients → length d.commands ≤ most
    → lines_within most d line rows ≡ Ok e → AreFew most (clients_in e)
unfolding lines_within lines_after
lines-few most [] d e line few present is = by_conns (is_nil d.conns) is
  where
    by_conns : (none : Bool) → (if none then Err (missing_line line) else Ok d) ≡ Ok e → AreFew most (clients_in e)
    by_conns true is = absurd cc
    by_conns false is = let same : d ≡ e = cc in subst (λ (x : Draft). AreFew most (clients_in x)) same (few_in most d few present)
lines-few most (row ∷ rows) d e line few present is =
    few_further most line (line_after d row) (λ next. lines_within most next (line + 1) rows) d e few present (line_kept d row)
    (λ next few_next present_next. lines-few most rows next e (line + 1) few_next present_next) is

-- each client of a script that is read within fewer commands
pub clients-few : (most : ℕ) (bytes : List ℕ) (s : Script) → input_within most bytes ≡ Ok s → AreFew most s.clients
unfolding input_within
clients-few most bytes s is = by_size (nat_lt input_limit (length bytes)) is
  where
    by_lines : (r : Result Draft Fault) → lines_within most blank_draft 1 (rows_of bytes) ≡ r → drafted r ≡ Ok s
        → AreFew most s.clients
    by_lines (Ok d) same is =
        let one : script_in d ≡ s = cc in
        subst (λ (x : Script). AreFew most x.clients) one
        (lines-few most (rows_of bytes) blank_draft d 1 tt (omega arith) same)
    by_lines (Err fault) same is = absurd cc

    by_size : (long : Bool)
        → (if long then Err (record { line = 0; why = Limit }) else drafted (lines_within most blank_draft 1 (rows_of bytes))) ≡ Ok s
        → AreFew most s.clients
    by_size true is = absurd cc
    by_size false is = by_lines (lines_within most blank_draft 1 (rows_of bytes)) refl is

few_last : (most : ℕ) (clients : List (List Command)) → AreFew most clients → length (commands_of_last clients) ≤ most
few_last most [] few = omega arith
few_last most (commands ∷ []) few = few.0
few_last most (commands ∷ next ∷ clients) few = few_last most (next ∷ clients) few.1

-- so a script that is read within two commands fewer has room for two
pub has-room : (bytes : List ℕ) (s : Script) → input_within most_before_two bytes ≡ Ok s → HasRoomForTwo s
has-room bytes s is = few_last most_before_two s.clients (clients-few most_before_two bytes s is)

-- With 4096 commands it is the grammar itself

pub same_further : {A : Type 0} (line : ℕ) (r : Lined) (limited free : Draft → Result A Fault) (d : Draft)
    → length d.commands ≤ 4096 → KeepsClients d r
    → ((next : Draft) → length next.commands ≤ 4096 → limited next ≡ free next)
    → or_fault line (within 4096 r) limited ≡ or_fault line r free
same_further line (Err why) limited free d few keeps same = refl
same_further line (Ok next) limited free d few keeps same =
    let follows = keeps next refl in
    let most : length next.commands ≤ 4096 = ⊎_elim (λ fewer. omega (arith, fewer, few)) (λ known. known) follows.commands in
    rw (le-ltb 4096 (length next.commands) most) (same next most)

lines-same : (rows : List Row) (d : Draft) (line : ℕ) → length d.commands ≤ 4096
    → lines_within 4096 d line rows ≡ lines_after d line rows
unfolding lines_within lines_after
lines-same [] d line few = refl
lines-same (row ∷ rows) d line few =
    same_further line (line_after d row) (λ next. lines_within 4096 next (line + 1) rows) (λ next. lines_after next (line + 1) rows)
    d few (line_kept d row)
    (λ next few_next. lines-same rows next (line + 1) few_next)

pub input-same : (bytes : List ℕ) → input_within 4096 bytes ≡ input bytes
unfolding input_within input
input-same bytes =
    ap (λ r. if nat_lt input_limit (length bytes) then Err (record { line = 0; why = Limit }) else drafted r)
    (lines-same (rows_of bytes) blank_draft 1 (omega arith))
