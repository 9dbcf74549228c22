-- The text of the lines that make a draft, and what a line more adds to it.
use Rattle.std.proofs.Common.{◌≡◌, ℕ, zero, suc, ◌≤◌, Bool, true, List, [], ◌∷◌, ◌++◌, map, append_assoc, append-nil, refl, sym, ap, ◌∙◌}
use Rattle.std.proofs.Common.{arith}
use Rattle.std.specs.Prelude.{codes}
use Rattle.std.specs.Fmt.{decimal}
use Rattle.std.specs.List.{flat_map}
use Rattle.std.proofs.lemmas.Grind.{flat_map-append}
use Rattle.kms_model.specs.declared.objects.PlaneInfo.{PlaneInfo}
use Rattle.kms_model.specs.declared.scripts.Command.{Command}
use Rattle.kms_model.specs.Script.CommandLines.{words_in}
use Rattle.kms_model.specs.Report.TextLines.{line}
use Rattle.kms_model.specs.Script.WholeInput.{Draft, clients_in, clients_of, script_in}
use Rattle.kms_model.specs.Script.Spelling.{text_of, spelt_plane, conn_words, command_words, client_lines, spelling}

-- the first line
abbrev pub kms_words : ℕ → List (List ℕ)
kms_words version = codes "kms" ∷ decimal version ∷ []

-- the first two lines
abbrev pub head_text : ℕ → ℕ → List ℕ
head_text version crtcs = line (kms_words version) ++ line (codes "crtcs" ∷ decimal crtcs ∷ [])

-- lines of one kind
abbrev pub lines_text : {A : Type 0} → (A → List (List ℕ)) → List A → List ℕ
lines_text words_of xs = text_of (map words_of xs)

-- the lines of a client
abbrev pub client_text : List (List ℕ) → List Command → List ℕ
client_text all commands = text_of (client_lines all commands)

-- the lines of a device and of its clients
abbrev pub whole : List ℕ → List ℕ → List ℕ → List ℕ → List ℕ
whole head planes conns clients = head ++ (planes ++ (conns ++ clients))

-- the lines of a draft by kinds
abbrev pub parts : List (List ℕ) → Draft → List ℕ
parts all d = whole (head_text d.names.profile d.crtcs) (lines_text spelt_plane d.planes) (lines_text conn_words d.conns)
    (flat_map (client_text all) (clients_in d))

-- what stands after so many of the first two lines
abbrev by_head : ℕ → ℕ → List ℕ → List ℕ
by_head version zero later = []
by_head version (suc zero) later = line (kms_words version)
by_head version (suc (suc n)) later = later

-- the text of a draft, with all names of the script that it begins
abbrev pub draft_text : List (List ℕ) → Draft → List ℕ
draft_text all d = by_head d.names.profile d.head (parts all d)

-- Parts with a line more behind them

-- a line more of a kind
line_more : {A : Type 0} (words_of : A → List (List ℕ)) (xs : List A) (x : A)
    → lines_text words_of (xs ++ x ∷ []) ≡ lines_text words_of xs ++ line (words_of x)
line_more words_of [] x = append-nil (line (words_of x))
line_more words_of (y ∷ ys) x = ap (λ (bs : List ℕ). line (words_of y) ++ bs) (line_more words_of ys x) ∙ sym
    (append_assoc (line (words_of y)) (lines_text words_of ys) (line (words_of x)))

-- bytes behind the planes, where nothing follows
planes_end : (head planes more : List ℕ) → whole head planes [] [] ++ more ≡ whole head (planes ++ more) [] []
planes_end head planes more = simp (append-nil, append_assoc) refl

-- a plane more, where there are neither connectors nor clients
pub plane_more : (all : List (List ℕ)) (head : List ℕ) (planes : List PlaneInfo) (p : PlaneInfo) (conns : List ℕ)
    (clients : List (List Command)) → conns ≡ [] → clients ≡ []
    → whole head (lines_text spelt_plane planes) (lines_text conn_words conns) (flat_map (client_text all) clients) ++ line (spelt_plane p)
    ≡ whole head (lines_text spelt_plane (planes ++ p ∷ [])) (lines_text conn_words conns) (flat_map (client_text all) clients)
plane_more all head planes p conns clients no_conns none =
    rw (no_conns, none, line_more spelt_plane planes p) (planes_end head (lines_text spelt_plane planes) (line (spelt_plane p)))

-- bytes behind the connectors, where nothing follows
conns_end : (head planes conns more : List ℕ) → whole head planes conns [] ++ more ≡ whole head planes (conns ++ more) []
conns_end head planes conns more = simp (append-nil, append_assoc) refl

-- a connector more, where there are no clients
pub conn_more : (all : List (List ℕ)) (head planes conns : List ℕ) (mask : ℕ) (clients : List (List Command)) → clients ≡ []
    → whole head planes (lines_text conn_words conns) (flat_map (client_text all) clients) ++ line (conn_words mask)
    ≡ whole head planes (lines_text conn_words (conns ++ mask ∷ [])) (flat_map (client_text all) clients)
conn_more all head planes conns mask clients none =
    rw (none, line_more conn_words conns mask) (conns_end head planes (lines_text conn_words conns) (line (conn_words mask)))

-- bytes behind the clients
clients_end : (head planes conns clients more : List ℕ)
    → whole head planes conns clients ++ more ≡ whole head planes conns (clients ++ more)
clients_end head planes conns clients more = simp append_assoc refl

-- the bytes of an item more
one_more : {A : Type 0} (f : A → List ℕ) (xs : List A) (x : A) → flat_map f (xs ++ x ∷ []) ≡ flat_map f xs ++ f x
one_more f xs x = flat_map-append f xs (x ∷ []) ∙ ap (λ (bs : List ℕ). flat_map f xs ++ bs) (append-nil (f x))

-- a client more, with no commands yet
pub client_more : (all : List (List ℕ)) (head planes conns : List ℕ) (clients : List (List Command))
    → whole head planes conns (flat_map (client_text all) clients) ++ line (codes "client" ∷ [])
    ≡ whole head planes conns (flat_map (client_text all) (clients ++ [] ∷ []))
client_more all head planes conns clients =
    clients_end head planes conns (flat_map (client_text all) clients) (line (codes "client" ∷ [])) ∙ ap (whole head planes conns)
    (sym (one_more (client_text all) clients []))

-- a command more of the last client
pub command_more : (all : List (List ℕ)) (head planes conns : List ℕ) (clients : List (List Command)) (has : Bool) (commands : List Command)
    (c : Command) → has ≡ true
    → whole head planes conns (flat_map (client_text all) (clients ++ clients_of has commands)) ++ line (command_words all c)
    ≡ whole head planes conns (flat_map (client_text all) (clients ++ clients_of has (commands ++ c ∷ [])))
command_more all head planes conns clients has commands c is =
    let before : List ℕ = flat_map (client_text all) clients in
    let last : client_text all (commands ++ c ∷ []) ≡ client_text all commands
    ++ line (command_words all c) = ap (λ (bs : List ℕ). line (codes "client" ∷ []) ++ bs) (line_more (command_words all) commands c) in
    rw (is, one_more (client_text all) clients commands, one_more (client_text all) clients (commands ++ c ∷ []), last)
    (clients_end head planes conns (before ++ client_text all commands) (line (command_words all c)) ∙ ap (whole head planes conns)
    (append_assoc before (client_text all commands) (line (command_words all c))))

-- A line behind the first two

-- behind the first two lines stand all parts
late : (version n : ℕ) (later : List ℕ) → 2 ≤ n → by_head version n later ≡ later
late version zero later le = absurd (omega arith)
late version (suc zero) later le = absurd (omega arith)
late version (suc (suc n)) later le = refl

-- a line behind the first two adds its words
pub late_line : (all : List (List ℕ)) (d next : Draft) (words : List (List ℕ)) (text : List ℕ) → 2 ≤ d.head → next.head ≡ d.head
    → line words ≡ text ++ 10 ∷ [] → parts all d ++ line words ≡ parts all next
    → draft_text all d ++ (text ++ 10 ∷ []) ≡ draft_text all next
late_line all d next words text le same spelt grown =
    ap (λ (bs : List ℕ). bs ++ (text ++ 10 ∷ [])) (late d.names.profile d.head (parts all d) le) ∙ ap (λ (bs : List ℕ). parts all d ++ bs)
    (sym spelt) ∙ grown
    ∙ sym (late next.names.profile d.head (parts all next) le) ∙ ap (λ n. by_head next.names.profile n (parts all next)) (sym same)

-- The whole script

-- the lines of all clients are each client's lines
texts_of : (all : List (List ℕ)) (clients : List (List Command))
    → text_of (flat_map (client_lines all) clients) ≡ flat_map (client_text all) clients
texts_of all [] = refl
texts_of all (c ∷ cs) = flat_map-append line (client_lines all c) (flat_map (client_lines all) cs) ∙ ap
    (λ (bs : List ℕ). client_text all c ++ bs) (texts_of all cs)

-- lines in a row, by kinds
in_parts : (k c : List (List ℕ)) (ps cs more : List (List (List ℕ)))
    → text_of (k ∷ (c ∷ (ps ++ cs)) ++ more) ≡ whole (line k ++ line c) (text_of ps) (text_of cs) (text_of more)
in_parts k c ps cs more =
    rw (append_assoc ps cs more, flat_map-append line ps (cs ++ more), flat_map-append line cs more)
    (sym (append_assoc (line k) (line c) (text_of ps ++ (text_of cs ++ text_of more))))

-- the text of a whole draft is that of its script
pub script_text : (d : Draft) → 2 ≤ d.head → draft_text (words_in d.names) d ≡ spelling (script_in d)
script_text d le =
    let all : List (List ℕ) = words_in d.names in
    let second : List (List ℕ) = codes "crtcs" ∷ decimal d.crtcs ∷ [] in
    late d.names.profile d.head (parts all d) le
    ∙ ap (whole (head_text d.names.profile d.crtcs) (lines_text spelt_plane d.planes) (lines_text conn_words d.conns))
    (sym (texts_of all (clients_in d)))
    ∙ sym (in_parts (kms_words d.names.profile) second (map spelt_plane d.planes) (map conn_words d.conns)
    (flat_map (client_lines all) (clients_in d)))
