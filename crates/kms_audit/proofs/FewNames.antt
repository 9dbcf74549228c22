-- A well-formed script has fewer names than a number of 32 bits: each command brings at most two, a request two for each
-- assignment, and the commands and their assignments are few.
use Rattle.std.proofs.Common.{◌≡◌, ◌≤◌, ℕ, suc, ◌+◌, ◌*◌, Bool, true, false, not, cond, List, [], ◌∷◌, ◌++◌, length, Option, Some, None}
use Rattle.std.proofs.Common.{refl, sym, subst, arith}
use Rattle.std.specs.Prelude.{◌==◌, ◌||◌, ◌&&◌, ⊤, codes, nat_le, nat_lt, option_map, Ok, Err, if◌then◌else◌}
use Rattle.std.specs.List.{AllByRecursion, list_all}
use Rattle.std.specs.Option.{option_map_or}
use Rattle.std.specs.Str.{bytes_eq}
use Rattle.std.proofs.lemmas.Bool.{not-false}
use Rattle.std.proofs.lemmas.List.{length-map}
use Rattle.kms_laws.proofs.MadeCommands.{IfRead, bind_if, cond_if, map_if, then_if}
use Rattle.kms_model.specs.declared.scripts.Assign.{Assign}
use Rattle.kms_model.specs.declared.scripts.Command.{Command}
use Rattle.kms_model.specs.declared.scripts.Command.TheVariants as command
use Rattle.kms_model.specs.declared.scripts.PropRef.{PropRef}
use Rattle.kms_model.specs.declared.scripts.PropRef.TheVariants.{Known, Unknown}
use Rattle.kms_model.specs.declared.scripts.Script.{Script}
use Rattle.kms_model.specs.declared.scripts.Value.{Value}
use Rattle.kms_model.specs.declared.scripts.Why.{Why}
use Rattle.kms_model.specs.Script.CommandLines.{Name, Names, addfb_read, assign_read, assign_words, assigns_read, atomic_read, blob_read}
use Rattle.kms_model.specs.Script.CommandLines.{buffer_read, command_read, is_over, label_alone, label_read, made, making, making_read}
use Rattle.kms_model.specs.Script.CommandLines.{mode_fields, mode_read, naming_read, or_form, pattern_at, place, property_read, said}
use Rattle.kms_model.specs.Script.CommandLines.{saying, thing_read, unless, value_read}
use Rattle.kms_model.specs.Script.Grammar.{blob_bytes, field_words, format_at, hex_at, int, is_printable, known_property}
use Rattle.kms_model.specs.Script.InputLines.{Row, rows_of}
use Rattle.kms_model.specs.Script.Spelling.{lined, spelt_line, spelt_lines}
use Rattle.kms_model.specs.Script.WellFormed.{IsFitClient, IsFitCommand, IsWellFormed}
use Rattle.kms_model.specs.Script.WholeInput.{Draft, Lined, blank_draft, client_line, clients_in, clients_of, command_line, conn_at}
use Rattle.kms_model.specs.Script.WholeInput.{conn_line, crtcs_at, crtcs_line, first_line, is_nil, later_line, plane_fields, plane_line}
use Rattle.kms_model.specs.Script.WholeInput.{script_in, script_line, version_read}
use Rattle.kms_model.specs.Script.Words.{dec, dec_at, end_at, field_at, from, is_label, label_at, strip, until}

-- Names, one more

one_more : (b : Bool) (n m : Name) (ns more : List Name) → length more ≤ length ns + 1
    → length (if b then m ∷ ns else n ∷ more) ≤ length (n ∷ ns) + 1
one_more true n m ns more few = omega arith
one_more false n m ns more few = omega (arith, few)

said_one : (word : List ℕ) (ns : List Name) → length (said word ns) ≤ length ns + 1
said_one word [] = omega arith
said_one word (n ∷ ns) = one_more (bytes_eq word n.word) n n ns (said word ns) (said_one word ns)

made_one : (word : List ℕ) (ns : List Name) → length (made word ns) ≤ length ns + 1
made_one word [] = omega arith
made_one word (n ∷ ns) = one_more (bytes_eq word n.word) n (record { word = n.word; is_made = true }) ns (made word ns) (made_one word ns)

saying_one : (word : List ℕ) (names : Names) → length (saying word names).all ≤ length names.all + 1
unfolding saying
saying_one word names = said_one word names.all

making_one : (word : List ℕ) (names : Names) → length (making word names).all ≤ length names.all + 1
unfolding making
making_one word names = made_one word names.all

one_of_two : (a b : ℕ) → b ≤ a + 1 → b ≤ a + 2
one_of_two a b l = omega arith

none_of_two : (a : ℕ) → a ≤ a + 2
none_of_two a = omega arith

both_of_two : (a b c : ℕ) → b ≤ a + 1 → c ≤ b + 1 → c ≤ a + 2
both_of_two a b c l h = omega arith

-- Commands

-- how many names a command brings at most
abbrev weight : Command → ℕ
weight (command.Atomic q) = 2 * length q.assigns
weight _ = 2

abbrev Brings : Names → Command × Names → Type 0
Brings names r = length r.1.all ≤ length names.all + weight r.0

buffer_brings : (names : Names) (bytes : List ℕ) → IfRead (buffer_read names bytes) (Brings names)
unfolding buffer_read
buffer_brings names bytes =
    bind_if (label_at bytes) _ (Brings names) (λ label.
    bind_if (dec_at 4294967295 label.1) _ (Brings names) (λ w.
    bind_if (dec_at 4294967295 w.1) _ (Brings names) (λ h.
    bind_if (format_at h.1) _ (Brings names) (λ format.
    bind_if (pattern_at w.0 h.0 format.0 format.1) _ (Brings names) (λ pattern.
    one_of_two (length names.all) (length (making label.0 names).all) (making_one label.0 names))))))

addfb_brings : (names : Names) (bytes : List ℕ) → IfRead (addfb_read names bytes) (Brings names)
unfolding addfb_read
addfb_brings names bytes =
    bind_if (label_at bytes) _ (Brings names) (λ label.
    bind_if (label_alone label.1) _ (Brings names) (λ buffer.
    both_of_two (length names.all) (length (making label.0 names).all) (length (saying buffer (making label.0 names)).all)
    (making_one label.0 names) (saying_one buffer (making label.0 names))))

mode_brings : (names : Names) (bytes : List ℕ) → IfRead (mode_read names bytes) (Brings names)
unfolding mode_read
mode_brings names bytes =
    bind_if (label_at bytes) _ (Brings names) (λ label.
    bind_if (mode_fields label.1) _ (Brings names) (λ mode.
    bind_if (end_at mode.1) _ (Brings names) (λ end.
    one_of_two (length names.all) (length (making label.0 names).all) (making_one label.0 names))))

blob_brings : (names : Names) (bytes : List ℕ) → IfRead (blob_read names bytes) (Brings names)
unfolding blob_read
blob_brings names bytes =
    bind_if (label_at bytes) _ (Brings names) (λ label.
    bind_if (field_at label.1) _ (Brings names) (λ f.
    bind_if (end_at f.1) _ (Brings names) (λ end.
    bind_if (blob_bytes f.0) _ (Brings names) (λ blob.
    one_of_two (length names.all) (length (making label.0 names).all) (making_one label.0 names)))))

fence_brings : (names : Names) (bytes : List ℕ) → IfRead (making_read command.Fence names bytes) (Brings names)
unfolding making_read
fence_brings names bytes =
    bind_if (label_alone bytes) _ (Brings names)
    (λ label. one_of_two (length names.all) (length (making label names).all) (making_one label names))

naming_brings : (named_by : ℕ → Command) → ((l : ℕ) → weight (named_by l) ≡ 2) → (names : Names) (bytes : List ℕ)
    → IfRead (naming_read named_by names bytes) (Brings names)
unfolding naming_read
naming_brings named_by two names bytes =
    bind_if (label_alone bytes) _ (Brings names) (λ label.
    subst (λ n. length (saying label names).all ≤ length names.all + n) (sym (two (place label names)))
    (one_of_two (length names.all) (length (saying label names).all) (saying_one label names)))

-- Requests

property_one : (names : Names) (word : List ℕ) → length (property_read names word).1.all ≤ length names.all + 1
unfolding property_read
property_one names word = by_table (known_property names.profile word) where
  by_table : (o : Option ℕ)
      → length (option_map_or {U = PropRef × Names} (λ id. (Known id, names)) o (Unknown (place word names), saying word names)).1.all ≤
      length names.all + 1
  by_table None = saying_one word names
  by_table (Some id) = omega arith

abbrev ValueBrings : Names → Value × Names → Type 0
ValueBrings names v = length v.1.all ≤ length names.all + 1

none_of_one : (a : ℕ) → a ≤ a + 1
none_of_one a = omega arith

-- what is read where something is there, or else
or_read : {A B : Type 0} (f : A → Option B) (o : Option A) (other : Option B) (P : B → Type 0) → ((x : A) → IfRead (f x) P) → IfRead other P
    → IfRead (option_map_or f o other) P
or_read f None other P each rest = rest
or_read f (Some x) other P each rest = each x

value_brings : (names : Names) (word : List ℕ) → IfRead (value_read names word) (ValueBrings names)
unfolding value_read
value_brings names word =
    or_read _ (strip (codes "@") word) _ (ValueBrings names)
    (λ label. cond_if (is_label label) _ _ (ValueBrings names) (saying_one label names) tt)
    (or_read _ (strip (codes "+") word) _ (ValueBrings names)
    (λ label. cond_if (is_label label) _ _ (ValueBrings names) (making_one label names) tt)
    (or_read _ (strip (codes "crtc") word) _ (ValueBrings names)
    (λ digits. map_if (dec 255 digits) _ (ValueBrings names) (λ i. none_of_one (length names.all)))
    (map_if (int word) _ (ValueBrings names) (λ z. none_of_one (length names.all)))))

abbrev AssignBrings : Names → Assign × Names → Type 0
AssignBrings names a = length a.1.all ≤ length names.all + 2

assign_brings : (names : Names) (word : List ℕ) → IfRead (assign_read names word) (AssignBrings names)
unfolding assign_read
assign_brings names word =
    bind_if (assign_words word) _ (AssignBrings names) (λ w.
    then_if (value_read ((property_read names w.2).1) w.3) _ (ValueBrings (property_read names w.2).1) (AssignBrings names)
    (value_brings (property_read names w.2).1 w.3) (λ v more.
    both_of_two (length names.all) (length (property_read names w.2).1.all) (length v.1.all) (property_one names w.2) more))

abbrev AssignsBring : Names → List Assign × Names → Type 0
AssignsBring names r = length r.1.all ≤ length names.all + 2 * length r.0

none_brought : (a : ℕ) → a ≤ a + 2 * 0
none_brought a = omega arith

more_brought : (a b c n : ℕ) → b ≤ a + 2 → c ≤ b + 2 * n → c ≤ a + 2 * suc n
more_brought a b c n l h = omega arith

assigns_bring : (ws : List (List ℕ)) (names : Names) → IfRead (assigns_read names ws) (AssignsBring names)
assigns_bring [] names = none_brought (length names.all)
assigns_bring (w ∷ ws) names =
    then_if (assign_read names w) _ (AssignBrings names) (AssignsBring names) (assign_brings names w) (λ a first.
    then_if (assigns_read a.1 ws) _ (AssignsBring a.1) (AssignsBring names) (assigns_bring ws a.1) (λ more rest.
    more_brought (length names.all) (length a.1.all) (length more.1.all) (length more.0) first rest))

atomic_brings : (names : Names) (bytes : List ℕ) → IfRead (atomic_read names bytes) (Brings names)
unfolding atomic_read
atomic_brings names bytes =
    bind_if (hex_at bytes) _ (Brings names) (λ flags.
    bind_if (dec_at 18446744073709551615 flags.1) _ (Brings names) (λ user.
    bind_if (field_words user.1) _ (Brings names) (λ words.
    then_if (assigns_read names words) _ (AssignsBring names) (Brings names) (assigns_bring words names) (λ sets brought. brought))))

thing_brings : (names : Names) (keyword bytes : List ℕ) → IfRead (thing_read names keyword bytes) (Brings names)
unfolding thing_read
thing_brings names keyword bytes =
    cond_if (bytes_eq keyword (codes "buffer")) _ _ (Brings names) (buffer_brings names bytes)
    (cond_if (bytes_eq keyword (codes "addfb")) _ _ (Brings names) (addfb_brings names bytes)
    (cond_if (bytes_eq keyword (codes "mode")) _ _ (Brings names) (mode_brings names bytes)
    (cond_if (bytes_eq keyword (codes "blob")) _ _ (Brings names) (blob_brings names bytes) tt)))

label_brings : (names : Names) (keyword bytes : List ℕ) → IfRead (label_read names keyword bytes) (Brings names)
unfolding label_read
label_brings names keyword bytes =
    cond_if (bytes_eq keyword (codes "destroy")) _ _ (Brings names) (naming_brings command.Destroy (λ l. refl) names bytes)
    (cond_if (bytes_eq keyword (codes "closefb")) _ _ (Brings names) (naming_brings command.CloseFb (λ l. refl) names bytes)
    (cond_if (bytes_eq keyword (codes "fence")) _ _ (Brings names) (fence_brings names bytes)
    (cond_if (bytes_eq keyword (codes "signal")) _ _ (Brings names) (naming_brings command.Signal (λ l. refl) names bytes)
    (thing_brings names keyword bytes))))

command_brings : (names : Names) (text : List ℕ) → IfRead (command_read names text) (Brings names)
unfolding command_read
command_brings names text =
    cond_if (bytes_eq (until 32 text) (codes "atomic")) _ _ (Brings names) (atomic_brings names (from 32 text))
    (cond_if (bytes_eq (until 32 text) (codes "wait")) _ _ (Brings names)
    (map_if (end_at (from 32 text)) _ (Brings names) (λ u. none_of_two (length names.all)))
    (label_brings names (until 32 text) (from 32 text)))

-- Scripts

abbrev heavy : List Command → ℕ
heavy [] = 0
heavy (c ∷ cs) = weight c + heavy cs

abbrev all_heavy : List (List Command) → ℕ
all_heavy [] = 0
all_heavy (cs ∷ clients) = heavy cs + all_heavy clients

heavy_last : (cs : List Command) (c : Command) → heavy (cs ++ c ∷ []) ≡ heavy cs + weight c
heavy_last [] c = omega arith
heavy_last (d ∷ cs) c = omega (arith, heavy_last cs c)

all_last : (clients : List (List Command)) (cs : List Command) → all_heavy (clients ++ cs ∷ []) ≡ all_heavy clients + heavy cs
all_last [] cs = omega arith
all_last (ds ∷ clients) cs = omega (arith, all_last clients cs)

-- the names so far are those of the commands so far
abbrev IsFew : Draft → Type 0
IsFew d = length d.names.all ≤ all_heavy (clients_in d)

-- a line leaves it so
abbrev IsFewBehind : Lined → Type 0
IsFewBehind (Ok d) = IsFew d
IsFewBehind (Err why) = ⊤

form_few : {A : Type 0} (o : Option A) (f : A → Lined) → ((x : A) → IsFewBehind (f x)) → IsFewBehind (or_form o f)
form_few None f each = tt
form_few (Some x) f each = each x

read_few : {A : Type 0} (o : Option A) (f : A → Lined) (Q : A → Type 0) → IfRead o Q → ((x : A) → Q x → IsFewBehind (f x))
    → IsFewBehind (or_form o f)
read_few None f Q is each = tt
read_few (Some x) f Q is each = each x is

fault_few : (t : Bool) (why : Why) (other : Lined) → (t ≡ false → IsFewBehind other) → IsFewBehind (unless t why other)
fault_few true why other is = tt
fault_few false why other is = is refl

pick_few : (t : Bool) (a b : Lined) → IsFewBehind a → IsFewBehind b → IsFewBehind (cond t a b)
pick_few true a b one other = one
pick_few false a b one other = other

first_few : (d : Draft) (text : List ℕ) → IsFew d → IsFewBehind (first_line d text)
unfolding first_line
first_few d text is = form_few (version_read text) _ (λ version. is)

crtcs_few : (d : Draft) (text : List ℕ) → IsFew d → IsFewBehind (crtcs_line d text)
unfolding crtcs_line
crtcs_few d text is = pick_few (bytes_eq (until 32 text) (codes "crtcs")) _ _ (form_few (crtcs_at (from 32 text)) _ (λ n. is)) tt

plane_few : (d : Draft) (fields : List ℕ) → IsFew d → IsFewBehind (plane_line d fields)
unfolding plane_line
plane_few d fields is =
    form_few (plane_fields d.crtcs fields) _
    (λ p. fault_few (not (is_nil d.conns)) _ _ (λ e. fault_few (nat_le 16 (length d.planes)) _ _ (λ f. is)))

conn_few : (d : Draft) (fields : List ℕ) → IsFew d → IsFewBehind (conn_line d fields)
unfolding conn_line
conn_few d fields is =
    form_few (conn_at d.crtcs fields) _ (λ mask.
    fault_few (is_nil d.planes || d.has_client) _ _ (λ e. fault_few (nat_le 8 (length d.conns)) _ _ (λ f. is)))

client_few : (d : Draft) (fields : List ℕ) → IsFew d → IsFewBehind (client_line d fields)
unfolding client_line
client_few d fields is =
    form_few (end_at fields) _ (λ end.
    fault_few (is_nil d.conns) _ _ (λ e.
    fault_few (nat_le 16 (length (clients_in d))) _ _ (λ f. omega (arith, is, all_last (clients_in d) []))))

-- one command more of the present client
grown_few : (d : Draft) (r : Command × Names) → IsFew d → d.has_client ≡ true → Brings d.names r
    → IsFew (record d { names = r.1; commands = d.commands ++ r.0 ∷ [] })
grown_few d r is has brings =
    let was : length d.names.all ≤ all_heavy (d.clients ++ d.commands ∷ []) =
    subst (λ b. length d.names.all ≤ all_heavy (d.clients ++ clients_of b d.commands)) has is in
    let grown = all_last d.clients (d.commands ++ r.0 ∷ []) in
    let more : length r.1.all ≤ all_heavy (d.clients ++ (d.commands ++ r.0 ∷ []) ∷ []) =
    omega (arith, was, brings, grown, all_last d.clients d.commands, heavy_last d.commands r.0) in
    subst (λ b. length r.1.all ≤ all_heavy (d.clients ++ clients_of b (d.commands ++ r.0 ∷ []))) (sym has) more

command_few : (d : Draft) (text : List ℕ) → IsFew d → IsFewBehind (command_line d text)
unfolding command_line
command_few d text is =
    read_few (command_read d.names text) _ (Brings d.names) (command_brings d.names text) (λ c brings.
    fault_few (not d.has_client) _ _ (λ has.
    fault_few c.1.is_twice _ _ (λ once.
    fault_few (is_over c.0 || (nat_le 4096 (length d.commands) || nat_lt 4096 c.1.made)) _ _ (λ f.
    grown_few d c is (not-false d.has_client has) brings))))

later_few : (d : Draft) (text : List ℕ) → IsFew d → IsFewBehind (later_line d text)
unfolding later_line
later_few d text is =
    pick_few (bytes_eq (until 32 text) (codes "plane")) _ _ (plane_few d (from 32 text) is)
    (pick_few (bytes_eq (until 32 text) (codes "conn")) _ _ (conn_few d (from 32 text) is)
    (pick_few (bytes_eq (until 32 text) (codes "client")) _ _ (client_few d (from 32 text) is) (command_few d text is)))

line_few : (d : Draft) (text : List ℕ) → IsFew d → IsFewBehind (script_line d text)
unfolding script_line
line_few d text is = pick_few (d.head == 0) _ _ (first_few d text is)
    (pick_few (d.head == 1) _ _ (crtcs_few d text is) (later_few d text is))

lined_few : (l : Lined) → IsFewBehind l → IfRead (lined l) IsFew
lined_few (Ok d) is = is
lined_few (Err why) is = tt

lines_few : (rows : List Row) (d : Draft) → IsFew d → IfRead (spelt_lines d rows) IsFew
lines_few [] d is = cond_if (is_nil d.conns) _ _ IsFew tt is
lines_few (row ∷ rows) d is =
    then_if (spelt_line d row) _ IsFew IsFew
    (cond_if (row.is_ended && list_all is_printable row.text) _ _ IsFew (lined_few (script_line d row.text) (line_few d row.text is)) tt)
    (λ next first. lines_few rows next first)

script_few : (o : Option Draft) (s : Script) → IfRead o IsFew → option_map script_in o ≡ Some s → length s.names ≤ all_heavy s.clients
script_few None s is e = absurd cc
script_few (Some d) s is e =
    let same : script_in d ≡ s = cc in
    subst (λ (x : Script). length x.names ≤ all_heavy x.clients) same (omega (arith, is, length-map d.names.all (λ (n : Name). n.word)))

-- Few commands

command_light : (c : Command) → IsFitCommand c → weight c ≤ 512
command_light (command.Atomic q) fit = omega (arith, fit)
command_light c fit = omega arith

client_light : (cs : List Command) → AllByRecursion IsFitCommand cs → heavy cs ≤ 512 * length cs
client_light [] fit = omega arith
client_light (c ∷ cs) fit = omega (arith, command_light c fit.0, client_light cs fit.1)

all_light : (clients : List (List Command)) → AllByRecursion IsFitClient clients → all_heavy clients ≤ 2097152 * length clients
all_light [] fit = omega arith
all_light (cs ∷ clients) fit = omega (arith, client_light cs fit.0.fit, fit.0.few, all_light clients fit.1)

pub few-names : (s : Script) → IsWellFormed s → length s.names ≤ 33554432
few-names s formed =
    let most = script_few (spelt_lines blank_draft (rows_of formed.bytes)) s
    (lines_few (rows_of formed.bytes) blank_draft (omega arith)) formed.spells in
    omega (arith, most, all_light s.clients formed.clients, formed.few)
