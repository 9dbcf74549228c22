-- A line that may stand where it stands is spelt as what it adds to the draft.
use Rattle.std.proofs.Common.{◌≡◌, ℕ, ◌<◌, ◌≤◌, inl, inr, true, false, List, [], ◌∷◌, ◌++◌, append-nil, Some, refl, sym, ap, ◌∙◌, subst}
use Rattle.std.proofs.Common.{arith}
use Rattle.std.specs.Prelude.{codes}
use Rattle.std.specs.Fmt.{decimal, digits}
use Rattle.std.specs.List.{flat_map}
use Rattle.std.specs.Str.{bytes_eq}
use Rattle.std.proofs.lemmas.Slice.Eq.{bytes_eq-Decides}
use Rattle.kms_model.specs.declared.objects.PlaneInfo.{PlaneInfo}
use Rattle.kms_model.specs.declared.scripts.Command.{Command}
use Rattle.kms_model.specs.Script.CommandLines.{Names, command_read}
use Rattle.kms_model.specs.Report.TextLines.{line}
use Rattle.kms_model.specs.Script.WholeInput.{Draft, is_nil, clients_in, version_read}
use Rattle.kms_model.specs.Script.Spelling.{spelt_plane, conn_words, command_words}
use Rattle.kms_script.proofs.Accepted.{either_ok, nil_is}
use Rattle.kms_script.proofs.DraftText.{head_text, kms_words, whole, lines_text, draft_text, client_text, plane_more, conn_more}
use Rattle.kms_script.proofs.DraftText.{client_more, command_more, late_line}
use Rattle.kms_script.proofs.Inverted.{if_some, some_same}
use Rattle.kms_script.proofs.NamesBegin.{Begins}
use Rattle.kms_script.proofs.ProfileStays.{command_stays}
use Rattle.kms_script.proofs.SpeltCommands.{command_spelt, names_begin}

-- what stands of a draft between two lines: planes come behind the first two lines, and clients behind connectors
pub record IsInOrder (d : Draft) : Type 0 where
  pub crtcs : d.crtcs ≤ 4
  pub planes : d.head < 2 → d.planes ≡ []
  pub conns : d.head < 2 → d.conns ≡ []
  pub late_client : is_nil d.conns ≡ true → d.has_client ≡ false
  pub first_client : d.has_client ≡ false → d.clients ≡ []

-- a line behind a draft's text makes the next draft's, with all names of the script that both begin
pub record IsSpelt (all : List (List ℕ)) (d next : Draft) (text : List ℕ) : Type 0 where
  pub begins : Begins d.names all
  pub grown : draft_text all d ++ (text ++ 10 ∷ []) ≡ draft_text all next

-- a line leads from a draft in order to the next, and is spelt as what it adds
pub record Follows (d next : Draft) (text : List ℕ) : Type 0 where
  pub ordered : IsInOrder next
  pub spelt : (all : List (List ℕ)) → Begins next.names all → IsSpelt all d next text

-- with no present client there is none
no_clients : (d : Draft) → IsInOrder d → d.has_client ≡ false → clients_in d ≡ []
no_clients d o none = rw (none, o.first_client none) refl

-- The first two lines

-- a version as it stands in the first line
one : decimal 1 ≡ codes "1"
unfolding digits
one = refl

two : decimal 2 ≡ codes "2"
unfolding digits
two = refl

version_one : (text : List ℕ) → text ≡ codes "kms 1" → line (kms_words 1) ≡ text ++ 10 ∷ []
version_one text is = rw (is, one) refl

version_two : (text : List ℕ) → text ≡ codes "kms 2" → line (kms_words 2) ≡ text ++ 10 ∷ []
version_two text is = rw (is, two) refl

version_spelt : (text : List ℕ) (version : ℕ) → version_read text ≡ Some version → line (kms_words version) ≡ text ++ 10 ∷ []
version_spelt text version e = elim (either_ok (bytes_eq text (codes "kms 1")) _ _ (Some version) e) [
  | inl first ↦ subst (λ v. line (kms_words v) ≡ text ++ 10 ∷ []) (some_same 1 version first.1)
      (version_one text ((bytes_eq-Decides text (codes "kms 1")).0 first.0))
  | inr other ↦ (let second = if_some (bytes_eq text (codes "kms 2")) (Some 2) version other.1 in
      subst (λ v. line (kms_words v) ≡ text ++ 10 ∷ []) (some_same 2 version second.1)
      (version_two text ((bytes_eq-Decides text (codes "kms 2")).0 second.0)))
]

-- a draft of a version behind the first line
abbrev pub with_version : Draft → ℕ → Draft
with_version d version = record d { head = 1; names = record d.names { profile = version } }

-- names begin whatever their profile is
pub any_profile : (all : List (List ℕ)) (names : Names) (version : ℕ) → Begins (record names { profile = version }) all → Begins names all
any_profile all names version b = record { more = b.more; whole = b.whole }

first_grown : (all : List (List ℕ)) (d : Draft) (version : ℕ) (text : List ℕ) → d.head ≡ 0 → version_read text ≡ Some version
    → draft_text all d ++ (text ++ 10 ∷ []) ≡ draft_text all (with_version d version)
first_grown all d version text zeroth read = rw (zeroth) (sym (version_spelt text version read))

-- `kms V`
pub first_follows : (d : Draft) (version : ℕ) (text : List ℕ) → IsInOrder d → d.head ≡ 0 → version_read text ≡ Some version
    → Follows d (with_version d version) text
first_follows d version text o zeroth read = record {
  ordered = record {
    crtcs = o.crtcs;
    planes = λ lt. o.planes (omega arith);
    conns = λ lt. o.conns (omega arith);
    late_client =
        o.late_client;
    first_client = o.first_client;
  };
  spelt = λ all b. record { begins = any_profile all d.names version b; grown = first_grown all d version text zeroth read };
}

-- the text behind the second line
second_text : (all : List (List ℕ)) (d : Draft) (n : ℕ) (text : List ℕ) → IsInOrder d → d.head ≡ 1
    → line (codes "crtcs" ∷ decimal n ∷ []) ≡ text ++ 10 ∷ []
    → draft_text all d ++ (text ++ 10 ∷ []) ≡ draft_text all (record d { head = 2; crtcs = n })
second_text all d n text o first spelt =
    let few : d.head < 2 = omega arith in
    let conns : d.conns ≡ [] = o.conns few in
    let none : clients_in d ≡ [] = no_clients d o (o.late_client (ap is_nil conns)) in
    rw (first, ← spelt, o.planes few, conns, none) (sym (append-nil (head_text d.names.profile n)))

-- `crtcs N`
pub second_follows : (d : Draft) (n : ℕ) (text : List ℕ) → IsInOrder d → d.head ≡ 1 → n ≤ 4
    → line (codes "crtcs" ∷ decimal n ∷ []) ≡ text ++ 10 ∷ [] → Follows d (record d { head = 2; crtcs = n }) text
second_follows d n text o first few spelt = record {
  ordered = record {
    crtcs = few;
    planes = λ lt. absurd (omega arith);
    conns = λ lt. absurd (omega arith);
    late_client = o.late_client;
    first_client = o.first_client;
  };
  spelt = λ all b. record { begins = b; grown = second_text all d n text o first spelt };
}

-- The lines behind them

-- a plane, before the first connector
pub plane_follows : (d : Draft) (p : PlaneInfo) (text : List ℕ) → IsInOrder d → 2 ≤ d.head → is_nil d.conns ≡ true
    → line (spelt_plane p) ≡ text ++ 10 ∷ [] → Follows d (record d { planes = d.planes ++ p ∷ [] }) text
plane_follows d p text o late none spelt = record {
  ordered = record {
    crtcs = o.crtcs;
    planes = λ lt. absurd (omega arith);
    conns = λ lt. absurd (omega arith);
    late_client = o.late_client;
    first_client = o.first_client;
  };
  spelt = λ all b. record {
    begins = b;
    grown = late_line all d (record d { planes = d.planes ++ p ∷ [] }) (spelt_plane p) text late refl spelt
        (plane_more all (head_text d.names.profile d.crtcs) d.planes p d.conns (clients_in d) (nil_is d.conns none)
        (no_clients d o (o.late_client none)));
  };
}

-- a connector, before the first client
pub conn_follows : (d : Draft) (mask : ℕ) (text : List ℕ) → IsInOrder d → 2 ≤ d.head → d.has_client ≡ false
    → line (conn_words mask) ≡ text ++ 10 ∷ [] → Follows d (record d { conns = d.conns ++ mask ∷ [] }) text
conn_follows d mask text o late none spelt = record {
  ordered = record {
    crtcs = o.crtcs;
    planes = o.planes;
    conns = λ lt. absurd (omega arith);
    late_client = λ nil. none;
    first_client =
        o.first_client;
  };
  spelt = λ all b. record {
    begins = b;
    grown = late_line all d (record d { conns = d.conns ++ mask ∷ [] }) (conn_words mask) text late refl spelt
        (conn_more all (head_text d.names.profile d.crtcs) (lines_text spelt_plane d.planes) d.conns mask (clients_in d)
        (no_clients d o none));
  };
}

-- a draft with a client more
abbrev pub with_client : Draft → Draft
with_client d = record d { clients = clients_in d; has_client = true; commands = [] }

-- `client`, behind the connectors
pub client_follows : (d : Draft) (text : List ℕ) → IsInOrder d → 2 ≤ d.head → is_nil d.conns ≡ false
    → line (codes "client" ∷ []) ≡ text ++ 10 ∷ [] → Follows d (with_client d) text
client_follows d text o late some spelt = record {
  ordered = record {
    crtcs = o.crtcs;
    planes = o.planes;
    conns = o.conns;
    late_client = λ nil. sym nil ∙ some;
    first_client = λ none. absurd
        cc;
  };
  spelt = λ all b. record {
    begins = b;
    grown = late_line all d (with_client d) (codes "client" ∷ []) text late refl spelt
        (client_more all (head_text d.names.profile d.crtcs) (lines_text spelt_plane d.planes) (lines_text conn_words d.conns)
        (clients_in d));
  };
}

-- a command of the present client
pub command_follows : (d : Draft) (c : Command) (after : Names) (text : List ℕ) → IsInOrder d → 2 ≤ d.head → d.has_client ≡ true
    → command_read d.names text ≡ Some (c, after) → Follows d (record d { names = after; commands = d.commands ++ c ∷ [] }) text
command_follows d c after text o late has read = record {
  ordered = record { crtcs = o.crtcs; planes = o.planes; conns = o.conns; late_client = o.late_client; first_client = o.first_client };
  spelt = λ all b. record {
    begins = names_begin all d.names after text c read b;
    grown = late_line all d (record d { names = after; commands = d.commands ++ c ∷ [] }) (command_words all c) text late refl
        (command_spelt all d.names after text c read b)
        (command_more all (head_text d.names.profile d.crtcs) (lines_text spelt_plane d.planes) (lines_text conn_words d.conns) d.clients
        d.has_client d.commands c has
        ∙ ap (λ v. whole (head_text v d.crtcs) (lines_text spelt_plane d.planes) (lines_text conn_words d.conns)
        (flat_map (client_text all) (clients_in (record d { commands = d.commands ++ c ∷ [] }))))
        (sym (command_stays d.names text (c, after) read)));
  };
}
