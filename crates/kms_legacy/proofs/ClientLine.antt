-- The line behind a device's lines: `client` alone may stand there.
use Rattle.std.proofs.Common.{◌≡◌, ℕ, ◌+◌, Bool, true, false, List, [], ◌∷◌, ◌++◌, append-nil, cond, Option, Some, None, Ok, Err, refl, sym}
use Rattle.std.proofs.Common.{ap, subst, ◌∙◌}
use Rattle.std.specs.Prelude.{◌&&◌, codes, is_some, length, nat_lt}
use Rattle.std.specs.List.{list_all}
use Rattle.std.specs.Str.{bytes_eq}
use Rattle.std.proofs.lemmas.Bool.{false≢true}
use Rattle.std.proofs.lemmas.Slice.Eq.{bytes_eq-Decides}
use Rattle.kms_model.specs.declared.objects.Topology.{Topology}
use Rattle.kms_model.specs.declared.scripts.Why.TheVariants.{Bytes, Cut, Form, Limit}
use Rattle.kms_model.specs.Legacy.LegacyLines.{legacy_line, legacy_line_after}
use Rattle.kms_model.specs.Script.CommandLines.{command_read, or_form}
use Rattle.kms_model.specs.Script.Grammar.{is_printable}
use Rattle.kms_model.specs.Script.InputLines.{Row}
use Rattle.kms_model.specs.Script.WholeInput.{Lined, client_line, command_line, conn_at, conn_line, is_conn_of, is_nil, later_line}
use Rattle.kms_model.specs.Script.WholeInput.{plane_fields, plane_line, script_limit, script_line}
use Rattle.kms_model.specs.Script.Words.{end_at, from, until}
use Rattle.kms_script.proofs.LineFields.{until_from}
use Rattle.kms_legacy.specs.Reading.{device_draft, device_part}

-- a line of no form
abbrev IsFormless : Lined → Type 0
IsFormless r = r ≡ Err Form

form_alone : {A : Type 0} (o : Option A) (f : A → Lined) → ((x : A) → IsFormless (f x)) → IsFormless (or_form o f)
form_alone None f same = refl
form_alone (Some x) f same = same x

none_form : {A : Type 0} (o : Option A) (f : A → Lined) → is_some o ≡ false → IsFormless (or_form o f)
none_form None f none = refl
none_form (Some x) f none = absurd cc

no_end : (fields : List ℕ) (f : Unit {0} → Lined) → (fields ≡ [] → ⊥) → IsFormless (or_form (end_at fields) f)
no_end [] f never = absurd (never refl)
no_end (b ∷ bs) f never = refl

choice_form : (t : Bool) (a b : Lined) → (t ≡ true → IsFormless a) → (t ≡ false → IsFormless b) → IsFormless (cond t a b)
choice_form true a b one other = one refl
choice_form false a b one other = other refl

plane_form : (t : Topology) (size : ℕ) (fields : List ℕ) → is_nil t.conns ≡ false
    → IsFormless (plane_line (device_part t false size) fields)
unfolding plane_line
plane_form t size fields some = form_alone (plane_fields t.crtcs fields) _ (λ p. rw some refl)

conn_form : (t : Topology) (size : ℕ) (fields : List ℕ) → is_some (conn_at t.crtcs fields) ≡ false
    → IsFormless (conn_line (device_part t false size) fields)
unfolding conn_line
conn_form t size fields none = none_form (conn_at t.crtcs fields) _ none

client_form : (t : Topology) (size : ℕ) (fields : List ℕ) → (fields ≡ [] → ⊥) → IsFormless (client_line (device_part t false size) fields)
unfolding client_line
client_form t size fields never = no_end fields _ never

command_form : (t : Topology) (size : ℕ) (text : List ℕ) → IsFormless (command_line (device_part t false size) text)
unfolding command_line
command_form t size text = form_alone (command_read (device_part t false size).names text) _ (λ c. refl)

-- a line whose first word is `client`, with nothing behind it, is `client`
client_whole : (text : List ℕ) → bytes_eq (until 32 text) (codes "client") ≡ true → from 32 text ≡ [] → text ≡ codes "client"
client_whole text is none =
    let word : until 32 text ≡ codes "client" = (bytes_eq-Decides (until 32 text) (codes "client")).0 is in
    sym (until_from 32 text) ∙ (ap (λ (xs : List ℕ). until 32 text ++ xs) none ∙ (append-nil (until 32 text) ∙ word))

never_client : (text : List ℕ) → bytes_eq text (codes "client") ≡ false → text ≡ codes "client" → ⊥
never_client text other same =
    let wrong : true ≡ false = subst (λ (xs : List ℕ). bytes_eq xs (codes "client") ≡ false) same other in
    false≢true (sym wrong)

pub not_client : (t : Topology) (size : ℕ) (text : List ℕ) → is_nil t.conns ≡ false
    → (bytes_eq (until 32 text) (codes "conn") && is_some (conn_at t.crtcs (from 32 text))) ≡ false
    → bytes_eq text (codes "client") ≡ false → script_line (device_part t false size) text ≡ Err Form
unfolding script_line later_line
not_client t size text some conn other =
    choice_form (bytes_eq (until 32 text) (codes "plane")) _ _ (λ is. plane_form t size (from 32 text) some) (λ no_plane.
    choice_form (bytes_eq (until 32 text) (codes "conn")) _ _ (λ is. conn_form t size (from 32 text) (rw is at conn)) (λ no_conn.
    choice_form (bytes_eq (until 32 text) (codes "client")) _ _
    (λ is. client_form t size (from 32 text) (λ none. never_client text other (client_whole text is none)))
    (λ no_client. command_form t size text)))

client_alone : (t : Topology) (size : ℕ) → is_nil t.conns ≡ false
    → script_line (device_part t false size) (codes "client") ≡ Ok (device_part t true size)
unfolding script_line later_line client_line
client_alone t size some = rw some refl

pub is_client : (t : Topology) (size : ℕ) (text : List ℕ) → is_nil t.conns ≡ false → bytes_eq text (codes "client") ≡ true
    → script_line (device_part t false size) text ≡ Ok (device_part t true size)
is_client t size text some is = rw ((bytes_eq-Decides text (codes "client")).0 is) (client_alone t size some)

-- A row behind a device's lines: what it makes, or its first fault

module _ (t : Topology) (size : ℕ) (row : Row) where
  pub bytes_fault : list_all is_printable row.text ≡ false → legacy_line_after (device_draft t false size) row ≡ Err Bytes
  unfolding legacy_line_after
  bytes_fault e = rw e refl

  pub cut_fault : list_all is_printable row.text ≡ true → row.is_ended ≡ false → legacy_line_after (device_draft t false size) row ≡ Err Cut
  unfolding legacy_line_after
  cut_fault p e = rw (p, e) refl

  pub form_fault : is_nil t.conns ≡ false → is_conn_of t.crtcs row ≡ false → list_all is_printable row.text ≡ true → row.is_ended ≡ true
      → bytes_eq row.text (codes "client") ≡ false
      → legacy_line_after (device_draft t false size) row ≡ Err Form
  unfolding legacy_line_after legacy_line
  form_fault some conn p e other = let none = rw (e, p) at conn in rw (p, e, not_client t size row.text some none other) refl

  pub limit_fault : is_nil t.conns ≡ false → list_all is_printable row.text ≡ true → row.is_ended ≡ true
      → bytes_eq row.text (codes "client") ≡ true → nat_lt script_limit (size + (length row.text + 1)) ≡ true
      → legacy_line_after (device_draft t false size) row ≡ Err Limit
  unfolding legacy_line_after legacy_line
  limit_fault some p e is long = rw (p, e, is_client t size row.text some is, long) refl

  pub client_read : is_nil t.conns ≡ false → list_all is_printable row.text ≡ true → row.is_ended ≡ true
      → bytes_eq row.text (codes "client") ≡ true → nat_lt script_limit (size + (length row.text + 1)) ≡ false
      → legacy_line_after (device_draft t false size) row ≡ Ok (device_draft t true (size + (length row.text + 1)))
  unfolding legacy_line_after legacy_line
  client_read some p e is fits = rw (p, e, is_client t size row.text some is, fits) refl
