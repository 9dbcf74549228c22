-- What holds of the draft behind each line that may stand where it stands: one case for each kind of line.
use Rattle.std.proofs.Common.{◌≡◌, ℕ, ◌≤◌, inl, inr, true, false, List, [], ◌∷◌, ◌++◌, Some}
use Rattle.std.specs.Prelude.{codes, ◌==◌, ◌||◌, not, nat_le, nat_lt, length}
use Rattle.std.specs.Str.{bytes_eq}
use Rattle.std.proofs.lemmas.Bool.{eqb-true}
use Rattle.kms_model.specs.declared.objects.PlaneInfo.{PlaneInfo}
use Rattle.kms_model.specs.declared.scripts.Command.{Command}
use Rattle.kms_model.specs.declared.scripts.Why.TheVariants.{Form, Label, Limit}
use Rattle.kms_model.specs.Script.CommandLines.{Names, command_read, is_over}
use Rattle.kms_model.specs.Script.WholeInput.{Draft, clients_in, client_line, command_line, conn_at, conn_line, crtcs_at, crtcs_line}
use Rattle.kms_model.specs.Script.WholeInput.{first_line, is_nil, later_line, plane_fields, plane_line, script_line, version_read}
use Rattle.kms_model.specs.Script.Words.{end_at, from, until}
use Rattle.kms_script.proofs.Accepted.{accepted, either_ok, form_ok, if_ok, is_late, ok_same, on_from, second_off, unless_ok}
use Rattle.kms_script.proofs.DraftGrows.{with_client, with_version}

-- the first word of a line
abbrev pub begins_with : List ℕ → List ℕ → Type 0
begins_with key text = bytes_eq (until 32 text) key ≡ true

-- no label of the names was made twice, and not too many were
pub record AreFew (names : Names) : Type 0 where
  pub once : names.is_twice ≡ false
  pub few : nat_lt 4096 names.made ≡ false

pub record EachLine (d : Draft) (text : List ℕ) (P : Draft → Type 0) : Type 0 where
  pub first : d.head ≡ 0 → (version : ℕ) → version_read text ≡ Some version → P (with_version d version)
  pub crtcs : d.head ≡ 1 → begins_with (codes "crtcs") text → (n : ℕ) → crtcs_at (from 32 text) ≡ Some n
      → P (record d { head = 2; crtcs = n })
  pub plane : 2 ≤ d.head → begins_with (codes "plane") text → (p : PlaneInfo) → plane_fields d.crtcs (from 32 text) ≡ Some p
      → is_nil d.conns ≡ true → P (record d { planes = d.planes ++ p ∷ [] })
  pub conn : 2 ≤ d.head → begins_with (codes "conn") text → (mask : ℕ) → conn_at d.crtcs (from 32 text) ≡ Some mask
      → d.has_client ≡ false → P (record d { conns = d.conns ++ mask ∷ [] })
  pub client : 2 ≤ d.head → begins_with (codes "client") text → end_at (from 32 text) ≡ Some tt → is_nil d.conns ≡ false → P (with_client d)
  pub command : 2 ≤ d.head → (c : Command) (names : Names) → command_read d.names text ≡ Some (c, names) → d.has_client ≡ true
      → AreFew names → P (record d { names = names; commands = d.commands ++ c ∷ [] })

module _ (d : Draft) (text : List ℕ) (P : Draft → Type 0) (each : EachLine d text P) (next : Draft) where
  -- what an accepted line gives
  given : (x : Draft) → accepted x ≡ accepted next → P x → P next
  given x same holds = rw (← ok_same x next same) holds

  first_each : d.head ≡ 0 → first_line d text ≡ accepted next → P next
  unfolding first_line
  first_each zeroth e =
      let version = form_ok (version_read text) _ next e in
      given _ version.then (each.first zeroth version.value version.given)

  crtcs_each : d.head ≡ 1 → crtcs_line d text ≡ accepted next → P next
  unfolding crtcs_line
  crtcs_each first e =
      let key = if_ok (bytes_eq (until 32 text) (codes "crtcs")) Form _ next e in
      let n = form_ok (crtcs_at (from 32 text)) _ next key.1 in
      given _ n.then (each.crtcs first key.0 n.value n.given)

  plane_each : 2 ≤ d.head → begins_with (codes "plane") text → plane_line d (from 32 text) ≡ accepted next → P next
  unfolding plane_line
  plane_each late is e =
      let p = form_ok (plane_fields d.crtcs (from 32 text)) _ next e in
      let form = unless_ok (not (is_nil d.conns)) Form _ next p.then in
      let limit = unless_ok (nat_le 16 (length d.planes)) Limit _ next form.1 in
      given _ limit.1 (each.plane late is p.value p.given (on_from (is_nil d.conns) form.0))

  conn_each : 2 ≤ d.head → begins_with (codes "conn") text → conn_line d (from 32 text) ≡ accepted next → P next
  unfolding conn_line
  conn_each late is e =
      let mask = form_ok (conn_at d.crtcs (from 32 text)) _ next e in
      let form = unless_ok (is_nil d.planes || d.has_client) Form _ next mask.then in
      let limit = unless_ok (nat_le 8 (length d.conns)) Limit _ next form.1 in
      given _ limit.1 (each.conn late is mask.value mask.given (second_off (is_nil d.planes) d.has_client form.0))

  client_each : 2 ≤ d.head → begins_with (codes "client") text → client_line d (from 32 text) ≡ accepted next → P next
  unfolding client_line
  client_each late is e =
      let done = form_ok (end_at (from 32 text)) _ next e in
      let form = unless_ok (is_nil d.conns) Form _ next done.then in
      let limit = unless_ok (nat_le 16 (length (clients_in d))) Limit _ next form.1 in
      given _ limit.1 (each.client late is done.given form.0)

  command_each : 2 ≤ d.head → command_line d text ≡ accepted next → P next
  unfolding command_line
  command_each late e =
      let c = form_ok (command_read d.names text) _ next e in
      let form = unless_ok (not d.has_client) Form _ next c.then in
      let label = unless_ok c.value.1.is_twice Label _ next form.1 in
      let limit = unless_ok (is_over c.value.0 || (nat_le 4096 (length d.commands) || nat_lt 4096 c.value.1.made)) Limit _ next label.1 in
      let made = second_off (nat_le 4096 (length d.commands)) (nat_lt 4096 c.value.1.made) (second_off (is_over c.value.0) _ limit.0) in
      given _ limit.1
      (each.command late c.value.0 c.value.1 c.given (on_from d.has_client form.0) (record { once = label.0; few = made }))

  later_each : 2 ≤ d.head → later_line d text ≡ accepted next → P next
  unfolding later_line
  later_each late e =
      elim (either_ok (bytes_eq (until 32 text) (codes "plane")) _ _ (accepted next) e) [
        | inl plane ↦ plane_each late plane.0 plane.1
        | inr other ↦ elim (either_ok (bytes_eq (until 32 text) (codes "conn")) _ _ (accepted next) other.1) [
          | inl conn ↦ conn_each late conn.0 conn.1
          | inr still ↦ elim (either_ok (bytes_eq (until 32 text) (codes "client")) _ _ (accepted next) still.1) [
            | inl client ↦ client_each late client.0 client.1
            | inr command ↦ command_each late command.1
          ]
        ]
      ]

  pub line_each : script_line d text ≡ accepted next → P next
  unfolding script_line
  line_each e =
      elim (either_ok (d.head == 0) _ _ (accepted next) e) [
        | inl zeroth ↦ first_each (eqb-true d.head 0 zeroth.0) zeroth.1
        | inr more ↦ elim (either_ok (d.head == 1) _ _ (accepted next) more.1) [
          | inl first ↦ crtcs_each (eqb-true d.head 1 first.0) first.1
          | inr late ↦ later_each (is_late d.head more.0 late.0) late.1
        ]
      ]
