-- A script with older calls that is read of bytes is spelt by them: the bytes of lines so far change nothing but whether a script
-- may have them.
use Rattle.std.proofs.Common.{◌≡◌, ℕ, ◌+◌, Bool, true, false, List, [], ◌∷◌, length, cond, Option, Some, None, Ok, Err, refl, ap, ◌∙◌}
use Rattle.std.specs.Prelude.{Result, nat_lt, not, option_map}
use Rattle.std.specs.List.{list_all}
use Rattle.kms_model.specs.declared.legacy.LegacyCommand.{LegacyCommand}
use Rattle.kms_model.specs.declared.legacy.LegacyScript.{LegacyScript}
use Rattle.kms_model.specs.declared.scripts.Why.{Why}
use Rattle.kms_model.specs.declared.scripts.Why.TheVariants.{Bytes, Cut, Label, Limit}
use Rattle.kms_model.specs.Legacy.LegacyCalls.{legacy_command_read}
use Rattle.kms_model.specs.Legacy.LegacyLines.{LegacyDraft, LegacyLined, SpellsLegacy, blank_legacy_draft, followed_by, legacy_command_line}
use Rattle.kms_model.specs.Legacy.LegacyLines.{legacy_drafted, legacy_input, legacy_line, legacy_line_after, legacy_lines_after}
use Rattle.kms_model.specs.Legacy.LegacyLines.{legacy_script_in, legacy_sized, or_legacy_fault, spelt_legacy_line, spelt_legacy_lines}
use Rattle.kms_model.specs.Script.CommandLines.{or_form, unless}
use Rattle.kms_model.specs.Script.Grammar.{is_printable}
use Rattle.kms_model.specs.Script.InputLines.{Fault, Row, input_limit, rows_of}
use Rattle.kms_model.specs.Script.WholeInput.{Draft, Lined, is_nil, missing_line, script_limit, script_line, topology_in}
use Rattle.kms_script.proofs.Accepted.{on_from, unless_ok}
use Rattle.kms_script.proofs.Sizes.{line_same, relined, resized}

-- what is read, with so many bytes
abbrev recounted : ℕ → LegacyDraft → LegacyDraft
recounted n d = record { draft = resized n d.draft; commands = d.commands }

abbrev with_count : ℕ → LegacyLined → LegacyLined
with_count n (Ok d) = Ok (recounted n d)
with_count n (Err why) = Err why

in_form : {A : Type 0} (n : ℕ) (o : Option A) (f g : A → LegacyLined) → ((x : A) → g x ≡ with_count n (f x))
    → or_form o g ≡ with_count n (or_form o f)
in_form n None f g same = refl
in_form n (Some x) f g same = same x

in_unless : (n : ℕ) (t : Bool) (why : Why) (r s : LegacyLined) → s ≡ with_count n r → unless t why s ≡ with_count n (unless t why r)
in_unless n true why r s same = refl
in_unless n false why r s same = same

command_same : (n : ℕ) (d : LegacyDraft) (text : List ℕ)
    → legacy_command_line (recounted n d) text ≡ with_count n (legacy_command_line d text)
unfolding legacy_command_line
command_same n d text =
    in_form n (legacy_command_read (topology_in d.draft) d.draft.names text) _ _
    (λ c. in_unless n _ Label _ _ (in_unless n _ Limit _ _ refl))

followed_same : (n : ℕ) (r : Lined) → followed_by [] (relined n r) ≡ with_count n (followed_by [] r)
followed_same n (Ok d) = refl
followed_same n (Err why) = refl

by_client : (has : Bool) (n : ℕ) (a b c d : LegacyLined) → a ≡ with_count n c → b ≡ with_count n d
    → cond has a b ≡ with_count n (cond has c d)
by_client true n a b c d one other = one
by_client false n a b c d one other = other

legacy_line_same : (n : ℕ) (d : LegacyDraft) (text : List ℕ) → legacy_line (recounted n d) text ≡ with_count n (legacy_line d text)
unfolding legacy_line
legacy_line_same n d text =
    by_client d.draft.has_client n _ _ (legacy_command_line d text) (followed_by [] (script_line d.draft text)) (command_same n d text)
    (ap (followed_by []) (line_same n d.draft text) ∙ followed_same n (script_line d.draft text))

-- what a line made, before its bytes were counted
record Counted (k : ℕ) (r : LegacyLined) (next : LegacyDraft) : Type 0 where
  made : LegacyDraft
  is : r ≡ Ok made
  counts : recounted (made.draft.size + k) made ≡ next

abbrev lined : LegacyDraft → LegacyLined
lined d = Ok d

lined_same : (a b : LegacyDraft) → lined a ≡ lined b → a ≡ b
lined_same a b e = cc

behind_limit : (t : Bool) (commands : List LegacyCommand) (d : Draft) (next : LegacyDraft)
    → followed_by commands (unless t Limit (Ok d)) ≡ Ok next → lined (record { draft = d; commands = commands }) ≡ lined next
behind_limit true commands d next e = absurd cc
behind_limit false commands d next e = e

counted : (k : ℕ) (r : LegacyLined) (next : LegacyDraft) → legacy_sized k r ≡ Ok next → Counted k r next
counted k (Ok d) next e = record {
  made = d;
  is = refl;
  counts =
      lined_same (recounted (d.draft.size + k) d) next
      (behind_limit (nat_lt script_limit (d.draft.size + k)) d.commands (resized (d.draft.size + k) d.draft) next e);
}
counted k (Err why) next e = absurd cc

row_is_spelt : (m : ℕ) (d next : LegacyDraft) (row : Row) → legacy_line_after d row ≡ Ok next
    → spelt_legacy_line (recounted m d) row ≡ Some (recounted m next)
unfolding legacy_line_after
row_is_spelt m d next row e =
    let bytes = unless_ok (not (list_all is_printable row.text)) Bytes _ next e in
    let cut = unless_ok (not row.is_ended) Cut _ next bytes.1 in
    let c = counted (length row.text + 1) (legacy_line d row.text) next cut.1 in
    rw (on_from (list_all is_printable row.text) bytes.0, on_from row.is_ended cut.0, legacy_line_same m d row.text, c.is)
    (ap (λ (x : LegacyDraft). Some (recounted m x)) c.counts)

record Unfaulted (r : LegacyLined) (f : LegacyDraft → Result LegacyDraft Fault) (last : LegacyDraft) : Type 0 where
  next : LegacyDraft
  is : r ≡ Ok next
  then : f next ≡ Ok last

no_fault : (n : ℕ) (r : LegacyLined) (f : LegacyDraft → Result LegacyDraft Fault) (last : LegacyDraft) → or_legacy_fault n r f ≡ Ok last
    → Unfaulted r f last
no_fault n (Ok d) f last e = record { next = d; is = refl; then = e }
no_fault n (Err why) f last e = absurd cc

whole_end : (none : Bool) (n m : ℕ) (d last : LegacyDraft) → cond none (Err (missing_line n)) (Ok d) ≡ Ok last
    → cond none None (Some (recounted m d)) ≡ Some (recounted m last)
whole_end true n m d last e = absurd cc
whole_end false n m d last e = cc

rows_are_spelt : (m n : ℕ) (d last : LegacyDraft) (rows : List Row) → legacy_lines_after d n rows ≡ Ok last
    → spelt_legacy_lines (recounted m d) rows ≡ Some (recounted m last)
unfolding legacy_lines_after
rows_are_spelt m n d last [] e = whole_end (is_nil d.draft.conns) n m d last e
rows_are_spelt m n d last (row ∷ rows) e =
    let u = no_fault n (legacy_line_after d row) _ last e in
    rw (row_is_spelt m d u.next row u.is) (rows_are_spelt m (n + 1) u.next last rows u.then)

-- the draft of a script that was read
record Drafted (r : Result LegacyDraft Fault) (s : LegacyScript) : Type 0 where
  last : LegacyDraft
  is : r ≡ Ok last
  makes : legacy_script_in last ≡ s

drafted : (r : Result LegacyDraft Fault) (s : LegacyScript) → legacy_drafted r ≡ Ok s → Drafted r s
drafted (Ok d) s e = record { last = d; is = refl; makes = cc }
drafted (Err fault) s e = absurd cc

within : (long : Bool) (fault : Fault) (r : Result LegacyScript Fault) (s : LegacyScript) → cond long (Err fault) r ≡ Ok s → r ≡ Ok s
within true fault r s e = absurd cc
within false fault r s e = e

pub spelt_where_read : (bytes : List ℕ) (s : LegacyScript) → legacy_input bytes ≡ Ok s → SpellsLegacy bytes s
unfolding legacy_input
spelt_where_read bytes s e =
    let d = drafted (legacy_lines_after blank_legacy_draft 1 (rows_of bytes)) s
    (within (nat_lt input_limit (length bytes)) (record { line = 0; why = Limit }) _ s e) in
    ap (option_map legacy_script_in) (rows_are_spelt 0 1 blank_legacy_draft d.last (rows_of bytes) d.is) ∙ ap Some d.makes
