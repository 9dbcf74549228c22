-- The lines of the script at the front of an input.
use Rattle.std.proofs.Common.{◌≡◌, ℕ, ◌+◌, ◌⊎◌, inl, inr, Bool, true, false, List, [], ◌∷◌, ◌++◌, cond, Some, Ok, Err, refl, sym, ap, ◌∙◌}
use Rattle.std.specs.Prelude.{Result, nat_lt, length}
use Rattle.std.specs.List.{flat_map}
use Rattle.kms_model.specs.declared.replies.Step.{Step}
use Rattle.kms_model.specs.declared.scripts.Part.{Part}
use Rattle.kms_model.specs.declared.scripts.Part.TheVariants as part
use Rattle.kms_model.specs.declared.scripts.Script.{Script}
use Rattle.kms_model.specs.Script.InputLines.{Fault, Row, input_limit, rows_of}
use Rattle.kms_model.specs.Script.Schedules.{Parts, at_end_of_lines, behind_script, ends_script, input_of, parts_after, steps_in}
use Rattle.kms_model.specs.Script.Schedules.{with_schedule}
use Rattle.kms_model.specs.Script.Spelling.{Spells, spelling, spelt_lines}
use Rattle.kms_model.specs.Script.WholeInput.{Draft, blank_draft, is_nil, line_after, lines_after, missing_line, script_in}
use Rattle.kms_script.proofs.Accepted.{either_ok}
use Rattle.kms_script.proofs.Drafts.{last_is_late}
use Rattle.kms_script.proofs.RowsAgain.{rows_alone}
use Rattle.kms_script.proofs.RowsSpelt.{rows_are_text}
use Rattle.kms_script.proofs.Sizes.{resized}
use Rattle.kms_script.proofs.SpelledRows.{all_ended, ended_text}
use Rattle.kms_script.proofs.WithinLimit.{no_fault, read_is_spelt}
use Rattle.kms_script.specs.Stated.{parts_of}

-- what the line that ends the script leaves behind the lines of the script
pub record HasEnd (p : Part) (size : ℕ) (last : Draft) (front rows : List Row) (x : Parts) : Type 0 where
  pub line : ℕ
  pub row : Row
  pub more : List Row
  pub are : rows ≡ front ++ row ∷ more
  pub ends : ends_script p last row ≡ true
  pub then : behind_script p size last line row more ≡ Ok x

-- lines of a script, read behind a draft, and what follows them: nothing, or the line that ends the script
pub record HasFront (p : Part) (size n : ℕ) (d : Draft) (rows : List Row) (x : Parts) : Type 0 where
  pub front : List Row
  pub last : Draft
  pub read : lines_after d n front ≡ Ok last
  pub makes : script_in last ≡ x.script
  pub behind : ((rows ≡ front) × (x.steps ≡ [])) ⊎ HasEnd p size last front rows x

abbrev given : Parts → Result Parts Fault
given x = Ok x

pub same_parts : (x y : Parts) → given x ≡ given y → x ≡ y
same_parts x y e = cc

-- where the input ends well
record EndsWell (d : Draft) (x : Parts) : Type 0 where
  some : is_nil d.conns ≡ false
  makes : script_in d ≡ x.script
  none : x.steps ≡ []

end_well : (none : Bool) (n size : ℕ) (d : Draft) (x : Parts) → is_nil d.conns ≡ none
    → cond none (Err (missing_line n)) (given (parts_of (script_in d) [] size)) ≡ Ok x → EndsWell d x
end_well true n size d x is e = absurd cc
end_well false n size d x is e = let same = same_parts (parts_of (script_in d) [] size) x e
    in record { some = is; makes = ap (λ (y : Parts). y.script) same; none = sym (ap (λ (y : Parts). y.steps) same) }

end_of : (p : Part) (size n : ℕ) (d : Draft) (x : Parts) → at_end_of_lines p size d n ≡ Ok x → EndsWell d x
end_of part.Script size n d x e = end_well (is_nil d.conns) n size d x refl e
end_of part.Schedule size n d x e = end_well (is_nil d.conns) n size d x refl e
end_of part.Report size n d x e = absurd cc

scheduled_script : (size : ℕ) (d : Draft) (r : Result (List Step) Fault) (x : Parts) → with_schedule size d r ≡ Ok x
    → script_in d ≡ x.script
scheduled_script size d (Ok steps) x e = ap (λ (y : Parts). y.script) (same_parts (parts_of (script_in d) steps size) x e)
scheduled_script size d (Err fault) x e = absurd cc

behind_of : (p : Part) (size n : ℕ) (d : Draft) (row : Row) (rows : List Row) (x : Parts) → behind_script p size d n row rows ≡ Ok x
    → script_in d ≡ x.script
behind_of part.Script size n d row rows x e = scheduled_script size d (steps_in (n + 1) rows) x e
behind_of part.Schedule size n d row rows x e = scheduled_script size d (steps_in (n + 1) rows) x e
behind_of part.Report size n d row rows x e = cc

no_line_more : (p : Part) (size n : ℕ) (d : Draft) (x : Parts) → EndsWell d x → HasFront p size n d [] x
unfolding lines_after
no_line_more p size n d x end = record { front = []; last = d; read = rw end.some refl; makes = end.makes; behind = inl (refl, end.none) }

line_that_ends : (p : Part) (size n : ℕ) (d : Draft) (row : Row) (rows : List Row) (x : Parts) → ends_script p d row ≡ true
    → behind_script p size d n row rows ≡ Ok x → HasFront p size n d (row ∷ rows) x
unfolding lines_after
line_that_ends p size n d row rows x ends then = record {
  front = [];
  last = d;
  read = rw (last_is_late p d row ends) refl;
  makes = behind_of p size n d row rows x then;
  behind = inr (record { line = n; row = row; more = rows; are = refl; ends = ends; then = then });
}

line_in_front : (p : Part) (size n : ℕ) (d next : Draft) (row : Row) (rows : List Row) (x : Parts) → line_after d row ≡ Ok next
    → HasFront p size (n + 1) next rows x → HasFront p size n d (row ∷ rows) x
unfolding lines_after
line_in_front p size n d next row rows x e f =
    record { front = row ∷ f.front; last = f.last; read = rw e f.read; makes = f.makes; behind = onto f.behind }
  where
    onto : ((rows ≡ f.front) × (x.steps ≡ [])) ⊎ HasEnd p size f.last f.front rows x → ((row ∷ rows ≡ row ∷ f.front) × (x.steps ≡ []))
        ⊎ HasEnd p size f.last (row ∷ f.front) (row ∷ rows) x
    onto (inl none) = inl (ap (λ (rs : List Row). row ∷ rs) none.0, none.1)
    onto (inr end) = inr (record {
      line = end.line;
      row = end.row;
      more = end.more;
      are = ap (λ (rs : List Row). row ∷ rs) end.are;
      ends =
          end.ends;
      then = end.then;
    })

-- the lines of the script that an input has
has_front : (p : Part) (size n : ℕ) (d : Draft) (rows : List Row) (x : Parts) → parts_after p size d n rows ≡ Ok x
    → HasFront p size n d rows x
unfolding parts_after
has_front p size n d [] x e = no_line_more p size n d x (end_of p size n d x e)
has_front p size n d (row ∷ rows) x e =
    elim (either_ok (ends_script p d row) (behind_script p size d n row rows) _ (given x) e) [
      | inl ended ↦ line_that_ends p size n d row rows x ended.0 ended.1
      | inr more ↦ (let u = no_fault n (line_after d row) _ x more.1
          in line_in_front p size n d u.next row rows x u.is (has_front p size (n + 1) u.next rows x u.then))
    ]

not_long : (long : Bool) (fault : Fault) (r : Result Parts Fault) (x : Parts) → cond long (Err fault) r ≡ Ok x → r ≡ Ok x
not_long true fault r x e = absurd cc
not_long false fault r x e = e

pub input_front : (p : Part) (bytes : List ℕ) (x : Parts) → input_of p bytes ≡ Ok x
    → HasFront p (length bytes) 1 blank_draft (rows_of bytes) x
unfolding input_of
input_front p bytes x e = has_front p (length bytes) 1 blank_draft (rows_of bytes) x (not_long (nat_lt input_limit (length bytes)) _ _ x e)

-- the lines of the script are its text
pub record IsFrontText (front : List Row) (s : Script) : Type 0 where
  pub ended : all_ended front ≡ true
  pub text : flat_map ended_text front ≡ spelling s
  pub spells : Spells (spelling s) s

pub front_text : (n : ℕ) (last : Draft) (front : List Row) (s : Script) → lines_after blank_draft n front ≡ Ok last → script_in last ≡ s
    → IsFrontText front s
front_text n last front s read makes =
    let spelt : spelt_lines blank_draft front ≡ Some (resized 0 last) = read_is_spelt 0 n blank_draft last front read in
    let text = rows_are_text (resized 0 last) front spelt in
    let same : rows_of (spelling (script_in last)) ≡ front = ap rows_of (sym text.1) ∙ rows_alone blank_draft (resized 0 last) front spelt
    in
    record {
      ended = text.0;
      text = text.1 ∙ ap spelling makes;
      spells = rw (← makes, same, spelt) refl;
    }

-- the text of the script that an input has spells it
pub front_spells : (p : Part) (bytes : List ℕ) (x : Parts) → input_of p bytes ≡ Ok x → Spells (spelling x.script) x.script
front_spells p bytes x e = let f = input_front p bytes x e in (front_text 1 f.last f.front x.script f.read f.makes).spells
