-- The last draft of lines that spell a script: its parts are in order, and no label was made twice, nor too many.
use Rattle.std.proofs.Common.{◌≡◌, ℕ, ◌≤◌, Bool, true, false, List, [], ◌∷◌, Some, None, Ok, refl, subst, ◌∙◌, arith}
use Rattle.std.specs.Prelude.{cond, nat_lt}
use Rattle.std.proofs.lemmas.Bool.Decides.{nat_tests}
use Rattle.kms_model.specs.Script.InputLines.{Row}
use Rattle.kms_model.specs.Script.Spelling.{spelt_line, spelt_lines}
use Rattle.kms_model.specs.Script.WholeInput.{Draft, blank_draft, is_nil, script_line}
use Rattle.kms_script.proofs.DraftGrows.{IsInOrder}
use Rattle.kms_script.proofs.EachLine.{line_each}
use Rattle.kms_script.proofs.Inverted.{bind_some}
use Rattle.kms_script.proofs.RowsSpelt.{is_line}
use Rattle.kms_script.proofs.ScriptLines.{line_follows}

-- no label was made twice, and not too many were made
pub record AreFine (d : Draft) : Type 0 where
  pub once : d.names.is_twice ≡ false
  pub few : d.names.made ≤ 4096

few_made : (n : ℕ) → nat_lt 4096 n ≡ false → n ≤ 4096
few_made n off = grind (arith, nat_tests)

line_fine : (d next : Draft) (text : List ℕ) → AreFine d → script_line d text ≡ Ok next → AreFine next
line_fine d next text fine =
    let same : (m : Draft) → m.names.is_twice ≡ d.names.is_twice → m.names.made ≡ d.names.made → AreFine m =
    (λ m twice made. record { once = twice ∙ fine.once; few = rw made fine.few }) in
    line_each d text AreFine (record {
      first = λ zeroth version read. same _ refl refl;
      crtcs = λ first is n read. same _ refl refl;
      plane = λ late is p read nil. same _ refl refl;
      conn = λ late is mask read none. same _ refl refl;
      client = λ late is end some. same _ refl refl;
      command = λ late c names read has few. record { once = few.once; few = few_made names.made few.few };
    }) next

-- Lines

pub record IsLast (d : Draft) : Type 0 where
  pub fine : AreFine d
  pub ordered : IsInOrder d
  pub conns : is_nil d.conns ≡ false

last_from : (rows : List Row) (d last : Draft) → AreFine d → IsInOrder d → spelt_lines d rows ≡ Some last → IsLast last
last_from [] d last fine ordered e = at_end (is_nil d.conns) refl e
  where
    some_is : Some d ≡ Some last → d ≡ last
    some_is same = cc

    at_end : (nil : Bool) → is_nil d.conns ≡ nil → cond nil None (Some d) ≡ Some last → IsLast last
    at_end true is e = absurd cc
    at_end false is e = subst IsLast (some_is e) (record { fine = fine; ordered = ordered; conns = is })
last_from (row ∷ rows) d last fine ordered e =
    let b = bind_some (spelt_line d row) _ last e in
    let l = is_line d b.value row b.given in
    last_from rows b.value last (line_fine d b.value row.text fine l.accepted)
    (line_follows d b.value row.text ordered l.accepted).ordered b.then

pub last_is : (rows : List Row) (last : Draft) → spelt_lines blank_draft rows ≡ Some last → IsLast last
last_is rows last e =
    last_from rows blank_draft last (record { once = refl; few = omega arith })
    (record { crtcs = omega arith; planes = λ low. refl; conns = λ low. refl; late_client = λ nil. refl; first_client = λ none. refl }) e
