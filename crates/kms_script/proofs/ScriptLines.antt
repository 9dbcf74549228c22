-- Each line that may stand where it stands follows the lines before it.
use Rattle.std.proofs.Common.{◌≡◌, ℕ, List, [], ◌∷◌, Ok}
use Rattle.std.specs.Prelude.{codes}
use Rattle.std.specs.Fmt.{decimal}
use Rattle.kms_model.specs.Script.WholeInput.{Draft, script_line}
use Rattle.kms_model.specs.Script.Words.{from}
use Rattle.kms_model.specs.Script.Spelling.{crtcs_word}
use Rattle.kms_script.proofs.DraftGrows.{IsInOrder, Follows, first_follows, second_follows, plane_follows, conn_follows, client_follows}
use Rattle.kms_script.proofs.DraftGrows.{command_follows}
use Rattle.kms_script.proofs.EachLine.{line_each}
use Rattle.kms_script.proofs.LineFields.{end_spelt}
use Rattle.kms_script.proofs.LinesSpelt.{line_spelt, later_words, count_spelt, plane_spelt, conn_spelt}

-- a line that may stand where it stands
pub line_follows : (d next : Draft) (text : List ℕ) → IsInOrder d → script_line d text ≡ Ok next → Follows d next text
line_follows d next text o = line_each d text (λ m. Follows d m text) (record {
  first = λ zeroth version read. first_follows d version text o zeroth read;
  crtcs = λ first is n read.
      (let count = count_spelt (from 32 text) n read in
      second_follows d n text o first count.few (line_spelt (codes "crtcs") (decimal n ∷ []) text is count.spells));
  plane = λ late is p read nil.
      plane_follows d p text o late nil
      (line_spelt (codes "plane") (later_words p) text is (plane_spelt d.crtcs (from 32 text) p o.crtcs read));
  conn = λ late is mask read none.
      conn_follows d mask text o late none
      (line_spelt (codes "conn") (crtcs_word mask ∷ []) text is (conn_spelt d.crtcs (from 32 text) mask o.crtcs read));
  client = λ late is end some.
      client_follows d text o late some (line_spelt (codes "client") [] text is (end_spelt (from 32 text) tt end));
  command = λ late c names read has few. command_follows d c names text o late has read;
}) next
