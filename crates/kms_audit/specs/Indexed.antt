-- The commands that the J and R lines of a report name, in maps by client and number.
use Rattle.std.specs.Prelude.{◌≡◌, ℕ, Bool, not, ◌&&◌, ◌==◌, List, [], ◌∷◌, ◌++◌, map}
use Rattle.std.specs.List.{list_any, position}
use Rattle.std.specs.BTreeMap as tree
use Rattle.std.specs.BTreeMap.{BTreeMap}
use Rattle.std.specs.BTreeSet as sorted
use Rattle.std.specs.BTreeSet.{BTreeSet}
use Rattle.std.specs.declared.cmp.Ordering.{Ordering}
use Rattle.std.specs.Ordering.{nat_cmp, ordering_then}
use Rattle.kms_audit.specs.declared.index.Index.{Index}
use Rattle.kms_audit.specs.declared.index.Lacking.{Lacking}
use Rattle.kms_model.specs.declared.replies.Reply.{Reply}
use Rattle.kms_model.specs.declared.reports.Report.{Report}
use Rattle.kms_model.specs.Report.RightAnswers.{answers_in, entry_from, has_answer}

-- the order of pairs of numbers
abbrev pub pair_cmp : ℕ × ℕ → ℕ × ℕ → Ordering
pair_cmp x y = ordering_then (nat_cmp x.0 y.0) (nat_cmp x.1 y.1)

abbrev pub same_pair : ℕ × ℕ → ℕ × ℕ → Bool
same_pair x y = (x.0 == y.0) && (x.1 == y.1)

-- each command's place among entries: the number of entries before the first of it
abbrev pub AreEntries : List (ℕ × ℕ) → BTreeMap (ℕ × ℕ) ℕ → Type 0
AreEntries journal m = (k : ℕ × ℕ) → tree.get pair_cmp m k ≡ position (same_pair k) journal

-- the commands that have an R line
abbrev pub AreAnswered : List (ℕ × ℕ × ℕ × Reply) → BTreeSet (ℕ × ℕ) → Type 0
AreAnswered replies m = (k : ℕ × ℕ) → sorted.contains pair_cmp m k ≡ list_any (λ a. same_pair (a.0, a.1) k) replies

-- the clients that have an R line
abbrev pub AreSpeaking : List (ℕ × ℕ × ℕ × Reply) → BTreeSet ℕ → Type 0
AreSpeaking replies m = (client : ℕ) → sorted.contains nat_cmp m client ≡ list_any (λ a. a.0 == client) replies

pub record IsIndexOf (r : Report) (i : Index) : Type 0 where
  pub entries : AreEntries r.journal i.entries
  pub answered : AreAnswered r.replies i.answered
  pub speaking : AreSpeaking r.replies i.speaking

-- a client has an R line
abbrev pub speaks : Report → ℕ → Bool
speaks r client = list_any (λ a. a.client == client) (answers_in r)

-- what some entries lack
pub record LackIn (r : Report) (journal : List (ℕ × ℕ)) (l : Lacking) : Type 0 where
  pub clients : (client : ℕ) → sorted.contains nat_cmp l.clients client
      ≡ list_any (λ e. (e.client == client) && not (has_answer r e)) (map entry_from journal)
  pub silent : l.has_silent ≡ list_any (λ e. not (speaks r e.client)) (map entry_from journal)

-- what all entries of a report lack
abbrev pub AreLacking : Report → Lacking → Type 0
AreLacking r l = LackIn r r.journal l

-- what entries lack, with one more of a report that has this index
abbrev pub NotesEntry : Index → ℕ × ℕ → Lacking → Lacking → Type 0
NotesEntry i entry old new =
    (r : Report) (journal : List (ℕ × ℕ)) → IsIndexOf r i → LackIn r journal old → LackIn r (journal ++ entry ∷ []) new
