-- The line of a request is read back behind any names of the same profile.
use Rattle.std.proofs.Common.{[], ◌≡◌, ℕ, ◌<◌, ◌≤◌, ◌^◌, true, List, ◌∷◌, ◌++◌, codes, map, append-nil, Some, refl, sym, ap, subst, ◌∙◌}
use Rattle.std.proofs.Common.{arith}
use Rattle.std.specs.Fmt.{decimal}
use Rattle.std.specs.List.{list_all}
use Rattle.std.proofs.lemmas.List.{append_cancel_right}
use Rattle.kms_model.specs.declared.scripts.Assign.{Assign}
use Rattle.kms_model.specs.declared.scripts.Command.TheVariants as command
use Rattle.kms_model.specs.declared.scripts.Request.{Request}
use Rattle.kms_model.specs.Legacy.Translated.{renumbered}
use Rattle.kms_model.specs.Script.CommandLines.{Names, assigns_read, atomic_read, command_read, words_in}
use Rattle.kms_model.specs.Script.Spelling.{assign_word, command_words, hex_word}
use Rattle.kms_words.specs.Printed.{fields}
use Rattle.kms_words.proofs.Spaced.{line-fields}
use Rattle.kms_script.specs.ReadAnew.{IsLineOf, IsReadBack, RequestsAreReadBack, renamed_assign}
use Rattle.kms_script.proofs.AssignParts.{is_asked}
use Rattle.kms_script.proofs.CommandWords.{flags_word, inner, set_words, words_inner}
use Rattle.kms_script.proofs.Cutting.{field_of, is_inner, number_of, words_of_fields}
use Rattle.kms_script.proofs.HexBack.{hex_read}
use Rattle.kms_script.proofs.NamesBegin.{Begins}
use Rattle.kms_script.proofs.SpeltAssigns.{assigns_named}
use Rattle.kms_script.proofs.WordsBack.{AssignsBack, assigns_back}

-- the words behind the first one
abbrev pub words_behind : List (List ℕ) → Request → List (List ℕ)
words_behind all r = hex_word r.flags ∷ decimal r.user_data ∷ map (assign_word all) r.assigns

-- the line of a request, without its line feed
pub request_text : (all : List (List ℕ)) (r : Request) (text : List ℕ) → IsLineOf all (command.Atomic r) text
    → text ≡ codes "atomic" ++ fields (words_behind all r)
request_text all r text is =
    append_cancel_right text (codes "atomic" ++ fields (words_behind all r)) (10 ∷ [])
    (is ∙ line-fields (codes "atomic") (words_behind all r))

pub line_read : (names after : Names) (flags user : ℕ) (ws : List (List ℕ)) (sets : List Assign) → flags < 2 ^ 32
    → user ≤ 18446744073709551615
    → list_all (list_all is_inner) ws ≡ true → assigns_read names ws ≡ Some (sets, after)
    → command_read names (codes "atomic" ++ fields (hex_word flags ∷ decimal user ∷ ws)) ≡ Some
    (command.Atomic (record { flags = flags; user_data = user; assigns = sets }), after)
unfolding command_read atomic_read
line_read names after flags user ws sets small le plain given =
    rw (
      field_of (hex_word flags) (decimal user ∷ ws) (inner 10 (hex_word flags) (flags_word flags small)),
      hex_read flags small,
      number_of 18446744073709551615 user ws
          (omega arith) le,
      words_of_fields ws plain,
      given,
    ) refl

same_words : (last all : List (List ℕ)) (r : Request) (sets : List Assign) → map (assign_word last) sets ≡ map (assign_word all) r.assigns
    → command_words last (command.Atomic (record r { assigns = sets })) ≡ command_words all (command.Atomic r)
same_words last all r sets e = rw e refl

read_whole : (names : Names) (all : List (List ℕ)) (r : Request) (text : List ℕ) (b : AssignsBack names all r.assigns)
    → text ≡ codes "atomic" ++ fields (words_behind all r)
    → command_read names text ≡ Some (command.Atomic (record r { assigns = b.value }), b.after) → IsReadBack names all r text
read_whole names all r text b is read =
    let begins : Begins b.after (words_in b.after) = record { more = []; whole = sym (append-nil (words_in b.after)) } in
    let same : b.value ≡ map (renamed_assign (renumbered all (words_in b.after))) r.assigns = b.same (words_in b.after) begins in
    let spelt = (assigns_named (words_in b.after) (map (assign_word all) r.assigns) names (b.value, b.after) b.read begins).same in
    record {
      after = b.after;
      read =
          subst (λ (sets : List Assign). command_read names text ≡ Some (command.Atomic (record r { assigns = sets }), b.after)) same read;
      same =
          subst (λ (sets : List Assign). command_words (words_in b.after) (command.Atomic (record r { assigns = sets })) ≡ command_words all
          (command.Atomic r)) same
          (same_words (words_in b.after) all r b.value spelt);
      made = b.keeps.made;
      once = b.keeps.once;
      labels = b.keeps.labels;
      stays = b.stays;
    }

pub request_back : RequestsAreReadBack
request_back names all r text said is =
    let of = is_asked names.profile all r said.spelt in
    let user = of.user in
    let b = assigns_back r.assigns names all names.profile refl of.assigns said.nothing in
    let text_is = request_text all r text is in
    read_whole names all r text b text_is
    (ap (λ (xs : List ℕ). command_read names xs) text_is
    ∙ line_read names b.after r.flags r.user_data (map (assign_word all) r.assigns) b.value of.flags (omega (arith, user))
    (words_inner 96 (map (assign_word all) r.assigns) (set_words all names.profile r.assigns of.assigns)) b.read)
