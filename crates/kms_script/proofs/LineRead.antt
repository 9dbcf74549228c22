-- What the line of a command is: no line of a device or a client, and of bytes that can be printed.
use Rattle.std.proofs.Common.{◌≡◌, ℕ, true, false, List, [], ◌∷◌, ◌++◌, codes, map, refl, sym, ap, subst, ◌∙◌}
use Rattle.std.specs.Fmt.{decimal}
use Rattle.std.specs.List.{list_all}
use Rattle.std.specs.Str.{bytes_eq}
use Rattle.kms_model.specs.declared.scripts.Command.{Command}
use Rattle.kms_model.specs.declared.scripts.Command.TheVariants as command
use Rattle.kms_model.specs.Report.TextLines.{line}
use Rattle.kms_model.specs.Script.CommandLines.{is_over}
use Rattle.kms_model.specs.Script.Grammar.{is_printable}
use Rattle.kms_model.specs.Script.Spelling.{assign_word, blob_word, command_words, format_word, hex_word, name_word, pattern_words}
use Rattle.kms_model.specs.Script.Spelling.{spelt_mode}
use Rattle.kms_model.specs.Script.WellFormed.{is_command_in}
use Rattle.kms_model.specs.Script.Words.{until}
use Rattle.kms_script.specs.ReadAnew.{IsLineOf}
use Rattle.kms_script.proofs.CommandWords.{AreWords, IsSpaced, command_spaced, has_keyword, text_of_words, text_printable}

-- a line is none of a device or a client
pub record IsOfClient (text : List ℕ) : Type 0 where
  pub plane : bytes_eq (until 32 text) (codes "plane") ≡ false
  pub conn : bytes_eq (until 32 text) (codes "conn") ≡ false
  pub client : bytes_eq (until 32 text) (codes "client") ≡ false

of_words : (text other : List ℕ) → text ≡ other → IsOfClient other → IsOfClient text
of_words text other same is = subst IsOfClient (sym same) is

pub of_client : (all : List (List ℕ)) (c : Command) (text : List ℕ) → IsLineOf all c text → IsOfClient text
of_client all (command.Buffer label width height f p) text is =
    of_words text _ (text_of_words (codes "buffer") text
    (name_word all label ∷ decimal width ∷ decimal height ∷ format_word f ∷ pattern_words f p) is)
    (record { plane = refl; conn = refl; client = refl })
of_client all (command.AddFb label buffer) text is =
    of_words text _ (text_of_words (codes "addfb") text (name_word all label ∷ name_word all buffer ∷ []) is)
    (record { plane = refl; conn = refl; client = refl })
of_client all (command.Mode label m) text is =
    of_words text _ (text_of_words (codes "mode") text (name_word all label ∷ spelt_mode m) is)
    (record { plane = refl; conn = refl; client = refl })
of_client all (command.Blob label bytes) text is =
    of_words text _ (text_of_words (codes "blob") text (name_word all label ∷ blob_word bytes ∷ []) is)
    (record { plane = refl; conn = refl; client = refl })
of_client all (command.Destroy label) text is =
    of_words text _ (text_of_words (codes "destroy") text (name_word all label ∷ []) is)
    (record { plane = refl; conn = refl; client = refl })
of_client all (command.CloseFb label) text is =
    of_words text _ (text_of_words (codes "closefb") text (name_word all label ∷ []) is)
    (record { plane = refl; conn = refl; client = refl })
of_client all (command.Fence label) text is =
    of_words text _ (text_of_words (codes "fence") text (name_word all label ∷ []) is) (record { plane = refl; conn = refl; client = refl })
of_client all (command.Signal label) text is =
    of_words text _ (text_of_words (codes "signal") text (name_word all label ∷ []) is)
    (record { plane = refl; conn = refl; client = refl })
of_client all (command.Atomic r) text is =
    of_words text _ (text_of_words (codes "atomic") text (hex_word r.flags ∷ decimal r.user_data ∷ map (assign_word all) r.assigns) is)
    (record { plane = refl; conn = refl; client = refl })
of_client all command.Wait text is =
    of_words text _ (text_of_words (codes "wait") text [] is) (record { plane = refl; conn = refl; client = refl })

printed : (xs : List (List ℕ)) (k text : List ℕ) (ws : List (List ℕ)) → xs ≡ k ∷ ws → IsSpaced xs → text ++ 10 ∷ [] ≡ line xs
    → list_all is_printable text ≡ true
printed xs k text ws are s is =
    let words : AreWords s.most (k ∷ ws) = subst (AreWords s.most) are s.words in
    text_printable s.most k text ws words (is ∙ ap line are)

-- each byte of a command's line can be printed
pub line_printed : (profile : ℕ) (all : List (List ℕ)) (c : Command) (text : List ℕ)
    → is_command_in profile all c ≡ true → is_over c ≡ false
    → IsLineOf all c text → list_all is_printable text ≡ true
line_printed profile all c text spelt few is =
    let h = has_keyword all c in
    printed (command_words all c) h.keyword text h.words h.are (command_spaced profile all c spelt few) is
