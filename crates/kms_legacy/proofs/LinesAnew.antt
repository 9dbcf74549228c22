-- The lines of commands that are said anew: few bytes, and read behind any names of their profile.
use Rattle.std.proofs.Common.{◌≡◌, ℕ, ◌≤◌, true, false, List, [], ◌∷◌, ◌++◌, codes, length, length-append, map, append-nil, Option, Some}
use Rattle.std.proofs.Common.{refl, sym, ap, subst, ◌∙◌, arith}
use Rattle.std.specs.Prelude.{is_some, nat_lt}
use Rattle.std.specs.Str.{bytes_eq}
use Rattle.std.proofs.lemmas.Bool.{true≢false}
use Rattle.std.proofs.lemmas.Bool.Decides.{nat_tests}
use Rattle.std.proofs.lemmas.List.{append_cancel_right, length-map}
use Rattle.kms_model.specs.declared.scripts.Command.{Command}
use Rattle.kms_model.specs.declared.scripts.Command.TheVariants as command
use Rattle.kms_model.specs.declared.scripts.Request.{Request}
use Rattle.kms_model.specs.Legacy.Translated.{renumbered}
use Rattle.kms_model.specs.Report.TextLines.{line}
use Rattle.kms_model.specs.Script.CommandLines.{Names, command_read, is_over, words_in}
use Rattle.kms_model.specs.Script.Spelling.{command_words}
use Rattle.kms_model.specs.Script.WellFormed.{is_command_in}
use Rattle.kms_model.specs.Script.Words.{until}
use Rattle.kms_script.specs.ReadAnew.{FormsNeedNoNames, IsLineOf, IsSaid, RequestsAreReadBack, renamed, renamed_assign}
use Rattle.kms_script.proofs.FitCommands.{command_fit}
use Rattle.kms_script.proofs.Inverted.{some_same}
use Rattle.kms_script.proofs.NamesBegin.{Begins}
use Rattle.kms_script.proofs.RequestsBack.{request_text}
use Rattle.kms_script.proofs.SpeltCommands.{command_spelt}
use Rattle.kms_legacy.specs.Translating.{IsReadAnew}
use Rattle.kms_script.proofs.CommandWords.{AreWords, IsSpaced, command_spaced, has_keyword, line_short, room}

pub text_same : (old : List (List ℕ)) (c : Command) (text other : List ℕ) → IsLineOf old c text → IsLineOf old c other → text ≡ other
text_same old c text other one two = append_cancel_right text other (10 ∷ []) (one ∙ sym two)

short_words : (xs : List (List ℕ)) (k text : List ℕ) (ws : List (List ℕ)) → xs ≡ k ∷ ws → IsSpaced xs → text ++ 10 ∷ [] ≡ line xs
    → length text ≤ 32768
short_words xs k text ws are s is =
    let words : AreWords s.most (k ∷ ws) = subst (AreWords s.most) are s.words in
    let few : room s.most (length (k ∷ ws)) ≤ 32768 = subst (λ (ys : List (List ℕ)). room s.most (length ys) ≤ 32768) are s.few in
    let whole : text ++ 10 ∷ [] ≡ line (k ∷ ws) = is ∙ ap line are in
    omega (arith, line_short s.most k ws words, few, ap length whole, length-append text (10 ∷ []))

pub short_line : (profile : ℕ) (old : List (List ℕ)) (c : Command) (text : List ℕ) → is_command_in profile old c ≡ true → is_over c ≡ false
    → IsLineOf old c text → length text ≤ 32768
short_line profile old c text spelt few is =
    let h = has_keyword old c in
    short_words (command_words old c) h.keyword text h.words h.are (command_spaced profile old c spelt few) is

-- Requests

not_many : (n : ℕ) → n ≤ 256 → nat_lt 256 n ≡ false
not_many n le = grind (arith, nat_tests)

few_renamed : (f : ℕ → ℕ) (r : Request) → length r.assigns ≤ 256 → is_over (command.Atomic (renamed f r)) ≡ false
few_renamed f r few = not_many (length (map (renamed_assign f) r.assigns)) (omega (arith, length-map r.assigns (renamed_assign f), few))

-- what is read of a line
abbrev pub read_as : Command → Names → Option (Command × Names)
read_as c names = Some (c, names)

pub command_of_both : (c d : Command) (a b : Names) → read_as c a ≡ read_as d b → c ≡ d
command_of_both c d a b e = ap (λ (x : Command × Names). x.0) (some_same {A = Command × Names} (c, a) (d, b) e)

pub said_anew : (profile : ℕ) (old : List (List ℕ)) (r : Request) → RequestsAreReadBack → IsSaid profile old r → length r.assigns ≤ 256
    → IsReadAnew profile old (command.Atomic r)
said_anew profile old r back said count =
    let own = λ (names : Names) (of : names.profile ≡ profile). subst (λ p. IsSaid p old r) (sym of) said in
    record {
      spelt = said.spelt;
      written = not_many (length r.assigns) count;
      short = λ text is. short_line profile old (command.Atomic r) text said.spelt (not_many (length r.assigns) count) is;
      formed = λ text names is of. ap is_some (back names old r text (subst (λ p. IsSaid p old r) (sym of) said) is).read;
      few = λ text names after d is of read.
          let b = back names old r text (subst (λ p. IsSaid p old r) (sym of) said) is in
          let f : ℕ → ℕ = renumbered old (words_in b.after) in
          let same : d ≡ command.Atomic (renamed f r) =
          command_of_both d (command.Atomic (renamed f r)) after b.after (sym read ∙ b.read) in
          ap is_over same ∙ few_renamed f r count;
    }

-- Plain lines

pub own_names : (names : Names) → Begins names (words_in names)
own_names names = record { more = []; whole = sym (append-nil (words_in names)) }

atomic_word : (all : List (List ℕ)) (r : Request) (text : List ℕ) → IsLineOf all (command.Atomic r) text
    → bytes_eq (until 32 text) (codes "atomic") ≡ true
atomic_word all r text is = ap (λ (xs : List ℕ). bytes_eq (until 32 xs) (codes "atomic")) (request_text all r text is)

-- a line that does not begin as a request is none
pub no_atomic : (names after : Names) (text : List ℕ) (r : Request) → bytes_eq (until 32 text) (codes "atomic") ≡ false
    → command_read names text ≡ Some (command.Atomic r, after) → ⊥
no_atomic names after text r other read =
    let is : IsLineOf (words_in after) (command.Atomic r) text =
    sym (command_spelt (words_in after) names after text (command.Atomic r) read (own_names after)) in
    true≢false (sym (atomic_word (words_in after) r text is) ∙ other)

pub not_over : (names after : Names) (text : List ℕ) (c : Command) → bytes_eq (until 32 text) (codes "atomic") ≡ false
    → command_read names text ≡ Some (c, after) → is_over c ≡ false
not_over names after text (command.Buffer label width height format pattern) other read = refl
not_over names after text (command.AddFb label buffer) other read = refl
not_over names after text (command.Mode label m) other read = refl
not_over names after text (command.Blob label bytes) other read = refl
not_over names after text (command.Destroy label) other read = refl
not_over names after text (command.CloseFb label) other read = refl
not_over names after text (command.Fence label) other read = refl
not_over names after text (command.Signal label) other read = refl
not_over names after text (command.Atomic r) other read = absurd (no_atomic names after text r other read)
not_over names after text command.Wait other read = refl

pub plain_anew : FormsNeedNoNames → (profile : ℕ) (all : List (List ℕ)) (names after : Names) (text : List ℕ) (c : Command)
    → names.profile ≡ profile → bytes_eq (until 32 text) (codes "atomic") ≡ false
    → command_read names text ≡ Some (c, after) → Begins after all → IsReadAnew profile all c
plain_anew forms profile all names after text c of other read begins =
    let own : IsLineOf all c text = sym (command_spelt all names after text c read begins) in
    let spelt : is_command_in profile all c ≡ true =
    subst (λ p. is_command_in p all c ≡ true) of (command_fit all names text (c, after) read begins) in
    let few : is_over c ≡ false = not_over names after text c other read in
    record {
      spelt = spelt;
      written = few;
      short = λ line is. short_line profile all c line spelt few is;
      formed =
          λ line later is at. ap (λ (xs : List ℕ). is_some (command_read later xs)) (text_same all c line text is own)
          ∙ (forms later names text ∙ ap is_some read);
      few = λ line later end d is at again.
          let same : line ≡ text = text_same all c line text is own in
          not_over later end line d (ap (λ (xs : List ℕ). bytes_eq (until 32 xs) (codes "atomic")) same ∙ other) again;
    }
