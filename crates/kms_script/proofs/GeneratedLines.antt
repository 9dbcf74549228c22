-- The lines of a commit and of the wait for its event are read as these commands.
use Rattle.std.proofs.Common.{◌≡◌, ℕ, zero, suc, ◌<◌, ◌≤◌, ◌%◌, ◌/◌, Bool, true, false, List, [], ◌∷◌, ◌++◌, map, Some, refl, codes, arith}
use Rattle.std.specs.Prelude.{◌==◌, if◌then◌else◌, pos}
use Rattle.std.specs.Fmt.{decimal, digits}
use Rattle.kms_script.proofs.RequestsBack.{line_read}
use Rattle.std.specs.List.{list_all}
use Rattle.kms_model.specs.declared.flags.TheConstants.{PAGE_FLIP_EVENT}
use Rattle.kms_model.specs.declared.objects.Kind.{Kind}
use Rattle.kms_model.specs.declared.objects.Kind.TheVariants.{Plane}
use Rattle.kms_model.specs.declared.properties.TheConstants.{ALPHA, CRTC_X, FB_ID}
use Rattle.kms_model.specs.declared.scripts.Assign.{Assign}
use Rattle.kms_model.specs.declared.scripts.Command.{Command}
use Rattle.kms_model.specs.declared.scripts.Command.TheVariants.{Atomic}
use Rattle.kms_model.specs.declared.scripts.PropRef.TheVariants.{Known}
use Rattle.kms_model.specs.declared.scripts.Value.{Value}
use Rattle.kms_model.specs.declared.scripts.Value.TheVariants.{Num, Named}
use Rattle.kms_model.specs.Script.CommandLines.{Names, assign_read, assign_words, assigns_read, command_read, property_read, value_read}
use Rattle.kms_model.specs.Script.Generated.{Drawn, drawn_framebuffer, framebuffer_f, framebuffer_h, names_of_client, on_plane}
use Rattle.kms_model.specs.Script.Grammar.{is_printable}
use Rattle.kms_model.proofs.OnScripts.{on_scripts}
use Rattle.kms_words.specs.Printed.{fields}
use Rattle.kms_script.proofs.CommandWords.{AreWords, IsWord, behind, closed, fields_printable, number_word, wider, words_inner}
use Rattle.kms_script.proofs.Cutting.{number_value}

-- an assignment, of its parts
set_read : (names : Names) (word given prop : List ℕ) (kind : Kind) (index id : ℕ) (v : Value)
    → assign_words word ≡ Some (kind, index, prop, given) → property_read names prop ≡ (Known id, names)
    → value_read names given ≡ Some (v, names)
    → assign_read names word ≡ Some (record { kind = kind; index = index; prop = Known id; value = v }, names)
unfolding assign_read
set_read names word given prop kind index id v parts of_prop of_value = rw (parts, of_prop, of_value) refl

-- Requests

three_read : (names : Names) (u v w : List ℕ) (a b c : Assign) → assign_read names u ≡ Some (a, names)
    → assign_read names v ≡ Some (b, names) → assign_read names w ≡ Some (c, names)
    → assigns_read names (u ∷ v ∷ w ∷ []) ≡ Some (a ∷ b ∷ c ∷ [], names)
three_read names u v w a b c first second third = rw (first, second, third) refl

-- The words of a commit: the CRTC is 0 or 1.

pub by_crtc : (P : ℕ → Type 0) → P 0 → P 1 → (crtc : ℕ) → crtc < 2 → P crtc
by_crtc P first second zero lt = first
by_crtc P first second (suc zero) lt = second
by_crtc P first second (suc (suc c)) lt = absurd (omega (arith, lt))

-- names of labels that are all made
abbrev all_made : List (List ℕ) → ℕ → Names
all_made words count = record { profile = 1; all = map (λ w. record { word = w; is_made = true }) words; made = count; is_twice = false }

-- the names before the commits of a client
abbrev pub names_before : ℕ → Names
names_before zero = all_made (names_of_client (codes "1")) 5
names_before (suc c) = all_made (names_of_client (codes "1") ++ names_of_client (codes "2")) 10

abbrev shows : ℕ → Bool → List ℕ
shows zero true = codes "plane0.FB_ID=@f1"
shows zero false = codes "plane0.FB_ID=@h1"
shows (suc c) true = codes "plane1.FB_ID=@f2"
shows (suc c) false = codes "plane1.FB_ID=@h2"

abbrev fades : ℕ → List ℕ
fades zero = codes "plane0.alpha="
fades (suc c) = codes "plane1.alpha="

abbrev moves : ℕ → List ℕ
moves zero = codes "plane0.CRTC_X="
moves (suc c) = codes "plane1.CRTC_X="

abbrev alpha : Drawn → ℕ
alpha d = d.number / 2 % 65536

abbrev left : Drawn → ℕ
left d = d.number / 131072 % 64

abbrev set_words : ℕ → Drawn → List (List ℕ)
set_words crtc d = shows crtc (d.number % 2 == 0) ∷ (fades crtc ++ decimal (alpha d)) ∷ (moves crtc ++ decimal (left d)) ∷ []

-- the text of a commit
abbrev pub flip_text : ℕ → Drawn → List ℕ
flip_text crtc d = codes "atomic" ++ fields (codes "0x1" ∷ decimal d.index ∷ set_words crtc d)

abbrev sets : ℕ → Drawn → List Assign
sets crtc d = on_plane crtc FB_ID (Named (drawn_framebuffer crtc d.number)) ∷ on_plane crtc ALPHA (Num (pos (alpha d)))
    ∷ on_plane crtc CRTC_X (Num (pos (left d))) ∷ []

abbrev pub commit : ℕ → Drawn → Command
commit crtc d = Atomic (record { flags = PAGE_FLIP_EVENT; user_data = d.index; assigns = sets crtc d })

-- the framebuffer by a test
abbrev shown_by : Bool → ℕ → ℕ
shown_by even crtc = if even then framebuffer_f crtc else framebuffer_h crtc

show_read : (crtc : ℕ) → crtc < 2 → (even : Bool)
    → assign_read (names_before crtc) (shows crtc even) ≡ Some (on_plane crtc FB_ID (Named (shown_by even crtc)), names_before crtc)
unfolding on_scripts
show_read crtc lt even = by_crtc (λ c. assign_read (names_before c) (shows c even)
    ≡ Some (on_plane c FB_ID (Named (shown_by even c)), names_before c)) (first even) (second even) crtc lt
  where
    first : (even : Bool) → assign_read (names_before 0) (shows 0 even) ≡ Some (on_plane 0 FB_ID (Named (shown_by even 0)), names_before 0)
    first true = refl
    first false = refl

    second : (even : Bool) → assign_read (names_before 1) (shows 1 even) ≡ Some (on_plane 1 FB_ID (Named (shown_by even 1)), names_before 1)
    second true = refl
    second false = refl

fade_parts : (given : List ℕ) (crtc : ℕ) → crtc < 2 → assign_words (fades crtc ++ given) ≡ Some (Plane, crtc, codes "alpha", given)
unfolding on_scripts
fade_parts given crtc lt = by_crtc (λ c. assign_words (fades c ++ given) ≡ Some (Plane, c, codes "alpha", given)) refl refl crtc lt

move_parts : (given : List ℕ) (crtc : ℕ) → crtc < 2 → assign_words (moves crtc ++ given) ≡ Some (Plane, crtc, codes "CRTC_X", given)
unfolding on_scripts
move_parts given crtc lt = by_crtc (λ c. assign_words (moves c ++ given) ≡ Some (Plane, c, codes "CRTC_X", given)) refl refl crtc lt

of_alpha : (crtc : ℕ) → crtc < 2 → property_read (names_before crtc) (codes "alpha") ≡ (Known ALPHA, names_before crtc)
unfolding property_read on_scripts
of_alpha crtc lt = by_crtc (λ c. property_read (names_before c) (codes "alpha") ≡ (Known ALPHA, names_before c)) refl refl crtc lt

of_left : (crtc : ℕ) → crtc < 2 → property_read (names_before crtc) (codes "CRTC_X") ≡ (Known CRTC_X, names_before crtc)
unfolding property_read on_scripts
of_left crtc lt = by_crtc (λ c. property_read (names_before c) (codes "CRTC_X") ≡ (Known CRTC_X, names_before c)) refl refl crtc lt

alpha_small : (d : Drawn) → alpha d ≤ 18446744073709551615
alpha_small d = omega arith

left_small : (d : Drawn) → left d ≤ 18446744073709551615
left_small d = omega arith

sets_read : (crtc : ℕ) (d : Drawn) → crtc < 2 → assigns_read (names_before crtc) (set_words crtc d) ≡ Some (sets crtc d, names_before crtc)
sets_read crtc d lt =
    let names = names_before crtc in
    three_read names _ _ _ _ _ _
    (show_read crtc lt (d.number % 2 == 0))
    (set_read names _ (decimal (alpha d)) (codes "alpha") Plane crtc ALPHA _ (fade_parts (decimal (alpha d)) crtc lt) (of_alpha crtc lt)
    (number_value names (alpha d) (alpha_small d)))
    (set_read names _ (decimal (left d)) (codes "CRTC_X") Plane crtc CRTC_X _ (move_parts (decimal (left d)) crtc lt) (of_left crtc lt)
    (number_value names (left d) (left_small d)))

-- Bytes

show_word : (crtc : ℕ) → crtc < 2 → (even : Bool) → IsWord 40 (shows crtc even)
show_word crtc lt true = by_crtc (λ c. IsWord 40 (shows c true)) (closed 40 _ refl) (closed 40 _ refl) crtc lt
show_word crtc lt false = by_crtc (λ c. IsWord 40 (shows c false)) (closed 40 _ refl) (closed 40 _ refl) crtc lt

words_of_sets : (crtc : ℕ) (d : Drawn) → crtc < 2 → AreWords 40 (set_words crtc d)
words_of_sets crtc d lt =
    let fade = by_crtc (λ c. IsWord 20 (fades c)) (closed 20 _ refl) (closed 20 _ refl) crtc lt in
    let move = by_crtc (λ c. IsWord 20 (moves c)) (closed 20 _ refl) (closed 20 _ refl) crtc lt in
    let alpha_few = alpha_small d in
    let left_few = left_small d in (
      show_word crtc lt (d.number % 2 == 0),
      (
        behind 20 20 (fades crtc) (decimal (alpha d)) fade (number_word (alpha d) (omega (arith, alpha_few))),
        (behind 20 20 (moves crtc) (decimal (left d)) move (number_word (left d) (omega (arith, left_few))), tt),
      ),
    )

-- each byte of a commit's line can be printed
pub flip_plain : (crtc : ℕ) (d : Drawn) → crtc < 2 → d.index ≤ 18446744073709551615 → list_all is_printable (flip_text crtc d) ≡ true
flip_plain crtc d lt le =
    fields_printable 40 (codes "0x1" ∷ decimal d.index ∷ set_words crtc d)
    (closed 40 _ refl, (wider 20 40 _ (omega arith) (number_word d.index (omega (arith, le))), words_of_sets crtc d lt))

-- the line of a commit
pub flip_read : (crtc : ℕ) (d : Drawn) → crtc < 2 → d.index ≤ 18446744073709551615
    → command_read (names_before crtc) (flip_text crtc d) ≡ Some (commit crtc d, names_before crtc)
unfolding digits
flip_read crtc d lt le =
    line_read (names_before crtc) (names_before crtc) PAGE_FLIP_EVENT d.index (set_words crtc d) (sets crtc d) (omega arith) le
    (words_inner 40 (set_words crtc d) (words_of_sets crtc d lt)) (sets_read crtc d lt)
