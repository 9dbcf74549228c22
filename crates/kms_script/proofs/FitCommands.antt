-- Each command that was read is one that words spell with the names of the whole script.
use Rattle.std.specs.Prelude.{nat_lt, ◌&&◌}
use Rattle.std.proofs.Common.{◌^◌, [], ◌≡◌, ℕ, true, List, ◌∷◌, Some, refl, ◌∙◌, length, map, arith}
use Rattle.std.specs.List.{list_all}
use Rattle.kms_model.specs.declared.scripts.Command.{Command}
use Rattle.kms_model.specs.Script.CommandLines.{Names, command_read, making, place, saying, label_alone}
use Rattle.kms_model.specs.Script.WellFormed.{is_word32, is_assign_in, is_command_in, is_label_in}
use Rattle.kms_model.specs.Script.Words.{from, is_label, label_at, until, between}
use Rattle.kms_script.proofs.EachCommand.{command_each, IsBlobLine, IsOfLabel, IsRequest}
use Rattle.kms_script.proofs.FitWords.{long_fit}
use Rattle.kms_script.proofs.NamesBegin.{Begins, before_saying, making_says, said_word}
use Rattle.kms_script.proofs.SpeltAssigns.{assigns_named}
use Rattle.std.specs.Fmt.{decimal}
use Rattle.kms_model.specs.Script.Spelling.{assign_word, blob_word, command_words, hex_word, name_word}
use Rattle.kms_script.proofs.LineFields.{end_spelt, field_spelt, words_spelt}
use Rattle.kms_script.proofs.SpeltFields.{IsTaken, alone_taken, at_end, behind, blobs, format_taken, hex_taken, label_taken, mode_taken}
use Rattle.kms_script.proofs.SpeltFields.{number_taken, numbers, word32_taken}
use Rattle.kms_script.proofs.SpeltPatterns.{pattern_taken}

-- a command that was read of its first word and the fields behind it, after names so far, among all names of a script
pub record Reads (all : List (List ℕ)) (names : Names) (k bytes : List ℕ) (c : Command) : Type 0 where
  pub begins : Begins names all
  pub words : List (List ℕ)
  pub known : command_words all c ≡ k ∷ words
  pub taken : IsTaken (is_command_in names.profile all c) words bytes []

-- a label that was said is one of the names
said_taken : (all : List (List ℕ)) (names : Names) (label bytes rest : List ℕ) → IsTaken (is_label label) (label ∷ []) bytes rest
    → Begins (saying label names) all
    → IsTaken (is_label_in all (place label names)) (name_word all (place label names) ∷ []) bytes rest
said_taken all names label bytes rest t b = rw (said_word all label names b) t

module _ (all : List (List ℕ)) (names : Names) where
  -- a label that a command makes
  made_taken : (bytes : List ℕ) (label : List ℕ × List ℕ) → label_at bytes ≡ Some label → Begins (making label.0 names) all
      → IsTaken (is_label_in all (place label.0 names)) (name_word all (place label.0 names) ∷ []) bytes label.1
  made_taken bytes label first b =
      said_taken all names label.0 bytes label.1 (label_taken bytes label first) (making_says all label.0 names b)

  before_making : (label : List ℕ) → Begins (making label names) all → Begins names all
  before_making label b = before_saying all label names (making_says all label names b)

  -- one label up to the end of the line
  one_label : (k : List ℕ) (f : ℕ → Command) → IsOfLabel k f → (bytes label : List ℕ) → label_alone bytes ≡ Some label
      → Begins (saying label names) all → Reads all names k bytes (f (place label names))
  one_label k f of bytes label alone b =
      let t = said_taken all names label bytes [] (alone_taken bytes label alone) b in
      record {
        begins = before_saying all label names b;
        words = name_word all (place label names) ∷ [];
        known = of.spelt all (place label names);
        taken = record { fit = of.fits names.profile all (place label names) ∙ t.fit; spelt = t.spelt };
      }

  atomic_taken : (bytes : List ℕ) (p : IsRequest names bytes) → Begins p.sets.1 all
      → IsTaken (is_word32 p.flags.0 && (nat_lt p.user.0 (2 ^ 64) && list_all (is_assign_in names.profile all) p.sets.0))
      (hex_word p.flags.0 ∷ decimal p.user.0 ∷ map (assign_word all) p.sets.0) bytes []
  atomic_taken bytes p b =
      let user : IsTaken (nat_lt p.user.0 (2 ^ 64)) (decimal p.user.0 ∷ []) p.flags.1 p.user.1 =
      number_taken 18446744073709551615 (λ n. nat_lt n (2 ^ 64))
      (numbers 18446744073709551615 (λ n. nat_lt n (2 ^ 64)) (omega arith) long_fit)
      p.flags.1 p.user p.second in
      let of = assigns_named all p.words names p.sets p.given b in
      let sets : IsTaken (list_all (is_assign_in names.profile all) p.sets.0) (map (assign_word all) p.sets.0) p.user.1 [] =
      record { fit = of.fit; spelt = rw of.same (words_spelt p.user.1 p.words p.rest) } in
      behind (hex_taken bytes p.flags p.first) (behind user sets)

  blob_taken : (bytes : List ℕ) (p : IsBlobLine bytes)
      → IsTaken (between 1 2048 (length p.blob) && list_all (λ b. nat_lt b 256) p.blob) (blob_word p.blob ∷ []) p.label.1 []
  blob_taken bytes p = at_end tt
      (record { fit = blobs.fit p.blob p.f.0 p.given; spelt = rw (blobs.spelt p.blob p.f.0 p.given) (field_spelt p.label.1 p.f p.shown) })
      p.end

  -- any command
  pub command_reads : (text : List ℕ) (r : Command × Names) → command_read names text ≡ Some r → Begins r.1 all
      → Reads all names (until 32 text) (from 32 text) r.0
  command_reads = command_each names (λ k bytes r. Begins r.1 all → Reads all names k bytes r.0) (record {
    atomic = λ bytes p b. record {
      begins = (assigns_named all p.words names p.sets p.given b).begins;
      words = _;
      known = refl;
      taken = atomic_taken bytes p b;
    };
    wait = λ bytes end b. record { begins = b; words = []; known = refl; taken = record { fit = refl; spelt = end_spelt bytes tt end } };
    naming = one_label;
    making_one = λ k f of bytes label alone b. one_label k f of bytes label alone (making_says all label names b);
    buffer = λ bytes p b.
        (let t = behind (made_taken bytes p.label p.first b) (behind (word32_taken p.label.1 p.w p.wide)
        (behind (word32_taken p.w.1 p.h p.high)
        (behind (format_taken p.h.1 p.format p.code) (pattern_taken p.w.0 p.h.0 p.format.0 p.format.1 p.pattern p.shown)))) in
        record { begins = before_making p.label.0 b; words = _; known = refl; taken = t });
    addfb = λ bytes p b.
        (let first = before_saying all p.buffer (making p.label.0 names) b in
        let t = behind (made_taken bytes p.label p.first first)
        (said_taken all (making p.label.0 names) p.buffer p.label.1 [] (alone_taken p.label.1 p.buffer p.last) b) in
        record { begins = before_making p.label.0 first; words = _; known = refl; taken = t });
    mode = λ bytes p b.
        (let t = behind (made_taken bytes p.label p.first b) (at_end tt (mode_taken p.label.1 p.mode p.shown) p.end) in
        record { begins = before_making p.label.0 b; words = _; known = refl; taken = t });
    blob = λ bytes p b.
        (let t = behind (made_taken bytes p.label p.first b) (blob_taken bytes p) in
        record { begins = before_making p.label.0 b; words = _; known = refl; taken = t });
  })

pub command_fit : (all : List (List ℕ)) (names : Names) (text : List ℕ) (r : Command × Names) → command_read names text ≡ Some r
    → Begins r.1 all → is_command_in names.profile all r.0 ≡ true
command_fit all names text r e b = (command_reads all names text r e b).taken.fit
