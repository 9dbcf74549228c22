use Rattle.std.proofs.Common.{◌≡◌, ◌+◌, ◌++◌, ◌<◌, ℕ, List, [], Some, length, take, append-nil, append_assoc, ap, sym, refl, subst, ◌∙◌}
use Rattle.std.proofs.Common.{arith, rules}
use Rattle.std.specs.Prelude.{slice_get}
use Rattle.std.specs.List.{IsDistinct}
use Rattle.std.specs.Str.{bytes_eq}
use Rattle.std.proofs.lemmas.Option.{slice_get_read}
use Rattle.kms_model.specs.Script.CommandLines.{words_in}
use Rattle.kms_words.specs.Named.{is_in_numbers, marked_names}
use Rattle.kms_words.specs.Packed.{made_words, packed_all}
use Rattle.kms_words.proofs.Naming.{marked_length, marked_words}
use Rattle.kms_words.proofs.PackedNames.{no_items, none_made, number_after, number_where}
use Rattle.kms_words.proofs.names.Names.push_made.Goals as goal

pub overflow_add-number : goal.overflow_add-number
overflow_add-number c =
    let at = c.self.inside in
    let count : length c.args.self.now.names.all ≡ length at.numbering = sym (ap (λ h. length h.names.all) c.self.view_is) ∙ marked_length
    (is_in_numbers at.made.keys) 0 at.numbering in
    let words : length c.words-words.result.now ≡ length at.numbering = ap length c.words-words.ensures.words in
    let inside : c.loop-word.word-index < length c.words-words.result.now = search rules in
    omega (arith, count, words, inside, c.requires.all, c.loop-word.invariant.number)

pub loop-word-preserved : goal.loop-word-preserved
loop-word-preserved c =
    let at = c.self.inside in
    let words = c.words-words.result.now in
    let i = c.loop-word.word-index in
    let word = c.as_slice.result.now in
    let item : slice_get words i ≡ Some word = slice_get_read words (length words) i c.word-item.result refl c.loop-word-test.true
    c.word-item.is ∙ ap Some (sym c.as_slice.ensures.value) in
    let made : c.contains-is_made.result ≡ is_in_numbers at.made.keys (0 + i) = rw (from_none i, ← c.loop-word.invariant.number)
    c.contains-is_made.ensures in
    let front : List ℕ = packed_all (made_words (marked_names (is_in_numbers at.made.keys) 0 (take i words))) in
    record {
      number = ap (λ n. n + 1) c.loop-word.invariant.number;
      items =
          c.in_ok-push_where.ensures
          ∙ (ap (λ b. c.loop-word.numbers.items ++ number_where b word) made
          ∙ (ap (λ ns. ns ++ number_where (is_in_numbers at.made.keys (0 + i)) word) c.loop-word.invariant.items
          ∙ (append_assoc c.args.numbers.now.items front (number_where (is_in_numbers at.made.keys (0 + i)) word)
          ∙ ap (λ ns. c.args.numbers.now.items ++ ns) (sym (number_after (is_in_numbers at.made.keys) 0 words i word item)))));
    }
  where
    from_none : (n : ℕ) → 0 + n ≡ n
    from_none n = omega arith

-- where no line makes a label, nothing is added
pub returns-then-is_empty-clause-made : goal.returns-then-is_empty-clause-made
returns-then-is_empty-clause-made c =
    let at = c.self.inside in
    let none : at.made.keys ≡ [] = no_items at.made.keys (c.if-is_empty.ensures.0 refl) in
    let all : made_words c.args.self.now.names.all ≡ [] =
    ap (λ h. made_words h.names.all) (sym c.self.view_is) ∙
    (ap (λ keys. made_words (marked_names (is_in_numbers keys) 0 at.numbering)) none ∙ none_made 0 at.numbering) in
    rw all (sym (append-nil c.args.numbers.now.items))

pub returns-then-is_empty-clause-differ : goal.returns-then-is_empty-clause-differ
returns-then-is_empty-clause-differ c =
    let at = c.self.inside in
    let words : words_in c.args.self.now.names ≡ at.numbering = sym (ap (λ h. words_in h.names) c.self.view_is) ∙ marked_words
    (is_in_numbers at.made.keys) 0 at.numbering in
    subst (λ ws. IsDistinct bytes_eq ws) (sym words) c.words-words.ensures.differ

pub returns-clause-differ : goal.returns-clause-differ
returns-clause-differ c =
    let at = c.self.inside in
    let words : words_in c.args.self.now.names ≡ at.numbering = sym (ap (λ h. words_in h.names) c.self.view_is) ∙ marked_words
    (is_in_numbers at.made.keys) 0 at.numbering in
    subst (λ ws. IsDistinct bytes_eq ws) (sym words) c.words-words.ensures.differ
