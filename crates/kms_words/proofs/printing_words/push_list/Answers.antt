use Rattle.std.proofs.Common.{◌≡◌, ◌++◌, true, false, sym, rules}
use Rattle.kms_model.specs.Device.Masks.{has_bit}
use Rattle.kms_words.specs.Printed.{item_word}
use Rattle.kms_words.proofs.Listing.{comma_taken, comma_passed, list_passed, word_added}
use Rattle.kms_words.proofs.printing_words.push_list.Goals as goal

pub loop-bit-preserved : goal.loop-bit-preserved
loop-bit-preserved c =
    let is : has_bit c.args.mask c.loop-bit.bit ≡ true = search rules in
    let marked : c.extend_from_slice.new.self.items ≡ c.loop-bit.text.items ++ c.loop-bit.separator.now = search rules in
    let now : c.push_item.new.text.items ≡ c.extend_from_slice.new.self.items ++ item_word c.args.items c.loop-bit.bit = search rules
    in record {
      words = word_added _ _ c.loop-bit.separator.now _ _ (item_word c.args.items) c.args.mask c.loop-bit.bit is c.loop-bit.invariant.words
          c.loop-bit.invariant.mark marked now;
      mark = sym (comma_taken c.args.mask c.loop-bit.bit is);
    }

pub loop-bit-preserved-then-not-has_bit : goal.loop-bit-preserved-then-not-has_bit
loop-bit-preserved-then-not-has_bit c =
    let is : has_bit c.args.mask c.loop-bit.bit ≡ false = search rules in record {
      words = rw (list_passed c.args.mask c.loop-bit.bit (item_word c.args.items) is) c.loop-bit.invariant.words;
      mark = rw (comma_passed c.args.mask c.loop-bit.bit is) c.loop-bit.invariant.mark;
    }
