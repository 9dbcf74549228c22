use Rattle.std.proofs.Common.{◌≡◌, [], ◌∷◌, ◌++◌, codes, map, rules}
use Rattle.std.specs.Fmt.{decimal}
use Rattle.kms_words.specs.Printed.{fields}
use Rattle.kms_model.specs.Script.Spelling.{assign_word, format_word, hex_word, spelt_mode, name_word, pattern_words}
use Rattle.kms_words.proofs.Spaced.{fields-added, front-added, line-ended}
use Rattle.kms_words.proofs.printing_commands.push_command_words.Goals as goal

pub returns-in_ok-push_size-in-Buffer : goal.returns-in_ok-push_size-in-Buffer
returns-in_ok-push_size-in-Buffer c =
    let b = c.in-Buffer in
    let r = c.push_pattern.result in
    let name = name_word c.args.names.now b.label in
    let size = decimal b.width ∷ decimal b.height ∷ format_word b.format ∷ [] in
    let pattern = pattern_words b.format b.pattern in
    let front : c.push_front.new.text.items ≡ c.args.text.now.items ++ codes "buffer" ++ 32 ∷ name = search rules in
    let sized : c.push_size.new.text.items ≡ c.push_front.new.text.items ++ fields size = search rules in
    let words = fields-added r _ _ _ size pattern sized c.push_pattern.ensures in
    rw b.is (line-ended r _ _ (codes "buffer") (name ∷ (size ++ pattern))
    (front-added r _ _ _ (codes "buffer") name (size ++ pattern) front words))

pub returns-in_ok-push_front-in-Mode : goal.returns-in_ok-push_front-in-Mode
returns-in_ok-push_front-in-Mode c =
    let m = c.in-Mode in
    let r = c.push_mode.result in
    let name = name_word c.args.names.now m.label in
    let front : c.push_front-in-Mode.new.text.items ≡ c.args.text.now.items ++ codes "mode" ++ 32 ∷ name = search rules in
    rw m.is (line-ended r _ _ (codes "mode") (name ∷ spelt_mode m.mode)
    (front-added r _ _ _ (codes "mode") name (spelt_mode m.mode) front c.push_mode.ensures))

pub returns-in-Atomic : goal.returns-in-Atomic
returns-in-Atomic c =
    let q = c.in-Atomic.request in
    rw c.in-Atomic.is (line-ended c.push_atomic.result _ _ (codes "atomic")
    (hex_word q.flags ∷ decimal q.user_data ∷ map (assign_word c.args.names.now) q.assigns) c.push_atomic.ensures)
