use Rattle.std.proofs.Common.{◌≡◌, length, Some, refl, sym, ap, ap₂, ◌∙◌, ◌≤◌, rules}
use Rattle.std.specs.Prelude.{slice_get}
use Rattle.std.proofs.lemmas.List.{take_all}
use Rattle.std.proofs.lemmas.Option.{slice_get_read}
use Rattle.kms_model.specs.Script.CommandLines.{saying, unmade, words_in}
use Rattle.kms_words.specs.Named.{kept}
use Rattle.kms_words.proofs.Naming.{next_unmade, room_for_one, words_unmade}
use Rattle.kms_words.proofs.names.Names.from_words.Goals as goal

pub say-requires : goal.say-requires
say-requires c =
    rw c.loop-word.invariant (room_for_one c.args.profile c.args.words.now c.loop-word.word-index c.loop-word-test.true c.requires.few)

pub loop-word-preserved : goal.loop-word-preserved
loop-word-preserved c =
    let item : slice_get c.args.words.now c.loop-word.word-index
    ≡ Some c.as_slice.result.now = slice_get_read c.args.words.now (length c.args.words.now) c.loop-word.word-index c.word-item.result
    refl c.loop-word-test.true c.word-item.is ∙ ap Some (sym c.as_slice.ensures.value) in
    c.in_ok-say.ensures.names ∙ ap (saying c.as_slice.result.now) c.loop-word.invariant ∙ next_unmade c.args.profile c.args.words.now
    c.loop-word.word-index c.as_slice.result.now item c.requires.differ

pub returns : goal.returns
returns c =
    let past : length c.args.words.now ≤ c.loop-word.word-index = search rules in
    let all : c.loop-word.names.names ≡ unmade c.args.profile c.args.words.now = c.loop-word.invariant ∙ ap (unmade c.args.profile)
    (take_all c.loop-word.word-index c.args.words.now past) in
    c.keep.ensures.names ∙ ap₂ kept (ap (λ n. n.profile) all) (ap words_in all ∙ words_unmade c.args.profile c.args.words.now)
