use Rattle.kms_legacy.proofs.Saying.{whole_translated}
use Rattle.kms_legacy.proofs.ScreenAlong.{keeps_screen, whole_shown}
use Rattle.kms_legacy.proofs.WholeScripts.{fit_legacy, translation}
use Rattle.kms_legacy.proofs.script.translate_script.Goals as goal

pub pass_all-requires-clause-fit : goal.pass_all-requires-clause-fit
pass_all-requires-clause-fit c = fit_legacy c.forms_need_no_names.ensures c.args.script.now c.requires

pub returns-clause-translated : goal.returns-clause-translated
returns-clause-translated c =
    whole_translated c.args.script.now c.pass_all.new.going c.finish.result
    (translation c.requests_are_read_back.ensures c.args.script.now c.in_ok-going.going c.pass_all.new.going c.requires
    c.in_ok-going.ensures c.in_ok-pass_all.ensures) c.finish.ensures.value c.finish.ensures.differ

pub returns-clause-screen : goal.returns-clause-screen
returns-clause-screen c =
    whole_shown c.args.script.now c.pass_all.new.going c.finish.result
    (keeps_screen c.requests_are_read_back.ensures c.args.script.now c.in_ok-going.going c.pass_all.new.going c.requires
    c.in_ok-going.ensures c.in_ok-pass_all.ensures) c.finish.ensures.value
