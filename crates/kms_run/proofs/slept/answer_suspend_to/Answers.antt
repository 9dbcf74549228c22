use Rattle.std.proofs.Common.{rules}
use Rattle.kms_model.proofs.FewerClients.{has-room}
use Rattle.kms_run.proofs.Sleeping.{sleep_told}
use Rattle.kms_run.proofs.slept.answer_suspend_to.Goals as goal

pub suspend_script-requires-clause-room : goal.suspend_script-requires-clause-room
suspend_script-requires-clause-room g c = has-room c.args.input.now c.in_ok-parsed.parsed.script (search rules)

pub returns : goal.returns
returns g c = sleep_told c.args.input.now c.in_ok-parsed.parsed.script c.suspend_script.result (search rules) (search rules)
