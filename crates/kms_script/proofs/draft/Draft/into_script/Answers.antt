use Rattle.std.proofs.Common.{◌≡◌, ◌<◌, ◌≤◌, length, subst, sym, rules}
use Rattle.kms_model.specs.Script.WholeInput.{Draft}
use Rattle.kms_script.specs.Drafted.{draft_in, ended}
use Rattle.kms_words.specs.Fitting.{HasFitClients, IsFitDevice}
use Rattle.kms_script.proofs.Formed.{ended_device, keeps_limits}
use Rattle.kms_script.proofs.draft.Draft.into_script.Goals as goal

pub returns-clause-limits : goal.returns-clause-limits
returns-clause-limits c =
    let after = draft_in c.end_client.new.self in
    let same : after ≡ ended (draft_in c.args.self) = c.in_ok-end_client.ensures.value in
    let device : IsFitDevice after = rw same (ended_device (draft_in c.args.self) c.requires.sound.device) in
    let clients : HasFitClients after = c.in_ok-end_client.ensures.fit in
    let some : 0 < length after.conns = subst (λ (d : Draft). 0 < length d.conns) (sym same) c.requires.whole in
    let few : length after.clients ≤ 16 = subst (λ (d : Draft). length d.clients ≤ 16) (sym same) c.requires.sound.clients.few in
    keeps_limits after c.profile-profile.result _ c.end_client.new.self.clients c.profile-profile.ensures device some clients.clients few
    (search rules)
