use Rattle.std.proofs.Common.{sym}
use Rattle.kms_device.proofs.TriedCases.{no_request, not_waiting}
use Rattle.kms_device.proofs.device.Device.step_at.Goals as goal

pub unreachable-requires : goal.unreachable-requires
unreachable-requires g c = no_request c.args.self.now.script c.args.pass.now c.args.kept.now c.rank-client.result c.args.here.now
    (sym c.rank-client.ensures) c.requires.ready c.requires.stands c.script.result.now c.script.ensures c.in_default.ensures

pub unreachable-requires-in-Returning : goal.unreachable-requires-in-Returning
unreachable-requires-in-Returning g c = not_waiting c.args.self.now.script c.args.pass.now c.args.kept.now c.rank-client.result
    c.args.here.now (sym c.rank-client.ensures) c.requires.ready c.requires.stands c.in-Returning._commit c.in-Returning.is
