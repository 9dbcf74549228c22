use Rattle.std.proofs.Common.{length, refl, subst, sym}
use Rattle.kms_audit.proofs.Begun.{compared-first, dark-tracks, kept-first, started}
use Rattle.kms_audit.specs.Latching.{AreWithin, LatchFields}
use Rattle.kms_model.specs.Device.Sound.{IsDevice}
use Rattle.std.proofs.Common.{List}
use Rattle.kms_audit.proofs.walk.Walk.new.Goals as goal

pub new-requires : goal.new-requires
new-requires c = subst IsDevice (sym c.in_ok-topology.ensures) c.requires.formed.device

pub returns : goal.returns
returns c = record {
  kept =
      kept-first c.args.script.now c.args.report.now _ c.requires.formed.device
      (started c.in_ok-serial.serial c.in_ok-topology.topology c.args.script.now.topology c.in_ok-serial.ensures c.in_ok-topology.ensures)
      refl
      c.none-touches.ensures c.new-owners.ensures
      (dark-tracks c.dark-showing.result.tracks c.as_slice-lines.result.now c.args.report.now.latches c.as_slice-lines.ensures.value
      c.dark-showing.ensures.tracks)
      (subst (λ (ls : List LatchFields). AreWithin (length ls) c.dark-showing.result) c.as_slice-lines.ensures.value
      c.dark-showing.ensures.within)
      c.dark-showing.ensures.kept;
  compared =
      compared-first c.args.script.now c.args.report.now c.args.ordered.now c.none-compared.result c.requires.ordered
      c.none-compared.ensures.blocks
      c.none-compared.ensures.differing;
}
