use Rattle.std.proofs.Common.{ap, arith, length, sym}
use Rattle.std.proofs.lemmas.List.Elements.{All-same, All-tail}
use Rattle.std.specs.Vec.Iter.{into_iter_items, into_iter_len}
use Rattle.kms_run.specs.Running.{IsSeat, player_of}
use Rattle.kms_run.proofs.Seats.{all_made, one_made}
use Rattle.kms_run.proofs.running.players.Goals as goal

pub loop-pass-preserved : goal.loop-pass-preserved
loop-pass-preserved g c =
    let is_seat = IsSeat c.args.device.now in
    let i = c.loop-pass.invariant in
    let next = c.in-Some.ensures.steps.0 in
    let gone = c.in-Some.ensures.steps.1 in
    let long = ap length next in
    let left = i.left in record {
      made =
          one_made (player_of c.args.device.now) c.loop-pass.players.items c.push.new.self.items c.player.result c.in-Some.pass
          (into_iter_items c.loop-pass.pass-iterator)
          (into_iter_items c.next.new.self) _ i.made next c.player.ensures c.in_ok-push.ensures.items;
      seats = All-tail is_seat c.in-Some.pass _ (All-same is_seat _ _ (sym next) i.seats);
      left = omega (arith, gone, long, left);
    }

pub returns : goal.returns
returns g c =
    all_made (player_of c.args.device.now) c.loop-pass.players.items c.from_vec.result (into_iter_items c.loop-pass.pass-iterator)
    (into_iter_len c.loop-pass.pass-iterator) _
    c.loop-pass.invariant.made c.in-None.ensures.steps.0 c.loop-pass.invariant.left c.from_vec.ensures
