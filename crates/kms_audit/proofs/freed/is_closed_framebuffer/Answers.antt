use Rattle.std.proofs.Common.{◌≡◌, rules}
use Rattle.std.specs.Str.{bytes_eq}
use Rattle.kms_audit.proofs.Freeing.{closed-is, closed-none, closed-not}
use Rattle.kms_model.specs.Device.World.{thing_with_id}
use Rattle.kms_model.specs.Script.Spelling.{name_word}
use Rattle.kms_audit.proofs.freed.is_closed_framebuffer.Goals as goal

pub returns-in_default : goal.returns-in_default
returns-in_default c =
    closed-none c.args.script.now.names c.args.label.now (thing_with_id c.args.serial.now.world.things c.args.id) c.in_default.ensures

pub returns-then-is_open : goal.returns-then-is_open
returns-then-is_open c =
    closed-not c.args.script.now.names c.args.label.now
    (thing_with_id c.args.serial.now.world.things c.args.id) c.in-Some.number c.in-Some.is_open
    c.in-Some.ensures c.if-is_open.true

pub returns : goal.returns
returns c =
    let is : c.eq.result ≡ bytes_eq c.args.label.now (name_word c.args.script.now.names c.in-Some.number) = search rules in
    closed-is c.args.script.now.names c.args.label.now
    (thing_with_id c.args.serial.now.world.things c.args.id) c.in-Some.number c.in-Some.is_open
    c.in-Some.ensures c.if-is_open.false c.eq.result is
