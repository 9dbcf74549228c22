-- The commands so far are passed, and what they brought leaves room for the others.
use Rattle.std.proofs.Common.{◌+◌, ◌*◌, ◌≤◌, length, take}
use Rattle.kms_legacy.specs.Translating.{ArePassed, IsOver, said_names}
use Rattle.kms_legacy.proofs.script.pass_all.Given as goal

abbrev pub invariant-loop-command : goal.invariant-loop-command
invariant-loop-command l = record {
  passed : ArePassed l.script.base.names l.script.base.topology (take l.command-index l.script.commands) l.initial.going l.going;
  over : IsOver l.script.base.topology l.going;
  all : length (said_names l.going).all ≤ 32770 * l.command-index;
  made : (said_names l.going).made ≤ 32770 * l.command-index;
  ids : l.going.serial.world.next_id ≤ 1000 + 4 * l.command-index;
  commits : l.going.serial.world.commits ≤ l.command-index;
}
