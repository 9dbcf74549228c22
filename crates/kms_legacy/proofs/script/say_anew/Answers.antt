use Rattle.std.proofs.Common.{◌≡◌, ℕ, ◌≤◌, true, List, length, sym, ap, subst, arith}
use Rattle.std.specs.Prelude.{is_some}
use Rattle.kms_model.specs.Script.CommandLines.{command_read}
use Rattle.kms_script.specs.ReadAnew.{IsLineOf}
use Rattle.kms_script.proofs.ProfileStays.{command_stays}
use Rattle.kms_legacy.specs.Translating.{said_names}
use Rattle.kms_legacy.proofs.Saying.{fit_of, world_after}
use Rattle.kms_legacy.proofs.script.say_anew.Goals as goal

pub read_anew-requires-clause-room : goal.read_anew-requires-clause-room
read_anew-requires-clause-room c =
    let short : length c.in_ok-line.line ≤ 32768 = c.requires.anew.short c.in_ok-line.line c.in_ok-line.ensures in
    let size : length c.as_slice.result.now ≡ length c.in_ok-line.line = ap length c.as_slice.ensures.value in
    record { all = omega (arith, c.requires.room.all, short, size); made = omega (arith, c.requires.room.made, short, size) }

pub read_anew-requires-clause-formed : goal.read_anew-requires-clause-formed
read_anew-requires-clause-formed c =
    subst (λ (text : List ℕ). is_some (command_read (said_names c.args.going.now) text) ≡ true) (sym c.as_slice.ensures.value)
    (c.requires.anew.formed c.in_ok-line.line (said_names c.args.going.now) c.in_ok-line.ensures c.requires.over.profile)

pub execute-requires : goal.execute-requires
execute-requires c =
    let is : IsLineOf c.args.old.now c.args.command.now c.as_slice.result.now =
    subst (IsLineOf c.args.old.now c.args.command.now) (sym c.as_slice.ensures.value) c.in_ok-line.ensures in
    record {
      fit = fit_of c.in_ok-command.command c.in_ok-command.ensures.filled
          (c.requires.anew.few c.as_slice.result.now
          (said_names c.args.going.now) c.read_anew.new.names.names c.in_ok-command.command is c.requires.over.profile
          c.in_ok-command.ensures.read);
      room = record { ids = c.requires.room.ids; commits = c.requires.room.commits };
    }

pub returns-clause-said : goal.returns-clause-said
returns-clause-said c =
    let is : IsLineOf c.args.old.now c.args.command.now c.as_slice.result.now =
    subst (IsLineOf c.args.old.now c.args.command.now) (sym c.as_slice.ensures.value) c.in_ok-line.ensures in
    record {
      spelt = c.requires.anew.spelt;
      few = c.requires.anew.written;
      text = c.as_slice.result.now;
      is_line = is;
      command = c.in_ok-command.command;
      read = c.in_ok-command.ensures.read;
      fit = fit_of c.in_ok-command.command c.in_ok-command.ensures.filled
          (c.requires.anew.few c.as_slice.result.now
          (said_names c.args.going.now) c.read_anew.new.names.names c.in_ok-command.command is c.requires.over.profile
          c.in_ok-command.ensures.read);
      world =
          world_after c.args._topology.now c.args.going.now.serial.topology c.args.going.now.serial.world c.execute.new.self.world
          c.in_ok-command.command c.in_ok-execute.field-0 c.requires.over.device c.in_ok-execute.ensures.executed;
      lines = c.in_ok-push.ensures.ok;
    }

pub returns-clause-goes : goal.returns-clause-goes
returns-clause-goes c =
    let short : length c.in_ok-line.line ≤ 32768 = c.requires.anew.short c.in_ok-line.line c.in_ok-line.ensures in
    let size : length c.as_slice.result.now ≡ length c.in_ok-line.line = ap length c.as_slice.ensures.value in
    record {
      profile =
          command_stays (said_names c.args.going.now) c.as_slice.result.now
          (c.in_ok-command.command, c.read_anew.new.names.names) c.in_ok-command.ensures.read;
      device = c.in_ok-execute.ensures.topology;
      grown = record {
        all = omega (arith, c.in_ok-command.ensures.grows.all, short, size);
        made = omega (arith, c.in_ok-command.ensures.grows.made, short, size);
      };
      ids = c.in_ok-execute.ensures.grows.ids;
      commits = c.in_ok-execute.ensures.grows.commits;
    }
