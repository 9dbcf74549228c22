use Rattle.std.proofs.Common.{◌≡◌, ◌++◌, codes, rules}
use Rattle.kms_script.proofs.Texts.{client_added}
use Rattle.kms_script.proofs.printing.push_client.Goals as goal

pub returns : goal.returns
returns c =
    let front : c.extend_from_slice.new.self.items ≡ c.args.text.now.items ++ codes "client\n" = search rules in
    client_added _ _ _ c.args.names.now c.args.commands.now c.loop-command.command-index c.loop-command-test.false front
    c.loop-command.invariant
