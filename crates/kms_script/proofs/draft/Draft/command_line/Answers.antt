use Rattle.std.proofs.Common.{◌≤◌, ◌∙◌, refl, subst, sym}
use Rattle.kms_script.proofs.ProfileStays.{as_many, few_more, fit_more, fit_profile}
use Rattle.kms_script.proofs.draft.Draft.command_line.Goals as goal

pub returns-clause-keeps : goal.returns-clause-keeps
returns-clause-keeps c =
    let old = c.requires.sound.device in
    record {
      device = record {
        profile = fit_profile c.args.self.now.names.names c.args.text.now c.in_ok-command.command c.read_line.new.names.names
            c.in_ok-command.ensures.value old.profile;
        crtcs = old.crtcs;
        no_planes = old.no_planes;
        no_conns = old.no_conns;
        some_planes = old.some_planes;
        few_planes = old.few_planes;
        few_conns = old.few_conns;
        planes = old.planes;
        conns = old.conns;
      };
      clients = record {
        few = subst (λ n. n ≤ 16) (as_many c.args.self.now.clients c.args.self.now.has_client c.args.self.now.commands c.push.new.self)
            c.requires.sound.clients.few;
        clients = c.requires.sound.clients.clients;
        few_commands = few_more c.args.self.now.commands c.push.new.self c.in_ok-command.command _ c.in_ok-push.ensures.ok
            (sym c.is_full.ensures ∙ c.if-is_full.false);
        commands = fit_more c.args.self.now.commands c.push.new.self c.in_ok-command.command c.in_ok-push.ensures.ok
            c.requires.sound.clients.commands c.in_ok-command.ensures.fit;
      };
      size = refl;
      names = c.in_ok-command.ensures.grows;
      once = c.in_ok-command.ensures.once;
    }
