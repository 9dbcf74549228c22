use Rattle.std.proofs.Common.{ap, ◌∙◌, ◌≡◌, Some, None, refl, subst, sym}
use Rattle.kms_model.specs.Device.Serial.{command_of}
use Rattle.kms_players.proofs.Behind.{knows_behind, number_fits}
use Rattle.kms_players.proofs.Standing.{at_command, attempting_anew, begun_anew, ends, idle_there, may_attempt, ok_request, plays_plain}
use Rattle.kms_players.proofs.site.Site.play_at.Goals as goal

pub behind-requires : goal.behind-requires
behind-requires g c = number_fits _ _ _ c.requires.stands

pub behind-requires-2 : goal.behind-requires-2
behind-requires-2 g c = number_fits _ _ _ c.requires.stands

pub returns-in-Returning : goal.returns-in-Returning
returns-in-Returning g c = record {
  plays = plays_plain _ _ _ _ _ _ c.in_ok-turn.ensures.turn;
  knows = rw c.behind.ensures (knows_behind _ _ _ _ c.requires.at.whose _ c.requires.stands _ _ c.requires.new c.in_ok-turn.ensures.turn);
  no_step = tt;
  anew = tt;
}

pub returns-in_default-command_of : goal.returns-in_default-command_of
returns-in_default-command_of g c = record {
  plays = (
    refl,
    refl,
    ends c.args.self.now.device.now.script c.args.self.now.client c.args.place c.args.pass.now c.requires.stands c.in_default.not-Returning
        (sym (subst (λ s. None ≡ command_of s (record { client = c.args.self.now.client; command = c.args.place.command }))
        c.script-script.ensures c.in_default-command_of.ensures)),
  );
  knows = c.requires.new;
  no_step = tt;
  anew = tt;
}

pub returns-in-Atomic : goal.returns-in-Atomic
returns-in-Atomic g c = record {
  plays =
      ok_request _ _ _ _ _ _ c.attempt.result
      (may_attempt c.args.self.now.device.now.script c.args.self.now.client c.args.place c.args.pass.now c.requires.stands
      c.in_default.not-Returning c.in-Atomic._request
      (sym (subst (λ s. Some c.in-Some.command.now
      ≡ command_of s (record { client = c.args.self.now.client; command = c.args.place.command })) c.script-script.ensures
      c.in-Some.ensures) ∙ ap Some c.in-Atomic.is))
      (begun_anew c.args.self.now.device.now.script c.args.self.now.client _ _ c.args.kept.now c.at.result c.attempt.new.kept c.args.place
      c.attempt.result c.requires.new c.at.ensures c.attempt.ensures.turn);
  knows = c.attempt.ensures.knows;
  no_step = c.attempt.ensures.no_step;
  anew = c.attempt.ensures.anew;
}

pub attempt-requires : goal.attempt-requires
attempt-requires g c = record {
  own = c.requires.at.own;
  whose = c.requires.at.whose;
  attempting =
      attempting_anew c.args.self.now.device.now.script c.args.self.now.client c.args.place c.args.pass.now c.requires.stands
      c.in_default.not-Returning c.in-Atomic._request c.at.result
      (sym (subst (λ s. Some c.in-Some.command.now
      ≡ command_of s (record { client = c.args.self.now.client; command = c.args.place.command })) c.script-script.ensures
      c.in-Some.ensures) ∙ ap Some c.in-Atomic.is) c.at.ensures;
}

pub execute-requires : goal.execute-requires
execute-requires g c =
    let there =
    idle_there c.args.self.now.device.now.script c.args.self.now.client c.args.place c.args.pass.now c.requires.stands
    c.in_default.not-Returning c.in-Some.command.now c.in_default-command.not-Atomic
    (sym (subst (λ s. Some c.in-Some.command.now ≡ command_of s
    (record { client = c.args.self.now.client; command = c.args.place.command })) c.script-script.ensures c.in-Some.ensures)) in
    record {
      own = c.requires.at.own;
      whose = c.requires.at.whose;
      is_open = c.requires.stands.is_open;
      idle = there.0;
      no_request = there.1;
      at = at_command c.args.self.now.device.now.script c.args.self.now.client c.args.place c.args.pass.now c.requires.stands;
    }

pub returns : goal.returns
returns g c = record {
  plays = plays_plain _ _ _ _ _ _ c.in_ok-turn-2.ensures.turn;
  knows = rw c.behind-2.ensures (knows_behind _ _ _ _ c.requires.at.whose _ c.requires.stands _ _ c.requires.new
      c.in_ok-turn-2.ensures.turn);
  no_step = tt;
  anew = tt;
}
