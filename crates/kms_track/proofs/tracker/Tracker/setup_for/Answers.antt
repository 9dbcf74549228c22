use Rattle.std.proofs.Common.{None, map, rules, refl, ap, ◌∙◌}
use Rattle.kms_track.specs.Tracking.{no_last}
use Rattle.kms_track.proofs.tracker.Tracker.setup_for.Goals as goal

pub returns-clause-set_up : goal.returns-clause-set_up
returns-clause-set_up c =
    rw (← c.self.view_is) (record {
      count = refl;
      lasts = c.raise.ensures;
      previous = c.map-previous.result;
      previous_are = λ p place. (let call = c.map-previous.ensures.items.at p no_last None place in search (rules, call.2));
      waits = c.all_fences-fences.result;
      waits_are = c.all_fences-fences.ensures ∙ ap (map (λ f. f.1)) c.as_slice.ensures.value;
      tails = rw (c.in_ok-push.ensures.slots, c.new.ensures) refl;
    })
