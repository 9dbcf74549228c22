use Rattle.kms_suspend.proofs.Wakes.{sleep_and_wake}
use Rattle.kms_suspend.proofs.laws.devices_sleep_and_wake.Goals as goal

pub returns : goal.returns
returns c = sleep_and_wake (record {
  forms = c.longer_scripts_are_well_formed.ensures;
  over = c.one_is_over.ensures;
  stays = c.histories_stay.ensures.stay;
  added = c.histories_stay.ensures.added;
  finished = c.finished_histories_are_over.ensures;
  own = c.things_have_their_labels.ensures.own;
  serial = c.world_is_serial.ensures;
  shorter = c.tails_get_shorter.ensures;
  cleaned = c.all_tails_get_shorter.ensures.cleaned;
  dies = c.dead_histories_name_a_fence.ensures;
  headline = c.headline_holds.ensures;
  shown = c.all_is_shown_once_cleaned.ensures;
})
