-- Requests on a device all of whose objects are duplicated.
use Rattle.std.proofs.Common.{◌≡◌, ℕ, List, Option, None, refl, sym, ◌∙◌}
use Rattle.std.specs.Prelude.{is_some}
use Rattle.kms_model.specs.Device.Places.{state_at}
use Rattle.kms_model.specs.declared.objects.Topology.{Topology}
use Rattle.kms_model.specs.declared.scripts.Request.{Request}
use Rattle.kms_model.specs.declared.states.Both.{Both}
use Rattle.kms_model.specs.declared.states.Duplicates.{Duplicates}
use Rattle.kms_model.specs.declared.worlds.World.{World}
use Rattle.kms_model.specs.Request.Lookups.{look_up}
use Rattle.kms_model.specs.Request.Refusals.{early_refusal}
use Rattle.kms_model.specs.Request.Verdict.{verdict}
use Rattle.kms_model.proofs.Items.{or_else-none}
use Rattle.kms_props.specs.Setting.{AreSameDuplicated}
use Rattle.kms_request.specs.Whole.{ArePresent, ArePresentSomewhere, StandBetween}
use Rattle.kms_serial.specs.Device.{StandsInWorld}
use Rattle.kms_things.specs.Present.{AreWhole, IsAfter, IsWhole}

-- what is duplicated stays so
whole_same : {S : Type 0} {count : ℕ} {before : List (Option (Both S))} (after : List (Option (Both S)))
    → ((index : ℕ) → is_some (state_at after index) ≡ is_some (state_at before index)) → AreWhole count before → AreWhole count after
whole_same after alike whole = record {
  there = λ index lt. alike index ∙ whole.there index lt;
  only = λ index some. whole.only index (sym (alike index) ∙ some);
}

whole_after : {t : Topology} {before after : Duplicates} → AreSameDuplicated before after → IsWhole t before → IsWhole t after
whole_after {t} {before} {after} same whole = record {
  crtcs = whole_same after.crtcs same.crtcs whole.crtcs;
  planes = whole_same after.planes same.planes whole.planes;
  conns = whole_same after.conns same.conns whole.conns;
}

-- the states of a device are the present ones
pub present : {t : Topology} {w : World} {d : Duplicates} → StandsInWorld t w d → ArePresent t w d
present stands = record {
  device = stands.device;
  sound = stands.lawful.sound;
  numbered = stands.lawful.numbered;
  old = stands.present.old;
  new = stands.present.new;
  all = record {
    crtcs = stands.present.whole.crtcs.there;
    planes = stands.present.whole.planes.there;
    conns =
        stands.present.whole.conns.there;
  };
}

pub present_there : {t : Topology} {w : World} {d : Duplicates} → StandsInWorld t w d → ArePresentSomewhere look_up t (look_up w) d
present_there {t} {w} {d} stands = record { world = w; present = present stands; tells = λ label. refl }

-- those after a request for which no early refusal is due
pub stands_after : (t : Topology) (w : World) (r : Request) (before after : Duplicates) → StandsInWorld t w before
    → AreSameDuplicated before after → StandBetween t w r after → IsAfter t w r after
stands_after t w r before after stands same between = record {
  whole = whole_after same stands.present.whole;
  old = between.old;
  new = between.new;
}

-- none of them is due to an accepted one
pub accepted_early : (t : Topology) (w : World) (r : Request) → verdict t w r ≡ None → early_refusal t (look_up w) r ≡ None
unfolding verdict
accepted_early t w r none = (or_else-none (early_refusal t (look_up w) r) _ none).first_none
