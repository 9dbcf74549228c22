use Rattle.std.proofs.Common.{◌≡◌, List, take}
use Rattle.kms_model.specs.declared.worlds.Setting.{Setting}
use Rattle.kms_model.specs.declared.worlds.Thing.{Thing}
use Rattle.kms_model.specs.declared.worlds.World.{World}
use Rattle.kms_model.specs.Request.Agreement.{AgreesNew, AgreesOld}
use Rattle.kms_model.specs.Request.Apply.{apply}
use Rattle.kms_model.specs.Request.Lookups.{look_up}
use Rattle.kms_props.specs.Setting.{AreSameDuplicated}
use Rattle.kms_request.specs.Whole.{ArePresent, TellSame, allowed_by}
use Rattle.kms_request.proofs.reaching.changed.Given as goal

-- the states after those assignments so far that count
abbrev pub invariant-loop-a : goal.invariant-loop-a
invariant-loop-a g l = record {
  same : AreSameDuplicated l.states l.after;
  old : (things : List Thing) (values : List Setting) → AgreesOld l.topology things values l.states
      → AgreesOld l.topology things values l.after;
  new : (w : World) → ArePresent l.topology w l.states → TellSame (g.L.Looker.meaning l.found) (look_up w)
      → AgreesNew l.topology w.things (apply w.things w.values
      (allowed_by l.topology (g.L.Looker.meaning l.found) (take l.a-index l.request.assigns))) l.after;
}
