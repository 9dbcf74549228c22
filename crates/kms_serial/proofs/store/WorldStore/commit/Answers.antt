use Rattle.std.proofs.Common.{◌≡◌, ◌+◌, List, [], length, refl, sym, subst, rules}
use Rattle.kms_model.specs.declared.objects.Kind.TheVariants as kind
use Rattle.kms_model.specs.declared.scripts.Assign.{Assign}
use Rattle.kms_model.specs.declared.worlds.World.{World}
use Rattle.kms_model.specs.Device.Objects.{ids_of}
use Rattle.kms_model.specs.Request.Apply.{after}
use Rattle.kms_request.specs.Fences.{TellOutFences}
use Rattle.kms_serial.proofs.Committing.{labels_are}
use Rattle.kms_serial.proofs.store.WorldStore.commit.Goals as goal

pub returns-clause-world : goal.returns-clause-world
returns-clause-world c =
    let assigns = c.args.request.now.assigns in
    let labels = c.out_fence_numbers-labels.result in
    let tell = subst (λ (all : List Assign). TellOutFences all labels) c.as_slice.ensures.value c.out_fence_numbers-labels.ensures in
    let long : length labels ≡ 16 = search rules in
    let asked = labels_are assigns labels c.args.topology.now.crtcs long c.requires.few tell in
    let before : World = record { values = c.self.inside.values.settings; things = c.self.inside.things.things; next_id = 0; commits = 0 }
    in
    let w : World = record { values = after before c.args.request.now; things = []; next_id = 0; commits = c.self.inside.commits + 1 } in
    rw (← c.self.view_is, c.after-values.ensures before refl refl)
    (sym (c.in_ok-make_out_fences.ensures.made w assigns (ids_of c.args.topology.now kind.Crtc) asked))
