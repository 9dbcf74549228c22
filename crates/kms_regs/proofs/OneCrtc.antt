-- A device of one CRTC has what the calls of a register file ask for: of a machine whose commit lights the CRTC, its shadow
-- words are those of the old states, and at the flush the CRTC is on in them as it is in the new state.
use Rattle.std.proofs.Common.{◌≡◌, ℕ, List, ◌++◌, true, refl}
use Rattle.std.specs.Prelude.{codes, Result, Ok, Err}
use Rattle.kms_model.specs.declared.scripts.Part.TheVariants as part
use Rattle.kms_model.specs.Device.Objects.{object_id}
use Rattle.kms_model.specs.declared.objects.Kind.TheVariants.{Crtc, Plane}
use Rattle.kms_model.specs.Machine.Commits.{commit_at, new_crtc, old_plane, old_values}
use Rattle.kms_model.specs.Machine.Histories.{at, is_history}
use Rattle.kms_model.specs.Machine.Registers.{crtc_register, crtc_words, is_on_in, plane_register, plane_words}
use Rattle.kms_model.specs.Request.Agreement.{crtc_state_at}
use Rattle.kms_model.specs.Script.InputLines.{Fault}
use Rattle.kms_model.specs.Script.Schedules.{Parts, input_of}
use Rattle.kms_model.proofs.OnMachines.{on_machines}
use Rattle.kms_model.proofs.Rows.{head, made}

-- a client makes a framebuffer and a mode, and lights the CRTC: its steps up to the claim, and the writes
abbrev lit : List ℕ
lit =
    head
    ++ made
    ++ codes "atomic 0x400 0 crtc0.ACTIVE=1 crtc0.MODE_ID=@m conn0.CRTC_ID=crtc0 plane0.FB_ID=@f plane0.CRTC_ID=crtc0 plane0.CRTC_W=1 plane0.CRTC_H=1 plane0.SRC_W=65536 plane0.SRC_H=65536\nschedule\nT make 1\nT make 1\nT make 1\nT begin 1\nT lock 1 crtc0\nT lock 1 plane0\nT lock 1 conn0\nT swap 1\nT claim 0\n"

abbrev writes : List ℕ
writes = codes "T write 0 crtc0\nT write 0 plane0\n"

-- the schedule is a history, and the words of the plane and of the CRTC are those of the states before its commit
abbrev AreOld : Result Parts Fault → Type 0
AreOld (Err fault) = ⊥
AreOld (Ok parts) =
    (is_history parts.script parts.steps ≡ true)
    × ((plane_register (at parts.script parts.steps).device.shadow (object_id Plane 0)
    ≡ plane_words (old_plane parts.script.topology (at parts.script parts.steps).device.commits 0 (object_id Plane 0)))
    × (crtc_register (at parts.script parts.steps).device.shadow (object_id Crtc 0)
    ≡ crtc_words 0
    (crtc_state_at parts.script.topology (commit_at parts.script.topology (at parts.script parts.steps).device.commits 0).world.things
    (old_values (commit_at parts.script.topology (at parts.script parts.steps).device.commits 0)) (object_id Crtc 0))))

pub words_are_old : AreOld (input_of part.Schedule lit)
unfolding on_machines
words_are_old = (refl, (refl, refl))

-- the schedule is a history, and the CRTC is on in its shadow words and in the commit's new state
abbrev IsOnAtFlush : Result Parts Fault → Type 0
IsOnAtFlush (Err fault) = ⊥
IsOnAtFlush (Ok parts) =
    (is_history parts.script parts.steps ≡ true)
    × ((is_on_in (at parts.script parts.steps).device.shadow (object_id Crtc 0) ≡ true)
    × ((new_crtc parts.script.topology (at parts.script parts.steps).device.commits 0 (object_id Crtc 0)).active ≡ true))

pub crtc_is_on_at_flush : IsOnAtFlush (input_of part.Schedule (lit ++ writes))
unfolding on_machines
crtc_is_on_at_flush = (refl, (refl, refl))
