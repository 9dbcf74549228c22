-- The typed states of a device's objects before the first command.
use Rattle.std.specs.Prelude.{ℕ, false, nat_lt, List, length, map, Option, Some, None, if◌then◌else◌}
use Rattle.std.specs.List.{range_with_len}
use Rattle.kms_model.specs.Device.Places.{alike}
use Rattle.kms_model.specs.declared.objects.Topology.{Topology}
use Rattle.kms_model.specs.declared.states.Both.{Both}
use Rattle.kms_model.specs.declared.states.ConnState.{ConnState}
use Rattle.kms_model.specs.declared.states.CrtcState.{CrtcState}
use Rattle.kms_model.specs.declared.states.Duplicates.{Duplicates}
use Rattle.kms_model.specs.declared.states.PlaneState.{PlaneState}
use Rattle.kms_model.specs.Frames.LayersInPlace.{nowhere}

-- off, without a mode, and with no plane and no connector
abbrev pub off_crtc : CrtcState
off_crtc = record { active = false; mode = None; gamma = None; planes = 0; conns = 0 }

-- without a framebuffer and a CRTC, opaque, pre-multiplied, and at the place of its index
abbrev pub off_plane : ℕ → PlaneState
off_plane index = record { fb = None; crtc = 0; dst = nowhere; src = nowhere; alpha = 65535; blend = 0; zpos = index }

abbrev pub off_conn : ConnState
off_conn = record { crtc = 0 }

-- the states of the first objects of a kind, by their indices, in room for some objects
abbrev pub states_below : {S : Type 0} → ℕ → (ℕ → S) → ℕ → List (Option (Both S))
states_below room state count = map (λ index. if nat_lt index count then Some (alike (state index)) else None) (range_with_len 0 room)

-- the states of all objects of a device before the first command
abbrev pub start_states : Topology → Duplicates
start_states t = record {
  crtcs = states_below 4 (λ index. off_crtc) t.crtcs;
  planes = states_below 16 off_plane (length t.planes);
  conns = states_below 8 (λ index. off_conn) (length t.conns);
}
