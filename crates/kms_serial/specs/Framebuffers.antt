-- The framebuffers that planes are set to.
use Rattle.std.specs.Prelude.{ℕ, Option, Some, None}
use Rattle.kms_model.specs.declared.pictures.FbInfo.{FbInfo}
use Rattle.kms_model.specs.declared.states.PlaneState.{PlaneState}

-- the id of a framebuffer, 0 of none
abbrev pub id_or_zero : Option FbInfo → ℕ
id_or_zero None = 0
id_or_zero (Some info) = info.id

-- the id of the framebuffer of a plane's state, 0 where it has none
abbrev pub framebuffer_id : Option PlaneState → ℕ
framebuffer_id None = 0
framebuffer_id (Some s) = id_or_zero s.fb
