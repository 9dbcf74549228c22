-- What the flags of a request ask for. From: `drm_mode.h`.
use Rattle.std.specs.Prelude.{ℕ, Bool, ◌==◌, bit_and}
use Rattle.kms_model.specs.declared.flags.TheConstants.{PAGE_FLIP_EVENT, PAGE_FLIP_ASYNC, TEST_ONLY, NONBLOCK, ALLOW_MODESET}

-- each bit of a flag is set
abbrev pub has_flag : ℕ → ℕ → Bool
has_flag flags flag = bit_and flags flag == flag

-- an event for each CRTC that the request names
abbrev pub wants_event : ℕ → Bool
wants_event flags = has_flag flags PAGE_FLIP_EVENT

abbrev pub is_async : ℕ → Bool
is_async flags = has_flag flags PAGE_FLIP_ASYNC

abbrev pub is_test : ℕ → Bool
is_test flags = has_flag flags TEST_ONLY

abbrev pub allows_modeset : ℕ → Bool
allows_modeset flags = has_flag flags ALLOW_MODESET

abbrev pub is_nonblock : ℕ → Bool
is_nonblock flags = has_flag flags NONBLOCK
