-- The passes that a thread drives.
use Rattle.std.specs.Prelude.{◌≡◌}
use Rattle.kms_histlock.specs.Passes.{IsSamePass}
use Rattle.kms_device.specs.Turns.{SharedDevice}
use Rattle.kms_thread_tests.specs.declared.pass_calls.two.Two.{Two}

-- both are passes of a device
abbrev pub AreOf : SharedDevice → Two → Type 0
AreOf device two = (two.one.lock ≡ device.lock) × (two.other.lock ≡ device.lock)

-- both are the same passes, which may have seen and made more
abbrev pub AreSame : Two → Two → Type 0
AreSame before after = IsSamePass before.one after.one × IsSamePass before.other after.other
