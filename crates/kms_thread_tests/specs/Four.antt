-- The passes of a device with four seats.
use Rattle.std.specs.Prelude.{◌≡◌}
use Rattle.kms_device.specs.Turns.{DevicePass, SharedDevice}

-- They are of the device's lock, and their ranks are 1 to 4 in this order.
pub record AreFour (d : SharedDevice) (p : DevicePass × DevicePass × DevicePass × DevicePass) : Type 0 where
  pub one_own : p.0.lock ≡ d.lock
  pub one_rank : p.0.rank ≡ 1
  pub other_own : p.1.lock ≡ d.lock
  pub other_rank : p.1.rank ≡ 2
  pub worker_own : p.2.lock ≡ d.lock
  pub worker_rank : p.2.rank ≡ 3
  pub tick_own : p.3.lock ≡ d.lock
  pub tick_rank : p.3.rank ≡ 4
