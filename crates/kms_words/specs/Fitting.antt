-- What is kept of a script while it is read: it is one within the limits.
use Rattle.std.specs.Prelude.{◌≡◌, ◌<◌, ◌≤◌, ◌^◌, ℕ, true, length, All, ⊤}
use Rattle.std.specs.List.{AllByRecursion, IsDistinct}
use Rattle.std.specs.Str.{bytes_eq}
use Rattle.kms_model.specs.declared.objects.PlaneInfo.{PlaneInfo}
use Rattle.kms_model.specs.declared.scripts.Command.{Command}
use Rattle.kms_model.specs.declared.scripts.Command.TheVariants as command
use Rattle.kms_model.specs.declared.scripts.Pattern.{Pattern}
use Rattle.kms_model.specs.declared.scripts.Pattern.TheVariants.{Pixels}
use Rattle.kms_model.specs.declared.scripts.Script.{Script}
use Rattle.kms_model.specs.Device.Sound.{IsDevice}
use Rattle.kms_model.specs.Things.Kept.{Fills}
use Rattle.kms_model.specs.Script.WellFormed.{IsFitClient, IsFitCommand}
use Rattle.kms_model.specs.Script.WholeInput.{Draft, clients_in}
use Rattle.kms_model.specs.Script.Words.{between}

-- a pattern fills its buffer
abbrev pub HasFilled : Command → Type 0
HasFilled (command.Buffer label width height format pattern) = Fills pattern width height
HasFilled _ = ⊤

-- a pattern of so many pixels
abbrev pub IsOfPixels : Pattern → ℕ → Type 0
IsOfPixels (Pixels words) count = length words ≡ count
IsOfPixels _ count = ⊥

-- masks of CRTCs and formats that there are, and a kind of plane
pub record IsFitPlane (count : ℕ) (p : PlaneInfo) : Type 0 where
  pub crtcs : p.crtcs < 2 ^ count
  pub formats : p.formats < 8
  pub kind : p.kind ≤ 2

-- a mask of CRTCs that there are
abbrev pub IsFitMask : ℕ → ℕ → Type 0
IsFitMask crtcs mask = mask < 2 ^ crtcs

-- a number of CRTCs
pub record IsFitCount (crtcs : ℕ) : Type 0 where
  pub some : 1 ≤ crtcs
  pub few : crtcs ≤ 4

-- a profile that there is
abbrev pub IsFitProfile : ℕ → Type 0
IsFitProfile profile = between 1 2 profile ≡ true

-- the device of the lines so far
pub record IsFitDevice (d : Draft) : Type 0 where
  pub profile : IsFitProfile d.names.profile
  pub crtcs : 2 ≤ d.head → IsFitCount d.crtcs
  pub no_planes : d.head < 2 → length d.planes ≡ 0
  pub no_conns : d.head < 2 → length d.conns ≡ 0
  pub some_planes : 0 < length d.conns → 0 < length d.planes
  pub few_planes : length d.planes ≤ 16
  pub few_conns : length d.conns ≤ 8
  pub planes : All (IsFitPlane d.crtcs) d.planes
  pub conns : All (IsFitMask d.crtcs) d.conns

-- the clients of the lines so far
pub record HasFitClients (d : Draft) : Type 0 where
  pub few : length (clients_in d) ≤ 16
  pub clients : All IsFitClient d.clients
  pub few_commands : length d.commands ≤ 4096
  pub commands : All IsFitCommand d.commands

-- what a whole draft keeps of a script: the limits, the version and names that differ
pub record KeepsLimits (s : Script) : Type 0 where
  pub device : IsDevice s.topology
  pub few : length s.clients ≤ 16
  pub clients : AllByRecursion IsFitClient s.clients
  pub version : s.version ≡ s.topology.profile
  pub differ : IsDistinct bytes_eq s.names
