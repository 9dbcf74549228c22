-- What was read within the limits is a well-formed script.
use Rattle.std.proofs.Common.{◌≡◌, ℕ, zero, suc, ◌<◌, ◌≤◌, ◌^◌, ◌⊎◌, inl, inr, Bool, true, false, List, [], ◌∷◌, length, refl, sym, subst}
use Rattle.std.proofs.Common.{arith}
use Rattle.std.specs.Prelude.{◌&&◌, All, not}
use Rattle.std.specs.List.{AllByRecursion, IsDistinct, list_all}
use Rattle.std.specs.Str.{bytes_eq}
use Rattle.std.proofs.lemmas.Bool.{cases_lt, le-leb, lt-ltb}
use Rattle.kms_model.specs.declared.objects.PlaneInfo.{PlaneInfo}
use Rattle.kms_model.specs.declared.scripts.Command.{Command}
use Rattle.kms_model.specs.declared.scripts.Script.{Script}
use Rattle.kms_model.specs.Device.Properties.{has_legal_masks, is_legal_device, is_mask_below}
use Rattle.kms_model.specs.Device.Sound.{IsDevice}
use Rattle.kms_model.specs.Script.InputLines.{Row}
use Rattle.kms_model.specs.Script.Spelling.{Spells}
use Rattle.kms_model.specs.Script.WellFormed.{IsFitClient, IsWellFormed}
use Rattle.kms_model.specs.Script.WholeInput.{Draft, is_conn_of, is_done, is_nil, topology_in}
use Rattle.kms_model.specs.Script.Words.{between}
use Rattle.kms_script.proofs.FitScripts.{IsSpelt, spelt_fits}
use Rattle.kms_script.specs.Drafted.{ended}
use Rattle.kms_words.specs.Fitting.{KeepsLimits, IsFitCount, IsFitDevice, IsFitMask, IsFitPlane}

pub by_recursion : {A : Type 0} (P : A → Type 0) (xs : List A) → All P xs → AllByRecursion P xs
by_recursion P [] all = tt
by_recursion P (x ∷ xs) all = (all zero x (omega arith), by_recursion P xs (λ k d lt. all (suc k) d (omega arith)))

each_passes : {A : Type 0} (P : A → Type 0) (p : A → Bool) → ((x : A) → P x → p x ≡ true) → (xs : List A) → AllByRecursion P xs
    → list_all p xs ≡ true
each_passes P p passes [] all = refl
each_passes P p passes (x ∷ xs) all = rw (passes x all.0, each_passes P p passes xs all.1) refl

is_between : (low high n : ℕ) → low ≤ n → n ≤ high → between low high n ≡ true
is_between low high n le ge = rw (le-leb low n le, le-leb n high ge) refl

legal_plane : (crtcs : ℕ) (p : PlaneInfo) → IsFitPlane crtcs p → has_legal_masks crtcs p ≡ true
legal_plane crtcs p fit = rw (lt-ltb p.crtcs (2 ^ crtcs) fit.crtcs, lt-ltb p.formats 8 fit.formats) refl

legal_mask : (crtcs mask : ℕ) → IsFitMask crtcs mask → is_mask_below crtcs mask ≡ true
legal_mask crtcs mask lt = rw (lt-ltb mask (2 ^ crtcs) lt) refl

late_head : (d : Draft) → IsFitDevice d → 0 < length d.conns → (d.head < 2) ⊎ (2 ≤ d.head) → 2 ≤ d.head
late_head d fit some (inl early) = absurd (omega (arith, fit.no_conns early))
late_head d fit some (inr late) = late

legal_device : (d : Draft) → IsFitDevice d → 0 < length d.conns → is_legal_device (topology_in d) ≡ true
legal_device d fit some =
    let count : IsFitCount d.crtcs = fit.crtcs (late_head d fit some (cases_lt d.head 2)) in
    let crtcs : between 1 4 d.crtcs ≡ true = is_between 1 4 d.crtcs count.some count.few in
    let planes : between 1 16 (length d.planes) ≡ true = is_between 1 16 (length d.planes) (omega (arith, fit.some_planes some))
    fit.few_planes in
    let conns : between 1 8 (length d.conns) ≡ true = is_between 1 8 (length d.conns) (omega arith) fit.few_conns in
    let masks : list_all (has_legal_masks d.crtcs) d.planes
    ≡ true = each_passes (IsFitPlane d.crtcs) (has_legal_masks d.crtcs) (legal_plane d.crtcs) d.planes
    (by_recursion (IsFitPlane d.crtcs) d.planes fit.planes) in
    let routes : list_all (is_mask_below d.crtcs) d.conns
    ≡ true = each_passes (IsFitMask d.crtcs) (is_mask_below d.crtcs) (legal_mask d.crtcs) d.conns
    (by_recursion (IsFitMask d.crtcs) d.conns fit.conns) in
    rw (crtcs, planes, conns, masks, routes) refl

pub ended_device : (d : Draft) → IsFitDevice d → IsFitDevice (ended d)
ended_device d fit = record {
  profile = fit.profile;
  crtcs = fit.crtcs;
  no_planes = fit.no_planes;
  no_conns = fit.no_conns;
  some_planes = fit.some_planes;
  few_planes = fit.few_planes;
  few_conns = fit.few_conns;
  planes = fit.planes;
  conns = fit.conns;
}

keeps_own : (d : Draft) (names : List (List ℕ)) (clients : List (List Command)) → IsFitDevice d → 0 < length d.conns
    → All IsFitClient clients → length clients ≤ 16 → IsDistinct bytes_eq names
    → KeepsLimits (record { version = d.names.profile; topology = topology_in d; names = names; clients = clients })
keeps_own d names clients fit some each few differ = record {
  device = record { profile = fit.profile; legal = legal_device d fit some; kinds = λ k p lt. (fit.planes k p lt).kind };
  few = few;
  clients = by_recursion IsFitClient clients each;
  version = refl;
  differ = differ;
}

-- the script of a draft with a profile
abbrev pub of_profile : Draft → ℕ → List (List ℕ) → List (List Command) → Script
of_profile d profile names clients = record {
  version = profile;
  topology =
      record { profile = profile; crtcs = d.crtcs; planes = d.planes; conns = d.conns };
  names = names;
  clients = clients;
}

pub keeps_limits : (d : Draft) (profile : ℕ) (names : List (List ℕ)) (clients : List (List Command)) → profile ≡ d.names.profile
    → IsFitDevice d → 0 < length d.conns → All IsFitClient clients → length clients ≤ 16 → IsDistinct bytes_eq names
    → KeepsLimits (of_profile d profile names clients)
keeps_limits d profile names clients same fit some each few differ =
    subst (λ p. KeepsLimits (of_profile d p names clients)) (sym same) (keeps_own d names clients fit some each few differ)

-- the device of a draft with a connector
whole_device : (d : Draft) → IsFitDevice d → 0 < length d.conns → IsDevice (topology_in d)
whole_device d fit some = record { profile = fit.profile; legal = legal_device d fit some; kinds = λ k p lt. (fit.planes k p lt).kind }

some_items : {A : Type 0} (xs : List A) → is_nil xs ≡ false → 0 < length xs
some_items [] some = absurd cc
some_items (x ∷ xs) some = omega arith

pub device_at_end : (d : Draft) → IsFitDevice d → is_nil d.conns ≡ false → IsDevice (topology_in d)
device_at_end d fit some = whole_device d fit (some_items d.conns some)

not_nil : (nil conn : Bool) → (not nil && not conn) ≡ true → nil ≡ false
not_nil true conn done = absurd cc
not_nil false conn done = refl

pub device_at : (d : Draft) (row : Row) → IsFitDevice d → is_done d row ≡ true → IsDevice (topology_in d)
device_at d row fit done = device_at_end d fit (not_nil (is_nil d.conns) (is_conn_of d.crtcs row) done)

-- a script that bytes spell, and that keeps the limits, is well formed
pub well_formed : (bytes : List ℕ) (s : Script) → KeepsLimits s → Spells bytes s → IsWellFormed s
well_formed bytes s limits spells =
    let spelt : IsSpelt s = spelt_fits bytes s spells in
    record {
      device = limits.device;
      few = limits.few;
      clients = limits.clients;
      version = limits.version;
      planes = spelt.planes;
      conns = spelt.conns;
      differ = limits.differ;
      commands = spelt.commands;
      bytes = bytes;
      spells = spells;
    }
