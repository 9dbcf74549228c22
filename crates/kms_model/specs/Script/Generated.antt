-- Generated scripts: two clients that flip their own planes, by the numbers of a linear congruential generator. This
-- device's own.
use Rattle.std.specs.Prelude.{ℕ, zero, suc, ◌+◌, ◌-◌, ◌*◌, ◌/◌, ◌%◌, ◌^◌, ◌==◌, List, [], ◌∷◌, ◌++◌, map, codes, pos, replicate}
use Rattle.std.specs.Prelude.{if◌then◌else◌}
use Rattle.std.specs.List.{flat_map}
use Rattle.kms_model.specs.declared.flags.TheConstants.{PAGE_FLIP_EVENT, ALLOW_MODESET}
use Rattle.kms_model.specs.declared.objects.Format.TheVariants.{Xr24}
use Rattle.kms_model.specs.declared.objects.Kind.{Kind}
use Rattle.kms_model.specs.declared.objects.Kind.TheVariants as kind
use Rattle.kms_model.specs.declared.objects.Mode.{Mode}
use Rattle.kms_model.specs.declared.objects.Topology.{Topology}
use Rattle.kms_model.specs.declared.properties.TheConstants.{ACTIVE, MODE_ID, CRTC_ID, FB_ID, CRTC_X, CRTC_W, CRTC_H, SRC_W, SRC_H, ALPHA}
use Rattle.kms_model.specs.declared.scripts.Assign.{Assign}
use Rattle.kms_model.specs.declared.scripts.Command.{Command}
use Rattle.kms_model.specs.declared.scripts.Command.TheVariants as command
use Rattle.kms_model.specs.declared.scripts.Pattern.TheVariants.{Solid, Ramp}
use Rattle.kms_model.specs.declared.scripts.PropRef.TheVariants.{Known}
use Rattle.kms_model.specs.declared.scripts.Script.{Script}
use Rattle.kms_model.specs.declared.scripts.Value.{Value}
use Rattle.kms_model.specs.declared.scripts.Value.TheVariants as value
use Rattle.kms_model.specs.Device.Modes.{plain_mode}

-- the next number of the generator, modulo 2^64
abbrev pub next_number : ℕ → ℕ
next_number x = (x * 6364136223846793005 + 1442695040888963407) % 2 ^ 64

-- a commit's number, counted from 1, and the number that it is made of
pub record Drawn : Type 0 where
  pub index : ℕ
  pub number : ℕ

-- so many commits from an index on, behind a number of the generator
unfoldable pub drawn_from : ℕ → ℕ → ℕ → List Drawn
drawn_from index x zero = []
drawn_from index x (suc n) = record { index = index; number = next_number x / 2 ^ 33 } ∷ drawn_from (index + 1) (next_number x) n

-- Labels are numbers of names in order of first occurrence: each client makes five.
abbrev pub label : ℕ → ℕ → ℕ
label crtc place = 5 * crtc + place

-- the labels of a client that drives a CRTC: a buffer and its framebuffer, another of each, and a mode
abbrev pub buffer_b : ℕ → ℕ
buffer_b crtc = label crtc 0

abbrev pub framebuffer_f : ℕ → ℕ
framebuffer_f crtc = label crtc 1

abbrev pub buffer_g : ℕ → ℕ
buffer_g crtc = label crtc 2

abbrev pub framebuffer_h : ℕ → ℕ
framebuffer_h crtc = label crtc 3

abbrev pub mode_m : ℕ → ℕ
mode_m crtc = label crtc 4

abbrev pub names_of_client : List ℕ → List (List ℕ)
names_of_client digit = map (λ letter. letter ++ digit) (codes "b" ∷ codes "f" ∷ codes "g" ∷ codes "h" ∷ codes "m" ∷ [])

-- 64 by 64 pixels
abbrev pub generated_mode : Mode
generated_mode = plain_mode 1000 64 64 (codes "gen" ++ replicate 29 0)

abbrev pub assigns_to : Kind → ℕ → ℕ → Value → Assign
assigns_to kind index prop v = record { kind = kind; index = index; prop = Known prop; value = v }

abbrev pub on_plane : ℕ → ℕ → Value → Assign
on_plane crtc prop v = assigns_to kind.Plane crtc prop v

-- what lights a CRTC, its connector and its plane, which have its index
abbrev pub lights : ℕ → List Assign
lights crtc =
    assigns_to kind.Crtc crtc ACTIVE (value.Num (pos 1))
    ∷ assigns_to kind.Crtc crtc MODE_ID (value.Named (mode_m crtc))
    ∷ assigns_to kind.Conn crtc CRTC_ID (value.Crtc crtc)
    ∷ on_plane crtc FB_ID (value.Named (framebuffer_f crtc))
    ∷ on_plane crtc CRTC_ID (value.Crtc crtc)
    ∷ on_plane crtc CRTC_W (value.Num (pos 64))
    ∷ on_plane crtc CRTC_H (value.Num (pos 64))
    ∷ on_plane crtc SRC_W (value.Num (pos 4194304))
    ∷ on_plane crtc SRC_H (value.Num (pos 4194304))
    ∷ []

-- the framebuffer of a commit: f of an even number, h of an odd one
abbrev pub drawn_framebuffer : ℕ → ℕ → ℕ
drawn_framebuffer crtc number = if number % 2 == 0 then framebuffer_f crtc else framebuffer_h crtc

-- a commit that asks for an event, and the wait for it
abbrev pub flip : ℕ → Drawn → List Command
flip crtc d =
    command.Atomic (record {
      flags = PAGE_FLIP_EVENT;
      user_data = d.index;
      assigns =
          on_plane crtc FB_ID (value.Named (drawn_framebuffer crtc d.number))
          ∷ on_plane crtc ALPHA (value.Num (pos (d.number / 2 % 65536)))
          ∷ on_plane crtc CRTC_X (value.Num (pos (d.number / 131072 % 64)))
          ∷ [];
    })
    ∷ command.Wait ∷ []

-- the commands of the client that drives a CRTC: it does every other commit
abbrev pub flips_of : ℕ → Drawn → List Command
flips_of crtc d = if (d.index - 1) % 2 == crtc then flip crtc d else []

abbrev pub commands_for : List Drawn → ℕ → List Command
commands_for drawn crtc =
    command.Buffer (buffer_b crtc) 64 64 Xr24 Ramp
    ∷ command.AddFb (framebuffer_f crtc) (buffer_b crtc)
    ∷ command.Buffer (buffer_g crtc) 64 64 Xr24 (Solid 0x00204060)
    ∷ command.AddFb (framebuffer_h crtc) (buffer_g crtc)
    ∷ command.Mode (mode_m crtc) generated_mode
    ∷ command.Atomic (record { flags = ALLOW_MODESET; user_data = 0; assigns = lights crtc })
    ∷ flat_map (flips_of crtc) drawn

-- two CRTCs, each with a primary plane and a connector of its own
abbrev pub generated_device : Topology
generated_device = record {
  profile = 1;
  crtcs = 2;
  planes = record { kind = 1; crtcs = 1; formats = 1 }
      ∷ record { kind = 1; crtcs = 2; formats = 1 } ∷ [];
  conns = 1 ∷ 2 ∷ [];
}

-- the script of a seed with a number of commits
abbrev pub generated : ℕ → ℕ → Script
generated seed n =
    let drawn = drawn_from 1 seed n in
    record {
      version = 1;
      topology = generated_device;
      names = names_of_client (codes "1") ++ names_of_client (codes "2");
      clients = commands_for drawn 0 ∷ commands_for drawn 1 ∷ [];
    }
