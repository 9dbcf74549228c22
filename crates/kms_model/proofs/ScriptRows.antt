-- Worked examples of the whole grammar, computed: what texts spell, and their first faults.
use Rattle.std.proofs.Common.{◌≡◌, ℕ, List, [], ◌∷◌, ◌++◌, map, refl, codes, pos, negsuc, Some, None, Ok, Err}
use Rattle.kms_model.specs.declared.objects.Format.TheVariants.{Xr24, Ar24, Rg16}
use Rattle.kms_model.specs.declared.objects.Kind.{Kind}
use Rattle.kms_model.specs.declared.objects.Kind.TheVariants as kind
use Rattle.kms_model.specs.declared.objects.Topology.{Topology}
use Rattle.kms_model.specs.declared.properties.TheConstants.{ACTIVE, CRTC_ID, CRTC_X, IN_FENCE_FD, MODE_ID, OUT_FENCE_PTR}
use Rattle.kms_model.specs.declared.scripts.Assign.{Assign}
use Rattle.kms_model.specs.declared.scripts.Command.{Command}
use Rattle.kms_model.specs.declared.scripts.Command.TheVariants as command
use Rattle.kms_model.specs.declared.scripts.Pattern.TheVariants.{Solid, Checker, Ramp, Pixels}
use Rattle.kms_model.specs.declared.scripts.PropRef.{PropRef}
use Rattle.kms_model.specs.declared.scripts.PropRef.TheVariants.{Known, Unknown}
use Rattle.kms_model.specs.declared.scripts.Script.{Script}
use Rattle.kms_model.specs.declared.scripts.Value.{Value}
use Rattle.kms_model.specs.declared.scripts.Value.TheVariants as value
use Rattle.kms_model.specs.declared.scripts.Why.{Why}
use Rattle.kms_model.specs.declared.scripts.Why.TheVariants.{Bytes, Cut, Form, Label, Limit}
use Rattle.kms_model.specs.Device.Modes.{full_hd}
use Rattle.kms_model.specs.Script.Grammar.{int, hex}
use Rattle.kms_model.specs.Script.InputLines.{Fault}
use Rattle.kms_model.specs.Script.WholeInput.{input, device_of}
use Rattle.kms_model.proofs.OnScripts.{on_scripts}

-- A script of every command

abbrev set : Kind → ℕ → PropRef → Value → Assign
set kind index prop value = record { kind = kind; index = index; prop = prop; value = value }

abbrev device : Topology
device = record {
  profile = 1;
  crtcs = 2;
  planes = record { kind = 1; crtcs = 1; formats = 5 } ∷ record { kind = 0; crtcs = 3; formats = 7 }
      ∷ record { kind = 2; crtcs = 2; formats = 2 } ∷ [];
  conns = 1 ∷ 3 ∷ [];
}

abbrev sets : List Assign
sets =
    set kind.Crtc 0 (Known ACTIVE) (value.Num (pos 18446744073709551615))
    ∷ set kind.Crtc 1 (Known MODE_ID) (value.Named 6)
    ∷ set kind.Conn 255 (Known CRTC_ID) (value.Crtc 255)
    ∷ set kind.Plane 0 (Known CRTC_X) (value.Num (negsuc 9223372036854775807))
    ∷ set kind.Enc 0 (Unknown 9) (value.Num (pos 0))
    ∷ set kind.Plane 2 (Known IN_FENCE_FD) (value.Named 10)
    ∷ set kind.Crtc 0 (Known OUT_FENCE_PTR) (value.New 11)
    ∷ set kind.Crtc 0 (Unknown 9) (value.Named 9)
    ∷ []

abbrev first : List Command
first =
    command.Buffer 0 4294967295 0 Xr24 (Solid 0x00616263)
    ∷ command.Buffer 1 64 64 Rg16 (Checker 0xffff 0x0a0b 4096)
    ∷ command.Buffer 2 1 1 Ar24 Ramp
    ∷ command.Buffer 3 2 1 Rg16 (Pixels (0x0001 ∷ 0x0020 ∷ []))
    ∷ command.AddFb 4 5
    ∷ command.Mode 6 full_hd
    ∷ command.Blob 7 (0x00 ∷ 0xff ∷ 0x1a ∷ [])
    ∷ command.Fence 8
    ∷ []

abbrev second : List Command
second =
    command.Atomic (record { flags = 0xffffffff; user_data = 18446744073709551615; assigns = sets })
    ∷ command.Atomic (record { flags = 0; user_data = 0; assigns = [] })
    ∷ command.Signal 8
    ∷ command.CloseFb 4
    ∷ command.Destroy 7
    ∷ command.Wait
    ∷ []

abbrev script : Script
script = record {
  version = 1;
  topology = device;
  names = codes "b" ∷ codes "c_1" ∷ codes "ramp" ∷ codes "p" ∷ codes "f" ∷ codes "later" ∷ codes "m" ∷ codes "blob"
      ∷ codes "abcdefghijklmno1" ∷ codes "gamma_lut" ∷ codes "never" ∷ codes "o" ∷ [];
  clients = first ∷ [] ∷ second ∷ [];
}

abbrev head : List ℕ
head = codes "kms 1\ncrtcs 2\nplane primary 0 XR24,RG16\nplane overlay 0,1 XR24,AR24,RG16\nplane cursor 1 AR24\nconn 0\nconn 0,1\n"

abbrev of_first : List ℕ
of_first = codes "client\nbuffer b 4294967295 0 XR24 solid 00616263\nbuffer c_1 64 64 RG16 checker ffff 0a0b 4096\nbuffer ramp 1 1 AR24 ramp\nbuffer p 2 1 RG16 pixels 0001 0020\naddfb f later\nmode m 148500 1920 2008 2052 2200 0 1080 1084 1089 1125 0 60 5 64 1920x1080\nblob blob 00ff1a\nfence abcdefghijklmno1\n"

abbrev of_second : List ℕ
of_second = codes "client\natomic 0xffffffff 18446744073709551615 crtc0.ACTIVE=18446744073709551615 crtc1.MODE_ID=@m conn255.CRTC_ID=crtc255 plane0.CRTC_X=-9223372036854775808 enc0.gamma_lut=0 plane2.IN_FENCE_FD=@never crtc0.OUT_FENCE_PTR=+o crtc0.gamma_lut=@gamma_lut\natomic 0x0 0\nsignal abcdefghijklmno1\nclosefb f\ndestroy blob\nwait\n"

pub every_command_is_read : input (head ++ of_first ++ codes "client\n" ++ of_second) ≡ Ok script
unfolding on_scripts
every_command_is_read = refl

-- The device alone, with the place behind it

pub device_is_read : device_of (head ++ codes "client\nwhatever follows") ≡ Ok (device, 109)
unfolding on_scripts
device_is_read = refl

-- Faults

abbrev lit : List ℕ
lit = codes "kms 1\ncrtcs 1\nplane primary 0 XR24\nconn 0\nclient\n"

abbrev then : List ℕ → List ℕ
then line = lit ++ codes "fence x\n" ++ line ++ 10 ∷ []

-- a text, and its first fault
record Faulty : Type 0 where
  text : List ℕ
  fault : Fault

abbrev faulty : List ℕ → ℕ → Why → Faulty
faulty text line why = record { text = text; fault = record { line = line; why = why } }

abbrev faults : List Faulty
faults =
    -- empty input lacks its first line
    faulty [] 1 Form
    -- device lacks a connector
    ∷ faulty (codes "kms 1\ncrtcs 1\nplane primary 0 XR24\n") 4 Form
    -- another version
    ∷ faulty (codes "kms 3\n") 1 Form
    ∷ faulty (codes "kms 0\n") 1 Form
    -- second spelling of a version
    ∷ faulty (codes "kms 02\n") 1 Form
    -- five crtcs
    ∷ faulty (codes "kms 1\ncrtcs 5\n") 2 Form
    -- second spelling of a count
    ∷ faulty (codes "kms 1\ncrtcs 01\n") 2 Form
    -- carriage return
    ∷ faulty (codes "kms 1\ncrtcs 1\nplane primary 0 XR24" ++ 13 ∷ 10 ∷ []) 3 Bytes
    -- tab
    ∷ faulty (codes "kms 1\ncrtcs 1\nplane primary" ++ 9 ∷ codes "0 XR24\n") 3 Bytes
    -- delete
    ∷ faulty (codes "kms 1\ncrtcs 1\nplane primary 0 XR24" ++ 0x7f ∷ []) 3 Bytes
    -- empty line
    ∷ faulty (codes "kms 1\ncrtcs 1\n\nplane primary 0 XR24\n") 3 Form
    -- two blanks
    ∷ faulty (codes "kms 1\ncrtcs 1\nplane primary  0 XR24\n") 3 Form
    -- no line feed
    ∷ faulty (lit ++ codes "fence x") 6 Cut
    -- unknown crtc in a list
    ∷ faulty (codes "kms 1\ncrtcs 2\nplane primary 0,2 XR24\n") 3 Form
    -- falling list
    ∷ faulty (codes "kms 1\ncrtcs 2\nplane primary 1,0 XR24\n") 3 Form
    -- falling formats
    ∷ faulty (codes "kms 1\ncrtcs 2\nplane primary 0 AR24,XR24\n") 3 Form
    -- plane behind a connector
    ∷ faulty (codes "kms 1\ncrtcs 1\nplane primary 0 XR24\nconn 0\nplane overlay 0 XR24\n") 5 Form
    -- connector behind a client
    ∷ faulty (lit ++ codes "conn 0\n") 6 Form
    -- schedule behind a script
    ∷ faulty (lit ++ codes "schedule\n") 6 Form
    -- number that is too large
    ∷ faulty (then (codes "atomic 0x0 0 crtc0.ACTIVE=18446744073709551616")) 7 Form
    -- number that is too low
    ∷ faulty (then (codes "atomic 0x0 0 crtc0.ACTIVE=-9223372036854775809")) 7 Form
    -- label of 17 letters
    ∷ faulty (then (codes "fence abcdefghijklmnopq")) 7 Form
    -- label of an earlier line
    ∷ faulty (then (codes "fence x")) 7 Label
    -- label of an earlier word
    ∷ faulty (then (codes "atomic 0x0 0 crtc0.OUT_FENCE_PTR=+o crtc1.OUT_FENCE_PTR=+o")) 7 Label
    -- form is told before label
    ∷ faulty (then (codes "fence x x")) 7 Form
    -- form of a later word is told before label
    ∷ faulty (then (codes "atomic 0x0 0 crtc0.OUT_FENCE_PTR=+x crtc0.ACTIVE=01")) 7 Form
    -- bytes are told before cut
    ∷ faulty (lit ++ 9 ∷ []) 6 Bytes
    -- ninth connector
    ∷ faulty (codes "kms 1\ncrtcs 1\nplane primary 0 XR24\nconn 0\nconn 0\nconn 0\nconn 0\nconn 0\nconn 0\nconn 0\nconn 0\nconn 0\n") 12
    Limit
    ∷ []

pub each_text_has_its_first_fault : map (λ f. input f.text) faults ≡ map (λ f. Err f.fault) faults
unfolding on_scripts
each_text_has_its_first_fault = refl

-- Numbers have one spelling

pub each_integer_has_one_spelling : map int (codes "-0" ∷ codes "+1" ∷ []) ≡ None ∷ None ∷ []
unfolding on_scripts
each_integer_has_one_spelling = refl

-- no capital digit, no zero in front, and at most eight digits
pub flags_have_one_spelling : map hex (codes "0x0F" ∷ codes "0x00" ∷ codes "0x100000000" ∷ codes "0xffffffff" ∷ []) ≡ None ∷ None ∷ None
    ∷ Some 4294967295 ∷ []
unfolding on_scripts
flags_have_one_spelling = refl
