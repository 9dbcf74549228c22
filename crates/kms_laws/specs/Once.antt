-- What happens once in a script. From: the grammar of scripts, in which a label is made once.
use Rattle.std.specs.Prelude.{◌≡◌, ℕ, Bool, true, false, ◌==◌, Some}
use Rattle.std.specs.List.{All, list_all, list_any}
use Rattle.kms_model.specs.declared.scripts.Command.{Command}
use Rattle.kms_model.specs.declared.scripts.Command.TheVariants as command
use Rattle.kms_model.specs.declared.scripts.Script.{Script}
use Rattle.kms_model.specs.declared.scripts.Value.{Value}
use Rattle.kms_model.specs.declared.scripts.Value.TheVariants as value
use Rattle.kms_model.specs.Device.Serial.{Entry, command_of}
use Rattle.kms_model.specs.Device.World.{thing_labelled}
use Rattle.kms_model.specs.Machine.Histories.{at}
use Rattle.kms_model.specs.Promises.{InEachHistory}
use Rattle.kms_model.specs.Script.WellFormed.{IsWellFormed, is_label_in}

-- What a command makes

abbrev pub is_new : Value → ℕ → Bool
is_new (value.New l) label = l == label
is_new (value.Num z) label = false
is_new (value.Named l) label = false
is_new (value.Crtc index) label = false

-- a command makes a thing under a label, if it is done
abbrev pub makes : Command → ℕ → Bool
makes (command.Buffer l width height format pattern) label = l == label
makes (command.AddFb l buffer) label = l == label
makes (command.Mode l m) label = l == label
makes (command.Blob l bytes) label = l == label
makes (command.Destroy l) label = false
makes (command.CloseFb l) label = false
makes (command.Fence l) label = l == label
makes (command.Signal l) label = false
makes (command.Atomic r) label = list_any (λ a. is_new a.value label) r.assigns
makes command.Wait label = false

-- two commands of a script that make the same label are one
abbrev pub MakesLabelsOnce : Type 0
MakesLabelsOnce =
    (s : Script) (e f : Entry) (c d : Command) (label : ℕ) → IsWellFormed s → command_of s e ≡ Some c → command_of s f ≡ Some d
    → makes c label ≡ true → makes d label ≡ true → e ≡ f

-- Things and their labels

-- each thing is the one that was made under its label, open or closed
abbrev pub EachHasItsLabel : Type 0
EachHasItsLabel = InEachHistory (λ s h.
    All (λ thing. thing_labelled (at s h).device.world.things thing.label ≡ Some thing) (at s h).device.world.things)

-- the label of each thing is a label among the script's names
abbrev pub LabelsAreNames : Type 0
LabelsAreNames = InEachHistory (λ s h. list_all (λ thing. is_label_in s.names thing.label) (at s h).device.world.things ≡ true)
