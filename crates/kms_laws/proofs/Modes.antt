-- Modes whose numbers fit their types are what their words hold, and so are gamma tables of bytes.
use Rattle.std.proofs.Common.{◌≡◌, ℕ, zero, suc, ◌<◌, ◌≤◌, ◌-◌, ◌^◌, List, [], ◌∷◌, ◌++◌, length, Bool, true, false, ◌==◌, Option, Some}
use Rattle.std.proofs.Common.{None, refl, sym, ap, ◌∙◌, subst, arith, inl, inr, ⊎_elim, length-append}
use Rattle.std.proofs.lemmas.List.{length-replicate}
use Rattle.std.proofs.lemmas.Slice.Eq.{bytes_eq-Decides}
use Rattle.std.specs.Prelude.{if◌then◌else◌, not, ◌&&◌, nat_le, nat_lt, replicate, slice_get, Ok, Err}
use Rattle.std.specs.List.{list_all}
use Rattle.std.specs.Option.{option_and_then}
use Rattle.std.specs.Result.{result_ok}
use Rattle.std.proofs.lemmas.Bool.{eqb-true, and_parts, leb-true, ltb-true, or_cases}
use Rattle.kms_model.proofs.GammaRoundTrip.{blob-table, gamma_back}
use Rattle.kms_model.proofs.ModeRoundTrip.{mode_bytes-mode_held, mode_held-mode_bytes}
use Rattle.kms_model.specs.Device.ModeRanges.{FitsTypes}
use Rattle.kms_model.specs.declared.objects.Mode.{Mode}
use Rattle.kms_model.specs.declared.scripts.Command.{Command}
use Rattle.kms_model.specs.declared.scripts.Command.TheVariants as command
use Rattle.kms_model.specs.declared.scripts.Script.{Script}
use Rattle.kms_model.specs.declared.things.BadMode.TheVariants.{Horizontal, Vertical, Clock, Size, Length}
use Rattle.kms_model.specs.Device.ModeBytes.{AreBytes, decoded, if_legal, mode_bytes, mode_held}
use Rattle.kms_model.specs.Device.Serial.{Entry, command_of, from_one}
use Rattle.kms_model.specs.Machine.Registers.{bytes_of_words, words_of_bytes}
use Rattle.kms_model.specs.Device.Modes.{is_axis}
use Rattle.kms_model.specs.Script.WellFormed.{IsWellFormed, are_words16, has_widths, is_command_in, is_label_in, is_mode_name, is_word16}
use Rattle.kms_model.specs.Script.WellFormed.{is_word32}
use Rattle.kms_model.specs.Script.Words.{between, is_digit, is_name_byte, until}
use Rattle.kms_model.proofs.Items.{IsIn, list_all-at}
use Rattle.kms_model.proofs.WordBytes.{bytes-append, mode_long, mode_small, small_at, words_back}
use Rattle.kms_laws.proofs.Executed.{KeepsModes}
use Rattle.kms_laws.proofs.Steps.{IsPlainScript}
use Rattle.kms_laws.proofs.Words.{IsKeptMode}

fitting-kept : (m : Mode) → FitsTypes m → AreBytes m.name → IsKeptMode m
fitting-kept m fits name = ap mode_held (words_back 17 (mode_bytes m) (mode_long m fits.back.name) (mode_small m name)) ∙
    mode_held-mode_bytes m fits

legal-is : (h v z g : Bool) (m k : Mode) → result_ok
    (if not h then Err Horizontal else (if not v then Err Vertical else (if z then Err Clock else (if not g then Err Size else Ok m))))
    ≡ Some k → m ≡ k
legal-is true true false true m k e = cc
legal-is true true false false m k e = absurd cc
legal-is true true true g m k e = absurd cc
legal-is true false z g m k e = absurd cc
legal-is false v z g m k e = absurd cc

held-is : (long : Bool) (m k : Mode) → result_ok (if long then if_legal m else Err Length) ≡ Some k → (long ≡ true) × (m ≡ k)
held-is true m k e = (
  refl,
  legal-is (is_axis m.hdisplay m.hsync_start m.hsync_end m.htotal)
      (is_axis m.vdisplay m.vsync_start m.vsync_end m.vtotal) (m.clock == 0) (nat_le m.hdisplay 4096 && nat_le m.vdisplay 4096) m k e,
)
held-is false m k e = absurd cc

blob-kept : (bytes : List ℕ) (m : Mode) → AreBytes bytes → result_ok (decoded bytes) ≡ Some m → IsKeptMode m
blob-kept bytes m small e =
    let both = held-is (length bytes == 68) (mode_held bytes) m e in
    let long : length bytes ≡ 68 = eqb-true (length bytes) 68 both.0 in
    let own : mode_bytes m ≡ bytes = ap mode_bytes (sym both.1) ∙ mode_bytes-mode_held bytes
    (record { small = λ i. small_at bytes i small }) long in
    ap (λ bs. mode_held (bytes_of_words (words_of_bytes bs))) own ∙ ap mode_held (words_back 17 bytes long small) ∙ both.1

-- Scripts

word32-lt : (n : ℕ) → is_word32 n ≡ true → n < 2 ^ 32
word32-lt n h = ltb-true n (2 ^ 32) h

word16-lt : (n : ℕ) → is_word16 n ≡ true → n < 2 ^ 16
word16-lt n h = ltb-true n (2 ^ 16) h

record AreWords (a b c d e : ℕ) : Type 0 where
  first : a < 2 ^ 16
  second : b < 2 ^ 16
  third : c < 2 ^ 16
  fourth : d < 2 ^ 16
  fifth : e < 2 ^ 16

are_words : (a b c d e : ℕ) → are_words16 a b c d e ≡ true → AreWords a b c d e
are_words a b c d e h =
    let one = and_parts (is_word16 a) _ h in
    let two = and_parts (is_word16 b) _ one.1 in
    let three = and_parts (is_word16 c) _ two.1 in
    let four = and_parts (is_word16 d) (is_word16 e) three.1 in
    record {
      first = word16-lt a one.0;
      second = word16-lt b two.0;
      third = word16-lt c three.0;
      fourth = word16-lt d four.0;
      fifth =
          word16-lt e four.1;
    }

fits-from : (m : Mode) → has_widths m ≡ true → length m.name ≡ 32 → FitsTypes m
fits-from m h name =
    let one = and_parts (is_word32 m.clock) _ h in
    let two = and_parts (are_words16 m.hdisplay m.hsync_start m.hsync_end m.htotal m.hskew) _ one.1 in
    let three = and_parts (are_words16 m.vdisplay m.vsync_start m.vsync_end m.vtotal m.vscan) _ two.1 in
    let four = and_parts (is_word32 m.vrefresh) _ three.1 in
    let five = and_parts (is_word32 m.flags) (is_word32 m.kind) four.1 in
    let h5 = are_words m.hdisplay m.hsync_start m.hsync_end m.htotal m.hskew two.0 in
    let v5 = are_words m.vdisplay m.vsync_start m.vsync_end m.vtotal m.vscan three.0 in
    record {
      front = record {
        clock = word32-lt m.clock one.0;
        hdisplay = h5.first;
        hsync_start = h5.second;
        hsync_end = h5.third;
        htotal =
            h5.fourth;
        hskew = h5.fifth;
      };
      middle = record { vdisplay = v5.first; vsync_start = v5.second; vsync_end = v5.third; vtotal = v5.fourth; vscan = v5.fifth };
      back = record {
        vrefresh = word32-lt m.vrefresh four.0;
        flags = word32-lt m.flags five.0;
        kind = word32-lt m.kind five.1;
        name = name;
      };
    }

small_zeros : (n : ℕ) → AreBytes (replicate n 0)
small_zeros zero = tt
small_zeros (suc n) = (omega arith, small_zeros n)

between-le : (least most b : ℕ) → between least most b ≡ true → b ≤ most
between-le least most b h = leb-true b most (and_parts (nat_le least b) _ h).1

name_byte-lt : (b : ℕ) → is_name_byte b ≡ true → b < 256
name_byte-lt b h =
    ⊎_elim (λ l. omega (arith, between-le 97 122 b l)) (λ h1.
    ⊎_elim (λ l. omega (arith, between-le 65 90 b l)) (λ h2.
    ⊎_elim (λ l. omega (arith, between-le 48 57 b l)) (λ h3.
    ⊎_elim (λ l. omega (arith, eqb-true b 95 l)) (λ h4.
    ⊎_elim (λ l. omega (arith, eqb-true b 46 l)) (λ l. omega (arith, eqb-true b 45 l))
    (or_cases (b == 46) (b == 45) h4)) (or_cases (b == 95) _ h3)) (or_cases (is_digit b) _ h2)) (or_cases (between 65 90 b) _ h1))
    (or_cases (between 97 122 b) _ h)

small_all : (test : ℕ → Bool) (bytes : List ℕ) → ((b : ℕ) → test b ≡ true → b < 256) → list_all test bytes ≡ true → AreBytes bytes
small_all test [] small h = tt
small_all test (b ∷ bytes) small h = let both = and_parts (test b) _ h in (small b both.0, small_all test bytes small both.1)

name-fits : (name : List ℕ) → is_mode_name name ≡ true → (length name ≡ 32) × AreBytes name
name-fits name h =
    let word = until 0 name in
    let one = and_parts (between 1 31 (length word)) _ h in
    let two = and_parts (list_all is_name_byte word) _ one.1 in
    let short : length word ≤ 31 = leb-true (length word) 31 (and_parts (nat_le 1 (length word)) _ one.0).1 in
    let no_zero : ℕ = 0 in
    let zeros : length (replicate (32 - length word) no_zero) ≡ 32 - length word = length-replicate (32 - length word) no_zero in
    let same : name ≡ word ++ replicate (32 - length word) 0 = (bytes_eq-Decides name (word ++ replicate (32 - length word) 0)).0 two.1 in (
      ap length same ∙ omega (arith, short, length-append word (replicate (32 - length word) 0), zeros),
      subst AreBytes (sym same) (bytes-append word (replicate (32 - length word) 0) (small_all is_name_byte word name_byte-lt two.0)
          (small_zeros (32 - length word))),
    )

pub keeps-from : (profile : ℕ) (names : List (List ℕ)) (c : Command) → is_command_in profile names c ≡ true → KeepsModes c
keeps-from profile names (command.Mode label m) h =
    let two = and_parts (has_widths m) _ (and_parts (is_label_in names label) _ h).1 in
    let name = name-fits m.name two.1 in
    record {
      mode = λ k e. let same : m ≡ k = cc in subst IsKeptMode same (fitting-kept m (fits-from m two.0 name.0) name.1);
      gamma = λ g e. absurd cc;
    }
keeps-from profile names (command.Blob label bytes) h =
    let two = and_parts (between 1 2048 (length bytes)) _ (and_parts (is_label_in names label) _ h).1 in
    let small : AreBytes bytes = small_all (λ b. nat_lt b 256) bytes (λ b is. ltb-true b 256 is) two.1 in
    record { mode = λ m e. blob-kept bytes m small e; gamma = λ g e. gamma_back g (blob-table bytes g small e) }
keeps-from profile names (command.Buffer label width height format pattern) h = tt
keeps-from profile names (command.AddFb label buffer) h = tt
keeps-from profile names (command.Destroy label) h = tt
keeps-from profile names (command.CloseFb label) h = tt
keeps-from profile names (command.Fence label) h = tt
keeps-from profile names (command.Signal label) h = tt
keeps-from profile names (command.Atomic r) h = tt
keeps-from profile names command.Wait h = tt

pub slice_get-in : {A : Type 0} (xs : List A) (n : ℕ) (x : A) → slice_get xs n ≡ Some x → IsIn x xs
slice_get-in [] n x e = absurd cc
slice_get-in (y ∷ ys) zero x e = inl cc
slice_get-in (y ∷ ys) (suc n) x e = inr (slice_get-in ys n x e)

pub from_one-in : {A : Type 0} (xs : List A) (n : ℕ) (x : A) → from_one xs n ≡ Some x → IsIn x xs
from_one-in xs zero x e = absurd cc
from_one-in xs (suc n) x e = slice_get-in xs n x e

-- a command of a well-formed script is one that words spell
pub command-spelt : (s : Script) (e : Entry) (c : Command) → list_all (list_all (is_command_in s.topology.profile s.names)) s.clients ≡ true
    → command_of s e ≡ Some c → is_command_in s.topology.profile s.names c ≡ true
command-spelt s e c all is = go (from_one s.clients e.client) refl is
  where
    go : (o : Option (List Command)) → from_one s.clients e.client ≡ o → option_and_then (λ commands. from_one commands e.command) o
        ≡ Some c → is_command_in s.topology.profile s.names c ≡ true
    go None found is = absurd cc
    go (Some commands) found is =
        list_all-at (is_command_in s.topology.profile s.names) commands c
        (list_all-at (list_all (is_command_in s.topology.profile s.names)) s.clients commands all
        (from_one-in s.clients e.client commands found)) (from_one-in commands e.command c is)

pub plain-from : (s : Script) → IsWellFormed s → IsPlainScript s
plain-from s formed = record {
  device = formed.device;
  modes = λ e c is. keeps-from s.topology.profile s.names c
      (command-spelt s e c formed.commands is);
}
