-- Worked examples of the words of CRTCs and planes, computed: no call of a register file tells a word.
use Rattle.std.proofs.Common.{◌≡◌, ◌+◌, Bool, true, false, [], ◌∷◌, map, Option, Some, None, refl}
use Rattle.std.specs.Prelude.{◌-◌, ◌/◌, ◌%◌, pos, negsuc, replicate, slice_index}
use Rattle.std.specs.List.{range_with_len}
use Rattle.kms_model.specs.declared.objects.Format.TheVariants.{Ar24}
use Rattle.kms_model.specs.declared.objects.Gamma.{Gamma}
use Rattle.kms_model.specs.declared.objects.Kind.TheVariants.{Plane}
use Rattle.kms_model.specs.declared.objects.Mode.{Mode}
use Rattle.kms_model.specs.declared.states.CrtcState.{CrtcState}
use Rattle.kms_model.specs.declared.states.PlaneState.{PlaneState}
use Rattle.kms_model.specs.Device.Modes.{full_hd}
use Rattle.kms_model.specs.Device.Objects.{object_id}
use Rattle.kms_model.specs.Machine.Registers.{CrtcWords, crtc_words, first_crtc_words, first_plane_words, gamma_in_words, mode_in_words}
use Rattle.kms_model.specs.Machine.Registers.{plane_in, plane_words, words_of_bytes}

-- a CRTC that is on, or off, with a mode and a gamma table, if any
abbrev crtc : Bool → Option Mode → Option Gamma → CrtcState
crtc active mode gamma = record { active = active; mode = mode; gamma = gamma; planes = 0; conns = 0 }

-- The 1920x1080 mode of CEA-861

abbrev words_of_full_hd : CrtcWords
words_of_full_hd = crtc_words 300 (crtc true (Some full_hd) None)

words_of_a_mode_are_its_bytes : words_of_full_hd ≡ record {
  active = 1;
  conn = 300;
  mode = 0x00024414 ∷ 0x07d80780 ∷ 0x08980804 ∷ 0x04380000 ∷ 0x0441043c ∷ 0x00000465 ∷ 60 ∷ 5 ∷ 64 ∷ 0x30323931 ∷ 0x38303178 ∷ 0x30 ∷ 0 ∷ 0
      ∷ 0 ∷ 0 ∷ 0 ∷ [];
  gamma_on = 0;
  gamma = replicate 192 0;
}
unfolding crtc_words words_of_bytes
words_of_a_mode_are_its_bytes = refl

mode_is_read_back : mode_in_words words_of_full_hd ≡ full_hd
unfolding crtc_words words_of_bytes
mode_is_read_back = refl

-- A table of which red inverts, green adds 1 and blue halves

abbrev mixed : Gamma
mixed = record {
  red = map (λ value. 255 - value) (range_with_len 0 256);
  green = map (λ value. (value + 1) % 256) (range_with_len 0 256);
  blue = map (λ value. value / 2) (range_with_len 0 256);
}

abbrev words_of_mixed : CrtcWords
words_of_mixed = crtc_words 0 (crtc true (Some full_hd) (Some mixed))

words_of_a_table_are_its_channels : (words_of_mixed.gamma_on ≡ 1)
    × (map (slice_index words_of_mixed.gamma) (0 ∷ 63 ∷ 64 ∷ 127 ∷ 128 ∷ 191 ∷ []) ≡ 0xfcfdfeff ∷ 0x00010203 ∷ 0x04030201 ∷ 0x00fffefd
    ∷ 0x01010000 ∷ 0x7f7f7e7e ∷ [])
unfolding crtc_words words_of_bytes
words_of_a_table_are_its_channels = (refl, refl)

table_is_read_back : (gamma_in_words words_of_mixed ≡ Some mixed) × (gamma_in_words words_of_full_hd ≡ None)
unfolding crtc_words words_of_bytes
table_is_read_back = (refl, refl)

off_as_at_the_start : (crtc_words 0 (crtc false None None) ≡ first_crtc_words) × (first_crtc_words.mode ≡ replicate 17 0)
    × (first_crtc_words.gamma ≡ replicate 192 0)
unfolding crtc_words
off_as_at_the_start = (refl, refl, refl)

-- Planes

-- a plane that shows a pixel at the least place
abbrev at_least : PlaneState
at_least = record {
  fb = Some (record { id = 1000; width = 1; height = 1; format = Ar24 });
  crtc = 100;
  dst = record { x = negsuc 0; y = negsuc 2147483647; w = pos 1; h = pos 1 };
  src = record { x = pos 0; y = pos 0; w = pos 65536; h = pos 65536 };
  alpha = 65535;
  blend = 1;
  zpos = 7;
}

negative_places_stand_in_twos_complement : plane_words at_least ≡ record {
  crtc = 100;
  fb = 1000;
  fb_width = 1;
  fb_height = 1;
  fb_format = 0x34325241;
  x = 0xffffffff;
  y = 0x80000000;
  w = 1;
  h = 1;
  src_x = 0;
  src_y = 0;
  src_w = 0x00010000;
  src_h = 0x00010000;
  alpha = 65535;
  blend = 1;
  zpos = 7;
}
unfolding plane_words
negative_places_stand_in_twos_complement = refl

places_are_read_back : plane_in (plane_words at_least) ≡ at_least
unfolding plane_words plane_in
places_are_read_back = refl

-- a plane on no CRTC
abbrev no_plane : PlaneState
no_plane = record {
  fb = None;
  crtc = 0;
  dst = record { x = pos 0; y = pos 0; w = pos 0; h = pos 0 };
  src = record { x = pos 0; y = pos 0; w = pos 0; h = pos 0 };
  alpha = 65535;
  blend = 0;
  zpos = 15;
}

no_plane_as_at_the_start : first_plane_words (object_id Plane 15) ≡ plane_words no_plane
unfolding plane_words
no_plane_as_at_the_start = refl
