-- What a write makes of words: it writes those that differ between an old and a new state, and no others.
use Rattle.std.specs.Prelude.{ℕ, ◌==◌, List, [], ◌∷◌, if◌then◌else◌}
use Rattle.kms_model.specs.Machine.Registers.{CrtcWords, PlaneWords, Registers, crtc_register, plane_register, write_crtc, write_plane}

abbrev pub rewritten : ℕ → ℕ → ℕ → ℕ
rewritten word old new = if old == new then word else new

-- of as many words each
abbrev pub rewritten_words : List ℕ → List ℕ → List ℕ → List ℕ
rewritten_words [] olds news = news
rewritten_words (word ∷ words) [] news = news
rewritten_words (word ∷ words) (old ∷ olds) [] = []
rewritten_words (word ∷ words) (old ∷ olds) (new ∷ news) = rewritten word old new ∷ rewritten_words words olds news

abbrev pub rewritten_plane : PlaneWords → PlaneWords → PlaneWords → PlaneWords
rewritten_plane words old new = record {
  crtc = rewritten words.crtc old.crtc new.crtc;
  fb = rewritten words.fb old.fb new.fb;
  fb_width = rewritten words.fb_width old.fb_width new.fb_width;
  fb_height = rewritten words.fb_height old.fb_height new.fb_height;
  fb_format = rewritten words.fb_format old.fb_format new.fb_format;
  x = rewritten words.x old.x new.x;
  y = rewritten words.y old.y new.y;
  w = rewritten words.w old.w new.w;
  h = rewritten words.h old.h new.h;
  src_x = rewritten words.src_x old.src_x new.src_x;
  src_y = rewritten words.src_y old.src_y new.src_y;
  src_w = rewritten words.src_w old.src_w new.src_w;
  src_h = rewritten words.src_h old.src_h new.src_h;
  alpha = rewritten words.alpha old.alpha new.alpha;
  blend = rewritten words.blend old.blend new.blend;
  zpos = rewritten words.zpos old.zpos new.zpos;
}

abbrev pub rewritten_crtc : CrtcWords → CrtcWords → CrtcWords → CrtcWords
rewritten_crtc words old new = record {
  active = rewritten words.active old.active new.active;
  conn = rewritten words.conn old.conn new.conn;
  mode = rewritten_words words.mode old.mode new.mode;
  gamma_on = rewritten words.gamma_on old.gamma_on new.gamma_on;
  gamma = rewritten_words words.gamma old.gamma new.gamma;
}

-- the registers after a write of a plane or of a CRTC

abbrev pub rewrite_plane : Registers → ℕ → PlaneWords → PlaneWords → Registers
rewrite_plane rs plane old new = write_plane rs plane (rewritten_plane (plane_register rs plane) old new)

abbrev pub rewrite_crtc : Registers → ℕ → CrtcWords → CrtcWords → Registers
rewrite_crtc rs crtc old new = write_crtc rs crtc (rewritten_crtc (crtc_register rs crtc) old new)
