-- The commits that are drawn so far, and those to come.
use Rattle.std.proofs.Common.{◌≡◌, ℕ, suc, ◌+◌, ◌/◌, ◌^◌, List, ◌++◌, append-nil, sym}
use Rattle.std.specs.List.{flat_map}
use Rattle.std.proofs.lemmas.List.{append_assoc}
use Rattle.kms_model.specs.declared.scripts.Command.{Command}
use Rattle.kms_model.specs.Script.Generated.{drawn_from, flips_of, next_number}

-- one commit more is done, and one less is to come
pub drawn_more : (crtc i x k left : ℕ) (old new : List Command) → left ≡ suc k
    → new ≡ old ++ flips_of crtc (record { index = i; number = next_number x / 2 ^ 33 })
    → new ++ flat_map (flips_of crtc) (drawn_from (i + 1) (next_number x) k) ≡ old ++ flat_map (flips_of crtc) (drawn_from i x left)
unfolding drawn_from
drawn_more crtc i x k left old new more done = rw (more, done) (append_assoc old _ _)

-- no commit is to come
pub none_to_come : (crtc i x left : ℕ) (old : List Command) → left ≡ 0 → old ≡ old ++ flat_map (flips_of crtc) (drawn_from i x left)
unfolding drawn_from
none_to_come crtc i x left old none = rw none (sym (append-nil old))
