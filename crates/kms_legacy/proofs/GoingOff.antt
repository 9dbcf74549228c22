-- The connectors that go off a CRTC, found one by one.
use Rattle.std.proofs.Common.{◌≡◌, ℕ, Bool, true, false, not, List, [], ◌∷◌, ◌++◌, map, cond, Option, Some, None, refl}
use Rattle.std.specs.Prelude.{◌&&◌, ◌==◌, filter}
use Rattle.std.specs.List.{flat_map}
use Rattle.kms_model.specs.declared.objects.Kind.TheVariants.{Crtc}
use Rattle.kms_model.specs.declared.scripts.Assign.{Assign}
use Rattle.kms_model.specs.Device.Objects.{object_id}
use Rattle.kms_model.specs.Legacy.Translation.{Present}
use Rattle.kms_model.specs.Script.Assigning.{conn_off}
use Rattle.kms_legacy.specs.Asked.{all_but, goes_off}

-- a connector is on a CRTC
abbrev on_it : Present → ℕ → ℕ → Bool
on_it now crtc conn = now.conn_crtc conn == object_id Crtc crtc

-- what one connector adds
abbrev pub off_alone : Present → ℕ → Option ℕ → ℕ → List Assign
off_alone now crtc but conn = cond (goes_off now crtc but conn) (conn_off conn ∷ []) []

step_all : (on : Bool) (conn : ℕ) (found : List ℕ)
    → cond (on && true) (conn_off conn ∷ []) [] ++ map conn_off found ≡ map conn_off (cond on (conn ∷ found) found)
step_all true conn found = refl
step_all false conn found = refl

step_but : (on other : Bool) (conn : ℕ) (found left : List ℕ) → cond (on && other) (conn_off conn ∷ []) [] ++ map conn_off left
    ≡ map conn_off (cond on (cond other (conn ∷ left) left) left)
step_but true true conn found left = refl
step_but true false conn found left = refl
step_but false other conn found left = refl

-- the test of one that stays goes into both cases of the test before it
filtered : (on : Bool) (p : ℕ → Bool) (conn : ℕ) (found : List ℕ)
    → filter p (cond on (conn ∷ found) found) ≡ cond on (cond (p conn) (conn ∷ filter p found) (filter p found)) (filter p found)
filtered true p conn found = refl
filtered false p conn found = refl

pub off_where : (now : Present) (crtc : ℕ) (but : Option ℕ) (conns : List ℕ)
    → flat_map (off_alone now crtc but) conns ≡ map conn_off (all_but but (filter (on_it now crtc) conns))
off_where now crtc None [] = refl
off_where now crtc (Some one) [] = refl
off_where now crtc None (conn ∷ conns) =
    rw (off_where now crtc None conns) (step_all (on_it now crtc conn) conn (filter (on_it now crtc) conns))
off_where now crtc (Some one) (conn ∷ conns) =
    let found : List ℕ = filter (on_it now crtc) conns in
    rw (off_where now crtc (Some one) conns, filtered (on_it now crtc conn) (λ index. not (index == one)) conn found)
    (step_but (on_it now crtc conn) (not (conn == one)) conn found (filter (λ index. not (index == one)) found))
