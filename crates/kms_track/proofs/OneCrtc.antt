-- A device of one CRTC has what a tracker asks for of its machine: a commit that lights the CRTC names each CRTC that concerns
-- what it touches, and was claimed before it was done.
use Rattle.std.proofs.Common.{◌≡◌, ℕ, List, ◌++◌, length, Bool, true, false, refl, sym, subst, arith}
use Rattle.std.specs.Prelude.{◌&&◌, ◌||◌, ◌==◌, codes, not, Result, Ok, Err}
use Rattle.std.specs.List.{list_all}
use Rattle.std.proofs.lemmas.Bool.{and_parts, eqb-true, false≢true}
use Rattle.kms_model.specs.declared.objects.Kind.TheVariants.{Crtc}
use Rattle.kms_model.specs.declared.objects.Topology.{Topology}
use Rattle.kms_model.specs.declared.scripts.Part.TheVariants as part
use Rattle.kms_model.specs.Device.Objects.{ids_of}
use Rattle.kms_model.specs.Machine.Commits.{commit_concerns, commit_names, commit_touches, is_claimed, lockable}
use Rattle.kms_model.specs.Machine.Histories.{at, is_history}
use Rattle.kms_model.specs.Machine.State.{DeviceState}
use Rattle.kms_model.specs.Script.InputLines.{Fault}
use Rattle.kms_model.specs.Script.Schedules.{Parts, input_of}
use Rattle.kms_model.proofs.Items.{Passes, list_all-at, list_any-some}
use Rattle.kms_model.proofs.OnMachines.{on_machines}
use Rattle.kms_model.proofs.Rows.{head, made}
use Rattle.kms_track.specs.StepLaws.{HasNames}

-- a commit names each CRTC that concerns an object which it touches
abbrev names_at : Topology → DeviceState → ℕ → ℕ → ℕ → Bool
names_at t d k object crtc = not (commit_touches t d.commits k object && commit_concerns t d.commits k object crtc)
    || commit_names t d.commits k crtc

abbrev names_all : Topology → DeviceState → ℕ → Bool
names_all t d k = list_all (λ object. list_all (names_at t d k object) (ids_of t Crtc)) (lockable t)

abbrev has_names : Topology → DeviceState → Bool
has_names t d = (list_all (is_claimed d) d.marks.done && names_all t d 0) && (length d.commits == 1)

of_both : (a b c : Bool) → (not (a && b) || c) ≡ true → a ≡ true → b ≡ true → c ≡ true
of_both true true c holds first second = holds
of_both true false c holds first second = absurd (false≢true second)
of_both false b c holds first second = absurd (false≢true first)

names_of : (t : Topology) (d : DeviceState) → has_names t d ≡ true → HasNames t d
names_of t d holds =
    let outer = and_parts (list_all (is_claimed d) d.marks.done && names_all t d 0) (length d.commits == 1) holds in
    let parts = and_parts (list_all (is_claimed d) d.marks.done) (names_all t d 0) outer.0 in
    let one : length d.commits ≡ 1 = eqb-true (length d.commits) 1 outer.1 in
    record {
      done_claimed = λ k done. (let found : Passes (λ m. m == k) d.marks.done = list_any-some (λ m. m == k) d.marks.done done in
          subst (λ n. is_claimed d n ≡ true) (eqb-true found.item k found.holds)
          (list_all-at (is_claimed d) d.marks.done found.item parts.0 found.is_in));
      named = λ k object crtc within is is_crtc touched concerned. (let first : k ≡ 0 = omega (arith, within, one) in
          of_both (commit_touches t d.commits k object) (commit_concerns t d.commits k object crtc) (commit_names t d.commits k crtc)
          (subst (λ n. names_at t d n object crtc ≡ true) (sym first)
          (list_all-at (names_at t d 0 object) (ids_of t Crtc) crtc
          (list_all-at (λ o. list_all (names_at t d 0 o) (ids_of t Crtc)) (lockable t) object parts.1 is) is_crtc)) touched concerned);
    }

-- a client makes a framebuffer and a mode, and lights the CRTC: its steps up to the vblank
abbrev lit : List ℕ
lit =
    head
    ++ made
    ++ codes "atomic 0x400 0 crtc0.ACTIVE=1 crtc0.MODE_ID=@m conn0.CRTC_ID=crtc0 plane0.FB_ID=@f plane0.CRTC_ID=crtc0 plane0.CRTC_W=1 plane0.CRTC_H=1 plane0.SRC_W=65536 plane0.SRC_H=65536\nschedule\nT make 1\nT make 1\nT make 1\nT begin 1\nT lock 1 crtc0\nT lock 1 plane0\nT lock 1 conn0\nT swap 1\nT claim 0\nT write 0 crtc0\nT write 0 plane0\nT flush 0 crtc0\nT hwdone 0\nT vblank crtc0\n"

abbrev names_in : Result Parts Fault → Bool
names_in (Err fault) = false
names_in (Ok parts) = is_history parts.script parts.steps && has_names parts.script.topology (at parts.script parts.steps).device

pub one_crtc_has_names : names_in (input_of part.Schedule lit) ≡ true
unfolding on_machines
one_crtc_has_names = refl
