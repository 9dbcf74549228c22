-- A commit of a device of one CRTC, which asks that the CRTC be off, is one that can be set up.
use Rattle.std.proofs.Common.{◌≡◌, ℕ, zero, suc, ◌-◌, ◌<◌, List, [], ◌∷◌, replicate, get_or, pos, Bool, true, false, Option, Some, None}
use Rattle.std.proofs.Common.{inl, inr, arith, refl, sym, ap, ◌∙◌}
use Rattle.std.specs.Prelude.{slice_get}
use Rattle.std.proofs.lemmas.Bool.{cases_lt, false≢true}
use Rattle.std.proofs.lemmas.List.{get_or-replicate}
use borrow.Author.Tests.{le-ltb, lt-ltb}
use Rattle.kms_model.specs.declared.flags.TheConstants.{PAGE_FLIP_EVENT}
use Rattle.kms_model.specs.declared.objects.Kind.TheVariants as kind
use Rattle.kms_model.specs.declared.objects.Topology.{Topology}
use Rattle.kms_model.specs.declared.properties.TheConstants.{ACTIVE}
use Rattle.kms_model.specs.declared.scripts.PropRef.TheVariants.{Known}
use Rattle.kms_model.specs.declared.scripts.Request.{Request}
use Rattle.kms_model.specs.declared.scripts.Value.TheVariants as value
use Rattle.kms_model.specs.declared.states.Both.{Both}
use Rattle.kms_model.specs.declared.states.Checked.{Checked}
use Rattle.kms_model.specs.declared.states.CrtcState.{CrtcState}
use Rattle.kms_model.specs.Device.Masks.{has_bit, mask_below}
use Rattle.kms_model.specs.Device.Objects.{object_id}
use Rattle.kms_model.specs.Device.World.{start}
use Rattle.kms_model.specs.Machine.State.{Commit, no_marks}
use Rattle.kms_model.specs.Request.Agreement.{crtc_state_at}
use Rattle.kms_model.specs.Request.Apply.{after}
use Rattle.kms_model.specs.Request.Deciding.{IsChecked}
use Rattle.kms_model.specs.Request.Flags.{wants_event}
use Rattle.kms_model.specs.Request.Touched.{named_by, touched_by}
use Rattle.kms_model.proofs.OnMachines.{on_machines}
use Rattle.kms_model.proofs.UnionLemmas.{has_bit-zero}
use Rattle.kms_model.proofs.Facts.{nothing_there}
use Rattle.kms_track.specs.declared.lasts.Last.{Last}
use Rattle.kms_track.specs.declared.tail.Signals.{Signals}
use Rattle.kms_track.specs.InStep.{AreSignalsOf, IsCheckedFor, IsTrackerOf, is_on_there, out_fence_at}
use Rattle.kms_track.specs.Places.{crtc_id, is_side, mask_has}
use Rattle.kms_track.specs.StepLaws.{waits_of}
use Rattle.kms_track.specs.Tails.{first_tail}
use Rattle.kms_track.specs.Tracking.{IsSetUp, Tracking, last_at, no_last, no_tracking, raised}
use Rattle.kms_track.proofs.SettingUp.{first_stands, set_up_stands}

-- one CRTC, a plane of it and a connector of it
abbrev pub one : Topology
one = record { profile = 1; crtcs = 1; planes = record { kind = 1; crtcs = 1; formats = 1 } ∷ []; conns = 1 ∷ [] }

abbrev pub turns_off : Request
turns_off = record {
  flags = PAGE_FLIP_EVENT;
  user_data = 9;
  assigns = record { kind = kind.Crtc; index = 0; prop = Known ACTIVE; value = value.Num (pos 0) } ∷ [];
}

abbrev pub commit : Commit
commit = record { client = 1; command = 1; request = turns_off; world = start one }

abbrev off : CrtcState
off = record { active = false; mode = None; gamma = None; planes = 0; conns = 0 }

abbrev pub checked : Checked
checked = record {
  states = record {
    crtcs = Some (record { old = off; new = off }) ∷ (None ∷ (None ∷ (None ∷ [])));
    planes = replicate 16 None;
    conns = replicate 8 None;
  };
  named = 1;
  touched = record { crtcs = 1; planes = 0; conns = 0 };
}

abbrev pub no_fences : List (Option ℕ)
no_fences = None ∷ (None ∷ (None ∷ (None ∷ [])))

old_off : crtc_state_at one (start one).things (start one).values (object_id kind.Crtc 0) ≡ off
unfolding on_machines mask_below
old_off = refl

new_off : crtc_state_at one (start one).things (after (start one) turns_off) (object_id kind.Crtc 0) ≡ off
unfolding on_machines mask_below
new_off = refl

names_it : 1 ≡ named_by one (start one) turns_off
unfolding on_machines mask_below
names_it = refl

touches_it : checked.touched ≡ touched_by one (start one) turns_off
unfolding on_machines mask_below
touches_it = refl

only_first : (i : ℕ) (both : Both CrtcState) → slice_get checked.states.crtcs i ≡ Some (Some both)
    → (i ≡ 0) × (both ≡ record { old = off; new = off })
only_first zero both is = (refl, cc)
only_first (suc zero) both is = absurd cc
only_first (suc (suc zero)) both is = absurd cc
only_first (suc (suc (suc zero))) both is = absurd cc
only_first (suc (suc (suc (suc i)))) both is = absurd cc

is_checked : IsChecked one commit.world commit.request checked
is_checked = record {
  old = record {
    crtcs = λ i both is. (let first = only_first i both is in ap (λ (b : Both CrtcState). b.old) first.1 ∙ sym old_off
        ∙ ap (λ j. crtc_state_at one (start one).things (start one).values (object_id kind.Crtc j)) (sym first.0));
    planes = λ i both is. absurd (nothing_there 16 i both is);
    conns = λ i both is. absurd (nothing_there 8 i both is);
  };
  new = record {
    crtcs = λ i both is. (let first = only_first i both is in ap (λ (b : Both CrtcState). b.new) first.1 ∙ sym new_off
        ∙ ap (λ j. crtc_state_at one (start one).things (after (start one) turns_off) (object_id kind.Crtc j)) (sym first.0));
    planes = λ i both is. absurd (nothing_there 16 i both is);
    conns = λ i both is. absurd (nothing_there 8 i both is);
  };
  named = names_it;
  touched = touches_it;
}

no_fence : (i : ℕ) → i < 4 → None ≡ out_fence_at one commit i
unfolding on_machines mask_below
no_fence zero low = refl
no_fence (suc zero) low = refl
no_fence (suc (suc zero)) low = refl
no_fence (suc (suc (suc zero))) low = refl
no_fence (suc (suc (suc (suc i)))) low = absurd (omega (arith, low))

one_crtc : (i : ℕ) → i < 4 → has_bit 1 i ≡ true → i ≡ 0
one_crtc zero low has = refl
one_crtc (suc zero) low has = absurd (false≢true has)
one_crtc (suc (suc zero)) low has = absurd (false≢true has)
one_crtc (suc (suc (suc zero))) low has = absurd (false≢true has)
one_crtc (suc (suc (suc (suc i)))) low has = absurd (omega (arith, low))

-- only the CRTC is touched
only_crtc : (p : ℕ) → p < 28 → mask_has checked.touched p ≡ true → p ≡ 0
only_crtc p place has =
    elim (cases_lt p 4) [
      | inl low ↦ one_crtc p low (rw (lt-ltb p 4 low) at has)
      | inr high ↦ elim (cases_lt p 20) [
        | inl plane ↦ absurd (false≢true (sym (has_bit-zero (p - 4)) ∙ (rw (le-ltb p 4 high, lt-ltb p 20 plane) at has)))
        | inr conn ↦ absurd (false≢true (sym (has_bit-zero (p - 20)) ∙ (rw (le-ltb p 4 high, le-ltb p 20 conn) at has)))
      ]
    ]

on_itself : (i : ℕ) → i < 4 → is_on_there one commit 100 (crtc_id i) ≡ is_side (record { old = 100; new = 100 }) (crtc_id i)
unfolding on_machines
on_itself zero few = refl
on_itself (suc zero) few = refl
on_itself (suc (suc zero)) few = refl
on_itself (suc (suc (suc zero))) few = refl
on_itself (suc (suc (suc (suc i)))) few = absurd (omega (arith, few))

pub can_be_checked : IsCheckedFor one commit checked
can_be_checked = record {
  is = is_checked;
  states = record {
    crtcs = λ i low has. rw (one_crtc i low has) refl;
    planes = λ i low has. absurd (false≢true (sym (has_bit-zero i) ∙ has));
    conns = λ i low has. absurd (false≢true (sym (has_bit-zero i) ∙ has));
  };
  on = λ p i place few has. rw (only_crtc p place has) (on_itself i few);
}

abbrev pub signals : Signals
signals = record { client = 1; user_data = 9; wants_event = true; out_fences = no_fences }

asks : true ≡ wants_event PAGE_FLIP_EVENT
unfolding on_machines
asks = refl

pub can_signal : AreSignalsOf one commit signals
can_signal = record { client = refl; user_data = refl; event = asks; out_fences = fence } where
  fence : (i : ℕ) → i < 4 → get_or no_fences i None ≡ out_fence_at one commit i
  fence zero low = no_fence 0 low
  fence (suc zero) low = no_fence 1 low
  fence (suc (suc zero)) low = no_fence 2 low
  fence (suc (suc (suc zero))) low = no_fence 3 low
  fence (suc (suc (suc (suc i)))) low = absurd (omega (arith, low))

waits_for_none : waits_of one commit ≡ []
unfolding on_machines
waits_for_none = refl

abbrev pub after_one : Tracking
after_one = record {
  count = 1;
  lasts = record { commit = Some 0; before = None } ∷ replicate 27 no_last;
  tails = record { slots = record { id = 0; value = first_tail signals checked [] [] } ∷ []; room = 0 };
}

is_set_up : IsSetUp no_tracking after_one signals checked []
is_set_up = record {
  count = refl;
  lasts = last;
  previous = [];
  previous_are = λ p place. ap (λ (l : Last). l.commit) (sym (get_or-replicate 28 p no_last no_last place));
  waits = [];
  waits_are = refl;
  tails = refl;
} where
  others : (p : ℕ) → suc p < 28 → (b : Bool) → mask_has checked.touched (suc p) ≡ b
      → get_or (replicate 27 no_last) p no_last ≡ raised (get_or (replicate 28 no_last) (suc p) no_last) b 0
  others p place true is = absurd (omega (arith, only_crtc (suc p) place is))
  others p place false is = refl

  last : (p : ℕ) → p < 28 → last_at after_one p ≡ raised (last_at no_tracking p) (mask_has checked.touched p) 0
  last zero place = refl
  last (suc p) place = others p place (mask_has checked.touched (suc p)) refl

-- so one commit is there
pub stands_after_one : IsTrackerOf one (commit ∷ []) no_marks [] after_one
stands_after_one =
    set_up_stands one commit [] no_marks [] no_tracking after_one signals checked [] is_set_up (first_stands one)
    can_signal can_be_checked waits_for_none
