-- New states that become the present ones.
use Rattle.std.proofs.Common.{◌≡◌, ℕ, zero, suc, ◌+◌, ◌<◌, List, [], ◌∷◌, ◌++◌, length, take, Option, Some, None, refl, sym, ap, ◌∙◌, arith}
use Rattle.std.proofs.Common.{drop, set}
use Rattle.std.proofs.Math.ListN.{get_or}
use Rattle.std.proofs.lemmas.Grind.{common_steps}
use Rattle.std.proofs.lemmas.List.Edits.{map_over_more}
use Rattle.std.specs.Prelude.{is_some, slice_get}
use Rattle.std.specs.Option.{option_flatten, option_map}
use Rattle.kms_model.specs.Device.Places.{alike, state_at}
use Rattle.kms_model.specs.declared.objects.Topology.{Topology}
use Rattle.kms_model.specs.declared.scripts.Request.{Request}
use Rattle.kms_model.specs.declared.states.Both.{Both}
use Rattle.kms_model.specs.declared.states.Duplicates.{Duplicates}
use Rattle.kms_model.specs.declared.worlds.World.{World}
use Rattle.kms_model.specs.Request.Agreement.{AreNew, AreOld}
use Rattle.kms_model.specs.Request.Apply.{after}
use Rattle.kms_things.specs.Present.{AreWhole, IsAfter, IsPresent}
use Rattle.kms_things.specs.Swapping.{alike_new, swapped, swapped_states}

-- one state more is swapped
pub swap_more : {S : Type 0} (before now : List (Option (Both S))) (i : ℕ) (d new : Option (Both S)) → i < length before
    → now ≡ swapped_states (take i before) ++ drop i before → new ≡ alike_new (get_or now i d)
    → set now i new ≡ swapped_states (take (i + 1) before) ++ drop (i + 1) before
swap_more {S} before now i d new lt is one = grind (arith, common_steps, map_over_more (alike_new {S = S}))

swapped_at : {S : Type 0} (states : List (Option (Both S))) (index : ℕ)
    → slice_get (swapped_states states) index ≡ option_map alike_new (slice_get states index)
swapped_at [] index = refl
swapped_at (s ∷ states) zero = refl
swapped_at (s ∷ states) (suc index) = swapped_at states index

is_some-alike : {S : Type 0} (o : Option (Option (Both S))) → is_some (option_flatten (option_map alike_new o)) ≡ is_some (option_flatten o)
is_some-alike None = refl
is_some-alike (Some None) = refl
is_some-alike (Some (Some both)) = refl

swapped_whole : {S : Type 0} (count : ℕ) (states : List (Option (Both S))) → AreWhole count states → AreWhole count (swapped_states states)
swapped_whole count states whole =
    let same : (index : ℕ) → is_some (state_at (swapped_states states) index)
    ≡ is_some (state_at states index) = λ index. ap (λ o. is_some (option_flatten o)) (swapped_at states index) ∙ is_some-alike
    (slice_get states index) in
    record {
      there = λ index lt. same index ∙ whole.there index lt;
      only = λ index some. whole.only index (sym (same index) ∙ some);
    }

-- what a swapped state was
record WasNew {S : Type 0} (o : Option (Option (Both S))) (both : Both S) : Type 0 where
  was : Both S
  at : o ≡ Some (Some was)
  same : both ≡ alike was.new

was_new : {S : Type 0} (o : Option (Option (Both S))) (both : Both S) → option_map alike_new o ≡ Some (Some both) → WasNew o both
was_new None both e = absurd cc
was_new (Some None) both e = absurd cc
was_new (Some (Some was)) both e = record { was = was; at = refl; same = cc }

swapped_old : {S : Type 0} (f : ℕ → S) (states : List (Option (Both S))) → AreNew f states → AreOld f (swapped_states states)
swapped_old f states new index both at =
    let w = was_new (slice_get states index) both (sym (swapped_at states index) ∙ at) in
    ap (λ (b : Both _). b.old) w.same ∙ new index w.was w.at

swapped_new : {S : Type 0} (f : ℕ → S) (states : List (Option (Both S))) → AreNew f states → AreNew f (swapped_states states)
swapped_new f states new index both at =
    let w = was_new (slice_get states index) both (sym (swapped_at states index) ∙ at) in
    ap (λ (b : Both _). b.new) w.same ∙ new index w.was w.at

-- states after a request are the present ones where its values hold
pub swapped_present : (t : Topology) (w : World) (r : Request) (d : Duplicates) → IsAfter t w r d
    → IsPresent t (record w { values = after w r }) (swapped d)
swapped_present t w r d is = record {
  whole = record {
    crtcs = swapped_whole t.crtcs d.crtcs is.whole.crtcs;
    planes = swapped_whole (length t.planes) d.planes is.whole.planes;
    conns = swapped_whole (length t.conns) d.conns is.whole.conns;
  };
  old = record {
    crtcs = swapped_old _ d.crtcs is.new.crtcs;
    planes = swapped_old _ d.planes is.new.planes;
    conns = swapped_old _ d.conns
        is.new.conns;
  };
  new = record {
    crtcs = swapped_new _ d.crtcs is.new.crtcs;
    planes = swapped_new _ d.planes is.new.planes;
    conns = swapped_new _ d.conns
        is.new.conns;
  };
}
