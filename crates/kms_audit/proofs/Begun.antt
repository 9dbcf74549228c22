-- The walk before the first entry.
use Rattle.std.proofs.Common.{◌≡◌, ℕ, ◌+◌, ◌-◌, ◌<◌, ◌≤◌, false, List, [], length, get_or, take, Option, Some, None, refl, sym, ap, ◌∙◌}
use Rattle.std.proofs.Common.{subst, arith, inl, inr}
use Rattle.std.proofs.lemmas.Bool.{and_parts, cond-false, lt-leb, ltb-true}
use Rattle.std.proofs.lemmas.List.{get_or-replicate, length-replicate, take_all}
use Rattle.std.proofs.lemmas.Option.{get_or_from_slice_get, slice_get-get_or, slice_get-map}
use Rattle.std.specs.Prelude.{◌⊎◌, map, nat_le, option_map, replicate, reverse, slice_get, slice_index_or}
use Rattle.kms_audit.proofs.Firsts.{off-at, off-each}
use Rattle.kms_audit.proofs.Leasts.{get-within}
use Rattle.kms_audit.specs.declared.compared.Compared.{Compared}
use Rattle.kms_audit.specs.declared.latches.Track.{Track}
use Rattle.kms_audit.specs.declared.order.Block.{Block}
use Rattle.kms_audit.specs.declared.order.Ordered.{Ordered}
use Rattle.kms_audit.specs.declared.owners.Owner.{Owner}
use Rattle.kms_audit.specs.declared.walk.Walk.{Walk}
use Rattle.kms_audit.specs.Compared.{AreComparedUpTo}
use Rattle.kms_audit.specs.Eventing.{AreShort}
use Rattle.kms_audit.specs.Framed.{AreAllKept}
use Rattle.kms_audit.specs.Latching.{AreWithin, LatchFields, no_track, track_of, track_on}
use Rattle.kms_audit.specs.Ordered.{IsOrdered, block_at}
use Rattle.kms_audit.specs.Owned.{owner_of}
use Rattle.kms_audit.specs.Touching.{last_in}
use Rattle.kms_audit.specs.Sections.{is_placed}
use Rattle.kms_audit.specs.Walked.{CanEnter, IsKeptAt}
use Rattle.kms_model.proofs.TouchedLemmas.{few_objects}
use Rattle.kms_model.specs.declared.objects.Topology.{Topology}
use Rattle.kms_model.specs.Report.Right.{latch_from, latches_in}
use Rattle.kms_model.specs.Script.WellFormed.{IsWellFormed}
use Rattle.kms_model.specs.declared.reports.Report.{Report}
use Rattle.kms_model.specs.declared.scripts.Script.{Script}
use Rattle.kms_model.specs.declared.worlds.Thing.{Thing}
use Rattle.kms_model.specs.Device.Objects.{exists, object_id}
use Rattle.kms_model.specs.Device.Serial.{Entry, serial, serial_from, show, show_from}
use Rattle.kms_model.specs.Device.Sound.{IsDevice}
use Rattle.kms_model.specs.Device.World.{start}
use Rattle.kms_model.specs.declared.objects.Kind.TheVariants.{Crtc}
use Rattle.kms_model.specs.Machine.Commits.{last_below, previous}
use Rattle.kms_model.specs.Report.RightAnswers.{commits_from, commits_of, entries_in, entry_is_right, first_off, last_touch}
use Rattle.kms_serial.specs.Device.{Device}

proper_least : (b : Block) → ((b.next < b.end) ⊎ ((b.next ≡ 0) × (b.end ≡ 0))) → b.next ≤ b.end
proper_least b (inl l) = omega arith
proper_least b (inr e) = omega (arith, e.0, e.1)

-- no line is compared
pub compared-first : (s : Script) (r : Report) (o : Ordered) (c : Compared) → IsOrdered s r o → c.blocks ≡ o.blocks → c.differing ≡ None
    → AreComparedUpTo s r 0 0 c
compared-first s r o c is blocks none = record {
  order = o;
  is_ordered = is;
  size = ap length blocks ∙ is.blocks.size;
  ends = λ client some few. ap (λ bs. (block_at bs client).end) blocks;
  from_on = λ client some few. omega (arith, ap (λ bs. (block_at bs client).next) blocks);
  up_to = λ client some few.
      omega (
        arith,
        ap (λ bs. (block_at bs client).next) blocks,
        proper_least (block_at o.blocks client)
            (is.blocks.lines client some few).proper,
      );
  later = λ at a g behind.
      subst (λ n. n ≤ a.place) (sym (cond-false (nat_le a.client 0) (0 + 1) 0 (lt-leb a.client 0 (omega (arith, (is.clients at a g).0)))))
      (omega arith);
  wrong = λ at a g before wrong.
      let client = is.clients at a g in
      let held = (is.blocks.lines a.client client.0 client.1).in_block at a g refl in
      absurd (omega (arith, held.0, before, ap (λ bs. (block_at bs a.client).next) blocks));
  found = λ k e. absurd (let no : None ≡ Some k = sym none ∙ e in cc);
}

nothing_touched : (s : Script) (object : ℕ) → last_touch s [] object ≡ None
unfolding last_touch previous last_below commits_from
nothing_touched s object = refl

nothing_shown : (s : Script) (crtc : ℕ) → show s [] crtc ≡ []
unfolding show_from
nothing_shown s crtc = refl

nothing_done : (s : Script) → serial s [] ≡ start s.topology
unfolding serial_from
nothing_done s = refl

no_commits : (s : Script) → length (commits_of s []) ≡ 0
unfolding commits_from
no_commits s = refl

no_owners : (s : Script) → ◌≡◌ {A = List Owner} [] (map owner_of (reverse (commits_of s [])))
unfolding commits_from
no_owners s = refl

none_wrong : (s : Script) (r : Report) → first_off (entry_is_right s) [] (take 0 (entries_in r)) ≡ None
unfolding first_off
none_wrong s r = refl

untracked : (s : Script) (r : Report) (crtc : ℕ) → no_track r.latches crtc ≡ track_of r.latches crtc (no_track r.latches crtc)
    (show s [] (object_id Crtc crtc))
unfolding track_of
untracked s r crtc = sym (ap (track_of r.latches crtc (no_track r.latches crtc)) (nothing_shown s (object_id Crtc crtc)))

-- what is kept of no entry
pub kept-first : (s : Script) (r : Report) (w : Walk) → IsDevice s.topology
    → w.serial ≡ record { topology = s.topology; world = start s.topology } → w.highest ≡ replicate 16 None
    → ((object : ℕ) → last_in w.touches object ≡ None) → w.owners ≡ []
    → ((crtc : ℕ) → crtc < 4 → track_on w.showing.tracks crtc ≡ no_track r.latches crtc)
    → AreWithin (length r.latches) w.showing → ((things : List Thing) → AreAllKept things w.showing) → IsKeptAt s r 0 w
kept-first s r w device serial_is highest untouched owners tracks lines kept = record {
  within = omega arith;
  right = none_wrong s r;
  at = record {
    device = device;
    stands = record {
      topology = ap (λ (d : Device). d.topology) serial_is;
      world = ap (λ (d : Device). d.world) serial_is
          ∙ sym (nothing_done s);
    };
    touches = λ object has. untouched object ∙ sym (nothing_touched s object);
  };
  small = record {
    ids = omega (arith, ap (λ (d : Device). d.world.next_id) serial_is);
    commits = omega (arith, ap (λ (d : Device). d.world.commits) serial_is);
  };
  counted = ap (λ (d : Device). d.world.commits) serial_is ∙ sym (no_commits s);
  size = ap length highest ∙ length-replicate {A = Option ℕ} 16 None;
  highest = λ client some most. ap (λ h. slice_index_or h (client - 1) None) highest
      ∙ get_or-replicate 16 (client - 1) None None (omega arith);
  owners = owners ∙ no_owners s;
  tracks = λ crtc on. tracks crtc (omega (arith, on, (few_objects s.topology device).crtcs)) ∙ untracked s r crtc;
  lines = lines;
  kept = kept w.serial.world.things;
}

-- what it is made of
pub started : (d : Device) (t u : Topology) → d ≡ record { topology = t; world = start t } → t ≡ u
    → d ≡ record { topology = u; world = start u }
started d t u is same = subst (λ x. d ≡ record { topology = x; world = start x }) same is

pub dark-tracks : (tracks : List Track) (lines latches : List LatchFields) → lines ≡ latches
    → ((crtc : ℕ) → crtc < 4 → track_on tracks crtc ≡ no_track lines crtc)
    → (crtc : ℕ) → crtc < 4 → track_on tracks crtc ≡ no_track latches crtc
dark-tracks tracks lines latches same dark crtc few = dark crtc few ∙ ap (λ ls. no_track ls crtc) same

-- Behind the last entry

pub wrong-entry : (s : Script) (r : Report) (place : ℕ) (w : Walk) (e : Entry) → IsKeptAt s r place w
    → slice_get (entries_in r) place ≡ Some e
    → entry_is_right s (take place (entries_in r)) e ≡ false → Some place ≡ first_off (entry_is_right s) [] (entries_in r)
wrong-entry s r place w e kept g wrong =
    sym (off-at (entry_is_right s) (entries_in r) place e (get-within (entries_in r) place e g) kept.right
    (ap (entry_is_right s (take place (entries_in r))) (get_or_from_slice_get (entries_in r) place e e g) ∙ wrong))

pub no-wrong-entry : (s : Script) (r : Report) (place : ℕ) (w : Walk) → IsKeptAt s r place w → length (entries_in r) ≤ place
    → None ≡ first_off (entry_is_right s) [] (entries_in r)
no-wrong-entry s r place w kept past =
    sym (ap (first_off (entry_is_right s) []) (sym (take_all place (entries_in r) past)) ∙ kept.right)

-- What the next entry and the sections behind the walk ask for

pub can-enter : (s : Script) (r : Report) (place : ℕ) (w : Walk) → IsWellFormed s → place ≤ 67108864 → IsKeptAt s r place w → CanEnter r w
can-enter s r place w formed few kept = record {
  room = record { ids = omega (arith, kept.small.ids, few); commits = omega (arith, kept.small.commits, few) };
  crtcs = omega (arith, (few_objects s.topology formed.device).crtcs, ap (λ (t : Topology). t.crtcs) kept.at.stands.topology);
  lines = kept.lines;
  kept = kept.kept;
}

-- L lines that stand where they may are of CRTCs of the device
pub crtcs-few : (t : Topology) (r : Report) → t.crtcs ≤ 4 → first_off (is_placed t) [] (latches_in r) ≡ None → AreShort r.latches
crtcs-few t r few right k d within =
    let line = get_or r.latches k d in
    let there = slice_get-map latch_from r.latches k ∙ ap (option_map latch_from) (slice_get-get_or r.latches k d within) in
    let placed = off-each (is_placed t) [] (latches_in r) k (latch_from line) right there in
    let on = (and_parts (exists t Crtc line.0) _ placed).0 in
    omega (arith, few, ltb-true line.0 t.crtcs on)
