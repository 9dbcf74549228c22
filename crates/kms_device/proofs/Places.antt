-- Where the client of a pass stands after a turn, by where it stood.
use Rattle.std.proofs.Common.{◌≡◌, ℕ, [], ◌∷◌, true, false, None, Result, Ok, Err, refl, sym, ap, ◌∙◌, subst}
use Rattle.std.specs.Prelude.{IfOk, IfSome, IsErr, is_some}
use Rattle.std.proofs.lemmas.Bool.{false≢true}
use Rattle.kms_model.specs.declared.objects.ObjId.{ObjId}
use Rattle.kms_model.specs.declared.objects.Ticket.{Ticket}
use Rattle.kms_model.specs.declared.replies.Step.{Step}
use Rattle.kms_model.specs.declared.replies.Step.TheVariants as step
use Rattle.kms_model.specs.declared.runs.Doing.{Doing}
use Rattle.kms_model.specs.declared.runs.Doing.TheVariants as doing
use Rattle.kms_model.specs.declared.runs.Place.{Place}
use Rattle.kms_model.specs.declared.scripts.Request.{Request}
use Rattle.kms_model.specs.declared.scripts.Script.{Script}
use Rattle.kms_model.specs.Machine.Effects.{backed_off, next}
use Rattle.kms_model.specs.Machine.State.{doing_at, place_at}
use Rattle.kms_core.specs.declared.stores.looking.Decided.{Decided}
use Rattle.kms_core.specs.declared.stores.looking.Decided.TheVariants as decided
use Rattle.kms_core.specs.Decisions.{steps_of}
use Rattle.kms_core.specs.Run.{Run, machine}
use Rattle.kms_device.specs.declared.attempt.Findings.{Findings}
use Rattle.kms_device.specs.declared.attempt.Attempted.{Attempted}
use Rattle.kms_device.specs.declared.attempt.Attempted.TheVariants as attempted
use Rattle.kms_device.specs.Attempts.{StandsAt, gives_reply}
use Rattle.kms_device.specs.Trying.{Concludes, StandsAfter, place_behind}
use Rattle.kms_device.specs.Turns.{DevicePass, DeviceTurn, run_seen}
use Rattle.kms_device.proofs.Stepping.{found-is, found-place, next-after, open-after, rank-after}
use Rattle.kms_device.proofs.TurnsTried.{place-now}

-- nothing is told where memory ran out
pub stands_err : {E : Type 0} (r : Run) (client : ℕ) (result : Result Attempted E) (place : Place) → IsErr result
    → StandsAfter r client result place
stands_err r client (Ok did) place e = absurd (false≢true e)
stands_err r client (Err x) place e = tt

-- the place that is given on
pub stands_behind : (E : Type 0) (r : Run) (client : ℕ) (did : Attempted) (place : Place) → StandsAfter {E = E} r client (Ok did) place
    → IfSome (place_behind did place) (StandsAt r client)
stands_behind E r client attempted.Did place stands = stands
stands_behind E r client (attempted.NotYet n) place stands = stands
stands_behind E r client (attempted.Answered reply) place stands = tt

pub none_behind : (did : Attempted) (place : Place) → gives_reply did ≡ true → place_behind did place ≡ None
none_behind attempted.Did place is = absurd (false≢true is)
none_behind (attempted.NotYet n) place is = absurd (false≢true is)
none_behind (attempted.Answered reply) place is = refl

pub some_behind : (did : Attempted) (place : Place) → gives_reply did ≡ false → is_some (place_behind did place) ≡ true
some_behind attempted.Did place is = refl
some_behind (attempted.NotYet n) place is = refl
some_behind (attempted.Answered reply) place is = absurd (false≢true (sym is))

-- it is told whatever the attempt did
pub stands_any : (E : Type 0) (r : Run) (client : ℕ) (did : Attempted) (place : Place) → StandsAt r client place
    → StandsAfter {E = E} r client (Ok did) place
stands_any E r client attempted.Did place stands = stands
stands_any E r client (attempted.NotYet n) place stands = stands
stands_any E r client (attempted.Answered reply) place stands = tt

module _ (script : Script) (says : Run → Type 0) (p q : DevicePass) (place : Place) (stands : StandsAt (run_seen script p) p.rank place)
  where
    -- a turn that added nothing
    pub stands_still : DeviceTurn script says [] p q → StandsAt (run_seen script q) p.rank place
    stands_still t = record {
      is_open = open-after script says [] p q t;
      at = stands.at ∙ sym (ap (λ (r : Run). place_at (machine r) p.rank) (found-is script says p q t) ∙ found-place script says [] p q t);
    }

    pub still_of_pass : DeviceTurn script says [] p q → StandsAt (run_seen script q) q.rank place
    still_of_pass t = subst (λ n. StandsAt (run_seen script q) n place) (sym (rank-after script says [] p q t)) (stands_still t)

    -- a turn that added a step, behind which the client does something at its command
    pub stands_next : (x : Step) (t : DeviceTurn script says (x ∷ []) p q) (d : Doing) → place_at (next script (machine t.found) x) p.rank
        ≡ record { command = (place_at (machine t.found) p.rank).command; doing = d }
        → StandsAt (run_seen script q) p.rank (record place { doing = d })
    stands_next x t d is = record {
      is_open = open-after script says (x ∷ []) p q t;
      at =
          ap {B = Place} (λ n. record { command = n; doing = d })
          (ap (λ (z : Place). z.command) (stands.at ∙ sym (found-place script says (x ∷ []) p q t)))
          ∙ (sym is ∙ ap (λ m. place_at m p.rank) (sym (next-after script says x p q t)));
    }

    -- A context begins.
    pub began_at : (ticket : Ticket) (t : DeviceTurn script says (step.Begin p.rank ∷ []) p q) → ticket.0
        ≡ (machine t.found).contexts.tickets
        → StandsAt (run_seen script q) p.rank (record place { doing = doing.Taking ticket })
    unfolding next
    began_at ticket t said =
        stands_next (step.Begin p.rank) t (doing.Taking ticket)
        (place-now (machine t.found) p.rank (doing.Taking (record { 0 = (machine t.found).contexts.tickets }))
        ∙ ap {B = Place} (λ n. record { command = (place_at (machine t.found) p.rank).command; doing = doing.Taking (record { 0 = n }) })
        (sym said))

    -- It gives way.
    pub gave_way_at : (ticket : Ticket) (object : ObjId) → doing_at (machine (run_seen script p)) p.rank ≡ doing.MustBackOff ticket object
        → (t : DeviceTurn script says (step.BackOff p.rank ∷ []) p q)
        → StandsAt (run_seen script q) p.rank (record place { doing = doing.BackedOff ticket object })
    unfolding next
    gave_way_at ticket object must t =
        let there : doing_at (machine t.found) p.rank
        ≡ doing.MustBackOff ticket object = ap (λ (z : Place). z.doing) (found-place script says (step.BackOff p.rank ∷ []) p q t) ∙ must
        in
        stands_next (step.BackOff p.rank) t (doing.BackedOff ticket object)
        (place-now (machine t.found) p.rank (backed_off (doing_at (machine t.found) p.rank))
        ∙ ap {B = Place} (λ d. record { command = (place_at (machine t.found) p.rank).command; doing = backed_off d }) there)

-- A client's context began, by the client's number.
pub began_by : (script : Script) (p q : DevicePass) (place : Place) → StandsAt (run_seen script p) p.rank place → (client : ℕ) → p.rank
    ≡ client → (ticket : Ticket)
    → DeviceTurn script (λ found. ticket.0 ≡ (machine found).contexts.tickets) (step.Begin client ∷ []) p q
    → StandsAt (run_seen script q) p.rank (record place { doing = doing.Taking ticket })
began_by script p q place stands client whose ticket t =
    let own : DeviceTurn script (λ found. ticket.0 ≡ (machine found).contexts.tickets) (step.Begin p.rank ∷ []) p q =
    subst (λ n. DeviceTurn script (λ found. ticket.0 ≡ (machine found).contexts.tickets) (step.Begin n ∷ []) p q) (sym whose) t in
    began_at script (λ found. ticket.0 ≡ (machine found).contexts.tickets) p q place stands ticket own own.said

-- where the client stands after a call that decides, and what came of that
module _ (E : Type 0) (script : Script) (says : Run → Type 0) (p m q : DevicePass) (place : Place)
    (stands : StandsAt (run_seen script p) p.rank place) (request : Request) (kept keeps : Findings) (x : Step) where
  at_told : (did told : Attempted) → did ≡ told → StandsAfter {E = E} (run_seen script q) p.rank (Ok told) place
      → StandsAfter {E = E} (run_seen script q) p.rank (Ok did) place
  at_told did told is h = subst (λ d. StandsAfter {E = E} (run_seen script q) p.rank (Ok d) place) (sym is) h

  pub concluded_at : (a : Decided) (r : Result Attempted E) → DeviceTurn script says (steps_of p.rank x a) p m
      → IfOk r (λ did. Concludes script request kept m a q did keeps) → StandsAfter (run_seen script q) p.rank r place
  concluded_at a (Err e) t h = tt
  concluded_at (decided.Done reply) (Ok did) t h = at_told did (attempted.Answered reply) h.did_is tt
  concluded_at (decided.Refused reply) (Ok did) t h = at_told did (attempted.Answered reply) h.did_is tt
  concluded_at (decided.NotYet object commit) (Ok did) t h =
      at_told did _ h.did_is (subst (λ z. StandsAt (run_seen script z) p.rank place) (sym h.same)
      (stands_still script says p m place stands t))
  concluded_at (decided.Again label was now) (Ok did) t h =
      at_told did attempted.Did h.did_is
      (subst (λ n. StandsAt (run_seen script q) n place) (rank-after script says [] p m t)
      (stands_still script _ m q place (still_of_pass script says p m place stands t) h.turn))
