-- E lines: the loop that finds the first that is not right.
use Rattle.std.proofs.Common.{◌≡◌, ℕ, ◌+◌, ◌<◌, ◌≤◌, Bool, true, false, List, [], ◌∷◌, ◌++◌, length, get_or, take, drop, Some, None, refl}
use Rattle.std.proofs.Common.{sym, ap, ◌∙◌, subst, arith}
use Rattle.std.proofs.lemmas.List.{take_more}
use Rattle.std.specs.Prelude.{◌&&◌, is_some, nat_lt, slice_get}
use Rattle.std.specs.List.{count_by}
use Rattle.std.specs.Option.{option_map_or}
use Rattle.std.specs.BTreeMap.{BTreeMap}
use Rattle.kms_audit.proofs.Firsts.{off-done, off-here, off-step}
use Rattle.kms_audit.proofs.Owed.{left-less, left-line}
use Rattle.kms_audit.proofs.Readers.{ReadsLine, reads-line, told-of}
use Rattle.kms_audit.proofs.Turns.{named-at}
use Rattle.kms_audit.proofs.Orders.{client-of}
use Rattle.kms_audit.specs.declared.events.Reader.{Reader}
use Rattle.kms_audit.specs.declared.order.Block.{Block}
use Rattle.kms_audit.specs.declared.owners.Owner.{Owner}
use Rattle.kms_audit.specs.Eventing.{AreLeft, AreOwed, AreRightBefore, EventFields, EventKey, IsReadTo, IsTaken, is_owed, key_of}
use Rattle.kms_audit.specs.Eventing.{next_reader, owed_at, owed_by}
use Rattle.kms_audit.specs.Latching.{LatchFields}
use Rattle.kms_audit.specs.Ordered.{no_block}
use Rattle.kms_model.specs.declared.replies.Answered.{Answered}
use Rattle.kms_model.specs.declared.reports.Report.{Report}
use Rattle.kms_model.specs.declared.scripts.Script.{Script}
use Rattle.kms_model.specs.Report.Right.{event_is_right, events_told, has_a_line, is_not_below, lines_of_client, number_at}
use Rattle.kms_model.specs.Report.RightAnswers.{answers_in, first_off, same_event}

apart_of : (above next left : Bool) → (above && (next && left)) ≡ ((above && next) && left)
apart_of true next left = refl
apart_of false next left = refl

module _ (s : Script) (r : Report) (blocks : List Block) (owners : List Owner) (right : AreRightBefore s r blocks owners)
    (reader : Reader) (before : List EventFields) (e : EventFields) (owed : BTreeMap EventKey ℕ) (read : IsReadTo r before reader)
    (left : AreLeft owners r.latches before owed) where
  pub clients_few : (k : ℕ) (a : Answered) → slice_get (answers_in r) k ≡ Some a → (1 ≤ a.client) × (a.client ≤ 16)
  clients_few k a g = client-of s a right.formed (named-at s r (answers_in r) right.order.cut k a g)

  pub reads : ReadsLine r blocks right.order.are_blocks clients_few reader before e (next_reader reader blocks r.replies e)
  reads = reads-line r blocks right.order.are_blocks clients_few reader before e read

  event_apart : event_is_right s r before e ≡ (is_some (next_reader reader blocks r.replies e) && nat_lt 0 (owed_at owed (key_of e)))
  unfolding event_is_right
  event_apart =
      apart_of (is_not_below (λ (other : EventFields). other.0) before e)
      (option_map_or (same_event e.1) (slice_get (events_told e.0 (answers_in r)) (length (lines_of_client e.0 before))) false)
      (has_a_line s r before e)
      ∙ (ap (λ b. b && has_a_line s r before e) (sym reads.is_next)
      ∙ ap (λ b. is_some (next_reader reader blocks r.replies e) && b) (left-line s r owners right.are_owners before e owed left))

  pub no_event : next_reader reader blocks r.replies e ≡ None → event_is_right s r before e ≡ false
  no_event none = event_apart ∙ ap (λ o. is_some o && nat_lt 0 (owed_at owed (key_of e))) none

  pub no_line : (x : Reader) → next_reader reader blocks r.replies e ≡ Some x → nat_lt 0 (owed_at owed (key_of e)) ≡ false
      → event_is_right s r before e ≡ false
  no_line x is none = event_apart ∙ (ap (λ o. is_some o && nat_lt 0 (owed_at owed (key_of e))) is ∙ none)

  pub both_there : (x : Reader) → next_reader reader blocks r.replies e ≡ Some x → nat_lt 0 (owed_at owed (key_of e)) ≡ true
      → event_is_right s r before e ≡ true
  both_there x is some = event_apart ∙ (ap (λ o. is_some o && nat_lt 0 (owed_at owed (key_of e))) is ∙ some)

-- The loop

module _ (s : Script) (r : Report) (blocks : List Block) (owners : List Owner) (right : AreRightBefore s r blocks owners)
    (events : List EventFields) (same : events ≡ r.events)
    (reader : Reader) (place : ℕ) (d : EventFields) (owed : BTreeMap EventKey ℕ) (within : place < length events)
    (rest : number_at place (first_off (event_is_right s r) (take place r.events) (drop place r.events)) ≡ first_off
    (event_is_right s r) [] r.events)
    (read : IsReadTo r (take place r.events) reader) (left : AreLeft owners r.latches (take place r.events) owed) where
  abbrev line : EventFields
  line = get_or events place d

  here : place < length r.events
  here = omega (arith, within, ap length same)

  line_is : line ≡ get_or r.events place d
  line_is = ap (λ es. get_or es place d) same

  more : take (place + 1) r.events ≡ take place r.events ++ line ∷ []
  more = take_more r.events place d here ∙ ap (λ e. take place r.events ++ e ∷ []) (sym line_is)

  wrong_here : event_is_right s r (take place r.events) line ≡ false → Some place ≡ first_off (event_is_right s r) [] r.events
  wrong_here wrong =
      sym (off-here (event_is_right s r) r.events place d here (ap (event_is_right s r (take place r.events)) (sym line_is) ∙ wrong)) ∙ rest

  pub no-event-here : next_reader reader blocks r.replies line ≡ None → Some place ≡ first_off (event_is_right s r) [] r.events
  no-event-here none = wrong_here (no_event s r blocks owners right reader (take place r.events) line owed read left none)

  pub no-line-here : (x : Reader) → next_reader reader blocks r.replies line ≡ Some x → nat_lt 0 (owed_at owed (key_of line)) ≡ false
      → Some place ≡ first_off (event_is_right s r) [] r.events
  no-line-here x is none = wrong_here (no_line s r blocks owners right reader (take place r.events) line owed read left x is none)

  module _ (x : Reader) (is : next_reader reader blocks r.replies line ≡ Some x) (some : nat_lt 0 (owed_at owed (key_of line)) ≡ true) where
    pub event-rest : number_at (place + 1)
        (first_off (event_is_right s r) (take (place + 1) r.events) (drop (place + 1) r.events)) ≡ first_off
        (event_is_right s r) [] r.events
    event-rest =
        off-step (event_is_right s r) r.events place d here
        (ap (event_is_right s r (take place r.events)) (sym line_is) ∙ both_there s r blocks owners right reader
        (take place r.events) line owed read left x is some)
        ∙ rest

    pub event-read : IsReadTo r (take (place + 1) r.events) x
    event-read = subst (λ es. IsReadTo r es x) (sym more)
        ((reads s r blocks owners right reader (take place r.events) line owed read left).behind x is)

pub event-left : (r : Report) (owners : List Owner) (events : List EventFields) (same : events ≡ r.events) (place : ℕ) (d : EventFields)
    (old new : BTreeMap EventKey ℕ)
    → place < length events → AreLeft owners r.latches (take place r.events) old → IsTaken (get_or events place d) old new true
    → AreLeft owners r.latches (take (place + 1) r.events) new
event-left r owners events same place d old new within left taken =
    let line_is : get_or events place d ≡ get_or r.events place d = ap (λ es. get_or es place d) same in
    let more : take (place + 1) r.events ≡ take place r.events ++ get_or events place d ∷ [] =
    take_more r.events place d (omega (arith, within, ap length same)) ∙ ap (λ e. take place r.events ++ e ∷ []) (sym line_is) in
    subst (λ es. AreLeft owners r.latches es new) (sym more)
    (left-less owners r.latches (take place r.events) (get_or events place d) old new left taken)

-- Before the first line, and behind the last

pub events-first : (s : Script) (r : Report) (blocks : List Block) (owners : List Owner) → AreRightBefore s r blocks owners
    → IsReadTo r [] (record { client = 0; block = no_block })
events-first s r blocks owners right = record {
  client = refl;
  left =
      sym (told-of r blocks right.order.are_blocks
      (λ k a g. client-of s a right.formed (named-at s r (answers_in r) right.order.cut k a g)) 0);
  above = λ client some. refl;
}

pub left-first : (r : Report) (owners : List Owner) (lines : List LatchFields) (owed : BTreeMap EventKey ℕ) → lines ≡ r.latches
    → AreOwed owners lines owed
    → AreLeft owners r.latches [] owed
left-first r owners lines owed same are key =
    let told = are key ∙ ap (λ ls. count_by (λ l. nat_lt 0 (is_owed (owed_by owners l) key)) ls) same in omega (arith, told)

pub events-none : (s : Script) (r : Report) (events : List EventFields) (same : events ≡ r.events) (place : ℕ) → length events ≤ place
    → number_at place (first_off (event_is_right s r) (take place r.events) (drop place r.events)) ≡ first_off
    (event_is_right s r) [] r.events
    → None ≡ first_off (event_is_right s r) [] r.events
events-none s r events same place past rest = sym (off-done (event_is_right s r) r.events place (omega (arith, past, ap length same)))
    ∙ rest
