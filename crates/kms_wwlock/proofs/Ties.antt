-- Places and the table of locks go on telling the same.
use Rattle.std.proofs.Common.{◌≡◌, ◌≢◌, ℕ, zero, suc, ◌-◌, get_or, set, replicate, ◌==◌, Bool, true, false, not, List, [], ◌∷◌, ◌++◌, map}
use Rattle.std.proofs.Common.{Some, None, Option, refl, sym, ap, ◌∙◌, subst, inl, inr}
use Rattle.std.proofs.lemmas.Bool.{cases_eq, eq-eqb}
use Rattle.std.proofs.lemmas.List.Elements.{All-nil, All-cons, All-head, All-tail, All-push, All-weaker}
use Rattle.std.specs.Prelude.{All, filter, if◌then◌else◌}
use Rattle.kms_model.specs.declared.objects.Ticket.{Ticket}
use Rattle.kms_model.specs.declared.runs.Doing.{Doing}
use Rattle.kms_model.specs.declared.runs.Doing.TheVariants as doing
use Rattle.kms_model.specs.declared.runs.Place.{Place}
use Rattle.kms_wwlock.specs.declared.contexts.Context.{Context}
use Rattle.kms_wwlock.specs.declared.contexts.ContextDoing.{ContextDoing}
use Rattle.kms_wwlock.specs.declared.contexts.ContextDoing.TheVariants as context
use Rattle.kms_wwlock.specs.Table.{Table, doing_in_contexts}
use Rattle.kms_wwlock.specs.Calls.{after_drop_all, with_doing}
use Rattle.kms_wwlock.specs.Standing.{Standing, IsClient, doing_in, ticket_in, IsBegun, NamesLockable, IsKnown, AreTied, first_place}
use Rattle.kms_wwlock.specs.Standing.{no_place}
use Rattle.kms_wwlock.proofs.Places.{HasContext, Moves, moves, each, SameTickets, same_tickets}

-- each context goes on, but that of one ticket
abbrev pub OthersGoOn : List Context → List Context → Ticket → Type 0
OthersGoOn old new t = (other : Ticket) → other.0 ≢ t.0 → doing_in_contexts new other ≡ doing_in_contexts old other

-- a client whose ticket is another one goes on as it did
pub begun_still : (old new : List Context) (t : Ticket) (d : Doing) → OthersGoOn old new t
    → ((u : Ticket) → ticket_in d ≡ Some u → u.0 ≢ t.0) → IsBegun old d → IsBegun new d
begun_still old new t doing.Idle on apart is = is
begun_still old new t (doing.Taking u) on apart is = on u (apart u refl) ∙ is
begun_still old new t (doing.MustBackOff u object) on apart is = on u (apart u refl) ∙ is
begun_still old new t (doing.BackedOff u object) on apart is = on u (apart u refl) ∙ is
begun_still old new t (doing.Returning k) on apart is = is

-- a client without a context has none in any list
pub begun_none : (contexts : List Context) (d : Doing) → ticket_in d ≡ None → IsBegun contexts d
begun_none contexts doing.Idle none = cc
begun_none contexts (doing.Taking u) none = cc
begun_none contexts (doing.MustBackOff u object) none = cc
begun_none contexts (doing.BackedOff u object) none = cc
begun_none contexts (doing.Returning k) none = cc

pub names_none : (d : Doing) → ticket_in d ≡ None → NamesLockable d
names_none doing.Idle none = cc
names_none (doing.Taking u) none = cc
names_none (doing.MustBackOff u object) none = absurd cc
names_none (doing.BackedOff u object) none = absurd cc
names_none (doing.Returning k) none = cc

-- the context of a client's ticket has begun
pub has_begun : (contexts : List Context) (d : Doing) (t : Ticket) → ticket_in d ≡ Some t → IsBegun contexts d
    → doing_in_contexts contexts t ≢ None
has_begun contexts doing.Idle t e is = λ none. cc
has_begun contexts (doing.Taking u) t e is = λ none. cc
has_begun contexts (doing.MustBackOff u object) t e is = λ none. cc
has_begun contexts (doing.BackedOff u object) t e is = λ none. cc
has_begun contexts (doing.Returning k) t e is = λ none. cc

same_ticket : (t u : Ticket) → t.0 ≡ u.0 → t ≡ u
same_ticket t u e = ap (λ (n : ℕ). let w : Ticket = record { 0 = n } in w) e

module _ (old new : List Place) (contexts after : List Context) (tied : AreTied old contexts) (client : ℕ) (client_is : IsClient client)
    (place : Place)
    (moves : Moves old new client place) (t : Ticket) (on : OthersGoOn contexts after t) where
  -- others' tickets are not that of the client
  others_apart : ticket_in (doing_in old client) ≡ Some t → (a : ℕ) → IsClient a → a ≢ client → (u : Ticket) → ticket_in (doing_in old a)
      ≡ Some u → u.0 ≢ t.0
  others_apart own a is ne u e = λ same. ne (tied.apart a client t is client_is (rw (← same_ticket u t same) e) own)

  -- A client whose context goes on with its ticket
  module _ (own : ticket_in (doing_in old client) ≡ Some t) (keeps : ticket_in place.doing ≡ Some t) (begun : IsBegun after place.doing)
      (names : NamesLockable place.doing) where
    still : SameTickets old new
    still = same_tickets old new client place moves (keeps ∙ sym own)

    pub tied_on : All (IsKnown new) after → AreTied new after
    tied_on known = record {
      size = moves.size;
      begun = each old new client place (λ a p. IsBegun after p.doing) moves begun
          (λ a is ne. begun_still contexts after t (doing_in old a) on (others_apart own a is ne) (tied.begun a is));
      lockable = each old new client place (λ a p. NamesLockable p.doing) moves names (λ a is ne. tied.lockable a is);
      known = known;
      apart = λ a b u is_a is_b ea eb. tied.apart a b u is_a is_b (sym (still a is_a) ∙ ea) (sym (still b is_b) ∙ eb);
    }

  -- A client whose context is over
  module _ (own : ticket_in (doing_in old client) ≡ Some t) (out : ticket_in place.doing ≡ None) where
    gone : (a : ℕ) → IsClient a → (u : Ticket) → ticket_in (doing_in new a) ≡ Some u → ticket_in (doing_in old a) ≡ Some u
    gone a is u = each old new client place (λ b p. ticket_in p.doing ≡ Some u → ticket_in (doing_in old b) ≡ Some u) moves (λ e. absurd cc)
        (λ b b_is ne e. e) a is

    pub tied_out : All (IsKnown new) after → AreTied new after
    tied_out known = record {
      size = moves.size;
      begun = each old new client place (λ a p. IsBegun after p.doing) moves (begun_none after place.doing out)
          (λ a is ne. begun_still contexts after t (doing_in old a) on (others_apart own a is ne) (tied.begun a is));
      lockable = each old new client place (λ a p. NamesLockable p.doing) moves (names_none place.doing out)
          (λ a is ne. tied.lockable a is);
      known = known;
      apart = λ a b u is_a is_b ea eb. tied.apart a b u is_a is_b (gone a is_a u ea) (gone b is_b u eb);
    }

-- contexts that do something else are known as before
pub known_set : (old new : List Place) (t : Ticket) (d : ContextDoing) (contexts : List Context) → SameTickets old new
    → All (IsKnown old) contexts → All (IsKnown new) (map (with_doing t d) contexts)
known_set old new t d [] same all = All-nil (IsKnown new)
known_set old new t d (c ∷ cs) same all =
    All-cons (IsKnown new) (with_doing t d c) (map (with_doing t d) cs) (step (c.ticket.0 == t.0) (All-head (IsKnown old) c cs all))
    (known_set old new t d cs same (All-tail (IsKnown old) c cs all))
  where
    step : (b : Bool) → IsKnown old c → IsKnown new (if b then record c { doing = d } else c)
    step true k = record { client = k.client; ticket = same c.client k.client ∙ k.ticket }
    step false k = record { client = k.client; ticket = same c.client k.client ∙ k.ticket }

-- the contexts that are left are known where a client's is over
pub known_left : (old new : List Place) (client : ℕ) (place : Place) (t : Ticket) (contexts : List Context) → Moves old new client place
    → ticket_in (doing_in old client) ≡ Some t
    → All (IsKnown old) contexts → All (IsKnown new) (filter (λ c. not (c.ticket.0 == t.0)) contexts)
known_left old new client place t [] moves own all = All-nil (IsKnown new)
known_left old new client place t (c ∷ cs) moves own all = step (c.ticket.0 == t.0) refl (All-head (IsKnown old) c cs all)
    (known_left old new client place t cs moves own (All-tail (IsKnown old) c cs all))
  where
    step : (b : Bool) → (c.ticket.0 == t.0) ≡ b → IsKnown old c → All (IsKnown new) (filter (λ c. not (c.ticket.0 == t.0)) cs)
        → All (IsKnown new) (if not b then c ∷ filter (λ c. not (c.ticket.0 == t.0)) cs else filter (λ c. not (c.ticket.0 == t.0)) cs)
    step true is k rest = rest
    step false is k rest = All-cons (IsKnown new) c (filter (λ c. not (c.ticket.0 == t.0)) cs)
        (record { client = k.client; ticket = ap (λ (p : Place). ticket_in p.doing) (moves.there c.client k.client other) ∙ k.ticket }) rest
      where
        tickets : ticket_in (doing_in old c.client) ≡ Some c.ticket → c.client ≡ client → c.ticket.0 ≡ t.0
        tickets e same = ap (λ (o : Option Ticket). number o) (sym e ∙ ap (λ a. ticket_in (doing_in old a)) same ∙ own) where
          number : Option Ticket → ℕ
          number None = 0
          number (Some u) = u.0

        other : c.client ≢ client
        other = λ same. let yes = eq-eqb c.ticket.0 t.0 (tickets k.ticket same) in cc

-- A client that was found with a context: it goes on and does something else, or is over

module _ (v : Standing) (new : List Place) (table : Table) (client : ℕ) (place : Place) (t : Ticket) (now : Doing)
    (found : HasContext v client t now) (is : new ≡ set v.places (client - 1) place) where
  moved : Moves v.places new client place
  moved = moves v.places new client place found.tied.size found.client_is is

  pub tied_still : (does : ContextDoing) → ticket_in place.doing ≡ Some t → NamesLockable place.doing → IsBegun table.contexts place.doing
      → OthersGoOn v.table.contexts table.contexts t → table.contexts ≡ map (with_doing t does) v.table.contexts
      → AreTied new table.contexts
  tied_still does keeps names begun on after =
      tied_on v.places new v.table.contexts table.contexts found.tied client found.client_is place moved t on found.own keeps begun names
      (subst (All (IsKnown new)) (sym after) (known_set v.places new t does v.table.contexts
      (same_tickets v.places new client place moved (keeps ∙ sym found.own)) found.tied.known))

  pub tied_over : ticket_in place.doing ≡ None → table ≡ after_drop_all v.table t → OthersGoOn v.table.contexts table.contexts t
      → AreTied new table.contexts
  tied_over out after on =
      tied_out v.places new v.table.contexts table.contexts found.tied client found.client_is place moved t on found.own out
      (subst (λ (w : Table). All (IsKnown new) w.contexts) (sym after)
      (known_left v.places new client place t v.table.contexts moved found.own found.tied.known))

-- A context begins

module _ (old new : List Place) (contexts : List Context) (tied : AreTied old contexts) (client : ℕ) (client_is : IsClient client)
    (place : Place)
    (moves : Moves old new client place) (t : Ticket) (fresh : doing_in_contexts contexts t ≡ None) where
  -- the ticket is no other client's
  unlike : (a : ℕ) → IsClient a → (u : Ticket) → ticket_in (doing_in old a) ≡ Some u → u.0 ≢ t.0
  unlike a is u e = λ same. has_begun contexts (doing_in old a) t (rw (← same_ticket u t same) e) (tied.begun a is) fresh

  pub tied_begun : (d : ContextDoing) → ticket_in (doing_in old client) ≡ None → place.doing ≡ doing.Taking t
      → OthersGoOn contexts (contexts ++ record { ticket = t; client = client; doing = d } ∷ []) t
      → doing_in_contexts (contexts ++ record { ticket = t; client = client; doing = d } ∷ []) t ≡ Some context.Taking
      → AreTied new (contexts ++ record { ticket = t; client = client; doing = d } ∷ [])
  tied_begun d idle taking on now = record {
    size = moves.size;
    begun = each old new client place (λ a p. IsBegun (contexts ++ record { ticket = t; client = client; doing = d } ∷ []) p.doing) moves
        (rw taking now)
        (λ a is ne. begun_still contexts (contexts ++ record { ticket = t; client = client; doing = d } ∷ []) t (doing_in old a) on
        (unlike a is) (tied.begun a is));
    lockable = each old new client place (λ a p. NamesLockable p.doing) moves (rw taking cc) (λ a is ne. tied.lockable a is);
    known = All-push (IsKnown new) contexts (record { ticket = t; client = client; doing = d })
        (All-weaker (IsKnown old) (IsKnown new) (λ (c : Context) (k : IsKnown old c).
        record {
          client = k.client;
          ticket = ap (λ (p : Place). ticket_in p.doing)
              (moves.there c.client k.client (λ same. not_idle c k same)) ∙ k.ticket;
        }) contexts tied.known)
        (record { client = client_is; ticket = ap (λ (p : Place). ticket_in p.doing) moves.here ∙ ap ticket_in taking });
    apart = λ a b u is_a is_b.
        elim (cases_eq a client) [
          | inl sa ↦ elim (cases_eq b client) [
            | inl sb ↦ λ ea eb. sa ∙ sym sb
            | inr nb ↦ λ ea eb. absurd (unlike b is_b u (ap (λ (p : Place). ticket_in p.doing) (sym (moves.there b is_b nb)) ∙ eb)
                (own a u sa ea))
          ]
          | inr na ↦ elim (cases_eq b client) [
            | inl sb ↦ λ ea eb. absurd (unlike a is_a u (ap (λ (p : Place). ticket_in p.doing) (sym (moves.there a is_a na)) ∙ ea)
                (own b u sb eb))
            | inr nb ↦ λ ea eb. tied.apart a b u is_a is_b (ap (λ (p : Place). ticket_in p.doing) (sym (moves.there a is_a na)) ∙ ea)
                (ap (λ (p : Place). ticket_in p.doing) (sym (moves.there b is_b nb)) ∙ eb)
          ]
        ];
  } where
    not_idle : (c : Context) → IsKnown old c → c.client ≡ client → ⊥
    not_idle c k same = let e : None ≡ Some c.ticket = sym idle ∙ ap (λ a. ticket_in (doing_in old a)) (sym same) ∙ k.ticket in cc

    own : (a : ℕ) (u : Ticket) → a ≡ client → ticket_in (doing_in new a) ≡ Some u → u.0 ≡ t.0
    own a u same e = let is : Some u ≡ Some t = sym e ∙ ap (λ b. ticket_in (doing_in new b)) same ∙ ap (λ (p : Place). ticket_in p.doing)
        moves.here ∙ ap ticket_in taking in
        let w : u ≡ t = cc in ap (λ (x : Ticket). x.0) w

-- A client without a context

module _ (old new : List Place) (contexts : List Context) (tied : AreTied old contexts) (client : ℕ) (client_is : IsClient client)
    (place : Place) (moves : Moves old new client place)
    (before : ticket_in (doing_in old client) ≡ None) (out : ticket_in place.doing ≡ None) where
  was : (a : ℕ) → IsClient a → (u : Ticket) → ticket_in (doing_in new a) ≡ Some u → ticket_in (doing_in old a) ≡ Some u
  was a is u = each old new client place (λ b p. ticket_in p.doing ≡ Some u → ticket_in (doing_in old b) ≡ Some u) moves
      (λ e. let no : None ≡ Some u = sym out ∙ e in absurd cc) (λ b b_is ne e. e) a is

  pub tied_beside : AreTied new contexts
  tied_beside = record {
    size = moves.size;
    begun = each old new client place (λ a p. IsBegun contexts p.doing) moves (begun_none contexts place.doing out)
        (λ a is ne. tied.begun a is);
    lockable = each old new client place (λ a p. NamesLockable p.doing) moves (names_none place.doing out) (λ a is ne. tied.lockable a is);
    known = All-weaker (IsKnown old) (IsKnown new)
        (λ (c : Context) (k : IsKnown old c). record {
          client = k.client;
          ticket = ap (λ (p : Place). ticket_in p.doing)
              (moves.there c.client k.client (not_client c k)) ∙ k.ticket;
        }) contexts tied.known;
    apart = λ a b u is_a is_b ea eb. tied.apart a b u is_a is_b (was a is_a u ea) (was b is_b u eb);
  } where
    not_client : (c : Context) → IsKnown old c → c.client ≢ client
    not_client c k = λ same. let e : None ≡ Some c.ticket = sym before ∙ ap (λ a. ticket_in (doing_in old a)) (sym same) ∙ k.ticket in cc

-- At first

pub all_idle : (n i : ℕ) → (get_or (replicate n first_place) i no_place).doing ≡ doing.Idle
all_idle zero i = refl
all_idle (suc n) zero = refl
all_idle (suc n) (suc i) = all_idle n i

pub tied_first : AreTied (replicate 16 first_place) []
tied_first = record {
  size = refl;
  begun = λ client is. subst (IsBegun []) (sym (all_idle 16 (client - 1))) tt;
  lockable = λ client is. subst NamesLockable (sym (all_idle 16 (client - 1))) tt;
  known = All-nil (IsKnown (replicate 16 first_place));
  apart = λ a b t is_a is_b ea eb. let no : None ≡ Some t = sym (ap ticket_in (all_idle 16 (a - 1))) ∙ ea in absurd cc;
}
