-- What a change of the table does to its look-ups.
use Rattle.std.proofs.Common.{◌≡◌, ◌≢◌, ℕ, zero, suc, ◌==◌, Bool, true, false, not, List, [], ◌∷◌, ◌++◌, map, get_or, set, Option, Some}
use Rattle.std.proofs.Common.{None, refl, sym, ap, ◌∙◌, ◌⊎◌, inl, inr}
use Rattle.std.proofs.Math.ListN.{get_or-map}
use Rattle.std.proofs.lemmas.Bool.{ne_eqb, eq-eqb, eqb-true, cond-true, cond-false}
use Rattle.std.specs.Prelude.{filter, if◌then◌else◌}
use Rattle.kms_model.specs.declared.objects.Ticket.{Ticket}
use Rattle.kms_wwlock.specs.declared.contexts.Context.{Context}
use Rattle.kms_wwlock.specs.declared.contexts.ContextDoing.{ContextDoing}
use Rattle.kms_wwlock.specs.Table.{doing_in_contexts}
use Rattle.kms_wwlock.specs.Calls.{with_doing, holder_without}

pub same_ticket : (t u : Ticket) → t.0 ≡ u.0 → t ≡ u
same_ticket t u e = ap (λ (n : ℕ). let w : Ticket = record { 0 = n } in w) e

-- who holds a place once a ticket's locks are free held it before, and has another ticket
pub held-freed : (t y : Ticket) (hs : List (Option Ticket)) (i : ℕ) → get_or (map (holder_without t) hs) i None ≡ Some y
    → (get_or hs i None ≡ Some y) × (y.0 ≢ t.0)
held-freed t y hs i e = kept (get_or hs i None) (sym (get_or-map (holder_without t) hs i None) ∙ e)
  where
    chosen : (h : Ticket) (b : Bool) → (h.0 == t.0) ≡ b → (if b then None else Some h) ≡ Some y → (Some h ≡ Some y) × (y.0 ≢ t.0)
    chosen h true is e = cc
    chosen h false is e = (e, λ same. other h is e same)
      where
        other : (h : Ticket) → (h.0 == t.0) ≡ false → Some h ≡ Some y → y.0 ≡ t.0 → ⊥
        other h is e same = let hy : h ≡ y = cc in let yes = eq-eqb h.0 t.0 (ap (λ (u : Ticket). u.0) hy ∙ same) in cc

    kept : (o : Option Ticket) → holder_without t o ≡ Some y → (o ≡ Some y) × (y.0 ≢ t.0)
    kept None e = cc
    kept (Some h) e = chosen h (h.0 == t.0) refl e

-- who holds a place after one was taken is who took it, or held it before
pub held-taken : (t y : Ticket) (hs : List (Option Ticket)) (p i : ℕ) → get_or (set hs p (Some t)) i None ≡ Some y
    → (t ≡ y) ⊎ (get_or hs i None ≡ Some y)
held-taken t y [] p i e = inr e
held-taken t y (h ∷ hs) zero zero e = let same : t ≡ y = cc in inl same
held-taken t y (h ∷ hs) zero (suc i) e = inr e
held-taken t y (h ∷ hs) (suc p) zero e = inr e
held-taken t y (h ∷ hs) (suc p) (suc i) e = held-taken t y hs p i e

-- a context goes on as it did where another one changes
pub doing_in-others : (t y : Ticket) (d : ContextDoing) (cs : List Context) → y.0 ≢ t.0
    → doing_in_contexts (map (with_doing t d) cs) y ≡ doing_in_contexts cs y
doing_in-others t y d [] ne = refl
doing_in-others t y d (c ∷ cs) ne = step (c.ticket.0 == t.0) refl (doing_in-others t y d cs ne)
  where
    step : (b : Bool) → (c.ticket.0 == t.0) ≡ b → doing_in_contexts (map (with_doing t d) cs) y ≡ doing_in_contexts cs y
        → doing_in_contexts ((if b then record c { doing = d } else c) ∷ map (with_doing t d) cs) y ≡ doing_in_contexts (c ∷ cs) y
    step true is rest =
        let no : (c.ticket.0 == y.0) ≡ false = ne_eqb c.ticket.0 y.0 (λ e. ne (sym e ∙ eqb-true c.ticket.0 t.0 is)) in
        cond-false (c.ticket.0 == y.0) (Some d) _ no ∙ rest ∙ sym (cond-false (c.ticket.0 == y.0) (Some c.doing) _ no)
    step false is rest = ap (λ (o : Option ContextDoing). if c.ticket.0 == y.0 then Some c.doing else o) rest

-- a context that has begun and is not over does what it is set to do
pub doing_in-set : (t : Ticket) (d e : ContextDoing) (cs : List Context) → doing_in_contexts cs t ≡ Some e
    → doing_in_contexts (map (with_doing t d) cs) t ≡ Some d
doing_in-set t d e [] found = cc
doing_in-set t d e (c ∷ cs) found = step (c.ticket.0 == t.0) refl found (doing_in-set t d e cs)
  where
    step : (b : Bool) → (c.ticket.0 == t.0) ≡ b → (if b then Some c.doing else doing_in_contexts cs t) ≡ Some e
        → (doing_in_contexts cs t ≡ Some e → doing_in_contexts (map (with_doing t d) cs) t ≡ Some d)
        → doing_in_contexts ((if b then record c { doing = d } else c) ∷ map (with_doing t d) cs) t ≡ Some d
    step true is found rest = cond-true (c.ticket.0 == t.0) (Some d) _ is
    step false is found rest = cond-false (c.ticket.0 == t.0) (Some c.doing) _ is ∙ rest found

-- a context goes on as it did where another one begins
pub doing_in-begun : (c : Context) (y : Ticket) (d : ContextDoing) (cs : List Context) → doing_in_contexts cs y ≡ Some d
    → doing_in_contexts (cs ++ c ∷ []) y ≡ Some d
doing_in-begun c y d [] found = cc
doing_in-begun c y d (x ∷ cs) found = step (x.ticket.0 == y.0) found (doing_in-begun c y d cs)
  where
    step : (b : Bool) → (if b then Some x.doing else doing_in_contexts cs y) ≡ Some d
        → (doing_in_contexts cs y ≡ Some d → doing_in_contexts (cs ++ c ∷ []) y ≡ Some d)
        → (if b then Some x.doing else doing_in_contexts (cs ++ c ∷ []) y) ≡ Some d
    step true found rest = found
    step false found rest = rest found

-- the context that begins, where none had its ticket
pub doing_in-beginner : (c : Context) (cs : List Context) → doing_in_contexts cs c.ticket ≡ None → doing_in_contexts (cs ++ c ∷ []) c.ticket
    ≡ Some c.doing
doing_in-beginner c [] none = cond-true (c.ticket.0 == c.ticket.0) (Some c.doing) None (eq-eqb c.ticket.0 c.ticket.0 refl)
doing_in-beginner c (x ∷ cs) none = step (x.ticket.0 == c.ticket.0) none (doing_in-beginner c cs)
  where
    step : (b : Bool) → (if b then Some x.doing else doing_in_contexts cs c.ticket) ≡ None
        → (doing_in_contexts cs c.ticket ≡ None → doing_in_contexts (cs ++ c ∷ []) c.ticket ≡ Some c.doing)
        → (if b then Some x.doing else doing_in_contexts (cs ++ c ∷ []) c.ticket) ≡ Some c.doing
    step true none rest = cc
    step false none rest = rest none

pub doing_in-beside : (c : Context) (y : Ticket) (cs : List Context) → y.0 ≢ c.ticket.0 → doing_in_contexts (cs ++ c ∷ []) y
    ≡ doing_in_contexts cs y
doing_in-beside c y [] ne = cond-false (c.ticket.0 == y.0) (Some c.doing) None (ne_eqb c.ticket.0 y.0 (λ e. ne (sym e)))
doing_in-beside c y (x ∷ cs) ne = ap (λ (o : Option ContextDoing). if x.ticket.0 == y.0 then Some x.doing else o)
    (doing_in-beside c y cs ne)

-- a context goes on as it did where another one is over
pub doing_in-over : (t y : Ticket) (cs : List Context) → y.0 ≢ t.0
    → doing_in_contexts (filter (λ c. not (c.ticket.0 == t.0)) cs) y ≡ doing_in_contexts cs y
doing_in-over t y [] ne = refl
doing_in-over t y (c ∷ cs) ne = step (c.ticket.0 == t.0) refl (doing_in-over t y cs ne)
  where
    step : (b : Bool) → (c.ticket.0 == t.0) ≡ b
        → doing_in_contexts (filter (λ c. not (c.ticket.0 == t.0)) cs) y ≡ doing_in_contexts cs y
        → doing_in_contexts (if not b then c ∷ filter (λ c. not (c.ticket.0 == t.0)) cs else filter (λ c. not (c.ticket.0 == t.0)) cs) y
        ≡ doing_in_contexts (c ∷ cs) y
    step true is rest =
        rest ∙ sym (cond-false (c.ticket.0 == y.0) (Some c.doing) _ (ne_eqb c.ticket.0 y.0 (λ e. ne (sym e ∙ eqb-true c.ticket.0 t.0 is))))
    step false is rest = ap (λ (o : Option ContextDoing). if c.ticket.0 == y.0 then Some c.doing else o) rest

-- there is no context of a ticket that is over
pub doing_in-gone : (t : Ticket) (cs : List Context) → doing_in_contexts (filter (λ c. not (c.ticket.0 == t.0)) cs) t ≡ None
doing_in-gone t [] = refl
doing_in-gone t (c ∷ cs) = step (c.ticket.0 == t.0) refl (doing_in-gone t cs)
  where
    step : (b : Bool) → (c.ticket.0 == t.0) ≡ b → doing_in_contexts (filter (λ c. not (c.ticket.0 == t.0)) cs) t ≡ None
        → doing_in_contexts (if not b then c ∷ filter (λ c. not (c.ticket.0 == t.0)) cs else filter (λ c. not (c.ticket.0 == t.0)) cs) t
        ≡ None
    step true is rest = rest
    step false is rest = cond-false (c.ticket.0 == t.0) (Some c.doing) _ is ∙ rest
