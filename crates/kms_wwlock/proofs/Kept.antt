-- What holds of the contexts of every table is kept.
use Rattle.std.proofs.Common.{◌≡◌, ℕ, ◌+◌, ◌≤◌, ◌≢◌, ◌==◌, Bool, true, false, List, [], ◌∷◌, ◌++◌, length, map, take, drop, Some, None}
use Rattle.std.proofs.Common.{refl, sym, ap, ◌∙◌, subst, arith}
use Rattle.std.proofs.lemmas.Bool.{cond-false, ne_eqb}
use Rattle.std.proofs.Math.Seq.{take-append_seam}
use Rattle.std.proofs.lemmas.List.Elements.{All-nil, All-cons, All-head, All-tail, All-push, All-weaker, All-filter}
use Rattle.std.specs.Prelude.{All, filter, if◌then◌else◌}
use Rattle.kms_model.specs.declared.objects.Ticket.{Ticket}
use Rattle.kms_wwlock.specs.declared.contexts.Context.{Context}
use Rattle.kms_wwlock.specs.declared.contexts.ContextDoing.{ContextDoing}
use Rattle.kms_wwlock.specs.declared.contexts.ContextDoing.TheVariants.{Taking}
use Rattle.kms_wwlock.specs.Table.{doing_in_contexts, IsOfLockable, NamesLockable, IsBelow, AreOfTable}
use Rattle.kms_wwlock.specs.Calls.{with_doing}

-- what a context is doing names a lockable object, if it names one
pub named : (t : Ticket) (d : ContextDoing) (cs : List Context) → All NamesLockable cs → doing_in_contexts cs t ≡ Some d → IsOfLockable d
named t d [] all is = cc
named t d (c ∷ cs) all is = step (c.ticket.0 == t.0) is (named t d cs (All-tail NamesLockable c cs all))
  where
    step : (b : Bool) → (if b then Some c.doing else doing_in_contexts cs t) ≡ Some d → (doing_in_contexts cs t ≡ Some d → IsOfLockable d)
        → IsOfLockable d
    step true is rest = let same : c.doing ≡ d = cc in subst IsOfLockable same (All-head NamesLockable c cs all)
    step false is rest = rest is

-- a fact of each context lasts where one context does something else
pub each_set : (P : Context → Type 0) (t : Ticket) (d : ContextDoing) (cs : List Context)
    → ((c : Context) → P c → P (record c { doing = d })) → All P cs → All P (map (with_doing t d) cs)
each_set P t d [] keeps all = All-nil P
each_set P t d (c ∷ cs) keeps all =
    All-cons P (with_doing t d c) (map (with_doing t d) cs) (step (c.ticket.0 == t.0)) (each_set P t d cs keeps (All-tail P c cs all))
  where
    step : (b : Bool) → P (if b then record c { doing = d } else c)
    step true = keeps c (All-head P c cs all)
    step false = All-head P c cs all

pub set_kept : (t : Ticket) (d : ContextDoing) (cs : List Context) (drawn : ℕ) → IsOfLockable d → AreOfTable cs drawn
    → AreOfTable (map (with_doing t d) cs) drawn
set_kept t d cs drawn now kept =
    record {
      lockable = each_set NamesLockable t d cs (λ c h. now) kept.lockable;
      below = each_set (IsBelow drawn) t d cs (λ c h. h) kept.below;
    }

-- a list that was written from its front to its end
pub front_is : (cs news : List Context) (n : ℕ) → n ≡ length news → take n (news ++ drop (length news) cs) ≡ news
front_is cs news n long = ap (λ (k : ℕ). take k (news ++ drop (length news) cs)) long ∙ take-append_seam news (drop (length news) cs)

-- the same for such a list
pub front_kept : (t : Ticket) (d : ContextDoing) (cs news : List Context) (n drawn : ℕ) → IsOfLockable d → AreOfTable cs drawn
    → news ≡ map (with_doing t d) cs → n ≡ length news → AreOfTable (take n (news ++ drop (length news) cs)) drawn
front_kept t d cs news n drawn now kept is long =
    subst (λ xs. AreOfTable xs drawn) (sym is ∙ sym (front_is cs news n long)) (set_kept t d cs drawn now kept)

-- some of the contexts
pub others_kept : (test : Context → Bool) (cs : List Context) (drawn : ℕ) → AreOfTable cs drawn → AreOfTable (filter test cs) drawn
others_kept test cs drawn kept =
    record { lockable = All-filter test NamesLockable cs kept.lockable; below = All-filter test (IsBelow drawn) cs kept.below }

-- a context that begins with the next ticket
pub begun_kept : (cs : List Context) (c : Context) (drawn : ℕ) → c.doing ≡ Taking → c.ticket.0 ≡ drawn → AreOfTable cs drawn
    → AreOfTable (cs ++ c ∷ []) (drawn + 1)
begun_kept cs c drawn taking next kept =
    record {
      lockable = All-push NamesLockable cs c kept.lockable (subst IsOfLockable (sym taking) tt);
      below = All-push (IsBelow (drawn + 1)) cs c (All-weaker (IsBelow drawn) (IsBelow (drawn + 1)) (λ x h. omega arith) cs kept.below)
          (omega arith);
    }

-- a ticket that was not drawn is of no context
pub none_at : (t : Ticket) (cs : List Context) (drawn : ℕ) → All (IsBelow drawn) cs → drawn ≤ t.0 → doing_in_contexts cs t ≡ None
none_at t [] drawn all le = refl
none_at t (c ∷ cs) drawn all le =
    let below = All-head (IsBelow drawn) c cs all in
    let ne : c.ticket.0 ≢ t.0 = omega arith in
    cond-false (c.ticket.0 == t.0) (Some c.doing) (doing_in_contexts cs t) (ne_eqb c.ticket.0 t.0 ne) ∙ none_at t cs drawn
    (All-tail (IsBelow drawn) c cs all) le
