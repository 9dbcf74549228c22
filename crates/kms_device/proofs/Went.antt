-- Turns of a pass, one after the other.
use Rattle.std.proofs.Common.{◌≡◌, ◌≢◌, ℕ, List, [], ◌∷◌, ◌++◌, append-nil, append_assoc, length-append, cond, refl, sym, ap, ◌∙◌, subst}
use Rattle.std.proofs.Common.{arith, All}
use Rattle.std.specs.Prelude.{◌==◌}
use Rattle.std.proofs.lemmas.Bool.{eq-eqb, ne_eqb}
use Rattle.std.proofs.lemmas.List.Elements.{All-head, All-tail, filter-append}
use Rattle.kms_model.specs.declared.replies.Step.{Step}
use Rattle.kms_model.specs.declared.scripts.Script.{Script}
use Rattle.kms_core.specs.Run.{Run}
use Rattle.kms_device.specs.Attempts.{Went, own_steps}
use Rattle.kms_device.specs.Steps.{owner}
use Rattle.kms_device.specs.Turns.{DevicePass, DeviceTurn}

-- steps of others are none of the client's
pub none_own : (client : ℕ) (xs : List Step) → All (λ x. owner x ≢ client) xs → own_steps client xs ≡ []
none_own client [] h = refl
none_own client (x ∷ xs) h =
    ap (λ b. cond b (x ∷ own_steps client xs) (own_steps client xs)) (ne_eqb (owner x) client (All-head (λ x. owner x ≢ client) x xs h))
    ∙ none_own client xs (All-tail (λ x. owner x ≢ client) x xs h)

-- a step of the client is its own
pub one_own : (client : ℕ) (x : Step) → owner x ≡ client → own_steps client (x ∷ []) ≡ x ∷ []
one_own client x own = ap (λ b. cond b (x ∷ []) []) (eq-eqb (owner x) client own)

own-append : (client : ℕ) (xs ys : List Step) → own_steps client (xs ++ ys) ≡ own_steps client xs ++ own_steps client ys
own-append client xs ys = filter-append (λ step. owner step == client) xs ys

pub went_not : (p : DevicePass) → Went [] p p
went_not p = record {
  lock = refl;
  rank = refl;
  more = [];
  grows = sym (append-nil p.seen);
  own = refl;
  made = omega arith;
  length_read =
      refl;
  counts_read = refl;
}

-- turns after others
pub went_both : (xs ys : List Step) (p q r : DevicePass) → Went xs p q → Went ys q r → Went (xs ++ ys) p r
went_both xs ys p q r w v = record {
  lock = v.lock ∙ w.lock;
  rank = v.rank ∙ w.rank;
  more = w.more ++ v.more;
  grows = v.grows ∙ (ap (λ zs. zs ++ v.more) w.grows ∙ append_assoc p.seen w.more v.more);
  own = own-append p.rank w.more v.more ∙ (ap (λ zs. zs ++ own_steps p.rank v.more) w.own ∙ ap (λ zs. xs ++ zs)
      (ap (λ n. own_steps n v.more) (sym w.rank) ∙ v.own));
  made = let long = length-append xs ys in let a = w.made in let b = v.made in omega arith;
  length_read = v.length_read ∙ w.length_read;
  counts_read = v.counts_read ∙ w.counts_read;
}

-- one turn
pub went_turn : (script : Script) (says : Run → Type 0) (xs : List Step) (p q : DevicePass) → own_steps p.rank xs ≡ xs
    → DeviceTurn script says xs p q → Went xs p q
went_turn script says xs p q own t =
    let rest = t.finds.history.begins.0 in record {
      lock = ap (λ (z : DevicePass). z.lock) t.now;
      rank = ap (λ (z : DevicePass). z.rank) t.now;
      more = rest ++ xs;
      grows = ap (λ (z : DevicePass). z.seen) t.now ∙ (ap (λ zs. zs ++ xs) t.finds.history.begins.1 ∙ append_assoc p.seen rest xs);
      own = own-append p.rank rest xs ∙ (ap (λ zs. zs ++ own_steps p.rank xs) (none_own p.rank rest t.finds.history.begins.2) ∙ own);
      made = ap (λ (z : DevicePass). z.made) t.now;
      length_read = ap (λ (z : DevicePass). z.length_read) t.now;
      counts_read = ap (λ (z : DevicePass). z.counts_read) t.now;
    }

-- turns that added nothing, and then others
pub went_later : (ys : List Step) (p q r : DevicePass) → Went [] p q → Went ys q r → Went ys p r
went_later ys p q r w v = went_both [] ys p q r w v

-- turns, and then some that added nothing
pub went_before : (xs : List Step) (p q r : DevicePass) → Went xs p q → Went [] q r → Went xs p r
went_before xs p q r w v = subst (λ zs. Went zs p r) (append-nil xs) (went_both xs [] p q r w v)
