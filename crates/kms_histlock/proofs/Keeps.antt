-- Each step keeps the rule of the table.
use Rattle.std.proofs.Common.{◌≡◌, ◌≢◌, ℕ, zero, suc, ◌+◌, ◌-◌, ◌%◌, ◌^◌, ◌≤◌, ◌<◌, eqb, eq-eqb, List, [], ◌∷◌, ◌++◌, length, get_or, set}
use Rattle.std.proofs.Common.{sym, ap, ◌∙◌, subst, refl, ⊎_elim, inl, arith, Option, Some, None, length-set, length-append}
use Rattle.std.specs.List.{sum_by, All}
use Rattle.std.proofs.lemmas.List.Elements.{All-nil}
use mathlib.Core.Logic.{dite}
use native.Mathlib.Decide.{ℕ_discrete}
use mathlib.Core.Option.{some, none, some-ne-none, some-injective}
use mathlib.Core.Option as maybe
use lib.ListN.{get_elem?}
use lib.Seq.{set-get_or}
use prog.Atomic.{either}
use Rattle.atomic_table.specs.Table.{State, step, Act, keeps, takes, gives, Valid, homes_after, carried_after, Allows, Splits, Joins}
use Rattle.atomic_table.specs.Table.{opening, Final, Seen}
use Rattle.atomic_table.proofs.Lists.{at_snoc, set_else}
use Rattle.kms_histlock.specs.declared.view.View.{View}
use Rattle.kms_histlock.specs.declared.view.ServedTurn.{ServedTurn}
use Rattle.kms_histlock.specs.declared.view.Stage.{Stage}
use Rattle.kms_histlock.specs.declared.view.Stage.TheVariants.{Idle, Waits, Serves}
use Rattle.kms_histlock.specs.Rules.{turns_drawn, number, serving, due, having, At, AtMost, Fits, IsAtHome, Ranks, GoesOnFrom, IsStart}
use Rattle.kms_histlock.specs.Rules.{Sights, IsUpheld}
use Rattle.kms_histlock.specs.Steps.{Sat, opened, standing, waiting, kept_back, split_off, merged, spent, lengthened, recounted, drew}
use Rattle.kms_histlock.specs.Steps.{looked, passed, stored_length, stored_count, read_length, read_count}
use Rattle.kms_histlock.specs.Seats.{Lengthens, HasAllSeen}
use Rattle.std.proofs.lemmas.List.Sums.{sum_by_push}
use Rattle.kms_model.proofs.SumLemmas.{sum_put, sum_two}
use Rattle.kms_model.proofs.Facts.{only_item}
use Rattle.kms_histlock.proofs.Lists.{put, put_else, sum_only, each_put, one_at}
use Rattle.kms_histlock.proofs.Numbering.{mirrors_put, mirrors_snoc, mirrors_more, numbers_stay, numbers_drawn, numbers_passed, is_first}
use Rattle.kms_histlock.proofs.Holding.{untagged, serving_drawn, held_stays, at_home, held_taken, held_given, held_refit, one_serves}
use Rattle.kms_histlock.proofs.Holding.{parts_put, not_spent, parts_split, parts_join, leads_put, is_lead, leads_split, leads_join}
use Rattle.kms_histlock.proofs.Seeing.{at_most_set, at_most_raised, words_put, words_join, ranks_put, ranks_longer, ranks_split, ranks_join}
use Rattle.kms_histlock.proofs.Seeing.{sights_same, sights_longer, sights_recounted, sights_split, sights_join, knows_put, knows_split}
use Rattle.kms_histlock.proofs.Seeing.{knows_join}

module _ {E : Type 0} where
  abbrev turn_of : ServedTurn E → Stage E → ServedTurn E
  turn_of d Idle = d
  turn_of d (Waits n) = d
  turn_of d (Serves q) = q

module _ {E X : Type 0} where
  same_stage : (vs : List (View E X)) (me : ℕ) (v w : View E X) → At vs me v → turns_drawn w.stage ≡ turns_drawn v.stage
      → having (set vs me w) ≡ having vs
  same_stage vs me v w at same = let p = sum_put (λ z. turns_drawn z.stage) vs me v w at in omega arith

  only_first : (first : View E X) (j : ℕ) (v : View E X) → At (first ∷ []) j v → (j ≡ 0) × (first ≡ v)
  only_first first zero v e = (refl, some-injective first v e)
  only_first first (suc j) v e = absurd (some-ne-none v (sym e))

  made_put : (vs : List (View E X)) (me : ℕ) (v w : View E X) (n : ℕ) → At vs me v → w.made ≡ v.made → sum_by (λ z. z.made) vs ≡ n
      → sum_by (λ z. z.made) (set vs me w) ≡ n
  made_put vs me v w n at same all = let p = sum_put (λ z. z.made) vs me v w at in omega arith

abbrev four_zeros : List ℕ
four_zeros = 0 ∷ 0 ∷ 0 ∷ 0 ∷ []

-- whether a stage has the turn, as a test
not_serving : {E : Type 0} (st : Stage E) (q : ServedTurn E) → serving st ≡ 0 → st ≡ Serves q → ⊥
not_serving st q h e = let g = ap serving e in omega arith

module _ {T E X : Type 0} (owner : E → ℕ) (entries : T → List E) (counted : ℕ → List E → ℕ) (fixed : T → X)
    (grows : (k : ℕ) (xs ys : List E) → counted k xs ≤ counted k (xs ++ ys)) (seats : ℕ) (its : X) where
  abbrev Rule : State (Option T) (View E X) → Type 0
  Rule = IsUpheld owner entries counted fixed seats its

  -- what a step owes, at these words and homes
  abbrev Owes : List (View E X) → ℕ → Sat T E X → ℕ → (ℕ → ℕ) → (ℕ → Sat T E X → Type 0) → List ℕ → List (maybe.Option (Option T)) → Type 0
  Owes views id me i f then ws hs =
      (w : View E X) × (a : Act (Option T)) × Valid hs me.1 a
      × Rule record { words = set ws i (f (get_or ws i 0)); homes = homes_after hs me.1 a; views = set views id w }
      × then (get_or ws i 0) (w, carried_after me.1 a)

  owed : (views : List (View E X)) (id : ℕ) (me : Sat T E X) (i : ℕ) (f : ℕ → ℕ) (then : ℕ → Sat T E X → Type 0) (ws us : List ℕ)
      (hs gs : List (maybe.Option (Option T)))
      → ws ≡ us → hs ≡ gs → Owes views id me i f then us gs → Owes views id me i f then ws hs
  owed views id me i f then ws us hs gs e d o = subst (λ z. Owes views id me i f then z hs) (sym e)
      (subst (Owes views id me i f then us) (sym d) o)

  pub draws : (slots id : ℕ) (me : Sat T E X) → me.0.stage ≡ Idle → 0 < me.0.parts
      → Allows Rule slots id me 0 (λ n. (n + 1) % 2 ^ 64) (drew (step slots 0 1 0 none) me)
  draws slots id me idle live s r deep at fits =
      let w : View E X = waiting me.0 r.tickets in
      let bare : serving me.0.stage ≡ 0 = ap serving idle in
      let dues : due me.0.stage ≡ 4 = ap due idle in
      owed s.views id me 0 (λ n. (n + 1) % 2 ^ 64) (drew (step slots 0 1 0 none) me) s.words _ s.homes _ r.words_are r.homes_are (
        w,
        keeps,
        tt,
        record {
          tickets = (r.tickets + 1) % 2 ^ 64;
          served = r.served;
          log = r.log;
          counts = r.counts;
          slot = r.slot;
          place = put r.place id (having s.views);
          words_are = refl;
          homes_are = refl;
          few = let l = length-set s.views id w in let f = r.few in omega arith;
          numbers = numbers_drawn r.tickets r.served s.views r.place id me.0 w at idle refl r.numbers;
          value = held_stays (IsAtHome entries counted fixed its r.log r.counts) r.slot s.views (set s.views id w) r.place
              (put r.place id (having s.views)) (mirrors_put serving untagged s.views id me.0 w at (sym bare) refl)
              (each_put (λ j u. serving u.stage ≡ 1 → put r.place id (having s.views) j ≡ r.place j) s.views id w
              (λ h. absurd (omega arith)) (λ j d ne _ _. put_else r.place id (having s.views) j ne)) r.value;
          knows = knows_put its s.views id me.0 w at refl refl r.knows;
          parts = parts_put seats s.views id me.0 w at refl (λ z. absurd (omega arith)) r.parts;
          leads = leads_put s.views id me.0 w at refl r.leads;
          words = words_put r.log r.counts s.views id w (λ q e. absurd (not_serving w.stage q refl e)) (r.words.read id me.0 at) r.words;
          ranks = ranks_put owner r.log s.views id me.0 w at refl refl r.ranks;
          sights = sights_same owner counted r.log r.counts s.views id me.0 w at refl refl refl refl (omega arith) r.sights;
          made = made_put s.views id me.0 w (length r.log) at refl r.made;
        },
        refl,
      )

  -- a step that changes no word and leaves the slot, where the seat stands and what it has seen, and may only read
  stays : (s : State (Option T) (View E X)) (r : Rule s) (id : ℕ) (v w : View E X) → At s.views id v → w.fixed ≡ v.fixed → w.stage ≡ v.stage
      → w.parts ≡ v.parts → w.top ≡ v.top → w.rank ≡ v.rank → w.seen ≡ v.seen → w.joined ≡ v.joined
      → w.made ≡ v.made → (w.length ≤ length r.log) × AtMost w.counts r.counts
      → Rule record { words = r.tickets ∷ r.served ∷ length r.log ∷ r.counts; homes = r.slot ∷ []; views = set s.views id w }
  stays s r id v w at same_fixed stage parts top rank seen joined made read = let same_due = ap due stage in record {
    tickets = r.tickets;
    served = r.served;
    log = r.log;
    counts = r.counts;
    slot = r.slot;
    place = r.place;
    words_are = refl;
    homes_are = refl;
    few = let l = length-set s.views id w in let f = r.few in omega arith;
    numbers = numbers_stay r.tickets r.served s.views (set s.views id w) r.place
        (mirrors_put turns_drawn number s.views id v w at (ap turns_drawn stage) (ap number stage))
        (same_stage s.views id v w at (ap turns_drawn stage)) r.numbers;
    value = held_stays (IsAtHome entries counted fixed its r.log r.counts) r.slot s.views (set s.views id w) r.place r.place
        (mirrors_put serving untagged s.views id v w at (ap serving stage) refl) (λ _ _ _ _. refl) r.value;
    knows = knows_put its s.views id v w at parts same_fixed r.knows;
    parts = parts_put seats s.views id v w at parts (λ z. let b = r.parts.spent id v at (sym parts ∙ z) in (stage ∙ b.0, made ∙ b.1))
        r.parts;
    leads = leads_put s.views id v w at top r.leads;
    words = words_put r.log r.counts s.views id w (λ q e. r.words.turn id v at q (sym stage ∙ e)) read r.words;
    ranks = ranks_put owner r.log s.views id v w at rank parts r.ranks;
    sights = sights_same owner counted r.log r.counts s.views id v w at parts rank seen joined (omega arith) r.sights;
    made = made_put s.views id v w (length r.log) at made r.made;
  }

  pub looks : (slots id : ℕ) (me : Sat T E X) (x : ℕ) → me.0.stage ≡ Waits x
      → Allows Rule slots id me 1 (λ n. n) (looked owner entries counted fixed (step slots 1 0 0 none) me)
  looks slots id me x waits s r deep at fits =
      owed s.views id me 1 (λ n. n) (looked owner entries counted fixed (step slots 1 0 0 none) me) s.words _ s.homes _ r.words_are
      r.homes_are
      (dite (ℕ_discrete r.served x)
      (λ is.
      let fit : T → Type 0 = IsAtHome entries counted fixed its r.log r.counts in
      let one : turns_drawn me.0.stage ≡ 1 = ap turns_drawn waits in
      let dues : due me.0.stage ≡ 4 = ap due waits in
      let small : r.served < 2 ^ 64 = subst (λ ws. get_or ws 1 0 < 2 ^ 64) r.words_are fits in
      let first : r.place id ≡ 0 = is_first r.tickets r.served s.views r.place id me.0 r.few small r.numbers at one
      (ap number waits ∙ sym is) in
      let found = at_home fit r.tickets r.served r.slot s.views r.place id me.0 at one (ap serving waits) first r.numbers r.value in
      let live : me.0.parts ≢ 0 = not_spent seats s.views id me.0 at one r.parts in
      let q : ServedTurn E = record { number = x; log = r.log; counts = r.counts; stored = 4 } in
      let w : View E X = standing me.0 (Serves q) in (
        w,
        takes 0 (Some found.0),
        ap some found.1,
        record {
          tickets = r.tickets;
          served = r.served;
          log = r.log;
          counts = r.counts;
          slot = none;
          place = r.place;
          words_are = refl;
          homes_are = refl;
          few = let l = length-set s.views id w in let f = r.few in omega arith;
          numbers = numbers_stay r.tickets r.served s.views (set s.views id w) r.place
              (mirrors_put turns_drawn number s.views id me.0 w at (sym one) (sym (ap number waits)))
              (same_stage s.views id me.0 w at (sym one)) r.numbers;
          value = held_taken fit r.slot s.views r.place id me.0 w found.0 at found.1 refl first r.value;
          knows = knows_put its s.views id me.0 w at refl refl r.knows;
          parts = parts_put seats s.views id me.0 w at refl (λ z. absurd (live z)) r.parts;
          leads = leads_put s.views id me.0 w at refl r.leads;
          words = words_put r.log r.counts s.views id w
              (λ p e. let same : q ≡ p = ap (turn_of q) e in (ap (λ z. z.log) (sym same), ap (λ z. z.counts) (sym same)))
              (r.words.read id me.0 at) r.words;
          ranks = ranks_put owner r.log s.views id me.0 w at refl refl r.ranks;
          sights = sights_same owner counted r.log r.counts s.views id me.0 w at refl refl refl refl (omega arith) r.sights;
          made = made_put s.views id me.0 w (length r.log) at refl r.made;
        },
        (λ y here. let same : x ≡ y = ap number (sym waits ∙ here) in (
          (λ _. record {
            value = found.0;
            turn = q;
            same_number = same;
            now = refl;
            found = record {
              fits = found.2.0;
              same = r.knows id me.0 at (omega arith) ∙ ap (λ x. x ∷ []) (sym found.2.1);
              four =
                  r.words.four;
              stored = refl;
              begins = r.sights.begins id me.0 at (omega arith);
              length_read = (r.words.read id me.0 at).0;
              counts_read = (r.words.read id me.0 at).1;
            };
          }),
          λ ne. absurd (ne (is ∙ same)),
        )),
      ))
      (λ ne. (
        me.0,
        keeps,
        tt,
        stays s r id me.0 me.0 at refl refl refl refl refl refl refl refl (r.words.read id me.0 at),
        (λ y here. let same : x ≡ y = ap number (sym waits ∙ here) in ((λ e. absurd (ne (e ∙ sym same))), λ _. refl)),
      )))

  -- what the served seat has after its store is what the rule has
  pub stores_length : (slots id : ℕ) (v : View E X) (cs : List (ℕ × Option T)) (q : ServedTurn E) (t : T) (old new : ℕ) → v.stage ≡ Serves q
      → Lengthens owner v.rank q.log (entries t) → old ≡ length q.log → new ≡ length (entries t)
      → Allows Rule slots id (v, cs) 2 (λ n. either (eqb n old) new n)
      (stored_length entries (step slots 2 old new (some (Some t))) (v, cs))
  stores_length slots id v cs q t old new serves longer old_is new_is s r deep at fits =
      let me : Sat T E X = (v, cs) in
      let f : ℕ → ℕ = λ n. either (eqb n old) new n in
      let w : View E X = lengthened (entries t) v q in
      let one : serving v.stage ≡ 1 = ap serving serves in
      let live : v.parts ≢ 0 = not_spent seats s.views id v at (serving_drawn v.stage one) r.parts in
      let alive : 0 < v.parts = omega arith in
      let known = r.words.turn id v at q serves in
      let more : List E = longer.0 in
      let grown : entries t ≡ r.log ++ more = longer.1 ∙ ap (λ l. l ++ more) known.0 in
      let long : length r.log ≤ length (entries t) = let a = ap length grown in let b = length-append r.log more in omega arith in
      let hit : f (length r.log) ≡ length (entries t) = ap (λ b. either b new (length r.log))
      (eq-eqb (length r.log) old (sym (old_is ∙ ap length known.0))) ∙ new_is in
      let others : (j : ℕ) (d : View E X) → j ≢ id → At s.views j d → (p : ServedTurn E) → d.stage ≡ Serves p
      → ⊥ = λ j d ne e p h. ne (one_serves (IsAtHome entries counted fixed its r.log r.counts) r.tickets r.served r.slot s.views r.place
      j id d v e at (ap serving h) one r.numbers r.value) in
      owed s.views id me 2 f (stored_length entries (step slots 2 old new (some (Some t))) me) s.words _ s.homes _ r.words_are r.homes_are (
        w,
        keeps,
        tt,
        record {
          tickets = r.tickets;
          served = r.served;
          log = entries t;
          counts = r.counts;
          slot = r.slot;
          place = r.place;
          words_are = ap (λ n. r.tickets ∷ r.served ∷ n ∷ r.counts) hit;
          homes_are = refl;
          few = let l = length-set s.views id w in let f = r.few in omega arith;
          numbers = numbers_stay r.tickets r.served s.views (set s.views id w) r.place
              (mirrors_put turns_drawn number s.views id v w at (sym (ap turns_drawn serves)) (sym (ap number serves)))
              (same_stage s.views id v w at (sym (ap turns_drawn serves))) r.numbers;
          value = held_refit (IsAtHome entries counted fixed its r.log r.counts) (IsAtHome entries counted fixed its (entries t) r.counts)
              r.slot s.views r.place id v w at one refl r.value;
          knows = knows_put its s.views id v w at refl refl r.knows;
          parts = parts_put seats s.views id v w at refl (λ z. absurd (live z)) r.parts;
          leads = leads_put s.views id v w at refl r.leads;
          words = record {
            four = r.words.four;
            turn = each_put (λ j u. (p : ServedTurn E) → u.stage ≡ Serves p → (p.log ≡ entries t) × (p.counts ≡ r.counts)) s.views id w
                (λ p e. let same = ap (turn_of q) e in (ap (λ z. z.log) (sym same), ap (λ z. z.counts) (sym same) ∙ known.1))
                (λ j d ne e p h. absurd (others j d ne e p h));
            read = each_put (λ j u. (u.length ≤ length (entries t)) × AtMost u.counts r.counts) s.views id w
                (let g = (r.words.read id v at).0 in omega arith, (r.words.read id v at).1)
                (λ j d _ e. let g = (r.words.read j d e).0 in (omega arith, (r.words.read j d e).1));
          };
          ranks = ranks_put owner (entries t) s.views id v w at refl refl
              (subst (λ l. Ranks owner l s.views) (sym grown)
              (ranks_longer owner counted r.log more s.views id v at alive longer.2 r.ranks));
          sights = subst (λ l. Sights owner counted l r.counts (set s.views id w)) (sym grown)
              (sights_longer owner counted r.log more r.counts s.views id v w at alive longer.2 grown refl refl r.ranks r.sights);
          made = let p = sum_put (λ z. z.made) s.views id v w at in let m = r.made in let k = ap length known.0 in omega arith;
        },
        (λ p u e said. let same : q ≡ p = ap (turn_of q) (sym serves ∙ e) in let is : t ≡ u = some_of t u said in
            λ i. (lengthened (entries (is i)) v (same i), cs)),
      )
    where
      value_or : T → maybe.Option (Option T) → T
      value_or d none = d
      value_or d (some None) = d
      value_or d (some (Some x)) = x

      some_of : (x y : T) → some (Some x) ≡ some (Some y) → x ≡ y
      some_of x y e = ap (value_or x) e

  pub stores_count : (slots id : ℕ) (v : View E X) (cs : List (ℕ × Option T)) (q : ServedTurn E) (k n i : ℕ) → v.stage ≡ Serves q → i ≡ k
      + 3 → k < 4 → q.stored ≡ k → v.seen ≡ q.log → n ≡ counted k q.log → get_or q.counts k 0 ≤ n
      → Allows Rule slots id (v, cs) i (λ _. n) (λ _. stored_count (step slots i n 0 none) (v, cs) n)
  stores_count slots id v cs q k n i serves word small stored seen is up s r deep at fits =
      let me : Sat T E X = (v, cs) in
      let w : View E X = recounted k n v q in
      let one : serving v.stage ≡ 1 = ap serving serves in
      let live : v.parts ≢ 0 = not_spent seats s.views id v at (serving_drawn v.stage one) r.parts in
      let known = r.words.turn id v at q serves in
      let four = r.words.four in
      let inside : k < length r.counts = omega arith in
      let grew : get_or r.counts k 0 ≤ n = subst (λ c. get_or c k 0 ≤ n) known.1 up in
      let at_word : set (r.tickets ∷ r.served ∷ length r.log ∷ r.counts) i n ≡ r.tickets ∷ r.served ∷ length r.log ∷ set r.counts k n
      = let e : i ≡ suc (suc (suc k)) = omega arith in ap (λ j. set (r.tickets ∷ r.served ∷ length r.log ∷ r.counts) j n) e in
      let others : (j : ℕ) (d : View E X) → j ≢ id → At s.views j d → (p : ServedTurn E) → d.stage ≡ Serves p
      → ⊥ = λ j d ne e p h. ne (one_serves (IsAtHome entries counted fixed its r.log r.counts) r.tickets r.served r.slot s.views r.place
      j id d v e at (ap serving h) one r.numbers r.value) in
      owed s.views id me i (λ _. n) (λ _. stored_count (step slots i n 0 none) me n) s.words _ s.homes _ r.words_are r.homes_are (
        w,
        keeps,
        tt,
        record {
          tickets = r.tickets;
          served = r.served;
          log = r.log;
          counts = set r.counts k n;
          slot = r.slot;
          place = r.place;
          words_are = at_word;
          homes_are = refl;
          few = let l = length-set s.views id w in let f = r.few in omega arith;
          numbers = numbers_stay r.tickets r.served s.views (set s.views id w) r.place
              (mirrors_put turns_drawn number s.views id v w at (sym (ap turns_drawn serves)) (sym (ap number serves)))
              (same_stage s.views id v w at (sym (ap turns_drawn serves))) r.numbers;
          value = held_refit (IsAtHome entries counted fixed its r.log r.counts)
              (IsAtHome entries counted fixed its r.log (set r.counts k n)) r.slot s.views r.place id v w at one refl r.value;
          knows = knows_put its s.views id v w at refl refl r.knows;
          parts = parts_put seats s.views id v w at refl (λ z. absurd (live z)) r.parts;
          leads = leads_put s.views id v w at refl r.leads;
          words = record {
            four = length-set r.counts k n ∙ r.words.four;
            turn = each_put (λ j u. (p : ServedTurn E) → u.stage ≡ Serves p → (p.log ≡ r.log) × (p.counts ≡ set r.counts k n)) s.views id w
                (λ p e. let same = ap (turn_of q) e in (
                  ap (λ z. z.log) (sym same) ∙ known.0,
                  ap (λ z. z.counts) (sym same) ∙ ap (λ c. set c k n) known.1,
                )) (λ j d ne e p h. absurd (others j d ne e p h));
            read = each_put (λ j u. (u.length ≤ length r.log) × AtMost u.counts (set r.counts k n)) s.views id w
                ((r.words.read id v at).0, at_most_raised v.counts r.counts k n inside (r.words.read id v at).1 grew)
                (λ j d _ e. ((r.words.read j d e).0, at_most_raised d.counts r.counts k n inside (r.words.read j d e).1 grew));
          };
          ranks = ranks_put owner r.log s.views id v w at refl refl r.ranks;
          sights = sights_recounted owner counted r.log r.counts s.views id k n v w at inside grew refl refl refl refl
              (ap due serves ∙ stored) refl (ap (counted k) seen ∙ sym is) r.sights;
          made = made_put s.views id v w (length r.log) at refl r.made;
        },
        (λ p j e there. let same : q ≡ p = ap (turn_of q) (sym serves ∙ e) in let place : k ≡ j = omega arith
            in λ h. (recounted (place h) n v (same h), cs)),
      )

  pub passes : (slots id : ℕ) (v : View E X) (q : ServedTurn E) (x : T) → v.stage ≡ Serves q → q.stored ≡ 4
      → Fits entries counted q.log q.counts x → v.fixed ≡ fixed x ∷ []
      → Allows Rule slots id (v, (0, Some x) ∷ []) 1 (λ n. (n + 1) % 2 ^ 64) (passed (step slots 1 1 0 none) (v, (0, Some x) ∷ []))
  passes slots id v q x serves stored fit same s r deep at fits =
      let me : Sat T E X = (v, (0, Some x) ∷ []) in
      let w : View E X = standing v Idle in
      let one : serving v.stage ≡ 1 = ap serving serves in
      let dues : due v.stage ≡ 4 = ap due serves ∙ stored in
      let gone : v.parts ≢ 0 = not_spent seats s.views id v at (serving_drawn v.stage one) r.parts in
      let alive : 0 < v.parts = omega arith in
      let known = r.words.turn id v at q serves in
      let first : r.place id ≡ 0 = (r.value.out id v at one).0 in
      owed s.views id me 1 (λ n. (n + 1) % 2 ^ 64) (passed (step slots 1 1 0 none) me) s.words _ s.homes _ r.words_are r.homes_are (
        w,
        gives,
        tt,
        record {
          tickets = r.tickets;
          served = (r.served + 1) % 2 ^ 64;
          log = r.log;
          counts = r.counts;
          slot = some (Some x);
          place = λ j. r.place j - 1;
          words_are = refl;
          homes_are = refl;
          few = let l = length-set s.views id w in let f = r.few in omega arith;
          numbers = numbers_passed r.tickets r.served s.views r.place id v w at (serving_drawn v.stage one) refl first r.numbers;
          value = held_given (IsAtHome entries counted fixed its r.log r.counts) r.tickets r.served r.slot s.views r.place id v w x at one
              refl (
                subst (λ (z : List E × List ℕ). Fits entries counted z.0 z.1 x) (λ i. (known.0 i, known.1 i)) fit,
                only_item (sym same ∙ r.knows id v at alive),
              ) r.numbers r.value;
          knows = knows_put its s.views id v w at refl refl r.knows;
          parts = parts_put seats s.views id v w at refl
              (λ z. absurd (not_spent seats s.views id v at (serving_drawn v.stage one) r.parts z)) r.parts;
          leads = leads_put s.views id v w at refl r.leads;
          words = words_put r.log r.counts s.views id w (λ p e. absurd (not_serving w.stage p refl e)) (r.words.read id v at) r.words;
          ranks = ranks_put owner r.log s.views id v w at refl refl r.ranks;
          sights = sights_same owner counted r.log r.counts s.views id v w at refl refl refl refl (omega arith) r.sights;
          made = made_put s.views id v w (length r.log) at refl r.made;
        },
        refl,
      )

  pub reads_length : (slots id : ℕ) (me : Sat T E X) → Allows Rule slots id me 2 (λ n. n) (read_length (step slots 2 0 0 none) me)
  reads_length slots id me s r deep at fits =
      let w : View E X = record me.0 { length = length r.log } in
      owed s.views id me 2 (λ n. n) (read_length (step slots 2 0 0 none) me) s.words _ s.homes _ r.words_are r.homes_are (
        w,
        keeps,
        tt,
        stays s r id me.0 w at refl refl refl refl refl refl refl refl (omega arith, (r.words.read id me.0 at).1),
        (
          refl,
          (λ live. let b = r.sights.begins id me.0 at live in let a = ap length b.1 in let c = length-append me.0.seen b.0
              in omega arith),
          (r.words.read id me.0 at).0,
        ),
      )

  pub reads_count : (slots id : ℕ) (me : Sat T E X) (k i : ℕ) → k < 4 → i ≡ k + 3
      → Allows Rule slots id me i (λ n. n) (read_count counted (step slots i 0 0 none) me)
  reads_count slots id me k i small word s r deep at fits =
      let n : ℕ = get_or r.counts k 0 in
      let w : View E X = record me.0 { counts = set me.0.counts k n } in
      let us : List ℕ = r.tickets ∷ r.served ∷ length r.log ∷ r.counts in
      let e : i ≡ suc (suc (suc k)) = omega arith in
      let found : get_or us i 0 ≡ n = ap (λ j. get_or us j 0) e in
      let same : set us i (get_or us i 0) ≡ us = ap (λ j. set us j (get_or us j 0)) e ∙ ap (λ c. r.tickets ∷ r.served ∷ length r.log ∷ c)
      (set-get_or r.counts k 0) in
      let small_read = r.words.read id me.0 at in
      owed s.views id me i (λ n. n) (read_count counted (step slots i 0 0 none) me) s.words _ s.homes _ r.words_are r.homes_are (
        w,
        keeps,
        tt,
        subst (λ ws. Rule record { words = ws; homes = r.slot ∷ []; views = set s.views id w }) (sym same)
            (stays s r id me.0 w at refl refl refl refl refl refl refl refl
            (small_read.0, at_most_set me.0.counts r.counts k n small_read.1 (omega arith))),
        (λ j there. let place : k ≡ j = omega arith in let after : Sat T E X = (w, me.1)
            in subst (λ (z : ℕ × ℕ). (after ≡ (record me.0 { counts = set me.0.counts z.0 z.1 }, me.1))
            × (0 < me.0.parts → z.0 < due me.0.stage → counted z.0 me.0.seen ≤ z.1) × (get_or me.0.counts z.0 0 ≤ z.1))
            (λ h. (place h, sym found h))
            (refl, (λ live owing. r.sights.counted_in id me.0 at live k small owing), small_read.1 k small)),
      )

  pub splits : (id : ℕ) (v : View E X) → v.stage ≡ Idle → 1 < v.parts → 0 < v.top → v.top < 64
      → Splits Rule id v (kept_back v) (split_off v)
  splits id v idle more first room s r at =
      let us : List (View E X) = set s.views id (kept_back v) in
      let zs : List (View E X) = us ++ split_off v ∷ [] in
      let top = (is_lead s.views id v at first r.leads).1 in
      let live : 0 < v.parts = omega arith in
      let w1 = words_put r.log r.counts s.views id (kept_back v) (λ q e. absurd (not_serving v.stage q (ap serving idle) e))
      (r.words.read id v at) r.words in
      record {
        tickets = r.tickets;
        served = r.served;
        log = r.log;
        counts = r.counts;
        slot = r.slot;
        place = r.place;
        words_are = r.words_are;
        homes_are = r.homes_are;
        few = let a = length-append us (split_off v ∷ []) in let b = length-set s.views id (kept_back v) in omega arith;
        numbers = numbers_stay r.tickets r.served s.views zs r.place
            (mirrors_more turns_drawn number s.views us zs (mirrors_put turns_drawn number s.views id v (kept_back v) at refl refl)
            (mirrors_snoc turns_drawn number us (split_off v) refl))
            (let p = sum_by_push (λ z. turns_drawn z.stage) us (split_off v) in let q = same_stage s.views id v (kept_back v) at refl
            in omega arith) r.numbers;
        value = held_stays (IsAtHome entries counted fixed its r.log r.counts) r.slot s.views zs r.place r.place
            (mirrors_more serving untagged s.views us zs (mirrors_put serving untagged s.views id v (kept_back v) at refl refl)
            (mirrors_snoc serving untagged us (split_off v) refl))
            (λ _ _ _ _. refl) r.value;
        knows = knows_split its s.views id v at live r.knows;
        parts = parts_split seats s.views id v at more r.parts;
        leads = leads_split s.views id v at first r.leads;
        words = record {
          four = w1.four;
          turn = λ j u e q h. ⊎_elim (λ old. w1.turn j u old q h)
              (λ is. absurd (not_serving (split_off v).stage q refl (ap (λ z. z.stage) is ∙ h))) (at_snoc us (split_off v) u j e);
          read = λ j u e. ⊎_elim (λ old. w1.read j u old)
              (λ is. subst (λ z. (z.length ≤ length r.log) × AtMost z.counts r.counts) is (r.words.read id v at))
              (at_snoc us (split_off v) u j e);
        };
        ranks = ranks_split owner r.log s.views id v at live top r.ranks;
        sights = sights_split owner counted r.log r.counts s.views id v at live idle top r.ranks r.sights;
        made = let p = sum_by_push (λ z. z.made) us (split_off v)
            in let q = made_put s.views id v (kept_back v) (length r.log) at refl r.made in omega arith;
      }

  pub joins : (id : ℕ) (v : View E X) (other : ℕ) (w : View E X) → 0 < v.top → w.stage ≡ Idle → 0 < v.parts → 0 < w.parts
      → Joins Rule id v other w (merged v w) spent
  joins id v other w first rests live there_too s r at apart there' =
      let us : List (View E X) = set s.views id (merged v w) in
      let there : At s.views other w = sym (set_else s.views id other (merged v w) apart) ∙ there' in
      let zs : List (View E X) = set us other spent in
      record {
        tickets = r.tickets;
        served = r.served;
        log = r.log;
        counts = r.counts;
        slot = r.slot;
        place = r.place;
        words_are = r.words_are;
        homes_are = r.homes_are;
        few = let a = length-set us other spent in let b = length-set s.views id (merged v w) in let f = r.few in omega arith;
        numbers = numbers_stay r.tickets r.served s.views zs r.place
            (mirrors_more turns_drawn number s.views us zs (mirrors_put turns_drawn number s.views id v (merged v w) at refl refl)
            (mirrors_put turns_drawn number us other w spent there' (sym (ap turns_drawn rests)) (sym (ap number rests))))
            (same_stage us other w spent there' (sym (ap turns_drawn rests)) ∙ same_stage s.views id v (merged v w) at refl) r.numbers;
        value = held_stays (IsAtHome entries counted fixed its r.log r.counts) r.slot s.views zs r.place r.place
            (mirrors_more serving untagged s.views us zs (mirrors_put serving untagged s.views id v (merged v w) at refl refl)
            (mirrors_put serving untagged us other w spent there' (sym (ap serving rests)) refl))
            (λ _ _ _ _. refl) r.value;
        knows = knows_join its s.views id other v w at live r.knows;
        parts = parts_join seats s.views id other v w at apart there live r.parts;
        leads = leads_join s.views id other v w at first apart r.leads;
        words = words_join r.log r.counts s.views id other v w at there r.words;
        ranks = ranks_join owner r.log s.views id other v w at live r.ranks;
        sights = sights_join owner counted r.log r.counts s.views id other v w at live there there_too r.sights;
        made = let p = sum_put (λ z. z.made) s.views id v (merged v w) at in let q = sum_put (λ z. z.made) us other w spent there'
            in let m = r.made in omega arith;
      }

  pub starts : (t : T) → fixed t ≡ its → entries t ≡ [] → ((k : ℕ) → k < 4 → counted k [] ≡ 0)
      → Rule (opening (0 ∷ 0 ∷ 0 ∷ 0 ∷ 0 ∷ 0 ∷ 0 ∷ []) (Some t ∷ []) (opened seats its))
  starts t same empty none_yet = let me : View E X = opened seats its in record {
    tickets = 0;
    served = 0;
    log = [];
    counts = 0 ∷ 0 ∷ 0 ∷ 0 ∷ [];
    slot = some (Some t);
    place = λ _. 0;
    words_are = refl;
    homes_are = refl;
    few = omega arith;
    numbers = record {
      next = refl;
      within = λ j v e h. let o = ap (λ z. turns_drawn z.stage) (only_first me j v e).1 in absurd (omega arith);
      counted = λ j v e h. let o = ap (λ z. turns_drawn z.stage) (only_first me j v e).1 in absurd (omega arith);
      apart = λ i j v w e d h g _. (only_first me i v e).0 ∙ sym (only_first me j w d).0;
      filled = λ k l. absurd (omega arith);
    };
    value = record {
      out = λ j v e h. let o = ap (λ z. serving z.stage) (only_first me j v e).1 in absurd (omega arith);
      home = inl (t, refl, ((empty, λ k l. zeros k ∙ sym (none_yet k l)), same));
    };
    knows = λ j v e h. subst (λ z. z.fixed ≡ its ∷ []) (only_first me j v e).1 refl;
    parts = record {
      all = omega arith;
      spent = λ j v e z. (sym (ap (λ u. u.stage) (only_first me j v e).1), sym (ap (λ u. u.made) (only_first me j v e).1));
    };
    leads = record {
      first = 0;
      its = me;
      there = refl;
      top_is = refl;
      alone = λ j v e _. (only_first me j v e).0;
    };
    words = record {
      four = refl;
      turn = λ j v e q h. absurd (not_serving me.stage q refl (ap (λ z. z.stage) (only_first me j v e).1 ∙ h));
      read = λ j v e. subst (λ z. (z.length ≤ 0) × AtMost z.counts (0 ∷ 0 ∷ 0 ∷ 0 ∷ [])) (only_first me j v e).1
          (omega arith, λ k l. omega arith);
    };
    ranks = record {
      within = λ j v e h. let o = ap (λ z. z.rank) (only_first me j v e).1 in (omega arith, omega arith);
      differ = λ i j v w e d _ _ _. (only_first me i v e).0 ∙ sym (only_first me j w d).0;
      owners = All-nil (λ e. owner e ≤ 1);
    };
    sights = record {
      begins = λ j v e h. subst (λ z. GoesOnFrom owner z.rank z.seen []) (only_first me j v e).1 ([], refl, All-nil (λ e. owner e ≢ 1));
      counted_in = λ j v e h. subst (λ z. (k : ℕ) → k < 4 → k < due z.stage → counted k z.seen ≤ get_or four_zeros k 0)
          (only_first me j v e).1 (λ k l _. let a = none_yet k l in omega arith);
      joined = λ j v e. subst (λ z. All (λ xs. IsStart xs []) z.joined) (only_first me j v e).1 (All-nil (λ xs. IsStart xs []));
    };
    made = refl;
  }
    where
      zeros : (k : ℕ) → get_or four_zeros k 0 ≡ 0
      zeros zero = refl
      zeros (suc zero) = refl
      zeros (suc (suc zero)) = refl
      zeros (suc (suc (suc zero))) = refl
      zeros (suc (suc (suc (suc k)))) = refl

  -- the seat that stands for all seats finds the value at home when the table is closed, with all that was made
  pub closes : (id : ℕ) (v : View E X) (ws : List ℕ) (xs : List (Option T)) → v.parts ≡ seats → 0 < seats → v.stage ≡ Idle
      → Final (Seen Rule id v) ws xs
      → (t : T) × (get_elem? xs 0 ≡ some (Some t)) × (length (entries t) ≡ v.made) × HasAllSeen counted v (entries t) × (fixed t ≡ its)
  closes id v ws xs all some_seats idle f =
      let s = f.0 in let r = f.1.0 in let at = f.1.1 in
      let bare : (j : ℕ) (u : View E X) → j ≢ id → At s.views j u → (u.stage ≡ Idle) × (u.made ≡ 0) = λ j u ne e.
      let two = sum_two (λ z. z.parts) s.views j id u v ne e at in let sum = r.parts.all in r.parts.spent j u e (omega arith) in
      let others : (j : ℕ) (u : View E X) → At s.views j u → serving u.stage ≡ 1 → ⊥ = λ j u e h. dite (ℕ_discrete j id)
      (λ is. let z = ap (λ z. serving z.stage) (one_at s.views id v u at (subst (λ i. At s.views i u) is e)) in let y = ap serving idle
      in omega arith)
      (λ ne. let y = ap serving (bare j u ne e).0 in omega arith) in
      let made : length r.log ≡ v.made = sym r.made ∙ sum_only (λ z. z.made) s.views id v at (λ j u ne e. (bare j u ne e).1) in
      let dues : due v.stage ≡ 4 = ap due idle in
      let b = r.sights.begins id v at (omega arith) in
      let read = r.words.read id v at in
      ⊎_elim (λ (x : (t : T) × (r.slot ≡ some (Some t)) × IsAtHome entries counted fixed its r.log r.counts t).
      let log : r.log ≡ entries x.0 = sym x.2.0.0 in (
        x.0,
        f.4 0 (Some x.0) (subst (λ hs. get_elem? hs 0 ≡ some (some (Some x.0))) (sym r.homes_are) (ap some x.1)),
        ap length (sym log) ∙ made,
        subst (HasAllSeen counted v) log record {
          seen = (b.0, b.1);
          joined = r.sights.joined id v at;
          length_read = read.0;
          counts_read = λ k l. let a = read.1 k l in let c = x.2.0.1 k l in omega arith;
        },
        x.2.1,
      ))
      (λ (x : (j : ℕ) × (u : View E X) × At s.views j u × (serving u.stage ≡ 1)). absurd (others x.0 x.1 x.2 x.3)) r.value.home
