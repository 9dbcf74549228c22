-- The passes of a device, and those that come back from its players.
use Rattle.std.proofs.Common.{◌≡◌, ℕ, zero, suc, ◌+◌, ◌≤◌, Bool, true, ◌==◌, ◌||◌, List, [], ◌∷◌}
use Rattle.std.proofs.Common.{◌++◌, length, map, refl, sym, ap, subst, ◌∙◌, arith}
use Rattle.std.specs.Prelude.{All, Any, IsPermutation, false, nat_le, if◌then◌else◌}
use Rattle.std.specs.List.{list_any}
use Rattle.std.proofs.lemmas.Bool.{eqb-true}
use Rattle.std.proofs.lemmas.List.{append-nil, append_assoc, length-append, length-map}
use Rattle.std.proofs.lemmas.List.Elements.{All-append, All-cons, All-head, All-nil, All-tail}
use Rattle.std.proofs.lemmas.List.Folds.{Any-from_list_any, list_any-append}
use Rattle.std.proofs.lemmas.List.Sorted.{All-permutation, length_permutation, list_any-IsPermutation}
use Rattle.kms_histlock.specs.Passes.{LockName, new_pass, new_passes}
use Rattle.kms_model.specs.declared.scripts.Script.{Script}
use Rattle.kms_device.specs.Turns.{DevicePass, SharedDevice}
use Rattle.kms_players.specs.AnyPlayers.{pass_of}
use Rattle.kms_players.specs.Players.{PlayerName, name_of_pass}
use Rattle.kms_run.specs.Running.{AreAllPasses, IsSeat, client_player, player_of, seats_for, tick_of, worker_of}

-- each of the first passes of a device is one of a player
pub new_seats : (d : SharedDevice) (n : ℕ) → n ≤ seats_for d.script → All (IsSeat d) (new_passes d.lock n)
new_seats d zero l = All-nil (IsSeat d)
new_seats d (suc n) l =
    All-append (IsSeat d) (new_passes d.lock n) (new_pass d.lock (n + 1) ∷ []) (new_seats d n (omega (arith, l)))
    (All-cons (IsSeat d) (new_pass d.lock (n + 1)) []
    (record { own = refl; low = omega arith; high = omega (arith, l) }) (All-nil (IsSeat d)))

module _ (lock : LockName Script) where
  abbrev passes : ℕ → List DevicePass
  passes n = new_passes lock n

  abbrev IsOfLock : PlayerName → Type 0
  IsOfLock name = name.lock ≡ lock

  abbrev is_first : PlayerName → Bool
  is_first name = name.rank == 1

  names_own : (n : ℕ) → All IsOfLock (map name_of_pass (passes n))
  names_own n = mapped (passes n) (own n) where
    mapped : (ps : List DevicePass) → All (λ p. p.lock ≡ lock) ps → All IsOfLock (map name_of_pass ps)
    mapped [] h = All-nil IsOfLock
    mapped (p ∷ ps) h =
        All-cons IsOfLock (name_of_pass p) (map name_of_pass ps) (All-head (λ p. p.lock ≡ lock) p ps h)
        (mapped ps (All-tail (λ p. p.lock ≡ lock) p ps h))

    own : (n : ℕ) → All (λ p. p.lock ≡ lock) (passes n)
    own zero = All-nil (λ p. p.lock ≡ lock)
    own (suc n) =
        All-append (λ p. p.lock ≡ lock) (passes n) (new_pass lock (n + 1) ∷ []) (own n)
        (All-cons (λ p. p.lock ≡ lock) (new_pass lock (n + 1)) [] refl (All-nil (λ p. p.lock ≡ lock)))

  count : (n : ℕ) → length (passes n) ≡ n
  count zero = refl
  count (suc n) = let more = length-append (passes n) (new_pass lock (n + 1) ∷ []) in let before = count n in omega (arith, more, before)

  -- a test of names, and of the passes that have them
  any_named : (ps : List DevicePass) → list_any is_first (map name_of_pass ps) ≡ list_any (λ p. p.rank == 1) ps
  any_named [] = refl
  any_named (p ∷ ps) = ap (λ b. (p.rank == 1) || b) (any_named ps)

  has_first : (n : ℕ) → list_any (λ p. p.rank == 1) (passes (suc n)) ≡ true
  has_first zero = refl
  has_first (suc n) =
      let last : List DevicePass = new_pass lock (suc n + 1) ∷ [] in
      list_any-append (λ p. p.rank == 1) (passes (suc n)) last ∙ ap (λ b. b || list_any (λ p. p.rank == 1) last) (has_first n)

-- The players of passes

-- what was made of one more item
pub one_made : {A B : Type 0} (f : B → A) (done after : List A) (x : A) (y : B) (left rest : List B) (all : List A)
    → done ++ map f left ≡ all → left ≡ y ∷ rest → x ≡ f y → after ≡ done ++ x ∷ [] → after ++ map f rest ≡ all
one_made f done after x y left rest all was next same pushed =
    ap (λ xs. xs ++ map f rest) pushed ∙ (append_assoc done (x ∷ []) (map f rest)
    ∙ (ap (λ z. done ++ z ∷ map f rest) same ∙ (sym (ap (λ ys. done ++ map f ys) next) ∙ was)))

-- where none is left, all is made
pub all_made : {A B : Type 0} (f : B → A) (done result : List A) (left : List B) (size : ℕ) (all : List A)
    → done ++ map f left ≡ all → size ≡ 0 → size ≡ length left → result ≡ done → result ≡ all
all_made f done result [] size all was none long same = same ∙ (sym (append-nil done) ∙ was)
all_made f done result (y ∷ left) size all was none long same = absurd (omega (arith, none, long))

module _ (G : Type 0) (d : SharedDevice) where
  -- whoever plays with a pass has its name
  player_name : (p : DevicePass) → name_of_pass (pass_of (player_of {G = G} d p)) ≡ name_of_pass p
  player_name p = by (nat_le p.rank (length d.script.clients)) (nat_le p.rank (length d.script.clients + 4)) where
    by : (a b : Bool)
        → name_of_pass (pass_of (if a then client_player {G = G} d p else (if b then worker_of d p else tick_of d p))) ≡ name_of_pass p
    by true b = refl
    by false true = refl
    by false false = refl

  pub player_names : (ps : List DevicePass) → map (λ p. name_of_pass (pass_of p)) (map (player_of {G = G} d) ps) ≡ map name_of_pass ps
  player_names [] = refl
  player_names (p ∷ ps) = ap (λ n. n ∷ map (λ p. name_of_pass (pass_of p)) (map (player_of {G = G} d) ps)) (player_name p)
      ∙ ap (λ ns. name_of_pass p ∷ ns) (player_names ps)

-- an item that is done, and its like that is left no more, have one name
done_next : {A B C : Type 0} (f : A → C) (g : B → C) (done : List A) (x : A) (y : B) (rest : List B)
    → f x ≡ g y → map f (done ++ x ∷ []) ++ map g rest ≡ map f done ++ (g y ∷ map g rest)
done_next f g [] x y rest e = ap (λ c. c ∷ map g rest) e
done_next f g (a ∷ done) x y rest e = ap (λ cs. f a ∷ cs) (done_next f g done x y rest e)

-- where none is left, all names are those of what is done
pub all_done : {A B C : Type 0} (f : A → C) (g : B → C) (done all : List A) (left : List B) (size : ℕ) (names : List C)
    → map f done ++ map g left ≡ names → size ≡ 0 → size ≡ length left → all ≡ done → map f all ≡ names
all_done f g done all [] size names was none long same = ap (map f) same ∙ (sym (append-nil (map f done)) ∙ was)
all_done f g done all (y ∷ left) size names was none long same = absurd (omega (arith, none, long))

-- what comes back of the players of all passes
pub all_back : (d : SharedDevice) (n : ℕ) (given back : List DevicePass) (names names' : List PlayerName)
    → d.seats ≡ n → given ≡ new_passes d.lock n → names ≡ map name_of_pass given → IsPermutation names names'
    → map name_of_pass back ≡ names' → AreAllPasses d back
all_back d n given back names names' seats new named moved named' =
    let all : names ≡ map name_of_pass (new_passes d.lock d.seats) = named ∙ ap (map name_of_pass) (new ∙ ap (passes d.lock) (sym seats)) in
    subst (λ ns. IsPermutation ns (map name_of_pass back)) all (subst (IsPermutation names) (sym named') moved)

-- All passes are of the device's lock,
pub all_own : (d : SharedDevice) (back : List DevicePass) → AreAllPasses d back → All (λ p. p.lock ≡ d.lock) back
all_own d back all = named back
    (All-permutation (IsOfLock d.lock) (map name_of_pass (new_passes d.lock d.seats)) (map name_of_pass back) all
    (names_own d.lock d.seats)) where
      named : (ps : List DevicePass) → All (IsOfLock d.lock) (map name_of_pass ps) → All (λ p. p.lock ≡ d.lock) ps
      named [] h = All-nil (λ p. p.lock ≡ d.lock)
      named (p ∷ ps) h =
          All-cons (λ p. p.lock ≡ d.lock) p ps (All-head (IsOfLock d.lock) (name_of_pass p) (map name_of_pass ps) h)
          (named ps (All-tail (IsOfLock d.lock) (name_of_pass p) (map name_of_pass ps) h))

-- they are as many as it has seats,
pub all_count : (d : SharedDevice) (back : List DevicePass) → AreAllPasses d back → length back ≡ d.seats
all_count d back all =
    sym (length-map back name_of_pass) ∙ (length_permutation (map name_of_pass (new_passes d.lock d.seats)) (map name_of_pass back) all
    ∙ (length-map (new_passes d.lock d.seats) name_of_pass ∙ count d.lock d.seats))

-- and one has the rank 1.
pub all_first : (d : SharedDevice) (back : List DevicePass) → 1 ≤ d.seats → AreAllPasses d back → Any (λ p. p.rank ≡ 1) back
all_first d back some all = of_test (Any-from_list_any (λ p. p.rank == 1) back (there d.seats refl some)) where
  there : (n : ℕ) → d.seats ≡ n → 1 ≤ n → list_any (λ p. p.rank == 1) back ≡ true
  there zero e l = absurd (omega (arith, l))
  there (suc n) e l =
      sym (any_named d.lock back)
      ∙ (sym (list_any-IsPermutation (is_first d.lock) (map name_of_pass (new_passes d.lock d.seats)) (map name_of_pass back) all)
      ∙ (any_named d.lock (passes d.lock d.seats) ∙ (ap (λ k. list_any (λ p. p.rank == 1) (passes d.lock k)) e ∙ has_first d.lock n)))

  of_test : Any (λ p. (p.rank == 1) ≡ true) back → Any (λ p. p.rank ≡ 1) back
  of_test (k, x, within, at, is) = (k, x, within, at, eqb-true x.rank 1 is)
