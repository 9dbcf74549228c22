-- The planes and connectors that a request affects, as masks of states tell them.
use Rattle.std.proofs.Common.{◌≡◌, ◌∙◌, ℕ, zero, suc, ◌+◌, ◌<◌, ◌≤◌, Bool, true, false, List, [], ◌∷◌, ◌++◌, map, Option, Some, None, inl}
use Rattle.std.proofs.Common.{inr, refl, sym, ap, arith, add-one}
use Rattle.std.specs.Prelude.{◌&&◌, ◌||◌, ◌==◌, nat_lt, bit_or, slice_get, is_some, if◌then◌else◌}
use Rattle.std.specs.Int.Bits.{or_zero_r}
use Rattle.std.specs.List.{list_any, range_with_len}
use Rattle.std.proofs.lemmas.Bool.{and_left, and_right, or_parts, or_from, cases_Bool, cases_lt, lt-ltb, le-ltb, false≢true}
use Rattle.std.proofs.lemmas.List.Folds.{list_any-append}
use Rattle.std.proofs.lemmas.List.FromFn.{map-range_with_len_more}
use Rattle.kms_model.specs.Device.Places.{state_at}
use Rattle.kms_model.specs.declared.objects.Kind.{Kind}
use Rattle.kms_model.specs.declared.objects.Kind.TheVariants as kind
use Rattle.kms_model.specs.declared.objects.Topology.{Topology}
use Rattle.kms_model.specs.declared.scripts.Request.{Request}
use Rattle.kms_model.specs.declared.states.Both.{Both}
use Rattle.kms_model.specs.declared.states.CrtcState.{CrtcState}
use Rattle.kms_model.specs.declared.states.Duplicates.{Duplicates}
use Rattle.kms_model.specs.declared.states.Mask.{Mask}
use Rattle.kms_model.specs.declared.worlds.World.{World}
use Rattle.kms_model.specs.Request.Agreement.{on_crtc, crtc_state_at}
use Rattle.kms_model.specs.Request.Apply.{object_of}
use Rattle.kms_model.specs.Request.Late.{duplicate_in, needs_modeset_between}
use Rattle.kms_model.specs.Device.Masks.{has_bit, mask_below}
use Rattle.kms_model.specs.Request.Named.{is_named_by, names, moves_on, needs_modeset}
use Rattle.kms_model.specs.Device.Objects.{object_id, count_of, ids_of}
use Rattle.kms_model.specs.Device.States.{crtc_at}
use Rattle.kms_model.specs.Request.Touched.{named_by, sets, is_affected, touched_by, touches_crtc, touches_routed, set_where}
use Rattle.kms_model.proofs.Items as items
use Rattle.kms_model.proofs.LateLemmas.{StandAt, flatten-some, needs_modeset-states}
use Rattle.kms_model.proofs.MaskLemmas.{has_bit-mask_below, same_masks}
use Rattle.kms_model.proofs.TouchedLemmas.{IsRequestAt, after, few_objects, untouched-modeset}
use Rattle.kms_model.specs.Request.Groups.{no_objects, union, set_group, named_group, affected_group}
use Rattle.kms_request.specs.Groups.{affected_with, affected_below}
use Rattle.kms_request.proofs.GroupLemmas.{or_masks, none_yet}

-- one of the first n passes
abbrev any_below : (ℕ → Bool) → ℕ → Bool
any_below p zero = false
any_below p (suc n) = any_below p n || p n

any_below-fewer : (p : ℕ → Bool) (m n : ℕ) → m ≤ n → ((i : ℕ) → m ≤ i → i < n → p i ≡ false) → any_below p n ≡ any_below p m
any_below-fewer p m zero order out = let e : m ≡ 0 = omega arith in rw e refl
any_below-fewer p m (suc n) order out = elim (cases_lt n m) [
  | inl last ↦ (let e : m ≡ suc n = omega arith in rw e refl)
  | inr further ↦ rw (out n further (omega arith))
      (or_false (any_below p n) ∙ any_below-fewer p m n further (λ i low high. out i low (omega arith)))
]
  where
    or_false : (b : Bool) → (b || false) ≡ b
    or_false true = refl
    or_false false = refl

any_below-ids : (g : ℕ → Bool) (f : ℕ → ℕ) (n : ℕ) → any_below (λ c. g (f c)) n ≡ list_any g (map f (range_with_len 0 n))
any_below-ids g f zero = refl
any_below-ids g f (suc n) =
    let more : map f (range_with_len 0 (n + 1)) ≡ map f (range_with_len 0 n) ++ f n ∷ [] = map-range_with_len_more f 0 n n (omega arith) in
    ap (λ b. b || g (f n)) (any_below-ids g f n) ∙ ap (λ b. list_any g (map f (range_with_len 0 n)) || b) (sym (or_false (g (f n)))) ∙ sym
    (list_any-append g (map f (range_with_len 0 n)) (f n ∷ [])) ∙ ap (list_any g) (sym more) ∙ ap
    (λ k. list_any g (map f (range_with_len 0 k))) (add-one n)
  where
    or_false : (b : Bool) → (b || false) ≡ b
    or_false true = refl
    or_false false = refl

any_below-same : (p q : ℕ → Bool) (n : ℕ) → ((i : ℕ) → i < n → p i ≡ q i) → any_below p n ≡ any_below q n
any_below-same p q zero same = refl
any_below-same p q (suc n) same = rw (same n (omega arith), any_below-same p q n (λ i h. same i (omega arith))) refl

-- one of the CRTCs of a device, of at most four, passes
any_crtc : (t : Topology) (g : ℕ → Bool) → t.crtcs ≤ 4 → any_below (λ c. nat_lt c t.crtcs && g (object_id kind.Crtc c)) 4
    ≡ list_any g (ids_of t kind.Crtc)
any_crtc t g few =
    any_below-fewer (λ c. nat_lt c t.crtcs && g (object_id kind.Crtc c)) t.crtcs 4 few
    (λ i low high. and_left (nat_lt i t.crtcs) (g (object_id kind.Crtc i)) (le-ltb i t.crtcs low))
    ∙ any_below-same _ _ t.crtcs (λ i h. ap (λ b. b && g (object_id kind.Crtc i)) (lt-ltb i t.crtcs h))
    ∙ any_below-ids g (object_id kind.Crtc) t.crtcs

-- one kind of objects of what is affected
affected-part : (part : Mask → ℕ) → part no_objects ≡ 0 → ((a b : Mask) → part (union a b) ≡ bit_or (part a) (part b))
    → (crtcs : List (Option (Both CrtcState))) (named n m : ℕ) (tests : ℕ → ℕ → Bool)
    → ((c : ℕ) → c < n → part (affected_with (duplicate_in named crtcs c)) ≡ mask_below (tests c) m) → part (affected_below crtcs named n)
    ≡ mask_below (λ i. any_below (λ c. tests c i) n) m
unfolding affected_below
affected-part part none both crtcs named zero m tests each = none ∙ none_yet m
affected-part part none both crtcs named (suc n) m tests each =
    both (affected_below crtcs named n) (affected_with (duplicate_in named crtcs n))
    ∙ ap (λ x. bit_or x (part (affected_with (duplicate_in named crtcs n))))
    (affected-part part none both crtcs named n m tests (λ c h. each c (omega arith)))
    ∙ ap (bit_or (mask_below (λ i. any_below (λ c. tests c i) n) m)) (each n (omega arith))
    ∙ or_masks (λ i. any_below (λ c. tests c i) n) (tests n) m

-- A CRTC that is not named is not set

pub unnamed-unset : (w : World) (r : Request) (crtc : ℕ) → names w.values (after w r) r.assigns crtc ≡ false → sets r.assigns crtc ≡ false
unnamed-unset w r crtc unnamed = items.list_any-none (λ a. object_of a == crtc) r.assigns
    (λ a is. (or_parts (object_of a == crtc) _ (items.list_any-at (is_named_by w.values (after w r) crtc) r.assigns a unnamed is)).0)

pub unnamed-unneeded : {t : Topology} {w : World} {r : Request} (crtc : ℕ) → IsRequestAt t w r → names w.values (after w r) r.assigns crtc
    ≡ false → needs_modeset t w.things w.values (after w r) crtc ≡ false
unnamed-unneeded {t} {w} {r} crtc at unnamed = untouched-modeset t w r crtc at
    (or_from (sets r.assigns crtc) _ (unnamed-unset w r crtc unnamed) unnamed)

-- what a request affects of a kind of objects by one CRTC
abbrev affects : Topology → World → Request → Kind → ℕ → ℕ → Bool
affects t w r k c i = nat_lt c t.crtcs && (needs_modeset t w.things w.values (after w r) (object_id kind.Crtc c)
    && moves_on w.values (after w r) (object_id kind.Crtc c) (object_id k i))

pub named_bit : (t : Topology) (w : World) (r : Request) (c : ℕ) → has_bit (named_by t w r) c
    ≡ (nat_lt c t.crtcs && names w.values (after w r) r.assigns (object_id kind.Crtc c))
named_bit t w r c = has_bit-mask_below (λ i. names w.values (after w r) r.assigns (object_id kind.Crtc i)) t.crtcs c

-- the part of a CRTC's states that has a kind of objects
pub record IsPart (t : Topology) (k : Kind) (part : Mask → ℕ) (routed : CrtcState → ℕ) : Type 0 where
  pub none : part no_objects ≡ 0
  pub both : (a b : Mask) → part (union a b) ≡ bit_or (part a) (part b)
  pub of_states : (s : Both CrtcState) → part (record
      { crtcs = 0; planes = bit_or s.old.planes s.new.planes; conns = bit_or s.old.conns s.new.conns })
      ≡ bit_or (routed s.old) (routed s.new)
  pub of_values : (things : _) (values : _) (crtc : ℕ) → routed (crtc_state_at t things values crtc) ≡ on_crtc t values crtc k

part-of_crtc : {t : Topology} {w : World} {r : Request} {d : Duplicates} {k : Kind} {part : Mask → ℕ} {routed : CrtcState → ℕ} (c : ℕ)
    → StandAt t w r d → IsPart t k part routed
    → ((i : ℕ) → i < t.crtcs → names w.values (after w r) r.assigns (object_id kind.Crtc i) ≡ true → is_some (state_at d.crtcs i) ≡ true)
    → part (affected_with (duplicate_in (named_by t w r) d.crtcs c)) ≡ mask_below (affects t w r k c) (count_of t k)
part-of_crtc {t} {w} {r} {d} {k} {part} {routed} c stand is there = go (has_bit named c) refl (state_at d.crtcs c) refl
  where
    named : ℕ
    named = named_by t w r

    crtc : ℕ
    crtc = object_id kind.Crtc c

    empty : ((i : ℕ) → i < count_of t k → affects t w r k c i ≡ false) → 0 ≡ mask_below (affects t w r k c) (count_of t k)
    empty out = none_yet (count_of t k) ∙ same_masks _ _ (count_of t k) (λ i h. sym (out i h))

    outside : has_bit (named_by t w r) c ≡ false → (i : ℕ) → affects t w r k c i ≡ false
    outside out i = elim (cases_lt c t.crtcs) [
      | inl within ↦ (let unnamed : names w.values (after w r) r.assigns (object_id kind.Crtc c)
          ≡ false = ap (λ b. b && names w.values (after w r) r.assigns (object_id kind.Crtc c)) (sym (lt-ltb c t.crtcs within)) ∙ sym
          (named_bit t w r c) ∙ out in
          and_right (nat_lt c t.crtcs) _ (and_left (needs_modeset t w.things w.values (after w r) (object_id kind.Crtc c)) _
          (unnamed-unneeded (object_id kind.Crtc c) stand.at unnamed)))
      | inr beyond ↦ and_left (nat_lt c t.crtcs) _ (le-ltb c t.crtcs beyond)
    ]

    inside : (s : Both CrtcState) → c < t.crtcs → s.old ≡ crtc_state_at t w.things w.values (object_id kind.Crtc c) → s.new
        ≡ crtc_state_at t w.things (after w r) (object_id kind.Crtc c)
        → (needs : Bool) → needs_modeset_between s ≡ needs
        → part (if needs then record { crtcs = 0; planes = bit_or s.old.planes s.new.planes; conns = bit_or s.old.conns s.new.conns }
        else no_objects) ≡ mask_below (affects t w r k c) (count_of t k)
    inside s within old new false unneeded = is.none ∙ empty
        (λ i h. and_right (nat_lt c t.crtcs) _ (and_left (needs_modeset t w.things w.values (after w r) (object_id kind.Crtc c)) _
        (sym (needs_modeset-states t w r c s stand.at within old new) ∙ unneeded)))
    inside s within old new true needed =
        let need : needs_modeset t w.things w.values (after w r) (object_id kind.Crtc c)
        ≡ true = sym (needs_modeset-states t w r c s stand.at within old new) ∙ needed in
        is.of_states s ∙ ap (λ x. bit_or (routed x) (routed s.new)) old ∙ ap
        (λ x. bit_or (routed (crtc_state_at t w.things w.values (object_id kind.Crtc c))) (routed x)) new
        ∙ ap (λ x. bit_or x (routed (crtc_state_at t w.things (after w r) (object_id kind.Crtc c))))
        (is.of_values w.things w.values (object_id kind.Crtc c))
        ∙ ap (bit_or (on_crtc t w.values (object_id kind.Crtc c) k)) (is.of_values w.things (after w r) (object_id kind.Crtc c))
        ∙ or_masks (λ i. crtc_at w.values (object_id k i) == object_id kind.Crtc c)
        (λ i. crtc_at (after w r) (object_id k i) == object_id kind.Crtc c) (count_of t k)
        ∙ same_masks _ _ (count_of t k) (λ i h. sym (rw (lt-ltb c t.crtcs within, need) refl))

    go : (b : Bool) → has_bit (named_by t w r) c ≡ b → (o : Option (Both CrtcState)) → state_at d.crtcs c ≡ o
        → part (affected_with (if b then o else None)) ≡ mask_below (affects t w r k c) (count_of t k)
    go false out o at = is.none ∙ empty (λ i h. outside out i)
    go true member o at =
        let both = Rattle.std.proofs.lemmas.Bool.and_parts (nat_lt c t.crtcs) (names w.values (after w r) r.assigns (object_id kind.Crtc c))
        (sym (named_bit t w r c) ∙ member) in
        let within : c < t.crtcs = Rattle.std.proofs.lemmas.Bool.ltb-true c t.crtcs both.0 in
        present o at within both.1
      where
        present : (o : Option (Both CrtcState)) → state_at d.crtcs c ≡ o → c < t.crtcs
            → names w.values (after w r) r.assigns (object_id kind.Crtc c) ≡ true → part (affected_with o)
            ≡ mask_below (affects t w r k c) (count_of t k)
        present None at within named_there = absurd (false≢true (ap is_some (sym at) ∙ there c within named_there))
        present (Some s) at within named_there =
            let here = flatten-some (slice_get d.crtcs c) s at in
            inside s within (stand.old.crtcs c s here) (stand.new.crtcs c s here) (needs_modeset_between s) refl

planes_part : (t : Topology) → IsPart t kind.Plane (λ m. m.planes) (λ s. s.planes)
planes_part t = record { none = refl; both = λ a b. refl; of_states = λ s. refl; of_values = λ things values crtc. refl }

conns_part : (t : Topology) → IsPart t kind.Conn (λ m. m.conns) (λ s. s.conns)
conns_part t = record { none = refl; both = λ a b. refl; of_states = λ s. refl; of_values = λ things values crtc. refl }

crtcs-none : (crtcs : List (Option (Both CrtcState))) (named n : ℕ) → (affected_below crtcs named n).crtcs ≡ 0
unfolding affected_below
crtcs-none crtcs named zero = refl
crtcs-none crtcs named (suc n) = ap (λ x. bit_or x (affected_with (duplicate_in named crtcs n)).crtcs) (crtcs-none crtcs named n) ∙ ap
    (bit_or 0) (one (duplicate_in named crtcs n)) ∙ or_zero_r 0
  where
    one : (o : Option (Both CrtcState)) → (affected_with o).crtcs ≡ 0
    one None = refl
    one (Some s) = elim (cases_Bool (needs_modeset_between s)) [ inl is ↦ rw is refl | inr other ↦ rw other refl ]

affected-kind : {t : Topology} {w : World} {r : Request} {d : Duplicates} {k : Kind} {part : Mask → ℕ} {routed : CrtcState → ℕ}
    → StandAt t w r d → IsPart t k part routed
    → ((i : ℕ) → i < t.crtcs → names w.values (after w r) r.assigns (object_id kind.Crtc i) ≡ true → is_some (state_at d.crtcs i) ≡ true)
    → part (affected_below d.crtcs (named_by t w r) 4) ≡ set_where t k (is_affected t w.things w.values (after w r))
affected-kind {t} {w} {r} {d} {k} {part} {routed} stand is there =
    affected-part part is.none is.both d.crtcs (named_by t w r) 4 (count_of t k) (affects t w r k)
    (λ c h. part-of_crtc c stand is there)
    ∙ same_masks _ _ (count_of t k) (λ i h. any_crtc t
    (λ crtc. needs_modeset t w.things w.values (after w r) crtc && moves_on w.values (after w r) crtc (object_id k i))
    (few_objects t stand.at.device).crtcs)

-- What the states of named CRTCs tell is what the request affects.
pub affected-is : (t : Topology) (w : World) (r : Request) (d : Duplicates) → StandAt t w r d
    → ((i : ℕ) → i < t.crtcs → names w.values (after w r) r.assigns (object_id kind.Crtc i) ≡ true → is_some (state_at d.crtcs i) ≡ true)
    → affected_below d.crtcs (named_by t w r) 4 ≡ affected_group t w r
affected-is t w r d stand there =
    mask_is _ _ (crtcs-none d.crtcs (named_by t w r) 4)
    (affected-kind stand (planes_part t) there)
    (affected-kind stand (conns_part t) there)
  where
    mask_is : (a b : Mask) → a.crtcs ≡ b.crtcs → a.planes ≡ b.planes → a.conns ≡ b.conns → a ≡ b
    mask_is a b crtcs planes conns = λ i. record { crtcs = crtcs i; planes = planes i; conns = conns i }

-- The three groups together are what the request touches.
pub touched-is : (t : Topology) (w : World) (r : Request) → union (union (set_group t r) (named_group t w r)) (affected_group t w r)
    ≡ touched_by t w r
touched-is t w r =
    let crtcs : bit_or (bit_or (set_where t kind.Crtc (sets r.assigns)) (named_by t w r)) 0
    ≡ set_where t kind.Crtc (touches_crtc w.values (after w r) r.assigns) =
    or_zero_r _ ∙ or_masks (λ i. sets r.assigns (object_id kind.Crtc i)) (λ i. names w.values (after w r) r.assigns (object_id kind.Crtc i))
    (count_of t kind.Crtc) in
    let routed : (k : Kind) → bit_or (bit_or (set_where t k (sets r.assigns)) 0)
    (set_where t k (is_affected t w.things w.values (after w r)))
    ≡ set_where t k (touches_routed t w.things w.values (after w r) r.assigns) = λ k.
    ap (λ x. bit_or x (set_where t k (is_affected t w.things w.values (after w r)))) (or_zero_r (set_where t k (sets r.assigns)))
    ∙ or_masks (λ i. sets r.assigns (object_id k i)) (λ i. is_affected t w.things w.values (after w r) (object_id k i)) (count_of t k) in
    rw (crtcs, routed kind.Plane, routed kind.Conn) refl

-- what is looked at is what the request touches
pub touched-known : (t : Topology) (w : World) (r : Request) (set crtcs both affected touched : Mask) (named : ℕ) → set ≡ set_group t r
    → named ≡ named_by t w r → crtcs ≡ record { crtcs = named; planes = 0; conns = 0 } → affected ≡ affected_group t w r
    → both ≡ union set crtcs → touched ≡ union both affected → touched ≡ touched_by t w r
touched-known t w r set crtcs both affected touched named set_is named_is crtcs_is affected_is both_is touched_is =
    touched_is ∙ ap (λ m. union m affected) both_is ∙ ap (λ m. union (union m crtcs) affected) set_is ∙ ap
    (λ m. union (union (set_group t r) m) affected) crtcs_is
    ∙ ap (λ n. union (union (set_group t r) (record { crtcs = n; planes = 0; conns = 0 })) affected) named_is ∙ ap
    (union (union (set_group t r) (named_group t w r))) affected_is ∙ touched-is t w r
