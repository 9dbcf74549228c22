-- What is left by two masks is what is left by tests of the objects of a device.
use Rattle.std.proofs.Common.{◌≡◌, ℕ, zero, suc, ◌+◌, ◌<◌, ◌≤◌, List, [], ◌∷◌, ◌++◌, map, cond, add-zero, zero-add, Bool, true, false}
use Rattle.std.proofs.Common.{Option, Some, None, arith, refl, sym, ap, ◌∙◌}
use Rattle.std.specs.Prelude.{find, is_none, not, nat_lt, ◌&&◌, ◌||◌, ◌==◌, if◌then◌else◌}
use Rattle.std.specs.List.{list_all, range_with_len}
use Rattle.std.specs.Option.{option_map, option_map_or}
use borrow.Author.Tests.{lt-ltb, le-ltb}
use Rattle.kms_model.specs.declared.objects.Kind.{Kind}
use Rattle.kms_model.specs.declared.objects.Kind.TheVariants.{Conn}
use Rattle.kms_model.specs.declared.objects.Topology.{Topology}
use Rattle.kms_model.specs.declared.worlds.Setting.{Setting}
use Rattle.kms_model.specs.Device.Masks.{has_bit}
use Rattle.kms_model.specs.Device.Objects.{count_of, ids_of, object_id}
use Rattle.kms_model.specs.Device.States.{connector_on, crtc_at}
use Rattle.kms_model.specs.Firsts.{or_else}
use Rattle.kms_model.specs.Request.Agreement.{on_crtc}
use Rattle.kms_model.proofs.MaskLemmas.{has_bit-mask_below}
use Rattle.kms_model.proofs.UnionLemmas.{has_bit-zero}
use Rattle.kms_model.proofs.Facts.{and_off}
use Rattle.kms_track.specs.Tails.{connector_in, first_left, is_left}

shift : (a i : ℕ) → (a + 1) + i ≡ a + suc i
shift a i = omega arith

-- one more item, by an equal test
next_item : (h : ℕ → ℕ) (from : ℕ) (b : Bool) (o p : Option ℕ) → o ≡ option_map h p
    → cond b (Some (h from)) o ≡ option_map h (cond b (Some from) p)
next_item h from true o p rest = refl
next_item h from false o p rest = rest

-- the first of some numbered objects, of which others that do not pass have the further numbers
find_numbered : (h : ℕ → ℕ) (p q : ℕ → Bool) (from n m : ℕ) → n ≤ m → ((i : ℕ) → i < n → p (h (from + i)) ≡ q (from + i))
    → ((i : ℕ) → n ≤ i → i < m → q (from + i) ≡ false)
    → find p (map h (range_with_len from n)) ≡ option_map h (find q (range_with_len from m))
find_numbered h p q from zero zero few same off = refl
find_numbered h p q from (suc n) zero few same off = absurd (omega arith)
find_numbered h p q from zero (suc m) few same off =
    let here : q from ≡ false = rw (add-zero from) at (off 0 (omega arith) (omega arith)) in
    rw here (find_numbered h p q (from + 1) zero m (omega arith) (λ i within. absurd (omega (arith, within)))
    (λ i low high. rw (shift from i) (off (suc i) (omega (arith, low)) (omega (arith, high)))))
find_numbered h p q from (suc n) (suc m) few same off =
    let here : p (h from) ≡ q from = rw (add-zero from) at (same 0 (omega arith)) in
    rw here (next_item h from (q from) _ _
    (find_numbered h p q (from + 1) n m (omega (arith, few)) (λ i within. rw (shift from i) (same (suc i) (omega (arith, within))))
    (λ i low high. rw (shift from i) (off (suc i) (omega (arith, low)) (omega (arith, high))))))

-- by masks, of a kind of object
pub left_of : (t : Topology) (kind : Kind) (asks over : ℕ → Bool) (asked done most : ℕ) → count_of t kind ≤ most
    → ((i : ℕ) → i < most → has_bit asked i ≡ (nat_lt i (count_of t kind) && asks (object_id kind i)))
    → ((i : ℕ) → i < most → has_bit done i ≡ over (object_id kind i))
    → find (λ object. asks object && not (over object)) (ids_of t kind) ≡ option_map (object_id kind) (first_left asked done most)
left_of t kind asks over asked done most few asked_is done_is =
    find_numbered (object_id kind) (λ object. asks object && not (over object)) (is_left asked done) 0 (count_of t kind) most few
    (λ i within. rw (zero-add i) (sym (
    ap (λ b. b && not (has_bit done i))
    (asked_is i (omega (arith, within, few)) ∙ ap (λ b. b && asks (object_id kind i)) (lt-ltb i (count_of t kind) within))
    ∙ ap (λ b. asks (object_id kind i) && not b) (done_is i (omega (arith, within, few)))
    )))
    (λ i low high. rw (zero-add i)
    (and_off (has_bit asked i) (not (has_bit done i))
    (asked_is i high ∙ ap (λ b. b && asks (object_id kind i)) (le-ltb i (count_of t kind) low))))

-- All are over where none is left.

each_over : (a b rest : Bool) (o : Option ℕ) (x : ℕ) → rest ≡ is_none o → ((not a || b) && rest) ≡ is_none (cond (a && not b) (Some x) o)
each_over true true rest o x is = is
each_over true false rest o x is = refl
each_over false b rest o x is = is

pub all_over : (asks over : ℕ → Bool) (xs : List ℕ) → list_all (λ x. not (asks x) || over x) xs ≡ is_none
    (find (λ x. asks x && not (over x)) xs)
all_over asks over [] = refl
all_over asks over (x ∷ xs) = each_over (asks x) (over x) _ (find (λ x. asks x && not (over x)) xs) x (all_over asks over xs)

-- The first of two lists

first_cond : (b : Bool) (x : ℕ) (o p : Option ℕ) → cond b (Some x) (or_else o p) ≡ or_else (cond b (Some x) o) p
first_cond true x o p = refl
first_cond false x o p = refl

pub find_both : (p : ℕ → Bool) (xs ys : List ℕ) → find p (xs ++ ys) ≡ or_else (find p xs) (find p ys)
find_both p [] ys = refl
find_both p (x ∷ xs) ys = ap (λ o. cond (p x) (Some x) o) (find_both p xs ys) ∙ first_cond (p x) x (find p xs) (find p ys)

pub is_none_mapped : (h : ℕ → ℕ) (o : Option ℕ) → is_none (option_map h o) ≡ is_none o
is_none_mapped h None = refl
is_none_mapped h (Some x) = refl

-- Connectors

on_first : (b : Bool) (x : ℕ) (rest : ℕ) (o : Option ℕ) → rest ≡ option_map_or (λ n. n) o 0 → (if b then x else rest) ≡ option_map_or
    (λ n. n) (cond (b && true) (Some x) o) 0
on_first true x rest o is = refl
on_first false x rest o is = is

connector_found : (values : List Setting) (crtc : ℕ) (conns : List ℕ) → connector_on values crtc conns ≡ option_map_or (λ n. n)
    (find (λ conn. (crtc_at values conn == crtc) && not false) conns) 0
connector_found values crtc [] = refl
connector_found values crtc (conn ∷ conns) =
    on_first (crtc_at values conn == crtc) conn (connector_on values crtc conns)
    (find (λ conn. (crtc_at values conn == crtc) && not false) conns) (connector_found values crtc conns)

mapped_first : (o : Option ℕ) → option_map_or (λ n. n) (option_map (object_id Conn) o) 0 ≡ option_map_or (object_id Conn) o 0
mapped_first None = refl
mapped_first (Some x) = refl

-- the first connector of the set of those on a CRTC
pub connector_is : (t : Topology) (values : List Setting) (crtc : ℕ) → count_of t Conn ≤ 8
    → connector_in (on_crtc t values crtc Conn) ≡ connector_on values crtc (ids_of t Conn)
connector_is t values crtc few =
    sym (
    connector_found values crtc (ids_of t Conn)
    ∙ ap (λ o. option_map_or (λ n. n) o 0)
    (left_of t Conn (λ conn. crtc_at values conn == crtc) (λ conn. false) (on_crtc t values crtc Conn) 0 8 few
    (λ i within. has_bit-mask_below (λ i. crtc_at values (object_id Conn i) == crtc) (count_of t Conn) i) (λ i within. has_bit-zero i))
    ∙ mapped_first (first_left (on_crtc t values crtc Conn) 0 8)
    )
