-- The L lines of the report of a history are right: at each CRTC they tell what the device of one thread shows, with rising counts.
use Rattle.std.proofs.Common.{◌≡◌, ℕ, ◌<◌, ◌≤◌, Bool, true, List, [], ◌∷◌, ◌++◌, length, map, Option, Some, None, refl, sym, ap, ◌∙◌, subst}
use Rattle.std.proofs.Common.{arith, inl, inr, ◌⊎◌, append-nil, append_assoc}
use Rattle.std.specs.Prelude.{◌&&◌, ◌==◌, option_map, reverse, slice_get}
use Rattle.std.specs.List.{flat_map, last_or}
use Rattle.std.specs.Option.{option_map_or}
use Rattle.std.proofs.lemmas.Bool.{and_from, eq-eqb, eqb-true, lt-ltb, ne_eqb}
use Rattle.std.proofs.lemmas.List.{length-map}
use Rattle.std.proofs.lemmas.List.Elements.{filter-append}
use Rattle.std.proofs.lemmas.Slice.Eq.{bytes_eq-Decides}
use Rattle.sha2.specs.Sha256.{sha256}
use Rattle.kms_model.specs.declared.objects.Kind.TheVariants.{Crtc}
use Rattle.kms_model.specs.declared.replies.Step.{Step}
use Rattle.kms_model.specs.declared.reports.Report.{Report}
use Rattle.kms_model.specs.declared.runs.Latch.{Latch}
use Rattle.kms_model.specs.declared.scripts.Script.{Script}
use Rattle.kms_model.specs.Device.Objects.{exists, indices_of, object_id}
use Rattle.kms_model.specs.Device.Serial.{Pictured, show}
use Rattle.kms_model.specs.Frames.FrameBytes.{frame_bytes}
use Rattle.kms_model.specs.Headline.{CommitFrame, CommitPicture, Headline, frame_or_off}
use Rattle.kms_model.specs.Machine.Histories.{at, is_drained, journal, latched}
use Rattle.kms_model.specs.Machine.State.{Machine}
use Rattle.kms_model.specs.Report.Right.{LatchLine, all_is_latched, is_not_below, last_count, latch_is_right, latches_in, lines_of_crtc}
use Rattle.kms_model.specs.Report.Right.{may_count, same_digest, tells_of}
use Rattle.kms_model.specs.Report.RightAnswers.{entries_in, first_off}
use Rattle.kms_model.specs.Report.SeenReport.{digest_shown}
use Rattle.kms_model.proofs.Items.{IsIn, list_all-from}
use Rattle.kms_laws.proofs.Basics.{in_either, in_left, in_right}
use Rattle.kms_laws.proofs.Framebuffers.{range-below}
use Rattle.kms_told.proofs.Blocks.{AreBelow, filter-all, filter-none, map-in, not-below, own-block, pass-blocks, pass-mapped}
use Rattle.kms_told.proofs.CountsRise.{AreCounted, counted-pass, last_of, may_be_next}
use Rattle.kms_told.proofs.Items.{AllPass, filter-from, none-off}
use Rattle.kms_told.proofs.Seen.{Sees, line_of}

-- Lists that are alike

-- the item at a place of a list, which another list has there
pub record IsAlike {A B C : Type 0} (f : A → C) (g : B → C) (xs : List A) (n : ℕ) (y : B) : Type 0 where
  pub item : A
  pub is_item : slice_get xs n ≡ Some item
  pub alike : f item ≡ g y

alike-at : {A B C : Type 0} (f : A → C) (g : B → C) (xs : List A) (front later : List B) (y : B) (rest : List C)
    → map f xs ≡ map g (front ++ y ∷ later) ++ rest → IsAlike f g xs (length front) y
alike-at f g [] [] later y rest e = absurd cc
alike-at f g [] (z ∷ front) later y rest e = absurd cc
alike-at f g (x ∷ xs) [] later y rest e = record { item = x; is_item = refl; alike = cc }
alike-at f g (x ∷ xs) (z ∷ front) later y rest e =
    let tail : map f xs ≡ map g (front ++ y ∷ later) ++ rest = cc in
    let one = alike-at f g xs front later y rest tail in
    record { item = one.item; is_item = one.is_item; alike = one.alike }

same-some : {A : Type 0} (x y : A) → Some x ≡ Some y → x ≡ y
same-some x y e = cc

-- what holds of an item by those before it
pass-at : {A : Type 0} (test : List A → A → Bool) (before front later : List A) (x : A) → AllPass test before (front ++ x ∷ later)
    → test (before ++ front) x ≡ true
pass-at test before [] later x all = subst (λ b. test b x ≡ true) (sym (append-nil before)) all.0
pass-at test before (y ∷ front) later x all =
    subst (λ b. test b x ≡ true) (append_assoc before (y ∷ []) front) (pass-at test (before ++ y ∷ []) front later x all.1)

same-digest : (d : Option (List ℕ)) → same_digest d d ≡ true
same-digest None = refl
same-digest (Some bytes) = (bytes_eq-Decides bytes bytes).1 refl

lines-last : (m : Machine) (front : List Latch) (o : Option LatchLine) (q : Option Latch)
    → option_map_or (λ l. l.count) o 0 ≡ option_map_or (λ l. l.count) q 0
    → option_map_or (λ l. l.count) (last_or o (map (line_of m) front)) 0 ≡ option_map_or (λ l. l.count) (last_or q front) 0
lines-last m [] o q e = e
lines-last m (l ∷ front) o q e = lines-last m front (Some (line_of m l)) (Some l) refl

module _ (s : Script) (h : List Step) (head : Headline s h) (r : Report) (S : Sees s h (at s h) r)
    (C : AreCounted (at s h).records.latches) where
  abbrev pub m : Machine
  m = at s h

  abbrev block_at : ℕ → List LatchLine
  block_at crtc = map (line_of m) (latched m crtc)

  own-latch : (crtc : ℕ) (l : Latch) → IsIn l (latched m crtc) → l.crtc ≡ crtc
  own-latch crtc l i = eqb-true l.crtc crtc (filter-from (λ x. x.crtc == crtc) (reverse m.records.latches) l i).1

  own-lines : (crtc : ℕ) (x : LatchLine) → IsIn x (block_at crtc) → x.crtc ≡ crtc
  own-lines crtc x i = map-in (line_of m) (λ (l : LatchLine). l.crtc) crtc (latched m crtc) (own-latch crtc) x i

  module _ (crtc : ℕ) (within : crtc < s.topology.crtcs) (front later : List Latch) (l : Latch)
      (here : latched m crtc ≡ front ++ l ∷ later) where
    own-front : (x : Latch) → IsIn x front → x.crtc ≡ crtc
    own-front x i = own-latch crtc x (subst (IsIn x) (sym here) (in_left front (l ∷ later) x i))

    own-here : l.crtc ≡ crtc
    own-here = own-latch crtc l (subst (IsIn l) (sym here) (in_right front (l ∷ later) l (inl refl)))

    abbrev pictured_as : Pictured → CommitPicture
    pictured_as p = record { commit = p.commit; picture = p.picture }

    abbrev latched_as : Latch → CommitPicture
    latched_as l = record { commit = l.commit; picture = l.picture }

    abbrev framed_as : Pictured → CommitFrame
    framed_as p = record { commit = p.commit; frame = frame_or_off p.picture p.frame }

    abbrev seen_as : Latch → CommitFrame
    seen_as l = record { commit = l.commit; frame = frame_or_off l.picture (frame_bytes m.device.world.things l.picture) }

    tells : (before : List LatchLine) → last_count before ≡ last_of front
        → tells_of (line_of m l) before (slice_get (show s (journal m) (object_id Crtc crtc)) (length front)) ≡ true
    tells before last =
        let shown = show s (journal m) (object_id Crtc crtc) in
        let pictures = head.in_order crtc within in
        let frames = head.frames_in_order crtc within in
        let one = alike-at pictured_as latched_as shown front later l pictures.0
        (pictures.1 ∙ ap (λ z. map latched_as z ++ pictures.0) here) in
        let two = alike-at framed_as seen_as shown front later l frames.0 (frames.1 ∙ ap (λ z. map seen_as z ++ frames.0) here) in
        let same : two.item ≡ one.item = same-some two.item one.item (sym two.is_item ∙ one.is_item) in
        let p = one.item in
        let commit : l.commit ≡ p.commit = sym (ap (λ (z : CommitPicture). z.commit) one.alike) in
        let picture = ap (λ (z : CommitPicture). z.picture) one.alike in
        let digest : (line_of m l).digest ≡ digest_shown p.picture p.frame =
        sym (ap (λ (z : Pictured). digest_shown z.picture z.frame) (sym same)
        ∙ ap (λ (z : CommitFrame). option_map sha256 z.frame) two.alike) in
        let counted : may_count l.picture (last_of front) l.count ≡ true =
        pass-at may_be_next [] front later l (subst (AllPass may_be_next []) here (counted-pass crtc m.records.latches C)) in
        ap (tells_of (line_of m l) before) one.is_item
        ∙ and_from (l.commit == p.commit) _ (eq-eqb l.commit p.commit commit)
        (and_from (same_digest (line_of m l).digest (digest_shown p.picture p.frame)) _
        (ap (same_digest (line_of m l).digest) (sym digest) ∙ same-digest (line_of m l).digest)
        ((λ i. may_count (picture i) (last i) l.count) ∙ counted))

    module _ (before : List LatchLine) (below : AreBelow (λ (x : LatchLine). x.crtc) crtc before) where
      lines-here : lines_of_crtc crtc (before ++ map (line_of m) front) ≡ map (line_of m) front
      lines-here =
          let mine = λ (x : LatchLine). x.crtc == crtc in
          filter-append mine before (map (line_of m) front)
          ∙ (λ i.
          filter-none mine before (λ x j. ne_eqb x.crtc crtc (λ k. absurd (let lt = below x j in omega (arith, lt, k)))) i
          ++ filter-all mine (map (line_of m) front)
          (λ x j. eq-eqb x.crtc crtc (map-in (line_of m) (λ (y : LatchLine). y.crtc) crtc front own-front x j)) i)

      low-before : (x : LatchLine) → IsIn x (before ++ map (line_of m) front) → x.crtc ≤ crtc
      low-before x i = either (in_either before (map (line_of m) front) x i) where
        either : IsIn x before ⊎ IsIn x (map (line_of m) front) → x.crtc ≤ crtc
        either (inl old) = let lt = below x old in omega (arith, lt)
        either (inr new) = let e = map-in (line_of m) (λ (y : LatchLine). y.crtc) crtc front own-front x new in omega (arith, e)

      abbrev pub lines : List LatchLine
      lines = before ++ map (line_of m) front

      -- the test at a CRTC, by the latch's own number or by its block's
      abbrev is_right_at : ℕ → Bool
      is_right_at k =
          exists s.topology Crtc k
          && (is_not_below (λ (x : LatchLine). x.crtc) lines (line_of m l)
          && tells_of (line_of m l) (lines_of_crtc k lines) (slice_get (show s (entries_in r) (object_id Crtc k))
          (length (lines_of_crtc k lines))))

      right-at : is_right_at crtc ≡ true
      right-at =
          let size : length (lines_of_crtc crtc lines) ≡ length front = ap length lines-here ∙ length-map front (line_of m) in
          let last : last_count (lines_of_crtc crtc lines) ≡ last_of front = ap last_count lines-here ∙ lines-last m front None None refl in
          and_from (exists s.topology Crtc crtc) _ (lt-ltb crtc s.topology.crtcs within)
          (and_from (is_not_below (λ (x : LatchLine). x.crtc) lines (line_of m l)) _
          (not-below (λ (x : LatchLine). x.crtc) lines (line_of m l)
          (λ x i. let a = low-before x i in let b = own-here in omega (arith, a, b)))
          ((λ i. tells_of (line_of m l) (lines_of_crtc crtc lines) (slice_get (show s (S.entries i) (object_id Crtc crtc)) (size i)))
          ∙ tells (lines_of_crtc crtc lines) last))

      pub latch-right : latch_is_right s r lines (line_of m l) ≡ true
      unfolding latch_is_right
      latch-right = subst (λ k. is_right_at k ≡ true) (sym own-here) right-at

  pub latches-off : first_off (latch_is_right s r) [] (latches_in r) ≡ None
  latches-off =
      ap (first_off (latch_is_right s r) []) S.latches
      ∙ none-off (latch_is_right s r) [] (flat_map block_at (indices_of s.topology Crtc))
      (pass-blocks (λ (x : LatchLine). x.crtc) block_at own-lines (latch_is_right s r) 0 s.topology.crtcs
      (λ crtc before low high below.
      pass-mapped (line_of m) (latch_is_right s r) before (latched m crtc)
      (λ front later l here. latch-right crtc high front later l here before below))
      0 s.topology.crtcs (omega arith) (omega arith) [] (λ x never. absurd never))

  -- where a history is drained, all is latched
  pub drained-latched : is_drained s m ≡ true → all_is_latched s r ≡ true
  drained-latched drained =
      list_all-from (λ crtc. length (lines_of_crtc crtc (latches_in r)) == length (show s (entries_in r) (object_id Crtc crtc)))
      (indices_of s.topology Crtc)
      (λ crtc i.
      let low = range-below 0 s.topology.crtcs crtc i in
      let within : crtc < s.topology.crtcs = omega (arith, low) in
      let lines = ap (λ ls. length (lines_of_crtc crtc ls)) S.latches
      ∙ ap length (own-block (λ (x : LatchLine). x.crtc) block_at own-lines 0 s.topology.crtcs crtc (omega arith) low)
      ∙ length-map (latched m crtc) (line_of m) in
      let latched_size = length-map (latched m crtc) (λ (l : Latch). record { commit = l.commit; picture = l.picture }) in
      let shown_size = length-map (show s (journal m) (object_id Crtc crtc))
      (λ (p : Pictured). record { commit = p.commit; picture = p.picture }) in
      let all = ap length (head.all_of_them drained crtc within) in
      let shown = ap (λ es. length (show s es (object_id Crtc crtc))) S.entries in
      eq-eqb (length (lines_of_crtc crtc (latches_in r))) (length (show s (entries_in r) (object_id Crtc crtc)))
      (lines ∙ sym latched_size ∙ all ∙ shown_size ∙ sym shown))
