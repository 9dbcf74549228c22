-- The digests of a strand, one latch after the other.
use Rattle.std.proofs.Common.{◌≡◌, ◌<◌, ◌≤◌, ◌+◌, ◌++◌, ◌∷◌, ℕ, Bool, true, false, List, [], drop, take, get_or, length, refl, sym, ap, ◌∙◌}
use Rattle.std.proofs.Common.{append_assoc}
use Rattle.std.proofs.lemmas.List.{append-nil, drop_all, drop_more}
use Rattle.kms_model.specs.declared.runs.Latch.{Latch}
use Rattle.kms_model.specs.declared.worlds.Thing.{Thing}
use Rattle.kms_model.specs.Machine.State.{Machine}
use Rattle.kms_report.specs.Telling.{latches_text}
use Rattle.kms_kept_frames.specs.declared.strands.Strand.{Strand}
use Rattle.kms_kept_frames.specs.declared.strands.Strand.TheVariants.{First, Second}
use Rattle.kms_kept_frames.specs.Strands.{is_strand}
use Rattle.kms_report.specs.Strands.{Begins, strand_digests, latch_digests}
use Rattle.kms_report.proofs.Pieces.{latches-join, one_more as one_piece_more}

-- those from a place on are that of the latch there, and those behind it
pub from_place : (things : List Thing) (crtc : ℕ) (strand : Strand) (latches : List Latch) (strands : List Strand) (k : ℕ) (l : Latch)
    (m : Strand)
    → k < length latches → k < length strands
    → strand_digests things crtc strand (drop k latches) (drop k strands)
    ≡ latch_digests things crtc (is_strand strand (get_or strands k m)) (get_or latches k l)
    ++ strand_digests things crtc strand (drop (k + 1) latches) (drop (k + 1) strands)
unfolding strand_digests
from_place things crtc strand latches strands k l m within beside = rw (drop_more latches k l within, drop_more strands k m beside) refl

-- one latch more of the strand is told
pub one_more : (things : List Thing) (crtc : ℕ) (strand : Strand) (latches : List Latch) (strands : List Strand)
    (k : ℕ) (l : Latch) (m : Strand)
    → k < length latches → k < length strands → (old new whole : List (List ℕ)) (own : Bool) (latch : Latch)
    → old ++ strand_digests things crtc strand (drop k latches) (drop k strands) ≡ whole
    → own ≡ is_strand strand (get_or strands k m) → own ≡ true → latch ≡ get_or latches k l
    → new ≡ old ++ latch_digests things crtc true latch
    → new ++ strand_digests things crtc strand (drop (k + 1) latches) (drop (k + 1) strands) ≡ whole
one_more things crtc strand latches strands k l m within beside old new whole own latch told owns on is grows =
    ap (λ (d : List (List ℕ)). d ++ behind) (grows ∙ ap (λ (d : List (List ℕ)). old ++ d) same)
    ∙ append_assoc old (latch_digests things crtc (is_strand strand (get_or strands k m)) (get_or latches k l)) behind
    ∙ ap (λ (d : List (List ℕ)). old ++ d) (sym (from_place things crtc strand latches strands k l m within beside))
    ∙ told
  where
    behind : List (List ℕ)
    behind = strand_digests things crtc strand (drop (k + 1) latches) (drop (k + 1) strands)

    same : latch_digests things crtc true latch ≡ latch_digests things crtc (is_strand strand (get_or strands k m)) (get_or latches k l)
    same = rw (sym owns ∙ on, is) refl

-- no latch is left
pub all_told : (things : List Thing) (crtc : ℕ) (strand : Strand) (latches : List Latch) (strands : List Strand) (k : ℕ)
    → length latches ≤ k
    → (digests whole : List (List ℕ)) → digests ++ strand_digests things crtc strand (drop k latches) (drop k strands) ≡ whole
    → digests ≡ whole
unfolding strand_digests
all_told things crtc strand latches strands k past digests whole told =
    sym (append-nil digests) ∙ ap (λ (d : List (List ℕ)). digests ++ d) (sym nothing) ∙ told
  where
    nothing : strand_digests things crtc strand (drop k latches) (drop k strands) ≡ []
    nothing = rw (drop_all k latches past) refl

same_strand : (strand : Strand) → is_strand strand strand ≡ true
same_strand First = refl
same_strand Second = refl

-- those of a strand from a latch of it on begin with that of the latch
pub own_first : (things : List Thing) (crtc : ℕ) (strand : Strand) (latches : List Latch) (strands : List Strand) (k : ℕ) (l : Latch)
    (m : Strand)
    → k < length latches → k < length strands → get_or strands k m ≡ strand → (latch : Latch) → latch ≡ get_or latches k l
    → Begins things crtc latch (strand_digests things crtc strand (drop k latches) (drop k strands))
    (strand_digests things crtc strand (drop (k + 1) latches) (drop (k + 1) strands))
own_first things crtc strand latches strands k l m within beside own latch is =
    from_place things crtc strand latches strands k l m within beside ∙ rw (own, same_strand strand, is) refl

-- those of a strand from a latch of the other one on are those from the next latch on
pub other_first : (things : List Thing) (crtc : ℕ) (strand : Strand) (latches : List Latch) (strands : List Strand) (k : ℕ) (l : Latch)
    (m : Strand)
    → k < length latches → k < length strands → is_strand strand (get_or strands k m) ≡ false
    → strand_digests things crtc strand (drop k latches) (drop k strands)
    ≡ strand_digests things crtc strand (drop (k + 1) latches) (drop (k + 1) strands)
other_first things crtc strand latches strands k l m within beside other =
    from_place things crtc strand latches strands k l m within beside ∙ rw other refl

-- a latch of the other strand is passed over
pub one_passed : (things : List Thing) (crtc : ℕ) (strand : Strand) (latches : List Latch) (strands : List Strand)
    (k : ℕ) (l : Latch) (m : Strand)
    → k < length latches → k < length strands → (digests whole : List (List ℕ)) (own : Bool)
    → digests ++ strand_digests things crtc strand (drop k latches) (drop k strands) ≡ whole
    → own ≡ is_strand strand (get_or strands k m) → own ≡ false
    → digests ++ strand_digests things crtc strand (drop (k + 1) latches) (drop (k + 1) strands) ≡ whole
one_passed things crtc strand latches strands k l m within beside digests whole own told owns off =
    ap (λ (d : List (List ℕ)). digests ++ d)
    (sym (other_first things crtc strand latches strands k l m within beside (sym owns ∙ off)))
    ∙ told

-- the lines of a CRTC's latches, up to one more of the latches
pub one_line_more : (m : Machine) (pixmap : Bool) (latches : List Latch) (crtc k : ℕ) (l : Latch) → k < length latches
    → (front before after : List ℕ) (latch : Latch)
    → latch ≡ get_or latches k l → before ≡ front ++ latches_text m pixmap (take k latches) crtc
    → after ≡ before ++ latches_text m pixmap (latch ∷ []) crtc → after ≡ front ++ latches_text m pixmap (take (k + 1) latches) crtc
one_line_more m pixmap latches crtc k l within front before after latch is told more =
    one_piece_more (λ (ls : List Latch). latches_text m pixmap ls crtc)
    (latches-join m pixmap crtc) latches k l front before after within told
    (more ∙ ap (λ (x : Latch). before ++ latches_text m pixmap (x ∷ []) crtc) is)
