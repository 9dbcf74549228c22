use Rattle.std.proofs.Common.{◌≡◌, ◌≤◌, ◌<◌, ℕ, ◌+◌, ◌-◌, true, false, List, length, slice_index, ◌∙◌, sym, ap, arith, rules, Fits, w8}
use borrow.Rule.Slice.PartMut.{put_mid}
use Rattle.kms_compose.specs.Parts.{is_opaque}
use Rattle.kms_compose.proofs.Runs.{blended_same, front_place, inside, opaque_over, part_place, run_over}
use Rattle.kms_compose.proofs.rows.put_channel.Goals as goal

-- a number of a row of bytes is at most 255, also where it is given by another
small_inside : (old run : List ℕ) (left n k v : ℕ) → n ≡ length run → left + n ≤ length old → k < n →
    Fits w8 (slice_index (put_mid left n old run) (left + k)) → slice_index run k ≡ v → v ≤ 255
small_inside old run left n k v long fits below f e =
    let at = inside old run left n (left + k) (omega arith) fits (omega arith) (omega arith) in
    let there : slice_index run (left + k - left) ≡ v = ap (λ (i : ℕ). slice_index run i) (omega arith) ∙ e in
    omega (arith, f, at, there)

pub returns-then-is_opaque : goal.returns-then-is_opaque
returns-then-is_opaque g c = λ x h.
    let opaque : is_opaque c.args.layer.now ≡ true = search rules in
    run_over c.args.layer.now g.C.Channel.channel c.args.words.now c.args.lower.now c.unpack.new.out c.args.left _ (omega arith)
    (omega arith) c.requires.within
    (λ k below.
    let e = c.unpack.ensures k (omega arith) in
    let small = small_inside c.args.lower.now c.unpack.new.out c.args.left (c.args.left + length c.args.words.now - c.args.left) k _
    (omega arith) (omega (arith, c.requires.within)) (omega arith) (c.type_inv.lower (c.args.left + k)) e in
    e ∙ sym (opaque_over c.args.layer.now g.C.Channel.channel _ _ opaque small))
    x

pub returns-else-is_opaque : goal.returns-else-is_opaque
returns-else-is_opaque g c = λ x h.
    let shown_through : is_opaque c.args.layer.now ≡ false = search rules in
    let size : length c.unpack-else-is_opaque.new.out ≡ length c.args.words.now = search rules in
    run_over c.args.layer.now g.C.Channel.channel c.args.words.now c.args.lower.now c.blend_row.new.b c.args.left _ (omega arith)
    (omega arith)
    c.requires.within
    (λ k below.
    c.blend_row.ensures.places k (omega arith)
    ∙ blended_same c.blend_mode.result c.args.layer.now.alpha _ _ _ _ _ _
    (front_place c.args.alpha.now _ k below ∙ c.requires.alphas shown_through k below)
    (c.unpack-else-is_opaque.ensures k (omega (arith, below, size)))
    (part_place c.args.lower.now c.args.left (c.args.left + length c.args.words.now - c.args.left) k (omega arith))
    ∙ c.blend_mode.ensures.same _ _ _ (slice_index c.args.words.now k))
    x
