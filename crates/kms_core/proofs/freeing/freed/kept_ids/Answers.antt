use Rattle.std.proofs.Common.{◌≡◌, ◌∙◌, ap, arith, refl, sym, subst, length}
use Rattle.arrayvec.specs.ArrayVec.{array_vec_len}
use Rattle.kms_core.specs.Freeing.{AreAllOf, put_ids}
use Rattle.kms_model.specs.Machine.Framebuffers.{commit_keeps}
use Rattle.kms_core.proofs.stores.FreedIds.{first_ids, kept_all, put_end, put_on}
use Rattle.kms_core.proofs.freeing.freed.kept_ids.Goals as goal

pub loop-index-init : goal.loop-index-init
loop-index-init c = record {
  so_far = ap (λ xs. put_ids xs c.new-ids.result.items) (first_ids c.args.tail.now) ∙ rw c.new-ids.ensures refl;
  few = (let none : array_vec_len c.new-ids.result ≡ 0 = ap length c.new-ids.ensures in omega (arith, none));
}

pub loop-index-preserved : goal.loop-index-preserved
loop-index-preserved c = record {
  so_far = put_on c.args.tail.now c.loop-index.index c.touched_plane.result c.loop-index.ids.items c.put_both.new.ids.items
      c.loop-index-test.true c.loop-index.invariant.so_far c.touched_plane.ensures c.put_both.ensures.value;
  few = omega (arith, c.loop-index.invariant.few, c.put_both.ensures.longer);
}

pub returns : goal.returns
returns c = λ t d latches k device is.
    subst (λ xs. AreAllOf xs (λ id. commit_keeps t d id k))
    (sym (put_end c.args.tail.now c.loop-index.index c.loop-index.ids.items c.loop-index-test.false c.loop-index.invariant.so_far))
    (kept_all d device is)
