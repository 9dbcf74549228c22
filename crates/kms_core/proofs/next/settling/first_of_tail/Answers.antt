use Rattle.std.proofs.Common.{Some, ap, false, refl, sym, true, ◌∙◌}
use Rattle.kms_core.proofs.next.TailTurns.{first_told}
use Rattle.kms_core.proofs.next.settling.first_of_tail.Goals as goal

pub returns-then-may_claim : goal.returns-then-may_claim
returns-then-may_claim c = first_told c.args.core.now c.args.commit true _ _ _ _ (record
    { claim = sym c.if-may_claim.true ∙ c.may_claim.ensures; crtc = refl; plane = refl; flush = refl; last = refl })

pub returns-in-Some : goal.returns-in-Some
returns-in-Some c =
    ap Some c.write.ensures
    ∙ first_told c.args.core.now c.args.commit false (Some c.in-Some.index) _ _ _
    (record {
      claim = sym c.if-may_claim.false ∙ c.may_claim.ensures;
      crtc = sym c.in-Some.is ∙ c.first_write.ensures;
      plane = refl;
      flush =
          refl;
      last = refl;
    })

pub returns-in-Some-first_write : goal.returns-in-Some-first_write
returns-in-Some-first_write c =
    ap Some c.write-in-Some-first_write.ensures
    ∙ first_told c.args.core.now c.args.commit false _ (Some c.in-Some-first_write.index) _ _
    (record {
      claim = sym c.if-may_claim.false ∙ c.may_claim.ensures;
      crtc = sym c.in_default.is ∙ c.first_write.ensures;
      plane = sym
          c.in-Some-first_write.is ∙ c.first_write-2.ensures;
      flush = refl;
      last = refl;
    })

pub returns-in-Some-first_flush : goal.returns-in-Some-first_flush
returns-in-Some-first_flush c =
    first_told c.args.core.now c.args.commit false _ _ (Some c.in-Some-first_flush.index) _
    (record {
      claim = sym c.if-may_claim.false ∙ c.may_claim.ensures;
      crtc = sym c.in_default.is ∙ c.first_write.ensures;
      plane = sym c.in_default-first_write.is ∙ c.first_write-2.ensures;
      flush = sym c.in-Some-first_flush.is ∙ c.first_flush.ensures;
      last = refl;
    })

pub returns : goal.returns
returns c =
    first_told c.args.core.now c.args.commit false _ _ _ c.end_of_tail.result
    (record {
      claim = sym c.if-may_claim.false ∙ c.may_claim.ensures;
      crtc = sym c.in_default.is ∙ c.first_write.ensures;
      plane = sym c.in_default-first_write.is ∙ c.first_write-2.ensures;
      flush = sym c.in_default-first_flush.is ∙ c.first_flush.ensures;
      last = c.end_of_tail.ensures;
    })
