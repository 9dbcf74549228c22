use Rattle.kms_laws.proofs.Opened.{all_open}
use Rattle.kms_request.proofs.ChangedLemmas.{counted-settable}
use Rattle.kms_request.proofs.Reached.{present-open, reached-is, reached-member, tells-open}
use Rattle.kms_request.proofs.reaching.reach.Goals as goal

pub changed-after-requires : goal.changed-after-requires
changed-after-requires g c = record {
  world = all_open c.requires.world;
  present = present-open c.requires.present;
  tells = tells-open c.requires.world (g.L.Looker.meaning c.args.found.now) c.requires.tells;
}

pub spans_of_picked-requires : goal.spans_of_picked-requires
spans_of_picked-requires g c = λ k d less counts. counted-settable (g.L.Looker.meaning c.args.found.now) _
    c.requires.present.device counts

pub returns-clause-reached : goal.returns-clause-reached
returns-clause-reached g c = λ w present tells.
    let t = c.args.topology.now in
    let f = g.L.Looker.meaning c.args.found.now in
    reached-is t w f c.args.request.now c.args.states.now c.changed-after.result present tells c.changed-after.ensures.old
    c.changed-after.ensures.same
    (c.changed-after.ensures.new (all_open w) (present-open present) (tells-open w f tells)) c.as_slice.result.now
    c.spans_of_picked.result.0 c.spans_of_picked.result.1 c.as_slice.ensures.value
    c.spans_of_picked.ensures.named c.spans_of_picked.ensures.touched

pub returns-clause-each : goal.returns-clause-each
returns-clause-each g c = λ w kind index present tells there.
    reached-member c.args.topology.now w c.args.request.now kind index c.spans_of_picked.result.1 present.device there
    (returns-clause-reached g c w present tells)
