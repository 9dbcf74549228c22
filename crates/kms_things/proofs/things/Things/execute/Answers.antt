use Rattle.kms_model.specs.Device.Execution.{execute}
use Rattle.kms_things.proofs.MadeLemmas.{if_ok}
use Rattle.kms_things.proofs.things.Things.execute.Goals as goal

pub returns-in-Mode-clause-executed : goal.returns-in-Mode-clause-executed
unfolding execute
returns-in-Mode-clause-executed c = if_ok c.make.result _ _ (λ r made t w. rw c.in-Mode.is (made w)) c.make.ensures.made

pub returns-in_ok-bytes-in-Blob-clause-executed : goal.returns-in_ok-bytes-in-Blob-clause-executed
unfolding execute
returns-in_ok-bytes-in-Blob-clause-executed c =
    if_ok c.make-in-Blob.result _ _ (λ r made t w. rw (c.in-Blob.is, ← c.in_ok-bytes-in-Blob.ensures) (made w)) c.make-in-Blob.ensures.made

pub returns-in-Fence-clause-executed : goal.returns-in-Fence-clause-executed
unfolding execute
returns-in-Fence-clause-executed c = if_ok c.make-in-Fence.result _ _ (λ r made t w. rw c.in-Fence.is (made w)) c.make-in-Fence.ensures.made
