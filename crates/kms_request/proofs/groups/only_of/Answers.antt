use Rattle.std.proofs.Common.{◌≡◌, ◌≢◌, ◌≤◌, ◌<◌, ◌-◌, ℕ, arith}
use Rattle.kms_model.specs.Device.Objects.{first_id, most_of, object_id}
use Rattle.kms_request.proofs.GroupLemmas.{only-there, only-absent}
use Rattle.kms_request.proofs.groups.only_of.Goals as goal
use Rattle.kms_request.proofs.groups.only_of.Goals.{else-first-id-via-then-first-id+else-id-first, else-first-id-via-else-first-id}

pub returns-then-id-first : goal.returns-then-id-first
returns-then-id-first c =
    let first : c.first_id-first.result ≡ first_id c.args.kind = c.first_id-first.ensures in
    let most : c.most_of.result ≡ most_of c.args.kind = c.most_of.ensures.most in
    let few : most_of c.args.kind ≤ 16 = omega (arith, c.most_of.ensures.few) in
    let low : first_id c.args.kind ≤ c.args.id = omega arith in
    let within : c.args.id - first_id c.args.kind < most_of c.args.kind = omega arith in
    rw first (only-there c.args.id (first_id c.args.kind) (most_of c.args.kind) few low within)

pub returns-else-first-id : goal.returns-else-first-id
returns-else-first-id c =
    let first : c.first_id-first.result ≡ first_id c.args.kind = c.first_id-first.ensures in
    let apart : (i : ℕ) → i < most_of c.args.kind → c.args.id ≢ object_id c.args.kind i = λ i h e. elim c.else-first-id.branch [
      | else-first-id-via-then-first-id+else-id-first w ↦ omega (arith, e, h, first, w.most_of.ensures.most)
      | else-first-id-via-else-first-id w ↦ omega (arith, e, h, first)
    ] in
    only-absent c.args.id (first_id c.args.kind) (most_of c.args.kind) apart
