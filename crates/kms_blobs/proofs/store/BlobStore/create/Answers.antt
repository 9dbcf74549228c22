use Rattle.std.proofs.Common.{rules, ◌≡◌, [], ◌∷◌, ◌++◌, OnOk, sym, ◌∙◌}
use Rattle.std.proofs.lemmas.Result.{on_ok_weaker}
use Rattle.kms_model.specs.Things.Tables.{slot}
use Rattle.kms_model.specs.Things.Kept.{blob}
use Rattle.kms_blobs.proofs.Things.{made_blob, made_mode}
use Rattle.kms_blobs.proofs.store.BlobStore.create.Goals as goal

pub returns-clause-blob : goal.returns-clause-blob
returns-clause-blob c =
    let made : OnOk c.push.result (c.push.new.self ≡ c.args.self.now ++ slot c.args.id (blob c.args.owner c.args.bytes.now) ∷ []) = search
    rules in
    on_ok_weaker c.push.result (λ is w label same next. made_blob w c.args.owner label c.args.bytes.now ∙ rw (same, next) (sym is)) made

pub returns-clause-mode : goal.returns-clause-mode
returns-clause-mode c =
    let made : OnOk c.push.result (c.push.new.self ≡ c.args.self.now ++ slot c.args.id (blob c.args.owner c.args.bytes.now) ∷ []) = search
    rules in
    on_ok_weaker c.push.result (λ is w label m same next bytes. made_mode w c.args.owner label m ∙ rw (same, next, ← bytes) (sym is)) made
