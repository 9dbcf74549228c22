-- A line that ends with the words of a reply.
use Rattle.std.proofs.Common.{◌≡◌, ℕ, List, [], ◌∷◌, ◌++◌, refl, sym, ap, ◌∙◌, append_assoc}
use Rattle.kms_model.specs.declared.replies.Reply.{Reply}
use Rattle.kms_model.specs.declared.replies.Reply.TheVariants as reply
use Rattle.kms_model.specs.Report.Replies.{reply_words, spaced}
use Rattle.kms_model.specs.Report.TextLines.{line}

line-spaced : (ws : List (List ℕ)) → line ws ≡ spaced ws ++ 10 ∷ []
line-spaced [] = refl
line-spaced (w ∷ []) = refl
line-spaced (w ∷ v ∷ ws) =
    ap (λ (rest : List ℕ). w ++ 32 ∷ rest) (line-spaced (v ∷ ws)) ∙ sym (append_assoc w (32 ∷ spaced (v ∷ ws)) (10 ∷ []))

behind : (w : List ℕ) (ws : List (List ℕ)) → w ++ 32 ∷ line ws ≡ w ++ 32 ∷ (spaced ws ++ 10 ∷ [])
behind w ws = ap (λ (rest : List ℕ). w ++ 32 ∷ rest) (line-spaced ws)

-- a reply has a word, so a blank parts it from the word before it
pub before_reply : (w : List ℕ) (r : Reply) → line (w ∷ reply_words r) ≡ w ++ 32 ∷ (spaced (reply_words r) ++ 10 ∷ [])
before_reply w (reply.Made id) = behind w (reply_words (reply.Made id))
before_reply w reply.Done = behind w (reply_words reply.Done)
before_reply w (reply.Commit k) = behind w (reply_words (reply.Commit k))
before_reply w reply.Tested = behind w (reply_words reply.Tested)
before_reply w (reply.Refused n) = behind w (reply_words (reply.Refused n))
before_reply w (reply.Space used) = behind w (reply_words (reply.Space used))
before_reply w (reply.Busy object k) = behind w (reply_words (reply.Busy object k))
before_reply w (reply.Denied n) = behind w (reply_words (reply.Denied n))
before_reply w (reply.Event e) = behind w (reply_words (reply.Event e))
before_reply w reply.NoEvent = behind w (reply_words reply.NoEvent)
