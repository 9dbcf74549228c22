-- What is answered to a command, as words. This device's own.
use Rattle.std.specs.Prelude.{ℕ, List, [], ◌∷◌, ◌++◌, codes}
use Rattle.std.specs.Fmt.{decimal}
use Rattle.kms_model.specs.declared.objects.Kind.{Kind}
use Rattle.kms_model.specs.declared.objects.Kind.TheVariants.{Crtc, Plane, Conn, Enc}
use Rattle.kms_model.specs.declared.replies.Reply.{Reply}
use Rattle.kms_model.specs.declared.replies.Reply.TheVariants as reply
use Rattle.kms_model.specs.declared.replies.TheConstants.Refusal.{NO_EVENT_SPACE, BUSY}
use Rattle.kms_model.specs.Device.Objects.{kind_of, index_of}
use Rattle.kms_model.specs.Report.Rules.{errno_of}

-- a refusal: its error number and its number
abbrev pub refusal_text : ℕ → List ℕ
refusal_text n = errno_of n ++ 32 ∷ decimal n

-- the name of a kind of display object
abbrev pub kind_name : Kind → List ℕ
kind_name Crtc = codes "crtc"
kind_name Plane = codes "plane"
kind_name Conn = codes "conn"
kind_name Enc = codes "enc"

-- the name of a display object, as `crtc0` or `plane3`
abbrev pub object_name : ℕ → List ℕ
object_name id = kind_name (kind_of id) ++ decimal (index_of id)

-- the words of a reply
abbrev pub reply_words : Reply → List (List ℕ)
reply_words (reply.Made id) = codes "made" ∷ decimal id ∷ []
reply_words reply.Done = codes "done" ∷ []
reply_words (reply.Commit k) = codes "commit" ∷ decimal k ∷ []
reply_words reply.Tested = codes "tested" ∷ []
reply_words (reply.Refused n) = errno_of n.0 ∷ decimal n.0 ∷ []
reply_words (reply.Space used) = errno_of NO_EVENT_SPACE.0 ∷ codes "events" ∷ decimal NO_EVENT_SPACE.0 ∷ decimal used ∷ []
reply_words (reply.Busy object k) = errno_of BUSY.0 ∷ decimal BUSY.0 ∷ object_name object.0 ∷ decimal k ∷ []
reply_words (reply.Denied n) = errno_of n ∷ decimal n ∷ []
reply_words (reply.Event e) = codes "event" ∷ decimal e.user_data ∷ decimal e.sequence ∷ decimal e.crtc ∷ []
reply_words reply.NoEvent = codes "none" ∷ []

-- words parted by one blank
abbrev pub spaced : List (List ℕ) → List ℕ
spaced [] = []
spaced (w ∷ []) = w
spaced (w ∷ v ∷ ws) = w ++ 32 ∷ spaced (v ∷ ws)
