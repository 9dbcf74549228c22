-- A reply that was read of the fields at the end of a line is written as these fields.
use Rattle.std.proofs.Common.{◌≡◌, ℕ, ◌<◌, inl, inr, Bool, true, false, List, [], ◌∷◌, ◌++◌, cond, Option, Some, refl, sym, ap, ◌∙◌, subst}
use Rattle.std.proofs.Common.{arith}
use Rattle.std.specs.Prelude.{codes, nat_lt, option_map, if◌then◌else◌}
use Rattle.std.specs.Fmt.{decimal, digits}
use Rattle.std.specs.Str.{bytes_eq}
use Rattle.std.proofs.lemmas.Bool.{ltb-true}
use Rattle.kms_model.specs.declared.objects.Kind.{Kind}
use Rattle.kms_model.specs.declared.replies.Event.{Event}
use Rattle.kms_model.specs.declared.replies.Reply.{Reply}
use Rattle.kms_model.specs.declared.replies.Reply.TheVariants as reply
use Rattle.kms_model.specs.Device.Objects.{object_id}
use Rattle.kms_model.specs.Report.Replies.{kind_name, object_name, reply_words}
use Rattle.kms_model.specs.Report.ReplyFields.{busy_read, event_fields, lone_number, lone_reply, named_id, numbered_reply, refusal_numbered}
use Rattle.kms_model.specs.Report.ReplyFields.{refusal_read, reply_of_word, reply_read, space_read, word32_at, word64_at}
use Rattle.kms_model.specs.Report.Rules.{ENOMEM, EBUSY, errno_of}
use Rattle.kms_model.specs.Script.Grammar.{object}
use Rattle.kms_model.specs.Script.Schedules.{greatest_number}
use Rattle.kms_model.specs.Script.Words.{between, end_at, field_at, strip}
use Rattle.kms_model.proofs.KindsOfIds.{index_of-object, kind_of-object}
use Rattle.kms_script.proofs.Inverted.{choice_some, from_bind, if_some, map_some, some_same}
use Rattle.kms_script.proofs.LineFields.{end_spelt, field_spelt, fields_to, strip_spelt, then_fields}
use Rattle.kms_script.proofs.SpeltFields.{dec_at_spelt}
use Rattle.kms_script.proofs.SpeltWords.{found, object_spelt}
use Rattle.kms_reading.specs.Spelt.{IsNearReply}

-- Numbers

-- a number below 2^32 and what follows it
pub word32-spelt : (bytes : List ℕ) (n : ℕ × List ℕ) (ws : List (List ℕ)) → word32_at bytes ≡ Some n → fields_to ws [] ≡ n.1
    → fields_to (decimal n.0 ∷ ws) [] ≡ bytes
word32-spelt bytes n ws e rest = then_fields (decimal n.0) ws [] n.1 bytes (dec_at_spelt greatest_number bytes n (omega arith) e) rest

-- a number below 2^64 and what follows it
pub word64-spelt : (bytes : List ℕ) (n : ℕ × List ℕ) (ws : List (List ℕ)) → word64_at bytes ≡ Some n → fields_to ws [] ≡ n.1
    → fields_to (decimal n.0 ∷ ws) [] ≡ bytes
word64-spelt bytes n ws e rest = then_fields (decimal n.0) ws [] n.1 bytes (dec_at_spelt 18446744073709551615 bytes n (omega arith) e) rest

-- a number at the end
pub lone-spelt : (bytes : List ℕ) (n : ℕ) → lone_number bytes ≡ Some n → fields_to (decimal n ∷ []) [] ≡ bytes
unfolding lone_number
lone-spelt bytes n e =
    from_bind (word32_at bytes) _ n e (λ r given more.
    from_bind (end_at r.1) _ n more (λ u end is.
    subst (λ k. fields_to (decimal k ∷ []) [] ≡ bytes) (some_same r.0 n is) (word32-spelt bytes r [] given (end_spelt r.1 u end))))

-- an event
pub event-spelt : (bytes : List ℕ) (e : Event) → event_fields bytes ≡ Some e
    → fields_to (decimal e.user_data ∷ decimal e.sequence ∷ decimal e.crtc ∷ []) [] ≡ bytes
unfolding event_fields
event-spelt bytes e is =
    from_bind (word64_at bytes) _ e is (λ user given more.
    from_bind (word32_at user.1) _ e more (λ sequence there more.
    from_bind (lone_number sequence.1) _ e more (λ crtc last made.
    subst (λ (x : Event). fields_to (decimal x.user_data ∷ decimal x.sequence ∷ decimal x.crtc ∷ []) [] ≡ bytes)
    (some_same (record { user_data = user.0; sequence = sequence.0; crtc = crtc }) e made)
    (word64-spelt bytes user (decimal sequence.0 ∷ decimal crtc ∷ []) given
    (word32-spelt user.1 sequence (decimal crtc ∷ []) there (lone-spelt sequence.1 crtc last))))))

-- Replies by their first word

-- the words of a reply behind its first, and the fields that they were read of
record IsReplyOf (word rest : List ℕ) (a : Reply) : Type 0 where
  words : List (List ℕ)
  are : reply_words a ≡ word ∷ words
  spelt : fields_to words [] ≡ rest

numbered-is : (word : List ℕ) (make : ℕ → Reply) → ((n : ℕ) → reply_words (make n) ≡ word ∷ decimal n ∷ [])
    → (rest : List ℕ) (a : Reply) → numbered_reply make rest ≡ Some a → IsReplyOf word rest a
unfolding numbered_reply
numbered-is word make are rest a e =
    from_bind (lone_number rest) _ a e (λ n given is.
    subst (IsReplyOf word rest) (some_same (make n) a is) (record {
      words = decimal n ∷ [];
      are = are n;
      spelt = lone-spelt rest n given;
    }))

lone-is : (word : List ℕ) (made : Reply) → reply_words made ≡ word ∷ [] → (rest : List ℕ) (a : Reply) → lone_reply made rest ≡ Some a
    → IsReplyOf word rest a
unfolding lone_reply
lone-is word made are rest a e =
    from_bind (end_at rest) _ a e (λ u end is.
    subst (IsReplyOf word rest) (some_same made a is) (record { words = []; are = are; spelt = end_spelt rest u end }))

event-is : (rest : List ℕ) (a : Reply) → option_map (λ e. reply.Event e) (event_fields rest) ≡ Some a → IsReplyOf (codes "event") rest a
event-is rest a e =
    let m = map_some (λ (x : Event). reply.Event x) (event_fields rest) a e in
    let x = m.value in
    subst (IsReplyOf (codes "event") rest) m.makes (record {
      words = decimal x.user_data ∷ decimal x.sequence ∷ decimal x.crtc ∷ [];
      are = refl;
      spelt = event-spelt rest x m.given;
    })

-- Refusals

space-words : (used : ℕ) → reply_words (reply.Space used) ≡ ENOMEM ∷ codes "events" ∷ codes "25" ∷ decimal used ∷ []
unfolding digits
space-words used = refl

space-is : (rest : List ℕ) (a : Reply) → space_read rest ≡ Some a → IsReplyOf ENOMEM rest a
unfolding space_read numbered_reply
space-is rest a e =
    from_bind (strip (codes " events 25") rest) _ a e (λ behind given more.
    from_bind (lone_number behind) _ a more (λ used there is.
    subst (IsReplyOf ENOMEM rest) (some_same (reply.Space used) a is) (record {
      words = codes "events" ∷ codes "25" ∷ decimal used ∷ [];
      are = space-words used;
      spelt = ap (λ bs. codes " events 25" ++ bs) (lone-spelt behind used there) ∙ strip_spelt (codes " events 25") rest behind given;
    })))

-- an object of an index below 100 is named by its id
named-object : (kind : Kind) (index : ℕ) → between 100 499 (named_id kind index).0 ≡ true
    → object_name (named_id kind index).0 ≡ kind_name kind ++ decimal index
named-object kind index near = by (nat_lt index 100) refl near
  where
    by : (t : Bool) → nat_lt index 100 ≡ t → between 100 499 (if t then object_id kind index else 0) ≡ true
        → object_name (if t then object_id kind index else 0) ≡ kind_name kind ++ decimal index
    by true is in_range =
        let low : index < 100 = ltb-true index 100 is in
        λ i. kind_name (kind_of-object kind index low i) ++ decimal (index_of-object kind index low i)
    by false is in_range = absurd cc

busy-words : (o : Kind × ℕ) (k : ℕ) (word : List ℕ) → object word ≡ Some o → IsNearReply (reply.Busy (named_id o.0 o.1) k)
    → reply_words (reply.Busy (named_id o.0 o.1) k) ≡ EBUSY ∷ codes "26" ∷ word ∷ decimal k ∷ []
unfolding digits
busy-words o k word is near = ap (λ name. EBUSY ∷ codes "26" ∷ name ∷ decimal k ∷ []) (named-object o.0 o.1 near ∙ object_spelt o word is)

busy-is : (rest : List ℕ) (a : Reply) → IsNearReply a → busy_read rest ≡ Some a → IsReplyOf EBUSY rest a
unfolding busy_read numbered_reply
busy-is rest a near e =
    from_bind (strip (codes " 26") rest) _ a e (λ behind given more.
    from_bind (field_at behind) _ a more (λ word there more.
    from_bind (object word.0) _ a more (λ o named more.
    from_bind (lone_number word.1) _ a more (λ k last is.
    let made = some_same (reply.Busy (named_id o.0 o.1) k) a is in
    let near_one = subst IsNearReply (sym made) near in
    subst (IsReplyOf EBUSY rest) made (record {
      words = codes "26" ∷ word.0 ∷ decimal k ∷ [];
      are = busy-words o k word.0 named near_one;
      spelt =
          ap (λ bs. codes " 26" ++ bs) (then_fields word.0 (decimal k ∷ []) [] word.1 behind (field_spelt behind word there)
          (lone-spelt word.1 k last))
          ∙ strip_spelt (codes " 26") rest behind given;
    })))))

numbered-words : (n : ℕ) (a : Reply) → refusal_numbered n ≡ Some a → reply_words a ≡ errno_of n ∷ decimal n ∷ []
numbered-words n a e = elim (choice_some (between 1 24 n) (Some (reply.Refused (record { 0 = n }))) _ a e) [
  | inl low ↦ ap reply_words (sym (some_same (reply.Refused (record { 0 = n })) a low.1))
  | inr more ↦ ap reply_words (sym (some_same (reply.Denied n) a (if_some (between 31 35 n) (Some (reply.Denied n)) a more).1))
]

refusal-is : (word rest : List ℕ) (a : Reply) → refusal_read word rest ≡ Some a → IsReplyOf word rest a
unfolding refusal_read
refusal-is word rest a e =
    from_bind (lone_number rest) _ a e (λ n given more.
    let read = if_some (bytes_eq word (errno_of n)) (refusal_numbered n) a more in
    record {
      words = decimal n ∷ [];
      are = numbered-words n a read.1 ∙ ap (λ w. w ∷ decimal n ∷ []) (sym (found word (errno_of n) read.0));
      spelt = lone-spelt rest n given;
    })

-- All replies

by_word : (word k rest : List ℕ) (a : Reply) (one other : Option Reply) → (one ≡ Some a → IsReplyOf k rest a)
    → (other ≡ Some a → IsReplyOf word rest a)
    → cond (bytes_eq word k) one other ≡ Some a → IsReplyOf word rest a
by_word word k rest a one other here there e = elim (choice_some (bytes_eq word k) one other a e) [
  | inl is ↦ subst (λ w. IsReplyOf w rest a) (sym (found word k is.0)) (here is.1)
  | inr more ↦ there more
]

reply-is : (word rest : List ℕ) (a : Reply) → IsNearReply a → reply_of_word word rest ≡ Some a → IsReplyOf word rest a
unfolding reply_of_word
reply-is word rest a near e =
    by_word word (codes "made") rest a _ _ (λ h. numbered-is (codes "made") (λ n. reply.Made n) (λ n. refl) rest a h)
    (by_word word (codes "done") rest a _ _ (λ h. lone-is (codes "done") reply.Done refl rest a h)
    (by_word word (codes "commit") rest a _ _ (λ h. numbered-is (codes "commit") (λ n. reply.Commit n) (λ n. refl) rest a h)
    (by_word word (codes "tested") rest a _ _ (λ h. lone-is (codes "tested") reply.Tested refl rest a h)
    (by_word word (codes "event") rest a _ _ (λ h. event-is rest a h)
    (by_word word (codes "none") rest a _ _ (λ h. lone-is (codes "none") reply.NoEvent refl rest a h)
    (by_word word ENOMEM rest a _ _ (λ h. space-is rest a h)
    (by_word word EBUSY rest a _ _ (λ h. busy-is rest a near h) (λ h. refusal-is word rest a h)))))))) e

pub reply-spelt : (bytes : List ℕ) (a : Reply) → IsNearReply a → reply_read bytes ≡ Some a → fields_to (reply_words a) [] ≡ bytes
unfolding reply_read
reply-spelt bytes a near e =
    from_bind (field_at bytes) _ a e (λ word given more.
    let r = reply-is word.0 word.1 a near more in
    ap (λ ws. fields_to ws []) r.are ∙ then_fields word.0 r.words [] word.1 bytes (field_spelt bytes word given) r.spelt)
